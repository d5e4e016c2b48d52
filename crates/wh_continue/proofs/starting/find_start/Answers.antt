use Rattle.std.proofs.Common.{◌∙◌, ap}
use Rattle.wh_continue.specs.Starting.{first_lines}
use Rattle.wh_continue.proofs.Found.{file_goes_on, file_is_bad, file_is_flawed, file_is_unbegun, file_names_other, resumed_lines, resumed_slots}
use Rattle.wh_continue.proofs.starting.find_start.Goals as goal

pub returns-in-Bad-clause-fault : goal.returns-in-Bad-clause-fault
returns-in-Bad-clause-fault g c =
    file_is_bad c.args.setting c.args.slots.items c.as_slice-2.result.now (g.L.Journal.contents c.args.file.now)
    (c.as_slice-2.ensures.value ∙ c.in_ok-begun.ensures ∙ ap first_lines c.as_slice.ensures.value)
    c.in-Ok.found c.in-Bad.line c.in-Bad.bytes c.in-Ok.ensures.told c.in-Bad.is

pub returns-in-Flawed-clause-fault : goal.returns-in-Flawed-clause-fault
returns-in-Flawed-clause-fault g c =
    file_is_flawed c.args.setting c.args.slots.items c.as_slice-2.result.now (g.L.Journal.contents c.args.file.now)
    (c.as_slice-2.ensures.value ∙ c.in_ok-begun.ensures ∙ ap first_lines c.as_slice.ensures.value)
    c.in-Ok.found c.in-Flawed.line c.in-Flawed.reason c.in-Ok.ensures.told c.in-Flawed.is

pub returns-in_ok-begin-in-Unopened-clause-ok : goal.returns-in_ok-begin-in-Unopened-clause-ok
returns-in_ok-begin-in-Unopened-clause-ok g c =
    file_is_unbegun c.args.setting c.args.slots.items c.as_slice-2.result.now (g.L.Journal.contents c.args.file.now)
    (c.as_slice-2.ensures.value ∙ c.in_ok-begun.ensures ∙ ap first_lines c.as_slice.ensures.value)
    c.in-Ok.found c.in-Unopened.setting c.in_ok-begin-in-Unopened.field-0 c.in-Ok.ensures.told c.in-Unopened.is c.in_ok-begin-in-Unopened.ensures.book c.in_ok-begin-in-Unopened.ensures.bytes
    c.in_ok-begin-in-Unopened.ensures.preface c.in_ok-begin-in-Unopened.ensures.before

pub go_on-requires : goal.go_on-requires
go_on-requires g c =
    record {
      slots = resumed_slots c.args.setting c.args.slots.items c.as_slice-2.result.now (g.L.Journal.contents c.args.file.now)
          (c.as_slice-2.ensures.value ∙ c.in_ok-begun.ensures ∙ ap first_lines c.as_slice.ensures.value)
          c.in-Ok.found c.in-Resumed.resumed c.in-Ok.ensures.told c.in-Resumed.is;
      few = resumed_lines c.args.setting c.args.slots.items c.as_slice-2.result.now (g.L.Journal.contents c.args.file.now)
          (c.as_slice-2.ensures.value ∙ c.in_ok-begun.ensures ∙ ap first_lines c.as_slice.ensures.value)
          c.in-Ok.found c.in-Resumed.resumed c.in-Ok.ensures.told c.in-Resumed.is;
    }

pub returns-in-Resumed-clause-ok : goal.returns-in-Resumed-clause-ok
returns-in-Resumed-clause-ok g c =
    file_goes_on c.args.setting c.args.slots.items c.as_slice-2.result.now (g.L.Journal.contents c.args.file.now)
    (c.as_slice-2.ensures.value ∙ c.in_ok-begun.ensures ∙ ap first_lines c.as_slice.ensures.value)
    c.in-Ok.found c.in-Resumed.resumed c.in-Ok.ensures.told c.in-Resumed.is c.go_on.result c.go_on.ensures.book c.go_on.ensures.bytes c.go_on.ensures.version
    c.go_on.ensures.preface c.go_on.ensures.before c.go_on.ensures.few

pub returns-in-Resumed-clause-fault : goal.returns-in-Resumed-clause-fault
returns-in-Resumed-clause-fault g c =
    file_names_other c.args.setting c.args.slots.items c.as_slice-2.result.now (g.L.Journal.contents c.args.file.now)
    (c.as_slice-2.ensures.value ∙ c.in_ok-begun.ensures ∙ ap first_lines c.as_slice.ensures.value)
    c.in-Ok.found c.in-Resumed.resumed c.in-Ok.ensures.told c.in-Resumed.is c.go_on.result c.go_on.ensures.fault
