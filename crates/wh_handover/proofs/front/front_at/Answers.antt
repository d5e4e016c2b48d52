use Rattle.std.proofs.Common.{◌≡◌, ◌<◌, ◌∙◌, ℕ, List, take, length, refl, sym, ap, subst, arith}
use Rattle.std.proofs.lemmas.List.{take_all}
use Rattle.wh_core.specs.Steps.{Run}
use Rattle.wh_event.specs.declared.entry.Entry.{Entry}
use Rattle.wh_resume.specs.Behind.{rules_of}
use Rattle.wh_snapshot.specs.Snapshots.{AreCallers, HaveCallers, Reaches}
use Rattle.wh_handover.specs.Prefaces.{callers_had, counts_had, cut_at}
use Rattle.wh_handover.proofs.Facts.{known, snapshot_as}
use Rattle.wh_handover.proofs.Stops.{first_of_all}
use Rattle.wh_handover.proofs.front.front_at.Goals as goal

pub snapshot-requires-clause-callers : goal.snapshot-requires-clause-callers
snapshot-requires-clause-callers c =
    let r = c.args.resumed.now in
    subst AreCallers (sym c.earlier_of-earlier.ensures.callers) (known r.book.site c.args.text.now r r.preface c.requires.tells).callers_fit

pub snapshot-requires-clause-entries : goal.snapshot-requires-clause-entries
snapshot-requires-clause-entries c =
    let r = c.args.resumed.now in
    (known r.book.site c.args.text.now r r.preface c.requires.tells).entries_named

pub snapshot-requires-clause-submitted : goal.snapshot-requires-clause-submitted
snapshot-requires-clause-submitted c =
    let r = c.args.resumed.now in
    ap (λ (ns : List ℕ). length ns) c.earlier_of-earlier.ensures.callers ∙ (known r.book.site c.args.text.now r r.preface c.requires.tells).submitted

pub returns-then-count-history-clause-is : goal.returns-then-count-history-clause-is
returns-then-count-history-clause-is c =
    let r = c.args.resumed.now in
    let whole : take c.args.count r.book.history ≡ r.book.history =
    take_all c.args.count r.book.history (let many : length c.history-history.result.now ≡ length r.book.history = ap (λ (es : List Entry). length es) c.history-history.ensures.value in let all = c.if-count-history.true in omega (arith, all, many)) in (
      r.book.state,
      subst (λ (es : List Entry). Run r.book.site r.book.opening es r.book.state) (sym whole) c.history-history.ensures.run,
      snapshot_as c.earlier_of-earlier.result.callers.now (callers_had r.preface) c.earlier_of-earlier.result.counts.now (counts_had r.preface) r.book (cut_at r.book c.args.count r.book.state) c.in_ok-front.front
          c.earlier_of-earlier.ensures.callers c.earlier_of-earlier.ensures.counts refl (sym whole) c.in_ok-front.ensures.is,
      c.in_ok-front.ensures.state,
    )

pub returns-then-count-history-clause-rules : goal.returns-then-count-history-clause-rules
returns-then-count-history-clause-rules c = c.in_ok-front.ensures.rules ∙ c.rules_over-rules.ensures ∙ ap rules_of c.setting.ensures

pub snapshot_of-requires-clause-reached : goal.snapshot_of-requires-clause-reached
snapshot_of-requires-clause-reached c =
    let r = c.args.resumed.now in
    let book = cut_at r.book c.args.count c.in_ok-floor.floor.state in (
      book,
      record {
        begins = c.history-history.ensures.opening;
        run = c.in_ok-floor.ensures;
        some = c.requires.some;
        few = c.paths.ensures.few;
        clock_is = c.clock.ensures.value;
        closed_is = c.closed.ensures;
        paths_are = c.paths.ensures.value;
        slots_are = c.slots.ensures.value;
        tasks_are = c.tasks.ensures.tasks;
        history_is = ap (λ (es : List Entry). take c.args.count es) c.history-history.ensures.value;
      },
      ap (λ (ns : List ℕ). length ns) c.earlier_of-earlier.ensures.callers ∙ (known r.book.site c.args.text.now r r.preface c.requires.tells).submitted,
    )

pub snapshot_of-requires-clause-callers : goal.snapshot_of-requires-clause-callers
snapshot_of-requires-clause-callers c =
    let r = c.args.resumed.now in
    subst AreCallers (sym c.earlier_of-earlier.ensures.callers) (known r.book.site c.args.text.now r r.preface c.requires.tells).callers_fit

pub snapshot_of-requires-clause-entries : goal.snapshot_of-requires-clause-entries
snapshot_of-requires-clause-entries c =
    let r = c.args.resumed.now in
    subst (λ (es : List Entry). HaveCallers (take c.args.count es)) (sym c.history-history.ensures.value)
    (first_of_all (λ (e : Entry). e.caller < 64) r.book.history c.args.count (known r.book.site c.args.text.now r r.preface c.requires.tells).entries_named)

pub returns-clause-is : goal.returns-clause-is
returns-clause-is c =
    let r = c.args.resumed.now in
    let book = cut_at r.book c.args.count c.in_ok-floor.floor.state in
    let reaches : Reaches c.clock.result c.closed.result c.paths.result.now c.slots.result.now c.tasks.result.now.tasks (take c.args.count c.history-history.result.now) book = record {
      begins = c.history-history.ensures.opening;
      run = c.in_ok-floor.ensures;
      some = c.requires.some;
      few = c.paths.ensures.few;
      clock_is = c.clock.ensures.value;
      closed_is = c.closed.ensures;
      paths_are = c.paths.ensures.value;
      slots_are = c.slots.ensures.value;
      tasks_are = c.tasks.ensures.tasks;
      history_is = ap (λ (es : List Entry). take c.args.count es) c.history-history.ensures.value;
    } in (
      c.in_ok-floor.floor.state,
      c.in_ok-floor.ensures,
      snapshot_as c.earlier_of-earlier.result.callers.now (callers_had r.preface) c.earlier_of-earlier.result.counts.now (counts_had r.preface) book book c.in_ok-front-2.front
          c.earlier_of-earlier.ensures.callers c.earlier_of-earlier.ensures.counts refl refl (c.in_ok-front-2.ensures.is book reaches),
      c.in_ok-front-2.ensures.state book reaches,
    )
