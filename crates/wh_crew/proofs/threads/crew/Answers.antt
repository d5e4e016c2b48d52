use Rattle.std.proofs.Common.{◌≡◌, List, length, sym, subst, ◌∙◌}
use Rattle.std.specs.List.{All}
use Rattle.wh_desk.specs.Lists.{Received, entries_of}
use Rattle.wh_desk.specs.Calls.{AllBegin, InOrder}
use Rattle.wh_crew.specs.declared.worker.Missed.{Missed}
use Rattle.wh_crew.specs.Work.{AllWorked, MissedWithCause}
use Rattle.wh_crew.proofs.Crews.{ended_order, all_worked, with_cause}
use Rattle.wh_crew.proofs.threads.crew.Goals as goal

pub finish-requires : goal.finish-requires
finish-requires g c =
    subst (λ (l : List Received). InOrder g.N.DeskName.callers l) (sym c.take_apart-ended.ensures.passes)
    (ended_order g.P.Plans.fits_map g.P.Plans.slot_count g.N.DeskName.origin.site.grid (length g.N.DeskName.cells) (λ r. r.pass) (λ r. r.missed) c.args.works.items c.args.passes.items c.in-Ok-run_all.reports.items g.N.DeskName.callers c.requires.passes c.requires.works c.in-Ok-run_all.ensures.count c.in-Ok-run_all.ensures.reported)

pub returns-then-none_other-clause-workers : goal.returns-then-none_other-clause-workers
returns-then-none_other-clause-workers g c =
    let history = c.in-Ok-finish.history.warehouse.book.history in
    let lists = subst (λ (l : List Received). All (λ p. p.list ≡ entries_of history p.caller) l) c.take_apart-ended.ensures.passes c.in-Ok-finish.ensures.lists in
    let begin = subst (λ (l : List Received). AllBegin history l) c.take_apart-ended.ensures.passes c.in-Ok-finish.ensures.begin in
    subst (λ l. AllWorked g.P.Plans.fits_map g.P.Plans.slot_count g.N.DeskName.origin.site.grid (length g.N.DeskName.cells) c.args.works.items c.args.passes.items history l) (sym c.take_apart-ended.ensures.missed)
    (all_worked g.P.Plans.fits_map g.P.Plans.slot_count g.N.DeskName.origin.site.grid (length g.N.DeskName.cells) (λ r. r.pass) (λ r. r.missed) c.args.works.items c.args.passes.items c.in-Ok-run_all.reports.items g.N.DeskName.callers history c.requires.passes c.requires.works c.in-Ok-run_all.ensures.count c.in-Ok-run_all.ensures.reported lists begin)

pub returns-then-none_other-clause-cause : goal.returns-then-none_other-clause-cause
returns-then-none_other-clause-cause g c =
    let history = c.in-Ok-finish.history.warehouse.book.history in
    let cells = length g.N.DeskName.cells in
    let begin = subst (λ (l : List Received). AllBegin history l) c.take_apart-ended.ensures.passes c.in-Ok-finish.ensures.begin in
    let none = subst (λ (l : List Missed). All (λ n. n.other ≡ 0) l) (c.as_slice.ensures.value ∙ c.take_apart-ended.ensures.missed) (c.none_other.ensures c.if-none_other.true) in
    subst (λ (l : List Missed). MissedWithCause cells history l) (sym c.take_apart-ended.ensures.missed)
    (with_cause g.P.Plans.fits_map g.P.Plans.slot_count g.N.DeskName.origin.site.grid cells (λ r. r.pass) (λ r. r.missed) c.args.works.items c.args.passes.items c.in-Ok-run_all.reports.items history c.requires.works c.in-Ok-run_all.ensures.count c.in-Ok-run_all.ensures.reported begin c.in-Ok-finish.ensures.within none)
