use Rattle.std.proofs.Common.{◌≡◌, ◌+◌, ap, ◌∙◌, get_or}
use Rattle.std.proofs.lemmas.List.{get_or_default}
use Rattle.wh_tasks.specs.CellCounts.{Tally, count_of}
use Rattle.wh_tasks.proofs.Tallies.{raised-set}
use Rattle.wh_tasks.proofs.cell_counts.CellCounts.raise.Goals as goal

pub returns-in-Some : goal.returns-in-Some
returns-in-Some c =
    let counts = c.self.inside in
    let old : Tally = record { width = counts.sides.width; height = counts.sides.height; counts = counts.counts.items } in
    let there = c.in-Some.ensures.inside in
    let more : c.index_mut.result.now + 1 ≡ count_of old c.args.cell + 1 = ap (λ k. k + 1) (c.index_mut.ensures.value ∙ get_or_default counts.counts.items c.in-Some.place c.index_mut.result.now 0 (rw c.self.invariant there.2) ∙ ap (λ place. get_or counts.counts.items place 0) there.1) in
    rw (← c.self.view_is, there.1) (raised-set old c.args.cell (c.index_mut.result.now + 1) there.0 c.self.invariant more)
