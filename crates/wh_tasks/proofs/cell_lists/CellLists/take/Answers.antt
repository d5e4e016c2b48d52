use Rattle.std.proofs.Common.{◌≡◌, List, length, ap, ◌∙◌, arith}
use Rattle.std.specs.Prelude.{slice_set}
use Rattle.std.proofs.lemmas.Option.{slice_get_within}
use Rattle.wh_tasks.specs.CellLists.{Listed, linked_at, listed, taken_out}
use Rattle.wh_tasks.specs.declared.cell_lists.Linked.{Linked}
use Rattle.wh_tasks.specs.declared.cell_lists.Stop.{Stop}
use Rattle.wh_tasks.proofs.Lists.{written_back}
use Rattle.wh_tasks.proofs.Listed.{stops_of, taken_one}
use Rattle.wh_tasks.proofs.cell_lists.CellLists.take.Goals as goal

pub returns-clause-stops : goal.returns-clause-stops
returns-clause-stops c =
    let stops = c.self.inside.stops in
    let new = c.unlink.new.stops in
    let was = c.deref_mut-2.result.now in
    let old = c.args.self.now.stops in
    let out = taken_out (linked_at was c.args.k).stop in
    let size : length new ≡ length stops.items = (let a = c.unlink.auto.stops in let b = c.deref_mut-2.ensures.len in let d = stops.ok.0 in omega arith) in
    let all = stops.ok.0 in
    let same : stops_of was ≡ old = ap (λ (l : List Linked). stops_of l) c.deref_mut-2.ensures.value ∙ ap (λ (l : Listed). l.stops) c.self.view_is in
    taken_one old _ c.args.k (linked_at was c.args.k).stop.cell (slice_get_within old c.args.k (listed c.requires.0 c.requires.1) c.requires.2)
    (ap (λ (l : List Linked). stops_of l) (written_back new stops.items stops.len size (omega arith)) ∙ c.unlink.ensures.stops ∙ ap (λ (l : List Stop). slice_set l c.args.k out) same)
