use Rattle.std.proofs.Common.{◌≡◌, ℕ, List, length, ap, sym, ◌∙◌, subst}
use Rattle.std.proofs.lemmas.List.{length-map}
use Rattle.std.proofs.lemmas.Option.{IfSome_then}
use Rattle.wh_tasks.specs.CellLists.{Listed, IsIn, IsLatest, IsLastBelow, NoneBelow, AreLinked, list_of}
use Rattle.wh_tasks.specs.declared.cell_lists.Linked.{Linked}
use Rattle.wh_tasks.specs.declared.cell_lists.Stop.{Stop}
use Rattle.wh_tasks.proofs.Listed.{stops_of, list_starts, last_reaches, none_reaches, IfNone_then}
use Rattle.wh_tasks.proofs.cell_lists.CellLists.first.Goals as goal
use Rattle.wh_tasks.proofs.cell_lists.CellLists.first.Goals.{After-index}

linked : (c : After-index) → AreLinked c.self.inside.sides.width c.self.inside.sides.height c.self.inside.heads.items c.deref.result.now
linked c = subst (λ (l : List Linked). AreLinked c.self.inside.sides.width c.self.inside.sides.height c.self.inside.heads.items l) (sym c.deref.ensures.value) c.self.invariant

starts : (c : After-index) → IsLatest (IsIn c.self.inside.sides.width c.self.inside.sides.height c.deref.result.now (list_of c.self.inside.sides.width c.self.inside.sides.height c.args.cell)) (length c.deref.result.now) c.index.result.now
starts c = list_starts c.self.inside.sides.width c.self.inside.sides.height c.self.inside.heads.items c.deref.result.now c.list_place.result c.index.result.now c.args.cell (linked c) c.list_place.ensures.value c.index.ensures

seen : (c : After-index) → stops_of c.deref.result.now ≡ c.args.self.now.stops
seen c = ap (λ (l : List Linked). stops_of l) c.deref.ensures.value ∙ ap (λ (l : Listed). l.stops) c.self.view_is

pub latest-requires : goal.latest-requires
latest-requires c =
    let a = (goal.at.latest-requires c).After-index in
    (c.self.inside.sides.width, c.self.inside.sides.height, (linked a).nexts, (starts a).within, (starts a).there)

pub returns-clause-some : goal.returns-clause-some
returns-clause-some c =
    let a = (goal.at.returns-clause-some c).After-index in
    let stops = c.deref.result.now in
    IfSome_then c.latest.result c.latest.ensures.some (λ k is.
    subst (λ (l : List Stop). IsLastBelow l c.args.cell (length l) k) (seen a)
    (subst (λ (n : ℕ). IsLastBelow (stops_of stops) c.args.cell n k) (sym (length-map stops (λ (s : Linked). s.stop)))
    (last_reaches c.self.inside.sides.width c.self.inside.sides.height stops c.args.cell (length stops) c.index.result.now k (starts a) is)))

pub returns-clause-none : goal.returns-clause-none
returns-clause-none c =
    let a = (goal.at.returns-clause-none c).After-index in
    let stops = c.deref.result.now in
    IfNone_then c.latest.result c.latest.ensures.none (λ none.
    subst (λ (l : List Stop). NoneBelow l c.args.cell (length l)) (seen a)
    (subst (λ (n : ℕ). NoneBelow (stops_of stops) c.args.cell n) (sym (length-map stops (λ (s : Linked). s.stop)))
    (none_reaches c.self.inside.sides.width c.self.inside.sides.height stops c.args.cell (length stops) c.index.result.now (starts a) none)))
