use Rattle.std.proofs.Common.{◌≡◌, ◌≤◌, List, length, slice_index_or, ap, sym, ◌∙◌, subst, arith}
use Rattle.std.proofs.lemmas.List.{length-map}
use Rattle.std.proofs.lemmas.Option.{IfSome_then, slice_get_within}
use Rattle.wh_tasks.specs.CellLists.{Listed, IsIn, IsLatest, IsLastBelow, NoneBelow, StandsAt, AreLinked, list_of, listed}
use Rattle.wh_tasks.specs.declared.cell_lists.Linked.{Linked}
use Rattle.wh_tasks.specs.declared.cell_lists.Stop.{Stop}
use Rattle.wh_tasks.proofs.Listed.{stops_of, list_goes_on, last_reaches, none_reaches, IfNone_then}
use Rattle.wh_tasks.proofs.cell_lists.CellLists.next.Goals as goal
use Rattle.wh_tasks.proofs.cell_lists.CellLists.next.Goals.{After-index}

linked : (c : After-index) → AreLinked c.self.inside.sides.width c.self.inside.sides.height c.self.inside.heads.items c.deref.result.now
linked c = subst (λ (l : List Linked). AreLinked c.self.inside.sides.width c.self.inside.sides.height c.self.inside.heads.items l) (sym c.deref.ensures.value) c.self.invariant

seen : (c : After-index) → stops_of c.deref.result.now ≡ c.args.self.now.stops
seen c = ap (λ (l : List Linked). stops_of l) c.deref.ensures.value ∙ ap (λ (l : Listed). l.stops) c.self.view_is

stands : (c : After-index) → StandsAt (stops_of c.deref.result.now) c.args.k c.requires.0 c.args.cell
stands c = subst (λ (l : List Stop). StandsAt l c.args.k c.requires.0 c.args.cell) (sym (seen c)) c.requires.1

goes_on : (c : After-index) → IsLatest (IsIn c.self.inside.sides.width c.self.inside.sides.height c.deref.result.now (list_of c.self.inside.sides.width c.self.inside.sides.height c.args.cell)) c.args.k c.index.result.now.next
goes_on c = list_goes_on c.self.inside.sides.width c.self.inside.sides.height c.self.inside.heads.items c.deref.result.now c.args.k c.requires.0 c.index.result.now c.args.cell (linked c) (stands c)
    (c.index.ensures ∙ ap (λ (l : List Linked). slice_index_or l c.args.k c.index.result.now) (sym c.deref.ensures.value))

pub latest-requires : goal.latest-requires
latest-requires c =
    let within = slice_get_within (stops_of c.deref.result.now) c.args.k (listed c.requires.0 c.args.cell) (stands c) in
    let same = length-map c.deref.result.now (λ (s : Linked). s.stop) in
    let below = (goes_on c).within in
    let few : c.index.result.now.next ≤ length c.deref.result.now = omega arith in
    (c.self.inside.sides.width, c.self.inside.sides.height, (linked c).nexts, few, (goes_on c).there)

pub returns-clause-some : goal.returns-clause-some
returns-clause-some c =
    let a = (goal.at.returns-clause-some c).After-index in
    IfSome_then c.latest.result c.latest.ensures.some (λ k is.
    subst (λ (l : List Stop). IsLastBelow l c.args.cell c.args.k k) (seen a)
    (last_reaches c.self.inside.sides.width c.self.inside.sides.height c.deref.result.now c.args.cell c.args.k c.index.result.now.next k (goes_on a) is))

pub returns-clause-none : goal.returns-clause-none
returns-clause-none c =
    let a = (goal.at.returns-clause-none c).After-index in
    IfNone_then c.latest.result c.latest.ensures.none (λ none.
    subst (λ (l : List Stop). NoneBelow l c.args.cell c.args.k) (seen a)
    (none_reaches c.self.inside.sides.width c.self.inside.sides.height c.deref.result.now c.args.cell c.args.k c.index.result.now.next (goes_on a) none))
