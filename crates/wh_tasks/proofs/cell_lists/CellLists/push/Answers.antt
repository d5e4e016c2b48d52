use Rattle.std.proofs.Common.{◌≡◌, ℕ, suc, ◌+◌, List, [], ◌∷◌, ◌++◌, map, refl, ap, sym, ◌∙◌, subst, arith}
use Rattle.std.proofs.Math.ListN.{set}
use Rattle.wh_tasks.specs.CellLists.{Listed, AreLinked, listed}
use Rattle.wh_tasks.specs.declared.cell_lists.Linked.{Linked}
use Rattle.wh_tasks.proofs.Lists.{linked_push, stops_push, written_back}
use Rattle.wh_tasks.proofs.cell_lists.CellLists.push.Goals as goal
use Rattle.wh_tasks.proofs.cell_lists.CellLists.push.Goals.{After-push_reserved}

abbrev new : After-push_reserved → Linked
new c = record { stop = record { task = c.args.task + 1; cell = c.args.cell }; next = c.index-next.result.now; before = 0 }

-- what is there in the end
items : (c : After-push_reserved) → c.push_reserved.new.self.items ≡ c.set_before.new.stops ++ new c ∷ []
items c =
    let size = c.set_before.ensures.size in
    let same = c.deref_mut.ensures.len in
    let all = c.self.inside.stops.ok.0 in
    c.push_reserved.ensures.items ∙ ap (λ (l : List Linked). l ++ new c ∷ []) (written_back c.set_before.new.stops c.self.inside.stops.items c.self.inside.stops.len (omega arith) (omega arith))

pub invariant_of-self : goal.invariant_of-self
invariant_of-self c =
    let a = (goal.at.invariant_of-self c).After-push_reserved in
    let s = c.self.inside in
    let place = c.list_place-place.result in
    let number = c.len.result in
    subst (λ (l : List Linked). AreLinked s.sides.width s.sides.height (set s.heads.items place (number + 1)) l) (sym (items a))
    (linked_push s.sides.width s.sides.height s.heads.items s.stops.items c.deref_mut.result.now c.set_before.new.stops (new a) place number c.self.invariant c.deref_mut.ensures.value
    (omega (arith, c.len.ensures, s.stops.ok.0)) c.list_place-place.ensures.value (omega arith) c.index-next.ensures refl c.set_before.ensures)

pub returns-clause-stops : goal.returns-clause-stops
returns-clause-stops c =
    let a = (goal.at.returns-clause-stops c).After-push_reserved in
    let is : (new a).stop ≡ listed c.args.task c.args.cell = ap (λ (n : ℕ). record { task = n; cell = c.args.cell }) (let e : c.args.task + 1 ≡ suc c.args.task = omega arith in e) in
    ap (λ (l : List Linked). map (λ (s : Linked). s.stop) l) (items a)
    ∙ stops_push c.self.inside.stops.items c.deref_mut.result.now c.set_before.new.stops (new a) c.args.task c.index-next.result.now (c.len.result + 1) c.args.cell c.deref_mut.ensures.value c.set_before.ensures is
    ∙ ap (λ (l : Listed). l.stops ++ listed c.args.task c.args.cell ∷ []) c.self.view_is
