use Rattle.std.proofs.Common.{◌≡◌, ℕ, List, sym, subst, Option, None}
use Rattle.std.specs.BinaryHeap.{heap_items}
use Rattle.std.specs.List.{cons_option}
use Rattle.wh_intervals.specs.declared.entry.Entry.{Entry}
use Rattle.wh_intervals.specs.Queues.{bound_of, number_of, Pops}
use Rattle.wh_intervals.proofs.Heaps.{least_bounds, pops_from, popped_first}
use Rattle.wh_intervals.proofs.queue.Queue.pop.Goals as goal

pub returns-in-Some-clause-some : goal.returns-in-Some-clause-some
returns-in-Some-clause-some c =
    let new : List Entry = heap_items c.self.inside.heap in
    let x = c.in-Some.first in
    subst (λ (b : ℕ). Pops c.args.self.now new b c.node.result) (sym c.bound.ensures)
    (subst (λ (i : ℕ). Pops c.args.self.now new (bound_of x) i) (sym c.node.ensures)
    (subst (λ (old : List Entry). Pops old new (bound_of x) (number_of x)) c.self.view_is
    (popped_first c.self.inside.first x new c.in-Some.is c.self.invariant.1)))

pub returns-clause-some : goal.returns-clause-some
returns-clause-some c =
    let items : List Entry = heap_items c.self.inside.heap in
    let rest : List Entry = heap_items c.pop.new.self in
    let none : c.self.inside.first ≡ None = c.in_default.is in
    let new : List Entry = cons_option c.self.inside.first rest in
    let x = c.in_ok-entry.entry in
    subst (λ (b : ℕ). Pops c.args.self.now new b c.node-2.result) (sym c.bound-2.ensures)
    (subst (λ (i : ℕ). Pops c.args.self.now new (bound_of x) i) (sym c.node-2.ensures)
    (subst (λ (old : List Entry). Pops old new (bound_of x) (number_of x)) c.self.view_is
    (subst (λ (o : Option Entry). Pops (cons_option o items) (cons_option o rest) (bound_of x) (number_of x)) (sym none)
    (pops_from items rest x c.in_ok-entry.ensures.permutation (least_bounds x items (c.in_ok-entry.ensures.heap_order c.self.invariant.0).1)))))
