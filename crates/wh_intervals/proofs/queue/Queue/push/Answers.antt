use Rattle.std.proofs.Common.{ℕ, ◌≤◌, ◌∷◌, List, sym, ap, subst, Option, IfSome, rules}
use Rattle.std.specs.BinaryHeap.{heap_items}
use Rattle.std.specs.List.{cons_option}
use Rattle.std.specs.List.Sorted.{IsPermutation}
use Rattle.std.proofs.lemmas.List.Elements.{All-cons}
use Rattle.std.proofs.lemmas.List.Sorted.{All-permutation, IsPermutation-refl}
use Rattle.wh_intervals.specs.declared.entry.Entry.{Entry}
use Rattle.wh_intervals.specs.declared.queue.Queue.TheInside.{Inside}
use Rattle.wh_intervals.specs.Queues.{bound_of, number_of, Pushes}
use Rattle.wh_intervals.proofs.Heaps.{before_more, pushed_behind, pushed_first, first_of}
use Rattle.wh_intervals.proofs.queue.Queue.push.Goals.{in-Some+in_ok-push-2, in_default}
use Rattle.wh_intervals.proofs.queue.Queue.push.Goals as goal

pub invariant_of-self-then-not-is_first : goal.invariant_of-self-then-not-is_first
invariant_of-self-then-not-is_first c = (
  c.in_ok-push.ensures.heap_order c.self.invariant.0,
  before_more c.self.inside.first (heap_items c.self.inside.heap) (heap_items c.push.new.self) c.of-entry.result c.in_ok-push.ensures.permutation c.self.invariant.1 (c.if-not-is_first.ensures.behind (search rules)),
)

pub returns-then-not-is_first : goal.returns-then-not-is_first
returns-then-not-is_first c =
    let first = c.self.inside.first in
    let new : List Entry = cons_option first (heap_items c.push.new.self) in
    let x = c.of-entry.result in
    subst (λ (b : ℕ). Pushes c.args.self.now new b c.args.node) c.of-entry.ensures.bound
    (subst (λ (i : ℕ). Pushes c.args.self.now new (bound_of x) i) c.of-entry.ensures.node
    (subst (λ (old : List Entry). Pushes old new (bound_of x) (number_of x)) c.self.view_is
    (pushed_behind first (heap_items c.self.inside.heap) (heap_items c.push.new.self) x c.in_ok-push.ensures.permutation)))

pub invariant_of-self-2 : goal.invariant_of-self-2
invariant_of-self-2 c =
    let x = c.of-entry.result in
    let old : List Entry = heap_items c.self.inside.heap in
    let before = c.if-not-is_first.ensures.before (search rules) in
    elim c.match-self.branch [
      | in-Some+in_ok-push-2 w ↦ (let f = w.in-Some.first in
          let new : List Entry = heap_items w.push-in-Some.new.self in
          let ahead : bound_of x ≤ bound_of f = subst (λ (o : Option Entry). IfSome o (λ e. bound_of x ≤ bound_of e)) w.in-Some.is (c.if-not-is_first.ensures.ahead (search rules)) in
          first_of _ x new (heap_items c.match-self.self-inside.heap) (ap (λ (q : Inside). heap_items q.heap) w.self-inside-is) (w.in_ok-push-2.ensures.heap_order c.self.invariant.0)
          (All-permutation (λ y. bound_of x ≤ bound_of y) (f ∷ old) new w.in_ok-push-2.ensures.permutation (All-cons (λ y. bound_of x ≤ bound_of y) f old ahead before)))
      | in_default w ↦ first_of _ x old (heap_items c.match-self.self-inside.heap) (ap (λ (q : Inside). heap_items q.heap) w.self-inside-is) c.self.invariant.0 before
    ]

pub returns : goal.returns
returns c =
    let first = c.self.inside.first in
    let old : List Entry = heap_items c.self.inside.heap in
    let new : List Entry = heap_items c.match-self.self-inside.heap in
    let x = c.of-entry.result in
    let same : IsPermutation (cons_option first old) new = elim c.match-self.branch [
      | in-Some+in_ok-push-2 w ↦ subst (λ (xs : List Entry). IsPermutation (cons_option first old) xs) (sym (ap (λ (q : Inside). heap_items q.heap) w.self-inside-is))
          (subst (λ (o : Option Entry). IsPermutation (cons_option o old) (heap_items w.push-in-Some.new.self)) (sym w.in-Some.is) w.in_ok-push-2.ensures.permutation)
      | in_default w ↦ subst (λ (xs : List Entry). IsPermutation (cons_option first old) xs) (sym (ap (λ (q : Inside). heap_items q.heap) w.self-inside-is))
          (subst (λ (o : Option Entry). IsPermutation (cons_option o old) old) (sym w.in_default.is) (IsPermutation-refl old))
    ] in
    subst (λ (b : ℕ). Pushes c.args.self.now (x ∷ new) b c.args.node) c.of-entry.ensures.bound
    (subst (λ (i : ℕ). Pushes c.args.self.now (x ∷ new) (bound_of x) i) c.of-entry.ensures.node
    (subst (λ (before : List Entry). Pushes before (x ∷ new) (bound_of x) (number_of x)) c.self.view_is
    (pushed_first first old new x same)))
