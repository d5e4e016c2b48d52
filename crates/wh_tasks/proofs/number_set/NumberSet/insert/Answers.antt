use Rattle.std.proofs.Common.{◌+◌, length, ap, ◌∙◌, arith}
use Rattle.wh_tasks.proofs.Members.{written-whole, more-fit, placed-count, inserted}
use Rattle.wh_tasks.proofs.number_set.NumberSet.insert.Goals as goal

pub swap-requires-clause-to : goal.swap-requires-clause-to
swap-requires-clause-to c =
    let s = c.self.inside in
    rw c.deref_mut.ensures.value (more-fit s.numbers.items s.places.items s.count c.args.number c.self.invariant (rw (← c.self.view_is) at c.requires.bound) (rw (← c.self.view_is) at c.requires.new))

pub invariant_of-self : goal.invariant_of-self
invariant_of-self c =
    let s = c.self.inside in
    let numbers = written-whole c.swap.new.numbers s.numbers.items s.numbers.len (c.swap.auto.numbers ∙ c.deref_mut.ensures.len) in
    let places = written-whole c.swap.new.places s.places.items s.places.len (c.swap.auto.places ∙ c.deref_mut-2.ensures.len) in
    let more = more-fit s.numbers.items s.places.items s.count c.args.number c.self.invariant (rw (← c.self.view_is) at c.requires.bound) (rw (← c.self.view_is) at c.requires.new) in
    rw (numbers, places) (placed-count c.swap.new.numbers c.swap.new.places 0 (s.count + 1) c.swap.ensures.placed
    (let each = c.swap.auto.numbers ∙ ap length c.deref_mut.ensures.value in omega arith))

pub returns-clause-members : goal.returns-clause-members
returns-clause-members c =
    let s = c.self.inside in
    let numbers = written-whole c.swap.new.numbers s.numbers.items s.numbers.len (c.swap.auto.numbers ∙ c.deref_mut.ensures.len) in
    let swapped = rw (c.deref_mut.ensures.value, c.deref_mut-2.ensures.value) at c.swap.ensures.places in
    rw (numbers, ← c.self.view_is) (inserted s.numbers.items s.places.items c.swap.new.numbers c.swap.new.places s.count c.args.number c.self.invariant c.swap.ensures.placed swapped
    (rw (← c.self.view_is) at c.requires.bound) (rw (← c.self.view_is) at c.requires.new))
