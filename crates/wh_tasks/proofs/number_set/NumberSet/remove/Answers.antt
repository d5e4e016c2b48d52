use Rattle.std.proofs.Common.{◌-◌, length, ap, ◌∙◌, arith}
use Rattle.wh_tasks.proofs.Members.{written-whole, placed-count, removed, some-member}
use Rattle.wh_tasks.proofs.number_set.NumberSet.remove.Goals as goal

pub invariant_of-self : goal.invariant_of-self
invariant_of-self c =
    let s = c.self.inside in
    let numbers = written-whole c.swap.new.numbers s.numbers.items s.numbers.len (c.swap.auto.numbers ∙ c.deref_mut.ensures.len) in
    let places = written-whole c.swap.new.places s.places.items s.places.len (c.swap.auto.places ∙ c.deref_mut-2.ensures.len) in
    rw (numbers, places) (placed-count c.swap.new.numbers c.swap.new.places 0 (s.count - 1) c.swap.ensures.placed
    (let each = c.swap.auto.numbers ∙ ap length c.deref_mut.ensures.value in let within = c.self.invariant.within in omega arith))

pub returns-clause-members : goal.returns-clause-members
returns-clause-members c =
    let s = c.self.inside in
    let numbers = written-whole c.swap.new.numbers s.numbers.items s.numbers.len (c.swap.auto.numbers ∙ c.deref_mut.ensures.len) in
    let swapped = rw (c.deref_mut.ensures.value, c.deref_mut-2.ensures.value) at c.swap.ensures.places in
    let has = rw (← c.self.view_is) at c.requires in
    rw (numbers, ← c.self.view_is) (removed s.numbers.items s.places.items c.swap.new.numbers c.swap.new.places s.count (s.count - 1) c.args.number (some-member s.numbers.items s.count c.args.number has)
    c.self.invariant c.swap.ensures.placed swapped has)
