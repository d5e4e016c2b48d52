use Rattle.std.proofs.Common.{◌≡◌, ap, false, length, rules, ◌∙◌}
use Rattle.wh_book.proofs.Kept.{watched-opened, opening-at}
use Rattle.wh_book.proofs.book.Book.open.Goals as goal

pub invariant_of-result : goal.invariant_of-result
invariant_of-result c =
    watched-opened c.args.setting c.args.clock c.args.slots.items c.in_ok-first_slots.first_slots.items c.new.result.items c.in_ok-floor.floor.state false
    c.agents-agents.ensures.layout c.requires.clock c.requires.seats (search rules) c.new.ensures.items (search rules)

pub returns-clause-opens : goal.returns-clause-opens
returns-clause-opens c =
    let same : c.in_ok-first_slots.first_slots.items ≡ c.args.slots.items = search rules in
    opening-at c.args.setting c.args.clock c.in_ok-first_slots.first_slots.items c.agents-agents.ensures.layout c.requires.clock (ap length same ∙ c.requires.seats)
