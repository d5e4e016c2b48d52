use Rattle.std.proofs.Common.{rules, ◌≡◌, ◌∙◌, [], refl}
use Rattle.wh_session.specs.Joined.{same_records}
use Rattle.wh_session.specs.Keeping.{memory_stays}
use Rattle.wh_session.proofs.keepers.MemoryKeeper.add_more.Goals as goal

pub returns-in-Err-clause-err : goal.returns-in-Err-clause-err
returns-in-Err-clause-err c a r rest safe p order =
    let same : c.extend_from_slice.new.self.items ≡ c.args.self.now.more.items = search rules in
    memory_stays a r rest (record { log = []; more = c.args.more.now }) (record { log = c.args.self.now.log.items; more = c.extend_from_slice.new.self.items })
    (same_records (record { log = c.args.self.now.log.items; more = c.extend_from_slice.new.self.items }) (record { log = c.args.self.now.log.items; more = c.args.self.now.more.items }) refl same ∙ p)
