use Rattle.std.proofs.Common.{rules, ◌≡◌, ◌∙◌, [], refl}
use Rattle.wh_session.specs.Joined.{same_records}
use Rattle.wh_session.specs.Keeping.{memory_stays}
use Rattle.wh_session.proofs.keepers.MemoryKeeper.add.Goals as goal

pub returns-in-Err-clause-err : goal.returns-in-Err-clause-err
returns-in-Err-clause-err c a r rest safe p order =
    let same : c.extend_from_slice.new.self.items ≡ c.args.self.now.log.items = search rules in
    memory_stays a r rest (record { log = c.args.log.now; more = [] }) (record { log = c.extend_from_slice.new.self.items; more = c.args.self.now.more.items })
    (same_records (record { log = c.extend_from_slice.new.self.items; more = c.args.self.now.more.items }) (record { log = c.args.self.now.log.items; more = c.args.self.now.more.items }) same refl ∙ p)
