-- records in memory
use Rattle.std.proofs.Common.{◌≡◌, ◌∙◌, sym, ap}
use Rattle.wh_session.specs.Machines.{Records, nothing, joined}
use Rattle.wh_session.specs.Joined.{joined_nil, joined_assoc}

-- a front of these records was added
pub record PartOf (a r b : Records) : Type 0 where
  pub front : Records
  pub rest : Records
  pub parts : r ≡ joined front rest
  pub added : b ≡ joined a front

pub memory_none : (a : Records) → a ≡ joined a nothing
memory_none a = sym (joined_nil a)

pub memory_both : (a b c r s : Records) → b ≡ joined a r → c ≡ joined b s → c ≡ joined a (joined r s)
memory_both a b c r s p q = q ∙ ap (λ (x : Records). joined x s) p ∙ joined_assoc a r s

-- a call that failed and added nothing left what was added before
pub memory_stays : (a r rest piece b : Records) → b ≡ joined a r → PartOf a (joined (joined r piece) rest) b
memory_stays a r rest piece b p = record { front = r; rest = joined piece rest; parts = joined_assoc r piece rest; added = p }
