-- a journal that keeps the log's records of a session
use Rattle.std.proofs.Common.{◌≡◌, ◌∙◌, ℕ, Bool, true, List, Option, refl}
use Rattle.std.specs.Io.KnownBytes.{Appends, Keeps}
use Rattle.std.proofs.KnownBytes.{Appends-nil, Appends-trans, Keeps-refl, Keeps-trans}
use Rattle.wh_lines.specs.Output.{WritesFront}
use Rattle.wh_session.specs.Machines.{Records, nothing, joined}

-- the name of a reference to a journal, what that holds, what of it survives a kill, and whether a call of it failed
pub record Held : Type 0 where
  pub name : ℕ
  pub contents : Option (List ℕ)
  pub synced : Option (List ℕ)
  pub failed : Bool

-- all that it holds survives a kill
abbrev pub IsSafe : Held → Type 0
IsSafe held = held.synced ≡ held.contents

-- the log's records were appended
pub record Adds (old : Held) (records : Records) (new : Held) : Type 0 where
  pub name_is : new.name ≡ old.name
  pub appends : Appends old.contents new.contents records.log
  pub stays : Keeps old.synced new.synced

-- and all survives a kill
pub record KeepsAll (old : Held) (records : Records) (new : Held) : Type 0 where
  pub name_is : new.name ≡ old.name
  pub appends : Appends old.contents new.contents records.log
  pub safe : IsSafe new

-- The journal failed: a front of them was appended, and what survived a kill does so still.
pub record KeepsFront (old : Held) (records : Records) (new : Held) : Type 0 where
  pub name_is : new.name ≡ old.name
  pub front : WritesFront old.contents new.contents records.log
  pub stays : Keeps old.synced new.synced
  pub failed : new.failed ≡ true

pub adds_none : (a : Held) → Adds a nothing a
adds_none a = record { name_is = refl; appends = Appends-nil a.contents; stays = Keeps-refl a.synced }

pub adds_both : (a b c : Held) (r s : Records) → Adds a r b → Adds b s c → Adds a (joined r s) c
adds_both a b c r s p q = record {
  name_is = q.name_is ∙ p.name_is;
  appends = Appends-trans a.contents b.contents c.contents r.log s.log p.appends q.appends;
  stays = Keeps-trans a.synced b.synced c.synced p.stays q.stays;
}

pub kept_safe : (a : Held) (r : Records) (b : Held) → KeepsAll a r b → IsSafe b
kept_safe a r b p = p.safe

pub keeps_none : (a : Held) → IsSafe a → KeepsAll a nothing a
keeps_none a safe = record { name_is = refl; appends = Appends-nil a.contents; safe = safe }

pub keeps_both : (a b c : Held) (r s : Records) → KeepsAll a r b → KeepsAll b s c → KeepsAll a (joined r s) c
keeps_both a b c r s p q = record {
  name_is = q.name_is ∙ p.name_is;
  appends = Appends-trans a.contents b.contents c.contents r.log s.log p.appends q.appends;
  safe = q.safe;
}
