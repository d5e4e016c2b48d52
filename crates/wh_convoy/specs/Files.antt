-- the log and the file of arrivals, as they keep the records of a session
use Rattle.std.proofs.Common.{◌≡◌, ◌∙◌, ℕ, Bool, true, false, List, [], ◌∷◌, ◌++◌, Option, refl, ap}
use Rattle.std.specs.Prelude.{◌⊎◌}
use Rattle.std.specs.Io.KnownBytes.{Appends, Keeps}
use Rattle.std.proofs.KnownBytes.{Appends-nil, Appends-trans, Keeps-refl, Keeps-trans}
use Rattle.wh_session.specs.Machines.{Records, nothing, joined}
use Rattle.wh_convoy.specs.Convoys.{Held, UnsettlesFiles}

-- the name of a reference to a journal, what that holds, what of it was synced, whether a call of it failed, and whether something was
-- appended since the last sync
pub record File : Type 0 where
  pub name : ℕ
  pub contents : Option (List ℕ)
  pub synced : Option (List ℕ)
  pub failed : Bool
  pub waits : Bool

pub record Files : Type 0 where
  pub log : File
  pub arrivals : File

abbrev pub stood : Files → Held
stood files = record { log = files.log.contents; arrivals = files.arrivals.contents }

abbrev pub safe : Files → Held
safe files = record { log = files.log.synced; arrivals = files.arrivals.synced }

-- all of a file was synced, unless something was appended since
abbrev pub IsClean : File → Type 0
IsClean file = file.waits ≡ false → file.synced ≡ file.contents

-- nothing waits in the log while something does in the file of arrivals
abbrev pub IsInOrder : Files → Type 0
IsInOrder files = files.arrivals.waits ≡ true → files.log.waits ≡ false

pub record IsSafe (files : Files) : Type 0 where
  pub log : files.log.synced ≡ files.log.contents
  pub arrivals : files.arrivals.synced ≡ files.arrivals.contents
  pub none_waits : files.arrivals.waits ≡ false

pub record AreSame (old new : Files) : Type 0 where
  pub log : new.log.name ≡ old.log.name
  pub arrivals : new.arrivals.name ≡ old.arrivals.name

-- nothing was added that rests on the log
pub record AddsLog (old : Files) (records : Records) (new : Files) : Type 0 where
  pub none : records.more ≡ []
  pub before : old.arrivals.waits ≡ false
  pub log_stays : Keeps old.log.synced new.log.synced
  pub arrivals_stay : new.arrivals.contents ≡ old.arrivals.contents
  pub arrivals_synced : new.arrivals.synced ≡ old.arrivals.synced

-- records were added behind what the files held
pub record Adds (old : Files) (records : Records) (new : Files) : Type 0 where
  pub same : AreSame old new
  pub log : Appends old.log.contents new.log.contents records.log
  pub arrivals : Appends old.arrivals.contents new.arrivals.contents records.more
  pub log_clean : IsClean old.log → IsClean new.log
  pub arrivals_clean : IsClean old.arrivals → IsClean new.arrivals
  pub arrivals_stay : Keeps old.arrivals.synced new.arrivals.synced
  pub in_order : IsInOrder old → IsInOrder new
  pub none_more : records.more ≡ [] → new.arrivals.waits ≡ old.arrivals.waits
  pub log_alone : new.arrivals.waits ≡ false → AddsLog old records new

-- and all was synced
pub record KeepsBoth (old : Files) (records : Records) (new : Files) : Type 0 where
  pub same : AreSame old new
  pub log : Appends old.log.contents new.log.contents records.log
  pub arrivals : Appends old.arrivals.contents new.arrivals.contents records.more
  pub safe_after : IsSafe new

-- a file failed
pub record Leaves (old : Files) (records : Records) (new : Files) : Type 0 where
  pub same : AreSame old new
  pub cut : UnsettlesFiles records.log records.more (stood old) (stood new) (safe new)
  pub failed : (new.log.failed ≡ true) ⊎ (new.arrivals.failed ≡ true)

pub same_both : (a b c : Files) → AreSame a b → AreSame b c → AreSame a c
same_both a b c p q = record { log = q.log ∙ p.log; arrivals = q.arrivals ∙ p.arrivals }

pub adds_none : (a : Files) → Adds a nothing a
adds_none a = record {
  same = record { log = refl; arrivals = refl };
  log = Appends-nil a.log.contents;
  arrivals = Appends-nil a.arrivals.contents;
  log_clean = λ p. p;
  arrivals_clean = λ p. p;
  arrivals_stay = Keeps-refl a.arrivals.synced;
  in_order = λ p. p;
  none_more = λ p. refl;
  log_alone = λ e. record { none = refl; before = e; log_stays = Keeps-refl a.log.synced; arrivals_stay = refl; arrivals_synced = refl };
}

none_both : (a b : List ℕ) → a ≡ [] → b ≡ [] → a ++ b ≡ []
none_both a b p q = ap (λ (l : List ℕ). l ++ b) p ∙ q

first_none : (a b : List ℕ) → a ++ b ≡ [] → a ≡ []
first_none [] b e = refl
first_none (x ∷ a) b e = cc

last_none : (a b : List ℕ) → a ++ b ≡ [] → b ≡ []
last_none [] b e = e
last_none (x ∷ a) b e = cc

pub adds_both : (a b c : Files) (r s : Records) → Adds a r b → Adds b s c → Adds a (joined r s) c
adds_both a b c r s p q = record {
  same = same_both a b c p.same q.same;
  log = Appends-trans a.log.contents b.log.contents c.log.contents r.log s.log p.log q.log;
  arrivals = Appends-trans a.arrivals.contents b.arrivals.contents c.arrivals.contents r.more s.more p.arrivals q.arrivals;
  log_clean = λ h. q.log_clean (p.log_clean h);
  arrivals_clean = λ h. q.arrivals_clean (p.arrivals_clean h);
  arrivals_stay = Keeps-trans a.arrivals.synced b.arrivals.synced c.arrivals.synced p.arrivals_stay q.arrivals_stay;
  in_order = λ h. q.in_order (p.in_order h);
  none_more = λ e. q.none_more (last_none r.more s.more e) ∙ p.none_more (first_none r.more s.more e);
  log_alone = λ e. (
      let second = q.log_alone e in
      let first = p.log_alone second.before in
      record {
        none = none_both r.more s.more first.none second.none;
        before = first.before;
        log_stays = Keeps-trans a.log.synced b.log.synced c.log.synced first.log_stays second.log_stays;
        arrivals_stay = second.arrivals_stay ∙ first.arrivals_stay;
        arrivals_synced = second.arrivals_synced ∙ first.arrivals_synced;
      });
}

pub kept_safe : (a : Files) (r : Records) (b : Files) → KeepsBoth a r b → IsSafe b
kept_safe a r b p = p.safe_after

pub keeps_none : (a : Files) → IsSafe a → KeepsBoth a nothing a
keeps_none a safe_now = record {
  same = record { log = refl; arrivals = refl };
  log = Appends-nil a.log.contents;
  arrivals = Appends-nil a.arrivals.contents;
  safe_after = safe_now;
}

pub keeps_both : (a b c : Files) (r s : Records) → KeepsBoth a r b → KeepsBoth b s c → KeepsBoth a (joined r s) c
keeps_both a b c r s p q = record {
  same = same_both a b c p.same q.same;
  log = Appends-trans a.log.contents b.log.contents c.log.contents r.log s.log p.log q.log;
  arrivals = Appends-trans a.arrivals.contents b.arrivals.contents c.arrivals.contents r.more s.more p.arrivals q.arrivals;
  safe_after = q.safe_after;
}
