-- the log and the file of arrivals, as records are added to them
use Rattle.std.proofs.Common.{◌≡◌, ◌≢◌, ◌∙◌, ℕ, Bool, true, false, List, [], ◌++◌, Option, refl, sym, subst, ap, inl, inr, append-nil}
use Rattle.std.specs.Io.KnownBytes.{Appends, Keeps}
use Rattle.std.proofs.KnownBytes.{Appends-nil, Appends-kept, Keeps-refl, Keeps-trans}
use Rattle.wh_lines.specs.Output.{WritesFront}
use Rattle.wh_lines.proofs.Written.{front_all, front_kept, in_first, in_second}
use Rattle.wh_session.specs.Machines.{Records, joined}
use Rattle.wh_convoy.specs.Files.{File, Files, IsClean, IsSafe, AreSame, Adds, KeepsBoth, Leaves, same_both}

not_true : (x : Bool) → (x ≡ true → ⊥) → x ≡ false
not_true true h = absurd (h refl)
not_true false h = refl

clash : (x : Bool) → x ≡ true → x ≡ false → ⊥
clash x p q = (let bad : true ≡ false = sym p ∙ q in cc)

pub piece_added : (a b : Files) (piece : List ℕ) → AreSame a b → Appends a.log.contents b.log.contents piece → Keeps a.log.synced b.log.synced → b.log.waits ≡ true → b.arrivals ≡ a.arrivals → a.arrivals.waits ≡ false → Adds a (record { log = piece; more = [] }) b
piece_added a b piece same appends keeps waits e quiet = record {
  same = same;
  log = appends;
  arrivals = subst (λ (f : File). Appends a.arrivals.contents f.contents []) (sym e) (Appends-nil a.arrivals.contents);
  log_clean = λ h w. absurd (clash b.log.waits waits w);
  arrivals_clean = λ h. subst (λ (f : File). IsClean f) (sym e) h;
  arrivals_stay = subst (λ (f : File). Keeps a.arrivals.synced f.synced) (sym e) (Keeps-refl a.arrivals.synced);
  in_order = λ h w. absurd (clash b.arrivals.waits w (ap (λ (f : File). f.waits) e ∙ quiet));
  none_more = λ _. ap (λ (f : File). f.waits) e;
  log_alone = λ _. record { none = refl; before = quiet; log_stays = keeps; arrivals_stay = ap (λ (f : File). f.contents) e; arrivals_synced = ap (λ (f : File). f.synced) e };
}

pub more_added : (a b : Files) (piece : List ℕ) → piece ≢ [] → AreSame a b → Keeps a.log.contents b.log.contents → (IsClean a.log → b.log.synced ≡ b.log.contents) → b.log.waits ≡ false →
    Appends a.arrivals.contents b.arrivals.contents piece → Keeps a.arrivals.synced b.arrivals.synced → b.arrivals.waits ≡ true → Adds a (record { log = []; more = piece }) b
more_added a b piece some same kept clean none appends keeps waits = record {
  same = same;
  log = Appends-kept a.log.contents a.log.contents b.log.contents [] (Appends-nil a.log.contents) kept;
  arrivals = appends;
  log_clean = λ h _. clean h;
  arrivals_clean = λ h w. absurd (clash b.arrivals.waits waits w);
  arrivals_stay = keeps;
  in_order = λ h w. none;
  none_more = λ e. absurd (some e);
  log_alone = λ w. absurd (clash b.arrivals.waits waits w);
}

-- nothing can wait in the file of arrivals before something that rests on the log was added
pub opens : (a b : Files) (r : Records) → IsSafe a → Adds a r b → r.more ≡ [] → b.arrivals.waits ≡ false
opens a b r safe p e = p.none_more e ∙ safe.none_waits

arrivals_there : (a b c : Files) → IsSafe a → b.arrivals.synced ≡ a.arrivals.synced → c.arrivals ≡ b.arrivals → Keeps a.arrivals.contents c.arrivals.synced
arrivals_there a b c safe same e = subst (λ (s : Option (List ℕ)). Keeps a.arrivals.contents s) (sym (ap (λ (f : File). f.synced) e ∙ same ∙ safe.arrivals)) (Keeps-refl a.arrivals.contents)

-- a piece was not appended to its end
pub piece_failed : (a b c : Files) (r rest : Records) (piece : List ℕ) → IsSafe a → Adds a r b → b.arrivals.waits ≡ false → AreSame b c → WritesFront b.log.contents c.log.contents piece → Keeps b.log.synced c.log.synced →
    c.arrivals ≡ b.arrivals → c.log.failed ≡ true → Leaves a (joined (joined r (record { log = piece; more = [] })) rest) c
piece_failed a b c r rest piece safe p quiet same front stays e failed =
    let alone = p.log_alone quiet in
    record {
      same = same_both a b c p.same same;
      cut = inl (record {
        log = in_first a.log.contents c.log.contents (r.log ++ piece) rest.log ((r.log ++ piece) ++ rest.log) refl (in_second a.log.contents b.log.contents c.log.contents r.log piece (r.log ++ piece) refl p.log front);
        log_synced = subst (λ (s : Option (List ℕ)). Keeps s c.log.synced) safe.log (Keeps-trans a.log.synced b.log.synced c.log.synced alone.log_stays stays);
        arrivals = ap (λ (f : File). f.contents) e ∙ alone.arrivals_stay;
        arrivals_synced = arrivals_there a b c safe alone.arrivals_synced e;
      });
      failed = inl failed;
    }

-- the log was not synced
pub log_unsynced : (a b c : Files) (r t : Records) (rest : List ℕ) → t.log ≡ r.log ++ rest → IsSafe a → Adds a r b → b.log.waits ≡ true → AreSame b c → Keeps b.log.contents c.log.contents → Keeps b.log.synced c.log.synced →
    c.arrivals ≡ b.arrivals → c.log.failed ≡ true → Leaves a t c
log_unsynced a b c r t rest is safe p waits same kept stays e failed =
    let order = p.in_order (λ w. absurd (clash a.arrivals.waits w safe.none_waits)) in
    let quiet = not_true b.arrivals.waits (λ w. clash b.log.waits waits (order w)) in
    let alone = p.log_alone quiet in
    record {
      same = same_both a b c p.same same;
      cut = inl (record {
        log = in_first a.log.contents c.log.contents r.log rest t.log is (front_all a.log.contents c.log.contents r.log (Appends-kept a.log.contents b.log.contents c.log.contents r.log p.log kept));
        log_synced = subst (λ (s : Option (List ℕ)). Keeps s c.log.synced) safe.log (Keeps-trans a.log.synced b.log.synced c.log.synced alone.log_stays stays);
        arrivals = ap (λ (f : File). f.contents) e ∙ alone.arrivals_stay;
        arrivals_synced = arrivals_there a b c safe alone.arrivals_synced e;
      });
      failed = inl failed;
    }

log_clean_after : (a b : Files) (r : Records) → IsSafe a → Adds a r b → IsClean b.log
log_clean_after a b r safe p = p.log_clean (λ _. safe.log)

arrivals_clean_after : (a b : Files) (r : Records) → IsSafe a → Adds a r b → IsClean b.arrivals
arrivals_clean_after a b r safe p = p.arrivals_clean (λ _. safe.arrivals)

-- the file of arrivals failed, and the log is kept
pub arrivals_failed : (a b c : Files) (r t : Records) (piece rest : List ℕ) → t.log ≡ r.log → t.more ≡ (r.more ++ piece) ++ rest → IsSafe a → Adds a r b → AreSame b c → Keeps b.log.contents c.log.contents →
    (IsClean b.log → c.log.synced ≡ c.log.contents) → WritesFront b.arrivals.contents c.arrivals.contents piece → Keeps b.arrivals.synced c.arrivals.synced → c.arrivals.failed ≡ true → Leaves a t c
arrivals_failed a b c r t piece rest is more_is safe p same kept clean front stays failed = record {
  same = same_both a b c p.same same;
  cut = inr (record {
    log = subst (λ (l : List ℕ). Appends a.log.contents c.log.contents l) (sym is) (Appends-kept a.log.contents b.log.contents c.log.contents r.log p.log kept);
    log_synced = clean (log_clean_after a b r safe p);
    arrivals = in_first a.arrivals.contents c.arrivals.contents (r.more ++ piece) rest t.more more_is (in_second a.arrivals.contents b.arrivals.contents c.arrivals.contents r.more piece (r.more ++ piece) refl p.arrivals front);
    arrivals_synced = subst (λ (s : Option (List ℕ)). Keeps s c.arrivals.synced) safe.arrivals (Keeps-trans a.arrivals.synced b.arrivals.synced c.arrivals.synced p.arrivals_stay stays);
  });
  failed = inr failed;
}

-- it was not synced
pub arrivals_unsynced : (a b c : Files) (r : Records) → IsSafe a → Adds a r b → AreSame b c → Keeps b.log.contents c.log.contents → (IsClean b.log → c.log.synced ≡ c.log.contents) →
    Keeps b.arrivals.contents c.arrivals.contents → Keeps b.arrivals.synced c.arrivals.synced → c.arrivals.failed ≡ true → Leaves a r c
arrivals_unsynced a b c r safe p same kept clean kept_too stays failed =
    arrivals_failed a b c r r [] [] refl (sym (append-nil (r.more ++ []) ∙ append-nil r.more)) safe p same kept clean (front_kept b.arrivals.contents b.arrivals.contents c.arrivals.contents [] 0 (Appends-nil b.arrivals.contents) kept_too) stays failed

-- all was synced
pub all_synced : (a b c : Files) (r : Records) → IsSafe a → Adds a r b → AreSame b c → Keeps b.log.contents c.log.contents → (IsClean b.log → c.log.synced ≡ c.log.contents) →
    Keeps b.arrivals.contents c.arrivals.contents → (IsClean b.arrivals → c.arrivals.synced ≡ c.arrivals.contents) → c.arrivals.waits ≡ false → KeepsBoth a r c
all_synced a b c r safe p same kept clean kept_too clean_too none = record {
  same = same_both a b c p.same same;
  log = Appends-kept a.log.contents b.log.contents c.log.contents r.log p.log kept;
  arrivals = Appends-kept a.arrivals.contents b.arrivals.contents c.arrivals.contents r.more p.arrivals kept_too;
  safe_after = record { log = clean (log_clean_after a b r safe p); arrivals = clean_too (arrivals_clean_after a b r safe p); none_waits = none };
}
