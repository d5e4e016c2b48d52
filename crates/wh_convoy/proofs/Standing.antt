-- files to which nothing was added
use Rattle.std.proofs.Common.{◌≡◌, ℕ, List, Option, inl, sym, subst, refl}
use Rattle.std.specs.Io.KnownBytes.{Keeps}
use Rattle.std.proofs.KnownBytes.{Keeps-refl, Appends-nil}
use Rattle.wh_lines.proofs.Written.{front_kept}
use Rattle.wh_convoy.specs.Convoys.{Held, UnsettlesFiles}

-- nothing stands behind
pub untouched : (text came : List ℕ) (held synced : Held) → synced ≡ held → UnsettlesFiles text came held held synced
untouched text came held synced same = inl (record {
  log = front_kept held.log held.log held.log text 0 (Appends-nil held.log) (Keeps-refl held.log);
  log_synced = subst (λ (h : Held). Keeps held.log h.log) (sym same) (Keeps-refl held.log);
  arrivals = refl;
  arrivals_synced = subst (λ (h : Held). Keeps held.arrivals h.arrivals) (sym same) (Keeps-refl held.arrivals);
})

pub both_synced : (log_synced log arrivals_synced arrivals : Option (List ℕ)) → log_synced ≡ log → arrivals_synced ≡ arrivals →
    ◌≡◌ {A = Held} (record { log = log_synced; arrivals = arrivals_synced }) (record { log = log; arrivals = arrivals })
both_synced log_synced log arrivals_synced arrivals p q i = record { log = p i; arrivals = q i }
