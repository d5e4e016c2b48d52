-- sums of counts, and how many entries count
use Rattle.std.proofs.Common.{◌≡◌, ℕ, ◌≤◌, length, arith, inl, inr, ◌∙◌}
use Rattle.std.specs.Prelude.{Option, Some, None}
use Rattle.wh_handover.specs.Handing.{Told, IsCount, IsOutside}
use Rattle.wh_handover.specs.Prefaces.{Counts, CountsNone}
use Rattle.wh_snapshot.specs.Snapshots.{all_told}

pub is_count : (after : Option ℕ) (told : Told) (before entries count : ℕ) → before ≡ all_told told.counts → entries ≡ length told.entries → count ≤ entries → Counts after before entries count → IsCount after told count
is_count None told before entries count b e few counts = counts ∙ e
is_count (Some number) told before entries count b e few counts = (omega (arith, counts, b), omega (arith, few, e))

pub is_outside : (after : Option ℕ) (told : Told) (before entries : ℕ) → before ≡ all_told told.counts → entries ≡ length told.entries → CountsNone after before entries → IsOutside after told
is_outside None told before entries b e none = none
is_outside (Some number) told before entries b e (inl early) = inl (omega (arith, early, b))
is_outside (Some number) told before entries b e (inr late) = inr (omega (arith, late, b, e))
