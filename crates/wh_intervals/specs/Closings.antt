-- from when on intervals are expanded
use Rattle.std.specs.Prelude.{◌≡◌, ℕ, ◌⊎◌, Option, Some, None, Bool, ◌&&◌, nat_eq}
use Rattle.wh_intervals.specs.declared.interval.Interval.{Interval}
use Rattle.wh_intervals.specs.declared.known.Known.{Known}

-- the same interval, by its numbers
abbrev pub interval_eq : Interval → Interval → Bool
interval_eq a b = nat_eq a.leg b.leg && ((nat_eq a.cell.x b.cell.x && nat_eq a.cell.y b.cell.y) && nat_eq a.until b.until)

-- from when on an interval is, by what is known of it
abbrev pub since_of : Option Known → Option ℕ
since_of None = None
since_of (Some k) = k.since

-- from when on each is
abbrev pub closed_by : (Interval → Option Known) → Interval → Option ℕ
closed_by known i = since_of (known i)

-- this interval is, from a time on, and each other one as it was
pub record Notes (old new : Interval → Option ℕ) (interval : Interval) (time : ℕ) : Type 0 where
  pub here : new interval ≡ Some time
  pub only : (i : Interval) (t : ℕ) → new i ≡ Some t → ((i ≡ interval) × (t ≡ time)) ⊎ (old i ≡ Some t)
  pub kept : (i : Interval) (t : ℕ) → old i ≡ Some t → (i ≡ interval) ⊎ (new i ≡ Some t)
