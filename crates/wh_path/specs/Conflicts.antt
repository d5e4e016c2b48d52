-- the first conflict of two paths
use Rattle.std.specs.Prelude.{◌≡◌, ℕ, ◌<◌, Bool, true, List}
use Rattle.wh_grid.specs.declared.cell.Cell.{Cell}
use Rattle.wh_path.specs.declared.kind.Conflict.{Conflict}
use Rattle.wh_path.specs.declared.kind.Conflict.TheVariants.{Vertex, Swap, Follow}
use Rattle.wh_path.specs.Paths.{MeetAt, SwapAt, FollowAt}

-- before time n they neither meet nor begin an exchange, nor does one begin to follow under the rule
pub record IsFreeBefore (nofollow : Bool) (p q : List Cell) (n : ℕ) : Type 0 where
  pub apart : (k : ℕ) → k < n → ¬ MeetAt p q k
  pub no_swap : (k : ℕ) → k < n → ¬ SwapAt p q k
  pub no_follow : nofollow ≡ true → (k : ℕ) → k < n → ¬ FollowAt p q k

-- it is the first conflict; at the same time, meeting comes before exchanging, and that before following
abbrev pub IsFirstConflict : Bool → List Cell → List Cell → Conflict → Type 0
IsFirstConflict nofollow p q (Vertex k) = IsFreeBefore nofollow p q k × MeetAt p q k
IsFirstConflict nofollow p q (Swap k) = IsFreeBefore nofollow p q k × (¬ MeetAt p q k) × SwapAt p q k
IsFirstConflict nofollow p q (Follow k) =
    IsFreeBefore nofollow p q k × (¬ MeetAt p q k) × (¬ SwapAt p q k) × (nofollow ≡ true) × FollowAt p q k
