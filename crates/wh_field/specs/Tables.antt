-- a table has a number for each place: how far it is, or that it was not met, or that it is blocked
use Rattle.std.specs.Prelude.{◌≡◌, ◌≢◌, ℕ, ◌+◌, ◌<◌, ◌≤◌, ◌⊎◌, ◌↔◌, List, [], ◌∷◌, ◌++◌, length, slice_index_or, slice_set, All, Contains, cond, nat_eq}

abbrev pub unseen : ℕ
unseen = 4294967295

abbrev pub blocked : ℕ
blocked = 4294967294

-- what the table has at a place; past its end all is blocked
abbrev pub value : List ℕ → ℕ → ℕ
value t i = slice_index_or t i 4294967294

-- the place beside it in the same row, or in the row above or below, where rows are `stride` long
abbrev pub IsBeside : ℕ → ℕ → ℕ → Type 0
IsBeside stride i j = ((i + 1 ≡ j) ⊎ (j + 1 ≡ i)) ⊎ ((i + stride ≡ j) ⊎ (j + stride ≡ i))

-- how many places were not met
abbrev pub unseen_count : List ℕ → ℕ
unseen_count [] = 0
unseen_count (x ∷ xs) = cond (nat_eq x 4294967295) (1 + unseen_count xs) (unseen_count xs)

-- each place that is not blocked has all four places beside it within the table
pub record IsWalled (stride : ℕ) (t : List ℕ) : Type 0 where
  pub positive : 0 < stride
  pub few : length t < 4294967294
  pub above : (i : ℕ) → value t i ≢ blocked → stride ≤ i
  pub below : (i : ℕ) → value t i ≢ blocked → i + stride < length t

-- each place is blocked, or not met, or one of those at which the walks start
pub record IsReady (stride : ℕ) (t starts : List ℕ) : Type 0 where
  pub walled : IsWalled stride t
  pub fresh : (i : ℕ) → (value t i ≡ blocked) ⊎ ((value t i ≡ unseen) ⊎ (value t i ≡ 0))
  pub at_start : All (λ i. value t i ≡ 0) starts
  pub all_starts : (i : ℕ) → value t i ≡ 0 → Contains starts i
  pub room : unseen_count t + length starts ≤ length t

-- the numbers are distances: beside a place that was met each one that is not blocked was met, and is at most one step further;
-- and each that is no start has a place beside it that is one step nearer
pub record IsLevelled (stride : ℕ) (t : List ℕ) : Type 0 where
  pub onward : (i j : ℕ) → value t i < blocked → IsBeside stride i j → value t j ≢ blocked → value t j ≤ value t i + 1
  pub back : (i n : ℕ) → n + 1 < blocked → value t i ≡ n + 1 → (j : ℕ) × IsBeside stride j i × (value t j ≡ n)

-- the same places are blocked, and the same are starts
pub record IsSameGround (old t : List ℕ) : Type 0 where
  pub size : length t ≡ length old
  pub same_blocked : (i : ℕ) → (value t i ≡ blocked) ↔ (value old i ≡ blocked)
  pub same_starts : (i : ℕ) → (value t i ≡ 0) ↔ (value old i ≡ 0)

-- the queue has room for each place that was not met
pub record HasRoom (capacity : ℕ) (t queue : List ℕ) : Type 0 where
  pub room : unseen_count t + length queue ≤ capacity

-- the queue has exactly the places with a number
pub record IsListed (t queue : List ℕ) : Type 0 where
  pub numbered : All (λ i. value t i < blocked) queue
  pub all_numbered : (i : ℕ) → value t i < blocked → Contains queue i

-- places that had numbers were put back to not met, these among them, and nothing else changed
pub record IsForgotten (old done t : List ℕ) : Type 0 where
  pub size : length t ≡ length old
  pub each : (i : ℕ) → (value t i ≡ value old i) ⊎ ((value t i ≡ unseen) × (value old i < blocked))
  pub at_done : All (λ i. value t i ≡ unseen) done
  pub count : unseen_count t ≤ unseen_count old + length done

-- a place was marked with a distance and listed, or was met before
abbrev pub IsVisit : List ℕ → List ℕ → ℕ → ℕ → List ℕ → List ℕ → Type 0
IsVisit t queue place d t' queue' =
    ((value t place ≢ unseen) × (t' ≡ t) × (queue' ≡ queue)) ⊎ ((value t place ≡ unseen) × (t' ≡ slice_set t place d) × (queue' ≡ queue ++ place ∷ []))

-- places beside one place were marked with a distance and listed, and nothing else changed
pub record IsMarking (stride place d : ℕ) (t queue t' queue' : List ℕ) : Type 0 where
  pub added : List ℕ
  pub listed : queue' ≡ queue ++ added
  pub at_added : All (λ i. value t' i ≡ d) added
  pub size : length t' ≡ length t
  pub each : (i : ℕ) → (value t' i ≡ value t i) ⊎ ((value t i ≡ unseen) × (value t' i ≡ d) × IsBeside stride place i × Contains added i)
  pub count : unseen_count t' + length added ≡ unseen_count t

-- each place beside it was met or is blocked
abbrev pub AllMet : ℕ → ℕ → List ℕ → Type 0
AllMet stride place t = (j : ℕ) → IsBeside stride place j → value t j ≢ unseen

-- while the places at distance d - 1 are processed: those in `todo` are still to come, those at distance d are in `next`
pub record IsSpreading (stride d : ℕ) (t todo next : List ℕ) : Type 0 where
  pub known : (i : ℕ) → (value t i ≡ blocked) ⊎ ((value t i ≡ unseen) ⊎ (value t i ≤ d))
  pub onward : (i j : ℕ) → value t i < d → IsBeside stride i j → value t j ≢ blocked → (value t j ≤ value t i + 1) ⊎ Contains todo i
  pub back : (i n : ℕ) → n + 1 < blocked → value t i ≡ n + 1 → (j : ℕ) × IsBeside stride j i × (value t j ≡ n)
  pub at_todo : All (λ i. value t i + 1 ≡ d) todo
  pub at_next : All (λ i. value t i ≡ d) next
  pub all_next : (i : ℕ) → value t i ≡ d → Contains next i
  pub room : d + unseen_count t + length next ≤ length t

-- the place has this mark
abbrev pub HasMark : List ℕ → ℕ → ℕ → Type 0
HasMark marks mark i = slice_index_or marks i 0 ≡ mark

-- of the places the marked ones have no number below this one, and one that is marked has it, unless it is `blocked`
pub record IsLeastAmong (marks : List ℕ) (mark : ℕ) (t places : List ℕ) (n : ℕ) : Type 0 where
  pub most : n ≤ blocked
  pub found : n < blocked → (i : ℕ) × HasMark marks mark i × (value t i ≡ n)
  pub least : All (λ i. HasMark marks mark i → n ≤ value t i) places

-- the same of all places that were met
pub record IsLeastMet (marks : List ℕ) (mark : ℕ) (t : List ℕ) (n : ℕ) : Type 0 where
  pub most : n ≤ blocked
  pub found : n < blocked → (i : ℕ) × HasMark marks mark i × (value t i ≡ n)
  pub least : (i : ℕ) → HasMark marks mark i → value t i < blocked → n ≤ value t i
