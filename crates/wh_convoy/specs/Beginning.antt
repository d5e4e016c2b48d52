-- how the file of arrivals is begun
use Rattle.std.specs.Prelude.{◌≡◌, ◌≢◌, ◌⊎◌, ◌-◌, ℕ, List, [], ◌∷◌, ◌++◌, codes, decimal, length, take, Option, None, Some}
use Rattle.sha2.specs.Sha256.{sha256}
use Rattle.hex.specs.Hex.{encode_lower}
use Rattle.wh_journal.specs.Cutting.{MayCut, front_of}
use Rattle.wh_resume.specs.declared.recovery.Preface.{Preface}
use Rattle.wh_continue.specs.Running.{LeavesFront, Opens}

-- the line of a report that each run bears out: vehicle 0 has arrived at step 0, as it has from the first
abbrev pub first_arrival : List ℕ
first_arrival = codes "at 0 0" ++ 10 ∷ []

-- the line that tells how many bytes a text has, and their sum
abbrev pub front_line : List ℕ → List ℕ
front_line text = codes "front " ++ decimal (length text) ++ 32 ∷ encode_lower (sha256 text) ++ 10 ∷ []

-- the line that begins the file of arrivals beside a log: behind a front that tells of it, without its last line, which is `begin`
abbrev pub first_line : Option Preface → List ℕ
first_line None = first_arrival
first_line (Some preface) = front_line (take (length preface.text.items - 6) preface.text.items)

-- bytes that are that line, or a beginning of it, or none
abbrev pub IsBeginning : Option Preface → List ℕ → Type 0
IsBeginning preface text = (rest : List ℕ) × (first_line preface ≡ text ++ rest)

-- The file holds this many bytes of what it held; or, where these are none, that line alone.
abbrev pub BeginsArrivals : (first : List ℕ) → ℕ → (file holds : Option (List ℕ)) → Type 0
BeginsArrivals first bytes file holds = ((bytes ≡ 0) × Opens file holds first) ⊎ ((bytes ≢ 0) × (holds ≡ front_of bytes file))

-- what is left where that failed
abbrev pub LeavesArrivals : (first : List ℕ) → ℕ → (file holds : Option (List ℕ)) → Type 0
LeavesArrivals first bytes file holds = LeavesFront file holds first ⊎ MayCut bytes file holds
