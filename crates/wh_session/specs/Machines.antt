-- lines that a machine serves, one after another
use Rattle.std.specs.Prelude.{◌≡◌, ℕ, ◌≤◌, List, [], ◌∷◌, ◌++◌, length, take, cond, nat_le, Option, Some, None}
use Rattle.wh_text.specs.Lines.{IsLine}
use Rattle.wh_lines.specs.Text.{short_line}
use Rattle.wh_session.specs.declared.machine.Halt.{Halt}

-- what is to be kept of lines: in the log, and in the file beside it, which rests on the log
pub record Records : Type 0 where
  pub log : List ℕ
  pub more : List ℕ

abbrev pub nothing : Records
nothing = record { log = []; more = [] }

abbrev pub joined : Records → Records → Records
joined a b = record { log = a.log ++ b.log; more = a.more ++ b.more }

-- a line, if it is short enough
abbrev pub fitting : List ℕ → Option (List ℕ)
fitting line = cond (nat_le (length line) 256) (Some line) None

-- it represents some state
abbrev pub SomeStands : {X : Type 0} → {S : Type 0} → (X → S → Type 0) → X → Type 0
SomeStands {X} {S} stands x = (s : S) × stands x s

-- Lines were served, one after another: what they are told, and what is to be kept of them.
abbrev pub ServesAll : {S : Type 0} → (S → Option (List ℕ) → List ℕ → Records → S → Type 0) → List (List ℕ) → S → List ℕ → Records → S → Type 0
ServesAll serves [] old told kept new = (new ≡ old) × (told ≡ []) × (kept ≡ nothing)
ServesAll {S} serves (line ∷ lines) old told kept new =
    (mid : S) × (first : List ℕ) × (rest : List ℕ) × (one : Records) × (others : Records) × serves old (fitting line) first one mid
    × ServesAll serves lines mid rest others new × (told ≡ first ++ rest) × (kept ≡ joined one others)

-- One line was served. What it is told, and what is to be kept of it, stand behind what waited.
pub record ServesOne {S : Type 0} (serves : S → Option (List ℕ) → List ℕ → Records → S → Type 0) (line : Option (List ℕ)) (old new : S)
    (said says : List ℕ) (came comes : Records) : Type 0 where
  pub told : List ℕ
  pub kept : Records
  pub did : serves old line told kept new
  pub says_are : says ≡ said ++ told
  pub comes_are : comes ≡ joined came kept

-- the same, from each state that the machine represents, to one that it represents
abbrev pub ServesOneFrom : {X : Type 0} → {S : Type 0} → (X → S → Type 0) → (S → Option (List ℕ) → List ℕ → Records → S → Type 0) → (X → S → List ℕ) → (X → S → Records) → Option (List ℕ) → X → X → Type 0
ServesOneFrom {X} {S} stands serves says logs line old new =
    (s : S) → stands old s → (e : S) × stands new e × ServesOne serves line s e (says old s) (says new e) (logs old s) (logs new e)

-- a text begins with this line, which has so many bytes with the line feed behind it
pub record IsFront (raw : List ℕ) (count : ℕ) (text : List ℕ) : Type 0 where
  pub plain : IsLine raw
  pub within : count ≤ length text
  pub front : take count text ≡ raw ++ 10 ∷ []

-- the line at the front of a text was served
abbrev pub ServesFrontFrom : {X : Type 0} → {S : Type 0} → (X → S → Type 0) → (S → Option (List ℕ) → List ℕ → Records → S → Type 0) → (X → S → List ℕ) → (X → S → Records) → ℕ → List ℕ → X → X → Type 0
ServesFrontFrom stands serves says logs count text old new = (raw : List ℕ) × IsFront raw count text × ServesOneFrom stands serves says logs (short_line raw) old new

-- it represents the states that it did, and the same waits
abbrev pub SameFrom : {X : Type 0} → {S : Type 0} → (X → S → Type 0) → (X → S → List ℕ) → (X → S → Records) → X → X → Type 0
SameFrom {X} {S} stands says logs old new = (s : S) → stands old s → stands new s × (says new s ≡ says old s) × (logs new s ≡ logs old s)

-- it represents the states that it did, and nothing waits
abbrev pub ClearFrom : {X : Type 0} → {S : Type 0} → (X → S → Type 0) → (X → S → List ℕ) → (X → S → Records) → X → X → Type 0
ClearFrom {X} {S} stands says logs old new = (s : S) → stands old s → stands new s × (says new s ≡ []) × (logs new s ≡ nothing)

-- A line was begun, and the machine failed so: from each state that it represented, what that leaves.
abbrev pub HaltsFrom : {X : Type 0} → {S : Type 0} → (X → S → Type 0) → (S → Option (List ℕ) → Halt → S → Type 0) → Option (List ℕ) → Halt → X → X → Type 0
HaltsFrom {X} {S} stands halts line halt old new = (s : S) → stands old s → (e : S) × stands new e × halts s line halt e
