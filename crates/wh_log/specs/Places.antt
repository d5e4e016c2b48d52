-- What stands behind the entries read so far.
use Rattle.std.specs.Prelude.{◌≡◌, ℕ, ◌+◌, ◌<◌, ◌^◌, ◌⊎◌, List, [], ◌∷◌, ◌++◌, length}
use Rattle.wh_text.specs.Lines.{IsLine}
use Rattle.wh_event.specs.declared.entry.Entry.{Entry}
use Rattle.wh_log.specs.Spelling.{entry_line}
use Rattle.wh_log.specs.Ranges.{Keeps}
use Rattle.wh_log.specs.declared.version.Version.{Version}
use Rattle.wh_log.specs.declared.places.Place.{Place}
use Rattle.wh_log.specs.declared.places.Place.TheVariants as places
use Rattle.wh_log.specs.declared.head.Head.{Head}
use Rattle.wh_log.specs.declared.head.Head.TheVariants as heads
use Rattle.wh_log.specs.Logs.{most_stops, head_line, start_line, end_line, Opens}

-- no entry line and no end line
pub record IsNeither (version : Version) (count : ℕ) (line : List ℕ) : Type 0 where
  pub entry : (entry : Entry) → Keeps (most_stops version) entry → count + 1 < 10 ^ 9 → line ≡ entry_line entry → ⊥
  pub end : line ≡ end_line count → ⊥

-- what each place means, after a given number of entries
abbrev pub Stands : Version → ℕ → List ℕ → Place → Type 0
Stands version count text (places.Next entry rest) = (text ≡ entry_line entry ++ 10 ∷ rest.now) × Keeps (most_stops version) entry × (count + 1 < 10 ^ 9)
Stands version count text places.End = text ≡ end_line count ++ 10 ∷ []
Stands version count text places.TextAfter = (more : List ℕ) × (0 < length more) × (text ≡ end_line count ++ 10 ∷ more)
Stands version count text places.NoLine = IsLine text
Stands version count text places.WrongLine = (line : List ℕ) × (more : List ℕ) × IsLine line × (text ≡ line ++ 10 ∷ more) × IsNeither version count line

-- the line is no second line
abbrev pub IsNoStart : List ℕ → Type 0
IsNoStart line = (clock : ℕ) (slots : List ℕ) → Opens clock slots → line ≡ start_line clock slots → ⊥

-- the line is no last line
abbrev pub IsNoEnd : List ℕ → Type 0
IsNoEnd line = (count : ℕ) → count < 10 ^ 9 → line ≡ end_line count → ⊥

-- the line is no first line
abbrev pub IsNoHead : List ℕ → Type 0
IsNoHead line = (version : Version) → line ≡ head_line version → ⊥

-- no line stands here that has the property
abbrev pub Lacks : (List ℕ → Type 0) → List ℕ → Type 0
Lacks None text = IsLine text ⊎ ((line : List ℕ) × (more : List ℕ) × IsLine line × (text ≡ line ++ 10 ∷ more) × None line)

-- the first two lines, or which of them is at fault
abbrev pub Heads : List ℕ → Head → Type 0
Heads text (heads.Start version clock slots rest) = (text ≡ head_line version ++ 10 ∷ (start_line clock slots.items ++ 10 ∷ rest.now)) × Opens clock slots.items
Heads text heads.NoHead = Lacks IsNoHead text
Heads text (heads.NoStart version) = (rest : List ℕ) × (text ≡ head_line version ++ 10 ∷ rest) × Lacks IsNoStart rest
