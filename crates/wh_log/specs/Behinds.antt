-- A log that is told to a judge piece by piece.
use Rattle.std.specs.Prelude.{◌≡◌, ◌<◌, ◌+◌, ◌-◌, ◌^◌, ℕ, Bool, true, false, List, [], ◌∷◌, ◌++◌, map, length, Option, IfSome}
use Rattle.std.specs.List.{AllByRecursion}
use Rattle.std.specs.Global.{Vec}
use Rattle.wh_words.specs.Lines.{text_of}
use Rattle.wh_text.specs.Lines.{IsLine}
use Rattle.wh_event.specs.declared.entry.Entry.{Entry}
use Rattle.wh_log.specs.Spelling.{entry_line}
use Rattle.wh_log.specs.Ranges.{Keeps}
use Rattle.wh_log.specs.declared.version.Version.{Version}
use Rattle.wh_log.specs.declared.front_log.Front.{Front}
use Rattle.wh_log.specs.declared.front_log.Front.TheVariants.{Bad, Unopened}
use Rattle.wh_log.specs.declared.tell_entries.Stop.{Stop}
use Rattle.wh_log.specs.declared.tell_entries.Stop.TheVariants as stop
use Rattle.wh_log.specs.declared.window.Standing.{Standing}
use Rattle.wh_log.specs.declared.window.Standing.TheVariants as standing
use Rattle.wh_log.specs.Logs.{Opens, most_stops, head_line, start_line, end_line}
use Rattle.wh_log.specs.Places.{IsNeither}
use Rattle.wh_log.specs.Judges.{Refuses, RunOf}
use Rattle.wh_log.specs.Torn.{Recovers}

-- Of the text the first two lines were told to a judge that was old, and a number of entries; the rest was not, and the judge is
-- now so.
pub record Behind {S : Type 0} (opens : S → ℕ → List ℕ → S → Type 0) (steps : S → Entry → S → Type 0) (old : S) (text : List ℕ) (version : Version) (count : ℕ) (now : S) (rest : List ℕ) : Type 0 where
  pub clock : ℕ
  pub slots : List ℕ
  pub entries : List Entry
  pub begins : Opens clock slots
  pub kept : AllByRecursion (Keeps (most_stops version)) entries
  pub number : length entries ≡ count
  pub few : count < 10 ^ 9
  pub parts : text ≡ text_of (head_line version ∷ start_line clock slots ∷ map entry_line entries) ++ rest
  pub opening : S
  pub opened : opens old clock slots opening
  pub run : RunOf steps opening entries now

-- whatever a judge was told before of a text, further lines of it were told
abbrev pub TellsOn : {S : Type 0} → (S → ℕ → List ℕ → S → Type 0) → (S → Entry → S → Type 0) → Version → (count : ℕ) → S → List ℕ → (further : ℕ) → S → List ℕ → Type 0
TellsOn {S} opens steps version count now rest further new left =
    (old : S) (seen : List ℕ) → Behind opens steps old seen version count now rest → Behind opens steps old seen version further new left

-- what stands at the front of the rest
abbrev pub StopsAt : {S : Type 0} → (S → Entry → S → Type 0) → Version → ℕ → S → List ℕ → Stop → Type 0
StopsAt steps version count now rest stop.NoLine = IsLine rest
StopsAt steps version count now rest stop.End = rest ≡ end_line count ++ 10 ∷ []
StopsAt steps version count now rest stop.TextAfter = (more : List ℕ) × (0 < length more) × (rest ≡ end_line count ++ 10 ∷ more)
StopsAt steps version count now rest stop.WrongLine = (line : List ℕ) × (more : List ℕ) × IsLine line × (rest ≡ line ++ 10 ∷ more) × IsNeither version count line
StopsAt steps version count now rest stop.Refused = (entry : Entry) × (more : List ℕ) × (rest ≡ entry_line entry ++ 10 ∷ more) × Keeps (most_stops version) entry × Refuses steps now entry

-- with it no log goes on
abbrev pub is_bad_stop : Stop → Bool
is_bad_stop stop.NoLine = false
is_bad_stop stop.End = false
is_bad_stop stop.TextAfter = true
is_bad_stop stop.WrongLine = true
is_bad_stop stop.Refused = true

-- its line, and how many bytes the lines before it are, of the bytes read in all
abbrev pub IsBadAt : Stop → (entries : ℕ) → List ℕ → (place : ℕ) → Front → Type 0
IsBadAt stop.TextAfter entries rest place front = (line more : List ℕ) → IsLine line → rest ≡ line ++ 10 ∷ more → front ≡ Bad (entries + 4) (place - length more)
IsBadAt stop.WrongLine entries rest place front = front ≡ Bad (entries + 3) (place - length rest)
IsBadAt stop.Refused entries rest place front = front ≡ Bad (entries + 3) (place - length rest)
IsBadAt stop.NoLine entries rest place front = Unit {0}
IsBadAt stop.End entries rest place front = Unit {0}

-- the second line is bad, after this many bytes
abbrev pub IsBadStart : List ℕ → Front → Type 0
IsBadStart text front = (line more : List ℕ) → IsLine line → text ≡ line ++ 10 ∷ more → front ≡ Bad 2 (length text - length more)

-- what a text with a given number of whole lines is, of which the first is none of a log, or the second
abbrev pub LacksHead : Standing → Vec ℕ → Front → Type 0
LacksHead standing.None text front = front ≡ Unopened text
LacksHead standing.One text front = front ≡ Bad 1 0
LacksHead standing.Two text front = front ≡ Bad 1 0

abbrev pub LacksStart : Standing → Vec ℕ → Front → Type 0
LacksStart standing.None text front = front ≡ Unopened text
LacksStart standing.One text front = front ≡ Unopened text
LacksStart standing.Two text front = IsBadStart text.items front

-- What following the front of a source says: what is said of a text that it has; where it tells its bytes, these are the text.
abbrev pub RecoversFrom : {S : Type 0} → (S → ℕ → List ℕ → S → Type 0) → (S → Entry → S → Type 0) → Option (List ℕ) → S → S → Front → Type 0
RecoversFrom opens steps held old new front = (text : List ℕ) × IfSome held (λ bytes. text ≡ bytes) × Recovers opens steps text old new front

-- that many bytes were read of it, and these are they
pub record Sees (held : Option (List ℕ)) (place : ℕ) (seen : List ℕ) : Type 0 where
  pub front : IfSome held (λ bytes. (more : List ℕ) × (bytes ≡ seen ++ more))
  pub place_is : place ≡ length seen

-- the same from a judge that was told the first two lines
abbrev pub RecoversOn : {S : Type 0} → (S → ℕ → List ℕ → S → Type 0) → (S → Entry → S → Type 0) → Option (List ℕ) → Version → (place : ℕ) → List ℕ → S → S → Front → Type 0
RecoversOn {S} opens steps held version place rest now new front =
    (old : S) (seen : List ℕ) → Sees held place seen → Behind opens steps old seen version 0 now rest → RecoversFrom opens steps held old new front
