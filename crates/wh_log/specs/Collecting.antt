-- What reading a log keeps.
use Rattle.std.specs.Prelude.{◌≡◌, ℕ, List, [], ◌∷◌, ◌++◌}
use Rattle.std.proofs.Common.{sym, ◌∙◌}
use Rattle.wh_event.specs.declared.entry.Entry.{Entry}
use Rattle.wh_log.specs.declared.reader.LogFault.{LogFault}
use Rattle.wh_log.specs.declared.reader.LogFault.TheVariants as faults
use Rattle.wh_log.specs.Logs.{Content}
use Rattle.wh_log.specs.FirstBad.{IsFirstBad}

-- the opening clock and slots are kept
abbrev pub Opens : Content → ℕ → List ℕ → Content → Type 0
Opens old clock slots new = new ≡ record { clock = clock; slots = slots; entries = old.entries }

-- the entry is kept, behind those before it
abbrev pub Adds : Content → Entry → Content → Type 0
Adds old entry new = new ≡ record { clock = old.clock; slots = old.slots; entries = old.entries ++ entry ∷ [] }

-- each leads to one content
pub one_opening : (old : Content) (clock : ℕ) (slots : List ℕ) (a b : Content) → Opens old clock slots a → Opens old clock slots b → a ≡ b
one_opening old clock slots a b p q = p ∙ sym q

-- likewise
pub one_step : (old : Content) (entry : Entry) (a b : Content) → Adds old entry a → Adds old entry b → a ≡ b
one_step old entry a b p q = p ∙ sym q

-- any content will do
abbrev pub Any : Content → Type 0
Any content = Unit {0}

-- a fault names the first line with which no log begins
abbrev pub Faults : List ℕ → LogFault → Type 0
Faults text faults.NoMemory = Unit {0}
Faults text (faults.At line) = IsFirstBad Any text line
