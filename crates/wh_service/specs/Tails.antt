-- What follows the replies of a replay.
use Rattle.std.specs.Prelude.{ℕ, Bool, true, false, List, [], ◌∷◌, ◌++◌, codes, length, map, Option, None, Some}
use Rattle.std.specs.Io.KnownBytes.{Keeps}
use Rattle.wh_words.specs.Lines.{text_of}
use Rattle.wh_event.specs.declared.entry.Entry.{Entry}
use Rattle.wh_core.specs.States.{State}
use Rattle.wh_ledger.specs.Ledgers.{rows_of}
use Rattle.wh_ledger.specs.LedgerTexts.{ledger_text}
use Rattle.wh_log.specs.Logs.{end_line, log_lines}
use Rattle.wh_log.specs.Spelling.{entry_line}
use Rattle.wh_resume.specs.declared.recovery.Preface.{Preface}
use Rattle.wh_log.specs.declared.version.Version.TheVariants.{Two}
use Rattle.wh_options.specs.declared.chosen.Tail.{Tail}
use Rattle.wh_options.specs.declared.chosen.Tail.TheVariants.{Nothing, Log, Ledger}
use Rattle.wh_replay.specs.Scripts.{WritesFront}
use Rattle.wh_deliver.specs.OpenOrders.{open_text}
use Rattle.wh_edge.specs.declared.trouble.Trouble.{Trouble}
use Rattle.wh_edge.specs.declared.trouble.Trouble.TheVariants as trouble

-- the line between the replies and what follows them
abbrev pub separator : Tail → List ℕ
separator Nothing = []
separator Log = codes "%%" ++ 10 ∷ []
separator Ledger = codes "%%" ++ 10 ∷ []

-- the log of a run of these entries from the opening state, or the ledger of the state in which it ends
abbrev pub tail_text : Tail → State → List Entry → State → List ℕ
tail_text Nothing opening entries final = []
tail_text Log opening entries final = text_of (log_lines Two (record { clock = opening.clock; slots = opening.slots; entries = entries }))
tail_text Ledger opening entries final = ledger_text (rows_of final.tasks)

-- what follows the replies
abbrev pub tail_after : Tail → State → List Entry → State → List ℕ
tail_after tail opening entries final = separator tail ++ tail_text tail opening entries final

-- the log of a run behind its front: its entries and the line that ends it
abbrev pub log_behind : Preface → List Entry → List ℕ
log_behind preface entries = preface.text.items ++ (text_of (map entry_line entries) ++ text_of (end_line (length entries) ∷ []))

-- the same of a run whose log begins with a front, if it told this: there its log does too
abbrev pub tail_behind : Option Preface → Tail → State → List Entry → State → List ℕ
tail_behind None tail opening entries final = tail_after tail opening entries final
tail_behind (Some preface) Nothing opening entries final = tail_after Nothing opening entries final
tail_behind (Some preface) Log opening entries final = separator Log ++ log_behind preface entries
tail_behind (Some preface) Ledger opening entries final = tail_after Ledger opening entries final

-- what is told of orders that are open at the end, where all was to be delivered
abbrev pub told_open : Bool → State → List ℕ
told_open false final = []
told_open true final = open_text final

-- why it did not follow: memory ran out, and nothing of it was written, or the writer failed, and a front of it was
abbrev pub IsWhyNoTail : Trouble → Option (List ℕ) → Option (List ℕ) → List ℕ → Type 0
IsWhyNoTail trouble.NoMemory had has text = Keeps had has
IsWhyNoTail trouble.Unwritten had has text = WritesFront had has text
IsWhyNoTail _ had has text = ⊥
