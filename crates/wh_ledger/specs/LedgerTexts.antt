-- the text of a ledger
use Rattle.std.specs.Prelude.{ℕ, List, ◌++◌, codes, decimal, map}
use Rattle.wh_words.specs.Lines.{text_of}
use Rattle.wh_ledger.specs.declared.row.Row.{Row}

-- a row's line, without its line feed
abbrev pub row_text : Row → List ℕ
row_text row =
    row.client ++ codes " submitted " ++ decimal row.submitted ++ codes " open " ++ decimal row.open_tasks
    ++ codes " assigned " ++ decimal row.assigned ++ codes " carried " ++ decimal row.carried
    ++ codes " done " ++ decimal row.done ++ codes " time " ++ decimal row.time

-- a line for each row, each with its line feed
abbrev pub ledger_text : List Row → List ℕ
ledger_text rows = text_of (map row_text rows)
