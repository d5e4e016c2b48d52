-- What the reader's result says of the grammar.
use Rattle.std.proofs.Common.{ℕ, ◌+◌, List, length, Result, Ok, Err, subst}
use Rattle.std.specs.Prelude.{IfOk, IfErr}
use Rattle.wh_text.specs.Lines.{lines_of}
use Rattle.wh_grid.specs.declared.fault.Fault.{Fault}
use Rattle.wh_grid.specs.declared.fault.MapFault.{MapFault}
use Rattle.wh_grid.specs.declared.fault.MapFault.TheVariants.{NoMemory, At}
use Rattle.wh_grid.specs.Grids.{Floor}
use Rattle.wh_grid.specs.Faults.{Gives, IsWithin}
use Rattle.wh_grid.specs.Maps.{map_at, IsFirst}
use Rattle.wh_grid.proofs.FirstFault.{first_lines_decide}
use Rattle.wh_grid.specs.Grammar.{IsMap}
use Rattle.wh_grid.proofs.GrammarLemmas.{map_is_found, map_is_read, fault_is_within}

pub read_found : (text : List ℕ) (r : Result Floor MapFault) → Gives (λ floor. floor) r (map_at text) → IfOk r (λ floor. IsMap (lines_of text) floor)
read_found text (Ok floor) h = map_is_found (lines_of text) floor h
read_found text (Err e) h = tt

pub read_only : (text : List ℕ) (floor : Floor) (r : Result Floor MapFault) → IsMap (lines_of text) floor → Gives (λ floor. floor) r (map_at text) → Gives (λ floor. floor) r (Ok floor)
read_only text floor r m h = subst (λ (read : Result Floor Fault). Gives (λ floor. floor) r read) (map_is_read (lines_of text) floor m) h

pub read_within : (text : List ℕ) (r : Result Floor MapFault) → Gives (λ floor. floor) r (map_at text) → IfErr r (λ e. IsWithin (length (lines_of text) + 1) e)
read_within text (Ok floor) h = tt
read_within text (Err NoMemory) h = tt
read_within text (Err (At fault)) h = fault_is_within (lines_of text) fault h

pub read_first : (text : List ℕ) (r : Result Floor MapFault) → Gives (λ floor. floor) r (map_at text) → IfErr r (IsFirst (lines_of text))
read_first text (Ok floor) h = tt
read_first text (Err NoMemory) h = tt
read_first text (Err (At fault)) h = λ le more. first_lines_decide (lines_of text) more fault le h
