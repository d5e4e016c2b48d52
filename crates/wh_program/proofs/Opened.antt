-- What is told of open orders.
use Rattle.std.proofs.Common.{◌≡◌, ◌==◌, ◌∙◌, ℕ, Bool, true, false, true≢false, List, [], ◌∷◌, length, sym, arith, Option}
use Rattle.std.proofs.KnownBytes.{Keeps-refl}
use Rattle.std.proofs.lemmas.Bool.Decides.{nat_tests}
use Rattle.wh_lines.specs.Output.{WritesFront}
use Rattle.wh_program.specs.Programs.{TellsOpen}

-- there is something to tell, or nothing
pub tells_some : (report : List ℕ) (had has : Option (List ℕ)) (is_empty : Bool) → is_empty ≡ (length report == 0) → is_empty ≡ false → WritesFront had has report → TellsOpen report had has
tells_some [] had has is_empty is off front = absurd (true≢false (sym is ∙ off))
tells_some (byte ∷ rest) had has is_empty is off front = front

pub tells_none : (report : List ℕ) (had : Option (List ℕ)) (is_empty : Bool) → is_empty ≡ (length report == 0) → is_empty ≡ true → TellsOpen report had had
tells_none [] had is_empty is on = Keeps-refl had
tells_none (byte ∷ rest) had is_empty is on =
    let no : (length (byte ∷ rest) == 0) ≡ false = grind (arith, nat_tests) in
    absurd (true≢false (sym on ∙ is ∙ no))
