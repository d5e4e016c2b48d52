-- The next line of a front, or none.
use Rattle.std.proofs.Common.{◌≡◌, ℕ, ◌<◌, ◌+◌, true, false, List, ◌∷◌, ◌++◌, length, Some, None, Result, Err, refl, sym, ap, ◌∙◌, subst, arith, length-append}
use Rattle.wh_text.specs.Lines.{IsLine}
use Rattle.wh_log.proofs.LineLaws.{one_line, not_whole}
use Rattle.wh_front.specs.declared.form_fault.FormFault.{FormFault}
use Rattle.wh_front.specs.declared.form_fault.FormFault.TheVariants as faults
use Rattle.wh_front.specs.declared.line.Line.{Line}
use Rattle.wh_front.specs.declared.stage.Stage.{Stage}
use Rattle.wh_front.specs.Spelling.{front_line}
use Rattle.wh_front.specs.Ranges.{LineFits}
use Rattle.wh_front.specs.Reading.{Gives}
use Rattle.wh_front.specs.Drafts.{expects}
use Rattle.wh_front.specs.FirstBad.{IsNext, IsNoNext}
use Rattle.wh_front.specs.declared.reader.NextFault.TheVariants as nexts
use Rattle.wh_front.specs.Places.{miscounts, IsMiscount, fault_of}
use Rattle.wh_front.proofs.RowLaws.{row_is_line, one_row}

pub is_next : (stage : Stage) (text line rest : List ℕ) (told : Line) → text ≡ line ++ 10 ∷ rest → (line ≡ front_line told) × LineFits told → expects stage told ≡ true → IsNext stage text told rest
is_next stage text line rest told parts is may = record { fits = is.1; may = may; text_is = parts ∙ ap (λ (t : List ℕ). t ++ 10 ∷ rest) is.0 }

pub no_line : (stage : Stage) (text : List ℕ) → IsLine text → IsNoNext stage text
no_line stage text is m y next = not_whole text (front_line m) y is next.text_is

pub no_form : (stage : Stage) (text line rest : List ℕ) (result : Result Line FormFault) → IsLine line → text ≡ line ++ 10 ∷ rest
    → ((told : Line) → LineFits told → line ≡ front_line told → Gives (λ x. x) result (Some told)) → result ≡ Err faults.Form → IsNoNext stage text
no_form stage text line rest result is parts only e m y next =
    let cut = one_line line (front_line m) rest y is (row_is_line m next.fits) (sym parts ∙ next.text_is) in
    let none : Some m ≡ None = subst (λ (r : Result Line FormFault). Gives (λ x. x) r (Some m)) e (only m next.fits cut.0) in
    cc

pub not_expected : (stage : Stage) (text line rest : List ℕ) (told : Line) → IsLine line → text ≡ line ++ 10 ∷ rest → (line ≡ front_line told) × LineFits told → expects stage told ≡ false → IsNoNext stage text
not_expected stage text line rest told is parts found lacks m y next =
    let cut = one_line line (front_line m) rest y is (row_is_line m next.fits) (sym parts ∙ next.text_is) in
    let same : told ≡ m = one_row told m found.1 next.fits (sym found.0 ∙ cut.0) in
    let wrong : true ≡ false = sym next.may ∙ ap (λ (l : Line). expects stage l) (sym same) ∙ lacks in
    cc

-- ---- lines that tell of fewer or more
pub no_line_miscounts : (stage : Stage) (text : List ℕ) → IsLine text → ¬ IsMiscount stage text
no_line_miscounts stage text is m = not_whole text (front_line m.line) m.rest is m.text_is

pub no_form_miscounts : (stage : Stage) (text line rest : List ℕ) (result : Result Line FormFault) → IsLine line → text ≡ line ++ 10 ∷ rest
    → ((told : Line) → LineFits told → line ≡ front_line told → Gives (λ x. x) result (Some told)) → result ≡ Err faults.Form → ¬ IsMiscount stage text
no_form_miscounts stage text line rest result is parts only e m =
    let cut = one_line line (front_line m.line) rest m.rest is (row_is_line m.line m.fits) (sym parts ∙ m.text_is) in
    let none : Some m.line ≡ None = subst (λ (r : Result Line FormFault). Gives (λ x. x) r (Some m.line)) e (only m.line m.fits cut.0) in
    cc

pub not_miscounted : (stage : Stage) (text line rest : List ℕ) (told : Line) → IsLine line → text ≡ line ++ 10 ∷ rest → (line ≡ front_line told) × LineFits told → miscounts stage told ≡ false → ¬ IsMiscount stage text
not_miscounted stage text line rest told is parts found lacks m =
    let cut = one_line line (front_line m.line) rest m.rest is (row_is_line m.line m.fits) (sym parts ∙ m.text_is) in
    let same : told ≡ m.line = one_row told m.line found.1 m.fits (sym found.0 ∙ cut.0) in
    let wrong : true ≡ false = sym m.miscounted ∙ ap (λ (l : Line). miscounts stage l) (sym same) ∙ lacks in
    cc

pub is_miscount : (stage : Stage) (text line rest : List ℕ) (told : Line) → text ≡ line ++ 10 ∷ rest → (line ≡ front_line told) × LineFits told → miscounts stage told ≡ true → IsMiscount stage text
is_miscount stage text line rest told parts is may = record { line = told; rest = rest; fits = is.1; miscounted = may; text_is = parts ∙ ap (λ (t : List ℕ). t ++ 10 ∷ rest) is.0 }

-- ---- what a line that was not read is
pub form_of : (fault : FormFault) → fault_of fault ≡ nexts.Form → fault ≡ faults.Form
form_of faults.Form e = refl
form_of faults.NoMemory e = absurd cc

pub no_count_of : (fault : FormFault) → fault_of fault ≡ nexts.Count → ⊥
no_count_of faults.Form e = absurd cc
no_count_of faults.NoMemory e = absurd cc

-- ---- how many bytes are left
pub still_bounded : (stage : Stage) (rest : List ℕ) (line : Line) (behind : List ℕ) (number most : ℕ) → number + length rest < most → IsNext stage rest line behind → number + 1 + length behind < most
still_bounded stage rest line behind number most few next =
    let count : length (front_line line ++ 10 ∷ behind) ≡ length (front_line line) + (length behind + 1) = simp length-append (omega arith) in
    let same : length rest ≡ length (front_line line ++ 10 ∷ behind) = ap (λ (t : List ℕ). length t) next.text_is in
    omega (arith, few, count, same)
