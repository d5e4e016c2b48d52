-- the fields of some stops, one after the other
use Rattle.std.proofs.Common.{◌≡◌, ℕ, ◌+◌, inl, inr, ◌∙◌, Bool, false, List, [], ◌∷◌, ◌++◌, get_or, Option, None, sym, ap, subst, length-append, arith}
use Rattle.std.proofs.Math.Seq.{get_or-append_seam}
use Rattle.std.proofs.lemmas.Bool.{cases_lt}
use Rattle.std.proofs.lemmas.List.{get_or_append_left}
use Rattle.wh_grid.specs.declared.cell.Cell.{Cell}
use Rattle.wh_grid.specs.Grids.{Floor}
use Rattle.wh_path.specs.Paths.{cell_at}
use Rattle.wh_detours.specs.Barred.{cell_before}
use Rattle.wh_detours.specs.Filled.{IsFilledIf, AreFilled}
use Rattle.wh_detours.specs.declared.filled.Filled.{Filled}

pub filled_more : (g : Floor) (loc : Cell) (stops : List Cell) (wanted : List Bool) (n : ℕ) (fields : List (Option Filled)) (next : Option Filled) → AreFilled g loc stops wanted n fields
    → IsFilledIf g (cell_before loc stops n) (cell_at stops n) (get_or wanted n false) next → AreFilled g loc stops wanted (n + 1) (fields ++ next ∷ [])
filled_more g loc stops wanted n fields next are is =
    record {
      size = omega (arith, length-append fields (next ∷ []), are.size);
      each = λ l b. elim (cases_lt l n) [
        | inl h ↦ subst (λ (x : Option Filled). IsFilledIf g (cell_before loc stops l) (cell_at stops l) (get_or wanted l false) x) (sym (get_or_append_left fields (next ∷ []) None l (omega (arith, are.size)))) (are.each l h)
        | inr h ↦ (let e : n ≡ l = omega arith in
            let last : get_or (fields ++ next ∷ []) l None ≡ next = ap (λ i. get_or (fields ++ next ∷ []) i None) (sym e ∙ sym are.size) ∙ get_or-append_seam fields next [] None in
            subst (λ (x : Option Filled). IsFilledIf g (cell_before loc stops l) (cell_at stops l) (get_or wanted l false) x) (sym last)
            (subst (λ (i : ℕ). IsFilledIf g (cell_before loc stops i) (cell_at stops i) (get_or wanted i false) next) e is))
      ];
    }
