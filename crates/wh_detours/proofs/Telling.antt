-- which ways are shut, one after the other
use Rattle.std.proofs.Common.{◌≡◌, ℕ, ◌+◌, ◌<◌, inl, inr, ◌∙◌, Bool, true, false, List, length, get_or, set, Option, None, sym, ap, subst, get_or-set_same, get_or-set_other, arith}
use Rattle.std.proofs.lemmas.Bool.{cases_lt}
use Rattle.wh_grid.specs.declared.cell.Cell.{Cell}
use Rattle.wh_grid.specs.Grids.{Floor}
use Rattle.wh_path.specs.Paths.{cell_at}
use Rattle.wh_field.specs.declared.sight.Sight.{Sight}
use Rattle.wh_resv.specs.Others.{Others}
use Rattle.wh_detours.specs.Barred.{IsShut, IsClearBy, AreBarred, cell_before}

pub barred_more : (g : Floor) (others : Others) (loc : Cell) (stops : List Cell) (sights : List (Option Sight)) (barred : List Bool) (n : ℕ) (b : Bool) → n < length barred → AreBarred g others loc stops sights barred n
    → (b ≡ true → IsShut g others loc (cell_before loc stops n) (cell_at stops n)) → (b ≡ false → IsClearBy g others loc (cell_before loc stops n) (cell_at stops n) (get_or sights n None))
    → AreBarred g others loc stops sights (set barred n b) (n + 1)
barred_more g others loc stops sights barred n b within told shut clear =
    let now = set barred n b in
    let before : (i : ℕ) → i < n → get_or now i false ≡ get_or barred i false = λ i h. get_or-set_other barred n i b false (λ e. absurd (omega arith)) in
    let last : (i : ℕ) → n ≡ i → get_or now i false ≡ b = λ i e. ap (λ j. get_or now j false) (sym e) ∙ get_or-set_same barred n b false within in
    record {
      shut = λ i few e. elim (cases_lt i n) [
        | inl h ↦ told.shut i h (sym (before i h) ∙ e)
        | inr h ↦ (let same : n ≡ i = omega arith in
            subst (λ (j : ℕ). IsShut g others loc (cell_before loc stops j) (cell_at stops j)) same (shut (sym (last i same) ∙ e)))
      ];
      clear = λ i few e. elim (cases_lt i n) [
        | inl h ↦ told.clear i h (sym (before i h) ∙ e)
        | inr h ↦ (let same : n ≡ i = omega arith in
            subst (λ (j : ℕ). IsClearBy g others loc (cell_before loc stops j) (cell_at stops j) (get_or sights j None)) same (clear (sym (last i same) ∙ e)))
      ];
    }
