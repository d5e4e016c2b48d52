-- a count for each cell of a grid
use Rattle.std.proofs.Common.{◌≡◌, ℕ, ◌+◌, ◌*◌, ◌<◌, ◌≤◌, ◌/◌, ◌%◌, List, [], ◌∷◌, true, false, cond, length, get_or, ap, refl, sym, ◌∙◌, inl, inr, ◌⊎◌, arith}
use Prim.Native.Nat.{suc}
use Rattle.std.specs.Prelude.{Contains}
use Rattle.std.proofs.Math.ListN.{set}
use Rattle.std.proofs.lemmas.Nat.{div-mul-add, mod-mul-add, mul-add-lt}
use Rattle.std.proofs.lemmas.Bool.{cases_eq, cases_Bool}
use Rattle.std.proofs.lemmas.List.{get_or-set_same, get_or-set_other}
use Rattle.std.proofs.lemmas.List.Sums.{sum_by-cons, get_or-le-sum_by, count_by-le-length}
use Rattle.wh_grid.specs.declared.cell.Cell.{Cell}
use Rattle.wh_grid.specs.Cells.{is_cell}
use Rattle.wh_grid.proofs.Cells.{same_cell, is_cell-same, is_cell-itself}
use Rattle.wh_tasks.specs.CellCounts.{Tally, IsInside, IsRaised, count_of, times}

-- two cells within the sides have one place only where they are one cell
same-place : (width height : ℕ) (c d : Cell) → IsInside width height c → IsInside width height d → c.y * width + c.x ≡ d.y * width + d.x → c ≡ d
same-place width height c d c_in d_in e =
    let x : c.x ≡ d.x = sym (mod-mul-add c.y width c.x c_in.in_width) ∙ ap (λ n. n % width) e ∙ mod-mul-add d.y width d.x d_in.in_width in
    let y : c.y ≡ d.y = sym (div-mul-add c.y width c.x c_in.in_width) ∙ ap (λ n. n / width) e ∙ div-mul-add d.y width d.x d_in.in_width in
    same_cell c d x y

-- a count that is written: it is that of the cell itself, and every other is as before
written : (old : Tally) (cell : Cell) (n : ℕ) (other : Cell) → IsInside old.width old.height cell → length old.counts ≡ old.width * old.height → IsInside old.width old.height other →
    let new : Tally = record old { counts = set old.counts (cell.y * old.width + cell.x) n } in
    ((is_cell other cell ≡ true) × (count_of new other ≡ n) × (count_of old other ≡ count_of old cell)) ⊎ ((is_cell other cell ≡ false) × (count_of new other ≡ count_of old other))
written old cell n other inside size other_in =
    let width = old.width in
    elim (cases_eq (other.y * width + other.x) (cell.y * width + cell.x)) [
      | inl same ↦
          let one : other ≡ cell = same-place width old.height other cell other_in inside same in
          let there : cell.y * width + cell.x < length old.counts = rw size (mul-add-lt cell.y width cell.x old.height inside.in_height inside.in_width) in
          inl (
            rw one (is_cell-itself cell),
            rw one (get_or-set_same old.counts (cell.y * width + cell.x) n 0 there),
            ap (λ (c : Cell). count_of old c) one,
          )
      | inr apart ↦
          let not_one : is_cell other cell ≡ false =
          elim (cases_Bool (is_cell other cell)) [
            | inl e ↦ absurd (apart (ap (λ (c : Cell). c.y * width + c.x) (is_cell-same other cell e)))
            | inr e ↦ e
          ] in
          inr (not_one, get_or-set_other old.counts (cell.y * width + cell.x) (other.y * width + other.x) n 0 apart)
    ]

-- one more is written
pub raised-set : (old : Tally) (cell : Cell) (n : ℕ) → IsInside old.width old.height cell → length old.counts ≡ old.width * old.height →
    n ≡ count_of old cell + 1 → IsRaised old (record old { counts = set old.counts (cell.y * old.width + cell.x) n }) (λ other. cond (is_cell other cell) 1 0)
raised-set old cell n inside size more = record {
  width = refl;
  height = refl;
  each = λ other other_in.
      elim (written old cell n other inside size other_in) [
        | inl w ↦ rw w.0 (w.1 ∙ more ∙ ap (λ k. k + 1) (sym w.2))
        | inr w ↦ rw w.0 (let e = w.1 in omega arith)
      ];
}

-- one less is written
pub lowered-set : (old : Tally) (cell : Cell) (n : ℕ) → IsInside old.width old.height cell → length old.counts ≡ old.width * old.height →
    n + 1 ≡ count_of old cell → IsRaised (record old { counts = set old.counts (cell.y * old.width + cell.x) n }) old (λ other. cond (is_cell other cell) 1 0)
lowered-set old cell n inside size less = record {
  width = refl;
  height = refl;
  each = λ other other_in.
      elim (written old cell n other inside size other_in) [
        | inl w ↦ rw w.0 (w.2 ∙ sym less ∙ ap (λ k. k + 1) (sym w.1))
        | inr w ↦ rw w.0 (let e = w.1 in omega arith)
      ];
}

-- no cell is among cells more often than there are cells
pub times-few : (cell : Cell) (cells : List Cell) → times cell cells ≤ length cells
times-few cell cells = count_by-le-length (is_cell cell) cells

-- a cell of a list counts there
pub times-some : (cells : List Cell) (i : ℕ) (cell : Cell) → i < length cells → get_or cells i cell ≡ cell → 0 < times cell cells
times-some cells i cell lt at =
    let e = get_or-le-sum_by (λ c. cond (is_cell cell c) 1 0) cells i cell lt in
    let e' = rw (at, is_cell-itself cell) at e in
    omega arith

-- a cell is one of a list exactly where its count there is not 0
pub contains-times : (cell : Cell) (cells : List Cell) → Contains cells cell → 0 < times cell cells
contains-times cell cells has = times-some cells has.0 cell has.1 has.2

pub times-contains : (cell : Cell) (cells : List Cell) → 0 < times cell cells → Contains cells cell
times-contains cell [] some = absurd (omega arith)
times-contains cell (c ∷ cs) some =
    elim (cases_Bool (is_cell cell c)) [
      | inl e ↦ (0, omega arith, sym (is_cell-same cell c e))
      | inr e ↦
          let step : times cell (c ∷ cs) ≡ 0 + times cell cs = sum_by-cons (λ d. cond (is_cell cell d) 1 0) c cs ∙ ap (λ b. cond b 1 0 + times cell cs) e in
          let rest = times-contains cell cs (omega arith) in
          (suc rest.0, omega (arith, rest.1), rest.2)
    ]
