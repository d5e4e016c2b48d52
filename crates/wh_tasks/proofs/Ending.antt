-- how many paths end at each cell
use Rattle.std.proofs.Common.{◌≡◌, ℕ, ◌+◌, ◌-◌, ◌<◌, ◌↔◌, ltb, List, Bool, true, false, IsTrue, cond, length, get_or, take, drop, remove, ap, refl, ◌∙◌, inl, inr, arith}
use mir.Val.{bool_byte}
use Rattle.std.specs.Prelude.{Contains}
use Rattle.std.proofs.Math.ListN.{set}
use Rattle.std.proofs.lemmas.Bool.{lt-ltb, ltb-true}
use Rattle.std.proofs.lemmas.Bool.Decides.{same_from_decides}
use Rattle.std.proofs.lemmas.List.{length-set}
use Rattle.std.proofs.lemmas.List.Sums.{sum_by-set, sum_by-remove}
use Rattle.std.proofs.lemmas.List.Elements.{Contains-append_left, Contains-append_right, Contains-append_cases}
use Rattle.wh_grid.proofs.Removed.{remove-slices}
use Rattle.wh_grid.specs.declared.cell.Cell.{Cell}
use Rattle.wh_grid.specs.Cells.{is_cell}
use Rattle.wh_grid.proofs.Cells.{is_cell-same, is_cell-itself}
use Rattle.wh_tasks.specs.CellCounts.{Tally, IsInside, IsRaised, count_of, times}
use Rattle.wh_tasks.specs.Ends.{IsCounted}
use Rattle.wh_tasks.proofs.Tallies.{times-few, times-some, contains-times, times-contains}

-- another end in place of one
times-set : (cell : Cell) (cells : List Cell) (agent : ℕ) (own new : Cell) → agent < length cells → get_or cells agent own ≡ own →
    times cell (set cells agent new) + cond (is_cell cell own) 1 0 ≡ times cell cells + cond (is_cell cell new) 1 0
times-set cell cells agent own new lt at =
    let e = sum_by-set (λ c. cond (is_cell cell c) 1 0) cells agent new own lt in
    rw at at e

-- a count leaves out one of them
pub times-remove : (cell : Cell) (cells : List Cell) (agent : ℕ) (own : Cell) → agent < length cells → get_or cells agent own ≡ own →
    times cell (remove cells agent) + cond (is_cell cell own) 1 0 ≡ times cell cells
times-remove cell cells agent own lt at =
    let e = sum_by-remove (λ c. cond (is_cell cell c) 1 0) cells agent own lt in
    rw at at e

-- the end of an agent counts
pub some-end : (tally : Tally) (cells : List Cell) (agent : ℕ) (own : Cell) → agent < length cells → get_or cells agent own ≡ own → IsCounted tally cells →
    IsInside tally.width tally.height own → 0 < count_of tally own
some-end tally cells agent own lt at is inside =
    let a = is.exact.each own inside in
    let b = times-some cells agent own lt at in
    omega arith

-- the counts after a change, where one less counts first and then one more
pub counted-set : (old mid new : Tally) (cells : List Cell) (agent : ℕ) (own cell : Cell) → agent < length cells → get_or cells agent own ≡ own → IsCounted old cells →
    IsRaised mid old (λ other. cond (is_cell other own) 1 0) → IsRaised mid new (λ other. cond (is_cell other cell) 1 0) → IsCounted new (set cells agent cell)
counted-set old mid new cells agent own cell lt at is lowered raised = record {
  few = rw length-set is.few;
  exact = record {
    each = λ other inside.
        let there = rw (raised.width, raised.height) at inside in
        let a = lowered.each other there in
        let b = raised.each other there in
        let c = is.exact.each other (rw (lowered.width, lowered.height) there) in
        let d = times-set other cells agent own cell lt at in
        omega arith;
  };
}

-- and so one more fits
pub fits-set : (old mid : Tally) (cells : List Cell) (agent : ℕ) (own cell : Cell) → agent < length cells → get_or cells agent own ≡ own → IsCounted old cells →
    IsRaised mid old (λ other. cond (is_cell other own) 1 0) → IsInside mid.width mid.height cell → count_of mid cell < 4294967295
fits-set old mid cells agent own cell lt at is lowered inside =
    let a = lowered.each cell inside in
    let c = is.exact.each cell (rw (lowered.width, lowered.height) inside) in
    let e = times-few cell cells in
    let f = is.few in
    omega arith

pub byte-bit : (b : Bool) → bool_byte b ≡ cond b 1 0
byte-bit true = refl
byte-bit false = refl

-- others than one end at a cell where more are counted there than the one
pub has-others : (cells : List Cell) (but : ℕ) (own cell : Cell) (same : Bool) (one count : ℕ) → but < length cells → get_or cells but own ≡ own →
    IsTrue same ↔ (cell ≡ own) → one ≡ cond same 1 0 → count ≡ times cell cells → IsTrue (ltb one count) ↔ Contains (remove cells but) cell
has-others cells but own cell same one count lt at is one_is count_is =
    let left = times-remove cell cells but own lt at in
    let same_is : same ≡ is_cell cell own = same_from_decides same (is_cell cell own) is (is_cell-same cell own, λ e. rw e (is_cell-itself own)) in
    let one' : one ≡ cond (is_cell cell own) 1 0 = one_is ∙ ap (λ b. cond b 1 0) same_is in (
      λ more. times-contains cell (remove cells but) (let h = ltb-true one count more in omega arith),
      λ has. lt-ltb one count (let h = contains-times cell (remove cells but) has in omega arith),
    )

-- the others are those before the one and those after it
pub lists-before : (cells : List Cell) (but : ℕ) (cell : Cell) → but < length cells → Contains (take but cells) cell → Contains (remove cells but) cell
lists-before cells but cell lt has = rw (remove-slices cells but lt) (Contains-append_left (take but cells) _ cell has)

pub lists-after : (cells : List Cell) (but : ℕ) (cell : Cell) (b : Bool) → but < length cells → ¬ Contains (take but cells) cell →
    IsTrue b ↔ Contains (take (length cells - (but + 1)) (drop (but + 1) cells)) cell → IsTrue b ↔ Contains (remove cells but) cell
lists-after cells but cell b lt none is = (
  λ t. rw (remove-slices cells but lt) (Contains-append_right (take but cells) _ cell (is.0 t)),
  λ has.
      elim (Contains-append_cases (take but cells) _ cell (rw (remove-slices cells but lt) at has)) [
        | inl before ↦ absurd (none before)
        | inr after ↦ is.1 after
      ],
)
