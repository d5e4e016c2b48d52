-- Cells and paths: what is read is so written, and what is so written is read.
use Rattle.std.proofs.Common.{◌≡◌, ℕ, ◌⊎◌, inl, inr, suc, ◌<◌, ◌≤◌, ◌^◌, ◌+◌, Bool, true, cond, List, [], ◌∷◌, ◌++◌, map, length, take, drop, Some, None, decimal, refl, ap, ◌∙◌, subst, arith, lit<, lit≤, length-append}
use Rattle.std.proofs.Math.Dec.{ltb as nat_lt, leb as nat_le}
use Rattle.std.proofs.lemmas.Bool.{cases_order, leb-true, le-leb, lt-ltb, ne_eqb, and_parts, and_from}
use Rattle.std.proofs.lemmas.List.{take_at}
use Rattle.std.specs.List.{AllByRecursion, list_all, position, position_or_len}
use Rattle.wh_text.specs.Lines.{HasNone}
use Rattle.wh_words.specs.Words.{is_plain, IsPlain}
use Rattle.wh_text.specs.Numbers.{is_digit}
use Rattle.wh_words.specs.Numerals.{numeral_of}
use Rattle.wh_words.proofs.NumeralLemmas.{numeral_found, numeral_again, decimal_digits, plain-decimal}
use Rattle.wh_grid.specs.declared.cell.Cell.{Cell}
use Rattle.wh_grid.specs.Grids.{IsMove}
use Rattle.wh_log.specs.Spelling.{cell_word}
use Rattle.wh_log.specs.Ranges.{IsInside, Follow, IsPath}
use Rattle.wh_log.specs.Reading.{◌>>=◌, apart, is_comma, coordinate_of, cell_of, next_cell_of, cells_of, path_of}
use Rattle.wh_log.proofs.Steps.{bind_some, guard_some, some_is}
use Rattle.wh_words.proofs.Cutting.{split_around}

coordinate_found : (word : List ℕ) (n : ℕ) → coordinate_of word ≡ Some n → (word ≡ decimal n) × (n ≤ 4095)
coordinate_found word n e =
    let b = bind_some (numeral_of 4 word) (λ n. cond (nat_le n 4095) (Some n) None) n e in
    let g = guard_some (nat_le b.0 4095) b.0 n b.2 in
    let f = numeral_found 4 word b.0 (lit≤ tt) b.1 in
    subst (λ (m : ℕ). (word ≡ decimal m) × (m ≤ 4095)) g.1 (f.0, leb-true _ _ g.0)

coordinate_again : (n : ℕ) → n ≤ 4095 → coordinate_of (decimal n) ≡ Some n
coordinate_again n h =
    let limit : 4095 < 10 ^ 4 = lit< tt in
    let small : nat_le n 4095 ≡ true = le-leb _ _ h in
    rw (numeral_again 4 n (lit< tt) (lit≤ tt) (omega arith), small) refl

pub cell_found : (word : List ℕ) (cell : Cell) → cell_of word ≡ Some cell → (word ≡ cell_word cell) × IsInside cell
unfolding cell_of
cell_found word cell e =
    let a = bind_some (position is_comma word) (λ i. coordinate_of (take i word) >>= λ x. coordinate_of (drop (i + 1) word) >>= λ y. Some (record { x = x; y = y })) cell e in
    let b = bind_some (coordinate_of (take a.0 word)) (λ x. coordinate_of (drop (a.0 + 1) word) >>= λ y. Some (record { x = x; y = y })) cell a.2 in
    let c = bind_some (coordinate_of (drop (a.0 + 1) word)) (λ y. Some (record { x = b.0; y = y })) cell b.2 in
    let x = coordinate_found (take a.0 word) b.0 b.1 in
    let y = coordinate_found (drop (a.0 + 1) word) c.0 c.1 in
    let parts : word ≡ take a.0 word ++ 44 ∷ drop (a.0 + 1) word = split_around 44 word a.0 a.1 in
    let made : Cell = record { x = b.0; y = c.0 } in
    let whole : word ≡ cell_word made = parts ∙ ap (λ (t : List ℕ). t ++ 44 ∷ drop (a.0 + 1) word) x.0 ∙ ap (λ (t : List ℕ). decimal b.0 ++ 44 ∷ t) y.0 in
    subst (λ (d : Cell). (word ≡ cell_word d) × IsInside d) (some_is made cell c.2) (whole, (x.1, y.1))

-- digits are no commas
no_commas : (ds : List ℕ) → list_all is_digit ds ≡ true → HasNone is_comma ds
no_commas [] h = tt
no_commas (d ∷ ds) h =
    let b = and_parts (is_digit d) (list_all is_digit ds) h in
    let low : 48 ≤ d = leb-true _ _ ((and_parts (nat_le 48 d) (nat_le d 57) b.0).0) in
    (ne_eqb d 44 (λ e. absurd (omega arith)), no_commas ds b.1)

position_past : (p : ℕ → Bool) (xs ys : List ℕ) (b : ℕ) → HasNone p xs → p b ≡ true → position_or_len p (xs ++ b ∷ ys) ≡ length xs
position_past p [] ys b none is = rw is refl
position_past p (x ∷ xs) ys b none is = rw (none.0, position_past p xs ys b none.1 is) (omega arith)

position_is : (p : ℕ → Bool) (xs ys : List ℕ) (b : ℕ) → HasNone p xs → p b ≡ true → position p (xs ++ b ∷ ys) ≡ Some (length xs)
position_is p xs ys b none is =
    let at = position_past p xs ys b none is in
    let inside : nat_lt (length xs) (length (xs ++ b ∷ ys)) ≡ true = lt-ltb _ _ (simp length-append (omega arith)) in
    rw (at, inside) refl

pub cell_again : (cell : Cell) → IsInside cell → cell_of (cell_word cell) ≡ Some cell
unfolding cell_of
cell_again cell h =
    let limit : 4095 < 2 ^ 64 = lit< tt in
    let digits = decimal_digits cell.x (omega (arith, h.0)) in
    let at : position is_comma (cell_word cell) ≡ Some (length (decimal cell.x)) = position_is is_comma (decimal cell.x) (decimal cell.y) 44 (no_commas (decimal cell.x) digits) refl in
    rw (at, take_at (decimal cell.x) (44 ∷ decimal cell.y) (length (decimal cell.x)) refl, drop_past (decimal cell.x) (decimal cell.y) 44, coordinate_again cell.x h.0, coordinate_again cell.y h.1) refl
  where
    drop_past : (xs ys : List ℕ) (b : ℕ) → drop (length xs + 1) (xs ++ b ∷ ys) ≡ ys
    drop_past xs ys b = step xs
      where
        step : (xs : List ℕ) → drop (length xs + 1) (xs ++ b ∷ ys) ≡ ys
        step [] = refl
        step (x ∷ xs) = let one : suc (length xs) + 1 ≡ suc (length xs + 1) = omega arith in rw one (step xs)

same_cell : (a b : Cell) → a.x ≡ b.x → a.y ≡ b.y → a ≡ b
same_cell a b p q = let e : record { x = a.x; y = a.y } ≡ record { x = b.x; y = b.y } = rw (p, q) refl in e

-- cells are at most one step apart where one is a move from the other
pub near_move : (a b : Cell) → apart a b ≤ 1 → IsMove a b
near_move a b near = go (cases_order a.x b.x) (cases_order a.y b.y)
  where
    go : (a.x ≡ b.x) ⊎ ((a.x < b.x) ⊎ (b.x < a.x)) → (a.y ≡ b.y) ⊎ ((a.y < b.y) ⊎ (b.y < a.y)) → IsMove a b
    go (inl x) (inl y) = inl (same_cell a b x y)
    go (inl x) (inr (inl y)) = inr (inr (x, inl (omega arith)))
    go (inl x) (inr (inr y)) = inr (inr (x, inr (omega arith)))
    go (inr (inl x)) y = inr (inl (omega arith, inl (omega arith)))
    go (inr (inr x)) y = inr (inl (omega arith, inr (omega arith)))

move_near : (a b : Cell) → IsMove a b → apart a b ≤ 1
move_near a b (inl e) = let x : a.x ≡ b.x = ap (λ (c : Cell). c.x) e in let y : a.y ≡ b.y = ap (λ (c : Cell). c.y) e in omega arith
move_near a b (inr (inl (y, inl x))) = omega arith
move_near a b (inr (inl (y, inr x))) = omega arith
move_near a b (inr (inr (x, inl y))) = omega arith
move_near a b (inr (inr (x, inr y))) = omega arith

next_found : (last : Cell) (word : List ℕ) (cell : Cell) → next_cell_of last word ≡ Some cell → (word ≡ cell_word cell) × IsInside cell × IsMove last cell
next_found last word cell e =
    let b = bind_some (cell_of word) (λ cell. cond (nat_le (apart last cell) 1) (Some cell) None) cell e in
    let g = guard_some (nat_le (apart last b.0) 1) b.0 cell b.2 in
    let f = cell_found word b.0 b.1 in
    subst (λ (d : Cell). (word ≡ cell_word d) × IsInside d × IsMove last d) g.1 (f.0, f.1, near_move last b.0 (leb-true _ _ g.0))

next_again : (last cell : Cell) → IsInside cell → IsMove last cell → next_cell_of last (cell_word cell) ≡ Some cell
next_again last cell h near =
    let small : nat_le (apart last cell) 1 ≡ true = le-leb _ _ (move_near last cell near) in
    rw (cell_again cell h, small) refl

cells_found : (last : Cell) (words : List (List ℕ)) (cells : List Cell) → cells_of last words ≡ Some cells → (words ≡ map cell_word cells) × AllByRecursion IsInside cells × Follow last cells
unfolding cells_of
cells_found last [] cells e = subst (λ (ds : List Cell). ([] ≡ map cell_word ds) × AllByRecursion IsInside ds × Follow last ds) (some_is [] cells e) (refl, tt, tt)
cells_found last (word ∷ words) cells e =
    let a = bind_some (next_cell_of last word) (λ cell. cells_of cell words >>= λ cells. Some (cell ∷ cells)) cells e in
    let b = bind_some (cells_of a.0 words) (λ cells. Some (a.0 ∷ cells)) cells a.2 in
    let f = next_found last word a.0 a.1 in
    let rest = cells_found a.0 words b.0 b.1 in
    let whole : word ∷ words ≡ cell_word a.0 ∷ map cell_word b.0 = ap (λ (w : List ℕ). w ∷ words) f.0 ∙ ap (λ (ws : List (List ℕ)). cell_word a.0 ∷ ws) rest.0 in
    subst (λ (ds : List Cell). (word ∷ words ≡ map cell_word ds) × AllByRecursion IsInside ds × Follow last ds) (some_is (a.0 ∷ b.0) cells b.2) (whole, (f.1, rest.1), (f.2, rest.2))

cells_again : (last : Cell) (cells : List Cell) → AllByRecursion IsInside cells → Follow last cells → cells_of last (map cell_word cells) ≡ Some cells
unfolding cells_of
cells_again last [] inside follow = refl
cells_again last (cell ∷ cells) inside follow = rw (next_again last cell inside.0 follow.0, cells_again cell cells inside.1 follow.1) refl

pub path_found : (words : List (List ℕ)) (path : List Cell) → path_of words ≡ Some path → (words ≡ map cell_word path) × IsPath path
unfolding path_of
path_found [] path e = absurd cc
path_found (word ∷ words) path e =
    let a = bind_some (cell_of word) (λ cell. cells_of cell words >>= λ cells. Some (cell ∷ cells)) path e in
    let b = bind_some (cells_of a.0 words) (λ cells. Some (a.0 ∷ cells)) path a.2 in
    let f = cell_found word a.0 a.1 in
    let rest = cells_found a.0 words b.0 b.1 in
    let whole : word ∷ words ≡ cell_word a.0 ∷ map cell_word b.0 = ap (λ (w : List ℕ). w ∷ words) f.0 ∙ ap (λ (ws : List (List ℕ)). cell_word a.0 ∷ ws) rest.0 in
    subst (λ (ds : List Cell). (word ∷ words ≡ map cell_word ds) × IsPath ds) (some_is (a.0 ∷ b.0) path b.2) (whole, ((f.1, rest.1), rest.2))

pub path_again : (path : List Cell) → IsPath path → path_of (map cell_word path) ≡ Some path
unfolding path_of
path_again [] h = absurd h
path_again (cell ∷ cells) h = rw (cell_again cell h.0.0, cells_again cell cells h.0.1 h.1) refl

-- a cell's word is plain
plain-append : (xs ys : List ℕ) → IsPlain xs → IsPlain ys → IsPlain (xs ++ ys)
plain-append [] ys p q = q
plain-append (x ∷ xs) ys p q = let b = and_parts (is_plain x) (list_all is_plain xs) p in and_from (is_plain x) (list_all is_plain (xs ++ ys)) b.0 (plain-append xs ys b.1 q)

pub cell_plain : (cell : Cell) → IsInside cell → IsPlain (cell_word cell)
cell_plain cell h =
    let limit : 4095 < 2 ^ 64 = lit< tt in
    plain-append (decimal cell.x) (44 ∷ decimal cell.y) (plain-decimal cell.x (omega (arith, h.0))) (plain-decimal cell.y (omega (arith, h.1)))

pub cells_plain : (cells : List Cell) → AllByRecursion IsInside cells → AllByRecursion IsPlain (map cell_word cells)
cells_plain [] h = tt
cells_plain (cell ∷ cells) h = (cell_plain cell h.0, cells_plain cells h.1)

pub path_plain : (path : List Cell) → IsPath path → AllByRecursion IsPlain (map cell_word path)
path_plain [] h = absurd h
path_plain (cell ∷ cells) h = cells_plain (cell ∷ cells) h.0
