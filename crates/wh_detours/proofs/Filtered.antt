-- the grid without the cells that are taken, path by path
use Rattle.std.proofs.Common.{◌≡◌, ◌≢◌, ℕ, ◌+◌, ◌*◌, ◌/◌, ◌%◌, ◌<◌, Some, inl, inr, ◌∙◌, List, length, get_or, set, slice_get, Bool, true, false, sym, ap, subst, length-set, get_or-set_same, get_or-set_other, arith}
use Rattle.std.proofs.lemmas.Bool.{cases_lt}
use Rattle.std.proofs.lemmas.Nat.{div-mul-add, mod-mul-add}
use Rattle.std.proofs.lemmas.Option.{get_or_from_slice_get, slice_get-get_or}
use Rattle.wh_grid.specs.declared.cell.Cell.{Cell}
use Rattle.wh_grid.specs.Grids.{Floor, IsPassable}
use Rattle.wh_path.specs.Paths.{at, last_index, path_of}
use Rattle.wh_resv.specs.Others.{Others}
use Rattle.wh_grid.proofs.Cells.{same_cell}
use Rattle.wh_search.proofs.Cells.{past_end, count-subset, marked_count-is}
use Rattle.wh_detours.specs.Taken.{IsTaken, IsLeft, IsWithoutTaken, IsFiltered, IsBarredIf}

-- where a list of marks has one, the mark stands there
marked_in : (xs : List Bool) (i : ℕ) → get_or xs i false ≡ true → i < length xs
marked_in xs i e = elim (cases_lt i (length xs)) [ inl b ↦ b | inr b ↦ absurd (past_end xs i b e) ]

pub walkable_there : (g : Floor) (c : Cell) → IsPassable g c → get_or g.walkable (c.y * g.width + c.x) false ≡ true
walkable_there g c p = get_or_from_slice_get g.walkable (c.y * g.width + c.x) true false p.is_walkable

pub walkable_below : (g : Floor) (c : Cell) → IsPassable g c → c.y * g.width + c.x < length g.walkable
walkable_below g c p = marked_in g.walkable (c.y * g.width + c.x) (walkable_there g c p)

pub walkable_is : (xs : List Bool) (i : ℕ) → get_or xs i false ≡ true → slice_get xs i ≡ Some true
walkable_is xs i e = slice_get-get_or xs i false (marked_in xs i e) ∙ ap (λ b. Some b) e

-- two cells within a row's length at one place are one
pub one_place : (w : ℕ) (c d : Cell) → c.x < w → d.x < w → c.y * w + c.x ≡ d.y * w + d.x → c ≡ d
one_place w c d a b e =
    same_cell c d (sym (mod-mul-add c.y w c.x a) ∙ ap (λ k. k % w) e ∙ mod-mul-add d.y w d.x b) (sym (div-mul-add c.y w c.x a) ∙ ap (λ k. k / w) e ∙ div-mul-add d.y w d.x b)

pub filtered_none : (g : Floor) (others : Others) (paths : List (List Cell)) → IsFiltered g others paths 0 g.walkable
filtered_none g others paths =
    record {
      size = (let z : length g.walkable ≡ length g.walkable = omega arith in z);
      each = λ c wide high. (
        (λ e. record { passable = record { in_width = wide; in_height = high; is_walkable = walkable_is g.walkable (c.y * g.width + c.x) e }; free = λ t s. absurd (let none = s.1 in omega arith) }),
        (λ l. walkable_there g c l.passable),
      );
      none_added = λ i e. e;
    }

-- a cell where the next path does not stay
left_more : (g : Floor) (others : Others) (paths : List (List Cell)) (n : ℕ) (c : Cell) → (IsTaken others c → last_index (path_of paths n) ≡ 0 → at (path_of paths n) 0 ≡ c → ⊥) → IsLeft g others paths n c → IsLeft g others paths (n + 1) c
left_more g others paths n c other l =
    record {
      passable = l.passable;
      free = λ taken s. elim (cases_lt s.0 n) [
        | inl b ↦ l.free taken (s.0, b, s.2, s.3)
        | inr b ↦ (let below = s.1 in let e : s.0 ≡ n = omega arith in
            other taken (sym (ap (λ i. last_index (path_of paths i)) e) ∙ s.2) (sym (ap (λ i. at (path_of paths i) 0) e) ∙ s.3))
      ];
    }

left_less : (g : Floor) (others : Others) (paths : List (List Cell)) (n : ℕ) (c : Cell) → IsLeft g others paths (n + 1) c → IsLeft g others paths n c
left_less g others paths n c l = record { passable = l.passable; free = λ taken s. l.free taken (s.0, (let below = s.1 in omega arith), s.2, s.3) }

-- one more path
pub filtered_more : (g : Floor) (others : Others) (paths : List (List Cell)) (n : ℕ) (walkable now : List Bool) → IsFiltered g others paths n walkable → IsBarredIf g others (path_of paths n) walkable now
    → IsFiltered g others paths (n + 1) now
filtered_more g others paths n walkable now f (inr kept) =
    let here = at (path_of paths n) 0 in
    subst (IsFiltered g others paths (n + 1)) (sym kept.0)
    (record {
      size = f.size;
      each = λ c wide high. (
        (λ e. let l = (f.each c wide high).0 e in left_more g others paths n c (λ taken stays is. kept.1 stays (subst (IsPassable g) (sym is) l.passable) (subst (IsTaken others) (sym is) taken)) l),
        (λ l. (f.each c wide high).1 (left_less g others paths n c l)),
      );
      none_added = f.none_added;
    })
filtered_more g others paths n walkable now f (inl barred) =
    let here = at (path_of paths n) 0 in
    let p = here.y * g.width + here.x in
    let less = set walkable p false in
    let within : p < length walkable = omega (arith, f.size, walkable_below g here barred.2) in
    let not_here : (i : ℕ) → get_or less i false ≡ true → i ≢ p = λ i e is. let z : false ≡ true = sym (get_or-set_same walkable p false false within) ∙ ap (λ j. get_or less j false) (sym is) ∙ e in cc in
    let other : (i : ℕ) → i ≢ p → get_or less i false ≡ get_or walkable i false = λ i apart. get_or-set_other walkable p i false false apart in
    subst (IsFiltered g others paths (n + 1)) (sym barred.0)
    (record {
      size = length-set walkable p false ∙ f.size;
      each = λ c wide high. (
        (λ e. let apart = not_here (c.y * g.width + c.x) e in
            left_more g others paths n c (λ taken stays is. apart (ap (λ (d : Cell). d.y * g.width + d.x) (sym is))) ((f.each c wide high).0 (sym (other (c.y * g.width + c.x) apart) ∙ e))),
        (λ l. let apart : c.y * g.width + c.x ≢ p = λ e.
            let is = one_place g.width here c barred.2.in_width wide (sym e) in
            l.free (subst (IsTaken others) is barred.3) (n, (let z : n < n + 1 = omega arith in z), barred.1, is) in
            other (c.y * g.width + c.x) apart ∙ (f.each c wide high).1 (left_less g others paths n c l)),
      );
      none_added = λ i e. f.none_added i (sym (other i (not_here i e)) ∙ e);
    })

-- all paths
pub filtered_all : (g : Floor) (others : Others) (paths : List (List Cell)) (walkable : List Bool) → IsFiltered g others paths (length paths) walkable
    → IsWithoutTaken g others paths (record { width = g.width; height = g.height; walkable = walkable })
filtered_all g others paths walkable f =
    record {
      width = (let z : g.width ≡ g.width = omega arith in z);
      height = (let z : g.height ≡ g.height = omega arith in z);
      each = λ c. (
        (λ p. (f.each c p.in_width p.in_height).0 (get_or_from_slice_get walkable (c.y * g.width + c.x) true false p.is_walkable)),
        (λ l. record { in_width = l.passable.in_width; in_height = l.passable.in_height; is_walkable = walkable_is walkable (c.y * g.width + c.x) ((f.each c l.passable.in_width l.passable.in_height).1 l) }),
      );
      no_more = omega (arith, count-subset walkable g.walkable f.none_added, marked_count-is walkable, marked_count-is g.walkable);
    }
