-- the walk down a field, round cells that are closed
use Rattle.std.proofs.Common.{◌≡◌, ℕ, ◌+◌, ◌-◌, ◌<◌, ◌≤◌, inl, inr, ◌∙◌, List, [], ◌∷◌, ◌++◌, length, get_or, min, Contains, Option, Some, None, IsSomeAnd, sym, ap, subst, arith}
use Rattle.std.proofs.lemmas.Bool.{cases_lt}
use Rattle.std.proofs.lemmas.List.{length_push, get_or_default}
use Rattle.wh_grid.specs.declared.cell.Cell.{Cell}
use Rattle.wh_grid.specs.Grids.{Floor, IsPassable, IsMove}
use Rattle.wh_path.specs.Paths.{at, last_index}
use Rattle.wh_path.proofs.AtLemmas.{origin, at-old, at-new}
use Rattle.wh_path.proofs.WalkLemmas.{walk_one, walk_push, move_back}
use Rattle.wh_path.specs.Walks.{IsWalkBetween}
use Rattle.wh_field.specs.Distances.{IsDistance, distance}
use Rattle.wh_field.specs.Growing.{capped}
use Rattle.wh_field.specs.Sides.{around}
use Rattle.wh_field.specs.declared.sight.Sight.{Sight}
use Rattle.wh_field.proofs.DistanceLaws.{distance_is, distance_back, distance_falls}
use Rattle.wh_resv.specs.Others.{Others}
use Rattle.wh_detours.specs.Closed.{IsClosed}
use Rattle.wh_detours.specs.Barred.{IsShut, IsClearWay, IsClearWithin, sighted, IsNearer, IsStuck, IsOnWay}

capped_known : (o : Option ℕ) (level : ℕ) → capped o level ≤ level → o ≡ Some (capped o level)
capped_known None level h = absurd (omega arith)
capped_known (Some n) level h = ap (λ (x : ℕ). Some x) (let e : n ≡ min n (level + 1) = omega arith in e)

capped_some : (o : Option ℕ) (level n : ℕ) → o ≡ Some n → n ≤ level → capped o level ≡ n
capped_some o level n e h = ap (λ x. capped x level) e ∙ (let z : min n (level + 1) ≡ n = omega arith in z)

walked : (g : Floor) (from c : Cell) (n : ℕ) → distance g from c ≡ Some n → IsDistance g from c (Some n)
walked g from c n e = subst (IsDistance g from c) e (distance_is g from c)

inside : (g : Floor) (from c : Cell) (n : ℕ) → distance g from c ≡ Some n → IsPassable g c
inside g from c n e = let h = walked g from c n e in subst (IsPassable g) h.1.walk.ends (h.1.walk.walk.passable (last_index h.0))

-- what a sight estimates, on this grid
sighted_is : (g : Floor) (s : Sight) (c : Cell) → s.field.now.grid ≡ g → sighted s c ≡ capped (distance g s.field.now.cell c) s.level
sighted_is g s c e = ap (λ (x : Floor). capped (distance x s.field.now.cell c) s.level) e

at_most : (m k : ℕ) (o : Option ℕ) → o ≡ Some m → IsSomeAnd o (λ n. n ≤ k) → m ≤ k
at_most m k o e h = subst (λ (x : Option ℕ). IsSomeAnd x (λ n. n ≤ k)) e h

-- one step nearer is just one
one_nearer : (g : Floor) (stop c d : Cell) (m level : ℕ) → distance g stop c ≡ Some m → m ≤ level → IsMove c d → capped (distance g stop d) level < m → distance g stop d ≡ Some (m - 1)
one_nearer g stop c d m level e h move less =
    let k = capped (distance g stop d) level in
    let known : distance g stop d ≡ Some k = capped_known (distance g stop d) level (omega arith) in
    let falls = at_most m (k + 1) (distance g stop c) e (distance_falls g stop d c k (inside g stop c m e) (move_back c d move) known) in
    known ∙ ap (λ (x : ℕ). Some x) (let z : k ≡ m - 1 = omega arith in z)

-- how far it is from where it starts
pub way_whole : (g : Floor) (from : Cell) (s : Sight) (whole : ℕ) → s.field.now.grid ≡ g → whole ≡ sighted s from → whole ≤ s.level → distance g s.field.now.cell from ≡ Some whole
way_whole g from s whole e is h =
    let n : whole ≡ capped (distance g s.field.now.cell from) s.level = is ∙ sighted_is g s from e in
    capped_known (distance g s.field.now.cell from) s.level (omega arith) ∙ ap (λ (x : ℕ). Some x) (sym n)

-- at the start
pub way_start : (g : Floor) (others : Others) (loc from : Cell) (s : Sight) (whole : ℕ) → s.field.now.grid ≡ g → whole ≡ sighted s from → whole ≤ s.level → IsOnWay g others loc from s.field.now.cell from whole whole
way_start g others loc from s whole e is h =
    let far = way_whole g from s whole e is h in
    record {
      path = from ∷ [];
      walk = walk_one g from (inside g s.field.now.cell from whole far);
      size = (let z : length (from ∷ []) + whole ≡ whole + 1 = omega arith in z);
      free = λ k late few. absurd (omega arith);
      far = far;
    }

-- as many steps are left as the sight tells
pub way_left : (g : Floor) (others : Others) (loc from c : Cell) (s : Sight) (whole left : ℕ) → s.field.now.grid ≡ g → left ≤ s.level → IsOnWay g others loc from s.field.now.cell c whole left → left ≡ sighted s c
way_left g others loc from c s whole left e h w = sym (sighted_is g s c e ∙ capped_some (distance g s.field.now.cell c) s.level left w.far h)

-- one step on
pub way_on : (g : Floor) (others : Others) (loc from c d : Cell) (s : Sight) (whole left : ℕ) → s.field.now.grid ≡ g → left ≤ s.level → IsOnWay g others loc from s.field.now.cell c whole left → IsNearer others loc s c d
    → IsOnWay g others loc from s.field.now.cell d whole (left - 1)
way_on g others loc from c d s whole left e h w n =
    let stop = s.field.now.cell in
    let low : capped (distance g stop d) s.level < left = omega (arith, n.nearer, sighted_is g s d e, sighted_is g s c e, capped_some (distance g stop c) s.level left w.far h) in
    let far = one_nearer g stop c d left s.level w.far h n.move low in
    let longer = length_push w.path d in
    let some = w.walk.walk.non_empty in
    record {
      path = w.path ++ d ∷ [];
      walk = walk_push g from c d w.path w.walk (inside g stop d (left - 1) far) n.move;
      size = (let size = w.size in omega arith);
      free = λ k late few. elim (cases_lt k (length w.path)) [
        | inl old ↦ subst (λ (x : Cell). IsClosed others loc x → ⊥) (sym (at-old w.path d k old)) (w.free k late (omega arith))
        | inr new ↦ subst (λ (x : Cell). IsClosed others loc x → ⊥) (sym (at-new w.path d k new)) n.free
      ];
      far = far;
    }

-- at the stop
pub way_clear : (g : Floor) (others : Others) (loc from stop c : Cell) (whole n : ℕ) → IsOnWay g others loc from stop c whole 0 → distance g stop from ≡ Some n → n ≡ whole → (p : List Cell) × IsClearWay g others loc from stop p
way_clear g others loc from stop c whole n w e is =
    let h = walked g stop c 0 w.far in
    let same : c ≡ stop = sym (sym h.1.walk.starts ∙ ap (at h.0) (sym h.2) ∙ h.1.walk.ends) in
    let back = walked g from stop n (distance_back g from stop ∙ e) in
    let size = w.size in
    let long = back.2 in (
      w.path,
      record {
        least = record {
          walk = subst (λ (x : Cell). IsWalkBetween g from x w.path) same w.walk;
          least = λ q v. let l = back.1.least q v in omega arith;
        };
        free = w.free;
      },
    )

-- where it is stuck
pub way_shut : (g : Floor) (others : Others) (loc from c : Cell) (s : Sight) (whole left : ℕ) → s.field.now.grid ≡ g → whole ≡ sighted s from → whole ≤ s.level → 0 < left → left ≤ whole → IsOnWay g others loc from s.field.now.cell c whole left
    → IsStuck g others loc s c → IsShut g others loc from s.field.now.cell
way_shut g others loc from c s whole left e is h some few w stuck =
    let stop = s.field.now.cell in
    let next : left ≡ left - 1 + 1 = omega arith in
    record {
      whole = whole;
      start = way_whole g from s whole e is h;
      cell = c;
      left = left - 1;
      way = subst (λ (n : ℕ). IsOnWay g others loc from stop c whole n) next w;
      taken = λ d adjacent near. stuck d (inside g stop d (left - 1) near) (inr adjacent)
          (omega (arith, sighted_is g s d e, sighted_is g s c e, capped_some (distance g stop c) s.level left w.far (omega arith), capped_some (distance g stop d) s.level (left - 1) near (omega arith)));
    }

-- where the walk leads to the stop, or the stop is farther than the sight goes
pub clear_within : (g : Floor) (others : Others) (loc from c : Cell) (s : Sight) (whole : ℕ) → s.field.now.grid ≡ g → whole ≡ sighted s from → IsOnWay g others loc from s.field.now.cell c whole 0 → IsClearWithin g others loc from s.field.now.cell s.level
clear_within g others loc from c s whole e is w = λ n far few.
    way_clear g others loc from s.field.now.cell c whole n w far (omega (arith, is, sighted_is g s from e, capped_some (distance g s.field.now.cell from) s.level n far few))

pub clear_beyond : (g : Floor) (others : Others) (loc from : Cell) (s : Sight) (whole : ℕ) → s.field.now.grid ≡ g → whole ≡ sighted s from → s.level < whole → IsClearWithin g others loc from s.field.now.cell s.level
clear_beyond g others loc from s whole e is over = λ n far few. absurd (omega (arith, is, sighted_is g s from e, capped_some (distance g s.field.now.cell from) s.level n far few))

-- where each of the cells beside it that is nearer is closed, it is stuck
pub all_tried : (g : Floor) (others : Others) (loc : Cell) (s : Sight) (cell : Cell) (moves : List Cell) → moves ≡ around cell → length moves ≡ 5 → ((d : Cell) → d.x < 65536 → d.y < 65536 → IsMove cell d → Contains moves d) → g.width ≤ 4096 → g.height ≤ 4096
    → ((j : ℕ) → 1 ≤ j → j < 5 → sighted s (get_or (around cell) j origin) < sighted s cell → IsClosed others loc (get_or (around cell) j origin)) → IsStuck g others loc s cell
all_tried g others loc s cell moves same five complete narrow low tried = λ d at_d move less.
    let h = complete d (let x = at_d.in_width in omega arith) (let y = at_d.in_height in omega arith) move in
    let is : get_or (around cell) h.0 origin ≡ d = ap (λ (xs : List Cell). get_or xs h.0 origin) (sym same) ∙ get_or_default moves h.0 origin d h.1 ∙ h.2 in
    elim (cases_lt 0 h.0) [
      | inl later ↦ subst (IsClosed others loc) is (tried h.0 (omega arith) (let b = h.1 in omega arith) (subst (λ (x : Cell). sighted s x < sighted s cell) (sym is) less))
      | inr first ↦ absurd (let z : cell ≡ d = ap (λ i. get_or (around cell) i origin) (let e : 0 ≡ h.0 = omega arith in e) ∙ is in
          let no : sighted s cell < sighted s cell = subst (λ (x : Cell). sighted s x < sighted s cell) (sym z) less in omega arith)
    ]
