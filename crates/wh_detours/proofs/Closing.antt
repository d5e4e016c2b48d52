-- nobody can be at a cell that is closed, so the same paths deliver on a grid without such cells
use Rattle.std.proofs.Common.{◌≡◌, ◌≢◌, ℕ, ◌+◌, ◌*◌, ◌<◌, ◌≤◌, ◌∙◌, inl, inr, List, Bool, true, false, length, get_or, set, Option, Some, None, refl, sym, ap, subst, suc, zero, add-one, length-set, get_or-set_same, get_or-set_other, arith}
use Rattle.std.proofs.lemmas.Nat.{mul-le}
use Rattle.std.proofs.lemmas.Option.{get_or_from_slice_get}
use Rattle.wh_grid.specs.declared.cell.Cell.{Cell}
use Rattle.wh_grid.specs.Grids.{Floor, IsPassable, IsMove, passable_cells}
use Rattle.wh_path.specs.Paths.{at, cell_at, IsWalk}
use Rattle.wh_resv.specs.Others.{Others}
use Rattle.wh_resv.specs.Calls.{IsVacant}
use Rattle.wh_field.specs.declared.sight.Sight.{Sight}
use Rattle.wh_search.proofs.Cells.{count-subset, marked_count-is}
use Rattle.wh_search.specs.Deliveries.{IsDelivery, IsLawful}
use Rattle.wh_search.specs.Manhattan.{manhattan}
use Rattle.wh_search.specs.Sights.{IsSightAt, AreSightsOf}
use Rattle.wh_intervals.specs.Tasks.{IsSightOver, AreSightsOver}
use Rattle.wh_detours.specs.Closed.{IsClosed, IsWithoutClosed, AreClosed, IsClosing}
use Rattle.wh_detours.specs.Taken.{IsWithoutTaken}
use Rattle.wh_detours.proofs.Filtered.{walkable_there, walkable_below, walkable_is, one_place}

-- a move changes by at most 1 how many columns and rows it is from a cell
farther : (loc r c : Cell) → IsMove r c → manhattan loc c ≤ manhattan loc r + 1
farther loc r c (inl e) =
    let F : Cell → Type 0 = λ d. manhattan loc d ≤ manhattan loc r + 1 in
    subst F e (omega arith)
farther loc r c (inr (inl (y, inl x))) = omega (arith, y, x)
farther loc r c (inr (inl (y, inr x))) = omega (arith, y, x)
farther loc r c (inr (inr (x, inl y))) = omega (arith, y, x)
farther loc r c (inr (inr (x, inr y))) = omega (arith, y, x)

-- no walk is farther from its start than it has steps
near_start : (g : Floor) (loc : Cell) (p : List Cell) → IsWalk g p → at p 0 ≡ loc → (k : ℕ) → manhattan loc (at p k) ≤ k
near_start g loc p w starts zero = subst (λ (c : Cell). manhattan loc c ≤ 0) (sym starts) (let z : manhattan loc loc ≤ 0 = omega arith in z)
near_start g loc p w starts (suc k) =
    let e : at p (k + 1) ≡ at p (suc k) = ap (at p) (add-one k) in
    let there = subst (λ (c : Cell). manhattan loc c ≤ manhattan loc (at p k) + 1) e (farther loc (at p k) (at p (k + 1)) (w.moves k)) in
    omega (arith, there, near_start g loc p w starts k)

never_closed : (g : Floor) (others : Others) (loc : Cell) (stops p : List Cell) → IsDelivery g others loc stops p → (k : ℕ) → IsClosed others loc (at p k) → ⊥
never_closed g others loc stops p d k closed = closed k (near_start g loc p d.walk d.starts k) (λ i q b e. (d.free i q b).apart k (sym e))

pub delivers_left : (g without : Floor) (others : Others) (loc : Cell) (stops p : List Cell) → IsWithoutClosed g others loc without → IsDelivery g others loc stops p → IsDelivery without others loc stops p
delivers_left g without others loc stops p w d =
    record {
      starts = d.starts;
      walk = record { non_empty = d.walk.non_empty; passable = λ k. w.left (at p k) (d.walk.passable k) (never_closed g others loc stops p d k); moves = d.walk.moves };
      free = d.free;
      visits = d.visits;
      delivers = d.delivers;
    }

pub lawful_left : (g without : Floor) (others : Others) (loc : Cell) (stops p : List Cell) → IsWithoutClosed g others loc without → IsLawful without others loc stops p → IsLawful g others loc stops p
lawful_left g without others loc stops p w l =
    let d = l.is_delivery in
    record {
      is_delivery = record {
        starts = d.starts;
        walk = record { non_empty = d.walk.non_empty; passable = λ k. w.less (at p k) (d.walk.passable k); moves = d.walk.moves };
        free = d.free;
        visits = d.visits;
        delivers = d.delivers;
      };
      bounded = omega (arith, l.bounded, mul-le (length stops) (passable_cells without) (length stops) (passable_cells g) (omega arith) w.no_more);
    }

-- where an agent is now is no cell that is closed
pub start_open : (g without : Floor) (others : Others) (loc : Cell) → IsWithoutClosed g others loc without → IsPassable g loc → IsVacant others.paths loc 0 → IsPassable without loc
start_open g without others loc w inside clear = w.left loc inside (λ closed. closed 0 (let z : manhattan loc loc ≤ 0 = omega arith in z) clear)

-- sights of the whole grid serve there too
sight_left : (g without : Floor) (others : Others) (loc stop : Cell) (o : Option Sight) → IsWithoutClosed g others loc without → IsSightAt g o stop → IsSightOver without o stop
sight_left g without others loc stop None w h = tt
sight_left g without others loc stop (Some s) w h =
    record { more = λ c p. subst (λ (x : Floor). IsPassable x c) (sym h.0) (w.less c p); source = h.1 }

pub sights_left : (g without : Floor) (others : Others) (loc : Cell) (stops : List Cell) (sights : List (Option Sight)) → IsWithoutClosed g others loc without → AreSightsOf g stops sights → AreSightsOver without stops sights
sights_left g without others loc stops sights w h =
    record { size = h.size; each = λ l b. sight_left g without others loc (cell_at stops l) (get_or sights l None) w (h.each l b) }

-- a cell that is taken is closed
pub closed_both : (g stayed without : Floor) (others : Others) (paths : List (List Cell)) (loc : Cell) → IsWithoutTaken g others paths stayed → IsWithoutClosed stayed others loc without → IsWithoutClosed g others loc without
closed_both g stayed without others paths loc t w =
    record {
      less = λ c p. ((t.each c).0 (w.less c p)).passable;
      left = λ c p away. w.left c ((t.each c).1 (record { passable = p; free = λ taken s. away (λ j since. taken j) })) away;
      no_more = omega (arith, t.no_more, w.no_more);
    }

-- no path yet
pub closed_none : (g : Floor) (others : Others) (loc : Cell) → AreClosed g others loc g.walkable
closed_none g others loc =
    record {
      size = refl;
      left = λ c p away. walkable_there g c p;
      none_added = λ i e. e;
    }

-- one more path
pub closed_more : (g : Floor) (others : Others) (loc : Cell) (walkable now : List Bool) → AreClosed g others loc walkable → IsClosing g others loc walkable now → AreClosed g others loc now
closed_more g others loc walkable now a (inl same) = subst (AreClosed g others loc) (sym same) a
closed_more g others loc walkable now a (inr (c, is, inside, closed)) =
    let p = c.y * g.width + c.x in
    let less = set walkable p false in
    let within : p < length walkable = omega (arith, a.size, walkable_below g c inside) in
    let other : (i : ℕ) → i ≢ p → get_or less i false ≡ get_or walkable i false = λ i apart. get_or-set_other walkable p i false false apart in
    let not_here : (i : ℕ) → get_or less i false ≡ true → i ≢ p = λ i e here. let z : false ≡ true = sym (get_or-set_same walkable p false false within) ∙ ap (λ j. get_or less j false) (sym here) ∙ e in cc in
    subst (AreClosed g others loc) (sym is)
    (record {
      size = length-set walkable p false ∙ a.size;
      left = λ d there away. let apart : d.y * g.width + d.x ≢ p = λ e. away (subst (IsClosed others loc) (one_place g.width c d inside.in_width there.in_width (sym e)) closed) in
          other (d.y * g.width + d.x) apart ∙ a.left d there away;
      none_added = λ i e. a.none_added i (sym (other i (not_here i e)) ∙ e);
    })

-- all paths
pub closed_all : (g : Floor) (others : Others) (loc : Cell) (walkable : List Bool) → AreClosed g others loc walkable → IsWithoutClosed g others loc (record { width = g.width; height = g.height; walkable = walkable })
closed_all g others loc walkable a =
    record {
      less = λ c p. record {
        in_width = p.in_width;
        in_height = p.in_height;
        is_walkable = walkable_is g.walkable (c.y * g.width + c.x) (a.none_added (c.y * g.width + c.x) (get_or_from_slice_get walkable (c.y * g.width + c.x) true false p.is_walkable));
      };
      left = λ c p away. record { in_width = p.in_width; in_height = p.in_height; is_walkable = walkable_is walkable (c.y * g.width + c.x) (a.left c p away) };
      no_more = omega (arith, count-subset walkable g.walkable a.none_added, marked_count-is walkable, marked_count-is g.walkable);
    }
