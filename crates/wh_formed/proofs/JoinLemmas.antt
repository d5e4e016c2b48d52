-- points that a step from open cells leads to are joined
use Rattle.std.proofs.Common.{◌≡◌, ℕ, ◌-◌, ◌<◌, ◌⊎◌, inl, inr, ◌↔◌, ◌∙◌, List, [], ◌∷◌, ◌++◌, length, zero, suc, refl, sym, ap, subst, Contains, Option, Some, None, arith, add-one}
use Rattle.std.proofs.lemmas.Bool.{cases_lt}
use Rattle.std.proofs.lemmas.List.{get_or-map, get_or_default, length-map}
use Rattle.wh_grid.specs.declared.cell.Cell.{Cell}
use Rattle.wh_grid.specs.Grids.{Floor, IsMove, IsPassable}
use Rattle.wh_grid.proofs.Pigeons.{cell_cases}
use Rattle.wh_path.specs.Paths.{at, last_index}
use Rattle.wh_path.specs.Walks.{IsWalkBetween}
use Rattle.wh_path.proofs.AtLemmas.{at-old, at-new, at-one}
use Rattle.wh_path.proofs.WalkLemmas.{walk_one, walk_push, walk_reverse, at-reverse}
use Rattle.wh_points.specs.declared.points.Point.{Point}
use Rattle.wh_points.specs.Points.{Layout, Site, IsPointCell, point_at}
use Rattle.wh_points.specs.Formed.{IsJoin}
use Rattle.wh_formed.specs.Fills.{IsOpen, IsReached, Reaches}
use Rattle.wh_path.specs.Paths.{cell_at}
use Rattle.wh_formed.specs.Cuts.{cells_of, IsCutOf, IsFirstFailing}
use Rattle.wh_formed.specs.Verdicts.{AreJoined, JoinedBy, cell_of}

-- Part 1: the cells of the points

-- the cell of a number
pub nth-cells_of : (layout : Layout) (n : ℕ) → n < length layout.points → cell_at (cells_of layout) n ≡ cell_of layout n
nth-cells_of layout n h = get_or-map (λ (p : Point). p.cell) layout.points n _ _ h

-- a point has its cell
pub has_point : (layout : Layout) (n : ℕ) → n < length layout.points → IsPointCell layout (cell_of layout n)
has_point layout n h =
    let p = point_at layout.points n in
    (p.name, (p.kind, (n, h, get_or_default layout.points n p _ h)))

-- a cell of a point has its number
pub number_of_point : (layout : Layout) (c : Cell) → IsPointCell layout c → (n : ℕ) × (n < length layout.points) × (cell_of layout n ≡ c)
number_of_point layout c h =
    let at = h.1.1 in
    (at.0, at.1, ap (λ (p : Point). p.cell) (get_or_default layout.points at.0 _ (record { name = h.0; cell = c; kind = h.1.0 }) at.1 ∙ at.2))

pub listed_point : (layout : Layout) (c : Cell) → Contains (cells_of layout) c ↔ IsPointCell layout c
listed_point layout c = (
  λ h.
      (let size = length-map layout.points (λ (p : Point). p.cell) in
      let k = h.0 in
      let within : k < length layout.points = (let b = h.1 in omega arith) in
      subst (IsPointCell layout) (sym (nth-cells_of layout k within) ∙ (get_or_default (cells_of layout) k _ c h.1 ∙ h.2)) (has_point layout k within)),
  λ h.
      (let size = length-map layout.points (λ (p : Point). p.cell) in
      let n = number_of_point layout c h in
      let within : n.0 < length (cells_of layout) = (let b = n.1 in omega arith) in
      (n.0, within, get_or_default (cells_of layout) n.0 c _ within ∙ (nth-cells_of layout n.0 n.1 ∙ n.2))),
)

-- Part 2: a walk from a to b that meets no third point shows that b is one step from a cell that is reached

-- passable, and no point
abbrev pub IsFree : Site → Cell → Type 0
IsFree site c = IsOpen site.grid (cells_of site.layout) c

-- one step from a cell that is reached leads to b
abbrev pub Leads : Site → Cell → Cell → Type 0
Leads site a b = (r : Cell) × IsReached site.grid (IsFree site) a r × IsMove r b

module _ (site : Site) (a b : Cell) (p : List Cell) (w : IsJoin site a b p) where
  -- at each time, b was met before, or the walk stands on a cell that is reached
  pub goes : (k : ℕ) → Leads site a b ⊎ IsReached site.grid (IsFree site) a (at p k)
  goes zero = inr (0, (subst (IsPassable site.grid) w.between.starts (w.between.walk.passable 0), w.between.starts))
  goes (suc k) =
      elim (goes k) [
        | inl l ↦ inl l
        | inr r ↦
            (let next : IsMove (at p k) (at p (suc k)) = subst (λ (i : ℕ). IsMove (at p k) (at p i)) (add-one k) (w.between.walk.moves k) in
            elim (cell_cases (at p (suc k)) b) [
              | inl e ↦ inl (at p k, r, subst (IsMove (at p k)) e next)
              | inr not_b ↦
                  elim (cell_cases (at p (suc k)) a) [
                    | inl e ↦ inr (0, (subst (IsPassable site.grid) e (w.between.walk.passable (suc k)), e))
                    | inr not_a ↦
                        inr (
                          suc r.0,
                          (
                            at p k,
                            r.1,
                            next,
                            record {
                              passable = w.between.walk.passable (suc k);
                              no_point = λ h. elim (w.no_third (suc k) ((listed_point site.layout (at p (suc k))).0 h)) [ inl e ↦ not_a e | inr e ↦ not_b e ];
                            },
                          ),
                        )
                  ]
            ])
      ]

  pub leads : Leads site a b
  leads = elim (goes (last_index p)) [ inl l ↦ l | inr r ↦ (at p (last_index p), r, inl w.between.ends) ]

-- Part 3: who is reached stands at the end of a walk through open cells, and one more step joins

-- a walk from a of which each cell is a or open
pub record IsOpenWalk (site : Site) (a c : Cell) (p : List Cell) : Type 0 where
  pub between : IsWalkBetween site.grid a c p
  pub free : (k : ℕ) → (at p k ≡ a) ⊎ IsFree site (at p k)

-- a fact of each time, of a path that is one cell longer
pub at-push-all : (P : Cell → Type 0) (p : List Cell) (c : Cell) → ((k : ℕ) → P (at p k)) → P c → (k : ℕ) → P (at (p ++ c ∷ []) k)
at-push-all P p c f h k =
    elim (cases_lt k (length p)) [
      | inl b ↦ subst P (sym (at-old p c k b)) (f k)
      | inr b ↦ subst P (sym (at-new p c k b)) h
    ]

pub walk_of : (site : Site) (a : Cell) (n : ℕ) (c : Cell) → Reaches site.grid (IsFree site) a n c → (p : List Cell) × IsOpenWalk site a c p
walk_of site a zero c r =
    (a ∷ [], subst (λ d. IsOpenWalk site a d (a ∷ [])) (sym r.1) (record { between = walk_one site.grid a r.0; free = λ k. inl (at-one a k) }))
walk_of site a (suc n) c r =
    let before = walk_of site a n r.0 r.1 in
    let p = before.0 in
    let w = before.1 in (
      p ++ c ∷ [],
      record {
        between = walk_push site.grid a r.0 c p w.between r.3.passable r.2;
        free = at-push-all (λ d. (d ≡ a) ⊎ IsFree site d) p c w.free (inr r.3);
      },
    )

pub joins : (site : Site) (a b : Cell) → IsPassable site.grid b → Leads site a b → JoinedBy site a b
joins site a b h l =
    let before = walk_of site a (l.1.0) l.0 (l.1.1) in
    let p = before.0 in
    let w = before.1 in (
      p ++ b ∷ [],
      record {
        between = walk_push site.grid a l.0 b p w.between h l.2;
        no_third =
            at-push-all (λ d. IsPointCell site.layout d → (d ≡ a) ⊎ (d ≡ b)) p b
            (λ k c. elim (w.free k) [ inl e ↦ inl e | inr o ↦ absurd (o.no_point ((listed_point site.layout (at p k)).1 c)) ]) (λ c. inr refl);
      },
    )

pub joined_is_passable : (site : Site) (a b : Cell) → JoinedBy site a b → IsPassable site.grid b
joined_is_passable site a b j = subst (IsPassable site.grid) j.1.between.ends (j.1.between.walk.passable (last_index j.0))

-- who is joined one way is joined the other way
pub joined_back : (site : Site) (a b : Cell) → JoinedBy site a b → JoinedBy site b a
joined_back site a b j =
    let p = j.0 in
    let back = at-reverse p in (
      _,
      record {
        between = walk_reverse site.grid a b p j.1.between;
        no_third = λ k. subst (λ d. IsPointCell site.layout d → (d ≡ b) ⊎ (d ≡ a)) (sym (back k j.1.between.walk.non_empty))
            (λ h. elim (j.1.no_third (last_index p - k) h) [ inl e ↦ inr e | inr e ↦ inl e ]);
      },
    )

-- the same cells are reached where the same may be entered
pub reaches-same : (g : Floor) (P Q : Cell → Type 0) (a : Cell) → ((c : Cell) → P c → Q c) → (n : ℕ) (c : Cell) → Reaches g P a n c → Reaches g Q a n c
reaches-same g P Q a t zero c r = r
reaches-same g P Q a t (suc n) c r = (r.0, reaches-same g P Q a t n r.0 r.1, r.2, t c r.3)

-- Part 4: from the joined points to the first cut

-- T is the test of the code
module _ (site : Site) (a : ℕ) (T : ℕ → Type 0) (joined : (b : ℕ) → b < length site.layout.points → T b ↔ AreJoined site a b) where
  pub cut_by_test : (r : Option ℕ) → IsFirstFailing T a (length site.layout.points) r → IsCutOf site a r
  cut_by_test None h = λ b low high. (joined b high).0 (h b low high)
  cut_by_test (Some b) h =
      let inside = h.1 in
      (h.0, inside, λ j. h.2 ((joined b inside).1 j), λ l low high. (joined l (omega arith)).0 (h.3 l low high))
