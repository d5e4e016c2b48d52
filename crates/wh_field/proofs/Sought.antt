-- which cells are sought, and how far the first of them is
use Rattle.std.proofs.Common.{◌≡◌, ◌≢◌, ℕ, ◌+◌, ◌<◌, ◌≤◌, ◌⊎◌, ◌↔◌, inl, inr, ◌∙◌, List, [], ◌∷◌, Bool, true, false, nat_eq, length, get_or, set, map, replicate, refl, sym, ap, subst, suc, get_or-set_same, get_or-set_other, IsTrue, Some, None, arith}
use Rattle.std.proofs.lemmas.Bool.{cases_lt, cases_eq, and_parts, and_from, ltb-true, lt-ltb, eqb-true, eq-eqb, ne_eqb}
use Rattle.std.proofs.lemmas.List.{get_or-replicate, get_or_past, length-replicate}
use Rattle.std.proofs.Math.ListN.{get_or-map}
use Rattle.wh_grid.specs.declared.cell.Cell.{Cell}
use Rattle.wh_grid.specs.Grids.{Floor}
use Rattle.wh_path.specs.Paths.{at, last_index}
use Rattle.wh_path.specs.Walks.{IsWalkBetween}
use Rattle.wh_field.specs.Fields.{Seeking}
use Rattle.wh_field.specs.Lazy.{is_sought, nowhere}
use Rattle.wh_field.specs.Distances.{IsDistance, IsDistanceToFirst}
use Rattle.wh_field.specs.Tables.{value, blocked, HasMark, IsLeastMet, IsLevelled}
use Rattle.wh_field.specs.Places.{place, places, IsSurveying}
use Rattle.wh_field.proofs.Places.{place_one}
use Rattle.wh_field.proofs.Starts.{ground_walls}
use Rattle.wh_field.proofs.Early.{met_early}
use Rattle.wh_field.proofs.Walks.{Comes, first_of, path_least, walk_route, comes_in, only_one}

-- a place is sought where it has the mark
mark_at : (marks : List ℕ) (mark i : ℕ) → 0 < mark → get_or (map (λ m. nat_eq m mark) marks) i false ≡ nat_eq (get_or marks i 0) mark
mark_at marks mark i h =
    let f : ℕ → Bool = λ m. nat_eq m mark in
    ap (λ b. get_or (map f marks) i b) (sym (ne_eqb 0 mark (λ e. absurd (omega arith)))) ∙ get_or-map f marks i 0

-- where no place has the mark none is sought
pub none_marked : (marks : List ℕ) (mark : ℕ) → ((i : ℕ) → get_or marks i 0 < mark) → map (λ m. nat_eq m mark) marks ≡ replicate (length marks) false
none_marked [] mark h = refl
none_marked (m ∷ ms) mark h =
    ap (λ b. b ∷ map (λ m. nat_eq m mark) ms) (ne_eqb m mark (λ e. absurd (let low = h 0 in omega arith))) ∙ ap (λ bs. false ∷ bs) (none_marked ms mark (λ i. h (suc i)))

pub zeros_below : (n i : ℕ) → get_or (replicate n 0) i 0 < 1
zeros_below n i = elim (cases_lt i n) [
  | inl lt ↦ omega (arith, get_or-replicate {A = ℕ} n i 0 0 lt)
  | inr ge ↦ past (replicate n 0) (subst (λ k. k ≤ i) (sym (length-replicate {A = ℕ} n 0)) ge)
]
  where
    past : (zs : List ℕ) → length zs ≤ i → get_or zs i 0 < 1
    past zs long = omega (arith, get_or_past zs i 0 long)

pub fresh_nowhere : (g : Floor) (marks : List ℕ) (n : ℕ) → marks ≡ replicate n 0 → n ≡ places g → map (λ m. nat_eq m 1) marks ≡ nowhere g
fresh_nowhere g marks n zeros size =
    ap (λ ms. map (λ m. nat_eq m 1) ms) zeros ∙ none_marked (replicate n 0) 1 (zeros_below n) ∙ ap (λ k. replicate k false) (length-replicate {A = ℕ} n 0 ∙ size)

-- what it is that a cell is sought
pub record Stands (f : Seeking) (c : Cell) : Type 0 where
  pub in_width : c.x < f.grid.width
  pub in_height : c.y < f.grid.height
  pub there : get_or f.sought (place f.grid c) false ≡ true

sought_stands : (f : Seeking) (c : Cell) → IsTrue (is_sought f c) → Stands f c
sought_stands f c e =
    let whole = and_parts _ _ e in
    let sides = and_parts _ _ whole.0 in
    record { in_width = ltb-true c.x f.grid.width sides.0; in_height = ltb-true c.y f.grid.height sides.1; there = whole.1 }

stands_sought : (f : Seeking) (c : Cell) → Stands f c → IsTrue (is_sought f c)
stands_sought f c s = and_from _ _ (and_from _ _ (lt-ltb c.x f.grid.width s.in_width) (lt-ltb c.y f.grid.height s.in_height)) s.there

-- a field of which these places are marked
abbrev pub marked_field : Floor → Cell → List ℕ → ℕ → Seeking
marked_field g source marks mark = record { grid = g; cell = source; sought = map (λ m. nat_eq m mark) marks }

-- one more cell is sought
pub sought_one : (g : Floor) (source : Cell) (marks : List ℕ) (mark : ℕ) (cell : Cell) (i : ℕ) → 0 < mark → i < length marks → cell.x < g.width → cell.y < g.height → i ≡ place g cell → (c : Cell) →
    IsTrue (is_sought (marked_field g source (set marks i mark) mark) c) ↔ (IsTrue (is_sought (marked_field g source marks mark) c) ⊎ ((c ≡ cell) × (c.x < g.width) × (c.y < g.height)))
sought_one g source marks mark cell i positive inside wx wy is c =
    let old = marked_field g source marks mark in
    let now = marked_field g source (set marks i mark) mark in
    let here : place g c ≡ i → get_or now.sought (place g c) false ≡ true = λ e.
    ap (λ k. get_or now.sought k false) e ∙ mark_at (set marks i mark) mark i positive ∙ eq-eqb _ _ (get_or-set_same marks i mark 0 inside) in
    let there : place g c ≢ i → get_or now.sought (place g c) false ≡ get_or old.sought (place g c) false = λ ne.
    mark_at (set marks i mark) mark (place g c) positive ∙ ap (λ m. nat_eq m mark) (get_or-set_other marks i (place g c) mark 0 ne) ∙ sym (mark_at marks mark (place g c) positive) in (
      λ e.
          let s = sought_stands now c e in
          let wide = s.in_width in
          elim (cases_eq (place g c) i) [
            | inl same ↦ inr (place_one g c cell (omega arith) (omega arith) (same ∙ is), s.in_width, s.in_height)
            | inr ne ↦ inl (stands_sought old c (record { in_width = s.in_width; in_height = s.in_height; there = sym (there ne) ∙ s.there }))
          ],
      λ e. elim e [
        | inl was ↦
            let s = sought_stands old c was in
            stands_sought now c (record {
              in_width = s.in_width;
              in_height = s.in_height;
              there = elim (cases_eq (place g c) i) [ inl same ↦ here same | inr ne ↦ there ne ∙ s.there ];
            })
        | inr new ↦ stands_sought now c (record { in_width = new.1; in_height = new.2; there = here (ap (place g) new.0 ∙ sym is) })
      ],
    )

-- the place of a cell that is sought has the mark
sought_mark : (g : Floor) (source : Cell) (marks : List ℕ) (mark : ℕ) (c : Cell) → 0 < mark → IsTrue (is_sought (marked_field g source marks mark) c) → HasMark marks mark (place g c)
sought_mark g source marks mark c positive e =
    eqb-true _ _ (sym (mark_at marks mark (place g c) positive) ∙ (sought_stands (marked_field g source marks mark) c e).there)

-- a walk that comes in, and none is shorter
reached_distance : (g : Floor) (source to : Cell) (n : ℕ) → Comes g [] (source ∷ []) to n → ((q : List Cell) → IsWalkBetween g source to q → n ≤ last_index q) → IsDistance g source to (Some n)
reached_distance g source to n comes least = (
  comes.path,
  record {
    walk = subst (λ (x : Cell). IsWalkBetween g x to comes.path) (sym (only_one source comes.from comes.source)) comes.route.walk;
    least = λ q w. (let size = comes.size in let more = least q w in omega arith);
  },
  comes.size,
)

-- where the least number of the places with the mark is known, it is the distance to the first cell that is sought
pub sought_first : (g : Floor) (source : Cell) (marks : List ℕ) (mark n d : ℕ) (t layer : List ℕ) → g.width ≤ 4096 → g.height ≤ 4096 → 0 < mark → IsSurveying g [] (source ∷ []) d t layer → IsLeastMet marks mark t n →
    n < blocked → IsDistanceToFirst g source (is_sought (marked_field g source marks mark)) (Some n)
sought_first g source marks mark n d t layer wide high positive s met low =
    let found = met.found low in
    let i = found.0 in
    let is = found.2 in
    let few = (ground_walls g [] (source ∷ []) t wide high s.ground).few in
    let room = s.spreading.room in
    let near : n ≤ d = elim (s.spreading.known i) [ inl a ↦ absurd (omega arith) | inr (inl a) ↦ absurd (omega arith) | inr (inr a) ↦ omega arith ] in
    let here = s.ground.allowed i (λ e. absurd (omega arith)) in
    let to = here.cell in
    let at_to : value t (place g to) ≡ n = ap (λ k. value t k) here.here ∙ is in
    let comes = comes_in g [] (source ∷ []) t n to s.ground s.spreading.back here.allowed.passable.in_width low at_to in
    let sought : IsTrue (is_sought (marked_field g source marks mark) to) = stands_sought (marked_field g source marks mark) to (record {
      in_width = here.allowed.passable.in_width;
      in_height = here.allowed.passable.in_height;
      there = mark_at marks mark (place g to) positive ∙ eq-eqb _ _ (ap (λ k. get_or marks k 0) here.here ∙ found.1);
    }) in
    let least : (c : Cell) (p : List Cell) → IsTrue (is_sought (marked_field g source marks mark) c) → IsWalkBetween g source c p → n ≤ last_index p = λ c p e w.
    elim (cases_lt (last_index p) n) [
      | inr far ↦ far
      | inl short ↦
          let h = met_early g [] (source ∷ []) d t layer source c p (omega arith) s (first_of source) (walk_route g source c p w) (last_index p) (omega arith) in
          let there : value t (place g (at p (last_index p))) ≡ value t (place g c) = ap (λ x. value t (place g x)) w.ends in
          let more = met.least (place g c) (sought_mark g source marks mark c positive e) (omega arith) in
          omega arith
    ] in (
      (
        to,
        sought,
        reached_distance g source to n comes (λ q w. least to q sought w),
      ),
      least,
    )

-- and where none of them has a number, no walk leads to any
pub sought_none : (g : Floor) (source : Cell) (marks : List ℕ) (mark n d : ℕ) (t layer : List ℕ) → 0 < mark → IsSurveying g [] (source ∷ []) d t layer → IsLeastMet marks mark t n →
    n ≡ blocked → IsLevelled (g.width + 1) t → IsDistanceToFirst g source (is_sought (marked_field g source marks mark)) None
sought_none g source marks mark n d t layer positive s met none levels = λ c e p w.
    let h = path_least g [] (source ∷ []) t source c p (record { ground = s.ground; levels = levels }) (first_of source) (walk_route g source c p w) in
    let low = h.1 in
    let more = met.least (place g c) (sought_mark g source marks mark c positive e) low in
    absurd (omega arith)
