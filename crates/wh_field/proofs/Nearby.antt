-- a table that is filled up to a level from several sources
use Rattle.std.proofs.Common.{◌≡◌, ℕ, ◌+◌, ◌<◌, ◌≤◌, ◌⊎◌, inl, inr, List, [], ◌∷◌, length, drop, min, refl, sym, ap, subst, arith, Contains, Option, Some, None}
use Rattle.std.proofs.lemmas.Bool.{cases_lt}
use Rattle.wh_grid.specs.declared.cell.Cell.{Cell}
use Rattle.wh_grid.specs.Grids.{Floor}
use Rattle.wh_path.specs.Paths.{at, last_index}
use Rattle.wh_field.specs.Distances.{IsDistance, IsNearestDistance, IsRoute, distance}
use Rattle.wh_field.specs.Growing.{capped}
use Rattle.wh_field.specs.Nearest.{nearest_capped}
use Rattle.wh_field.specs.Places.{place, IsAllowed, IsFalling, IsSurveying}
use Rattle.wh_field.specs.Tables.{value, blocked, unseen, IsLevelled}
use Rattle.wh_field.proofs.Tables.{Contains-none, Contains-first, Contains-later, Contains-cases, queue_ends}
use Rattle.wh_field.proofs.Starts.{ground_walls}
use Rattle.wh_field.proofs.Early.{met_early, surveying_falls}
use Rattle.wh_field.proofs.Walks.{route_allowed, path_least, walk_route, comes_in, outside_none}
use Rattle.wh_field.proofs.DistanceLaws.{distance_is, distance_one}

-- a table's numbers fall to a source, and none is greater than the steps of a route from a source that has no more than the level
pub record IsFilledTo (g : Floor) (sources : List Cell) (level : ℕ) (t : List ℕ) : Type 0 where
  pub falling : IsFalling g [] sources t
  pub least : (source to : Cell) (q : List Cell) → Contains sources source → IsRoute g source to [] q → last_index q ≤ level → (value t (place g to) ≤ last_index q) × (value t (place g to) < blocked)

-- filled to a front, and to a level that is no farther, unless no layer is left
pub filled_to : (g : Floor) (sources : List Cell) (level d head : ℕ) (t q : List ℕ) → g.width ≤ 4096 → g.height ≤ 4096 → IsSurveying g [] sources d t (drop head q) →
    ((level ≤ d) ⊎ ((level ≡ 4294967293) × (length q ≤ head))) → IsFilledTo g sources level t
filled_to g sources level d head t q wide high s known = record {
  falling = surveying_falls g [] sources d t (drop head q) s;
  least = λ source to r c h short.
      let room = s.spreading.room in
      let few = (ground_walls g [] sources t wide high s.ground).few in
      elim known [
        | inr all ↦ path_least g [] sources t source to r (record { ground = s.ground; levels = queue_ends (g.width + 1) d head t q all.1 s.spreading }) c h
        | inl near ↦
            let met = met_early g [] sources d t (drop head q) source to r (omega arith) s c h (last_index r) (omega arith) in
            let there : value t (place g (at r (last_index r))) ≡ value t (place g to) = ap (λ x. value t (place g x)) h.walk.ends in
            (omega arith, omega arith)
      ];
}

-- where a cell has its distance, or no layer is left, the front reaches it
pub level_reaches : (g : Floor) (sources : List Cell) (to : Cell) (d n : ℕ) (t layer : List ℕ) → g.width ≤ 4096 → g.height ≤ 4096 → IsSurveying g [] sources d t layer →
    (value t (place g to) ≡ unseen → IsLevelled (g.width + 1) t) → to.x < g.width → IsNearestDistance g sources to (Some n) → n ≤ d
level_reaches g sources to d n t layer wide high s full w near =
    let source = near.0.0 in
    let walk = near.0.2.0 in
    let r : IsRoute g source to [] walk = walk_route g source to walk near.0.2.1.walk in
    let size = near.0.2.2 in
    let room = s.spreading.room in
    let few = (ground_walls g [] sources t wide high s.ground).few in
    elim (s.spreading.known (place g to)) [
      | inl a ↦ absurd (s.ground.not_blocked to (subst (IsAllowed g []) r.walk.ends (route_allowed g source to [] walk r (last_index walk))) a)
      | inr (inl a) ↦ (let met = (path_least g [] sources t source to walk (record { ground = s.ground; levels = full a }) near.0.1 r).1 in absurd (omega arith))
      | inr (inr a) ↦
          let comes = comes_in g [] sources t (value t (place g to)) to s.ground s.spreading.back w (omega arith) refl in
          let least = near.1 comes.from comes.path comes.source comes.route.walk in
          let long = comes.size in
          omega arith
    ]

nearest_most : (g : Floor) (cells : List Cell) (level : ℕ) (c : Cell) → nearest_capped g cells level c ≤ level + 1
nearest_most g [] level c = omega arith
nearest_most g (source ∷ cells) level c = omega (arith, nearest_most g cells level c)

-- none of the cells is nearer
pub nearest_below : (g : Floor) (cells : List Cell) (level : ℕ) (c source : Cell) → Contains cells source → nearest_capped g cells level c ≤ capped (distance g source c) level
nearest_below g [] level c source h = absurd (Contains-none source h)
nearest_below g (first ∷ cells) level c source h =
    elim (Contains-cases source first cells h) [
      | inl e ↦ subst (λ (x : Cell). nearest_capped g (first ∷ cells) level c ≤ capped (distance g x c) level) e (omega arith)
      | inr in_rest ↦ omega (arith, nearest_below g cells level c source in_rest)
    ]

nearest_above : (g : Floor) (cells : List Cell) (level : ℕ) (c : Cell) (n : ℕ) → n ≤ level + 1 → ((source : Cell) → Contains cells source → n ≤ capped (distance g source c) level) → n ≤ nearest_capped g cells level c
nearest_above g [] level c n few each = few
nearest_above g (first ∷ cells) level c n few each =
    omega (arith, each first (Contains-first first cells), nearest_above g cells level c n few (λ source h. each source (Contains-later source first cells h)))

least_capped : (g : Floor) (source to : Cell) (level n : ℕ) (o : Option ℕ) → IsDistance g source to o → ((q : List Cell) → IsRoute g source to [] q → last_index q ≤ level → n ≤ last_index q) → min n (level + 1) ≤ capped o level
least_capped g source to level n None d least = omega arith
least_capped g source to level n (Some m) d least = elim (cases_lt level m) [
  | inl far ↦ omega arith
  | inr near ↦ (let size = d.2 in let low = least d.0 (walk_route g source to d.0 d.1.walk) (omega arith) in omega arith)
]

-- the number at a place, as far as the level, is that of the nearest distance
pub nearest_at : (g : Floor) (sources : List Cell) (to : Cell) (level n : ℕ) (t : List ℕ) → IsFilledTo g sources level t → to.x < g.width → level < blocked → value t (place g to) ≡ n → min n (level + 1) ≡ nearest_capped g sources level to
nearest_at g sources to level n t f w few e =
    let above = nearest_above g sources level to (min n (level + 1)) (omega arith)
    (λ source c. least_capped g source to level n (distance g source to) (distance_is g source to) (λ q r short. (let h = (f.least source to q c r short).0 in omega arith))) in
    elim (cases_lt level n) [
      | inl far ↦ omega (arith, nearest_most g sources level to)
      | inr near ↦
          let comes = comes_in g [] sources t n to f.falling.ground f.falling.back w (omega arith) e in
          let size = comes.size in
          let is : IsDistance g comes.from to (Some n) = (
            comes.path,
            record {
              walk = comes.route.walk;
              least = λ q v. elim (cases_lt level (last_index q)) [
                | inl long ↦ omega arith
                | inr short ↦ (let h = (f.least comes.from to q comes.source (walk_route g comes.from to q v) short).0 in omega arith)
              ];
            },
            size,
          ) in
          let at_most : nearest_capped g sources level to ≤ capped (Some n) level =
          subst (λ (o : Option ℕ). nearest_capped g sources level to ≤ capped o level) (sym (distance_one g comes.from to (Some n) is)) (nearest_below g sources level to comes.from comes.source) in
          omega arith
    ]

-- outside the map all are farther
pub nearest_outside : (g : Floor) (sources : List Cell) (to : Cell) (level : ℕ) → ((to.x < g.width) × (to.y < g.height) → ⊥) → level + 1 ≡ nearest_capped g sources level to
nearest_outside g [] to level out = refl
nearest_outside g (source ∷ cells) to level out =
    let none : capped None level ≡ capped (distance g source to) level = ap (λ o. capped o level) (distance_one g source to None (outside_none g source to out)) in
    omega (arith, nearest_outside g cells to level out)
