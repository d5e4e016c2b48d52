-- a table that is filled up to a distance
use Rattle.std.proofs.Common.{◌≡◌, ℕ, ◌+◌, ◌<◌, ◌≤◌, inl, inr, ◌∙◌, List, [], ◌∷◌, refl, sym, ap, subst, suc, zero, add-one, arith, Contains, Some}
use Rattle.std.proofs.lemmas.Bool.{cases_lt}
use Rattle.wh_grid.specs.declared.cell.Cell.{Cell}
use Rattle.wh_grid.specs.Grids.{Floor, IsMove}
use Rattle.wh_path.specs.Paths.{at, last_index}
use Rattle.wh_field.specs.Tables.{value, blocked, unseen, IsLevelled, IsSameGround, IsSpreading}
use Rattle.wh_field.specs.Places.{place, IsAllowed, IsSurveyed, IsSurveying, IsFalling, IsLeastAt, IsStarted}
use Rattle.wh_path.specs.Walks.{IsWalkBetween}
use Rattle.wh_field.specs.Distances.{IsDistance, IsRoute}
use Rattle.wh_field.proofs.Tables.{Contains-none, spreading_start}
use Rattle.wh_field.proofs.Starts.{started_ground, started_ready, ground_stays, ground_walls}
use Rattle.wh_field.proofs.Walks.{adjacent_beside, route_allowed, first_of, path_least, walk_route, comes_in, only_one}

pub surveying_start : (g : Floor) (avoid sources : List Cell) (t starts : List ℕ) → g.width ≤ 4096 → g.height ≤ 4096 → IsStarted g avoid sources t starts → IsSurveying g avoid sources 0 t starts
surveying_start g avoid sources t starts p q s =
    record { ground = started_ground g avoid sources t starts s; spreading = spreading_start (g.width + 1) t starts (started_ready g avoid sources t starts p q s) }

pub surveying_on : (g : Floor) (avoid sources : List Cell) (d e : ℕ) (t layer now new_layer : List ℕ) → IsSurveying g avoid sources d t layer → IsSameGround t now → IsSpreading (g.width + 1) e now [] new_layer → IsSurveying g avoid sources e now new_layer
surveying_on g avoid sources d e t layer now new_layer s same p =
    record { ground = ground_stays g avoid sources t now s.ground same; spreading = p }

-- up to the distance to which a table is filled its numbers never exceed the steps of a path from a source
pub met_early : (g : Floor) (avoid sources : List Cell) (d : ℕ) (t layer : List ℕ) (from to : Cell) (p : List Cell) → d < blocked → IsSurveying g avoid sources d t layer → Contains sources from → IsRoute g from to avoid p → (k : ℕ) → k ≤ d → value t (place g (at p k)) ≤ k
met_early g avoid sources d t layer from to p f s c h zero few =
    let z : value t (place g (at p 0)) ≡ 0 = (s.ground.zero (place g (at p 0))).1 (record { cell = at p 0; source = subst (Contains sources) (sym h.walk.starts) c; here = refl; allowed = route_allowed g from to avoid p h 0 }) in
    omega arith
met_early g avoid sources d t layer from to p f s c h (suc k) few =
    let low = met_early g avoid sources d t layer from to p f s c h k (omega arith) in
    let move : IsMove (at p k) (at p (suc k)) = subst (λ (j : ℕ). IsMove (at p k) (at p j)) (add-one k) (h.walk.walk.moves k) in
    elim move [
      | inl same ↦ (let e : value t (place g (at p k)) ≡ value t (place g (at p (suc k))) = ap (λ x. value t (place g x)) same in omega arith)
      | inr b ↦ elim (s.spreading.onward (place g (at p k)) (place g (at p (suc k))) (omega arith) (adjacent_beside g (at p k) (at p (suc k)) b) (s.ground.not_blocked (at p (suc k)) (route_allowed g from to avoid p h (suc k)))) [
        | inl near ↦ omega arith
        | inr n ↦ absurd (Contains-none (place g (at p k)) n)
      ]
    ]

-- a full table falls
pub surveyed_falls : (g : Floor) (avoid sources : List Cell) (t : List ℕ) → IsSurveyed g avoid sources t → IsFalling g avoid sources t
surveyed_falls g avoid sources t s = record { ground = s.ground; back = s.levels.back }

pub surveying_falls : (g : Floor) (avoid sources : List Cell) (d : ℕ) (t layer : List ℕ) → IsSurveying g avoid sources d t layer → IsFalling g avoid sources t
surveying_falls g avoid sources d t layer s = record { ground = s.ground; back = s.spreading.back }

-- filled until it has met a place, or to its end
pub early_least : (g : Floor) (avoid : List Cell) (source : Cell) (i d : ℕ) (t layer : List ℕ) → g.width ≤ 4096 → g.height ≤ 4096 → IsSurveying g avoid (source ∷ []) d t layer →
    (value t i ≡ unseen → IsLevelled (g.width + 1) t) → IsLeastAt g avoid source i t
early_least g avoid source i d t layer wide high s full = record {
  least = λ to q here r.
      let P : ℕ → Type 0 = λ k. (value t k ≤ last_index q) × (value t k < blocked) in
      let few = (ground_walls g avoid (source ∷ []) t wide high s.ground).few in
      let room = s.spreading.room in
      subst P here (elim (s.spreading.known (place g to)) [
        | inl a ↦ absurd (s.ground.not_blocked to (subst (IsAllowed g avoid) r.walk.ends (route_allowed g source to avoid q r (last_index q))) a)
        | inr (inl a) ↦ path_least g avoid (source ∷ []) t source to q (record { ground = s.ground; levels = full (ap (λ k. value t k) (sym here) ∙ a) }) (first_of source) r
        | inr (inr a) ↦ elim (cases_lt (last_index q) d) [
          | inr long ↦ (omega arith, omega arith)
          | inl short ↦
              let h = met_early g avoid (source ∷ []) d t layer source to q (omega arith) s (first_of source) r (last_index q) (omega arith) in
              let there : value t (place g (at q (last_index q))) ≡ value t (place g to) = ap (λ x. value t (place g x)) r.walk.ends in
              (omega arith, omega arith)
        ]
      ]);
}

-- in such a table a number is the distance
pub early_distance : (g : Floor) (source to : Cell) (d : ℕ) (t layer : List ℕ) (n : ℕ) → IsSurveying g [] (source ∷ []) d t layer → IsLeastAt g [] source (place g to) t →
    to.x < g.width → n < blocked → value t (place g to) ≡ n → IsDistance g source to (Some n)
early_distance g source to d t layer n s l w b e =
    let comes = comes_in g [] (source ∷ []) t n to s.ground s.spreading.back w b e in
    let size = comes.size in (
      comes.path,
      record {
        walk = subst (λ (x : Cell). IsWalkBetween g x to comes.path) (sym (only_one source comes.from comes.source)) comes.route.walk;
        least = λ q v. (let h = l.least to q refl (walk_route g source to q v) in let few = h.0 in omega arith);
      },
      comes.size,
    )

-- and where it has none, no walk leads there
pub early_none : (g : Floor) (source to : Cell) (t : List ℕ) → IsLeastAt g [] source (place g to) t → blocked ≤ value t (place g to) → (p : List Cell) → IsWalkBetween g source to p → ⊥
early_none g source to t l b p w = (let h = l.least to p refl (walk_route g source to p w) in let low = h.1 in omega arith)
