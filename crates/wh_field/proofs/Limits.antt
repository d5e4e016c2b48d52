-- a table that is filled up to a limit
use Rattle.std.proofs.Common.{◌≡◌, ℕ, ◌+◌, ◌<◌, ◌≤◌, ◌⊎◌, inl, inr, ◌∙◌, List, [], ◌∷◌, sym, ap, subst, refl, arith, Option, Some, None, IfSome, IfNone}
use Rattle.std.proofs.lemmas.Bool.{cases_lt}
use Rattle.wh_grid.specs.declared.cell.Cell.{Cell}
use Rattle.wh_grid.specs.Grids.{Floor}
use Rattle.wh_path.specs.Paths.{at, last_index}
use Rattle.wh_field.specs.Tables.{value, blocked, unseen, IsLevelled}
use Rattle.wh_field.specs.Places.{place, IsAllowed, IsSurveying}
use Rattle.wh_path.specs.Walks.{IsWalkBetween}
use Rattle.wh_field.specs.Distances.{IsDistance, IsRoute}
use Rattle.wh_field.proofs.Starts.{ground_walls}
use Rattle.wh_field.proofs.Early.{met_early}
use Rattle.wh_field.proofs.Walks.{route_allowed, first_of, path_least, walk_route, comes_in, only_one}

-- no route from the source to the cell at this place that is at most so long has fewer steps than the number there, and if there is one it has a number
pub record IsLeastWithin (g : Floor) (avoid : List Cell) (source : Cell) (i limit : ℕ) (t : List ℕ) : Type 0 where
  pub least : (to : Cell) (q : List Cell) → place g to ≡ i → IsRoute g source to avoid q → last_index q ≤ limit → (value t i ≤ last_index q) × (value t i < blocked)

-- filled until it has met a place, or to the limit, or to its end
pub within_least : (g : Floor) (avoid : List Cell) (source : Cell) (i limit d : ℕ) (t layer : List ℕ) → g.width ≤ 4096 → g.height ≤ 4096 → IsSurveying g avoid (source ∷ []) d t layer →
    (value t i ≡ unseen → IsLevelled (g.width + 1) t ⊎ (limit ≤ d)) → IsLeastWithin g avoid source i limit t
within_least g avoid source i limit d t layer wide high s full = record {
  least = λ to q here r short.
      let P : ℕ → Type 0 = λ k. (value t k ≤ last_index q) × (value t k < blocked) in
      let few = (ground_walls g avoid (source ∷ []) t wide high s.ground).few in
      let room = s.spreading.room in
      let there : value t (place g (at q (last_index q))) ≡ value t (place g to) = ap (λ x. value t (place g x)) r.walk.ends in
      subst P here (elim (s.spreading.known (place g to)) [
        | inl a ↦ absurd (s.ground.not_blocked to (subst (IsAllowed g avoid) r.walk.ends (route_allowed g source to avoid q r (last_index q))) a)
        | inr (inl a) ↦ elim (full (ap (λ k. value t k) (sym here) ∙ a)) [
          | inl levels ↦ path_least g avoid (source ∷ []) t source to q (record { ground = s.ground; levels = levels }) (first_of source) r
          | inr far ↦
              let h = met_early g avoid (source ∷ []) d t layer source to q (omega arith) s (first_of source) r (last_index q) (omega arith) in
              (omega arith, omega arith)
        ]
        | inr (inr a) ↦ elim (cases_lt (last_index q) d) [
          | inr long ↦ (omega arith, omega arith)
          | inl near ↦
              let h = met_early g avoid (source ∷ []) d t layer source to q (omega arith) s (first_of source) r (last_index q) (omega arith) in
              (omega arith, omega arith)
        ]
      ]);
}

-- in such a table a number up to the limit is the distance
pub within_distance : (g : Floor) (source to : Cell) (limit d : ℕ) (t layer : List ℕ) (n : ℕ) → IsSurveying g [] (source ∷ []) d t layer → IsLeastWithin g [] source (place g to) limit t →
    to.x < g.width → n < blocked → n ≤ limit → value t (place g to) ≡ n → IsDistance g source to (Some n)
within_distance g source to limit d t layer n s l w b low e =
    let comes = comes_in g [] (source ∷ []) t n to s.ground s.spreading.back w b e in
    let size = comes.size in (
      comes.path,
      record {
        walk = subst (λ (x : Cell). IsWalkBetween g x to comes.path) (sym (only_one source comes.from comes.source)) comes.route.walk;
        least = λ q v. elim (cases_lt limit (last_index q)) [
          | inl far ↦ omega arith
          | inr near ↦ (let h = l.least to q refl (walk_route g source to q v) near in let few = h.0 in omega arith)
        ];
      },
      comes.size,
    )

-- and where it has none up to the limit, the distance is greater, if there is one
pub within_none : (g : Floor) (source to : Cell) (limit : ℕ) (t : List ℕ) → IsLeastWithin g [] source (place g to) limit t → ((value t (place g to) < blocked) × (value t (place g to) ≤ limit) → ⊥) →
    (n : ℕ) → IsDistance g source to (Some n) → limit < n
within_none g source to limit t l none n is = elim (cases_lt limit n) [
  | inl far ↦ far
  | inr near ↦
      let size = is.2 in
      let h = l.least to is.0 refl (walk_route g source to is.0 is.1.walk) (omega arith) in
      let low = h.0 in
      absurd (none (h.1, omega arith))
]

pub some_more : (o : Option ℕ) (P Q : ℕ → Type 0) → ((n : ℕ) → P n → Q n) → IfSome o P → IfSome o Q
some_more None P Q more h = h
some_more (Some n) P Q more h = more n h

pub none_more : (o : Option ℕ) (P Q : Type 0) → (P → Q) → IfNone o P → IfNone o Q
none_more None P Q more h = more h
none_more (Some n) P Q more h = h
