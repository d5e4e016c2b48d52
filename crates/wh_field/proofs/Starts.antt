-- cells are blocked, and sources are marked
use Rattle.std.proofs.Common.{◌≡◌, ◌≢◌, ℕ, ◌+◌, ◌*◌, ◌<◌, ◌≤◌, ◌⊎◌, inl, inr, ◌∙◌, List, [], ◌∷◌, ◌++◌, length, set, refl, sym, ap, subst, arith, Bool, true, false, Contains, cond, nat_eq, length-set, get_or-set_same, get_or-set_other}
use Rattle.std.proofs.lemmas.Bool.{cases_lt, cases_eq}
use Rattle.std.proofs.lemmas.List.Elements.{All-nil, All-push, All-weaker, Contains-append_left, Contains-push, Contains-push_cases}
use Rattle.std.proofs.lemmas.List.{length_push, get_or_past}
use Rattle.std.proofs.lemmas.Nat.{mul-le}
use Rattle.wh_grid.specs.declared.cell.Cell.{Cell}
use Rattle.wh_grid.specs.Grids.{Floor, IsPassable}
use Rattle.wh_field.specs.Tables.{value, blocked, unseen, unseen_count, IsWalled, IsReady, IsLevelled, IsSameGround}
use Rattle.wh_field.specs.Places.{place, IsAllowed, IsAllowedAt, IsOpen, IsSourceAt, IsStarted, IsGround, IsSurveyed}
use Rattle.wh_field.proofs.Tables.{Contains-none, unseen_count-set}
use Rattle.wh_field.proofs.Places.{place_one, row_least, row_most}

allowed_fewer : (g : Floor) (avoid : List Cell) (c d : Cell) → IsAllowed g (avoid ++ c ∷ []) d → IsAllowed g avoid d
allowed_fewer g avoid c d a = record { passable = a.passable; apart = λ m. a.apart (Contains-append_left avoid (c ∷ []) d m) }

at_fewer : (g : Floor) (avoid : List Cell) (c : Cell) (i : ℕ) → IsAllowedAt g (avoid ++ c ∷ []) i → IsAllowedAt g avoid i
at_fewer g avoid c i a = record { cell = a.cell; here = a.here; allowed = allowed_fewer g avoid c a.cell a.allowed }

at_more : (g : Floor) (avoid : List Cell) (c : Cell) (i : ℕ) → (place g c ≡ i → IsPassable g c → ⊥) → IsAllowedAt g avoid i → IsAllowedAt g (avoid ++ c ∷ []) i
at_more g avoid c i ne a =
    record {
      cell = a.cell;
      here = a.here;
      allowed = record {
        passable = a.allowed.passable;
        apart = λ m. elim (Contains-push_cases avoid c a.cell m) [
          | inl old ↦ a.allowed.apart old
          | inr e ↦ ne (ap (place g) e ∙ a.here) (subst (IsPassable g) (sym e) a.allowed.passable)
        ];
      };
    }

-- one more cell is blocked
pub block_one : (g : Floor) (avoid : List Cell) (t : List ℕ) (c : Cell) (i : ℕ) → c.x < g.width → c.y < g.height → i ≡ place g c → IsOpen g avoid t → IsOpen g (avoid ++ c ∷ []) (set t i blocked)
block_one g avoid t c i wx wy e o =
    let size = o.size in
    record {
      size = length-set t i blocked ∙ o.size;
      each = λ k h. elim (cases_eq k i) [
        | inl same ↦ inl (
          ap (λ x. value (set t i blocked) x) same ∙ get_or-set_same t i blocked 4294967294 (omega arith),
          λ a. let v = a.allowed.passable.in_width in
              let one : a.cell ≡ c = place_one g a.cell c (omega arith) (omega arith) (a.here ∙ same ∙ e) in
              a.allowed.apart (subst (Contains (avoid ++ c ∷ [])) (sym one) (Contains-push avoid c)),
        )
        | inr ne ↦ (let there : value (set t i blocked) k ≡ value t k = get_or-set_other t i k blocked 4294967294 ne in
            elim (o.each k h) [
              | inl a ↦ inl (there ∙ a.0, λ b. a.1 (at_fewer g avoid c k b))
              | inr a ↦ inr (there ∙ a.0, at_more g avoid c k (λ p q. ne (sym p ∙ sym e)) a.1)
            ])
      ];
    }

-- a cell outside is blocked anyway
pub block_none : (g : Floor) (avoid : List Cell) (t : List ℕ) (c : Cell) → ((c.x < g.width) × (c.y < g.height) → ⊥) → IsOpen g avoid t → IsOpen g (avoid ++ c ∷ []) t
block_none g avoid t c out o =
    record {
      size = o.size;
      each = λ k h. elim (o.each k h) [
        | inl a ↦ inl (a.0, λ b. a.1 (at_fewer g avoid c k b))
        | inr a ↦ inr (a.0, at_more g avoid c k (λ p q. out (q.in_width, q.in_height)) a.1)
      ];
    }

count_head : (b : Bool) (m n : ℕ) → m ≤ n → cond b (1 + m) m ≤ n + 1
count_head true m n h = omega arith
count_head false m n h = omega arith

unseen_count-le : (t : List ℕ) → unseen_count t ≤ length t
unseen_count-le [] = omega arith
unseen_count-le (x ∷ xs) = let h = count_head (nat_eq x 4294967295) (unseen_count xs) (length xs) (unseen_count-le xs) in omega arith

-- no source is marked
pub start_none : (g : Floor) (avoid : List Cell) (t : List ℕ) → IsOpen g avoid t → IsStarted g avoid [] t []
start_none g avoid t o =
    let each : (i : ℕ) → ((value t i ≡ blocked) × (IsAllowedAt g avoid i → ⊥)) ⊎ ((value t i ≡ unseen) × IsAllowedAt g avoid i) = λ i.
    elim (cases_lt i ((g.width + 1) * (g.height + 2))) [
      | inl h ↦ o.each i h
      | inr h ↦ (let size = o.size in inl (get_or_past t i 4294967294 (omega arith), λ a. let e = a.here in let f = row_most g a.cell a.allowed.passable in omega arith))
    ] in
    record {
      size = o.size;
      each = λ i. elim (each i) [ inl a ↦ inl a | inr a ↦ inr (inl a.0, a.1) ];
      zero = λ i. (λ z. absurd (elim (each i) [ inl a ↦ (let e = a.0 in omega arith) | inr a ↦ (let e = a.0 in omega arith) ]), λ s. absurd (Contains-none s.cell s.source));
      at_start = All-nil (λ k. value t k ≡ 0);
      all_starts = λ i z. absurd (elim (each i) [ inl a ↦ (let e = a.0 in omega arith) | inr a ↦ (let e = a.0 in omega arith) ]);
      room = let h = unseen_count-le t in omega arith;
    }

source_more : (g : Floor) (avoid sources : List Cell) (c : Cell) (i : ℕ) → IsSourceAt g avoid sources i → IsSourceAt g avoid (sources ++ c ∷ []) i
source_more g avoid sources c i s =
    record { cell = s.cell; source = Contains-append_left sources (c ∷ []) s.cell s.source; here = s.here; allowed = s.allowed }

-- one more source is marked
pub start_one : (g : Floor) (avoid sources : List Cell) (t starts : List ℕ) (c : Cell) (i : ℕ) → c.x < g.width → i ≡ place g c → value t i ≡ unseen → IsStarted g avoid sources t starts → IsStarted g avoid (sources ++ c ∷ []) (set t i 0) (starts ++ i ∷ [])
start_one g avoid sources t starts c i wx e u s =
    let size = s.size in
    let inside : i < length t = elim (cases_lt i (length t)) [ inl h ↦ h | inr h ↦ absurd (let z = get_or_past t i 4294967294 h in omega arith) ] in
    let here : value (set t i 0) i ≡ 0 = get_or-set_same t i 0 4294967294 inside in
    let there : (k : ℕ) → k ≢ i → value (set t i 0) k ≡ value t k = λ k ne. get_or-set_other t i k 0 4294967294 ne in
    let at_i : IsAllowedAt g avoid i = elim (s.each i) [ inl a ↦ absurd (let z = a.0 in omega arith) | inr a ↦ a.1 ] in
    let one : at_i.cell ≡ c = place_one g at_i.cell c (let v = at_i.allowed.passable.in_width in omega arith) (omega arith) (at_i.here ∙ e) in
    record {
      size = length-set t i 0 ∙ s.size;
      each = λ k. elim (cases_eq k i) [
        | inl same ↦ inr (inr (ap (λ x. value (set t i 0) x) same ∙ here), subst (IsAllowedAt g avoid) (sym same) at_i)
        | inr ne ↦ elim (s.each k) [
          | inl a ↦ inl (there k ne ∙ a.0, a.1)
          | inr (inl a, b) ↦ inr (inl (there k ne ∙ a), b)
          | inr (inr a, b) ↦ inr (inr (there k ne ∙ a), b)
        ]
      ];
      zero = λ k. elim (cases_eq k i) [
        | inl same ↦ (
          λ z. record { cell = c; source = Contains-push sources c; here = sym e ∙ sym same; allowed = subst (IsAllowed g avoid) one at_i.allowed },
          λ z. ap (λ x. value (set t i 0) x) same ∙ here,
        )
        | inr ne ↦ (
          λ z. source_more g avoid sources c k ((s.zero k).0 (sym (there k ne) ∙ z)),
          λ z. elim (Contains-push_cases sources c z.cell z.source) [
            | inl old ↦ there k ne ∙ (s.zero k).1 (record { cell = z.cell; source = old; here = z.here; allowed = z.allowed })
            | inr new ↦ absurd (ne (sym z.here ∙ ap (place g) (sym new) ∙ sym e))
          ],
        )
      ];
      at_start = All-push (λ k. value (set t i 0) k ≡ 0) starts i (All-weaker (λ k. value t k ≡ 0) (λ k. value (set t i 0) k ≡ 0) (λ k z. there k (λ same. absurd (let w : value t k ≡ 4294967295 = ap (λ x. value t x) same ∙ u in omega arith)) ∙ z) starts s.at_start) here;
      all_starts = λ k z. elim (cases_eq k i) [
        | inl same ↦ subst (Contains (starts ++ i ∷ [])) (sym same) (Contains-push starts i)
        | inr ne ↦ Contains-append_left starts (i ∷ []) k (s.all_starts k (sym (there k ne) ∙ z))
      ];
      room = omega (arith, length-set t i 0, length_push starts i, s.room, unseen_count-set t i 0 inside u (omega arith));
    }

-- a source outside, blocked or marked before
pub start_skip : (g : Floor) (avoid sources : List Cell) (t starts : List ℕ) (c : Cell) → (IsPassable g c → value t (place g c) ≢ unseen) → IsStarted g avoid sources t starts → IsStarted g avoid (sources ++ c ∷ []) t starts
start_skip g avoid sources t starts c skip s =
    record {
      size = s.size;
      each = s.each;
      zero = λ k. (
        λ z. source_more g avoid sources c k ((s.zero k).0 z),
        λ z. elim (Contains-push_cases sources c z.cell z.source) [
          | inl old ↦ (s.zero k).1 (record { cell = z.cell; source = old; here = z.here; allowed = z.allowed })
          | inr new ↦ elim (s.each k) [
            | inl a ↦ absurd (a.1 (record { cell = z.cell; here = z.here; allowed = z.allowed }))
            | inr (inr a, b) ↦ a
            | inr (inl a, b) ↦ absurd (skip (subst (IsPassable g) (sym new) z.allowed.passable) (ap (λ x. value t x) (ap (place g) new ∙ z.here) ∙ a))
          ]
        ],
      );
      at_start = s.at_start;
      all_starts = s.all_starts;
      room = s.room;
    }

-- its ground
pub started_ground : (g : Floor) (avoid sources : List Cell) (t starts : List ℕ) → IsStarted g avoid sources t starts → IsGround g avoid sources t
started_ground g avoid sources t starts s =
    record {
      size = s.size;
      allowed = λ i ne. elim (s.each i) [ inl a ↦ absurd (ne a.0) | inr a ↦ a.1 ];
      not_blocked = λ c a e. elim (s.each (place g c)) [
        | inl z ↦ z.1 (record { cell = c; here = refl; allowed = a })
        | inr (inl z, w) ↦ absurd (omega arith)
        | inr (inr z, w) ↦ absurd (omega arith)
      ];
      zero = s.zero;
    }

-- stays while it is filled
pub ground_stays : (g : Floor) (avoid sources : List Cell) (t now : List ℕ) → IsGround g avoid sources t → IsSameGround t now → IsGround g avoid sources now
ground_stays g avoid sources t now s f =
    record {
      size = f.size ∙ s.size;
      allowed = λ i ne. s.allowed i (λ e. ne ((f.same_blocked i).1 e));
      not_blocked = λ c a e. s.not_blocked c a ((f.same_blocked (place g c)).0 e);
      zero = λ i. (λ z. (s.zero i).0 ((f.same_starts i).0 z), λ z. (f.same_starts i).1 ((s.zero i).1 z));
    }

pub ground_walls : (g : Floor) (avoid sources : List Cell) (t : List ℕ) → g.width ≤ 4096 → g.height ≤ 4096 → IsGround g avoid sources t → IsWalled (g.width + 1) t
ground_walls g avoid sources t p q s =
    let size = s.size in
    let few : (g.width + 1) * (g.height + 2) ≤ 4097 * 4098 = mul-le (g.width + 1) (g.height + 2) 4097 4098 (omega arith) (omega arith) in
    record {
      positive = omega arith;
      few = omega arith;
      above = λ i ne. let a = s.allowed i ne in let e = a.here in let f = row_least a.cell.y (g.width + 1) in omega arith;
      below = λ i ne. let a = s.allowed i ne in let e = a.here in let f = row_most g a.cell a.allowed.passable in omega arith;
    }

-- a table with its sources can be filled
pub started_ready : (g : Floor) (avoid sources : List Cell) (t starts : List ℕ) → g.width ≤ 4096 → g.height ≤ 4096 → IsStarted g avoid sources t starts → IsReady (g.width + 1) t starts
started_ready g avoid sources t starts p q s =
    record {
      walled = ground_walls g avoid sources t p q (started_ground g avoid sources t starts s);
      fresh = λ i. elim (s.each i) [ inl a ↦ inl a.0 | inr a ↦ inr a.0 ];
      at_start = s.at_start;
      all_starts = s.all_starts;
      room = s.room;
    }

-- and is then surveyed
pub filled_surveyed : (g : Floor) (avoid sources : List Cell) (t starts now : List ℕ) → IsStarted g avoid sources t starts → IsSameGround t now → IsLevelled (g.width + 1) now → IsSurveyed g avoid sources now
filled_surveyed g avoid sources t starts now s f l =
    record { ground = ground_stays g avoid sources t now (started_ground g avoid sources t starts s) f; levels = l }
