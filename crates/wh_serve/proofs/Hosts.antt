-- What the reports of the threads say, each at its place.
use Rattle.std.proofs.Common.{◌≡◌, ℕ, zero, suc, ◌<◌, List, [], ◌∷◌, length, map, Some, slice_get, refl, ap, sym, ◌∙◌, subst, arith}
use Rattle.std.proofs.lemmas.Option.{same_Some, slice_get_within}
use Rattle.wh_desk.specs.Lists.{AllAt, Received}
use Rattle.wh_serve.specs.Hosting.{IsDue, ReportAt, AllReported}

-- below the length there is an element
pub get_some : {A : Type 0} (xs : List A) (k : ℕ) → k < length xs → (x : A) × (slice_get xs k ≡ Some x)
get_some [] k less = absurd (omega arith)
get_some (x ∷ xs) zero less = (x, refl)
get_some (x ∷ xs) (suc k) less = get_some xs k (omega arith)

map_at : {A B : Type 0} (f : A → B) (xs : List A) (k : ℕ) (y : B) → slice_get (map f xs) k ≡ Some y → (x : A) × (slice_get xs k ≡ Some x) × (f x ≡ y)
map_at f [] k y at = absurd (cc)
map_at f (x ∷ xs) zero y at = (x, refl, same_Some _ _ at)
map_at f (x ∷ xs) (suc k) y at = map_at f xs k y at

-- each report keeps the promise at its place, so its client was served with the pass there
pub reported : {C H Y : Type 0} (serves : C → Received → Received → ℕ → Type 0) (asked : H → C) (had : H → Received) (pass : Y → Received) (times : Y → ℕ)
    (clients : List C) (passes : List Received) (hs : List H) (rs : List Y)
    → length rs ≡ length hs → AllAt (λ i h. IsDue clients passes i (asked h) (had h)) hs
    → AllAt (λ i r. (h : H) → slice_get hs i ≡ Some h → serves (asked h) (had h) (pass r) (times r)) rs
    → AllAt (λ i r. ReportAt serves clients passes i (pass r) (times r)) rs
reported {C} serves asked had pass times clients passes hs rs count due kept i r at client before client_at pass_at =
    let h = get_some hs i (omega (arith, count, slice_get_within rs i r at)) in
    let is = due i h.0 h.1 in
    subst (λ (d : C). serves d before (pass r) (times r)) (same_Some _ _ (sym is.client_is ∙ client_at))
    (subst (λ (p : Received). serves (asked h.0) p (pass r) (times r)) (same_Some _ _ (sym is.had_is ∙ pass_at)) (kept i r at h.0 h.1))

-- what the reports have stands at their places
pub all_reported : {C Y : Type 0} (serves : C → Received → Received → ℕ → Type 0) (pass : Y → Received) (times : Y → ℕ) (clients : List C) (passes : List Received) (rs : List Y)
    → AllAt (λ i r. ReportAt serves clients passes i (pass r) (times r)) rs → AllReported serves clients passes (map pass rs) (map times rs)
all_reported {C} serves pass times clients passes rs reports i client had has n client_at had_at has_at n_at =
    let left = map_at pass rs i has has_at in
    let counted = map_at times rs i n n_at in
    let same : counted.0 ≡ left.0 = same_Some _ _ (sym counted.1 ∙ left.1) in
    subst (λ (p : Received). serves client had p n) left.2
    (subst (λ (m : ℕ). serves client had (pass left.0) m) (ap times (sym same) ∙ counted.2) (reports i left.0 left.1 client had client_at had_at))
