-- A front of a text is a front of what begins with it.
use Rattle.std.proofs.Common.{◌≡◌, ℕ, List, [], ◌∷◌, ◌++◌, take, refl, sym, ap, subst, Option, Result, Ok, Err}
use Rattle.std.specs.Prelude.{OnErr}
use Prim.Native.Nat.{zero, suc}
use Rattle.std.specs.Io.KnownBytes.{Appends}
use Rattle.wh_replay.specs.Scripts.{WritesFront}
use Rattle.wh_replay.proofs.Written.{front_after}

front_of : (xs ys : List ℕ) (count : ℕ) → (n : ℕ) × (take n (xs ++ ys) ≡ take count xs)
front_of xs ys zero = (0, refl)
front_of [] ys (suc count) = (0, refl)
front_of (x ∷ xs) ys (suc count) =
    let r = front_of xs ys count in
    (suc r.0, ap (λ (l : List ℕ). x ∷ l) r.1)

pub front_of_both : (a b : Option (List ℕ)) (xs ys : List ℕ) → WritesFront a b xs → WritesFront a b (xs ++ ys)
front_of_both a b xs ys w =
    let r = front_of xs ys w.count in
    record { count = r.0; appends = subst (λ (l : List ℕ). Appends a b l) (sym r.1) w.appends }

pub fault_behind : {X E : Type 0} (a b c : Option (List ℕ)) (xs ys : List ℕ) (r : Result X E) → Appends a b xs → OnErr r (WritesFront b c ys) → OnErr r (WritesFront a c (xs ++ ys))
fault_behind a b c xs ys (Ok x) p w = tt
fault_behind a b c xs ys (Err e) p w = front_after a b c xs ys p w
