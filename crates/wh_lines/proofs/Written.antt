-- Bytes that are written in parts.
use Rattle.std.proofs.Common.{Result, Ok, Err, ◌≡◌, ◌∙◌, ◌≤◌, ◌+◌, ℕ, List, [], ◌∷◌, ◌++◌, length, take, drop, ◌-◌, refl, sym, ap, arith, subst, Option, zero, suc}
use Rattle.std.specs.Prelude.{OnErr}
use Rattle.std.specs.Io.KnownBytes.{Appends, Keeps}
use Rattle.std.proofs.KnownBytes.{Appends-trans, Appends-kept}
use Rattle.std.proofs.lemmas.List.{take_all, length-drop, take-append-drop}
use Rattle.wh_lines.proofs.Room.{take_past}
use Rattle.wh_lines.specs.Output.{WritesFront}

take_two : (xs : List ℕ) (d n k : ℕ) → k ≡ d + n → take d xs ++ take n (drop d xs) ≡ take k xs
take_two xs zero n k e = (let same : n ≡ k = omega arith in ap (λ m. take m xs) same)
take_two [] (suc d) zero (suc k) e = refl
take_two [] (suc d) (suc n) (suc k) e = refl
take_two [] (suc d) n zero e = absurd (omega (arith, e))
take_two (x ∷ xs) (suc d) n zero e = absurd (omega (arith, e))
take_two (x ∷ xs) (suc d) n (suc k) e = ap (λ l. x ∷ l) (take_two xs d n k (omega (arith, e)))

pub wrote_more : (a b c : Option (List ℕ)) (xs : List ℕ) (d n : ℕ) → Appends a b (take d xs) → Appends b c (take n (drop d xs)) → Appends a c (take (d + n) xs)
wrote_more a b c xs d n p q = subst (Appends a c) (take_two xs d n (d + n) refl) (Appends-trans a b c (take d xs) (take n (drop d xs)) p q)

rest_is : (xs : List ℕ) (d : ℕ) → take (length xs - d) (drop d xs) ≡ drop d xs
rest_is xs d = take_all (length xs - d) (drop d xs) (omega (arith, length-drop d xs))

-- a write of a front of the rest
pub wrote_rest : (a b c : Option (List ℕ)) (xs : List ℕ) (d n : ℕ) → Appends a b (take d xs) → Appends b c (take n (take (length xs - d) (drop d xs))) → Appends a c (take (d + n) xs)
wrote_rest a b c xs d n p q = wrote_more a b c xs d n p (subst (λ l. Appends b c (take n l)) (rest_is xs d) q)

pub rest_long : (xs : List ℕ) (d n : ℕ) → d ≤ length xs → n ≤ length (take (length xs - d) (drop d xs)) → d + n ≤ length xs
rest_long xs d n h k = omega (arith, ap length (rest_is xs d), length-drop d xs, h, k)

pub front_kept : (a b c : Option (List ℕ)) (xs : List ℕ) (d : ℕ) → Appends a b (take d xs) → Keeps b c → WritesFront a c xs
front_kept a b c xs d p q = record { count = d; appends = Appends-kept a b c (take d xs) p q }

-- a front of what comes next is a front of all
pub front_after : (a b c : Option (List ℕ)) (xs ys : List ℕ) → Appends a b xs → WritesFront b c ys → WritesFront a c (xs ++ ys)
front_after a b c xs ys p w = record { count = length xs + w.count; appends = subst (Appends a c) (sym (take_past xs ys (length xs + w.count) w.count refl)) (Appends-trans a b c xs (take w.count ys) p w.appends) }

-- all of it is a front of it
pub front_all : (a b : Option (List ℕ)) (xs : List ℕ) → Appends a b xs → WritesFront a b xs
front_all a b xs p = record { count = length xs; appends = subst (Appends a b) (sym (take_all (length xs) xs (omega arith))) p }

-- ---- two parts

-- a front of the first part is a front of both
take_first : (n : ℕ) (xs ys : List ℕ) → take (length (take n xs)) (xs ++ ys) ≡ take n xs
take_first zero xs ys = refl
take_first (suc n) [] ys = refl
take_first (suc n) (x ∷ xs) ys = ap (λ l. x ∷ l) (take_first n xs ys)

pub front_first : (a b : Option (List ℕ)) (xs ys : List ℕ) → WritesFront a b xs → WritesFront a b (xs ++ ys)
front_first a b xs ys w = record { count = length (take w.count xs); appends = subst (Appends a b) (sym (take_first w.count xs ys)) w.appends }

pub on_err_of : {T E P : Type 0} (r : Result T E) → P → OnErr r P
on_err_of (Ok x) p = tt
on_err_of (Err e) p = p

-- two parts that make the text
pub both_parts : (a b c : Option (List ℕ)) (xs ys text : List ℕ) → text ≡ xs ++ ys → Appends a b xs → Appends b c ys → Appends a c text
both_parts a b c xs ys text e p q = subst (Appends a c) (sym e) (Appends-trans a b c xs ys p q)

pub in_first : (a b : Option (List ℕ)) (xs ys text : List ℕ) → text ≡ xs ++ ys → WritesFront a b xs → WritesFront a b text
in_first a b xs ys text e w = subst (WritesFront a b) (sym e) (front_first a b xs ys w)

pub in_second : (a b c : Option (List ℕ)) (xs ys text : List ℕ) → text ≡ xs ++ ys → Appends a b xs → WritesFront b c ys → WritesFront a c text
in_second a b c xs ys text e p w = subst (WritesFront a c) (sym e) (front_after a b c xs ys p w)

-- a front of what follows a front of the text
pub front_rest : {T E : Type 0} (r : Result T E) (a b c : Option (List ℕ)) (xs : List ℕ) (d : ℕ) → Appends a b (take d xs) → OnErr r (WritesFront b c (take (length xs - d) (drop d xs))) → OnErr r (WritesFront a c xs)
front_rest (Ok x) a b c xs d p w = tt
front_rest (Err e) a b c xs d p w =
    in_second a b c (take d xs) (take (length xs - d) (drop d xs)) xs (sym (ap (λ l. take d xs ++ l) (rest_is xs d) ∙ take-append-drop d xs)) p w
