-- Places and tests of a list, and of the list that a function makes of it.
use Rattle.std.proofs.Common.{◌≡◌, ◌≢◌, ℕ, suc, zero, ◌<◌, ◌≤◌, ◌+◌, Option, Some, None, Bool, true, false, cond, not, ◌||◌, List, [], ◌∷◌, length, get_or, map, All, refl, ap, sym, ◌∙◌, arith}
use Rattle.std.proofs.Math.Dec.{ltb as nat_lt}
use Rattle.std.proofs.lemmas.Bool.{ltb-false}
use Rattle.std.proofs.lemmas.List.{length-map}
use Rattle.std.proofs.lemmas.List.Quantifiers.{position-Some}
use Rattle.std.specs.List.{position, position_or_len, list_any}
use Rattle.std.specs.Str.{bytes_eq}
use Rattle.std.specs.Cmp.Lexicographic.{bytes_decides}
use Rattle.wh_points.specs.declared.points.Point.{Point}
use Rattle.wh_points.specs.Points.{point_at}
use Rattle.wh_points.specs.Layouts.{find_name}

pub position_or_len-map : {X Y : Type 0} (p : Y → Bool) (f : X → Y) (xs : List X) → position_or_len p (map f xs) ≡ position_or_len (λ x. p (f x)) xs
position_or_len-map p f [] = refl
position_or_len-map p f (x ∷ xs) = ap (λ (n : ℕ). cond (not (p (f x))) (1 + n) 0) (position_or_len-map p f xs)

pub position-map : {X Y : Type 0} (p : Y → Bool) (f : X → Y) (xs : List X) → position p (map f xs) ≡ position (λ x. p (f x)) xs
position-map p f xs = let e : length (map f xs) ≡ length xs = length-map xs f in rw (position_or_len-map p f xs, e) refl

pub list_any-map : {X Y : Type 0} (p : Y → Bool) (f : X → Y) (xs : List X) → list_any p (map f xs) ≡ list_any (λ x. p (f x)) xs
list_any-map p f [] = refl
list_any-map p f (x ∷ xs) = ap (λ (b : Bool). p (f x) || b) (list_any-map p f xs)

unfound : (b : Bool) (m : ℕ) → cond b (Some m) None ≡ None → b ≡ false
unfound true m h = cc
unfound false m h = refl

passes_by : {X : Type 0} (p : X → Bool) (x : X) (xs : List X) (d : X) (b : Bool) → p x ≡ b → suc (length xs) ≤ cond (not b) (1 + position_or_len p xs) 0
    → (length xs ≤ position_or_len p xs → (i : ℕ) → i < length xs → p (get_or xs i d) ≡ false) → (i : ℕ) → i < suc (length xs) → p (get_or (x ∷ xs) i d) ≡ false
passes_by p x xs d true e h rest i below = absurd (omega arith)
passes_by p x xs d false e h rest zero below = e
passes_by p x xs d false e h rest (suc i) below = rest (omega arith) i (omega arith)

none_passes : {X : Type 0} (p : X → Bool) (xs : List X) (d : X) → length xs ≤ position_or_len p xs → (i : ℕ) → i < length xs → p (get_or xs i d) ≡ false
none_passes p [] d h i below = absurd (omega arith)
none_passes p (x ∷ xs) d h i below = passes_by p x xs d (p x) refl h (λ longer. none_passes p xs d longer) i below

-- where no place is found, no element passes
pub position-None : {X : Type 0} (p : X → Bool) (xs : List X) → position p xs ≡ None → (i : ℕ) (d : X) → i < length xs → p (get_or xs i d) ≡ false
position-None p xs h i d = none_passes p xs d (ltb-false _ _ (unfound (nat_lt (position_or_len p xs) (length xs)) (position_or_len p xs) h)) i

pub find_name-found : (name : List ℕ) (points : List Point) (i : ℕ) → find_name name points ≡ Some i → (point_at points i).name ≡ name
find_name-found name points i h = sym ((bytes_decides name (point_at points i).name).0 ((position-Some (λ point. bytes_eq name point.name) points i _ h).1))

pub find_name-none : (name : List ℕ) (points : List Point) → find_name name points ≡ None → All (λ point. point.name ≢ name) points
find_name-none name points h = λ i d below e.
    let no : bytes_eq name (get_or points i d).name ≡ false = position-None (λ point. bytes_eq name point.name) points h i d below in
    let yes : bytes_eq name (get_or points i d).name ≡ true = (bytes_decides name (get_or points i d).name).1 (sym e) in
    cc

-- a place among the names is the place of the point
pub find_name-among : (name : List ℕ) (points : List Point) (keys : List (List ℕ)) (r : Option ℕ)
    → r ≡ position (bytes_eq name) keys → keys ≡ map (λ point. point.name) points → r ≡ find_name name points
find_name-among name points keys r h e = h ∙ ap (λ ks. position (bytes_eq name) ks) e ∙ position-map (bytes_eq name) (λ (point : Point). point.name) points
