-- The text that keeps a site.
use Rattle.std.proofs.Common.{◌≡◌, ◌<◌, ◌≤◌, ◌+◌, ◌^◌, ℕ, Bool, true, false, List, [], ◌∷◌, ◌++◌, length, codes, decimal, refl, sym, ap, ◌∙◌, append_assoc, arith, lit≤}
use Rattle.std.proofs.lemmas.Fmt.{decimal_injective}
use Rattle.std.proofs.lemmas.List.{append-nil, append_cancel_left}
use Rattle.std.proofs.lemmas.Bool.{and_parts}
use Rattle.wh_words.specs.Words.{is_plain, IsPlain}
use Rattle.wh_words.proofs.NumeralLemmas.{plain-decimal}
use Rattle.wh_edge.specs.Site.{OneSite, rule_words}

-- two words that end at marks
same_word : (a b x y : List ℕ) (mark other : ℕ) → is_plain mark ≡ false → is_plain other ≡ false → IsPlain a → IsPlain b → a ++ mark ∷ x ≡ b ++ other ∷ y → (a ≡ b) × (mark ∷ x ≡ other ∷ y)
same_word [] [] x y mark other m o p q e = (refl, e)
same_word [] (c ∷ b) x y mark other m o p q e =
    let same : mark ≡ c = cc in
    let plain : is_plain c ≡ true = (and_parts (is_plain c) _ q).0 in
    let no : true ≡ false = sym plain ∙ ap is_plain (sym same) ∙ m in absurd (grind arith)
same_word (c ∷ a) [] x y mark other m o p q e =
    let same : c ≡ other = cc in
    let plain : is_plain c ≡ true = (and_parts (is_plain c) _ p).0 in
    let no : true ≡ false = sym plain ∙ ap is_plain same ∙ o in absurd (grind arith)
same_word (c ∷ a) (d ∷ b) x y mark other m o p q e =
    let same : c ≡ d = cc in
    let rest : a ++ mark ∷ x ≡ b ++ other ∷ y = cc in
    let both = same_word a b x y mark other m o (and_parts (is_plain c) _ p).1 (and_parts (is_plain d) _ q).1 rest in
    let words : a ≡ b = both.0 in
    (cc, both.1)

-- two texts of one length, and something behind one of them
same_front : (a b x y : List ℕ) → length a ≡ length b → a ++ x ≡ b ++ y → (a ≡ b) × (x ≡ y)
same_front [] [] x y n e = (refl, e)
same_front [] (d ∷ b) x y n e = absurd (omega (arith, n))
same_front (c ∷ a) [] x y n e = absurd (omega (arith, n))
same_front (c ∷ a) (d ∷ b) x y n e =
    let same : c ≡ d = cc in
    let rest : a ++ x ≡ b ++ y = cc in
    let both = same_front a b x y (omega (arith, n)) rest in
    let fronts : a ≡ b = both.0 in
    (cc, both.1)

fits : (n : ℕ) → n ≤ 33554432 → n < 2 ^ 64
fits n h = let limit : 33554433 ≤ 2 ^ 64 = lit≤ tt in omega (arith, h, limit)

head_apart : (x y : List ℕ) → ◌≡◌ {A = List ℕ} (32 ∷ x) (10 ∷ y) → ⊥
head_apart x y e =
    let no : ◌≡◌ {A = ℕ} 32 10 = cc in absurd (grind arith)

-- two words, each with a rule and a line feed behind it
same_rule : (homes other : Bool) (a b x y : List ℕ) → IsPlain a → IsPlain b → a ++ (rule_words homes ++ 10 ∷ x) ≡ b ++ (rule_words other ++ 10 ∷ y) → (other ≡ homes) × (a ≡ b) × (x ≡ y)
same_rule true true a b x y p q e =
    let both = same_word a b (codes "ends homes" ++ 10 ∷ x) (codes "ends homes" ++ 10 ∷ y) 32 32 refl refl p q e in
    (refl, both.0, append_cancel_left (codes " ends homes" ++ 10 ∷ []) x y both.1)
same_rule false false a b x y p q e =
    let both = same_word a b x y 10 10 refl refl p q e in
    (refl, both.0, append_cancel_left (10 ∷ []) x y both.1)
same_rule true false a b x y p q e =
    let both = same_word a b (codes "ends homes" ++ 10 ∷ x) y 32 10 refl refl p q e in
    absurd (head_apart _ _ both.1)
same_rule false true a b x y p q e =
    let both = same_word a b x (codes "ends homes" ++ 10 ∷ y) 10 32 refl refl p q e in
    absurd (head_apart _ _ (sym both.1))

pub one_site : OneSite
one_site homes other map points other_map other_points rest within other_within e =
    let m = length map in
    let n = length points in
    let k = length other_map in
    let l = length other_points in
    let small : n ≤ 33554432 = omega (arith, within.1) in
    let other_small : l ≤ 33554432 = omega (arith, other_within.1) in
    let same : codes "wsite " ++ (decimal m ++ 32 ∷ (decimal n ++ (rule_words homes ++ 10 ∷ (map ++ points)))) ≡ codes "wsite " ++ (decimal k ++ 32 ∷ (decimal l ++ (rule_words other ++ 10 ∷ (other_map ++ (other_points ++ rest))))) =
    simp append_assoc at e in
    let behind : decimal m ++ 32 ∷ (decimal n ++ (rule_words homes ++ 10 ∷ (map ++ points))) ≡ decimal k ++ 32 ∷ (decimal l ++ (rule_words other ++ 10 ∷ (other_map ++ (other_points ++ rest)))) =
    append_cancel_left (codes "wsite ") _ _ same in
    let first = same_word (decimal m) (decimal k) (decimal n ++ (rule_words homes ++ 10 ∷ (map ++ points))) (decimal l ++ (rule_words other ++ 10 ∷ (other_map ++ (other_points ++ rest)))) 32 32 refl refl
    (plain-decimal m (fits m within.0)) (plain-decimal k (fits k other_within.0)) behind in
    let after : decimal n ++ (rule_words homes ++ 10 ∷ (map ++ points)) ≡ decimal l ++ (rule_words other ++ 10 ∷ (other_map ++ (other_points ++ rest))) = append_cancel_left (32 ∷ []) _ _ first.1 in
    let second = same_rule homes other (decimal n) (decimal l) (map ++ points) (other_map ++ (other_points ++ rest)) (plain-decimal n (fits n small)) (plain-decimal l (fits l other_small)) after in
    let maps : m ≡ k = decimal_injective m k (fits m within.0) (fits k other_within.0) first.0 in
    let pointss : n ≡ l = decimal_injective n l (fits n small) (fits l other_small) second.1 in
    let sections = same_front map other_map points (other_points ++ rest) maps second.2 in
    let ends = same_front points other_points [] rest pointss (append-nil points ∙ sections.1) in
    (second.0, sym sections.0, sym ends.0)
