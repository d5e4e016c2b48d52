-- A text is cut into lines in one way.
use Rattle.std.proofs.Common.{◌≡◌, ℕ, Bool, true, false, ◌⊎◌, inl, inr, List, [], ◌∷◌, ◌++◌, refl, sym, ap, ◌∙◌, subst, append_assoc}
use Rattle.std.proofs.lemmas.Bool.{eqb-true}
use Rattle.std.specs.List.{AllByRecursion}
use Rattle.wh_text.specs.Lines.{is_line_feed, IsLine}
use Rattle.wh_words.specs.Lines.{text_of}

no_feed : (xs : List ℕ) → IsLine (10 ∷ xs) → ⊥
no_feed xs h = let e : true ≡ false = h.0 in cc

-- the first line and what follows it
pub one_line : (a b x y : List ℕ) → IsLine a → IsLine b → a ++ 10 ∷ x ≡ b ++ 10 ∷ y → (a ≡ b) × (x ≡ y)
one_line [] [] x y h k e = (refl, cc)
one_line [] (c ∷ b) x y h k e = let same : 10 ≡ c = cc in absurd (no_feed b (subst (λ (d : ℕ). IsLine (d ∷ b)) (sym same) k))
one_line (c ∷ a) [] x y h k e = let same : c ≡ 10 = cc in absurd (no_feed a (subst (λ (d : ℕ). IsLine (d ∷ a)) same h))
one_line (c ∷ a) (d ∷ b) x y h k e =
    let head : c ≡ d = cc in
    let tail : a ++ 10 ∷ x ≡ b ++ 10 ∷ y = cc in
    let rest = one_line a b x y h.1 k.1 tail in
    (let front : a ≡ b = rest.0 in cc, rest.1)

-- a text with no line feed is no text of a line
pub not_whole : (a b y : List ℕ) → IsLine a → a ≡ b ++ 10 ∷ y → ⊥
not_whole [] [] y h e = cc
not_whole [] (c ∷ b) y h e = cc
not_whole (c ∷ a) [] y h e = let same : c ≡ 10 = cc in no_feed a (subst (λ (d : ℕ). IsLine (d ∷ a)) same h)
not_whole (c ∷ a) (d ∷ b) y h e = let tail : a ≡ b ++ 10 ∷ y = cc in not_whole a b y h.1 tail

-- what stands in a text is a whole line, or none does
pub line_or_none : (text : List ℕ) → IsLine text ⊎ ((line : List ℕ) × (more : List ℕ) × IsLine line × (text ≡ line ++ 10 ∷ more))
line_or_none [] = inl tt
line_or_none (b ∷ text) = go (is_line_feed b) refl (line_or_none text)
  where
    go : (v : Bool) → is_line_feed b ≡ v → IsLine text ⊎ ((line : List ℕ) × (more : List ℕ) × IsLine line × (text ≡ line ++ 10 ∷ more))
        → IsLine (b ∷ text) ⊎ ((line : List ℕ) × (more : List ℕ) × IsLine line × (b ∷ text ≡ line ++ 10 ∷ more))
    go true is rest = let same : b ≡ 10 = eqb-true _ _ is in inr ([], text, tt, ap (λ (c : ℕ). c ∷ text) same)
    go false is (inl none) = inl (is, none)
    go false is (inr found) = inr (b ∷ found.0, found.1, (is, found.2), ap (λ (t : List ℕ). b ∷ t) found.3)

pub one_text : (line : List ℕ) (lines : List (List ℕ)) (x : List ℕ) → text_of (line ∷ lines) ++ x ≡ line ++ 10 ∷ (text_of lines ++ x)
one_text line lines x = append_assoc (line ++ 10 ∷ []) (text_of lines) x ∙ append_assoc line (10 ∷ []) (text_of lines ++ x)

pub text_cons : (line : List ℕ) (lines : List (List ℕ)) → text_of (line ∷ lines) ≡ line ++ 10 ∷ text_of lines
text_cons line lines = append_assoc line (10 ∷ []) (text_of lines)

-- lines and one more, at the front of the text of others
pub lines_front : (before : List (List ℕ)) (line more : List ℕ) (lines : List (List ℕ)) → AllByRecursion IsLine before → IsLine line → AllByRecursion IsLine lines
    → text_of before ++ (line ++ 10 ∷ more) ≡ text_of lines → (tail : List (List ℕ)) × (lines ≡ before ++ line ∷ tail) × (more ≡ text_of tail)
lines_front [] line more [] h k j e = absurd (empty line e)
  where
    empty : (line : List ℕ) → line ++ 10 ∷ more ≡ [] → ⊥
    empty [] e = cc
    empty (b ∷ line) e = cc
lines_front [] line more (first ∷ lines) h k j e =
    let cut = one_line line first more (text_of lines) k j.0 (e ∙ text_cons first lines) in
    (lines, ap (λ (l : List ℕ). l ∷ lines) (sym cut.0), cut.1)
lines_front (b ∷ before) line more [] h k j e = absurd (empty b _ (sym (one_text b before (line ++ 10 ∷ more)) ∙ e))
  where
    empty : (b x : List ℕ) → b ++ 10 ∷ x ≡ [] → ⊥
    empty [] x e = cc
    empty (c ∷ b) x e = cc
lines_front (b ∷ before) line more (first ∷ lines) h k j e =
    let cut = one_line b first (text_of before ++ (line ++ 10 ∷ more)) (text_of lines) h.0 j.0 (sym (one_text b before (line ++ 10 ∷ more)) ∙ e ∙ text_cons first lines) in
    let rest = lines_front before line more lines h.1 k j.1 cut.1 in
    (rest.0, ap (λ (l : List ℕ). l ∷ lines) (sym cut.0) ∙ ap (λ (ls : List (List ℕ)). b ∷ ls) rest.1, rest.2)

-- lines, and a rest with no line feed, that are the text of lines: there is no rest
pub lines_all : (before : List (List ℕ)) (rest : List ℕ) (lines : List (List ℕ)) → AllByRecursion IsLine before → IsLine rest → AllByRecursion IsLine lines
    → text_of before ++ rest ≡ text_of lines → lines ≡ before
lines_all [] rest [] h k j e = refl
lines_all [] rest (first ∷ lines) h k j e = absurd (not_whole rest first (text_of lines) k (e ∙ text_cons first lines))
lines_all (b ∷ before) rest [] h k j e = absurd (empty b _ (sym (one_text b before rest) ∙ e))
  where
    empty : (b x : List ℕ) → b ++ 10 ∷ x ≡ [] → ⊥
    empty [] x e = cc
    empty (c ∷ b) x e = cc
lines_all (b ∷ before) rest (first ∷ lines) h k j e =
    let cut = one_line b first (text_of before ++ rest) (text_of lines) h.0 j.0 (sym (one_text b before rest) ∙ e ∙ text_cons first lines) in
    let same = lines_all before rest lines h.1 k j.1 cut.1 in
    ap (λ (l : List ℕ). l ∷ lines) (sym cut.0) ∙ ap (λ (ls : List (List ℕ)). b ∷ ls) same
