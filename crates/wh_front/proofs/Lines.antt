-- A line is its first word, what follows it, and its line feed; a text is its lines one after the other.
use Rattle.std.proofs.Common.{◌≡◌, ℕ, List, [], ◌∷◌, ◌++◌, map, sym, ap, ◌∙◌, append_assoc}
use Rattle.std.proofs.lemmas.List.{append-nil, map-append}
use Rattle.std.proofs.lemmas.Grind.{flat_map-append}
use Rattle.wh_words.specs.Words.{line_of}
use Rattle.wh_words.specs.Lines.{text_of}
use Rattle.wh_log.specs.Spaced.{spaced}
use Rattle.wh_log.proofs.Spacing.{line-spaced}
use Rattle.wh_front.specs.declared.line.Line.{Line}
use Rattle.wh_front.specs.Spelling.{front_line}

-- what was written piece by piece: the first word, the others, and the line feed
pub line_pushed : (out a b c name : List ℕ) (words : List (List ℕ)) → a ≡ out ++ name → b ≡ a ++ spaced words → c ≡ b ++ 10 ∷ [] → c ≡ out ++ (line_of (name ∷ words) ++ 10 ∷ [])
line_pushed out a b c name words p q r =
    let pieces : c ≡ out ++ ((name ++ spaced words) ++ 10 ∷ []) = rw (r, q, p) (simp append_assoc) in
    pieces ∙ ap (λ (t : List ℕ). out ++ (t ++ 10 ∷ [])) (sym (line-spaced name words))

abbrev pub lines_text : List Line → List ℕ
lines_text lines = text_of (map front_line lines)

pub lines_text-append : (xs ys : List Line) → lines_text (xs ++ ys) ≡ lines_text xs ++ lines_text ys
lines_text-append xs ys = ap text_of (map-append front_line xs ys) ∙ flat_map-append (λ line. line ++ 10 ∷ []) (map front_line xs) (map front_line ys)

-- one more line
pub one_more : (out before new : List ℕ) (lines : List Line) (line : Line) → before ≡ out ++ lines_text lines → new ≡ before ++ (front_line line ++ 10 ∷ []) → new ≡ out ++ lines_text (lines ++ line ∷ [])
one_more out before new lines line p q =
    let last : lines_text (line ∷ []) ≡ front_line line ++ 10 ∷ [] = append-nil (front_line line ++ 10 ∷ []) in
    q ∙ ap (λ (t : List ℕ). t ++ (front_line line ++ 10 ∷ [])) p ∙ append_assoc out (lines_text lines) (front_line line ++ 10 ∷ [])
    ∙ ap (λ (t : List ℕ). out ++ (lines_text lines ++ t)) (sym last) ∙ ap (λ (t : List ℕ). out ++ t) (sym (lines_text-append lines (line ∷ [])))

-- lines behind lines
pub more_lines : (out before new : List ℕ) (xs ys : List Line) → before ≡ out ++ lines_text xs → new ≡ before ++ lines_text ys → new ≡ out ++ lines_text (xs ++ ys)
more_lines out before new xs ys p q =
    q ∙ ap (λ (t : List ℕ). t ++ lines_text ys) p ∙ append_assoc out (lines_text xs) (lines_text ys) ∙ ap (λ (t : List ℕ). out ++ t) (sym (lines_text-append xs ys))
