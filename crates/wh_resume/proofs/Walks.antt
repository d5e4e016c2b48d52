-- Whole lines at the front of a text.
use Rattle.std.proofs.Common.{◌≡◌, ◌≤◌, ◌<◌, ◌-◌, ◌⊎◌, ℕ, inl, inr, List, [], ◌∷◌, ◌++◌, length, take, refl, sym, ap, ◌∙◌, subst, arith, length-append, append-nil}
use Rattle.std.specs.List.{AllByRecursion}
use Rattle.wh_points.specs.Points.{Site}
use Rattle.wh_words.specs.Lines.{text_of}
use Rattle.wh_text.specs.Lines.{IsLine}
use Rattle.wh_log.specs.Logs.{head_line}
use Rattle.wh_log.specs.Torn.{IsUnopened}
use Rattle.wh_log.proofs.LineLaws.{one_line, not_whole, one_text}
use Rattle.wh_log.proofs.HeadLaws.{head_is_line}
use Rattle.wh_resume.specs.declared.recovery.Recovery.{Recovery}
use Rattle.wh_resume.specs.declared.recovery.Recovery.TheVariants as told
use Rattle.wh_resume.specs.Resuming.{IsFront, EndsBefore, TellsOther, Tells}

-- as many lines at the front of one text are the same lines
pub same_lines : (a b : List (List ℕ)) (x y : List ℕ) → AllByRecursion IsLine a → AllByRecursion IsLine b → length a ≡ length b → text_of a ++ x ≡ text_of b ++ y → a ≡ b
same_lines [] [] x y h k many e = refl
same_lines [] (l ∷ b) x y h k many e = absurd (omega (arith, many))
same_lines (l ∷ a) [] x y h k many e = absurd (omega (arith, many))
same_lines (l ∷ a) (m ∷ b) x y h k many e =
    let cut = one_line l m (text_of a ++ x) (text_of b ++ y) h.0 k.0 (sym (one_text l a x) ∙ e ∙ one_text m b y) in
    let rest : a ≡ b = same_lines a b x y h.1 k.1 (omega (arith, many)) cut.1 in
    ap (λ (n : List ℕ). n ∷ a) cut.0 ∙ ap (λ (ls : List (List ℕ)). m ∷ ls) rest

-- lines, and a rest with no line feed, are not the text of more lines
pub fewer_lines : (a b : List (List ℕ)) (x y : List ℕ) → AllByRecursion IsLine a → AllByRecursion IsLine b → IsLine x → length a < length b → text_of a ++ x ≡ text_of b ++ y → ⊥
fewer_lines a [] x y h k is less e = omega (arith, less)
fewer_lines [] (m ∷ b) x y h k is less e = not_whole x m (text_of b ++ y) is (e ∙ one_text m b y)
fewer_lines (l ∷ a) (m ∷ b) x y h k is less e =
    let cut = one_line l m (text_of a ++ x) (text_of b ++ y) h.0 k.0 (sym (one_text l a x) ∙ e ∙ one_text m b y) in
    fewer_lines a b x y h.1 k.1 is (omega (arith, less)) cut.1

pub ends_before_one : (text line rest : List ℕ) → IsLine line → text ≡ line ++ 10 ∷ rest → EndsBefore text 2 (length text - length rest)
ends_before_one text line rest is e =
    let parts : text ≡ text_of (line ∷ []) ++ rest = e ∙ sym (one_text line [] rest) in
    record {
      before = line ∷ [];
      rest = rest;
      lines = (is, tt);
      parts = parts;
      place = refl;
      bytes_are = omega (arith, ap length parts, length-append (text_of (line ∷ [])) rest);
    }

pub other_told : (site : Site) (begun text : List ℕ) (said : Recovery) → TellsOther text said → IsUnopened text → (IsFront text begun → ⊥) → Tells site begun text said
other_told site begun text (told.Resumed r) t unopened other = absurd t
other_told site begun text (told.Unopened setting) t unopened other = absurd t
other_told site begun text (told.Flawed line reason) t unopened other = absurd t
other_told site begun text (told.Bad line bytes) t unopened other = (t, inr (inr (record { unopened = unopened; other = other })))

-- where two lines stand whole a run was begun
pub not_unopened : (before : List (List ℕ)) (rest : List ℕ) → AllByRecursion IsLine before → 2 ≤ length before → IsUnopened (text_of before ++ rest) → ⊥
not_unopened before rest h two (inl none) = fewer_lines [] before (text_of before ++ rest) rest tt h none (omega (arith, two)) refl
not_unopened before rest h two (inr one) =
    fewer_lines (head_line one.0 ∷ []) before one.1 rest (head_is_line one.0, tt) h one.2 (omega (arith, two)) (one_text (head_line one.0) [] one.1 ∙ sym one.3)

take_front : (xs ys : List ℕ) → take (length xs) (xs ++ ys) ≡ xs
take_front [] ys = refl
take_front (x ∷ xs) ys = ap (λ (l : List ℕ). x ∷ l) (take_front xs ys)

-- the bytes before the line
pub front_is : (text : List ℕ) (line bytes : ℕ) (e : EndsBefore text line bytes) → take bytes text ≡ text_of e.before
front_is text line bytes e = ap (λ (n : ℕ). take n text) e.bytes_are ∙ ap (λ (t : List ℕ). take (length (text_of e.before)) t) e.parts ∙ take_front (text_of e.before) e.rest
