-- Bytes that are cut into lines.
use Rattle.std.proofs.Common.{◌≡◌, ◌≤◌, ◌<◌, ◌+◌, ◌-◌, ℕ, List, [], ◌∷◌, ◌++◌, length, take, refl, sym, ap, ◌∙◌, arith, append_assoc, Bool, true, false, cond, ◌==◌}
use Rattle.std.specs.Prelude.{◌&&◌, slice_index}
use Rattle.std.proofs.lemmas.List.{length-take}
use Rattle.wh_text.specs.Lines.{lines_of, without_cr, IsLine}
use Rattle.wh_text.proofs.CutLemmas.{lines-feed}
use Rattle.wh_lines.specs.Text.{EndsLine, is_separator}

-- one more whole line
pub whole_next : (read raw : List ℕ) → EndsLine read → IsLine raw → EndsLine (read ++ (raw ++ 10 ∷ []))
whole_next read raw whole p more =
    let text = raw ++ 10 ∷ [] in
    let all : lines_of ((read ++ text) ++ more) ≡ lines_of read ++ (without_cr raw ∷ lines_of more) =
    ap lines_of (append_assoc read text more) ∙ whole (text ++ more) ∙ ap (λ l. lines_of read ++ lines_of l) (append_assoc raw (10 ∷ []) more) ∙ ap (λ l. lines_of read ++ l) (lines-feed raw more p) in
    let front : lines_of (read ++ text) ≡ lines_of read ++ (without_cr raw ∷ []) = whole text ∙ ap (λ l. lines_of read ++ l) (lines-feed raw [] p) in
    all ∙ sym (ap (λ l. l ++ lines_of more) front ∙ append_assoc (lines_of read) (without_cr raw ∷ []) (lines_of more))

cr_length : (line : List ℕ) (b : Bool) → length line ≤ length (cond b (take (length line - 1) line) line) + 1
cr_length line true = omega (arith, length-take (length line - 1) line)
cr_length line false = omega arith

-- a carriage return is one byte at most
pub without_cr_length : (line : List ℕ) → length line ≤ length (without_cr line) + 1
without_cr_length line = cr_length line (slice_index line (length line - 1) == 13)

both_false : (b c : Bool) → (b && (c && false)) ≡ false
both_false b c = elim b as (λ v. (v && (c && false)) ≡ false) [ true ↦ elim c as (λ v. (v && false) ≡ false) [ true ↦ refl | false ↦ refl ] | false ↦ refl ]

-- a line of three bytes or more stands between no sections
long_line : (line : List ℕ) → 2 < length line → is_separator line ≡ false
unfolding is_separator
long_line [] h = absurd (omega (arith, h))
long_line (a ∷ []) h = absurd (omega (arith, h))
long_line (a ∷ b ∷ []) h = absurd (omega (arith, h))
long_line (a ∷ b ∷ c ∷ line) h = both_false (a == 37) (b == 37)

pub long_unmarked : (line : List ℕ) → 3 < length line → is_separator (without_cr line) ≡ false
long_unmarked line h = long_line (without_cr line) (omega (arith, h, without_cr_length line))
