-- How lines and words are cut, and joined again.
use Rattle.std.proofs.Common.{◌≡◌, ℕ, suc, ◌<◌, ◌≤◌, ◌+◌, Some, None, Bool, true, false, cond, not, List, [], ◌∷◌, ◌++◌, length, take, drop, get_or, eqb, refl, ap, ◌∙◌, subst, arith}
use Rattle.std.proofs.Math.Dec.{ltb as nat_lt}
use Rattle.std.proofs.lemmas.Bool.{ltb-true, ltb-false, eqb-true, ne_eqb, and_parts}
use Rattle.std.proofs.lemmas.List.{take_all}
use Rattle.std.proofs.lemmas.List.Sums.{split_at_first, passes_at_first}
use Rattle.std.proofs.lemmas.List.Splits.{slice_split_first, slice_split_none, slice_split_at, join_with_byte-slice_split}
use Rattle.std.proofs.lemmas.List.Elements.{All-from_recursion}
use Rattle.std.specs.List.{position, position_or_len, before_first, after_first, AllByRecursion, list_all}
use Rattle.std.proofs.lemmas.Option.{cond_some}
use Rattle.wh_text.specs.Lines.{is_line_feed, IsLine, HasNone}
use Rattle.wh_words.specs.Words.{is_space, is_plain, IsPlain, words_of, line_of}

lacks_one : (p : ℕ → Bool) (x : ℕ) (xs : List ℕ) (n : ℕ) (v : Bool) → p x ≡ v → HasNone p (take n xs) → HasNone p (take (cond (not v) (1 + n) 0) (x ∷ xs))
lacks_one p x xs n true e h = tt
lacks_one p x xs n false e h = let one : 1 + n ≡ suc n = omega arith in rw one (e, h)

-- what stands before the first byte of the kind has none
lacks-before_first : (p : ℕ → Bool) (xs : List ℕ) → HasNone p (before_first p xs)
lacks-before_first p [] = tt
lacks-before_first p (x ∷ xs) = lacks_one p x xs (position_or_len p xs) (p x) refl (lacks-before_first p xs)

unfound : (b : Bool) (m : ℕ) → cond b (Some m) None ≡ None → b ≡ false
unfound true m h = cc
unfound false m h = refl

pub place : (p : ℕ → Bool) (xs : List ℕ) (i : ℕ) → position p xs ≡ Some i → (position_or_len p xs < length xs) × (position_or_len p xs ≡ i)
place p xs i h =
    let f = cond_some (nat_lt (position_or_len p xs) (length xs)) (position_or_len p xs) i h in
    (ltb-true _ _ f.0, f.1)

no_place : (p : ℕ → Bool) (xs : List ℕ) → position p xs ≡ None → length xs ≤ position_or_len p xs
no_place p xs h = ltb-false _ _ (unfound (nat_lt (position_or_len p xs) (length xs)) (position_or_len p xs) h)

-- ---- lines
pub line-Some : (text : List ℕ) (i : ℕ) → position is_line_feed text ≡ Some i → IsLine (take i text)
line-Some text i h = subst (λ (k : ℕ). IsLine (take k text)) ((place is_line_feed text i h).1) (lacks-before_first is_line_feed text)

pub split_around : (c : ℕ) (text : List ℕ) (i : ℕ) → position (λ b. eqb b c) text ≡ Some i → text ≡ take i text ++ c ∷ drop (i + 1) text
split_around c text i h =
    let p : ℕ → Bool = λ b. eqb b c in
    let at = place p text i h in
    let byte : get_or text (position_or_len p text) 0 ≡ c = eqb-true _ _ (passes_at_first p text 0 at.0) in
    let whole : text ≡ before_first p text ++ (get_or text (position_or_len p text) 0 ∷ after_first p text) = split_at_first p text 0 at.0 in
    let same : text ≡ before_first p text ++ (c ∷ after_first p text) = subst (λ (b : ℕ). text ≡ before_first p text ++ (b ∷ after_first p text)) byte whole in
    subst (λ (k : ℕ). text ≡ take k text ++ c ∷ drop (k + 1) text) at.1 same

pub parts-Some : (text : List ℕ) (i : ℕ) → position is_line_feed text ≡ Some i → text ≡ take i text ++ 10 ∷ drop (i + 1) text
parts-Some text i h = split_around 10 text i h

pub line-None : (text : List ℕ) → position is_line_feed text ≡ None → IsLine text
line-None text h =
    let e : take (position_or_len is_line_feed text) text ≡ text = take_all (position_or_len is_line_feed text) text (no_place is_line_feed text h) in
    subst (λ (t : List ℕ). IsLine t) e (lacks-before_first is_line_feed text)

-- ---- words
pub words-Some : (text : List ℕ) (i : ℕ) → position is_space text ≡ Some i → words_of text ≡ take i text ∷ words_of (drop (i + 1) text)
words-Some text i h =
    let at = place is_space text i h in
    subst (λ (k : ℕ). words_of text ≡ take k text ∷ words_of (drop (k + 1) text)) at.1 (slice_split_first is_space text 0 at.0)

pub words-None : (text : List ℕ) → position is_space text ≡ None → words_of text ≡ text ∷ []
words-None text h =
    let past = no_place is_space text h in
    let e : take (position_or_len is_space text) text ≡ text = take_all (position_or_len is_space text) text past in
    slice_split_none is_space text (All-from_recursion (λ b. is_space b ≡ false) text (subst (λ (t : List ℕ). HasNone is_space t) e (lacks-before_first is_space text)))

pub joined : (line : List ℕ) → line_of (words_of line) ≡ line
joined line = join_with_byte-slice_split 32 line

-- a plain word has no space and no line feed
pub plain_lacks : (p : ℕ → Bool) → ((b : ℕ) → 32 < b → p b ≡ false) → (word : List ℕ) → IsPlain word → HasNone p word
plain_lacks p h [] plain = tt
plain_lacks p h (b ∷ word) plain =
    let both = and_parts (is_plain b) (list_all is_plain word) plain in
    (h b (ltb-true _ _ both.0), plain_lacks p h word both.1)

no_space : (b : ℕ) → 32 < b → is_space b ≡ false
no_space b h = ne_eqb b 32 (λ e. absurd (omega arith))

pub plain_line : (word : List ℕ) → IsPlain word → IsLine word
plain_line word plain = plain_lacks is_line_feed (λ b h. ne_eqb b 10 (λ e. absurd (omega arith))) word plain

pub split : (words : List (List ℕ)) → 0 < length words → AllByRecursion IsPlain words → words_of (line_of words) ≡ words
split [] some plain = absurd (omega arith)
split (word ∷ []) some plain = slice_split_none is_space word (All-from_recursion (λ b. is_space b ≡ false) word (plain_lacks is_space no_space word plain.0))
split (word ∷ other ∷ words) some plain =
    slice_split_at is_space word 32 (line_of (other ∷ words)) (All-from_recursion (λ b. is_space b ≡ false) word (plain_lacks is_space no_space word plain.0)) refl
    ∙ ap (λ (rest : List (List ℕ)). word ∷ rest) (split (other ∷ words) (omega arith) plain.1)

lacks-append : (p : ℕ → Bool) (xs ys : List ℕ) → HasNone p xs → HasNone p ys → HasNone p (xs ++ ys)
lacks-append p [] ys f g = g
lacks-append p (x ∷ xs) ys f g = (f.0, lacks-append p xs ys f.1 g)

-- plain words make a line
pub line_is_line : (words : List (List ℕ)) → AllByRecursion IsPlain words → IsLine (line_of words)
line_is_line [] plain = tt
line_is_line (word ∷ []) plain = plain_line word plain.0
line_is_line (word ∷ other ∷ words) plain = lacks-append is_line_feed word (32 ∷ line_of (other ∷ words)) (plain_line word plain.0) (refl, line_is_line (other ∷ words) plain.1)
