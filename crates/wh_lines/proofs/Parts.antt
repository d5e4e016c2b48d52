-- A line that comes in several parts.
use Rattle.std.proofs.Common.{◌≡◌, ◌<◌, ◌+◌, ℕ, List, [], ◌∷◌, ◌++◌, length, take, drop, refl, sym, ap, ◌∙◌, arith, Bool, true, false, cond, None, Some, Option, nat_lt, inl, inr, ltb-false, ltb-true, subst, append_assoc, append-nil, eqb-true, lt-ltb, not, suc, zero}
use Rattle.std.proofs.lemmas.Bool.{lt-leb}
use Rattle.std.specs.Prelude.{position, nat_le}
use Rattle.std.specs.List.{position_or_len, before_first, after_first}
use Rattle.std.proofs.lemmas.List.{take_all, drop_all, take-append-drop, take-append-le, take-take, length-take}
use Rattle.std.proofs.lemmas.Bool.{cases_lt}
use Rattle.std.proofs.KnownBytes.{Consumes-nil, Consumes-trans, Consumes-kept}
use Rattle.std.specs.Io.KnownBytes.{Keeps, Consumes, IsAtEnd, prepend_known}
use Rattle.std.proofs.lemmas.Option.{cond_some}
use Rattle.wh_text.specs.Lines.{is_line_feed, without_cr, IsLine}
use Rattle.wh_lines.specs.Text.{short_line}
use Rattle.wh_lines.proofs.Cuts.{without_cr_length}
use Rattle.wh_lines.specs.Input.{Input, left, with_waiting, Takes, Gathered}
use Rattle.wh_lines.specs.declared.lines.Next.TheVariants.{Whole, Last}

-- part of a line was taken, and its first 258 bytes are kept
pub record Begun (old new : Input) (kept : List ℕ) : Type 0 where
  pub raw : List ℕ
  pub plain : IsLine raw
  pub kept_is : kept ≡ take 258 raw
  pub takes : Takes old new raw

not_found : (b : Bool) (n : ℕ) → cond b (Some n) None ≡ None → b ≡ false
not_found true n e = cc
not_found false n e = refl

-- where the first line feed is
pub found : (xs : List ℕ) (i : ℕ) → position is_line_feed xs ≡ Some i → (nat_lt (position_or_len is_line_feed xs) (length xs) ≡ true) × (position_or_len is_line_feed xs ≡ i)
found xs i e = cond_some (nat_lt (position_or_len is_line_feed xs) (length xs)) (position_or_len is_line_feed xs) i e

pub none : (xs : List ℕ) → position is_line_feed xs ≡ None → nat_lt (position_or_len is_line_feed xs) (length xs) ≡ false
none xs e = not_found (nat_lt (position_or_len is_line_feed xs) (length xs)) (position_or_len is_line_feed xs) e

pub none_before : (xs : List ℕ) → nat_lt (position_or_len is_line_feed xs) (length xs) ≡ false → before_first is_line_feed xs ≡ xs
none_before xs e = take_all _ xs (omega (arith, ltb-false (position_or_len is_line_feed xs) (length xs) e))

pub none_after : (xs : List ℕ) → nat_lt (position_or_len is_line_feed xs) (length xs) ≡ false → after_first is_line_feed xs ≡ []
none_after xs e = drop_all _ xs (omega (arith, ltb-false (position_or_len is_line_feed xs) (length xs) e))

front_step : (b : Bool) (n m len : ℕ) → nat_lt (cond (not b) (1 + m) 0) (suc len) ≡ true → (nat_lt m len ≡ true → n ≡ m) → cond (not b) (1 + n) 0 ≡ cond (not b) (1 + m) 0
front_step true n m len e rest = refl
front_step false n m len e rest = (let less : 1 + m < suc len = ltb-true (1 + m) (suc len) e in ap (λ k. 1 + k) (rest (lt-ltb m len (omega (arith, less)))))

front_first : (xs : List ℕ) (n : ℕ) → nat_lt (position_or_len is_line_feed (take n xs)) (length (take n xs)) ≡ true → position_or_len is_line_feed xs ≡ position_or_len is_line_feed (take n xs)
front_first [] zero e = cc
front_first [] (suc n) e = cc
front_first (x ∷ xs) zero e = cc
front_first (x ∷ xs) (suc n) e = front_step (is_line_feed x) (position_or_len is_line_feed xs) (position_or_len is_line_feed (take n xs)) (length (take n xs)) e (front_first xs n)

-- the first line feed of a front is the first of all
pub found_in_front : (xs : List ℕ) (n i : ℕ) → position is_line_feed (take n xs) ≡ Some i → (nat_lt (position_or_len is_line_feed xs) (length xs) ≡ true) × (position_or_len is_line_feed xs ≡ i) × (i < n)
found_in_front xs n i e =
    let front = found (take n xs) i e in
    let same = front_first xs n front.0 in
    let less : position_or_len is_line_feed (take n xs) < length (take n xs) = ltb-true (position_or_len is_line_feed (take n xs)) (length (take n xs)) front.0 in
    let long = length-take n xs in
    (lt-ltb (position_or_len is_line_feed xs) (length xs) (omega (arith, same, less, long)), same ∙ front.1, omega (arith, front.1, less, long))

pub plain_append : (xs ys : List ℕ) → IsLine xs → IsLine ys → IsLine (xs ++ ys)
plain_append [] ys p q = q
plain_append (x ∷ xs) ys p q = (p.0, plain_append xs ys p.1 q)

feed_is : (b : ℕ) → is_line_feed b ≡ true → b ≡ 10
feed_is b e = eqb-true b 10 e

plain_take : (x : ℕ) (xs : List ℕ) (n : ℕ) (b : Bool) → is_line_feed x ≡ b → IsLine (take n xs) → IsLine (take (cond (not b) (1 + n) 0) (x ∷ xs))
plain_take x xs n true e p = tt
plain_take x xs n false e p = (let one : suc n ≡ 1 + n = omega arith in subst (λ k. IsLine (take k (x ∷ xs))) one (e, p))

split_take : (x : ℕ) (xs : List ℕ) (n : ℕ) (b : Bool) → is_line_feed x ≡ b → nat_lt (cond (not b) (1 + n) 0) (length (x ∷ xs)) ≡ true
    → (nat_lt n (length xs) ≡ true → xs ≡ take n xs ++ 10 ∷ drop (n + 1) xs) → x ∷ xs ≡ take (cond (not b) (1 + n) 0) (x ∷ xs) ++ 10 ∷ drop (cond (not b) (1 + n) 0 + 1) (x ∷ xs)
split_take x xs n true e within rest = ap (λ y. y ∷ xs) (feed_is x e)
split_take x xs n false e within rest =
    let less : 1 + n < length (x ∷ xs) = ltb-true (1 + n) (length (x ∷ xs)) within in
    let here = ap (λ l. x ∷ l) (rest (lt-ltb n (length xs) (omega (arith, less)))) in
    let one : suc n ≡ 1 + n = omega arith in
    let two : suc (n + 1) ≡ 1 + n + 1 = omega arith in
    here ∙ ap (λ k. take k (x ∷ xs) ++ 10 ∷ drop (n + 1) xs) one ∙ ap (λ k. take (1 + n) (x ∷ xs) ++ 10 ∷ drop k (x ∷ xs)) two

-- the front up to the first line feed has none
pub before_plain : (xs : List ℕ) → IsLine (before_first is_line_feed xs)
before_plain [] = tt
before_plain (x ∷ xs) = plain_take x xs (position_or_len is_line_feed xs) (is_line_feed x) refl (before_plain xs)

-- and what follows begins with one
pub around_first : (xs : List ℕ) → nat_lt (position_or_len is_line_feed xs) (length xs) ≡ true → xs ≡ before_first is_line_feed xs ++ 10 ∷ after_first is_line_feed xs
around_first [] e = cc
around_first (x ∷ xs) e = split_take x xs (position_or_len is_line_feed xs) (is_line_feed x) refl e (around_first xs)

pub take_of_take : (xs ys : List ℕ) → take 258 (take 258 xs ++ ys) ≡ take 258 (xs ++ ys)
take_of_take xs ys = elim (cases_lt (length xs) 258) [
  | inl less ↦ ap (λ l. take 258 (l ++ ys)) (take_all 258 xs (omega (arith, less)))
  | inr more ↦ take-append-le 258 (take 258 xs) ys (omega (arith, length-take 258 xs)) ∙ take-take 258 258 xs (omega arith) ∙ sym (take-append-le 258 xs ys more)
]

-- the front of what waits is taken
pub part_taken : (waiting front rest : List ℕ) (source : Option (List ℕ)) → waiting ≡ front ++ rest → Consumes (prepend_known waiting source) (prepend_known rest source) front
part_taken waiting front rest None e = tt
part_taken waiting front rest (Some ys) e = ap (λ l. l ++ ys) e ∙ append_assoc front rest ys

too_long : (line : List ℕ) → 257 < length line → short_line line ≡ None
too_long line h = let long : nat_le (length (without_cr line)) 256 ≡ false = lt-leb _ _ (omega (arith, h, without_cr_length line)) in rw long refl

-- the first 258 bytes of a line say what the line says
pub says_front : (raw : List ℕ) → short_line (take 258 raw) ≡ short_line raw
says_front raw = elim (cases_lt (length raw) 258) [
  | inl less ↦ ap short_line (take_all 258 raw (omega (arith, less)))
  | inr more ↦ too_long (take 258 raw) (omega (arith, length-take 258 raw, more)) ∙ sym (too_long raw (omega (arith, more)))
]

-- a whole line that waits is taken
pub line_taken : (i j : Input) (line : List ℕ) (n : ℕ) → IsLine line → take n i.waiting ≡ line ++ 10 ∷ [] → j ≡ with_waiting i (drop n i.waiting) → Gathered Whole i j (take 258 line)
line_taken i j line n plain front e =
    let all : i.waiting ≡ (line ++ 10 ∷ []) ++ drop n i.waiting = sym (take-append-drop n i.waiting) ∙ ap (λ l. l ++ drop n i.waiting) front in
    let takes : Takes i j (line ++ 10 ∷ []) =
    subst (λ (k : Input). Takes i k (line ++ 10 ∷ [])) (sym e) (part_taken i.waiting (line ++ 10 ∷ []) (drop n i.waiting) i.source all) in
    record { raw = line; plain = plain; kept_is = refl; says = says_front line; ends = takes }

says_kept : (kept raw : List ℕ) → kept ≡ take 258 raw → short_line kept ≡ short_line raw
says_kept kept raw e = ap short_line e ∙ says_front raw

pub begun_filled : (i j k : Input) (kept : List ℕ) → Begun i j kept → Keeps (left j) (left k) → Begun i k kept
begun_filled i j k kept b h = record { raw = b.raw; plain = b.plain; kept_is = b.kept_is; takes = Consumes-kept (left i) (left j) (left k) b.raw b.takes h }

grown : (kept raw more : List ℕ) → kept ≡ take 258 raw → take 258 (kept ++ more) ≡ take 258 (raw ++ more)
grown kept raw more e = ap (λ l. take 258 (l ++ more)) e ∙ take_of_take raw more

pub begun_part : (i j : Input) (kept : List ℕ) → Begun i j kept → nat_lt (position_or_len is_line_feed j.waiting) (length j.waiting) ≡ false
    → Begun i (with_waiting j (after_first is_line_feed j.waiting)) (take 258 (kept ++ before_first is_line_feed j.waiting))
begun_part i j kept b e =
    let part = before_first is_line_feed j.waiting in
    let split : j.waiting ≡ part ++ after_first is_line_feed j.waiting = sym (ap (λ l. part ++ l) (none_after j.waiting e) ∙ append-nil part ∙ none_before j.waiting e) in
    record {
      raw = b.raw ++ part;
      plain = plain_append b.raw part b.plain (before_plain j.waiting);
      kept_is = grown kept b.raw part b.kept_is;
      takes = Consumes-trans (left i) (left j) (left (with_waiting j (after_first is_line_feed j.waiting))) b.raw part b.takes (part_taken j.waiting part (after_first is_line_feed j.waiting) j.source split);
    }

pub gathered_whole : (i j : Input) (kept : List ℕ) → Begun i j kept → nat_lt (position_or_len is_line_feed j.waiting) (length j.waiting) ≡ true
    → Gathered Whole i (with_waiting j (after_first is_line_feed j.waiting)) (take 258 (kept ++ before_first is_line_feed j.waiting))
gathered_whole i j kept b e =
    let part = before_first is_line_feed j.waiting in
    let rest = after_first is_line_feed j.waiting in
    let split : j.waiting ≡ (part ++ 10 ∷ []) ++ rest = around_first j.waiting e ∙ sym (append_assoc part (10 ∷ []) rest) in
    let after = with_waiting j rest in
    record {
      raw = b.raw ++ part;
      plain = plain_append b.raw part b.plain (before_plain j.waiting);
      kept_is = grown kept b.raw part b.kept_is;
      says = says_kept _ (b.raw ++ part) (grown kept b.raw part b.kept_is);
      ends = subst (λ l. Takes i after l) (sym (append_assoc b.raw part (10 ∷ []))) (Consumes-trans (left i) (left j) (left after) b.raw (part ++ 10 ∷ []) b.takes (part_taken j.waiting (part ++ 10 ∷ []) rest j.source split));
    }

pub gathered_last : (i j : Input) (kept : List ℕ) → Begun i j kept → IsAtEnd (left j) → 0 < length kept → Gathered Last i j kept
gathered_last i j kept b end some =
    let same = ap length b.kept_is in
    record { raw = b.raw; plain = b.plain; kept_is = b.kept_is; says = says_kept kept b.raw b.kept_is; ends = (b.takes, omega (arith, length-take 258 b.raw, same), end) }

pub begun_next : (i j k m : Input) (kept has : List ℕ) (whole : Bool) → Begun i j kept → Keeps (left j) (left k) → has ≡ take 258 (kept ++ before_first is_line_feed k.waiting)
    → m ≡ with_waiting k (after_first is_line_feed k.waiting) → whole ≡ nat_lt (position_or_len is_line_feed k.waiting) (length k.waiting) → whole ≡ false → Begun i m has
begun_next i j k m kept has whole b filled line lines test is =
    subst (λ (x : Input). Begun i x has) (sym lines)
    (subst (λ l. Begun i (with_waiting k (after_first is_line_feed k.waiting)) l) (sym line) (begun_part i k kept (begun_filled i j k kept b filled) (sym test ∙ is)))

pub gathered_next : (i j k m : Input) (kept has : List ℕ) (whole : Bool) → Begun i j kept → Keeps (left j) (left k) → has ≡ take 258 (kept ++ before_first is_line_feed k.waiting)
    → m ≡ with_waiting k (after_first is_line_feed k.waiting) → whole ≡ nat_lt (position_or_len is_line_feed k.waiting) (length k.waiting) → whole ≡ true → Gathered Whole i m has
gathered_next i j k m kept has whole b filled line lines test is =
    subst (λ (x : Input). Gathered Whole i x has) (sym lines)
    (subst (λ l. Gathered Whole i (with_waiting k (after_first is_line_feed k.waiting)) l) (sym line) (gathered_whole i k kept (begun_filled i j k kept b filled) (sym test ∙ is)))

begun_nothing : (i : Input) → Begun i i []
begun_nothing i = record { raw = []; plain = tt; kept_is = refl; takes = Consumes-nil (left i) }

-- a line that waits as a whole
pub gathered_at_once : (i m : Input) (has : List ℕ) → has ≡ take 258 (before_first is_line_feed i.waiting) → m ≡ with_waiting i (after_first is_line_feed i.waiting)
    → nat_lt (position_or_len is_line_feed i.waiting) (length i.waiting) ≡ true → Gathered Whole i m has
gathered_at_once i m has line lines whole =
    subst (λ (x : Input). Gathered Whole i x has) (sym lines)
    (subst (λ l. Gathered Whole i (with_waiting i (after_first is_line_feed i.waiting)) l) (sym line) (gathered_whole i i [] (begun_nothing i) whole))
