-- Lines before and behind the one at which a connection begins.
use Rattle.std.proofs.Common.{◌≡◌, ◌≢◌, ◌≤◌, ℕ, zero, suc, List, [], ◌∷◌, ◌++◌, length, refl, sym, ap, ◌∙◌, arith, Option, Some, None, Bool, true, false, inl, inr, rules}
use Rattle.std.specs.Prelude.{◌<◌, ◌-◌, ◌/◌, ◌%◌, ◌==◌, cond, codes, slice_index, take}
use Rattle.std.specs.List.{All}
use Rattle.std.specs.Str.{bytes_eq}
use Rattle.std.proofs.lemmas.Slice.Eq.{bytes_eq-Decides}
use Rattle.std.proofs.lemmas.Bool.Decides.{leb_tells}
use Rattle.std.proofs.lemmas.List.Elements.{All-head, All-tail}
use mathlib.Core.List.{IsPrefix}
use Rattle.hex.proofs.HexLemmas.{length-encode_with}
use Rattle.hex.specs.Hex.{encode_with, lower_digits}
use Rattle.wh_text.specs.Lines.{lines_of, without_cr, HasNone, IsLine}
use Rattle.wh_text.proofs.CutLemmas.{lines-feed}
use Rattle.wh_session.specs.Machines.{fitting}
use Rattle.wh_serve.specs.declared.doors.Tag.{Tag}
use Rattle.wh_serve.specs.Texts.{begin_text}
use Rattle.wh_serve.specs.Beginnings.{behind_begin, sent_with, is_begin, StandsBefore, ServesOwn}

-- of these lines those that are served, where it has begun or has not
abbrev pub heard : Bool → Tag → List (List ℕ) → List (List ℕ)
heard true tag lines = lines
heard false tag lines = behind_begin tag lines

pub heard_none : (begun : Bool) (tag : Tag) → heard begun tag [] ≡ []
heard_none true tag = refl
heard_none false tag = refl

pub heard_on : (begun : Bool) (tag : Tag) (lines : List (List ℕ)) → heard begun tag lines ≡ heard begun tag [] ++ heard begun tag lines
heard_on true tag lines = refl
heard_on false tag lines = refl

heard_there : (begun : Bool) (tag : Tag) (lines : List (List ℕ)) → cond begun lines (behind_begin tag lines) ≡ heard begun tag lines
heard_there true tag lines = refl
heard_there false tag lines = refl

-- a line that is not short is not where it begins
long_not : (tag : Tag) (line : List ℕ) (same : Bool) → length (begin_text tag) ≤ 256 → 256 < length line → bytes_eq line (begin_text tag) ≡ same → same ≡ false
long_not tag line false short long is = refl
long_not tag line true short long is =
    let same_length : length line ≡ length (begin_text tag) = ap (λ (l : List ℕ). length l) ((bytes_eq-Decides line (begin_text tag)).0 is) in
    absurd (omega (arith, long, same_length, short))

begin_short : (tag : Tag) (line : List ℕ) → length (begin_text tag) ≤ 256 → bytes_eq line (begin_text tag) ≡ is_begin tag (fitting line)
begin_short tag line short = elim (leb_tells (length line) 256) [
  | inl fits ↦ sym (ap (λ b. is_begin tag (cond b (Some line) None)) fits.0)
  | inr long ↦ long_not tag line (bytes_eq line (begin_text tag)) short long.1 refl ∙ sym (ap (λ b. is_begin tag (cond b (Some line) None)) long.0)
]

-- the line at which it begins is short
pub begin_fits : (tag : Tag) → length tag.bytes ≡ 8 → length (begin_text tag) ≤ 256
begin_fits tag eight = let long = length-encode_with lower_digits tag.bytes in omega (arith, long, eight)

pub heard_next : (tag : Tag) (line : List ℕ) (lines : List (List ℕ)) → length (begin_text tag) ≤ 256 → behind_begin tag (line ∷ lines) ≡ heard (is_begin tag (fitting line)) tag lines
heard_next tag line lines short = ap (λ (b : Bool). cond b lines (behind_begin tag lines)) (begin_short tag line short) ∙ heard_there (is_begin tag (fitting line)) tag lines

-- ---- a tag that nobody sent before

not_same : (line mark : List ℕ) (same : Bool) → line ≢ mark → bytes_eq line mark ≡ same → same ≡ false
not_same line mark true other is = absurd (other ((bytes_eq-Decides line mark).0 is))
not_same line mark false other is = refl

-- the first of some lines, of which none is `begin TAG` up to one that is
first_served : (tag : Tag) (stale own read more : List (List ℕ)) → All (λ line. line ≢ begin_text tag) stale → stale ++ begin_text tag ∷ own ≡ read ++ more → IsPrefix (behind_begin tag read) own
first_served tag stale own [] more new e = (own, refl)
first_served tag [] own (line ∷ read) more new e =
    let same : line ≡ begin_text tag = cc in
    let rest : own ≡ read ++ more = cc in
    let is = (bytes_eq-Decides line (begin_text tag)).1 same in
    rw is (more, sym rest)
first_served tag (s ∷ stale) own (line ∷ read) more new e =
    let same : line ≡ s = cc in
    let rest : stale ++ begin_text tag ∷ own ≡ read ++ more = cc in
    let other : line ≢ begin_text tag = rw same (All-head (λ l. l ≢ begin_text tag) s stale new) in
    let is = not_same line (begin_text tag) (bytes_eq line (begin_text tag)) other refl in
    rw is (first_served tag stale own read more (All-tail (λ l. l ≢ begin_text tag) s stale new) rest)

-- a byte that is none of some digits is none of those that stand for bytes
none_at : (byte : ℕ) (digits : List ℕ) → HasNone (λ b. b == byte) digits → (0 == byte) ≡ false → (i : ℕ) → (slice_index digits i == byte) ≡ false
none_at byte [] none zero_not i = zero_not
none_at byte (d ∷ digits) none zero_not zero = none.0
none_at byte (d ∷ digits) none zero_not (suc i) = none_at byte digits none.1 zero_not i

none_encoded : (byte : ℕ) → ((i : ℕ) → (slice_index lower_digits i == byte) ≡ false) → (bytes : List ℕ) → HasNone (λ b. b == byte) (encode_with lower_digits bytes)
unfolding encode_with
none_encoded byte none [] = tt
none_encoded byte none (b ∷ bytes) = (none (b / 16), (none (b % 16), none_encoded byte none bytes))

-- a byte that is none of those of `begin ` and none of the digits does not stand in the line
none_begin : (tag : Tag) (byte : ℕ) → HasNone (λ b. b == byte) (codes "begin ") → ((i : ℕ) → (slice_index lower_digits i == byte) ≡ false) → HasNone (λ b. b == byte) (begin_text tag)
none_begin tag byte word none = (word.0, (word.1.0, (word.1.1.0, (word.1.1.1.0, (word.1.1.1.1.0, (word.1.1.1.1.1.0, none_encoded byte none tag.bytes))))))

begin_line : (tag : Tag) → IsLine (begin_text tag)
begin_line tag = none_begin tag 10 (search rules) (none_at 10 lower_digits (search rules) refl)

begin_plain : (tag : Tag) → without_cr (begin_text tag) ≡ begin_text tag
begin_plain tag =
    let none = none_at 13 (begin_text tag) (none_begin tag 13 (search rules) (none_at 13 lower_digits (search rules) refl)) refl (length (begin_text tag) - 1) in
    ap (λ (b : Bool). cond b (take (length (begin_text tag) - 1) (begin_text tag)) (begin_text tag)) none

pub own_served : ServesOwn
own_served tag stale own read more before parts whole =
    let line : lines_of (sent_with tag own) ≡ begin_text tag ∷ lines_of own = lines-feed (begin_text tag) own (begin_line tag) ∙ ap (λ (l : List ℕ). l ∷ lines_of own) (begin_plain tag) in
    let came : lines_of (stale ++ sent_with tag own) ≡ lines_of stale ++ begin_text tag ∷ lines_of own = before.whole (sent_with tag own) ∙ ap (λ (ls : List (List ℕ)). lines_of stale ++ ls) line in
    first_served tag (lines_of stale) (lines_of own) (lines_of read) (lines_of more) before.others (sym came ∙ ap (λ (l : List ℕ). lines_of l) parts ∙ whole more)
