-- A request at the front of a text.
use Rattle.std.proofs.Common.{◌≡◌, ◌∙◌, ℕ, ◌+◌, ◌-◌, ◌*◌, ◌<◌, ◌≤◌, Bool, true, false, List, [], ◌∷◌, ◌++◌, length, take, drop, get_or, codes, eqb, refl, sym, ap, arith, subst, append_assoc}
use Rattle.std.proofs.Math.Seq.{take-add}
use Rattle.std.proofs.lemmas.Bool.{leb-true, le-leb, eqb-true, and_parts}
use Rattle.std.proofs.lemmas.List.{take_more, take-take, length-take, length-drop}
use Rattle.std.proofs.lemmas.List.Folds.{list_all_more}
use Rattle.std.specs.List.{list_all}
use Rattle.wh_text.specs.Lines.{HasNone, is_line_feed, without_cr}
use Rattle.wh_text.specs.Numbers.{is_digit, are_digits, decimal}
use Rattle.wh_text.proofs.CutLemmas.{without-other}
use Rattle.wh_text.proofs.NumberLemmas.{decimal_push, decimal_small}
use Rattle.wh_event.specs.CommandLines.{command_of}
use Rattle.wh_event.specs.declared.event.Command.TheVariants.{Token}
use Rattle.wh_event.specs.Fronts.{IsAtFront}
use Rattle.wh_event.proofs.Asking.{plain_law, written}

-- a digit is no line feed
digit-no-feed : (b : ℕ) → is_digit b ≡ true → is_line_feed b ≡ false
digit-no-feed b e = go (eqb b 10) refl
  where
    go : (x : Bool) → eqb b 10 ≡ x → is_line_feed b ≡ false
    go true p = absurd (let low = leb-true 48 b ((and_parts _ _ e).0) in let is = eqb-true b 10 p in omega arith)
    go false p = rw p refl

digits-no-feed : (number : List ℕ) → list_all is_digit number ≡ true → HasNone is_line_feed number
digits-no-feed [] e = tt
digits-no-feed (b ∷ bs) e = let h = and_parts (is_digit b) (list_all is_digit bs) e in (digit-no-feed b h.0, digits-no-feed bs h.1)

digits-are : (number : List ℕ) → 0 < length number → list_all is_digit number ≡ true → are_digits number ≡ true
digits-are [] some e = absurd (omega arith)
digits-are (b ∷ bs) some e = e

-- a line that a digit ends has no carriage return there
ends_so : (word number : List ℕ) (m : ℕ) → m < length number → list_all is_digit (take (m + 1) number) ≡ true → without_cr (word ++ take (m + 1) number) ≡ word ++ take (m + 1) number
ends_so word number m less digits =
    let last = get_or number m 0 in
    let digit : is_digit last ≡ true = (and_parts (list_all is_digit (take m number)) (is_digit last) (sym (list_all_more is_digit number m 0 less) ∙ digits)).1 in
    let low : 48 ≤ last = leb-true 48 last ((and_parts _ _ digit).0) in
    let parts : word ++ take (m + 1) number ≡ (word ++ take m number) ++ last ∷ [] = ap (λ l. word ++ l) (take_more number m 0 less) ∙ sym (append_assoc word (take m number) (last ∷ [])) in
    ap without_cr parts ∙ without-other (word ++ take m number) last (λ is. omega (arith, low, is)) ∙ sym parts

-- what was read is the digits' number, and it has room
pub digits_room : (number : List ℕ) (count agent : ℕ) → count < 10 → list_all is_digit (take count number) ≡ true → agent ≡ decimal (take count number) → agent < 1000000000
digits_room number count agent few digits value =
    let small : decimal (take count number) < 1000000000 = decimal_small (take count number) digits (omega (arith, few, length-take count number)) in
    omega (arith, value, small)

pub digit_of : (b : ℕ) → 48 ≤ b → b ≤ 57 → is_digit b ≡ true
digit_of b low high = rw (le-leb 48 b low, le-leb b 57 high) refl

pub value_more : (number : List ℕ) (count agent : ℕ) → count < length number → agent ≡ decimal (take count number) → 10 * agent + (get_or number count 0 - 48) ≡ decimal (take (count + 1) number)
value_more number count agent less value =
    ap (λ n. 10 * n + (get_or number count 0 - 48)) value ∙ sym (ap decimal (take_more number count 0 less) ∙ decimal_push (take count number) (get_or number count 0))

pub front_law : (text number : List ℕ) (count agent : ℕ) → 16 ≤ length text → take 6 text ≡ codes "token " → number ≡ take 10 (drop 6 text) → 0 < count → count < 10
    → list_all is_digit (take count number) ≡ true → agent ≡ decimal (take count number) → get_or number count 0 ≡ 10 → IsAtFront (Token agent) (count + 7) text
front_law text number count agent long word is some few digits value feed =
    let ten : length number ≡ 10 = ap length is ∙ omega (arith, long, length-take 10 (drop 6 text), length-drop 6 text) in
    let front = take count number in
    let size : length front ≡ count = omega (arith, ten, few, length-take count number) in
    let line = codes "token " ++ front in
    let back : count - 1 + 1 ≡ count = omega (arith, some) in
    let ends : without_cr line ≡ line = subst (λ n. without_cr (codes "token " ++ take n number) ≡ codes "token " ++ take n number) back
    (ends_so (codes "token ") number (count - 1) (omega (arith, ten, few)) (subst (λ n. list_all is_digit (take n number) ≡ true) (sym back) digits)) in
    let begins : take (count + 1) (drop 6 text) ≡ front ++ 10 ∷ [] =
    sym (take-take (count + 1) 10 (drop 6 text) (omega (arith, few))) ∙ ap (take (count + 1)) (sym is) ∙ take_more number count 0 (omega (arith, ten, few)) ∙ ap (λ b. front ++ b ∷ []) feed in
    let sum : count + 7 ≡ 6 + (count + 1) = omega arith in
    record {
      line = line;
      plain = (refl, (refl, (refl, (refl, (refl, (refl, digits-no-feed front digits))))));
      asks = ap command_of ends ∙ plain_law front agent (written front agent (record { digits = digits-are front (omega (arith, size, some)) digits; few = omega (arith, size, few); value = sym value }));
      within = omega (arith, long, few);
      front = ap (λ n. take n text) sum ∙ take-add 6 (count + 1) text ∙ ap (λ l. l ++ take (count + 1) (drop 6 text)) word ∙ ap (λ l. codes "token " ++ l) begins ∙ sym (append_assoc (codes "token ") front (10 ∷ []));
    }
