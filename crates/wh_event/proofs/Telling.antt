-- Replies of one text tell the same.
use Rattle.std.proofs.Common.{◌≡◌, ℕ, ◌<◌, ◌+◌, ◌%◌, ◌^◌, ◌*◌, get_or, Bool, true, false, List, [], ◌∷◌, ◌++◌, codes, decimal, eqb, refl, sym, ap, ◌∙◌, subst, append_assoc, arith}
use Rattle.std.proofs.lemmas.Bool.{ne_eqb, eq-eqb, eqb-true, and_parts}
use Rattle.std.proofs.lemmas.Fmt.{decimal_by_steps, decimal_injective}
use Rattle.std.proofs.lemmas.List.{append_cancel_left}
use Rattle.std.specs.List.{AllByRecursion, list_all}
use Rattle.wh_text.specs.Names.{is_name, is_name_byte}
use Rattle.wh_path.specs.Paths.{last_index}
use Rattle.wh_event.specs.declared.reply.Reply.{Reply}
use Rattle.wh_event.specs.declared.reply.Reply.TheVariants.{Accepted, Took, Rested, Parked, Clock, Replaced, Closed, Refused}
use Rattle.wh_event.specs.declared.reply.Refusal.{Refusal}
use Rattle.wh_event.specs.declared.reply.Refusal.TheVariants as refusal
use Rattle.wh_event.specs.ReplyTexts.{refusal_text, reply_text, RefusalHolds, ReplyHolds, TellSame}

-- no space among these bytes
abbrev HasNoSpace : List ℕ → Type 0
HasNoSpace bytes = AllByRecursion (λ b. eqb b 32 ≡ false) bytes

no_space : (xs : List ℕ) → HasNoSpace (32 ∷ xs) → ⊥
no_space xs h = let e : true ≡ false = h.0 in cc

-- what stands before the first space, and what follows it
one_space : (a b x y : List ℕ) → HasNoSpace a → HasNoSpace b → a ++ 32 ∷ x ≡ b ++ 32 ∷ y → (a ≡ b) × (x ≡ y)
one_space [] [] x y h k e = (refl, cc)
one_space [] (c ∷ b) x y h k e = let same : 32 ≡ c = cc in absurd (no_space b (subst (λ (d : ℕ). HasNoSpace (d ∷ b)) (sym same) k))
one_space (c ∷ a) [] x y h k e = let same : c ≡ 32 = cc in absurd (no_space a (subst (λ (d : ℕ). HasNoSpace (d ∷ a)) same h))
one_space (c ∷ a) (d ∷ b) x y h k e =
    let head : c ≡ d = cc in
    let tail : a ++ 32 ∷ x ≡ b ++ 32 ∷ y = cc in
    let rest = one_space a b x y h.1 k.1 tail in
    (let front : a ≡ b = rest.0 in cc, rest.1)

space_push : (bytes : List ℕ) (b : ℕ) → HasNoSpace bytes → eqb b 32 ≡ false → HasNoSpace (bytes ++ b ∷ [])
space_push [] b h n = (n, tt)
space_push (c ∷ bytes) b h n = (h.0, space_push bytes b h.1 n)

digit : (d : ℕ) → eqb (48 + d) 32 ≡ false
digit d = ne_eqb (48 + d) 32 (λ e. absurd (omega arith))

number : (n : ℕ) → n < 2 ^ 64 → HasNoSpace (decimal n)
number n h = decimal_by_steps (λ n ds. HasNoSpace ds) (λ n low. (digit n, tt)) (λ n ds high so_far. space_push ds (48 + n % 10) so_far (digit (n % 10))) n h

name : (word : List ℕ) → is_name word ≡ true → HasNoSpace word
name word h = bytes word ((and_parts _ _ h).1)
  where
    byte : (b : ℕ) → is_name_byte b ≡ true → eqb b 32 ≡ false
    byte b h = go (eqb b 32) refl
      where
        go : (v : Bool) → eqb b 32 ≡ v → eqb b 32 ≡ false
        go true is = let same : b ≡ 32 = eqb-true _ _ is in let no : false ≡ true = subst (λ (c : ℕ). is_name_byte c ≡ true) same h in absurd cc
        go false is = is

    bytes : (word : List ℕ) → list_all is_name_byte word ≡ true → HasNoSpace word
    bytes [] h = tt
    bytes (b ∷ word) h = let p = and_parts (is_name_byte b) (list_all is_name_byte word) h in (byte b p.0, bytes word p.1)

small : (n : ℕ) → n < 2 ^ 32 → n < 2 ^ 64
small n h = omega arith

index : (n : ℕ) → n < 2 ^ 61 → n < 2 ^ 64
index n h = omega arith

-- two words that are told one after the other
two_words : (between a b c d : List ℕ) → HasNoSpace a → HasNoSpace b → (a ++ 32 ∷ between) ++ c ≡ (b ++ 32 ∷ between) ++ d → (a ≡ b) × (c ≡ d)
two_words between a b c d h k e =
    let flat : a ++ 32 ∷ (between ++ c) ≡ b ++ 32 ∷ (between ++ d) = sym (append_assoc a (32 ∷ between) c) ∙ e ∙ append_assoc b (32 ∷ between) d in
    let cut = one_space a b (between ++ c) (between ++ d) h k flat in
    (cut.0, append_cancel_left between c d cut.1)

three_words : (first second a b c d f g : List ℕ) → HasNoSpace a → HasNoSpace b → HasNoSpace c → HasNoSpace d
    → (((a ++ 32 ∷ first) ++ c) ++ 32 ∷ second) ++ f ≡ (((b ++ 32 ∷ first) ++ d) ++ 32 ∷ second) ++ g → (a ≡ b) × (c ≡ d) × (f ≡ g)
three_words first second a b c d f g h k l m e =
    let flat : (a ++ 32 ∷ first) ++ ((c ++ 32 ∷ second) ++ f) ≡ (b ++ 32 ∷ first) ++ ((d ++ 32 ∷ second) ++ g) =
    sym (regroup (a ++ 32 ∷ first) c f) ∙ e ∙ regroup (b ++ 32 ∷ first) d g in
    let front = two_words first a b ((c ++ 32 ∷ second) ++ f) ((d ++ 32 ∷ second) ++ g) h k flat in
    let rest = two_words second c d f g l m front.1 in
    (front.0, rest.0, rest.1)
  where
    regroup : (x y z : List ℕ) → ((x ++ y) ++ 32 ∷ second) ++ z ≡ x ++ ((y ++ 32 ∷ second) ++ z)
    regroup x y z = simp append_assoc

-- bytes at which texts of different kinds differ
abbrev refusal_key : List ℕ → ℕ
refusal_key text = 256 * get_or text 1 0 + get_or text 2 0

abbrev reply_key : List ℕ → ℕ
reply_key text = 65536 * get_or text 0 0 + 256 * get_or text 2 0 + get_or text 3 0

differs : false ≡ true → ⊥
differs e = cc

same_refusal : (a b : Refusal) → RefusalHolds a → RefusalHolds b → refusal_text a ≡ refusal_text b → a ≡ b
same_refusal (refusal.UnknownPoint n) (refusal.UnknownPoint m) h k e = let same : n ≡ m = cc in ap (λ (x : List ℕ). refusal.UnknownPoint x) same
same_refusal (refusal.NotStation n) (refusal.NotStation m) h k e = let same : n ≡ m = cc in ap (λ (x : List ℕ). refusal.NotStation x) same
same_refusal refusal.TasksFull refusal.TasksFull h k e = refl
same_refusal (refusal.UnknownAgent n) (refusal.UnknownAgent m) h k e = let same : decimal n ≡ decimal m = cc in ap (λ (x : ℕ). refusal.UnknownAgent x) (decimal_injective n m (small n h) (small m k) same)
same_refusal (refusal.Moving n) (refusal.Moving m) h k e = let same : decimal n ≡ decimal m = cc in ap (λ (x : ℕ). refusal.Moving x) (decimal_injective n m h k same)
same_refusal refusal.NoPath refusal.NoPath h k e = refl
same_refusal refusal.ClockFull refusal.ClockFull h k e = refl
same_refusal refusal.Closed refusal.Closed h k e = refl
same_refusal refusal.ForeignPlanner refusal.ForeignPlanner h k e = refl
same_refusal refusal.NoSpare refusal.NoSpare h k e = refl
same_refusal a b h k e = absurd (differs (eq-eqb (refusal_key (refusal_text a)) (refusal_key (refusal_text b)) (ap refusal_key e)))

pub same_told : (a b : Reply) → ReplyHolds a → ReplyHolds b → reply_text a ≡ reply_text b → TellSame a b
same_told (Accepted n) (Accepted m) h k e = let same : decimal n ≡ decimal m = cc in ap (λ (x : ℕ). Accepted x) (decimal_injective n m (small n h) (small m k) same)
same_told (Took n p) (Took m q) h k e =
    let i = last_index p in
    let j = last_index q in
    let tail : (decimal n ++ codes " end ") ++ decimal i ≡ (decimal m ++ codes " end ") ++ decimal j = cc in
    let both = two_words (codes "end ") (decimal n) (decimal m) (decimal i) (decimal j) (number n (small n h.0)) (number m (small m k.0)) tail in
    (decimal_injective n m (small n h.0) (small m k.0) both.0, decimal_injective i j (index i h.1) (index j k.1) both.1)
same_told Rested Rested h k e = refl
same_told (Parked n p) (Parked m q) h k e =
    let i = last_index p in
    let j = last_index q in
    let tail : (n ++ codes " end ") ++ decimal i ≡ (m ++ codes " end ") ++ decimal j = cc in
    let both = two_words (codes "end ") n m (decimal i) (decimal j) (name n h.0) (name m k.0) tail in
    (both.0, decimal_injective i j (index i h.1) (index j k.1) both.1)
same_told (Clock n p d) (Clock m q f) h k e =
    let tail : (((decimal n ++ codes " picked ") ++ decimal p) ++ codes " dropped ") ++ decimal d ≡ (((decimal m ++ codes " picked ") ++ decimal q) ++ codes " dropped ") ++ decimal f = cc in
    let all = three_words (codes "picked ") (codes "dropped ") (decimal n) (decimal m) (decimal p) (decimal q) (decimal d) (decimal f)
    (number n (small n h.0)) (number m (small m k.0)) (number p (small p h.1)) (number q (small q k.1)) tail in
    let now : n ≡ m = decimal_injective n m (small n h.0) (small m k.0) all.0 in
    let picked : p ≡ q = decimal_injective p q (small p h.1) (small q k.1) all.1 in
    let dropped : d ≡ f = decimal_injective d f (small d h.2) (small f k.2) all.2 in
    rw (now, picked, dropped) refl
same_told (Replaced n) (Replaced m) h k e = let same : decimal n ≡ decimal m = cc in ap (λ (x : ℕ). Replaced x) (decimal_injective n m (small n h) (small m k) same)
same_told Closed Closed h k e = refl
same_told (Refused a) (Refused b) h k e = let same : refusal_text a ≡ refusal_text b = cc in ap (λ (x : Refusal). Refused x) (same_refusal a b h k same)
same_told a b h k e = absurd (differs (eq-eqb (reply_key (reply_text a)) (reply_key (reply_text b)) (ap reply_key e)))
