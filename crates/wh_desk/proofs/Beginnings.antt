-- Beginnings of one list.
use Rattle.std.proofs.Common.{◌≡◌, ℕ, zero, suc, ◌+◌, ◌≤◌, ◌⊎◌, inl, inr, List, [], ◌∷◌, length, refl, ap, sym, ◌∙◌, arith, subst, Some, slice_get}
use mathlib.Core.List.{IsPrefix}
use Rattle.wh_event.specs.declared.entry.Entry.{Entry}
use Rattle.wh_board.specs.Pasts.{Origin, Past, Extends}
use Rattle.std.proofs.lemmas.List.{append-nil}
use Rattle.std.proofs.lemmas.List.Elements.{All-head, All-tail, All-weaker}
use Rattle.wh_board.proofs.Fronts.{prefix_self}
use Rattle.wh_desk.specs.Lists.{IsRunFrom, Received, entries_of, entries_from, StandIn}
use Rattle.wh_desk.specs.Calls.{Agreed}
use Rattle.wh_desk.proofs.Entries.{entries_append, entries_stands, get_left}

one_more : {A : Type 0} (x y : A) (xs ys : List A) → x ≡ y → (IsPrefix xs ys) ⊎ (IsPrefix ys xs) → (IsPrefix (x ∷ xs) (y ∷ ys)) ⊎ (IsPrefix (y ∷ ys) (x ∷ xs))
one_more x y xs ys heads (inl r) = inl (r.0, cc (heads, r.1))
one_more x y xs ys heads (inr r) = inr (r.0, cc (heads, r.1))

-- of two beginnings of one list, one begins the other
pub one_begins : {A : Type 0} (xs ys zs : List A) → IsPrefix xs zs → IsPrefix ys zs → (IsPrefix xs ys) ⊎ (IsPrefix ys xs)
one_begins [] ys zs p q = inl (ys, refl)
one_begins (x ∷ xs) [] zs p q = inr (x ∷ xs, refl)
one_begins (x ∷ xs) (y ∷ ys) [] p q = absurd (cc (p.1))
one_begins (x ∷ xs) (y ∷ ys) (z ∷ zs) p q =
    one_more x y xs ys (cc (p.1, q.1)) (one_begins xs ys zs (p.0, cc (p.1)) (q.0, cc (q.1)))

-- a beginning as long as the whole is the whole
pub prefix_whole : {A : Type 0} (xs ys : List A) → IsPrefix xs ys → length ys ≤ length xs → xs ≡ ys
prefix_whole [] [] p le = refl
prefix_whole [] (y ∷ ys) p le = absurd (omega arith)
prefix_whole (x ∷ xs) [] p le = absurd (cc (p.1))
prefix_whole (x ∷ xs) (y ∷ ys) p le =
    let rest = prefix_whole xs ys (p.0, cc (p.1)) (omega arith) in cc (p.1, rest)

-- what a caller has in a beginning begins what it has in the whole
entries_prefix : (g h : List Entry) (c : ℕ) → IsPrefix g h → IsPrefix (entries_of g c) (entries_of h c)
entries_prefix g h c p = (entries_from (0 + length g) p.0 c, sym (entries_append 0 g p.0 c) ∙ ap (λ l. entries_of l c) p.1)

-- where one of two histories begins the other, and a caller has as many entries in both, they are the same
pub entries_same : (g h : List Entry) (c : ℕ) → (IsPrefix g h) ⊎ (IsPrefix h g) → length (entries_of g c) ≡ length (entries_of h c) → entries_of g c ≡ entries_of h c
entries_same g h c (inl p) long = prefix_whole (entries_of g c) (entries_of h c) (entries_prefix g h c p) (omega arith)
entries_same g h c (inr p) long = sym (prefix_whole (entries_of h c) (entries_of g c) (entries_prefix h g c p) (omega arith))

stand_get : (h : List Entry) (xs : List (ℕ × Entry)) → StandIn h xs → (n : ℕ) (x : ℕ × Entry) → slice_get xs n ≡ Some x → slice_get h x.0 ≡ Some x.1
stand_get h [] all n x at = absurd (cc)
stand_get h (z ∷ xs) all zero x at = (let same : z ≡ x = cc in subst (λ (w : ℕ × Entry). slice_get h w.0 ≡ Some w.1) same (All-head (λ (w : ℕ × Entry). slice_get h w.0 ≡ Some w.1) z xs all))
stand_get h (z ∷ xs) all (suc n) x at = stand_get h xs (All-tail (λ (w : ℕ × Entry). slice_get h w.0 ≡ Some w.1) z xs all) n x at

prefix_get : (g h : List Entry) (k : ℕ) (x : Entry) → IsPrefix g h → slice_get g k ≡ Some x → slice_get h k ≡ Some x
prefix_get g h k x p at = subst (λ l. slice_get l k ≡ Some x) p.1 (get_left g p.0 k x at)

one_entry : (g h : List Entry) → (IsPrefix g h) ⊎ (IsPrefix h g) → (k : ℕ) (x y : Entry) → slice_get g k ≡ Some x → slice_get h k ≡ Some y → x ≡ y
one_entry g h (inl p) k x y at there = (let moved = prefix_get g h k x p at in cc (moved, there))
one_entry g h (inr p) k x y at there = (let moved = prefix_get h g k y p there in cc (moved, at))

-- receipts of one position, in two passes whose fronts begin one another
pub receipts_agree : (g h : List Entry) (c d : ℕ) (xs ys : List (ℕ × Entry)) → (IsPrefix g h) ⊎ (IsPrefix h g) → xs ≡ entries_of g c → ys ≡ entries_of h d → (m n : ℕ) (x y : ℕ × Entry) → slice_get xs m ≡ Some x → slice_get ys n ≡ Some y → x.0 ≡ y.0 → x.1 ≡ y.1
receipts_agree g h c d xs ys meets mine theirs m n x y at there place =
    let one : slice_get g x.0 ≡ Some x.1 = stand_get g (entries_of g c) (entries_stands [] g c) m x (subst (λ l. slice_get l m ≡ Some x) mine at) in
    let two : slice_get h y.0 ≡ Some y.1 = stand_get h (entries_of h d) (entries_stands [] h d) n y (subst (λ l. slice_get l n ≡ Some y) theirs there) in
    one_entry g h meets x.0 x.1 y.1 one (subst (λ k. slice_get h k ≡ Some y.1) (sym place) two)

-- of two pasts of which one extends the other, one history begins the other
pub one_extends : (p q : Past) → Extends p q ⊎ Extends q p → (IsPrefix p.history q.history) ⊎ (IsPrefix q.history p.history)
one_extends p q (inl e) = inl e.1
one_extends p q (inr e) = inr e.1

-- of two beginnings of one list, what is no longer begins the other
pub begins_longer : {A : Type 0} (g h : List A) → (IsPrefix g h) ⊎ (IsPrefix h g) → length g ≤ length h → IsPrefix g h
begins_longer g h (inl p) le = p
begins_longer g h (inr p) le = (let same : h ≡ g = prefix_whole h g p le in ([], append-nil g ∙ sym same))

stands_in : (h g : List Entry) (c : ℕ) (xs : List (ℕ × Entry)) → IsPrefix g h → xs ≡ entries_of g c → StandIn h xs
stands_in h g c xs p is =
    subst (λ (l : List (ℕ × Entry)). StandIn h l) (sym is)
    (All-weaker (λ (x : ℕ × Entry). slice_get g x.0 ≡ Some x.1) (λ (x : ℕ × Entry). slice_get h x.0 ≡ Some x.1) (λ x at. prefix_get g h x.0 x.1 p at) (entries_of g c) (entries_stands [] g c))

agreed_in : {origin : Origin} {one two : Received} (history g h : List Entry) → IsRunFrom origin history → IsPrefix g history → IsPrefix h history
    → one.list ≡ entries_of g one.caller → two.list ≡ entries_of h two.caller → one.known ≡ g → two.known ≡ h → Agreed origin one two
agreed_in {origin} {one} {two} history g h run p q all all' known known' = record {
  history = history;
  run = run;
  one_stands = stands_in history g one.caller one.list p all;
  two_stands = stands_in history h two.caller two.list q all';
  one_first = subst (λ (l : List (ℕ × Entry)). IsPrefix l (entries_of history one.caller)) (sym all) (entries_prefix g history one.caller p);
  two_first = subst (λ (l : List (ℕ × Entry)). IsPrefix l (entries_of history two.caller)) (sym all') (entries_prefix h history two.caller q);
  one_known = subst (λ (l : List Entry). IsPrefix l history) (sym known) p;
  two_known = subst (λ (l : List Entry). IsPrefix l history) (sym known') q;
}

-- the receipts of two passes whose fronts begin one another stand in the longer of what these know
pub agreed : {origin : Origin} {one two : Received} (g h : List Entry) → IsRunFrom origin g → IsRunFrom origin h → (IsPrefix g h) ⊎ (IsPrefix h g)
    → one.list ≡ entries_of g one.caller → two.list ≡ entries_of h two.caller → one.known ≡ g → two.known ≡ h → Agreed origin one two
agreed g h run run' (inl p) all all' known known' = agreed_in h g h run' p (prefix_self h) all all' known known'
agreed g h run run' (inr p) all all' known known' = agreed_in g g h run (prefix_self g) p all all' known known'
