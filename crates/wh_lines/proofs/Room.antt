-- Parts of buffers.
use Rattle.std.proofs.Common.{◌≡◌, ◌≤◌, ◌<◌, ◌+◌, ◌-◌, ℕ, List, [], ◌∷◌, ◌++◌, length, take, drop, sym, ap, ◌∙◌, arith, zero, suc}
use Rattle.std.specs.Prelude.{slice_range}
use Rattle.std.proofs.Common.{inl, inr}
use Rattle.std.proofs.lemmas.Slice.{take-put_mid}
use Rattle.std.proofs.lemmas.Bool.{cases_lt}
use borrow.Rule.Slice.PartMut.{put_mid}
use Rattle.std.proofs.lemmas.List.{drop-drop, drop-take, length-take, length-append, take_all, take-take}

pub drop_range : (xs : List ℕ) (s e n : ℕ) → n ≤ length (slice_range xs s e) → slice_range xs (s + n) e ≡ drop n (slice_range xs s e)
drop_range xs s e n h =
    let within : n ≤ e - s = omega (arith, length-take (e - s) (drop s xs)) in
    let m : n + (e - (s + n)) ≡ e - s = omega arith in
    sym (ap (λ k. drop n (take k (drop s xs))) (sym m) ∙ drop-take n (e - (s + n)) (drop s xs) ∙ ap (take (e - (s + n))) (drop-drop n s xs))

pub take_past : (xs ys : List ℕ) (m n : ℕ) → m ≡ length xs + n → take m (xs ++ ys) ≡ xs ++ take n ys
take_past [] ys m n e = (let same : m ≡ n = omega arith in ap (λ k. take k ys) same)
take_past (x ∷ xs) ys zero n e = absurd (omega arith)
take_past (x ∷ xs) ys (suc m) n e = ap (λ l. x ∷ l) (take_past xs ys m n (omega arith))

-- a copy behind the bytes that are kept, as far as there is room
pub added : (bytes piece : List ℕ) (kept count : ℕ) → length bytes ≡ 258 → kept ≤ 258 → count ≤ length piece → kept + count ≤ 258 → (kept + count < 258 → count ≡ length piece)
    → take (kept + count) (put_mid kept (kept + count - kept) bytes (take count piece)) ≡ take 258 (take kept bytes ++ piece)
added bytes piece kept count long low fits room whole =
    let front : length (take kept bytes) ≡ kept = omega (arith, length-take kept bytes) in
    let mid : length (take count piece) ≡ count = omega (arith, length-take count piece) in
    take-put_mid kept (kept + count - kept) bytes (take count piece) (kept + count) (omega arith) (omega arith)
    ∙ elim (cases_lt (kept + count) 258) [
      | inl less ↦ (let all = take_all count piece (omega (arith, whole less)) in
          ap (λ l. take kept bytes ++ l) all ∙ sym (take_all 258 (take kept bytes ++ piece) (omega (arith, length-append (take kept bytes) piece, whole less))))
      | inr full ↦ sym (take_past (take kept bytes) piece 258 count (omega arith))
    ]

-- a copy of a whole front, of which a part is kept
pub front_kept : (bytes text : List ℕ) (most count n : ℕ) → length bytes ≡ 258 → most ≤ length text → count ≤ most → take count (put_mid 0 n bytes (take most text)) ≡ take count text
front_kept bytes text most count n long room few =
    let mid : length (take most text) ≡ most = omega (arith, length-take most text) in
    sym (take-take count most (put_mid 0 n bytes (take most text)) few)
    ∙ ap (take count) (take-put_mid 0 n bytes (take most text) most (omega (arith, mid)) (omega arith))
    ∙ take-take count most text few
