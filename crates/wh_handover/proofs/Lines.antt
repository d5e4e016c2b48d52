-- the lines of entries
use Rattle.std.proofs.Common.{◌≡◌, ℕ, zero, suc, ◌+◌, ◌-◌, ◌≤◌, List, [], ◌∷◌, ◌++◌, refl, length, take, drop, map, sym, ap, ◌∙◌, arith, append_assoc, length-append}
use Rattle.std.proofs.lemmas.List.{take-append-drop, map-append, take_all}
use Rattle.std.proofs.Math.Seq.{take-append_seam}
use Rattle.wh_words.specs.Lines.{text_of}
use Rattle.wh_event.specs.declared.entry.Entry.{Entry}
use Rattle.wh_log.specs.Spelling.{entry_line}
use Rattle.wh_log.proofs.Fronts.{text-append}
use Rattle.wh_resume.specs.Behind.{entries_told}

-- those of the first entries, and of the others
told_parts : (entries : List Entry) (n : ℕ) → entries_told entries ≡ entries_told (take n entries) ++ entries_told (drop n entries)
told_parts entries n =
    ap entries_told (sym (take-append-drop n entries)) ∙ ap text_of (map-append entry_line (take n entries) (drop n entries))
    ∙ text-append (map entry_line (take n entries)) (map entry_line (drop n entries))

-- what stands before the others, by their length
pub text_parts : (text head rest : List ℕ) (entries : List Entry) (n : ℕ) → text ≡ (head ++ entries_told entries) ++ rest →
    text ≡ (head ++ entries_told (take n entries)) ++ (entries_told (drop n entries) ++ rest)
text_parts text head rest entries n is =
    is ∙ ap (λ (t : List ℕ). (head ++ t) ++ rest) (told_parts entries n) ∙ ap (λ (t : List ℕ). t ++ rest) (sym (append_assoc head (entries_told (take n entries)) (entries_told (drop n entries))))
    ∙ append_assoc (head ++ entries_told (take n entries)) (entries_told (drop n entries)) rest

pub bytes_parts : (head : List ℕ) (entries : List Entry) (n : ℕ) → length (head ++ entries_told entries) ≡ length (head ++ entries_told (take n entries)) + length (entries_told (drop n entries))
bytes_parts head entries n =
    ap (λ (t : List ℕ). length (head ++ t)) (told_parts entries n)
    ∙ ap length (sym (append_assoc head (entries_told (take n entries)) (entries_told (drop n entries))))
    ∙ length-append (head ++ entries_told (take n entries)) (entries_told (drop n entries))

length_drop : (entries : List Entry) (n : ℕ) → length (drop n entries) ≡ length entries - n
length_drop [] zero = refl
length_drop [] (suc n) = omega arith
length_drop (entry ∷ entries) zero = omega arith
length_drop (entry ∷ entries) (suc n) = let e = length_drop entries n in omega (arith, e)

-- all that stand behind the first are the others
pub others_are : (entries : List Entry) (n : ℕ) → take (length entries - n) (drop n entries) ≡ drop n entries
others_are entries n = let e = length_drop entries n in take_all (length entries - n) (drop n entries) (omega (arith, e))

-- so the bytes before the others are the head and the lines of the first
pub cut_off : (text head rest later : List ℕ) (entries : List Entry) (bytes n : ℕ) → text ≡ (head ++ entries_told entries) ++ rest → bytes ≡ length (head ++ entries_told entries) →
    later ≡ entries_told (drop n entries) → take (bytes - length later) text ≡ head ++ entries_told (take n entries)
cut_off text head rest later entries bytes n is many others =
    let count = bytes_parts head entries n in
    let short : length later ≡ length (entries_told (drop n entries)) = ap length others in
    let size : bytes - length later ≡ length (head ++ entries_told (take n entries)) = omega (arith, many, count, short) in
    ap (λ k. take k text) size ∙ ap (λ (t : List ℕ). take (length (head ++ entries_told (take n entries))) t) (text_parts text head rest entries n is)
    ∙ take-append_seam (head ++ entries_told (take n entries)) (entries_told (drop n entries) ++ rest)

pub fits_in : (text head rest later : List ℕ) (entries : List Entry) (bytes n : ℕ) → text ≡ (head ++ entries_told entries) ++ rest → bytes ≡ length (head ++ entries_told entries) →
    later ≡ entries_told (drop n entries) → (length later ≤ bytes) × (bytes - length later ≤ length text)
fits_in text head rest later entries bytes n is many others =
    let count = bytes_parts head entries n in
    let short : length later ≡ length (entries_told (drop n entries)) = ap length others in
    let all : length text ≡ length (head ++ entries_told entries) + length rest = ap length is ∙ length-append (head ++ entries_told entries) rest in
    (omega (arith, many, count, short), omega (arith, many, count, short, all))
