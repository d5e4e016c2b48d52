-- Replies that are told cell by cell.
use Rattle.std.proofs.Common.{◌≡◌, ◌<◌, ◌+◌, ◌^◌, ℕ, zero, suc, List, [], ◌∷◌, ◌++◌, length, take, drop, map, refl, sym, ap, ◌∙◌, Option, Some, append_assoc, codes, decimal, arith}
use Rattle.std.proofs.lemmas.List.{map-append}
use Rattle.std.proofs.lemmas.Grind.{flat_map-append}
use Rattle.std.proofs.lemmas.Fmt.{decimal_injective}
use Rattle.std.specs.List.{AllByRecursion}
use Rattle.std.specs.Io.KnownBytes.{Appends}
use Rattle.wh_text.specs.Lines.{IsLine}
use Rattle.wh_words.specs.Words.{IsPlain, words_of, line_of}
use Rattle.wh_words.proofs.NumeralLemmas.{plain-decimal}
use Rattle.wh_words.proofs.Cutting.{split, line_is_line}
use Rattle.wh_lines.specs.Output.{WritesFront}
use Rattle.wh_lines.proofs.Written.{both_parts, in_first, in_second}
use Rattle.wh_grid.specs.declared.cell.Cell.{Cell}
use Rattle.wh_path.specs.Paths.{at}
use Rattle.wh_event.specs.declared.reply.Reply.{Reply}
use Rattle.wh_event.specs.declared.reply.Reply.TheVariants.{Accepted, Took, Rested, Parked, Clock, Replaced, Closed, Refused}
use Rattle.wh_log.specs.Spaced.{spaced}
use Rattle.wh_event.specs.declared.entry.Entry.{Entry}
use Rattle.wh_log.specs.Spelling.{cell_word, entry_line, event_words, reply_words}
use Rattle.wh_log.specs.Ranges.{ReplyKeeps}
use Rattle.wh_log.specs.ReadReplies.{reply_of}
use Rattle.wh_log.specs.Told.{Answered, AnsweredKeeps, full_text, placed_text}
use Rattle.wh_log.proofs.Spacing.{entry-spaced, line-spaced}
use Rattle.wh_log.proofs.PathLoop.{cell_pushed}
use Rattle.wh_log.proofs.Steps.{some_is}
use Rattle.wh_log.proofs.ReplyLaws.{reply_again, reply_plain}

-- ---- paths

abbrev cells : List Cell → List ℕ
cells path = spaced (map cell_word path)

cells_append : (p q : List Cell) → cells (p ++ q) ≡ cells p ++ cells q
cells_append p q = ap spaced (map-append cell_word p q) ∙ flat_map-append (λ word. 32 ∷ word) (map cell_word p) (map cell_word q)

take_drop : {A : Type 0} (n : ℕ) (xs : List A) → xs ≡ take n xs ++ drop n xs
take_drop zero xs = refl
take_drop (suc n) [] = refl
take_drop (suc n) (x ∷ xs) = ap (λ l. x ∷ l) (take_drop n xs)

one_more : (path : List Cell) (k : ℕ) (cell : Cell) → k < length path → cell ≡ at path k → cells (take (k + 1) path) ≡ cells (take k path) ++ 32 ∷ cell_word cell
one_more path k cell below is = sym (cell_pushed [] (cells (take k path)) (cells (take k path) ++ 32 ∷ cell_word cell) path k cell below refl is refl)

-- one cell more was written
pub cell_written : (a b c : Option (List ℕ)) (path : List Cell) (k : ℕ) (cell : Cell) → k < length path → cell ≡ at path k
    → Appends a b (spaced (map cell_word (take k path))) → Appends b c (32 ∷ cell_word cell) → Appends a c (spaced (map cell_word (take (k + 1) path)))
cell_written a b c path k cell below is p q = both_parts a b c (cells (take k path)) (32 ∷ cell_word cell) (cells (take (k + 1) path)) (one_more path k cell below is) p q

-- a front of one cell more was written
pub cell_begun : (a b c : Option (List ℕ)) (path : List Cell) (k : ℕ) (cell : Cell) → k < length path → cell ≡ at path k
    → Appends a b (spaced (map cell_word (take k path))) → WritesFront b c (32 ∷ cell_word cell) → WritesFront a c (spaced (map cell_word path))
cell_begun a b c path k cell below is p w =
    in_first a c (cells (take (k + 1) path)) (cells (drop (k + 1) path)) (cells path) (ap cells (take_drop (k + 1) path) ∙ cells_append (take (k + 1) path) (drop (k + 1) path))
    (in_second a b c (cells (take k path)) (32 ∷ cell_word cell) (cells (take (k + 1) path)) (one_more path k cell below is) p w)

-- ---- replies as the log has them

pub took_text : (task : ℕ) (path : List Cell) → full_text (Reply.Took task path) ≡ ((codes "took " ++ decimal task) ++ codes " path") ++ spaced (map cell_word path)
took_text task path =
    line-spaced (codes "took") (decimal task ∷ codes "path" ∷ map cell_word path)
    ∙ ap (λ (t : List ℕ). codes "took " ++ t) (sym (append_assoc (decimal task) (codes " path") (spaced (map cell_word path))))

pub parked_text : (point : List ℕ) (path : List Cell) → full_text (Reply.Parked point path) ≡ ((codes "parked " ++ point) ++ codes " path") ++ spaced (map cell_word path)
parked_text point path =
    line-spaced (codes "parked") (point ∷ codes "path" ∷ map cell_word path)
    ∙ ap (λ (t : List ℕ). codes "parked " ++ t) (sym (append_assoc point (codes " path") (spaced (map cell_word path))))

-- ---- a text tells one reply

some_words : (reply : Reply) → 0 < length (reply_words reply)
some_words (Accepted task) = omega arith
some_words (Took task path) = omega arith
some_words Rested = omega arith
some_words (Parked point path) = omega arith
some_words (Clock now picked dropped) = omega arith
some_words (Replaced slots) = omega arith
some_words Closed = omega arith
some_words (Refused refusal) = omega arith

text_again : (reply : Reply) → ReplyKeeps reply → reply_of (words_of (full_text reply)) ≡ Some reply
text_again reply h = ap reply_of (split (reply_words reply) (some_words reply) (reply_plain reply h)) ∙ reply_again reply h

pub one_reply : (a b : Reply) → ReplyKeeps a → ReplyKeeps b → full_text a ≡ full_text b → a ≡ b
one_reply a b h k e = some_is a b (sym (text_again a h) ∙ ap (λ (text : List ℕ). reply_of (words_of text)) e ∙ text_again b k)

pub text_is_line : (reply : Reply) → ReplyKeeps reply → IsLine (full_text reply)
text_is_line reply h = line_is_line (reply_words reply) (reply_plain reply h)

-- ---- entries

spaced_line : (words : List (List ℕ)) → 0 < length words → spaced words ≡ 32 ∷ line_of words
spaced_line [] some = absurd (omega (arith, some))
spaced_line (word ∷ words) some = ap (λ (t : List ℕ). 32 ∷ t) (sym (line-spaced word words))

-- an entry's line up to the cells of its reply, and these
pub entry_parts : (entry : Entry) (head cells : List ℕ) → full_text entry.reply ≡ head ++ cells
    → entry_line entry ≡ (((decimal entry.caller ++ spaced (event_words entry.event)) ++ codes " = ") ++ head) ++ cells
entry_parts entry head cells e =
    let number = decimal entry.caller in
    let event = spaced (event_words entry.event) in
    let reply : spaced (reply_words entry.reply) ≡ 32 ∷ (head ++ cells) = spaced_line (reply_words entry.reply) (some_words entry.reply) ∙ ap (λ (t : List ℕ). 32 ∷ t) e in
    entry-spaced entry
    ∙ ap (λ (t : List ℕ). number ++ (event ++ 32 ∷ 61 ∷ t)) reply
    ∙ sym (append_assoc number event (codes " = " ++ (head ++ cells)))
    ∙ sym (append_assoc (number ++ event) (codes " = ") (head ++ cells))
    ∙ sym (append_assoc ((number ++ event) ++ codes " = ") head cells)

-- ---- replies behind their places

-- the place and the clock, and behind them the reply
pub placed_parts : (place clock : ℕ) (reply : Reply)
    → placed_text (record { place = place; clock = clock; reply = reply }) ≡ (decimal place ++ 32 ∷ (decimal clock ++ 32 ∷ [])) ++ full_text reply
placed_parts place clock reply =
    sym (append_assoc (decimal place) (32 ∷ (decimal clock ++ 32 ∷ [])) (full_text reply)
    ∙ ap (λ (t : List ℕ). decimal place ++ 32 ∷ t) (append_assoc (decimal clock) (32 ∷ []) (full_text reply)))

abbrev placed_words : Answered → List (List ℕ)
placed_words a = decimal a.place ∷ decimal a.clock ∷ reply_words a.reply

joined_behind : (word : List ℕ) (words : List (List ℕ)) → 0 < length words → line_of (word ∷ words) ≡ word ++ 32 ∷ line_of words
joined_behind word [] some = absurd (omega (arith, some))
joined_behind word (other ∷ words) some = refl

placed_line : (a : Answered) → placed_text a ≡ line_of (placed_words a)
placed_line a = ap (λ (t : List ℕ). decimal a.place ++ 32 ∷ t) (sym (joined_behind (decimal a.clock) (reply_words a.reply) (some_words a.reply)))

placed_plain : (a : Answered) → AnsweredKeeps a → AllByRecursion IsPlain (placed_words a)
placed_plain a h = (plain-decimal a.place h.place_fits, (plain-decimal a.clock h.clock_fits, reply_plain a.reply h.reply_keeps))

placed_split : (a : Answered) → AnsweredKeeps a → words_of (placed_text a) ≡ placed_words a
placed_split a h = ap words_of (placed_line a) ∙ split (placed_words a) (omega arith) (placed_plain a h)

same_parts : (a b : Answered) → a.place ≡ b.place → a.clock ≡ b.clock → a.reply ≡ b.reply → a ≡ b
same_parts a b place clock reply = λ i. record { place = place i; clock = clock i; reply = reply i }

same_words : (m n k l : ℕ) (a b : Reply) → m < 2 ^ 64 → n < 2 ^ 64 → k < 2 ^ 64 → l < 2 ^ 64 → ReplyKeeps a → ReplyKeeps b
    → decimal m ∷ decimal k ∷ reply_words a ≡ decimal n ∷ decimal l ∷ reply_words b → (m ≡ n) × (k ≡ l) × (a ≡ b)
same_words m n k l a b mf nf kf lf ak bk e =
    let place : decimal m ≡ decimal n = cc in
    let clock : decimal k ≡ decimal l = cc in
    let words : reply_words a ≡ reply_words b = cc in (
      decimal_injective m n mf nf place,
      decimal_injective k l kf lf clock,
      some_is a b (sym (reply_again a ak) ∙ ap reply_of words ∙ reply_again b bk),
    )

pub one_placed : (a b : Answered) → AnsweredKeeps a → AnsweredKeeps b → placed_text a ≡ placed_text b → a ≡ b
one_placed a b h k e =
    let words : placed_words a ≡ placed_words b = sym (placed_split a h) ∙ ap words_of e ∙ placed_split b k in
    let same = same_words a.place b.place a.clock b.clock a.reply b.reply h.place_fits k.place_fits h.clock_fits k.clock_fits h.reply_keeps k.reply_keeps words in
    same_parts a b same.0 same.1 same.2
