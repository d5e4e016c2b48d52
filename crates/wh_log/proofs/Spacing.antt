-- A line is its first word, and the others with a space before each.
use Rattle.std.proofs.Common.{◌≡◌, ℕ, List, [], ◌∷◌, ◌++◌, codes, decimal, sym, ap, ◌∙◌, append_assoc}
use Rattle.std.proofs.lemmas.List.{append-nil}
use Rattle.std.proofs.lemmas.Grind.{flat_map-append}
use Rattle.wh_words.specs.Words.{line_of}
use Rattle.wh_event.specs.declared.entry.Entry.{Entry}
use Rattle.wh_log.specs.Spelling.{event_words, reply_words, entry_line}
use Rattle.wh_log.specs.Spaced.{spaced}

pub line-spaced : (word : List ℕ) (words : List (List ℕ)) → line_of (word ∷ words) ≡ word ++ spaced words
line-spaced word [] = sym (append-nil word)
line-spaced word (other ∷ words) = ap (λ (t : List ℕ). word ++ 32 ∷ t) (line-spaced other words)

pub entry-spaced : (entry : Entry) → entry_line entry ≡ decimal entry.caller ++ (spaced (event_words entry.event) ++ 32 ∷ 61 ∷ spaced (reply_words entry.reply))
entry-spaced entry =
    line-spaced (decimal entry.caller) (event_words entry.event ++ codes "=" ∷ reply_words entry.reply)
    ∙ ap (λ (t : List ℕ). decimal entry.caller ++ t) (flat_map-append (λ word. 32 ∷ word) (event_words entry.event) (codes "=" ∷ reply_words entry.reply))

-- what was written piece by piece
pub pieces : (out a b c d e : List ℕ) (number event reply : List ℕ) → a ≡ out ++ number → b ≡ a ++ event → c ≡ b ++ 32 ∷ 61 ∷ [] → d ≡ c ++ reply → e ≡ d ++ 10 ∷ []
    → e ≡ out ++ ((number ++ (event ++ 32 ∷ 61 ∷ reply)) ++ 10 ∷ [])
pieces out a b c d e number event reply p q r s t = rw (t, s, r, q, p) (simp append_assoc)
