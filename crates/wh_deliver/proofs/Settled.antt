-- Entries are kept and told.
use Rattle.std.proofs.Common.{◌≡◌, ◌<◌, ◌+◌, ◌∙◌, ℕ, List, [], ◌∷◌, ◌++◌, append-nil, append_assoc, length, drop, get_or, refl, sym, ap, subst, Option}
use Rattle.std.proofs.lemmas.List.{drop_more}
use Rattle.std.specs.Io.KnownBytes.{Appends}
use Rattle.std.proofs.KnownBytes.{Appends-nil, Appends-trans}
use Rattle.wh_lines.specs.Output.{WritesFront}
use Rattle.wh_lines.proofs.Written.{in_first, in_second}
use Rattle.wh_event.specs.declared.entry.Entry.{Entry}
use Rattle.wh_log.specs.Told.{Answered}
use Rattle.wh_replay.specs.Answers.{clock_after, reply_line, text_of}
use Rattle.wh_replay.proofs.Giving.{replies_text}
use Rattle.wh_deliver.specs.Delivers.{replies_of}

-- ---- replies

-- what was told so far of the entries
pub record TellsSo (text : Answered → List ℕ) (history : List Entry) (first clock next before : ℕ) (had has : Option (List ℕ)) : Type 0 where
  pub replies : List (List ℕ)
  pub goes_on : replies_of text first clock (drop first history) ≡ replies ++ replies_of text next before (drop next history)
  pub appends : Appends had has (text_of replies)

module _ (text : Answered → List ℕ) (history : List Entry) (first clock : ℕ) (had : Option (List ℕ)) where
  pub tells_none : TellsSo text history first clock first clock had had
  tells_none = record { replies = []; goes_on = refl; appends = Appends-nil had }

  module _ (next before : ℕ) (has : Option (List ℕ)) (so : TellsSo text history first clock next before had has) (meaningless : Entry) (below : next < length history) where
    abbrev entry : Entry
    entry = get_or history next meaningless

    abbrev line : List ℕ
    line = text (record { place = next; clock = before; reply = entry.reply })

    here : drop next history ≡ entry ∷ drop (next + 1) history
    here = drop_more history next meaningless below

    abbrev others : List (List ℕ)
    others = replies_of text (next + 1) (clock_after before entry.reply) (drop (next + 1) history)

    from_here : replies_of text first clock (drop first history) ≡ so.replies ++ (line ∷ others)
    from_here = so.goes_on ∙ ap (λ (es : List Entry). so.replies ++ replies_of text next before es) here

    pub tells_more : (after : ℕ) (further : Option (List ℕ)) → after ≡ clock_after before entry.reply → Appends has further (reply_line line) → TellsSo text history first clock (next + 1) after had further
    tells_more after further same more = record {
      replies = so.replies ++ line ∷ [];
      goes_on = from_here ∙ sym (append_assoc so.replies (line ∷ []) others)
          ∙ ap (λ (n : ℕ). (so.replies ++ line ∷ []) ++ replies_of text (next + 1) n (drop (next + 1) history)) (sym same);
      appends = subst (Appends had further) (sym (replies_text so.replies (line ∷ [])))
          (Appends-trans had has further (text_of so.replies) (text_of (line ∷ [])) so.appends (subst (Appends has further) (sym (append-nil (reply_line line))) more));
    }

    pub tells_begun : (further : Option (List ℕ)) → WritesFront has further (reply_line line) → WritesFront had further (text_of (replies_of text first clock (drop first history)))
    tells_begun further w =
        in_second had has further (text_of so.replies) (text_of (line ∷ others)) _ (ap text_of from_here ∙ replies_text so.replies (line ∷ others)) so.appends
        (in_first has further (reply_line line) (text_of others) _ refl w)

  pub tells_all : (next before : ℕ) (has : Option (List ℕ)) → TellsSo text history first clock next before had has → drop next history ≡ [] → Appends had has (text_of (replies_of text first clock (drop first history)))
  tells_all next before has so none =
      subst (Appends had has)
      (ap text_of (sym (so.goes_on ∙ ap (λ (es : List Entry). so.replies ++ replies_of text next before es) none ∙ append-nil so.replies))) so.appends
