-- Lines that are told what they were answered, one after another.
use Rattle.std.proofs.Common.{◌≡◌, ◌<◌, ◌+◌, ℕ, List, [], ◌∷◌, ◌++◌, length, drop, sym, ap, ◌∙◌, arith, subst, Option, Result, get_or, Ok, Err, append_assoc, append-nil, suc}
use Rattle.std.specs.Prelude.{IfOk, OnOk}
use Rattle.std.proofs.Math.Seq.{drop-cons}
use Rattle.std.specs.Io.KnownBytes.{Appends}
use Rattle.std.proofs.KnownBytes.{Appends-nil, Appends-trans}
use Rattle.wh_lines.proofs.Written.{in_first, in_second}
use Rattle.wh_event.specs.declared.entry.Entry.{Entry as Line}
use Rattle.wh_log.specs.Told.{Answered}
use Rattle.wh_replay.specs.Answers.{clock_after, reply_line, text_of}
use Rattle.wh_replay.specs.Scripts.{WritesFront}
use Rattle.wh_replay.specs.declared.answering.Answer.{Answer}
use Rattle.wh_replay.specs.declared.answering.Answer.TheVariants.{Entry}
use Rattle.wh_replay.specs.declared.replying.Told.{Told}
use Rattle.wh_replay.specs.Answering.{told_by_answers}
use Rattle.wh_replay.specs.Replying.{TellsOne}
use Rattle.wh_replay.proofs.Giving.{replies_text}

one_text : (line : List ℕ) → reply_line line ≡ text_of (line ∷ [])
one_text line = sym (append-nil (reply_line line))

module _ (text : Answered → List ℕ) (history : List Line) (told : Told) (had has : Option (List ℕ)) where
  -- no entry is left
  pub tells_past : had ≡ has → drop told.next history ≡ [] → TellsOne text Entry history told told had has
  tells_past same none = record {
    replies = [];
    goes_on = λ rest. ap (λ (es : List Line). told_by_answers text told.next told.clock (Entry ∷ rest) es) none ∙ ap (λ (es : List Line). told_by_answers text told.next told.clock rest es) (sym none);
    appends = subst (λ (w : Option (List ℕ)). Appends had w []) same (Appends-nil had);
  }

  module _ (entry : Line) (here : drop told.next history ≡ entry ∷ drop (told.next + 1) history) where
    abbrev line : List ℕ
    line = text (record { place = told.next; clock = told.clock; reply = entry.reply })

    next_told : (rest : List Answer) → told_by_answers text told.next told.clock (Entry ∷ rest) (drop told.next history)
        ≡ line ∷ told_by_answers text (told.next + 1) (clock_after told.clock entry.reply) rest (drop (told.next + 1) history)
    next_told rest = ap (λ (es : List Line). told_by_answers text told.next told.clock (Entry ∷ rest) es) here

    pub tells_entry : (after : Told) → after.next ≡ told.next + 1 → after.clock ≡ clock_after told.clock entry.reply → Appends had has (reply_line line) → TellsOne text Entry history told after had has
    tells_entry after next clock p = record {
      replies = line ∷ [];
      goes_on = λ rest. next_told rest
          ∙ ap (λ (n : ℕ). line ∷ told_by_answers text n (clock_after told.clock entry.reply) rest (drop n history)) (sym next)
          ∙ ap (λ (n : ℕ). line ∷ told_by_answers text after.next n rest (drop after.next history)) (sym clock);
      appends = subst (Appends had has) (one_text line) p;
    }

    pub begins_entry : WritesFront had has (reply_line line) → (rest : List Answer) → WritesFront had has (text_of (told_by_answers text told.next told.clock (Entry ∷ rest) (drop told.next history)))
    begins_entry w rest =
        let more = told_by_answers text (told.next + 1) (clock_after told.clock entry.reply) rest (drop (told.next + 1) history) in
        in_first had has (reply_line line) (text_of more) _ (ap text_of (next_told rest)) w

  -- a line that no entry answers
  module _ (answer : Answer) (line : List ℕ) (is : (rest : List Answer) (entries : List Line) → told_by_answers text told.next told.clock (answer ∷ rest) entries ≡ line ∷ told_by_answers text told.next told.clock rest entries) where
    pub tells_other : (after : Told) → after ≡ told → Appends had has (reply_line line) → TellsOne text answer history told after had has
    tells_other after same p = record {
      replies = line ∷ [];
      goes_on = λ rest. is rest (drop told.next history) ∙ ap (λ (t : Told). line ∷ told_by_answers text t.next t.clock rest (drop t.next history)) (sym same);
      appends = subst (Appends had has) (one_text line) p;
    }

    pub begins_other : WritesFront had has (reply_line line) → (rest : List Answer) → WritesFront had has (text_of (told_by_answers text told.next told.clock (answer ∷ rest) (drop told.next history)))
    begins_other w rest =
        let more = told_by_answers text told.next told.clock rest (drop told.next history) in
        in_first had has (reply_line line) (text_of more) _ (ap text_of (is rest (drop told.next history))) w

pub ok_both : {T E A : Type 0} (r : Result T E) (t : T) (P : T → Type 0) → ((x : T) → x ≡ t → A → P x) → IfOk r (λ x. x ≡ t) → OnOk r A → IfOk r P
ok_both (Ok x) t P f same a = f x same a
ok_both (Err e) t P f same a = tt

pub from_here_on : {A : Type 0} (xs : List A) (k : ℕ) (d : A) → k < length xs → drop k xs ≡ get_or xs k d ∷ drop (k + 1) xs
from_here_on xs k d below =
    let next : suc k ≡ k + 1 = omega arith in
    drop-cons xs k d below ∙ ap (λ (n : ℕ). get_or xs k d ∷ drop n xs) next

-- the entry that was looked up
pub from_entry : (history : List Line) (k : ℕ) (entry : Line) → k < length history → entry ≡ get_or history k entry → drop k history ≡ entry ∷ drop (k + 1) history
from_entry history k entry below is = from_here_on history k entry below ∙ ap (λ (x : Line). x ∷ drop (k + 1) history) (sym is)

-- what was told so far of lines that were answered
pub record Tells (text : Answered → List ℕ) (history : List Line) (answers : List Answer) (first clock : ℕ) (done : ℕ) (told : Told) (had has : Option (List ℕ)) : Type 0 where
  pub replies : List (List ℕ)
  pub goes_on : told_by_answers text first clock answers (drop first history) ≡ replies ++ told_by_answers text told.next told.clock (drop done answers) (drop told.next history)
  pub appends : Appends had has (text_of replies)

module _ (text : Answered → List ℕ) (history : List Line) (answers : List Answer) (first clock : ℕ) (had : Option (List ℕ)) where
  pub tells_start : (told : Told) → told.next ≡ first → told.clock ≡ clock → Tells text history answers first clock 0 told had had
  tells_start told next now = record {
    replies = [];
    goes_on = ap (λ (n : ℕ). told_by_answers text n clock answers (drop n history)) (sym next) ∙ ap (λ (n : ℕ). told_by_answers text told.next n answers (drop told.next history)) (sym now);
    appends = Appends-nil had;
  }

  module _ (done : ℕ) (told : Told) (has : Option (List ℕ)) (st : Tells text history answers first clock done told had has) (answer : Answer) (here : drop done answers ≡ answer ∷ drop (done + 1) answers) where
    from_here : told_by_answers text first clock answers (drop first history) ≡ st.replies ++ told_by_answers text told.next told.clock (answer ∷ drop (done + 1) answers) (drop told.next history)
    from_here = st.goes_on ∙ ap (λ (given : List Answer). st.replies ++ told_by_answers text told.next told.clock given (drop told.next history)) here

    pub tells_more : (after : Told) (further : Option (List ℕ)) → TellsOne text answer history told after has further → Tells text history answers first clock (done + 1) after had further
    tells_more after further one = record {
      replies = st.replies ++ one.replies;
      goes_on = from_here ∙ ap (λ (rs : List (List ℕ)). st.replies ++ rs) (one.goes_on (drop (done + 1) answers))
          ∙ sym (append_assoc st.replies one.replies (told_by_answers text after.next after.clock (drop (done + 1) answers) (drop after.next history)));
      appends = subst (Appends had further) (sym (replies_text st.replies one.replies)) (Appends-trans had has further (text_of st.replies) (text_of one.replies) st.appends one.appends);
    }

    pub tells_begun : (further : Option (List ℕ)) → ((rest : List Answer) → WritesFront has further (text_of (told_by_answers text told.next told.clock (answer ∷ rest) (drop told.next history))))
        → WritesFront had further (text_of (told_by_answers text first clock answers (drop first history)))
    tells_begun further w =
        let more = told_by_answers text told.next told.clock (answer ∷ drop (done + 1) answers) (drop told.next history) in
        in_second had has further (text_of st.replies) (text_of more) _ (ap text_of from_here ∙ replies_text st.replies more) st.appends (w (drop (done + 1) answers))

  pub tells_all : (done : ℕ) (told : Told) (has : Option (List ℕ)) → Tells text history answers first clock done told had has → drop done answers ≡ []
      → Appends had has (text_of (told_by_answers text first clock answers (drop first history)))
  tells_all done told has st none =
      subst (Appends had has)
      (ap text_of (sym (st.goes_on ∙ ap (λ (given : List Answer). st.replies ++ told_by_answers text told.next told.clock given (drop told.next history)) none ∙ append-nil st.replies))) st.appends
