-- What lines are told, by the entries of the history and a small value for each line.
use Rattle.std.proofs.Common.{◌≡◌, ◌+◌, ℕ, suc, List, [], ◌∷◌, ◌++◌, length, drop, refl, sym, ap, ◌∙◌, arith, subst, Option, None, Some, append-nil, Bool, true, false, Result, Ok, Err}
use Rattle.std.specs.Prelude.{codes, is_some}
use Rattle.wh_grid.specs.Grids.{Floor}
use Rattle.wh_core.specs.Laws.{IsBeginning}
use Rattle.wh_core.specs.Steps.{Run}
use Rattle.wh_token.specs.Drafts.{Seen}
use Rattle.wh_token.specs.Runs.{RunsOne, entries_of}
use Rattle.wh_event.specs.declared.event.Command.{Command}
use Rattle.wh_event.specs.declared.fault.LineFault.{LineFault}
use Rattle.wh_event.specs.declared.fault.LineFault.TheVariants.{Form, TooLong as Long}
use Rattle.wh_event.specs.declared.entry.Entry.{Entry as Line}
use Rattle.wh_log.specs.Told.{Answered, told_text}
use Rattle.wh_replay.specs.declared.asker.Asker.{Asker}
use Rattle.wh_replay.specs.Answers.{answers, clock_after, clock_behind}
use Rattle.wh_replay.proofs.Giving.{gives_one, gives_nothing, reply_to}
use Rattle.wh_replay.specs.Answering.{told_by_answers, entry_count, AnswersLine}
use Rattle.wh_replay.specs.declared.answering.Answer.{Answer}
use Rattle.wh_replay.specs.declared.answering.Answer.TheVariants.{Entry, NoEntry, NoCommand, TooLong}

pub count_more : (given more : List Answer) → entry_count (given ++ more) ≡ entry_count given + entry_count more
count_more [] more = omega arith
count_more (Entry ∷ given) more = omega (arith, count_more given more)
count_more (NoEntry ∷ given) more = count_more given more
count_more (NoCommand ∷ given) more = count_more given more
count_more (TooLong ∷ given) more = count_more given more

-- what more lines are told, behind those that were told before
pub told_more : (text : Answered → List ℕ) (place clock : ℕ) (given more : List Answer) (es fs : List Line) → entry_count given ≡ length es
    → told_by_answers text place clock (given ++ more) (es ++ fs) ≡ told_by_answers text place clock given es ++ told_by_answers text (place + length es) (clock_behind clock es) more fs
told_more text place clock [] more [] fs e = ap (λ (n : ℕ). told_by_answers text n clock more fs) (omega arith)
told_more text place clock [] more (x ∷ es) fs e = absurd (omega (arith, e))
told_more text place clock (Entry ∷ given) more [] fs e = absurd (omega (arith, e))
told_more text place clock (Entry ∷ given) more (x ∷ es) fs e =
    let after = clock_after clock x.reply in
    let same : (place + 1) + length es ≡ place + suc (length es) = omega arith in
    ap (λ (rs : List (List ℕ)). text (record { place = place; clock = clock; reply = x.reply }) ∷ rs)
    (told_more text (place + 1) after given more es fs (omega (arith, e))
    ∙ ap (λ (n : ℕ). told_by_answers text (place + 1) after given es ++ told_by_answers text n (clock_behind after es) more fs) same)
told_more text place clock (NoEntry ∷ given) more es fs e = ap (λ (rs : List (List ℕ)). codes "refused E90" ∷ rs) (told_more text place clock given more es fs e)
told_more text place clock (NoCommand ∷ given) more es fs e = ap (λ (rs : List (List ℕ)). codes "refused C1" ∷ rs) (told_more text place clock given more es fs e)
told_more text place clock (TooLong ∷ given) more es fs e = ap (λ (rs : List (List ℕ)). codes "refused C2" ∷ rs) (told_more text place clock given more es fs e)

drop_past : {A : Type 0} (xs ys : List A) → drop (length xs) (xs ++ ys) ≡ ys
drop_past [] ys = refl
drop_past (x ∷ xs) ys = drop_past xs ys

-- a history grows by one list of entries
pub same_added : (old new es fs : List Line) → new ≡ old ++ es → new ≡ old ++ fs → es ≡ fs
same_added old new es fs p q = sym (drop_past old es) ∙ ap (λ (h : List Line). drop (length old) h) (sym p ∙ q) ∙ drop_past old fs

-- ---- one command

-- what an outcome with an entry answers, and one without
entry_told : (text : Answered → List ℕ) (place clock : ℕ) (outcome : Option Line) → is_some outcome ≡ true
    → reply_to text place clock outcome ∷ [] ≡ told_by_answers text place clock (Entry ∷ []) (entries_of (outcome ∷ []))
entry_told text place clock None is = absurd (let no : false ≡ true = is in cc)
entry_told text place clock (Some entry) is = refl

none_told : (text : Answered → List ℕ) (place clock : ℕ) (outcome : Option Line) → is_some outcome ≡ false
    → reply_to text place clock outcome ∷ [] ≡ told_by_answers text place clock (NoEntry ∷ []) (entries_of (outcome ∷ []))
none_told text place clock None is = refl
none_told text place clock (Some entry) is = absurd (let no : true ≡ false = is in cc)

one_entry : (outcome : Option Line) → is_some outcome ≡ true → 1 ≡ length (entries_of (outcome ∷ []))
one_entry None is = absurd (let no : false ≡ true = is in cc)
one_entry (Some entry) is = refl

no_entry : (outcome : Option Line) → is_some outcome ≡ false → 0 ≡ length (entries_of (outcome ∷ []))
no_entry None is = refl
no_entry (Some entry) is = absurd (let no : true ≡ false = is in cc)

module _ {X : Type 0} (fits : X → Floor → Bool) (count : X → ℕ) (asker : Asker) (command : Command) (old : Seen) (spares : List X) (new : Seen) (rest : List X)
    (begins : IsBeginning old.site old.opening) (before : Run old.site old.opening old.history old.state) (added : Bool) (one : RunsOne fits count asker.caller command added old spares new rest) where
  pub answers_entry : added ≡ true → AnswersLine fits count asker (Ok (Some command)) old spares new rest (Some Entry)
  answers_entry is = record {
    replies = reply_to (told_text asker.form) (length old.history) old.state.clock one.outcome ∷ [];
    gives = gives_one fits count asker (length old.history) old.state.clock command old spares new rest added refl refl begins before one;
    added = entries_of (one.outcome ∷ []);
    added_are = one.history;
    replies_are = entry_told (told_text asker.form) (length old.history) old.state.clock one.outcome (one.added_is ∙ is);
    counted = one_entry one.outcome (one.added_is ∙ is);
  }

  pub answers_none : added ≡ false → AnswersLine fits count asker (Ok (Some command)) old spares new rest (Some NoEntry)
  answers_none is = record {
    replies = reply_to (told_text asker.form) (length old.history) old.state.clock one.outcome ∷ [];
    gives = gives_one fits count asker (length old.history) old.state.clock command old spares new rest added refl refl begins before one;
    added = entries_of (one.outcome ∷ []);
    added_are = one.history;
    replies_are = none_told (told_text asker.form) (length old.history) old.state.clock one.outcome (one.added_is ∙ is);
    counted = no_entry one.outcome (one.added_is ∙ is);
  }

-- a command that was not run
pub not_run : {X : Type 0} (fits : X → Floor → Bool) (count : X → ℕ) (caller : ℕ) (command : Command) (book : Seen) (spares : List X) → RunsOne fits count caller command false book spares book spares
not_run fits count caller command book spares = record {
  outcome = None;
  added_is = refl;
  history = sym (append-nil book.history);
  moves = (refl, refl);
  stays = record { site = refl; opening = refl };
}

-- a line that asks for nothing, or is no command
module _ {X : Type 0} (fits : X → Floor → Bool) (count : X → ℕ) (asker : Asker) (kind : Result (Option Command) LineFault) (old : Seen) (spares : List X) where
  answered_as : (here : Result (Option Command) LineFault) (answer : Option Answer) → kind ≡ here → AnswersLine fits count asker here old spares old spares answer
      → AnswersLine fits count asker kind old spares old spares answer
  answered_as here answer e a = subst (λ (k : Result (Option Command) LineFault). AnswersLine fits count asker k old spares old spares answer) (sym e) a

  pub answers_skipped : kind ≡ Ok None → AnswersLine fits count asker kind old spares old spares None
  answers_skipped e =
      answered_as (Ok None) None e (record { replies = []; gives = gives_nothing fits count asker.caller (answers (told_text asker.form) (Ok None)) old spares; added = []; added_are = sym (append-nil old.history); replies_are = refl; counted = refl })

  pub answers_wrong : kind ≡ Err Form → AnswersLine fits count asker kind old spares old spares (Some NoCommand)
  answers_wrong e =
      answered_as (Err Form) (Some NoCommand) e
      (record { replies = codes "refused C1" ∷ []; gives = gives_nothing fits count asker.caller (answers (told_text asker.form) (Err Form)) old spares; added = []; added_are = sym (append-nil old.history); replies_are = refl; counted = refl })

  pub answers_long : kind ≡ Err Long → AnswersLine fits count asker kind old spares old spares (Some TooLong)
  answers_long e =
      answered_as (Err Long) (Some TooLong) e
      (record { replies = codes "refused C2" ∷ []; gives = gives_nothing fits count asker.caller (answers (told_text asker.form) (Err Long)) old spares; added = []; added_are = sym (append-nil old.history); replies_are = refl; counted = refl })
