-- One line more is answered, and what is kept of it and what it is told wait.
use Rattle.std.proofs.Common.{◌≡◌, ◌∙◌, ◌≤◌, ◌+◌, ◌-◌, ◌^◌, ℕ, suc, Bool, List, [], ◌∷◌, ◌++◌, length, drop, Option, Some, Result, Ok, sym, ap, subst, refl, arith}
use Rattle.std.specs.Option.{option_to_list}
use Rattle.std.proofs.lemmas.List.{drop-append-le, length-append, length-drop}
use Rattle.wh_lines.specs.Text.{short_line}
use Rattle.wh_grid.specs.Grids.{Floor}
use Rattle.wh_event.specs.declared.event.Command.{Command}
use Rattle.wh_event.specs.declared.entry.Entry.{Entry as Line}
use Rattle.wh_event.specs.declared.fault.LineFault.{LineFault}
use Rattle.wh_event.specs.Fronts.{IsAtFront}
use Rattle.wh_book.specs.Drafts.{Seen}
use Rattle.wh_token.specs.Runs.{entries_of}
use Rattle.wh_log.specs.Told.{Answered, told_text}
use Rattle.wh_log.specs.declared.form.Form.{Form}
use Rattle.wh_replay.specs.declared.asker.Asker.{Asker}
use Rattle.wh_session.specs.Machines.{nothing, joined, ServesOne, IsFront}
use Rattle.wh_replay.specs.declared.answering.Answer.{Answer}
use Rattle.wh_replay.specs.declared.answering.Answer.TheVariants.{Entry, NoEntry, NoCommand, TooLong}
use Rattle.wh_replay.specs.Answers.{said, text_of, clock_behind}
use Rattle.wh_replay.specs.Answering.{told_by_answers, entry_count, AnswersLine}
use Rattle.wh_replay.specs.Appending.{lines_for, logged}
use Rattle.wh_replay.specs.Machines.{told_of, kept_of, Left, Scripted, StandsSo, ServesScript}
use Rattle.wh_replay.proofs.Answered.{told_more, count_more, same_added}
use Rattle.wh_replay.proofs.Appended.{logged_lines}
use Rattle.wh_replay.proofs.Giving.{replies_text}
use Rattle.wh_replay.proofs.Placing.{run_clock}
use Rattle.wh_replay.proofs.Returns.{said_is}

clock_join : (clock : ℕ) (es fs : List Line) → clock_behind clock (es ++ fs) ≡ clock_behind (clock_behind clock es) fs
clock_join clock [] fs = refl
clock_join clock (e ∷ es) fs = clock_join _ es fs

none_behind : {A : Type 0} (l : List A) → drop (length l) l ≡ []
none_behind [] = refl
none_behind (x ∷ l) = none_behind l

-- each answer is one reply
told_length : (text : Answered → List ℕ) (place clock : ℕ) (given : List Answer) (es : List Line) → entry_count given ≡ length es → length (told_by_answers text place clock given es) ≡ length given
told_length text place clock [] es e = refl
told_length text place clock (Entry ∷ given) [] e = absurd (omega (arith, e))
told_length text place clock (Entry ∷ given) (x ∷ es) e = ap suc (told_length text (place + 1) _ given es (omega (arith, e)))
told_length text place clock (NoEntry ∷ given) es e = ap suc (told_length text place clock given es e)
told_length text place clock (NoCommand ∷ given) es e = ap suc (told_length text place clock given es e)
told_length text place clock (TooLong ∷ given) es e = ap suc (told_length text place clock given es e)

-- where nothing waits, the line's own is the first
pub left_here : (book : Seen) (first clock : ℕ) (waiting : List Answer) → first ≡ length book.history → clock ≡ book.state.clock → waiting ≡ [] → Left first clock book waiting
left_here book first clock waiting here now none =
    let behind : drop first book.history ≡ [] = ap (λ (n : ℕ). drop n book.history) here ∙ none_behind book.history in
    record {
      within = omega (arith, here);
      counted = ap (λ (given : List Answer). entry_count given) none ∙ sym (ap (λ (es : List Line). length es) behind);
      clock_is = ap (λ (es : List Line). clock_behind clock es) behind ∙ now;
    }

module _ {X : Type 0} (fits : X → Floor → Bool) (count : X → ℕ) (asker : Asker) (kind : Result (Option Command) LineFault) (old : Seen) (spares : List X) (new : Seen) (rest : List X) (answer : Option Answer)
    (a : AnswersLine fits count asker kind old spares new rest answer) (first clock : ℕ) (waiting : List Answer) (l : Left first clock old waiting) where
  abbrev before : List Line
  before = drop first old.history

  abbrev given : List Answer
  given = option_to_list answer

  behind_new : drop first new.history ≡ before ++ a.added
  behind_new = ap (λ (h : List Line). drop first h) a.added_are ∙ drop-append-le first old.history a.added l.within

  added_is : a.added ≡ entries_of a.gives.outcomes
  added_is = same_added old.history new.history a.added (entries_of a.gives.outcomes) a.added_are a.gives.history

  pub left_more : Left first clock new (waiting ++ given)
  left_more = record {
    within = let all = ap (λ (h : List Line). length h) a.added_are ∙ length-append old.history a.added in omega (arith, all, l.within);
    counted =
        let both = ap (λ (h : List Line). length h) behind_new ∙ length-append before a.added in
        let sum = count_more waiting given in
        omega (arith, both, sum, l.counted, a.counted);
    clock_is =
        ap (λ (es : List Line). clock_behind clock es) behind_new
        ∙ clock_join clock before a.added ∙ ap (λ (c : ℕ). clock_behind c a.added) l.clock_is ∙ ap (λ (es : List Line). clock_behind old.state.clock es) added_is
        ∙ sym (run_clock old.site old.state (entries_of a.gives.outcomes) new.state a.gives.run);
  }

  here : told_by_answers (told_text asker.form) (first + length before) (clock_behind clock before) given a.added ≡ a.replies
  here =
      let place : first + length before ≡ length old.history = omega (arith, length-drop first old.history, l.within) in
      ap (λ (n : ℕ). told_by_answers (told_text asker.form) n (clock_behind clock before) given a.added) place
      ∙ ap (λ (c : ℕ). told_by_answers (told_text asker.form) (length old.history) c given a.added) l.clock_is ∙ sym a.replies_are

  pub told_on : told_of (told_text asker.form) first clock new (waiting ++ given) ≡ told_of (told_text asker.form) first clock old waiting ++ text_of a.replies
  told_on =
      let had = told_by_answers (told_text asker.form) first clock waiting before in
      ap text_of (ap (λ (es : List Line). told_by_answers (told_text asker.form) first clock (waiting ++ given) es) behind_new ∙ told_more (told_text asker.form) first clock waiting given before a.added l.counted
      ∙ ap (λ (rs : List (List ℕ)). had ++ rs) here) ∙ replies_text had a.replies

  pub kept_on : kept_of first new ≡ joined (kept_of first old) (logged (lines_for (entries_of a.gives.outcomes)))
  kept_on =
      ap (λ (es : List Line). logged (lines_for es)) behind_new ∙ logged_lines before a.added
      ∙ ap (λ (es : List Line). joined (logged (lines_for before)) (logged (lines_for es))) added_is

  pub replies_long : length a.replies ≡ length given
  replies_long = ap (λ (rs : List (List ℕ)). length rs) a.replies_are ∙ told_length (told_text asker.form) (length old.history) old.state.clock given a.added a.counted

module _ {X : Type 0} (seat room : ℕ) (book : Seen) (spares : List X) (asker : Asker) (most replies first clock : ℕ) (waiting : List Answer) (s : Scripted X) where
  pub same_state : StandsSo seat room book spares asker most replies first clock waiting s → record { seat = seat; room = room; book = book; spares = spares; asker = asker; most = most; replies = replies } ≡ s
  same_state h i = record { seat = h.seat_is i; room = h.room_is i; book = h.book_is i; spares = h.spares_are i; asker = h.asker_is i; most = h.most_is i; replies = h.replies_are i }

  -- all was told
  pub clears : (here now : ℕ) (waits : List Answer) → here ≡ length book.history → now ≡ book.state.clock → waits ≡ [] → StandsSo seat room book spares asker most replies first clock waiting s →
      StandsSo seat room book spares asker most replies here now waits s × (told_of (told_text asker.form) here now book waits ≡ []) × (kept_of here book ≡ nothing)
  clears here now waits place time none h = (
    record {
      seat_is = h.seat_is;
      room_is = h.room_is;
      book_is = h.book_is;
      spares_are = h.spares_are;
      asker_is = h.asker_is;
      most_is = h.most_is;
      replies_are = h.replies_are;
      left = left_here book here now waits place time none;
    },
    ap (λ (given : List Answer). told_of (told_text asker.form) here now book given) none,
    ap (λ (es : List Line). logged (lines_for es)) (ap (λ (n : ℕ). drop n book.history) place ∙ none_behind book.history),
  )

-- a line was answered
pub served_line : {X : Type 0} (fits : X → Floor → Bool) (count : X → ℕ) (line : Option (List ℕ)) (old : Seen) (spares : List X) (new : Seen) (rest : List X) (answer : Option Answer)
    (asker : Asker) (a : (f : Form) → AnswersLine fits count (record { caller = asker.caller; form = f }) (said line) old spares new rest answer) (seat room most : ℕ) → (length old.history ≤ most → length new.history ≤ most)
    → (replies n : ℕ) → (replies + length (option_to_list answer) ≤ 2 ^ 64 - 1 → n ≡ replies + length (option_to_list answer)) → (first clock : ℕ) (waiting waits : List Answer) → waits ≡ waiting ++ option_to_list answer
    → (s : Scripted X) → StandsSo seat room old spares asker most replies first clock waiting s
    → (e : Scripted X) × StandsSo seat room new rest asker most n first clock waits e
    × ServesOne (ServesScript fits count) line s e (told_of (told_text asker.form) first clock old waiting) (told_of (told_text asker.form) first clock new waits) (kept_of first old) (kept_of first new)
served_line {X} fits count line old spares new rest answer asker a seat room most few replies n n_is first clock waiting waits is s h =
    let one = a asker.form in
    let long = replies_long fits count asker (said line) old spares new rest answer one first clock waiting h.left in
    let end : Scripted X = record { seat = seat; room = room; book = new; spares = rest; asker = asker; most = most; replies = n } in
    let kept = logged (lines_for (entries_of one.gives.outcomes)) in
    let did : ServesScript fits count (record { seat = seat; room = room; book = old; spares = spares; asker = asker; most = most; replies = replies }) line (text_of one.replies) kept end = record {
      replies = one.replies;
      gives = one.gives;
      told_is = refl;
      kept_is = refl;
      few = few;
      counted = λ fit. n_is (subst (λ (k : ℕ). replies + k ≤ 2 ^ 64 - 1) long fit) ∙ ap (λ (k : ℕ). replies + k) (sym long);
      seat_is = refl;
      room_is = refl;
      asker_is = refl;
      most_is = refl;
    } in (
      end,
      record {
        seat_is = refl;
        room_is = refl;
        book_is = refl;
        spares_are = refl;
        asker_is = refl;
        most_is = refl;
        replies_are = refl;
        left = subst (λ (given : List Answer). Left first clock new given) (sym is) (left_more fits count asker (said line) old spares new rest answer one first clock waiting h.left);
      },
      record {
        told = text_of one.replies;
        kept = kept;
        did = subst (λ (x : Scripted X). ServesScript fits count x line (text_of one.replies) kept end) (same_state seat room old spares asker most replies first clock waiting s h) did;
        says_are = ap (λ (given : List Answer). told_of (told_text asker.form) first clock new given) is ∙ told_on fits count asker (said line) old spares new rest answer one first clock waiting h.left;
        comes_are = kept_on fits count asker (said line) old spares new rest answer one first clock waiting h.left;
      },
    )

-- the line at the front of a text, in a form that is read in place
pub front_line : (command : Command) (bytes : ℕ) (text : List ℕ) (f : IsAtFront command bytes text) → IsFront f.line bytes text
front_line command bytes text f = record { plain = f.plain; within = f.within; front = f.front }

pub front_answers : {X : Type 0} (fits : X → Floor → Bool) (count : X → ℕ) (command : Command) (bytes : ℕ) (text : List ℕ) (f : IsAtFront command bytes text) (old : Seen) (spares : List X) (new : Seen) (rest : List X) (answer : Option Answer)
    (caller : ℕ) → ((f : Form) → AnswersLine fits count (record { caller = caller; form = f }) (Ok (Some command)) old spares new rest answer) → (form : Form) → AnswersLine fits count (record { caller = caller; form = form }) (said (short_line f.line)) old spares new rest answer
front_answers fits count command bytes text f old spares new rest answer caller a form =
    subst (λ (kind : Result (Option Command) LineFault). AnswersLine fits count (record { caller = caller; form = form }) kind old spares new rest answer) (sym (said_is f.line ∙ f.asks)) (a form)
