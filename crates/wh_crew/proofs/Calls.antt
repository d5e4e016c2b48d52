-- One more command, answered or missed.
use Rattle.std.proofs.Common.{◌≡◌, ℕ, ◌+◌, ◌<◌, ◌≤◌, Bool, List, [], ◌∷◌, ◌++◌, length, drop, reverse, Option, Some, None, slice_get, refl, ap, sym, ◌∙◌, subst, arith, append_assoc}
use Rattle.std.proofs.lemmas.List.{map_push, length_push, append-nil, reverse-append, nil_from_length}
use Rattle.std.specs.Option.{option_to_list}
use Rattle.wh_grid.specs.Grids.{Floor}
use Rattle.wh_event.specs.declared.entry.Entry.{Entry}
use Rattle.wh_event.specs.declared.event.Event.{Event}
use Rattle.wh_event.specs.declared.event.Spare.{Spare}
use Rattle.wh_event.specs.declared.event.Command.{Command}
use Rattle.wh_desk.specs.Fleet.{TellsSpare}
use Rattle.wh_desk.specs.Commands.{event_of}
use Rattle.wh_desk.specs.Lists.{Received}
use Rattle.wh_desk.proofs.Entries.{AllAt_push}
use Rattle.wh_board.proofs.Fronts.{prefix_self, prefix_trans, prefix_length}
use Rattle.wh_desk.specs.Calls.{Refuses}
use Rattle.wh_desk.specs.declared.answer.DeskFault.{DeskFault}
use Rattle.wh_desk.proofs.Telling.{refused_keeps}
use Rattle.wh_crew.specs.declared.worker.Missed.{Missed}
use Rattle.wh_crew.specs.Work.{IsSublist, nothing, command_of, keeps, skips, commands_of, told_by, spares_told, all_missed, counted, LentFromEnd, Worked, Takes, Tried}
use Rattle.wh_crew.proofs.Places.{drop_head, drop_none}

keeps_push : {A : Type 0} (x : A) (xs ys : List A) → IsSublist xs ys → IsSublist (xs ++ x ∷ []) (ys ++ x ∷ [])
keeps_push x _ _ nothing = keeps x [] [] nothing
keeps_push x _ _ (keeps z xs ys s) = keeps z (xs ++ x ∷ []) (ys ++ x ∷ []) (keeps_push x xs ys s)
keeps_push x _ _ (skips z xs ys s) = skips z (xs ++ x ∷ []) (ys ++ x ∷ []) (keeps_push x xs ys s)

skips_push : {A : Type 0} (y : A) (xs ys : List A) → IsSublist xs ys → IsSublist xs (ys ++ y ∷ [])
skips_push y _ _ nothing = skips y [] [] nothing
skips_push y _ _ (keeps z xs ys s) = keeps z xs (ys ++ y ∷ []) (skips_push y xs ys s)
skips_push y _ _ (skips z xs ys s) = skips z xs (ys ++ y ∷ []) (skips_push y xs ys s)

told_push : (xs : List (ℕ × Entry)) (x : ℕ × Entry) → spares_told (xs ++ x ∷ []) ≡ spares_told xs ++ told_by x.1.event
told_push [] x = append-nil (told_by x.1.event)
told_push (y ∷ xs) x = ap (λ l. told_by y.1.event ++ l) (told_push xs x) ∙ sym (append_assoc (told_by y.1.event) (spares_told xs) (told_by x.1.event))

-- this many planners were lent, and those that are left are the rest
pub record Lending {X : Type 0} (fits : X → Floor → Bool) (count : X → ℕ) (grid : Floor) (spares : List X) (told : List Spare) (left : List X) : Type 0 where
  pub lent : LentFromEnd fits count grid spares told
  pub rest : reverse left ≡ drop (length told) (reverse spares)

one_lent : {X : Type 0} (fits : X → Floor → Bool) (count : X → ℕ) (grid : Floor) (spares : List X) (told : List Spare) (left : List X) (t : Spare) (rest : List X) (spare : Option X)
    → Lending fits count grid spares told left → left ≡ rest ++ option_to_list spare → (spare ≡ None → length left ≡ 0) → TellsSpare fits count grid spare t → Lending fits count grid spares (told ++ t ∷ []) rest
one_lent {X} fits count grid spares told left t rest (Some p) l taken none tells =
    let k = length told in
    let all = reverse spares in
    let head : p ∷ reverse rest ≡ drop k all = sym (ap reverse taken ∙ reverse-append rest (p ∷ [])) ∙ l.rest in
    let at = drop_head all k p (reverse rest) head in
    record {
      lent = AllAt_push (λ i s. TellsSpare fits count grid (slice_get all i) s) told t l.lent (subst (λ (o : Option X). TellsSpare fits count grid o t) (sym at.0) tells);
      rest = at.1 ∙ ap (λ n. drop n all) (sym (length_push told t));
    }
one_lent {X} fits count grid spares told left t rest None l taken none tells =
    let k = length told in
    let all = reverse spares in
    let empty : left ≡ [] = nil_from_length left (none refl) in
    let rest_empty : rest ≡ [] = sym (append-nil rest) ∙ sym taken ∙ empty in
    let at = drop_none all k (sym (ap reverse empty) ∙ l.rest) in
    record {
      lent = AllAt_push (λ i s. TellsSpare fits count grid (slice_get all i) s) told t l.lent (subst (λ (o : Option X). TellsSpare fits count grid o t) (sym at.0) tells);
      rest = ap reverse rest_empty ∙ at.1 ∙ ap (λ n. drop n all) (sym (length_push told t));
    }

none_lent : {X : Type 0} (fits : X → Floor → Bool) (count : X → ℕ) (grid : Floor) (spares : List X) (told : List Spare) (left rest : List X) → Lending fits count grid spares told left → rest ≡ left → Lending fits count grid spares (told ++ []) rest
none_lent fits count grid spares told left rest l same = subst (λ (s : List Spare). Lending fits count grid spares s rest) (sym (append-nil told)) (subst (λ r. Lending fits count grid spares told r) (sym same) l)

lends_more : {X : Type 0} (fits : X → Floor → Bool) (count : X → ℕ) (grid : Floor) (spares : List X) (told : List Spare) (left : List X) (e : Event) (rest : List X) → Lending fits count grid spares told left → Takes fits count grid e left rest → Lending fits count grid spares (told ++ told_by e) rest
lends_more fits count grid spares told left (Event.Replace agent t) rest l takes = one_lent fits count grid spares told left t rest takes.spare l takes.taken takes.none_left takes.tells
lends_more fits count grid spares told left (Event.Submit client stops) rest l takes = none_lent fits count grid spares told left rest l takes
lends_more fits count grid spares told left (Event.Request agent) rest l takes = none_lent fits count grid spares told left rest l takes
lends_more fits count grid spares told left Event.Tick rest l takes = none_lent fits count grid spares told left rest l takes
lends_more fits count grid spares told left Event.Close rest l takes = none_lent fits count grid spares told left rest l takes

-- the command of what was asked by a command
pub command_back : (command : Command) (told : Spare) → command_of (event_of command told) ≡ command
command_back (Command.Submit client stops) told = refl
command_back (Command.Token agent) told = refl
command_back Command.Tick told = refl
command_back (Command.Replace agent) told = refl
command_back Command.Close told = refl

-- what holds between two calls of a worker
pub record Working {X : Type 0} (fits : X → Floor → Bool) (count : X → ℕ) (grid : Floor) (cells : ℕ) (commands : List Command) (spares : List X) (had has : Received) (missed : Missed) (left : List X) : Type 0 where
  pub worked : Worked fits count grid cells commands spares had has missed
  pub rest : reverse left ≡ drop (length (spares_told worked.received)) (reverse spares)

-- a worker that has done nothing
pub working_nothing : {X : Type 0} (fits : X → Floor → Bool) (count : X → ℕ) (grid : Floor) (cells : ℕ) (spares : List X) (p : Received) → Working fits count grid cells [] spares p p (record { full = 0; memory = 0; other = 0 }) spares
working_nothing fits count grid cells spares p = record {
  worked = record { caller_is = refl; received = []; goes_on = sym (append-nil p.list); in_order = nothing; all_counted = refl; lent = λ i t at. absurd (cc); known = prefix_self p.known; filled = λ some. absurd (omega (arith, some)) };
  rest = refl;
}

-- one call more was missed, for whatever reason
missed_more : (missed : Missed) (fault : DeskFault) → all_missed (counted missed (Some fault)) ≡ all_missed missed + 1
missed_more missed DeskFault.Full = omega arith
missed_more missed DeskFault.NoMemory = omega arith
missed_more missed DeskFault.Stale = omega arith
missed_more missed DeskFault.CellTaken = omega arith

-- who missed a call since the journal was full knows of a full journal
still_filled : (cells : ℕ) (missed : Missed) (fault : DeskFault) (had has : Received) → Refuses cells had fault has → (0 < missed.full → cells ≤ length had.known) → 0 < (counted missed (Some fault)).full → cells ≤ length has.known
still_filled cells missed DeskFault.Full had has r before some = omega (arith, r.is_full)
still_filled cells missed DeskFault.NoMemory had has r before some = omega (arith, before some, ap (λ (p : Received). length p.known) r)
still_filled cells missed DeskFault.Stale had has r before some = omega (arith, before some, ap (λ (p : Received). length p.known) r)
still_filled cells missed DeskFault.CellTaken had has r before some = omega (arith, before some, ap (λ (p : Received). length p.known) r)

-- one more call
pub working_more : {X : Type 0} (fits : X → Floor → Bool) (count : X → ℕ) (grid : Floor) (cells : ℕ) (spares : List X) (commands : List Command) (had has : Received) (missed : Missed) (left : List X) (command : Command) (why : Option DeskFault) (now : Received) (rest : List X)
    → Working fits count grid cells commands spares had has missed left → Tried fits count grid cells command has left why now rest
    → Working fits count grid cells (commands ++ command ∷ []) spares had now (counted missed why) rest
working_more fits count grid cells spares commands had has missed left command None now rest w t =
    let x = t.0 in
    let before = w.worked.received in
    let asked : commands_of (before ++ x ∷ []) ≡ commands_of before ++ command ∷ [] = map_push (λ (y : ℕ × Entry). command_of y.1.event) before x ∙ ap (λ (e : Command). commands_of before ++ e ∷ []) t.1 in
    let lending = lends_more fits count grid spares (spares_told before) left x.1.event rest (record { lent = w.worked.lent; rest = w.rest }) t.4 in
    let told = told_push before x in
    record {
      worked = record {
        caller_is = t.2 ∙ w.worked.caller_is;
        received = before ++ x ∷ [];
        goes_on = t.3 ∙ ap (λ l. l ++ x ∷ []) w.worked.goes_on ∙ append_assoc had.list before (x ∷ []);
        in_order = subst (λ (l : List Command). IsSublist l (commands ++ command ∷ [])) (sym asked) (keeps_push command (commands_of before) commands w.worked.in_order);
        all_counted = omega (arith, length_push before x, length_push commands command, w.worked.all_counted);
        lent = subst (λ (l : List Spare). LentFromEnd fits count grid spares l) (sym told) lending.lent;
        known = prefix_trans had.known has.known now.known w.worked.known t.5;
        filled = λ some. omega (arith, w.worked.filled some, prefix_length has.known now.known t.5);
      };
      rest = lending.rest ∙ ap (λ (l : List Spare). drop (length l) (reverse spares)) (sym told);
    }
working_more fits count grid cells spares commands had has missed left command (Some fault) now rest w t =
    let keeps = refused_keeps cells has fault now t.0 in
    record {
      worked = record {
        caller_is = keeps.0 ∙ w.worked.caller_is;
        received = w.worked.received;
        goes_on = keeps.1 ∙ w.worked.goes_on;
        in_order = skips_push command (commands_of w.worked.received) commands w.worked.in_order;
        all_counted = omega (arith, length_push commands command, w.worked.all_counted, missed_more missed fault);
        lent = w.worked.lent;
        known = prefix_trans had.known has.known now.known w.worked.known keeps.2;
        filled = still_filled cells missed fault has now t.0 w.worked.filled;
      };
      rest = ap reverse t.1 ∙ w.rest;
    }
