-- Lines of a front: what is read is so written, and what is so written is read.
use Rattle.std.proofs.Common.{◌≡◌, ℕ, List, [], ◌∷◌, Option, Some, Result, Ok, Err, codes, refl, sym, ap, ◌∙◌, subst, arith}
use Rattle.std.specs.Prelude.{IfOk}
use Rattle.std.specs.List.{AllByRecursion}
use Rattle.wh_text.specs.Lines.{IsLine}
use Rattle.wh_words.specs.Words.{IsPlain, words_of, line_of}
use Rattle.wh_words.proofs.Cutting.{joined, split, line_is_line}
use Rattle.wh_log.specs.Reading.{◌>>=◌, literal_at, at_end}
use Rattle.wh_log.proofs.Steps.{bind_some, some_is, by_name, literal_found, end_found}
use Rattle.wh_front.specs.declared.form_fault.FormFault.{FormFault}
use Rattle.wh_front.specs.declared.line.Line.{Line}
use Rattle.wh_front.specs.declared.line.Line.TheVariants as lines
use Rattle.wh_front.specs.Spelling.{line_words, front_line}
use Rattle.wh_front.specs.Ranges.{LineFits}
use Rattle.wh_front.specs.Reading.{Gives, before_of, rules_of, counts_of, agents_of, seat_of}
use Rattle.wh_front.specs.ReadTasks.{tasks_of, submission_of, title_of, line_by, line_at}
use Rattle.wh_front.proofs.WordLaws.{after, counts_found, counts_again, counts_plain, small_plain}
use Rattle.wh_front.proofs.PartLaws.{before_found, before_again, before_plain, rules_found, rules_again, rules_plain, state_found, state_again, state_plain, agents_found, agents_again, seat_found, seat_again, seat_plain}
use Rattle.wh_front.proofs.TaskLaws.{tasks_found, tasks_again, submission_found, submission_again, submission_plain}

abbrev IsRow : List (List ℕ) → Line → Type 0
IsRow words line = (words ≡ line_words line) × LineFits line

-- a line whose words behind the name tell a value
told : {A : Type 0} (name : List ℕ) (make : A → Line) (read : Option A) (words : List (List ℕ)) (y : Line)
    → ((x : A) → read ≡ Some x → IsRow (name ∷ words) (make x)) → (read >>= λ x. Some (make x)) ≡ Some y → IsRow (name ∷ words) y
told name make read words y found e =
    let a = bind_some read (λ x. Some (make x)) y e in
    subst (IsRow (name ∷ words)) (some_is (make a.0) y a.2) (found a.0 a.1)

title_found : (words : List (List ℕ)) (y : Line) → title_of words ≡ Some y → IsRow (codes "wlog" ∷ words) y
unfolding title_of
title_found words y e =
    let a = bind_some (literal_at (codes "3") words) (λ rest. at_end rest lines.Title) y e in
    let d = end_found a.0 lines.Title y a.2 in
    subst (IsRow (codes "wlog" ∷ words)) d.1 (after (codes "wlog") words _ (literal_found (codes "3") words a.0 a.1 ∙ after (codes "3") a.0 [] d.0), tt)

begin_found : (words : List (List ℕ)) (y : Line) → at_end words lines.Begin ≡ Some y → IsRow (codes "begin" ∷ words) y
begin_found words y e =
    let d = end_found words lines.Begin y e in
    subst (IsRow (codes "begin" ∷ words)) d.1 (after (codes "begin") words [] d.0, tt)

row_found : (words : List (List ℕ)) (y : Line) → line_at words ≡ Some y → IsRow words y
unfolding line_at line_by
row_found [] y e = absurd cc
row_found (name ∷ words) y e =
    let P : List ℕ → Type 0 = λ n. IsRow (n ∷ words) y in
    by_name P name (codes "task") _ _ y e (told (codes "task") (λ x. lines.Task x) (submission_of words) words y (λ x is. let f = submission_found words x is in (after (codes "task") words _ f.0, f.1))) (λ e.
    by_name P name (codes "agent") _ _ y e (told (codes "agent") (λ x. lines.Agent x) (seat_of words) words y (λ x is. let f = seat_found words x is in (after (codes "agent") words _ f.0, f.1))) (λ e.
    by_name P name (codes "wlog") _ _ y e (title_found words y) (λ e.
    by_name P name (codes "after") _ _ y e (told (codes "after") (λ x. lines.Before x) (before_of words) words y (λ x is. let f = before_found words x is in (after (codes "after") words _ f.0, f.1))) (λ e.
    by_name P name (codes "rules") _ _ y e (told (codes "rules") (λ x. lines.Rules x) (rules_of words) words y (λ x is. let f = rules_found words x is in (after (codes "rules") words _ f.0, (f.1, f.2)))) (λ e.
    by_name P name (codes "state") _ _ y e (state_found words y) (λ e.
    by_name P name (codes "entries") _ _ y e (told (codes "entries") (λ x. lines.Entries x) (counts_of 0 words) words y (λ x is. let f = counts_found words x is in (after (codes "entries") words _ f.0, f.1))) (λ e.
    by_name P name (codes "agents") _ _ y e (told (codes "agents") (λ x. lines.Agents x) (agents_of words) words y (λ x is. let f = agents_found words x is in (after (codes "agents") words _ f.0, f.1))) (λ e.
    by_name P name (codes "tasks") _ _ y e (told (codes "tasks") (λ x. lines.Tasks x) (tasks_of words) words y (λ x is. let f = tasks_found words x is in (after (codes "tasks") words _ f.0, f.1))) (λ e.
    by_name P name (codes "begin") _ _ y e (begin_found words y) (λ e. absurd cc))))))))))

row_again : (line : Line) → LineFits line → line_at (line_words line) ≡ Some line
unfolding line_at line_by title_of
row_again lines.Title h = refl
row_again (lines.Before before) h = rw (before_again before h) refl
row_again (lines.Rules rules) h = rw (rules_again rules h.0 h.1) refl
row_again (lines.State clock closed kind) h = state_again clock closed kind h
row_again (lines.Entries counts) h = rw (counts_again counts h) refl
row_again (lines.Agents count) h = rw (agents_again count h) refl
row_again (lines.Agent seat) h = rw (seat_again seat h) refl
row_again (lines.Tasks count) h = rw (tasks_again count h) refl
row_again (lines.Task submission) h = rw (submission_again submission h) refl
row_again lines.Begin h = refl

row_plain : (line : Line) → LineFits line → AllByRecursion IsPlain (line_words line)
row_plain lines.Title h = (refl, (refl, tt))
row_plain (lines.Before before) h = (refl, before_plain before h)
row_plain (lines.Rules rules) h = (refl, rules_plain rules h.0)
row_plain (lines.State clock closed kind) h = (refl, state_plain clock closed kind h)
row_plain (lines.Entries counts) h = (refl, counts_plain counts h.0)
row_plain (lines.Agents count) h = (refl, (small_plain count (omega (arith, h.1)), tt))
row_plain (lines.Agent seat) h = (refl, seat_plain seat h)
row_plain (lines.Tasks count) h = (refl, (small_plain count (omega (arith, h)), tt))
row_plain (lines.Task submission) h = (refl, submission_plain submission h)
row_plain lines.Begin h = (refl, tt)

some_words : (line : Line) → (name : List ℕ) × (words : List (List ℕ)) × (line_words line ≡ name ∷ words)
some_words lines.Title = (_, _, refl)
some_words (lines.Before before) = (_, _, refl)
some_words (lines.Rules rules) = (_, _, refl)
some_words (lines.State clock closed kind) = (_, _, refl)
some_words (lines.Entries counts) = (_, _, refl)
some_words (lines.Agents count) = (_, _, refl)
some_words (lines.Agent seat) = (_, _, refl)
some_words (lines.Tasks count) = (_, _, refl)
some_words (lines.Task submission) = (_, _, refl)
some_words lines.Begin = (_, _, refl)

-- ---- their texts
line_again : (line : Line) → LineFits line → line_at (words_of (front_line line)) ≡ Some line
line_again line h = ap line_at (go (line_words line) (some_words line) (row_plain line h)) ∙ row_again line h
  where
    go : (all : List (List ℕ)) → ((name : List ℕ) × (words : List (List ℕ)) × (all ≡ name ∷ words)) → AllByRecursion IsPlain all → words_of (line_of all) ≡ all
    go [] named plain = absurd (let e : [] ≡ named.0 ∷ named.1 = named.2 in cc)
    go (name ∷ words) named plain = split (name ∷ words) (omega arith) plain

pub row_is_line : (line : Line) → LineFits line → IsLine (front_line line)
row_is_line line h = line_is_line (line_words line) (row_plain line h)

pub one_row : (a b : Line) → LineFits a → LineFits b → front_line a ≡ front_line b → a ≡ b
one_row a b h k e = some_is a b (sym (line_again a h) ∙ ap (λ (t : List ℕ). line_at (words_of t)) e ∙ line_again b k)

-- ---- what a reader of lines returned
pub result_found : (line : List ℕ) (result : Result Line FormFault) → Gives (λ x. x) result (line_at (words_of line)) → IfOk result (λ told. (line ≡ front_line told) × LineFits told)
result_found line (Ok told) h = let f = row_found (words_of line) told h in (sym (joined line) ∙ ap line_of f.0, f.1)
result_found line (Err e) h = tt

pub result_only : (line : List ℕ) (result : Result Line FormFault) (told : Line) → Gives (λ x. x) result (line_at (words_of line)) → LineFits told → line ≡ front_line told → Gives (λ x. x) result (Some told)
result_only line result told h fits is = subst (λ (read : Option Line). Gives (λ x. x) result read) (ap (λ (l : List ℕ). line_at (words_of l)) is ∙ line_again told fits) h
