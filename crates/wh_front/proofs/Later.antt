-- What later lines leave as it is, and that a text which begins with a front goes on with its lines.
use Rattle.std.proofs.Common.{◌≡◌, ℕ, ◌≤◌, Bool, true, false, cond, List, [], ◌∷◌, ◌++◌, length, Some, refl, sym, ap, ◌∙◌, subst, arith, append_assoc}
use Rattle.std.proofs.Math.Dec.{ltb as nat_lt}
use Rattle.std.proofs.lemmas.List.{append-nil}
use Rattle.std.specs.List.{AllByRecursion}
use Rattle.wh_log.proofs.LineLaws.{one_line}
use Rattle.wh_front.specs.declared.front.Front.{Front}
use Rattle.wh_front.specs.declared.front.Seat.{Seat}
use Rattle.wh_front.specs.declared.front.Submission.{Submission}
use Rattle.wh_front.specs.declared.line.Line.{Line}
use Rattle.wh_front.specs.declared.line.Line.TheVariants as lines
use Rattle.wh_front.specs.declared.stage.Stage.{Stage}
use Rattle.wh_front.specs.declared.stage.Stage.TheVariants as stages
use Rattle.wh_front.specs.Spelling.{front_line}
use Rattle.wh_front.specs.Ranges.{LineFits}
use Rattle.wh_front.specs.Fronts.{front_lines, front_text, Fits}
use Rattle.wh_front.specs.Drafts.{Draft, nothing, expects, behind_seat, behind_task, put, run}
use Rattle.wh_front.proofs.Lines.{lines_text}
use Rattle.wh_front.proofs.RowLaws.{row_is_line, one_row}
use Rattle.wh_front.proofs.DraftLaws.{draft}
use Rattle.wh_front.proofs.Running.{run_step, ended, run_front, front_fit}
use Rattle.wh_front.proofs.Readings.{one_cons}

-- the stages, in their order
abbrev pub rank : Stage → ℕ
rank stages.Title = 0
rank stages.Before = 1
rank stages.Rules = 2
rank stages.State = 3
rank stages.Entries = 4
rank stages.Agents = 5
rank stages.Seats = 6
rank stages.Tasks = 7
rank stages.Submissions = 8
rank stages.Begin = 9
rank stages.Done = 10

-- what later lines leave as it is
pub record Keeps (d r : Draft) : Type 0 where
  pub rises : rank d.stage ≤ rank r.stage
  pub rules : 3 ≤ rank d.stage → r.front.rules ≡ d.front.rules
  pub clock : 4 ≤ rank d.stage → r.front.clock ≡ d.front.clock
  pub agents : 6 ≤ rank d.stage → r.agents ≡ d.agents
  pub seated : 7 ≤ rank d.stage → r.front.seats ≡ d.front.seats
  pub seats : (more : List Seat) × (r.front.seats ≡ d.front.seats ++ more)
  pub tasks : (more : List Submission) × (r.front.tasks ≡ d.front.tasks ++ more)

same : (d : Draft) → Keeps d d
same d = record { rises = omega arith; rules = λ _. refl; clock = λ _. refl; agents = λ _. refl; seated = λ _. refl; seats = ([], sym (append-nil d.front.seats)); tasks = ([], sym (append-nil d.front.tasks)) }

and_then : (a b c : Draft) → Keeps a b → Keeps b c → Keeps a c
and_then a b c p q = record {
  rises = omega (arith, p.rises, q.rises);
  rules = λ h. q.rules (omega (arith, h, p.rises)) ∙ p.rules h;
  clock = λ h. q.clock (omega (arith, h, p.rises)) ∙ p.clock h;
  agents = λ h. q.agents (omega (arith, h, p.rises)) ∙ p.agents h;
  seated = λ h. q.seated (omega (arith, h, p.rises)) ∙ p.seated h;
  seats = (p.seats.0 ++ q.seats.0, q.seats.1 ∙ ap (λ (ss : List Seat). ss ++ q.seats.0) p.seats.1 ∙ append_assoc a.front.seats p.seats.0 q.seats.0);
  tasks = (p.tasks.0 ++ q.tasks.0, q.tasks.1 ∙ ap (λ (ts : List Submission). ts ++ q.tasks.0) p.tasks.1 ∙ append_assoc a.front.tasks p.tasks.0 q.tasks.0);
}

seat_rank : (v : Bool) → 6 ≤ rank (cond v stages.Seats stages.Tasks)
seat_rank true = omega arith
seat_rank false = omega arith

pub task_rank : (v : Bool) → 8 ≤ rank (cond v stages.Submissions stages.Begin)
task_rank true = omega arith
task_rank false = omega arith

early : (f : Front) (n m : ℕ) (a b : Stage) (g : Front) (k : ℕ) → rank a ≤ rank b → (3 ≤ rank a → g.rules ≡ f.rules) → (4 ≤ rank a → g.clock ≡ f.clock) → (6 ≤ rank a → k ≡ n) → g.seats ≡ f.seats → g.tasks ≡ f.tasks → Keeps (draft f n m a) (draft g k m b)
early f n m a b g k rises rules clock agents seats tasks = record { rises = rises; rules = rules; clock = clock; agents = agents; seated = λ _. seats; seats = ([], seats ∙ sym (append-nil f.seats)); tasks = ([], tasks ∙ sym (append-nil f.tasks)) }

one : (f : Front) (n m : ℕ) (stage : Stage) (line : Line) → expects stage line ≡ true → Keeps (draft f n m stage) (put (draft f n m stage) line)
one f n m stages.Title lines.Title may = early f n m stages.Title stages.Before f n (omega arith) (λ _. refl) (λ _. refl) (λ _. refl) refl refl
one f n m stages.Before (lines.Before before) may = early f n m stages.Before stages.Rules (record f { before = before }) n (omega arith) (λ _. refl) (λ _. refl) (λ _. refl) refl refl
one f n m stages.Rules (lines.Rules rules) may = early f n m stages.Rules stages.State (record f { rules = rules }) n (omega arith) (λ h. absurd (omega (arith, h))) (λ _. refl) (λ _. refl) refl refl
one f n m stages.Rules (lines.State clock closed kind) may = early f n m stages.Rules stages.Entries (record f { clock = clock; closed = closed; kind = kind }) n (omega arith) (λ _. refl) (λ h. absurd (omega (arith, h))) (λ _. refl) refl refl
one f n m stages.State (lines.State clock closed kind) may = early f n m stages.State stages.Entries (record f { clock = clock; closed = closed; kind = kind }) n (omega arith) (λ _. refl) (λ h. absurd (omega (arith, h))) (λ _. refl) refl refl
one f n m stages.Entries (lines.Entries counts) may = early f n m stages.Entries stages.Agents (record f { counts = counts }) n (omega arith) (λ _. refl) (λ _. refl) (λ _. refl) refl refl
one f n m stages.Agents (lines.Agents count) may = early f n m stages.Agents stages.Seats f count (omega arith) (λ _. refl) (λ _. refl) (λ h. absurd (omega (arith, h))) refl refl
one f n m stages.Seats (lines.Agent seat) may = record {
  rises = seat_rank (nat_lt (length (f.seats ++ seat ∷ [])) n);
  rules = λ _. refl;
  clock = λ _. refl;
  agents = λ _. refl;
  seated = λ h. absurd (omega (arith, h));
  seats = (seat ∷ [], refl);
  tasks = ([], sym (append-nil f.tasks));
}
one f n m stages.Tasks (lines.Tasks count) may =
    let high = task_rank (nat_lt 0 count) in
    record {
      rises = omega (arith, high);
      rules = λ _. refl;
      clock = λ _. refl;
      agents = λ _. refl;
      seated = λ _. refl;
      seats = ([], sym (append-nil f.seats));
      tasks = ([], sym (append-nil f.tasks));
    }
one f n m stages.Submissions (lines.Task task) may = record {
  rises = task_rank (nat_lt (length (f.tasks ++ task ∷ [])) m);
  rules = λ _. refl;
  clock = λ _. refl;
  agents = λ _. refl;
  seated = λ _. refl;
  seats = ([], sym (append-nil f.seats));
  tasks = (task ∷ [], refl);
}
one f n m stages.Begin lines.Begin may = early f n m stages.Begin stages.Done f n (omega arith) (λ _. refl) (λ _. refl) (λ _. refl) refl refl
one f n m stage line may = absurd cc

pub keeps_on : (d : Draft) (lines : List Line) (r : Draft) → run d lines ≡ Some r → Keeps d r
keeps_on d [] r e = let here : d ≡ r = cc in subst (λ (x : Draft). Keeps d x) here (same d)
keeps_on d (line ∷ lines) r e =
    let s = run_step d line lines r e in
    and_then d (put d line) r (one d.front d.agents d.tasks d.stage line s.0) (keeps_on (put d line) lines r s.1)

-- ---- lines at the beginning of a front
-- lines that stand first in a text stand first among those of a front that stands there too
pub leads : (d : Draft) (xs ys : List Line) (a b : Draft) (x y : List ℕ) → AllByRecursion LineFits xs → AllByRecursion LineFits ys → run d xs ≡ Some a → run d ys ≡ Some b
    → b.stage ≡ stages.Done → lines_text xs ++ x ≡ lines_text ys ++ y → (zs : List Line) × (ys ≡ xs ++ zs) × (run a zs ≡ Some b)
leads d [] ys a b x y h k p q done e = let here : d ≡ a = cc in (ys, refl, subst (λ (s : Draft). run s ys ≡ Some b) here q)
leads d (l ∷ xs) [] a b x y h k p q done e = let here : d ≡ b = cc in absurd (ended d l xs a (ap (λ (s : Draft). s.stage) here ∙ done) p)
leads d (l ∷ xs) (m ∷ ys) a b x y h k p q done e =
    let cut = one_line (front_line l) (front_line m) (lines_text xs ++ x) (lines_text ys ++ y) (row_is_line l h.0) (row_is_line m k.0) (sym (one_cons l xs x) ∙ e ∙ one_cons m ys y) in
    let alike : l ≡ m = one_row l m h.0 k.0 cut.0 in
    let next : run (put d l) ys ≡ Some b = subst (λ (o : Line). run (put d o) ys ≡ Some b) (sym alike) ((run_step d m ys b q).1) in
    let rest = leads (put d l) xs ys a b x y h.1 k.1 ((run_step d l xs a p).1) next done cut.1 in
    (rest.0, ap (λ (o : Line). o ∷ ys) (sym alike) ∙ ap (λ (os : List Line). l ∷ os) rest.1, rest.2)

-- the draft of a whole front
abbrev pub whole : Front → Draft
whole f = draft f (length f.seats) (length f.tasks) stages.Done

-- a front that begins with these lines keeps what they tell
pub front_keeps : (taken : List Line) (d : Draft) → run nothing taken ≡ Some d → AllByRecursion LineFits taken → (f : Front) (x y : List ℕ) → Fits f → lines_text taken ++ x ≡ front_text f ++ y → Keeps d (whole f)
front_keeps taken d ran fit f x y fits is =
    let l = leads nothing taken (front_lines f) d (whole f) x y fit (front_fit f fits) ran (run_front f fits) refl is in
    keeps_on d l.0 (whole f) l.2
