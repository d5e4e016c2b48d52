-- what is known of a log that was recovered
use Rattle.std.proofs.Common.{◌≡◌, ◌⊎◌, ℕ, List, [], ◌∷◌, ◌++◌, map, length, refl, sym, ap, ◌∙◌, subst, inl, inr}
use Rattle.std.specs.Prelude.{Option, Some, None}
use Rattle.std.specs.List.{AllByRecursion}
use Rattle.std.proofs.lemmas.List.{length-map}
use Rattle.wh_points.specs.Points.{Site}
use Rattle.wh_words.specs.Lines.{text_of}
use Rattle.wh_core.specs.States.{State}
use Rattle.wh_core.specs.Steps.{Run}
use Rattle.wh_core.specs.Laws.{IsBeginning}
use Rattle.wh_tasks.specs.declared.task.Task.{Task}
use Rattle.wh_event.specs.declared.entry.Entry.{Entry}
use Rattle.wh_log.specs.Spelling.{entry_line}
use Rattle.wh_log.specs.Logs.{head_line, start_line, most_stops, Fits as FitsLog}
use Rattle.wh_log.specs.declared.version.Version.TheVariants.{Two}
use Rattle.wh_log.specs.Torn.{IsRest}
use Rattle.wh_log.proofs.Fronts.{text-append}
use Rattle.wh_front.specs.declared.front.Count.{Count}
use Rattle.wh_front.specs.declared.front.Front.{Front}
use Rattle.wh_front.specs.declared.front.Submission.{Submission}
use Rattle.wh_front.specs.Ranges.{SubmissionFits}
use Rattle.wh_restore.specs.declared.restored.Head.{Head}
use Rattle.wh_restore.specs.SoundFronts.{state_told}
use Rattle.wh_resume.specs.Drafts.{Seen}
use Rattle.wh_resume.specs.Behind.{entries_told}
use Rattle.wh_resume.specs.Resuming.{TellsBook}
use Rattle.wh_resume.specs.declared.recovery.Preface.{Preface}
use Rattle.wh_resume.specs.declared.recovery.Resumed.{Resumed}
use Rattle.wh_snapshot.specs.Snapshots.{AreCallers, HaveCallers, IsSnapshot}
use Rattle.wh_snapshot.proofs.Callers.{callers_kept}
use Rattle.wh_handover.specs.Handing.{Told, Tells, HoldsFirst, HoldsLater, told_of, told_behind, number_behind}
use Rattle.wh_handover.specs.Prefaces.{number_had, callers_had, counts_had}

abbrev caller_of : Submission → ℕ
caller_of submission = submission.caller

abbrev task_of : Submission → Task
task_of submission = submission.task

pub named : (tasks : List Submission) → AllByRecursion SubmissionFits tasks → AreCallers (map caller_of tasks)
named [] fit = tt
named (s ∷ tasks) fit = (fit.0.0, named tasks fit.1)

-- what a recovered log tells, in the words of a hand-over
pub record Known (site : Site) (text : List ℕ) (bytes : ℕ) (book : Seen) (preface : Option Preface) : Type 0 where
  pub told : Told
  pub holds : HoldsFirst site text told ⊎ HoldsLater site text told
  pub opening_is : book.opening ≡ told.opening
  pub entries_are : book.history ≡ told.entries
  pub callers_are : callers_had preface ≡ told.callers
  pub counts_are : counts_had preface ≡ told.counts
  pub number_is : number_had preface ≡ told.number
  pub rest : List ℕ
  pub text_is : text ≡ (told.head ++ entries_told book.history) ++ rest
  pub bytes_are : bytes ≡ length (told.head ++ entries_told book.history)
  pub callers_fit : AreCallers (callers_had preface)
  pub submitted : length (callers_had preface) ≡ length book.opening.tasks
  pub entries_named : HaveCallers book.history

abbrev pub known : (site : Site) (text : List ℕ) (r : Resumed) (preface : Option Preface) → TellsBook site text r preface → Known site text r.bytes r.book preface
known site text r None (content, holds, goes) =
    let told = told_of site r.version content in
    let head : List (List ℕ) = head_line r.version ∷ start_line content.clock content.slots ∷ [] in
    let whole : text_of (head_line r.version ∷ start_line content.clock content.slots ∷ map entry_line content.entries) ≡ told.head ++ entries_told r.book.history =
    text-append head (map entry_line content.entries) ∙ ap (λ (es : List Entry). told.head ++ entries_told es) (sym goes.history_is) in
    record {
      told = told;
      holds = inl (record { version = r.version; content = content; is_ended = r.is_ended; bytes = r.bytes; holds = holds; is = refl });
      opening_is = goes.opening_is;
      entries_are = goes.history_is;
      callers_are = refl;
      counts_are = refl;
      number_is = refl;
      rest = holds.rest;
      text_is = holds.text_is ∙ ap (λ (t : List ℕ). t ++ holds.rest) whole;
      bytes_are = holds.bytes_are ∙ ap length whole;
      callers_fit = tt;
      submitted = ap (λ (s : State). length s.tasks) (sym goes.opening_is);
      entries_named = subst HaveCallers (sym goes.history_is) (callers_kept (most_stops r.version) content.entries holds.fits.entries);
    }
known site text r (Some preface) (version, g) =
    let front = g.front in
    let told = told_behind front r.book.history in
    let is = g.preface_is in
    let fits : FitsLog Two (record { clock = (state_told front).clock; slots = (state_told front).slots; entries = r.book.history }) =
    subst (λ (s : State). FitsLog Two (record { clock = s.clock; slots = s.slots; entries = r.book.history })) g.opening_is g.fits in
    record {
      told = told;
      holds = inr (record {
        front = front;
        entries = r.book.history;
        is_ended = r.is_ended;
        rest = g.rest;
        is_front = g.is_front;
        fits = fits;
        text_is = g.text_is;
        rest_is = subst (λ (s : State). IsRest r.is_ended (record { clock = s.clock; slots = s.slots; entries = r.book.history }) g.rest) g.opening_is g.rest_is;
        is = refl;
      });
      opening_is = g.opening_is;
      entries_are = refl;
      callers_are = is.callers_are;
      counts_are = ap (λ (h : Head). h.counts) is.head_is;
      number_is = ap (λ (h : Head). number_behind h.before) is.head_is;
      rest = g.rest;
      text_is = g.text_is;
      bytes_are = g.bytes_are;
      callers_fit = subst AreCallers (sym is.callers_are) (named front.tasks g.is_front.fits.tasks);
      submitted = ap (λ (ns : List ℕ). length ns) is.callers_are ∙ length-map front.tasks caller_of ∙ sym (length-map front.tasks task_of) ∙ ap (λ (s : State). length s.tasks) (sym g.opening_is);
      entries_named = callers_kept (most_stops Two) r.book.history g.fits.entries;
    }

-- its book is over the site
pub site_told : (site : Site) (text : List ℕ) (r : Resumed) (preface : Option Preface) → TellsBook site text r preface → r.book.site ≡ site
site_told site text r None (content, holds, goes) = goes.site_is
site_told site text r (Some preface) (version, g) = g.site_is

pub nothing_before : (xs ys : List ℕ) → [] ≡ xs ++ ys → xs ≡ []
nothing_before [] ys is = refl
nothing_before (x ∷ xs) ys is = cc

-- with what the book keeps it is a log of a run
abbrev pub tells : (site : Site) (text : List ℕ) (bytes : ℕ) (book : Seen) (preface : Option Preface) (k : Known site text bytes book preface) → IsBeginning site book.opening →
    Run site book.opening book.history book.state → Tells site text k.told
tells site text bytes book preface k begins run = record {
  holds = k.holds;
  begins = subst (λ (s : State). IsBeginning site s) k.opening_is begins;
  state = book.state;
  run = subst (λ (s : State). Run site s k.told.entries book.state) k.opening_is (subst (λ (es : List Entry). Run site book.opening es book.state) k.entries_are run);
}

-- a snapshot of a book is one of another with the same state and history
pub snapshot_as : (callers others : List ℕ) (counts more : List Count) (a b : Seen) (front : Front) → callers ≡ others → counts ≡ more → a.state ≡ b.state → a.history ≡ b.history →
    IsSnapshot callers counts a front → IsSnapshot others more b front
snapshot_as callers others counts more a b front same also state history is =
    let there : IsSnapshot others more a front = subst (λ (cs : List Count). IsSnapshot others cs a front) also (subst (λ (ns : List ℕ). IsSnapshot ns counts a front) same is) in
    let P : State → List Entry → Type 0 = λ s es. IsSnapshot others more (record { site = a.site; opening = a.opening; state = s; history = es; entry_room = a.entry_room; task_room = a.task_room }) front in
    let here : P b.state b.history = subst (λ (s : State). P s b.history) state (subst (λ (es : List Entry). P a.state es) history there) in
    record { clock = here.clock; closed = here.closed; paths = here.paths; slots = here.slots; tasks = here.tasks; callers = here.callers; counts = here.counts }
