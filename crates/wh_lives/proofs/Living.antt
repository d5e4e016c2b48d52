-- What a session over a log file came to, as a life.
use Rattle.wh_book.proofs.Kept.{begun-opening}
use Rattle.std.proofs.Common.{◌≡◌, ◌<◌, ◌^◌, inl, inr, ℕ, Bool, false, List, [], ◌++◌, take, append_assoc, length, refl, sym, ap, ◌∙◌, subst, arith, append-nil, length-append, true≢false, Option, None, Some, Err}
use Rattle.std.specs.Prelude.{IfSome}
use Rattle.std.specs.Io.KnownBytes.{Appends, Keeps}
use Rattle.std.proofs.KnownBytes.{Appends-nil, Appends-trans, Consumes-nil}
use Rattle.wh_lines.specs.Input.{Input, Takes}
use Rattle.wh_lines.specs.Output.{WritesFront}
use Rattle.wh_lines.proofs.Written.{front_after, front_all}
use Rattle.wh_grid.specs.Grids.{Floor}
use Rattle.wh_points.specs.Points.{Site}
use Rattle.wh_event.specs.declared.entry.Entry.{Entry}
use Rattle.wh_core.specs.Laws.{IsBeginning}
use Rattle.wh_core.specs.States.{State, opened}
use Rattle.wh_core.specs.Steps.{Run}
use Rattle.std.specs.List.{sum_by}
use Rattle.wh_log.specs.Torn.{Holds}
use Rattle.wh_log.specs.declared.version.Version.{Version}
use Rattle.wh_log.specs.declared.version.Version.TheVariants.{Two}
use Rattle.wh_front.specs.declared.front.Count.{Count}
use Rattle.wh_front.specs.Fronts.{front_text}
use Rattle.wh_restore.specs.declared.restored.Head.{Head}
use Rattle.wh_restore.specs.Heads.{first_two_lines}
use Rattle.wh_resume.specs.declared.recovery.Preface.{Preface}
use Rattle.wh_continue.specs.Before.{Before}
use Rattle.wh_continue.specs.Renewing.{in_two}
use Rattle.wh_continue.proofs.Closing.{cut_behind, holds_in_two, two_cut}
use Rattle.wh_resume.specs.Drafts.{Seen}
use Rattle.wh_replay.specs.Answers.{text_of}
use Rattle.wh_replay.specs.declared.asker.Asker.{Asker}
use Rattle.wh_journal.specs.Journals.{Journaled, ReplaysJournaled, ServesLines, lines_for}
use Rattle.wh_journal.specs.Surviving.{told_by}
use Rattle.wh_journal.specs.declared.fault.JournaledFault.{JournaledFault}
use Rattle.wh_journal.proofs.Telling.{lines_join, two_lines}
use Rattle.wh_continue.specs.Delivering.{DeliversOver}
use Rattle.wh_continue.specs.Running.{EndsShort, IsBegunFrom, IsStartOf, RunsOn, StopsRun, closing, first_text, last_line, log_from, opening_lines}
use Rattle.wh_continue.specs.Starting.{StartsAt, StartsByFile, StartsIn, before_of}
use Rattle.wh_continue.specs.declared.continuing.ContinueFault.TheVariants as continued
use Rattle.wh_continue.specs.declared.running.KeepFault.{KeepFault}
use Rattle.wh_continue.specs.declared.running.KeepFault.TheVariants as keep
use Rattle.wh_continue.specs.declared.running.RunFault.{RunFault}
use Rattle.wh_continue.specs.declared.running.RunFault.TheVariants as ran
use Rattle.wh_continue.specs.declared.starting.Start.{Start}
use Rattle.wh_continue.proofs.Begun.{closing_front}
use Rattle.wh_lives.specs.Lives.{Deeds, IsSafe, Life, Lived, StandsBefore}
use Rattle.wh_lives.specs.Twice.{ended}
use Rattle.wh_lives.specs.declared.life.LifeFault.{LifeFault}
use Rattle.wh_lives.proofs.Runs.{IsRunOn, runs_on, serves_nothing, start_site}

-- ---- the file

appended : (text bytes : List ℕ) (holds : Option (List ℕ)) → Appends (Some text) holds bytes → holds ≡ Some (text ++ bytes)
appended text bytes None a = absurd a
appended text bytes (Some all) a = ap (λ (l : List ℕ). Some l) a

kept_so : (text : List ℕ) (holds : Option (List ℕ)) → Keeps (Some text) holds → holds ≡ Some text
kept_so text None k = absurd k
kept_so text (Some all) k = ap (λ (l : List ℕ). Some l) k

-- A journal is the log of the book, with which a run of the site goes on.
record IsLog (site : Site) (journal : Option (List ℕ)) (book : Seen) : Type 0 where
  head : List ℕ
  before : StandsBefore site book.opening head
  is : journal ≡ Some (head ++ lines_for book.history)

-- the log of a book that has grown
log_grown : (site : Site) (old new : Seen) (added : List Entry) (begun kept : Option (List ℕ)) → new.history ≡ old.history ++ added → new.opening ≡ old.opening → Appends begun kept (lines_for added)
    → IsLog site begun old → IsLog site kept new
log_grown site old new added begun kept history opening adds log =
    let grew : Appends (Some (log.head ++ lines_for old.history)) kept (lines_for added) = subst (λ (b : Option (List ℕ)). Appends b kept (lines_for added)) log.is adds in
    record {
      head = log.head;
      before = subst (λ (s : State). StandsBefore site s log.head) (sym opening) log.before;
      is = appended (log.head ++ lines_for old.history) (lines_for added) kept grew
          ∙ ap (λ (l : List ℕ). Some l)
          (append_assoc log.head (lines_for old.history) (lines_for added) ∙ ap (λ (l : List ℕ). log.head ++ l) (sym (lines_join old.history added) ∙ ap lines_for (sym history)));
    }

-- the log of the book stands in it, and all of that is synced
safe_whole : (site : Site) (book : Seen) (synced holds : Option (List ℕ)) → IsLog site holds book → synced ≡ holds → IsSafe site book [] synced holds
safe_whole site book synced holds log safe =
    let text = log.head ++ lines_for book.history in
    record {
      head = log.head;
      stands_before = log.before;
      kept = text;
      log = refl;
      safe = text;
      synced_is = safe ∙ log.is;
      no_less = omega arith;
      behind = inl (front_all (Some text) holds [] (subst (λ (h : Option (List ℕ)). Appends (Some text) h []) (sym log.is) (Appends-nil (Some text))));
    }

-- a front of the lines of later entries stands behind what was synced
safe_before : (site : Site) (book : Seen) (later : List Entry) (kept synced holds : Option (List ℕ)) → IsLog site kept book → Keeps kept synced → WritesFront kept holds (lines_for later) → IsSafe site book later synced holds
safe_before site book later kept synced holds log stays front =
    let text = log.head ++ lines_for book.history in
    record {
      head = log.head;
      stands_before = log.before;
      kept = text;
      log = refl;
      safe = text;
      synced_is = kept_so text synced (subst (λ (k : Option (List ℕ)). Keeps k synced) log.is stays);
      no_less = omega arith;
      behind = inl (subst (λ (k : Option (List ℕ)). WritesFront k holds (lines_for later)) log.is front);
    }

-- or of what ends the log, of which all may be synced
safe_ended : (site : Site) (book : Seen) (full synced holds : Option (List ℕ)) → IsLog site full book → Keeps full synced → WritesFront full holds (last_line (length book.history)) → IsSafe site book [] synced holds
safe_ended site book full synced holds log stays front =
    let text = log.head ++ lines_for book.history in
    record {
      head = log.head;
      stands_before = log.before;
      kept = text;
      log = refl;
      safe = text;
      synced_is = kept_so text synced (subst (λ (k : Option (List ℕ)). Keeps k synced) log.is stays);
      no_less = omega arith;
      behind = inr (refl, subst (λ (k : Option (List ℕ)). WritesFront k holds (last_line (length book.history))) log.is front);
    }

safe_over : (site : Site) (book : Seen) (closed : Bool) (full synced holds : Option (List ℕ)) → IsLog site full book → synced ≡ holds → Appends full holds (closing closed (length book.history)) → IsSafe site book [] synced holds
safe_over site book closed full synced holds log safe ends =
    let text = log.head ++ lines_for book.history in
    let ending = closing closed (length book.history) in
    let all : Appends (Some text) holds ending = subst (λ (k : Option (List ℕ)). Appends k holds ending) log.is ends in
    record {
      head = log.head;
      stands_before = log.before;
      kept = text;
      log = refl;
      safe = text ++ ending;
      synced_is = safe ∙ appended text ending holds all;
      no_less = omega (arith, length-append text ending);
      behind = inr (refl, closing_front closed (length book.history) (Some text) holds (front_all (Some text) holds ending all));
    }

-- ---- what a life goes on over

-- the log of what a start was found in
begun_log : (site : Site) (slots text : List ℕ) (preface : Option Preface) (version : Version) (book : Seen) (bytes : Option ℕ) → StartsAt site slots text preface version book bytes → (before_of preface).entries < 2 ^ 63
    → IsBeginning site book.opening → IsLog site (Some (log_from bytes version (opening_lines book) text)) book
begun_log site slots text preface version book None b few begins = record {
  head = opening_lines book;
  before = inl (begun-opening site book.opening 0 slots begins b.0.unbegun.opening_is, refl);
  is = ap (λ (l : List ℕ). Some l) (sym (append-nil (opening_lines book)) ∙ ap (λ (es : List Entry). opening_lines book ++ lines_for es) (sym b.0.unbegun.history_is));
}
begun_log site slots text None version book (Some n) g few begins =
    let held : Holds Two g.content g.is_ended (in_two version text) n = holds_in_two version g.content g.is_ended text n g.holds in
    let opens = begun-opening site book.opening g.content.clock g.content.slots begins g.goes_on.opening_is in
    record { head = first_two_lines book.opening.clock book.opening.slots; before = inl (opens, refl); is = ap (λ (l : List ℕ). Some l) (two_cut site g.content g.is_ended (in_two version text) n book held g.goes_on ∙ two_lines (told_by book)) }
begun_log site slots text (Some preface) version book (Some n) (two, (is_ended, g)) few begins = record {
  head = front_text g.front;
  before = inr (record {
    front = g.front;
    sound = g.is_front;
    text_is = refl;
    opening_is = g.opening_is;
    few = subst (λ (cs : List Count). sum_by (λ (count : Count). count.entries) cs < 2 ^ 63) (ap (λ (h : Head). h.counts) g.preface_is.head_is) few;
  });
  is = ap (λ (v : Version). Some (take n (in_two v text))) two ∙ ap (λ (l : List ℕ). Some l) (cut_behind site text n is_ended preface book g);
}

log_begun : (site : Site) (slots : List ℕ) (file begun : Option (List ℕ)) (start : Start) → StartsByFile site slots file start → IsBegunFrom start file begun → IsBeginning site start.book.opening
    → IfSome file (λ _. IsLog site begun start.book)
log_begun site slots None begun start s is begins = tt
log_begun site slots (Some held) begun start s is begins =
    let here : StartsAt site slots held start.preface start.version start.book start.bytes =
    subst (λ (t : List ℕ). StartsAt site slots t start.preface start.version start.book start.bytes) s.text_is s.starts.at in
    let log = begun_log site slots held start.preface start.version start.book start.bytes here (subst (λ (b : Before). b.entries < 2 ^ 63) s.starts.before_is s.starts.few) begins in
    subst (λ (j : Option (List ℕ)). IsLog site j start.book) (sym is) log

module _ {X : Type 0} (fits : X → Floor → Bool) (count : X → ℕ) (asker : Asker) (site : Site) (slots : List ℕ) (start : Start) (planners spares left : List X) (before after : Input) (had has file synced holds : Option (List ℕ))
    (starts : StartsByFile site slots file start) (sound : IsRunOn site start.book) where
  -- what a life did that came so far
  abbrev pub deeds : Seen → Seen → Deeds
  deeds known final = record { start = start; known = known; final = final }

  abbrev IsLife : Deeds → Type 0
  IsLife d = Life fits count asker site slots spares before after had has file synced holds d

  life : (known final : Seen) (held rest : List X) (answered unanswered unserved : List ℕ) (replies untold : List (List ℕ)) (added later : List Entry)
      → ServesLines fits count asker start.book spares known held answered replies added → WritesFront had has (first_text None start ++ text_of replies)
      → ServesLines fits count asker known held final rest unanswered untold later → Takes before after (answered ++ (unanswered ++ unserved))
      → IfSome file (λ _. IsSafe site known later synced holds) → IsLife (deeds known final)
  life known final held rest answered unanswered unserved replies untold added later serves told more takes safe =
      let first = runs_on fits count asker start.book known spares held answered replies added serves site sound in
      let whole = runs_on fits count asker known final held rest unanswered untold later more site first in
      record {
        starts = starts;
        answered = answered;
        replies = replies;
        added = added;
        held = held;
        serves = serves;
        told = told;
        unanswered = unanswered;
        untold = untold;
        later = later;
        rest = rest;
        serves_more = more;
        unserved = unserved;
        takes = takes;
        is_safe = safe;
        is_beginning = whole.is_beginning;
        run = whole.run;
      }

  -- no line was served
  idle : after ≡ before → WritesFront had has (first_text None start) → IfSome file (λ _. IsSafe site start.book [] synced holds) → IsLife (deeds start.book start.book)
  idle same told safe =
      life start.book start.book spares spares [] [] [] [] [] [] [] (serves_nothing fits count asker start.book spares)
      (subst (λ (t : List ℕ). WritesFront had has t) (sym (append-nil (first_text None start))) told) (serves_nothing fits count asker start.book spares)
      (subst (λ (i : Input). Takes before i []) (sym same) (Consumes-nil _)) safe

  uncounted : after ≡ before → WritesFront had has (first_text None start) → IsBegunFrom start file holds → synced ≡ holds → IsLife (deeds start.book start.book)
  uncounted same told log safe = idle same told (stays file (log_begun site slots file holds start starts log sound.is_beginning))
    where
      stays : (f : Option (List ℕ)) → IfSome f (λ _. IsLog site holds start.book) → IfSome f (λ _. IsSafe site start.book [] synced holds)
      stays None l = tt
      stays (Some text) l = safe_whole site start.book synced holds l safe

  -- a script was served until a fault
  module _ (counted begun : Option (List ℕ)) (counts : Appends had counted (first_text None start)) (begins : IfSome file (λ _. IsLog site begun start.book)) where
    stopped : (fault : JournaledFault) (new : Seen) (failed : Bool) → Journaled fits count asker fault before after start.book spares new left counted has begun failed synced holds → (d : Deeds) × IsLife d
    stopped fault new failed j = (
      deeds j.mid new,
      life j.mid new j.held left j.read j.more j.begun j.replies j.more_replies j.added j.later j.serves
          (front_after had counted has (first_text None start) (text_of j.replies) counts j.told) j.serves_more j.takes (stays file begins),
    )
      where
        stays : (f : Option (List ℕ)) → IfSome f (λ _. IsLog site begun start.book) → IfSome f (λ _. IsSafe site j.mid j.later synced holds)
        stays None l = tt
        stays (Some text) l =
            let log = log_grown site start.book j.mid j.added begun j.kept j.serves.added_are j.serves.output.opening j.stands l in
            safe_before site j.mid j.later j.kept synced holds log j.synced_is j.behind

    -- it was served to its end, and what then became of the file
    module _ (served new : Seen) (answered safe kept sure full : Option (List ℕ)) (r : ReplaysJournaled fits count asker before after start.book spares served left counted answered begun safe kept)
        (d : DeliversOver false asker served new answered has kept sure full) where
      same_book : new ≡ served
      same_book = d.delivers.0

      told_all : WritesFront had has (first_text None start ++ text_of r.replies)
      told_all =
          front_all had has (first_text None start ++ text_of r.replies)
          (Appends-trans had counted has (first_text None start) (text_of r.replies) counts
          (subst (λ (h : Option (List ℕ)). Appends counted h (text_of r.replies)) (sym d.delivers.2) r.told))

      served_log : IsLog site begun start.book → IsLog site full served
      served_log log =
          let first = log_grown site start.book served r.added begun kept r.serves.added_are r.serves.output.opening r.stands log in
          let same : Appends kept full [] = subst (λ (es : List Entry). Appends kept full (lines_for es)) d.delivers.1 d.stands in
          log_grown site served served [] kept full (sym (append-nil served.history)) refl same first

      over : IfSome file (λ _. IsSafe site served [] synced holds) → IsLife (deeds served served)
      over is_safe =
          life served served left left r.read [] r.begun r.replies [] r.added [] r.serves told_all (serves_nothing fits count asker served left) r.takes is_safe

      short : (fault : KeepFault) (failed : Bool) → EndsShort fault (closing new.state.closed (length new.history)) full holds sure synced failed → IsLife (deeds served served)
      short fault failed e = over (stays file begins fault e)
        where
          stays : (f : Option (List ℕ)) → IfSome f (λ _. IsLog site begun start.book) → (fault : KeepFault) → EndsShort fault (closing new.state.closed (length new.history)) full holds sure synced failed → IfSome f (λ _. IsSafe site served [] synced holds)
          stays None l fault e = tt
          stays (Some text) l keep.NoMemory e = safe_whole site served synced holds (subst (λ (j : Option (List ℕ)). IsLog site j served) (sym e.0) (served_log l)) (e.1 ∙ d.synced_is ∙ sym e.0)
          stays (Some text) l keep.Unkept e =
              safe_ended site served full synced holds (served_log l) (subst (λ (o : Option (List ℕ)). Keeps o synced) d.synced_is e.1)
              (subst (λ (b : Seen). WritesFront full holds (last_line (length b.history))) same_book (closing_front new.state.closed (length new.history) full holds e.0))

      done : Appends full holds (closing new.state.closed (length new.history)) → synced ≡ holds → IsLife (deeds served served)
      done ends safe = over (stays file begins)
        where
          stays : (f : Option (List ℕ)) → IfSome f (λ _. IsLog site begun start.book) → IfSome f (λ _. IsSafe site served [] synced holds)
          stays None l = tt
          stays (Some text) l = safe_over site served new.state.closed full synced holds (served_log l) safe (subst (λ (b : Seen). Appends full holds (closing new.state.closed (length b.history))) same_book ends)

  log_of_counts : (begun : Option (List ℕ)) → IsBegunFrom start file begun → IfSome file (λ _. IsLog site begun start.book)
  log_of_counts begun is = log_begun site slots file begun start starts is sound.is_beginning

  -- ---- a run over its log file, as a life
  pub lived_whole : (new : Seen) → RunsOn fits count asker None false before after start spares new left had has file synced holds → (d : Deeds) × IsLife d
  lived_whole new r = (
    deeds r.served r.served,
    done r.counted r.begun r.counts.counts (log_of_counts r.begun r.counts.begun_is) r.served new r.answered r.safe r.kept r.sure r.full r.replays r.delivers r.ends r.synced_is,
  )

  pub lived_short : (fault : RunFault) (failed : Bool) → StopsRun fits count asker None false fault before after start planners spares left had has file failed synced holds
      → (d : Deeds) × Lived fits count asker site slots spares (Err (ended fault)) before after had has file synced holds d
  lived_short (ran.Begin fault) failed s = (deeds start.book start.book, (starts, (s.0, s.2)))
  lived_short ran.Uncounted failed s = (deeds start.book start.book, uncounted s.0 s.2 s.5 s.4)
  lived_short (ran.Continue (continued.Resume fault)) failed (counted, begun, counts, stops) = (
    deeds start.book start.book,
    uncounted stops.1
        (subst (λ (h : Option (List ℕ)). WritesFront had h (first_text None start)) (sym stops.3) (front_all had counted (first_text None start) counts.counts))
        (subst (λ (h : Option (List ℕ)). IsBegunFrom start file h) (sym stops.4) counts.begun_is) (stops.5 ∙ sym stops.4),
  )
  lived_short (ran.Continue (continued.Replay fault)) failed (counted, begun, counts, stops) = stopped counted begun counts.counts (log_of_counts begun counts.begun_is) fault stops.0 failed stops.1
  lived_short (ran.Deliver fault) failed s = absurd (true≢false (sym s.0))
  lived_short (ran.End fault) failed (counted, begun, counts, (served, answered, safe, kept, replays, (new, sure, full, delivers, ends))) = (
    deeds served served,
    short counted begun counts.counts (log_of_counts begun counts.begun_is) served new answered safe kept sure full replays delivers fault failed ends,
  )

  -- the same where the file tells what it told when it was read
  pub whole_over : (here : Option (List ℕ)) → here ≡ file → (new : Seen) → RunsOn fits count asker None false before after start spares new left had has here synced holds → (d : Deeds) × IsLife d
  whole_over here same new r = lived_whole new (subst (λ (f : Option (List ℕ)). RunsOn fits count asker None false before after start spares new left had has f synced holds) same r)

  pub short_over : (here : Option (List ℕ)) → here ≡ file → (fault : RunFault) (told : LifeFault) → told ≡ ended fault → (failed : Bool)
      → StopsRun fits count asker None false fault before after start planners spares left had has here failed synced holds
      → (d : Deeds) × Lived fits count asker site slots spares (Err told) before after had has file synced holds d
  short_over here same fault told is failed s =
      subst (λ (e : LifeFault). (d : Deeds) × Lived fits count asker site slots spares (Err e) before after had has file synced holds d) (sym is)
      (lived_short fault failed (subst (λ (f : Option (List ℕ)). StopsRun fits count asker None false fault before after start planners spares left had has f failed synced holds) same s))

-- ---- a start

-- where there is none
pub no_deeds : Site → Deeds
no_deeds site =
    let none : Seen = record { site = site; opening = opened site.layout 0 []; state = opened site.layout 0 []; history = []; entry_room = 0; task_room = 0 } in
    record { start = record { book = none; bytes = None; version = Two; preface = None; before = before_of None }; known = none; final = none }

pub start_of : (site : Site) (slots : List ℕ) (file here : Option (List ℕ)) (start : Start) → StartsByFile site slots file start → here ≡ file → IsStartOf here start
start_of site slots file here start s same = subst (λ (f : Option (List ℕ)). IsStartOf f start) (sym same) (told file s.text_is)
  where
    told : (f : Option (List ℕ)) → IfSome f (λ held. s.text ≡ held) → IsStartOf f start
    told None is = tt
    told (Some held) is = inl (site, slots, subst (λ (t : List ℕ). StartsIn site slots t start) is s.starts)

pub sound_of : (site : Site) (slots : List ℕ) (file : Option (List ℕ)) (start : Start) → StartsByFile site slots file start → IsBeginning start.book.site start.book.opening
    → Run start.book.site start.book.opening start.book.history start.book.state → IsRunOn site start.book
sound_of site slots file start s begins run =
    let at = start_site site slots s.text start.version start.book start.preface start.bytes s.starts.at in
    record {
      site_is = at;
      is_beginning = subst (λ (x : Site). IsBeginning x start.book.opening) at begins;
      run = subst (λ (x : Site). Run x start.book.opening start.book.history start.book.state) at run;
    }
