-- What is found of a life in what a kill left of its log.
use Rattle.std.proofs.Common.{◌≡◌, ◌<◌, ◌≤◌, ◌-◌, ◌^◌, inl, inr, ℕ, Bool, true, false, List, [], ◌∷◌, ◌++◌, map, length, take, drop, refl, sym, ap, ◌∙◌, subst, arith, append_assoc, append-nil, take-append-drop, Option, None, Some, All}
use Rattle.std.proofs.lemmas.List.{length-map}
use Rattle.std.specs.Prelude.{unwrap_or}
use Rattle.std.specs.List.{sum_by}
use Rattle.std.specs.List.{AllByRecursion}
use Rattle.std.proofs.lemmas.List.Elements.{All-from_recursion, All-weaker}
use Rattle.wh_words.specs.Lines.{text_of as lines_text}
use Rattle.wh_points.specs.Points.{Site}
use Rattle.wh_event.specs.declared.entry.Entry.{Entry}
use Rattle.wh_core.specs.States.{State, opened}
use Rattle.wh_path.specs.Paths.{last_index}
use Rattle.wh_core.specs.Laws.{IsBeginning, IsOpening}
use Rattle.wh_core.specs.Steps.{Run}
use Rattle.wh_log.specs.Spelling.{entry_line}
use Rattle.wh_log.specs.Logs.{Content, Fits, IsSlots, end_line, start_line}
use Rattle.wh_log.specs.Torn.{Holds, IsRest, IsUnopened, begun_lines}
use Rattle.wh_log.specs.FirstBad.{Begins as BeginsLog}
use Rattle.wh_log.specs.declared.version.Version.{Version}
use Rattle.wh_log.specs.declared.version.Version.TheVariants.{Two}
use Rattle.wh_log.proofs.Fronts.{front_is_lines}
use Rattle.wh_log.proofs.LineLaws.{text_cons}
use Rattle.wh_judge.specs.Written.{IsAskedInRange, IsInRange}
use Rattle.wh_judge.proofs.Histories.{runs_are_logs}
use Rattle.wh_resume.specs.Drafts.{Seen}
use Rattle.wh_front.specs.declared.front.Count.{Count}
use Rattle.wh_front.specs.declared.front.Front.{Front}
use Rattle.wh_front.specs.declared.front.Seat.{Seat}
use Rattle.wh_front.specs.Fronts.{front_text}
use Rattle.wh_restore.specs.declared.reason.Reason.{Reason}
use Rattle.wh_restore.specs.declared.restored.Head.{Head}
use Rattle.wh_restore.specs.Heads.{first_two_lines}
use Rattle.wh_restore.specs.SoundFronts.{state_told}
use Rattle.wh_resume.specs.Behind.{IsFlawed, IsPrefaceOf, IsRunFrom, IsVersionThree, content_of}
use Rattle.wh_resume.specs.declared.recovery.Preface.{Preface}
use Rattle.wh_resume.specs.Resuming.{IsRunOf, Tells, TellsBook}
use Rattle.wh_resume.specs.declared.recovery.Resumed.{Resumed}
use Rattle.wh_resume.specs.declared.recovery.Recovery.{Recovery}
use Rattle.wh_resume.specs.declared.recovery.Recovery.TheVariants as told
use Rattle.wh_resume.proofs.Walks.{not_unopened}
use Rattle.wh_journal.specs.Journals.{lines_for}
use Rattle.wh_journal.specs.Scripts.{WritesFront}
use Rattle.wh_journal.specs.Surviving.{IsLeft, grown, told_by}
use Rattle.wh_journal.proofs.Telling.{two_lines}
use Rattle.wh_continue.specs.Closing.{Survives, SurvivesBehind}
use Rattle.wh_continue.specs.Running.{last_line}
use Rattle.wh_continue.specs.Starting.{BreaksAt, CountsTooMany, GoesOnIn, StartsAt, StartsIn, before_of, first_lines}
use Rattle.wh_continue.proofs.Surviving.{IsBehind, behind_resumed}
use Rattle.wh_continue.proofs.Versions.{same_front, three_behind, two_or_three, whole_three}
use Rattle.wh_continue.specs.declared.starting.Start.{Start}
use Rattle.wh_lives.specs.Lives.{Continues, Deeds, IsSafe, IsSoundHead}
use Rattle.wh_lives.specs.Twice.{LeavesOf}
use Rattle.wh_lives.proofs.OneLog.{ends_held, log_text, longer, one_found}
use Rattle.wh_lives.proofs.Kept.{entries_keep}
use Rattle.wh_lives.proofs.Runs.{IsRunOn}

-- what the log of a life would tell, if all of it were there
abbrev pub all_of : (known final : Seen) → Content
all_of known final = record { clock = known.opening.clock; slots = known.opening.slots; entries = final.history }

opened_by : (site : Site) (opening : State) → IsOpening site opening → opening ≡ opened site.layout opening.clock opening.slots
opened_by site opening o = o.is_opened ∙ sym (ap (λ (s : State). opened site.layout s.clock s.slots) o.is_opened)

run_of_all : (site : Site) (known final : Seen) → IsOpening site known.opening → Run site known.opening final.history final.state → IsRunOf site (all_of known final)
run_of_all site known final opens run =
    let is : known.opening ≡ opened site.layout known.opening.clock known.opening.slots = opened_by site known.opening opens in
    record {
      is_opening = subst (λ (s : State). IsOpening site s) is opens;
      state = final.state;
      run = subst (λ (s : State). Run site s final.history final.state) is run;
    }

all_fits : (site : Site) (known final : Seen) → IsInRange site → IsRunOf site (all_of known final) → AllByRecursion IsSlots known.opening.slots → AllByRecursion IsAskedInRange final.history
    → length final.history < 10 ^ 9 → Fits Two (all_of known final)
all_fits site known final range run slots asked few = runs_are_logs site (all_of known final) range (record { is_opening = run.is_opening; state = run.state; run = run.run }) slots (All-from_recursion IsAskedInRange final.history asked) few

-- what stands in a file that tells what it was given
record HeldFront (kept : List ℕ) (holds : Option (List ℕ)) (bytes : List ℕ) : Type 0 where
  text : List ℕ
  holds_is : holds ≡ Some text
  front : WritesFront (Some kept) (Some text) bytes

fronted : (kept bytes : List ℕ) (holds : Option (List ℕ)) → WritesFront (Some kept) holds bytes → HeldFront kept holds bytes
fronted kept bytes None w = absurd w.appends
fronted kept bytes (Some text) w = record { text = text; holds_is = refl; front = w }

left_of : (safe text left : List ℕ) (synced holds : Option (List ℕ)) → synced ≡ Some safe → holds ≡ Some text → LeavesOf synced holds (Some left) → IsLeft safe text left
left_of safe text left synced holds s h l =
    let at : LeavesOf (Some safe) (Some text) (Some left) = subst (λ (o : Option (List ℕ)). LeavesOf (Some safe) o (Some left)) h (subst (λ (o : Option (List ℕ)). LeavesOf o holds (Some left)) s l) in
    let same : left ≡ at.0 = ap (λ (o : Option (List ℕ)). unwrap_or o []) at.1 in
    subst (λ (t : List ℕ). IsLeft safe text t) (sym same) at.2

-- ---- what recovering finds of a text

-- a resumed book goes on from the life, and its log tells of fewer than 2^63 entries before it
record GoesFrom (life : Deeds) (r : Resumed) : Type 0 where
  continues : Continues life r.book
  few : (before_of r.preface).entries < 2 ^ 63

-- whatever a kill left of it
pub record IsFoundIn (site : Site) (slots : List ℕ) (life : Deeds) (left : List ℕ) : Type 0 where
  pub unbroken : (line : ℕ) → BreaksAt site slots left line → ⊥
  pub unflawed : (line : ℕ) (reason : Reason) → IsFlawed site left line reason → ⊥
  pub uncounted : (line : ℕ) → CountsTooMany site left line → ⊥
  pub found : (start : Start) → StartsIn site slots left start → Continues life start.book

-- where each text that is told is resumed
module _ (site : Site) (slots left : List ℕ) (life : Deeds) (resumes : (said : Recovery) → Tells site (first_lines slots) left said → (r : Resumed) × (said ≡ told.Resumed r) × GoesFrom life r) where
  same_resumed : (mine : Resumed) → Tells site (first_lines slots) left (told.Resumed mine) → GoesFrom life mine
  same_resumed mine t =
      let s = resumes (told.Resumed mine) t in
      let same : mine ≡ s.0 = (let e : told.Resumed mine ≡ told.Resumed s.0 = s.1 in cc) in
      subst (λ (x : Resumed). GoesFrom life x) (sym same) s.2

  goes_in : (preface : Option Preface) (version : Version) (n : ℕ) (book : Seen) → GoesOnIn site preface version left n book → Continues life book × ((before_of preface).entries < 2 ^ 63)
  goes_in None version n book g =
      let mine : Resumed = record { version = version; book = book; bytes = n; is_ended = g.is_ended; preface = None } in
      let f = same_resumed mine (g.content, g.holds, g.goes_on) in (f.continues, f.few)
  goes_in (Some preface) version n book (two, (is_ended, g)) =
      let mine : Resumed = record { version = version; book = book; bytes = n; is_ended = is_ended; preface = Some preface } in
      let f = same_resumed mine (two, g) in (f.continues, f.few)

  starts_on : (preface : Option Preface) (version : Version) (book : Seen) (bytes : Option ℕ) → StartsAt site slots left preface version book bytes → Continues life book
  starts_on preface version book None b =
      let s = resumes (told.Unopened site) (b.0.unopened, b.0.front, refl) in
      absurd (let no : told.Unopened site ≡ told.Resumed s.0 = s.1 in cc)
  starts_on preface version book (Some n) g = (goes_in preface version n book g).0

  found_in : IsFoundIn site slots life left
  found_in = record {
    unbroken = λ line b.
        let s = resumes (told.Bad line b.bytes) (b.ends, b.why) in
        let no : told.Bad line b.bytes ≡ told.Resumed s.0 = s.1 in cc;
    unflawed = λ line reason f.
        let s = resumes (told.Flawed line reason) f in
        let no : told.Flawed line reason ≡ told.Resumed s.0 = s.1 in cc;
    uncounted = λ line c.
        let few = (goes_in (Some c.preface) Two c.bytes c.book c.goes_on).1 in
        omega (arith, few, c.many);
    found = λ start starts. starts_on start.preface start.version start.book start.bytes starts.at;
  }

-- ---- a front of the lines of later entries stands behind what is known, or of the line that ends the log

abbrev last_of : Deeds → List ℕ
last_of life = last_line (length life.known.history)

-- a part of the end line is left behind what is known
record EndsPart (life : Deeds) (kept left : List ℕ) : Type 0 where
  part : List ℕ
  behind : List ℕ
  left_is : left ≡ kept ++ part
  whole : end_line (length life.known.history) ++ 10 ∷ [] ≡ part ++ behind

ends_part : (life : Deeds) (kept text left : List ℕ) → WritesFront (Some kept) (Some text) (last_of life) → IsLeft kept text left → EndsPart life kept left
ends_part life kept text left behind is_left =
    let parts = longer kept (take behind.count (last_of life)) left is_left.lost (sym behind.appends ∙ is_left.parts) is_left.no_less in
    record {
      part = parts.0;
      behind = is_left.lost ++ drop behind.count (last_of life);
      left_is = parts.1;
      whole = sym (text_cons (end_line (length life.known.history)) []) ∙ sym (take-append-drop behind.count (last_of life))
          ∙ ap (λ (t : List ℕ). t ++ drop behind.count (last_of life)) parts.2 ∙ append_assoc parts.0 is_left.lost (drop behind.count (last_of life));
    }

module _ (site : Site) (slots : List ℕ) (life : Deeds) (later : List Entry) (grew : life.final.history ≡ life.known.history ++ later) (at : life.known.site ≡ site) where
  abbrev known_log : Content
  known_log = told_by life.known

  all_is : all_of life.known life.final ≡ grown (grown known_log []) later
  all_is = ap (λ (es : List Entry). let c : Content = record { clock = life.known.opening.clock; slots = life.known.opening.slots; entries = es } in c)
      (grew ∙ ap (λ (es : List Entry). es ++ later) (sym (append-nil life.known.history)))

  behind_known : (history more : List Entry) → history ≡ (life.known.history ++ []) ++ more → history ≡ life.known.history ++ more
  behind_known history more is = is ∙ ap (λ (es : List Entry). es ++ more) (append-nil life.known.history)

  -- a book that was found goes on from the life
  continues : (book : Seen) (more behind : List Entry) → book.site ≡ site → book.opening ≡ life.known.opening → book.history ≡ life.known.history ++ more → later ≡ more ++ behind → Continues life book
  continues book more behind here opening history rest = record {
    site_is = here ∙ sym at;
    opening_is = opening;
    all_known = (more, history);
    none_else = (behind, grew ∙ ap (λ (es : List Entry). life.known.history ++ es) rest ∙ sym (append_assoc life.known.history more behind) ∙ ap (λ (es : List Entry). es ++ behind) (sym history));
  }

  -- and where nothing came later, all of it
  module _ (none : later ≡ []) where
    same_history : life.final.history ≡ life.known.history
    same_history = grew ∙ ap (λ (es : List Entry). life.known.history ++ es) none ∙ append-nil life.known.history

    all_known_is : all_of life.known life.final ≡ known_log
    all_known_is = ap (λ (es : List Entry). let c : Content = record { clock = life.known.opening.clock; slots = life.known.opening.slots; entries = es } in c) same_history

    continues_all : (book : Seen) → book.site ≡ site → book.opening ≡ life.known.opening → book.history ≡ life.known.history → Continues life book
    continues_all book here opening history = continues book [] [] here opening (history ∙ sym (append-nil life.known.history)) none

  -- ---- the log begins with two lines
  module _ (opens : IsOpening site life.known.opening) (run : IsRunOf site (all_of life.known life.final)) (fits : Fits Two (all_of life.known life.final)) (kept left : List ℕ) (kept_is : kept ≡ lines_text (begun_lines Two (told_by life.known))) where
    opened_so : (book : Seen) (clock : ℕ) (ns : List ℕ) → book.opening ≡ opened site.layout clock ns → clock ≡ life.known.opening.clock → ns ≡ life.known.opening.slots → book.opening ≡ life.known.opening
    opened_so book clock ns opening clock_is slots_are =
        opening ∙ ap (λ (n : ℕ). opened site.layout n ns) clock_is ∙ ap (λ (l : List ℕ). opened site.layout life.known.opening.clock l) slots_are ∙ sym (opened_by site life.known.opening opens)

    later_found : Survives → (text : List ℕ) → WritesFront (Some kept) (Some text) (lines_for later) → IsLeft kept text left → IsFoundIn site slots life left
    later_found law text behind is_left = found_in site slots left life resumes
      where
        resumes : (said : Recovery) → Tells site (first_lines slots) left said → (r : Resumed) × (said ≡ told.Resumed r) × GoesFrom life r
        resumes said tells =
            let s = law site (first_lines slots) known_log [] later kept text left said (subst (λ (c : Content). IsRunOf site c) all_is run) (subst (λ (c : Content). Fits Two c) all_is fits)
            (kept_is ∙ sym (append-nil (lines_text (begun_lines Two known_log)))) behind is_left tells in (
              s.0,
              s.1,
              record {
                continues = continues s.0.book s.2.more s.2.others s.2.site_is (opened_so s.0.book life.known.opening.clock life.known.opening.slots s.2.opening_is refl refl)
                    (behind_known s.0.book.history s.2.more s.2.history_is) s.2.later_are;
                few = subst (λ (p : Option Preface). (before_of p).entries < 2 ^ 63) (sym s.2.preface_is) (omega arith);
              },
            )

    module _ (none : later ≡ []) (e : EndsPart life kept left) where
      known_fits : Fits Two known_log
      known_fits = subst (λ (c : Content). Fits Two c) (all_known_is none) fits

      left_is : left ≡ lines_text (begun_lines Two known_log) ++ e.part
      left_is = e.left_is ∙ ap (λ (t : List ℕ). t ++ e.part) kept_is

      left_held : (is_ended : Bool) × Holds Two known_log is_ended left (length (lines_text (begun_lines Two known_log)))
      left_held =
          let h = ends_held known_log e.part e.behind known_fits e.whole in
          (h.0, subst (λ (t : List ℕ). Holds Two known_log h.0 t (length (lines_text (begun_lines Two known_log)))) (sym left_is) h.1)

      not_new : IsUnopened left → ⊥
      not_new unopened =
          not_unopened (begun_lines Two known_log) e.part (front_is_lines Two life.known.opening.clock life.known.opening.slots life.known.history known_fits.opens known_fits.entries) (omega arith)
          (subst (λ (t : List ℕ). IsUnopened t) left_is unopened)

      is_two : IsVersionThree left → ⊥
      is_two = two_or_three (start_line life.known.opening.clock life.known.opening.slots ∷ map entry_line life.known.history) e.part left left_is

      log_begins : BeginsLog (IsRunOf site) left
      log_begins = record {
        more = e.behind;
        whole = record {
          content = known_log;
          is = record {
            version = Two;
            fits = known_fits;
            text_is = ap (λ (t : List ℕ). t ++ e.behind) left_is ∙ append_assoc (lines_text (begun_lines Two known_log)) e.part e.behind
                ∙ ap (λ (t : List ℕ). lines_text (begun_lines Two known_log) ++ t) (sym e.whole) ∙ log_text Two known_log;
          };
          holds = subst (λ (c : Content). IsRunOf site c) (all_known_is none) run;
        };
      }

      ended_resumes : (said : Recovery) → Tells site (first_lines slots) left said → (r : Resumed) × (said ≡ told.Resumed r) × GoesFrom life r
      ended_resumes (told.Resumed r) t = (r, refl, by_preface r.preface refl t)
        where
          by_preface : (preface : Option Preface) → r.preface ≡ preface → TellsBook site left r preface → GoesFrom life r
          by_preface (Some preface) is (two, g) = absurd (is_two (three_behind g.front (lines_for r.book.history) g.rest left g.text_is))
          by_preface None is (content, holds, on) =
              let f = one_found known_log content r.version left (length (lines_text (begun_lines Two known_log))) r.bytes left_held.0 r.is_ended left_held.1 holds in
              record {
                continues = continues_all none r.book on.site_is (opened_so r.book content.clock content.slots on.opening_is f.clock_is f.slots_are) (on.history_is ∙ f.entries_are);
                few = subst (λ (p : Option Preface). (before_of p).entries < 2 ^ 63) (sym is) (omega arith);
              }
      ended_resumes (told.Unopened setting) t = absurd (not_new t.0)
      ended_resumes (told.Flawed line reason) t = absurd (is_two t.version)
      ended_resumes (told.Bad line bytes) (ends, why) = elim why [
        | inl breaks ↦ absurd (breaks.never log_begins)
        | inr (inl breaks) ↦ absurd (is_two (whole_three breaks.front breaks.rest left breaks.text_is))
        | inr (inr otherwise) ↦ absurd (not_new otherwise.unopened)
      ]

  -- ---- it begins with a front
  module _ (text_before : List ℕ) (h : IsSoundHead site life.known.opening text_before) (run : Run site life.known.opening life.final.history life.final.state) (fits : Fits Two (all_of life.known life.final)) (kept left : List ℕ)
      (kept_is : kept ≡ text_before ++ lines_for life.known.history) where
    abbrev two_lines_of : List ℕ
    two_lines_of = first_two_lines life.known.opening.clock life.known.opening.slots

    run_from : IsRunFrom site (state_told h.front) (all_of life.known life.final)
    run_from = record {
      clock_is = ap (λ (s : State). s.clock) h.opening_is;
      slots_are = ap (λ (s : State). s.slots) h.opening_is;
      state = life.final.state;
      run = subst (λ (s : State). Run site s life.final.history life.final.state) h.opening_is run;
    }

    kept_so : kept ≡ front_text h.front ++ lines_for life.known.history
    kept_so = kept_is ∙ ap (λ (t : List ℕ). t ++ lines_for life.known.history) h.text_is

    few_in : (r : Resumed) (preface : Preface) → r.preface ≡ Some preface → IsPrefaceOf h.front preface → (before_of r.preface).entries < 2 ^ 63
    few_in r preface is of =
        subst (λ (p : Option Preface). (before_of p).entries < 2 ^ 63) (sym is)
        (subst (λ (cs : List Count). sum_by (λ (count : Count). count.entries) cs < 2 ^ 63) (sym (ap (λ (x : Head). x.counts) of.head_is)) h.few)

    later_behind : SurvivesBehind → (text : List ℕ) → WritesFront (Some kept) (Some text) (lines_for later) → IsLeft kept text left → IsFoundIn site slots life left
    later_behind law text behind is_left = found_in site slots left life resumes
      where
        resumes : (said : Recovery) → Tells site (first_lines slots) left said → (r : Resumed) × (said ≡ told.Resumed r) × GoesFrom life r
        resumes said tells =
            let s = law site (first_lines slots) h.front known_log [] later kept text left said h.sound (subst (λ (c : Content). IsRunFrom site (state_told h.front) c) all_is run_from) (subst (λ (c : Content). Fits Two c) all_is fits)
            (kept_so ∙ sym (append-nil (front_text h.front ++ lines_for life.known.history))) behind is_left tells in (
              s.0,
              s.1,
              record {
                continues = continues s.0.book s.2.more s.2.others s.2.site_is (s.2.opening_is ∙ sym h.opening_is) (behind_known s.0.book.history s.2.more s.2.history_is) s.2.later_are;
                few = few_in s.0 s.2.preface s.2.preface_is s.2.is_preface;
              },
            )

    module _ (none : later ≡ []) (e : EndsPart life kept left) where
      fits_known : Fits Two known_log
      fits_known = subst (λ (c : Content). Fits Two c) (all_known_is none) fits

      more : List ℕ
      more = lines_for life.known.history ++ e.part

      left_behind : left ≡ front_text h.front ++ more
      unfolding more
      left_behind = e.left_is ∙ ap (λ (t : List ℕ). t ++ e.part) kept_so ∙ append_assoc (front_text h.front) (lines_for life.known.history) e.part

      -- with two lines in the front's place
      two_is : lines_text (begun_lines Two known_log) ++ e.part ≡ two_lines_of ++ more
      unfolding more
      two_is = ap (λ (t : List ℕ). t ++ e.part) (two_lines known_log) ∙ append_assoc two_lines_of (lines_for life.known.history) e.part

      begins_two : BeginsLog (IsRunFrom site (state_told h.front)) (two_lines_of ++ more)
      begins_two = record {
        more = e.behind;
        whole = record {
          content = known_log;
          is = record {
            version = Two;
            fits = fits_known;
            text_is = ap (λ (t : List ℕ). t ++ e.behind) (sym two_is) ∙ append_assoc (lines_text (begun_lines Two known_log)) e.part e.behind
                ∙ ap (λ (t : List ℕ). lines_text (begun_lines Two known_log) ++ t) (sym e.whole) ∙ log_text Two known_log;
          };
          holds = subst (λ (c : Content). IsRunFrom site (state_told h.front) c) (all_known_is none) run_from;
        };
      }

      begins_here : BeginsLog (IsRunFrom site (state_told h.front)) (first_two_lines h.front.clock (map (λ (seat : Seat). seat.slots) h.front.seats) ++ more)
      begins_here = subst (λ (s : State). BeginsLog (IsRunFrom site (state_told h.front)) (first_two_lines s.clock s.slots ++ more)) h.opening_is begins_two

      slots_fit : AllByRecursion IsSlots (map (λ (seat : Seat). seat.slots) h.front.seats)
      slots_fit = subst (λ (s : State). AllByRecursion IsSlots s.slots) h.opening_is fits_known.opens.each

      -- the book that is found behind it has the same entries
      one_behind : (r : Resumed) → IsBehind site left r → GoesFrom life r
      one_behind r b =
          let g = b.goes_on in
          let same = same_front h.front g.front more (lines_for r.book.history ++ g.rest) left h.sound.fits g.is_front.fits left_behind
          (g.text_is ∙ append_assoc (front_text g.front) (lines_for r.book.history) g.rest) in
          let found : Content = record { clock = life.known.opening.clock; slots = life.known.opening.slots; entries = r.book.history } in
          let held = ends_held known_log e.part e.behind fits_known e.whole in
          let rest_is : (ended : Bool) → IsRest ended (content_of r.book) g.rest → IsRest ended found g.rest = rest_same r.book g.rest in
          let stands : Holds Two found r.is_ended (lines_text (begun_lines Two known_log) ++ e.part) (length (lines_text (begun_lines Two found))) = record {
            fits = record { opens = fits_known.opens; entries = g.fits.entries; count = g.fits.count };
            rest = g.rest;
            text_is = two_is ∙ ap (λ (t : List ℕ). two_lines_of ++ t) same.1 ∙ sym (append_assoc two_lines_of (lines_for r.book.history) g.rest) ∙ ap (λ (t : List ℕ). t ++ g.rest) (sym (two_lines found));
            rest_is = rest_is r.is_ended g.rest_is;
            bytes_are = refl;
          } in
          let f = one_found known_log found Two (lines_text (begun_lines Two known_log) ++ e.part) (length (lines_text (begun_lines Two known_log))) (length (lines_text (begun_lines Two found))) held.0 r.is_ended held.1 stands in
          record {
            continues = continues_all none r.book g.site_is (g.opening_is ∙ ap state_told (sym same.0) ∙ sym h.opening_is) f.entries_are;
            few = few_in r b.preface b.preface_is (subst (λ (x : Front). IsPrefaceOf x b.preface) (sym same.0) g.preface_is);
          }
        where
          rest_same : (book : Seen) (rest : List ℕ) (ended : Bool) → IsRest ended (content_of book) rest → IsRest ended (let c : Content = record { clock = life.known.opening.clock; slots = life.known.opening.slots; entries = book.history } in c) rest
          rest_same book rest true r = r
          rest_same book rest false r = r

      ended_behind : (said : Recovery) → Tells site (first_lines slots) left said → (r : Resumed) × (said ≡ told.Resumed r) × GoesFrom life r
      ended_behind said tells =
          let s = behind_resumed site (first_lines slots) h.front left more h.sound left_behind slots_fit begins_here said tells in
          (s.0, s.1, one_behind s.0 s.2)

-- ---- whatever a kill left

-- of a log that begins with a front, what was asked is in its ranges too
front_fits : (site : Site) (known final : Seen) (text : List ℕ) (h : IsSoundHead site known.opening text) → IsInRange site → Run site known.opening final.history final.state → All (λ path. last_index path < 2 ^ 63) known.opening.paths
    → AllByRecursion IsSlots known.opening.slots → AllByRecursion IsAskedInRange final.history → length final.history < 10 ^ 9 → Fits Two (all_of known final)
front_fits site known final text h range run paths slots asked few =
    let f = h.sound.fits in
    let begins : IsBeginning site known.opening = subst (λ (s : State). IsBeginning site s) (sym h.opening_is) h.sound.beginning in
    let clock : known.opening.clock ≡ h.front.clock = ap (λ (s : State). s.clock) h.opening_is in
    let seats : length known.opening.slots ≡ length h.front.seats = ap (λ (s : State). length s.slots) h.opening_is ∙ length-map h.front.seats (λ (seat : Seat). seat.slots) in
    let clock_fits = f.clock in
    let agents = f.agents in
    record {
      opens = record { clock_fits = omega (arith, clock, clock_fits); some = omega (arith, seats, agents.0); few = omega (arith, seats, agents.1); each = slots };
      entries = entries_keep site known.opening final.history final.state (2 ^ 63 - 1) range begins
          (All-weaker (λ path. last_index path < 2 ^ 63) (λ path. last_index path ≤ 2 ^ 63 - 1) (λ path less. omega (arith, less)) known.opening.paths paths) (omega arith) run asked few;
      count = few;
    }

module _ (law : Survives) (law_behind : SurvivesBehind) (site : Site) (slots : List ℕ) (life : Deeds) (later : List Entry) (synced holds : Option (List ℕ)) (left : List ℕ) (grew : life.final.history ≡ life.known.history ++ later) (at : life.known.site ≡ site)
    (same : life.final.opening ≡ life.known.opening) (final : IsRunOn site life.final) (range : IsInRange site) (slots_fit : AllByRecursion IsSlots life.known.opening.slots) (asked : AllByRecursion IsAskedInRange life.final.history) (few : length life.final.history < 10 ^ 9)
    (paths : (text : List ℕ) → IsSoundHead site life.known.opening text → All (λ path. last_index path < 2 ^ 63) life.known.opening.paths) (safe : IsSafe site life.known later synced holds) (leaves : LeavesOf synced holds (Some left)) where
  run_known : Run site life.known.opening life.final.history life.final.state
  run_known = subst (λ (s : State). Run site s life.final.history life.final.state) same final.run

  all_left : (text : List ℕ) → holds ≡ Some text → IsLeft safe.kept text left
  all_left text is =
      let l = left_of safe.safe text left synced holds safe.synced_is is leaves in
      record { lost = l.lost; parts = l.parts; no_less = omega (arith, l.no_less, safe.no_less) }

  pub told_is_found : IsFoundIn site slots life left
  told_is_found = elim safe.stands_before [
    | inl (opens, two) ↦
        let run = run_of_all site life.known life.final opens run_known in
        let fits = all_fits site life.known life.final range run slots_fit asked few in
        let kept_is : safe.kept ≡ lines_text (begun_lines Two (told_by life.known)) =
        safe.log ∙ ap (λ (t : List ℕ). t ++ lines_for life.known.history) two ∙ sym (two_lines (told_by life.known)) in
        elim safe.behind [
          | inl behind ↦
              let f = fronted safe.kept (lines_for later) holds behind in
              later_found site slots life later grew at opens run fits safe.kept left kept_is law f.text f.front (all_left f.text f.holds_is)
          | inr (none, behind) ↦
              let f = fronted safe.kept (last_of life) holds behind in
              let e = ends_part life safe.kept f.text left f.front (all_left f.text f.holds_is) in
              found_in site slots left life (ended_resumes site slots life later grew at opens run fits safe.kept left kept_is none e)
        ]
    | inr h ↦
        let fits = front_fits site life.known life.final safe.head h range run_known (paths safe.head h) slots_fit asked few in
        elim safe.behind [
          | inl behind ↦
              let f = fronted safe.kept (lines_for later) holds behind in
              later_behind site slots life later grew at safe.head h run_known fits safe.kept left safe.log law_behind f.text f.front (all_left f.text f.holds_is)
          | inr (none, behind) ↦
              let f = fronted safe.kept (last_of life) holds behind in
              let e = ends_part life safe.kept f.text left f.front (all_left f.text f.holds_is) in
              found_in site slots left life (ended_behind site slots life later grew at safe.head h run_known fits safe.kept left safe.log none e)
        ]
  ]
