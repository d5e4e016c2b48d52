-- A run over a log file.
use Rattle.std.proofs.lemmas.Result.{IfErr-weaker}
use Rattle.std.proofs.Common.{◌≡◌, ◌<◌, ◌+◌, ◌-◌, ℕ, Bool, List, [], ◌∷◌, ◌++◌, length, take, drop, get_or, refl, ap, ap₂, sym, ◌∙◌, subst, inl, inr, Option, None, Some, Result}
use Rattle.std.specs.Prelude.{MatchOption, OnOk, IfOk, IfErr, IfSome, slice_index}
use Rattle.std.proofs.KnownBytes.{Keeps-refl}
use Rattle.std.specs.Io.KnownBytes.{Appends}
use Rattle.std.specs.declared.alloc.AllocError.{AllocError}
use Rattle.std.proofs.lemmas.List.{take_more}
use Rattle.std.proofs.Math.Seq.{take-length}
use Rattle.std.proofs.lemmas.List.Elements.{Contains-get_or}
use Rattle.std.proofs.lemmas.Slice.Zip.{all_zipped_more}
use Rattle.wh_grid.specs.Grids.{Floor}
use Rattle.wh_points.specs.Points.{Site}
use Rattle.wh_claims.specs.declared.bank.Bank.{Bank}
use Rattle.wh_judge.specs.Drafts.{AllServed, Seen, HasWaysForAll}
use Rattle.wh_options.specs.declared.chosen.Fleet.{Fleet}
use Rattle.wh_journal.specs.Journals.{ReplaysJournaled, lines_for}
use Rattle.wh_journal.specs.Surviving.{StaysLog}
use Rattle.wh_resume.specs.declared.recovery.Preface.{Preface}
use Rattle.wh_continue.specs.Again.{CanTellAgain}
use Rattle.wh_continue.specs.Before.{Before}
use Rattle.wh_continue.specs.Starting.{StartsAt, StartsIn, before_of, entries_so_far}
use Rattle.wh_continue.specs.declared.starting.Start.{Start}
use Rattle.wh_continue.specs.Besides.{StandsBeside}
use Rattle.wh_continue.specs.Opening.{IsOpened, IsWhyNotBoth}
use Rattle.wh_continue.specs.Running.{Counts, IsBegunFrom, IsStartOf, Opens, RunsOn, StopsRun, count_line, first_text, from_opening, log_from, opening_lines, told_again}
use Rattle.wh_continue.specs.declared.running.KeepFault.{KeepFault}
use Rattle.wh_continue.specs.declared.beside.Beside.{Beside}
use Rattle.wh_edge.specs.Site.{SiteKept}
use Rattle.wh_edge.specs.declared.trouble.Trouble.{Trouble}
use Rattle.wh_edge.specs.declared.trouble.Trouble.TheVariants as trouble
use Rattle.wh_service.specs.Fleets.{AreSeated, IsMember, IsWhyUnclaimed, IsWhyUnseated, with_slots}
use Rattle.wh_service.specs.Kept.{HasLog, IsSeated, IsSet, IsWhyUnkept, ServesKept, Siding, StartsFrom, StartsOver, first_slots, keep_trouble, run_trouble}
use Rattle.wh_deliver.proofs.Grown.{grows}
use Rattle.wh_service.specs.Tails.{IsWhyNoTail, tail_behind, told_open}
use Rattle.wh_service.proofs.Undelivered.{ok_joined}
use Rattle.wh_replay.specs.declared.asker.Asker.{Asker}
use Rattle.wh_log.specs.declared.version.Version.{Version}
use Rattle.wh_lines.specs.Input.{Input}
use Rattle.wh_core.specs.States.{State}
use Rattle.wh_core.specs.Laws.{IsOpening, IsBeginning}
use Rattle.wh_continue.proofs.Opened.{start_opening}
use Rattle.wh_core.specs.Steps.{Run}
use Rattle.wh_options.specs.declared.chosen.Tail.{Tail}
use Rattle.wh_continue.specs.declared.running.RunFault.{RunFault}
use Rattle.wh_service.specs.declared.parts.PlannerParts.{PlannerParts}

-- one more planner
pub seat_added : {X : Type 0} (gives : PlannerParts → Result X AllocError → Type 0) (fleet : Fleet) (grid : Floor) (bank : Bank)
    (slots : List ℕ) (k : ℕ) (row added : List X) (planner : X) → k < length slots → added ≡ row ++ planner ∷ []
    → AreSeated gives fleet grid bank (take k slots) row → IsMember gives (with_slots fleet (slice_index slots k)) grid bank planner → AreSeated gives fleet grid bank (take (k + 1) slots) added
seat_added {X} gives fleet grid bank slots k row added planner within same all member =
    let R : ℕ → X → Type 0 = λ n p. IsMember gives (with_slots fleet n) grid bank p in
    subst (λ (ns : List ℕ). AreSeated gives fleet grid bank ns added) (sym (take_more slots k 0 within))
    (subst (λ (ps : List X). AreSeated gives fleet grid bank (take k slots ++ get_or slots k 0 ∷ []) ps) (sym same)
    (all_zipped_more R (take k slots) row (get_or slots k 0) planner all member))

-- why a planner was not made
pub unseated : (slots : List ℕ) (k : ℕ) (told : Trouble) → k < length slots → IsWhyUnclaimed (slice_index slots k) told → IsWhyUnseated slots told
unseated slots k (trouble.Short free) within few = (slice_index slots k, Contains-get_or slots k 0 within, few)
unseated slots k (trouble.Raced seen) within few = tt
unseated slots k trouble.NoMemory within few = tt
unseated slots k told within few = absurd few

-- the run starts on the site
site_at : (site : Site) (slots text : List ℕ) (preface : Option Preface) (version : Version) (book : Seen) (bytes : Option ℕ) → StartsAt site slots text preface version book bytes → book.site ≡ site
site_at site slots text preface version book None starts = starts.0.unbegun.site_is
site_at site slots text None version book (Some n) starts = starts.goes_on.site_is
site_at site slots text (Some preface) version book (Some n) starts = starts.1.1.site_is

pub start_site : (site : Site) (slots text : List ℕ) (start : Start) → StartsIn site slots text start → start.book.site ≡ site
start_site site slots text start starts = site_at site slots text start.preface start.version start.book start.bytes starts.at

starts_of : (fleet : Fleet) (site : Site) (start : Start) (file : Option (List ℕ)) → StartsFrom fleet site file start → IsStartOf file start
starts_of fleet site start None from = tt
starts_of fleet site start (Some held) from =
    inl (site, first_slots fleet site, subst (λ (text : List ℕ). StartsIn site (first_slots fleet site) text start) from.text_is from.starts)

-- what the file was read as is what it holds
pub start_of_file : (fleet : Fleet) (site : Site) (file held : Option (List ℕ)) (start : Start) → StartsFrom fleet site file start → held ≡ file → IsStartOf held start
start_of_file fleet site file held start from same = subst (λ (h : Option (List ℕ)). IsStartOf h start) (sym same) (starts_of fleet site start file from)

-- a site that was read, where its text lies elsewhere
pub kept_at : {homes : Bool} (old new : Input) (site : Site) (text bytes : List ℕ) → bytes ≡ text → SiteKept homes old new site text → SiteKept homes old new site bytes
kept_at {homes} old new site text bytes equal kept = subst (λ (t : List ℕ). SiteKept homes old new site t) (sym equal) kept

-- planners on a grid that lies elsewhere
pub seated_on : {X : Type 0} (gives : PlannerParts → Result X AllocError → Type 0) (fleet : Fleet) (grid at : Floor) (slots : List ℕ) (planners spares : List X) → grid ≡ at →
    IsSeated gives fleet grid slots planners spares → IsSeated gives fleet at slots planners spares
seated_on gives fleet grid at slots planners spares same seated = subst (λ (f : Floor). IsSeated gives fleet f slots planners spares) same seated

-- a file tells its bytes once its log was begun, if it did before
told_so : (b : Option ℕ) (P Q : Type 0) (file held : Option (List ℕ)) (lines : List ℕ) (X : Type 0) → MatchOption b (P × Opens file held lines) (λ _. Q × (held ≡ file)) → IfSome held (λ _. X) → IfSome file (λ _. X)
told_so None P Q None held lines X is x = tt
told_so None P Q (Some text) held lines X is x = subst (λ (h : Option (List ℕ)). IfSome h (λ _. X)) is.1 x
told_so (Some n) P Q file held lines X is x = subst (λ (h : Option (List ℕ)). IfSome h (λ _. X)) is.1 x

pub told_before : (start begun : Start) (file held : Option (List ℕ)) (X : Type 0) → IsOpened start begun file held → IfSome held (λ _. X) → IfSome file (λ _. X)
told_before start begun file held X is x = told_so start.bytes _ _ file held _ X is x

-- what came before the entries, and what the front told, stay so once the log was begun
module _ (site : Site) (slots text : List ℕ) (start begun : Start) (starts : StartsIn site slots text start) where
  none_before : (bytes : Option ℕ) → bytes ≡ None → StartsAt site slots text start.preface start.version start.book bytes → start.preface ≡ None
  none_before None is at = at.1
  none_before (Some n) is at = absurd (cc (is))

  same_preface : (file held : Option (List ℕ)) (bytes : Option ℕ) → start.bytes ≡ bytes → MatchOption bytes ((begun ≡ from_opening start.book) × Opens file held (opening_lines start.book)) (λ n. (begun ≡ start) × (held ≡ file)) → begun.preface ≡ start.preface
  same_preface file held None is o = ap (λ (s : Start). s.preface) o.0 ∙ sym (none_before start.bytes is starts.at)
  same_preface file held (Some n) is o = ap (λ (s : Start). s.preface) o.0

  same_before : (file held : Option (List ℕ)) (bytes : Option ℕ) → start.bytes ≡ bytes → MatchOption bytes ((begun ≡ from_opening start.book) × Opens file held (opening_lines start.book)) (λ n. (begun ≡ start) × (held ≡ file)) → begun.before ≡ start.before
  same_before file held None is o = ap (λ (s : Start). s.before) o.0 ∙ sym (starts.before_is ∙ ap before_of (none_before start.bytes is starts.at))
  same_before file held (Some n) is o = ap (λ (s : Start). s.before) o.0

pub preface_of_begun : (fleet : Fleet) (site : Site) (from_file file held : Option (List ℕ)) (start begun : Start) → StartsFrom fleet site from_file start → IsOpened start begun file held → begun.preface ≡ start.preface
preface_of_begun fleet site from_file file held start begun from is = same_preface site (first_slots fleet site) from.text start begun from.starts file held start.bytes refl is

-- what a run goes on over is the same, whether its log was begun before or since
begun_at : (bytes : Option ℕ) (start begun : Start) (file held made : Option (List ℕ)) → start.bytes ≡ bytes
    → MatchOption bytes ((begun ≡ from_opening start.book) × Opens file held (opening_lines start.book)) (λ _. (begun ≡ start) × (held ≡ file)) → IsBegunFrom begun held made → IsBegunFrom start file made
begun_at None start begun None held made is o from = tt
begun_at None start begun (Some text) held made is (begun_is, opens) from =
    let at : IsBegunFrom (from_opening start.book) held made = subst (λ (s : Start). IsBegunFrom s held made) begun_is from in
    let on : IsBegunFrom (from_opening start.book) (Some (opening_lines start.book)) made = subst (λ (h : Option (List ℕ)). IsBegunFrom (from_opening start.book) h made) opens at in
    on ∙ ap (λ (l : List ℕ). Some l) (take-length (opening_lines start.book)) ∙ sym (ap (λ (b : Option ℕ). Some (log_from b start.version (opening_lines start.book) text)) is)
begun_at (Some n) start begun file held made is (begun_is, same) from =
    subst (λ (h : Option (List ℕ)). IsBegunFrom start h made) same (subst (λ (s : Start). IsBegunFrom s held made) begun_is from)

pub before_of_begun : (fleet : Fleet) (site : Site) (from_file file held : Option (List ℕ)) (start begun : Start) → StartsFrom fleet site from_file start → IsOpened start begun file held → begun.before ≡ start.before
before_of_begun fleet site from_file file held start begun from is = same_before site (first_slots fleet site) from.text start begun from.starts file held start.bytes refl is

-- what was told and made before the script was so before its log was begun too
pub counts_before : (again : Option ℕ) (had counted : Option (List ℕ)) (start begun : Start) (file held made : Option (List ℕ)) → begun.book ≡ start.book → begun.before ≡ start.before → IsOpened start begun file held
    → Counts again begun had counted held made → Counts again start had counted file made
counts_before again had counted start begun file held made book_is before_is is counts =
    let so_far : entries_so_far begun ≡ entries_so_far start = ap₂ (λ (b : Before) (k : Seen). b.entries + length k.history) before_is book_is in
    let text_is : first_text again begun ≡ first_text again start = ap₂ (λ (n : ℕ) (t : List ℕ). count_line n ++ t) so_far (again_same again) in
    record {
      counts = subst (λ (t : List ℕ). Appends had counted t) text_is counts.counts;
      begins = told_before start begun file held _ is (subst (λ (b : Seen). StaysLog held made b) book_is counts.begins);
      begun_is = begun_at start.bytes start begun file held made refl is counts.begun_is;
    }
  where
    again_same : (a : Option ℕ) → told_again a begun ≡ told_again a start
    again_same None = refl
    again_same (Some first) = ap₂ (λ (b : Before) (k : Seen). lines_for (drop (first - b.entries) k.history)) before_is book_is

-- a run that went on once its log was begun went on from what stood before
pub runs_before : {X : Type 0} (fits : X → Floor → Bool) (count : X → ℕ) (asker : Asker) (again : Option ℕ) (deliver : Bool) (before after : Input) (spares : List X) (new : Seen) (rest : List X) (had has : Option (List ℕ))
    (start begun : Start) (file held synced holds : Option (List ℕ)) → begun.book ≡ start.book → begun.before ≡ start.before → IsOpened start begun file held
    → RunsOn fits count asker again deliver before after begun spares new rest had has held synced holds → RunsOn fits count asker again deliver before after start spares new rest had has file synced holds
runs_before fits count asker again deliver before after spares new rest had has start begun file held synced holds book_is before_is is ran =
    let again_is : told_again again begun ≡ told_again again start = again_same again in
    let so_far : entries_so_far begun ≡ entries_so_far start = ap₂ (λ (b : Before) (k : Seen). b.entries + length k.history) before_is book_is in
    let text_is : first_text again begun ≡ first_text again start = ap₂ (λ (n : ℕ) (t : List ℕ). count_line n ++ t) so_far again_is in
    record {
      counted = ran.counted;
      begun = ran.begun;
      counts = record {
        counts = subst (λ (t : List ℕ). Appends had ran.counted t) text_is ran.counts.counts;
        begins = told_before start begun file held _ is (subst (λ (b : Seen). StaysLog held ran.begun b) book_is ran.counts.begins);
        begun_is = begun_at start.bytes start begun file held ran.begun refl is ran.counts.begun_is;
      };
      safe = ran.safe;
      kept = ran.kept;
      served = ran.served;
      answered = ran.answered;
      replays = subst (λ (b : Seen). ReplaysJournaled fits count asker before after b spares ran.served rest ran.counted ran.answered ran.begun ran.safe ran.kept) book_is ran.replays;
      sure = ran.sure;
      full = ran.full;
      delivers = ran.delivers;
      ends = ran.ends;
      synced_is = ran.synced_is;
      whole = told_before start begun file held _ is ran.whole;
    }
  where
    again_same : (a : Option ℕ) → told_again a begun ≡ told_again a start
    again_same None = refl
    again_same (Some first) = ap₂ (λ (b : Before) (k : Seen). lines_for (drop (first - b.entries) k.history)) before_is book_is

-- ---- what the whole call says

module _ {X : Type 0} (fits : X → Floor → Bool) (count : X → ℕ) (asker : Asker) (gives : PlannerParts → Result X AllocError → Type 0) (fleet : Fleet) (deliver : Bool) (again : Option ℕ) (anew : Bool)
    (old between : Input) (file : Option (List ℕ)) (beside : Siding) (site : Site) (start : Start) (planners spares : List X)
    (site_text : List ℕ) (site_read : SiteKept fleet.homes old between site site_text)
    (found : Beside) (stands : StandsBeside beside.before site_text found)
    (from : StartsFrom fleet site file start) (has_log : HasLog anew found start) (within : CanTellAgain again start)
    (slots : List ℕ) (slots_are : slots ≡ start.book.state.slots) (seated : IsSeated gives fleet site.grid slots planners spares) where
  abbrev starts : StartsOver gives fleet again anew old between file beside site start planners spares
  starts = record {
    text = site_text;
    site_read = site_read;
    found = found;
    stands = stands;
    starts = from;
    has_log = has_log;
    within = within;
    seated = subst (λ (ns : List ℕ). IsSeated gives fleet site.grid ns planners spares) slots_are seated;
  }

  -- the log was not begun, or the site not kept beside it
  pub stops_opening : (tail : Tail) (fault : KeepFault) (told : Trouble) (had holds : Option (List ℕ)) (failed : Bool) (synced now aside : Option (List ℕ)) → told ≡ keep_trouble fault → now ≡ file → aside ≡ beside.before
      → IsWhyNotBoth fault start now holds failed aside beside.after beside.failed site_text
      → IsWhyUnkept fits count asker gives fleet deliver tail again anew told old between had had file failed synced holds beside
  stops_opening tail fault told had holds failed synced now aside is same still why = inr (inr (inl (
    fault,
    is,
    record {
      site = site;
      start = start;
      planners = planners;
      spares = spares;
      starts = starts;
      why = subst (λ (b : Option (List ℕ)). IsWhyNotBoth fault start file holds failed b beside.after beside.failed site_text) still
          (subst (λ (f : Option (List ℕ)). IsWhyNotBoth fault start f holds failed aside beside.after beside.failed site_text) same why);
    },
    Keeps-refl had,
  )))

  module _ (new : Input) (had has synced holds : Option (List ℕ)) (rest : List X) (told_as : Asker) (same : told_as ≡ asker)
      (begun : Start) (book_is : begun.book ≡ start.book) (held now : Option (List ℕ)) (same_file : now ≡ file) (opened : IsOpened start begun now held) (aside : Option (List ℕ)) (still : aside ≡ beside.before) (opens : Opens aside beside.after site_text) (safe : beside.synced ≡ beside.after) where
    opens_file : IsOpened start begun file held
    opens_file = subst (λ (f : Option (List ℕ)). IsOpened start begun f held) same_file opened

    set : IsSet beside site_text
    set = (subst (λ (b : Option (List ℕ)). Opens b beside.after site_text) still opens, safe)

    -- the run was not brought to its end
    pub stops_kept : (tail : Tail) (fault : RunFault) (told : Trouble) (failed : Bool) → told ≡ run_trouble fault
        → StopsRun fits count told_as again deliver fault between new begun planners spares rest had has held failed synced holds
        → IsWhyUnkept fits count asker gives fleet deliver tail again anew told old new had has file failed synced holds beside
    stops_kept tail fault told failed is stops = inr (inr (inr (inl (
      fault,
      is,
      record {
        site = site;
        between = between;
        start = start;
        planners = planners;
        spares = spares;
        starts = starts;
        is_set = set;
        begun = begun;
        opened = held;
        opens = opens_file;
        rest = rest;
        stops = subst (λ (t : Asker). StopsRun fits count t again deliver fault between new begun planners spares rest had has held failed synced holds) same stops;
      },
    ))))

    module _ (tail : Tail) {T : Type 0} (report : T → List ℕ) (said : Result T Trouble) (final : Seen) (replied : Option (List ℕ))
        (ran : RunsOn fits count told_as again deliver between new begun spares final rest had replied held synced holds) (preface : Option Preface) (preface_is : preface ≡ begun.preface) where
      runs : RunsOn fits count asker again deliver between new start spares final rest had replied file synced holds
      runs = runs_before fits count asker again deliver between new spares final rest had replied start begun file held synced holds book_is
          (same_before site (first_slots fleet site) from.text start begun from.starts file held start.bytes refl opens_file) opens_file
          (subst (λ (t : Asker). RunsOn fits count t again deliver between new begun spares final rest had replied held synced holds) same ran)

      front_is : preface ≡ start.preface
      front_is = preface_is ∙ same_preface site (first_slots fleet site) from.text start begun from.starts file held start.bytes refl opens_file

      -- it was, and what is to follow the replies does
      pub serves_kept : IsBeginning final.site final.opening → Run final.site final.opening final.history final.state → (HasWaysForAll final.site final.opening → AllServed final.history)
          → OnOk said (Appends replied has (tail_behind preface tail final.opening final.history final.state))
          → IfOk said (λ t. report t ≡ told_open deliver final.state)
          → IfOk said (λ t. ServesKept fits count asker gives fleet deliver tail again anew old new had has file synced holds beside (report t))
      serves_kept opening run served follows tells =
          let is : final.site ≡ site = (grows deliver asker 999999999 runs.served final runs.delivers.added runs.answered replied runs.delivers.delivers).1.site ∙ runs.replays.serves.output.site ∙ start_site site (first_slots fleet site) from.text start from.starts in
          let same_opening : final.opening ≡ start.book.opening = (grows deliver asker 999999999 runs.served final runs.delivers.added runs.answered replied runs.delivers.delivers).1.opening ∙ runs.replays.serves.output.opening in
          let begins = subst (λ (o : State). IsBeginning site o) same_opening (subst (λ (at : Site). IsBeginning at final.opening) is opening) in
          ok_joined said _ _ _ (λ t after open_is. record {
            site = site;
            between = between;
            start = start;
            planners = planners;
            spares = spares;
            starts = starts;
            is_set = set;
            rest = rest;
            final = final;
            replied = replied;
            runs = runs;
            open_is = open_is;
            follows = subst (λ (p : Option Preface). Appends replied has (tail_behind p tail final.opening final.history final.state)) front_is after;
            site_is = is;
            is_beginning = subst (λ (at : Site). IsBeginning at final.opening) is opening;
            is_opening = λ none. subst (λ (o : State). IsOpening site o) (sym same_opening) (start_opening site (first_slots fleet site) from.text start from.starts none begins);
            run = subst (λ (at : Site). Run at final.opening final.history final.state) is run;
            served = subst (λ (at : Site). HasWaysForAll at final.opening → AllServed final.history) is served;
          }) follows tells

      -- or does not
      pub without_tail : (failed : Bool) → IfErr said (λ (told : Trouble). IsWhyNoTail told replied has (tail_behind preface tail final.opening final.history final.state))
          → IfErr said (λ (told : Trouble). IsWhyUnkept fits count asker gives fleet deliver tail again anew told old new had has file failed synced holds beside)
      without_tail failed why =
          IfErr-weaker said (λ (told : Trouble). IsWhyNoTail told replied has (tail_behind preface tail final.opening final.history final.state))
          (λ (told : Trouble). IsWhyUnkept fits count asker gives fleet deliver tail again anew told old new had has file failed synced holds beside)
          (λ (told : Trouble) w. inr (inr (inr (inr (record {
            site = site;
            between = between;
            start = start;
            planners = planners;
            spares = spares;
            starts = starts;
            is_set = set;
            rest = rest;
            final = final;
            replied = replied;
            runs = runs;
            why = subst (λ (p : Option Preface). IsWhyNoTail told replied has (tail_behind p tail final.opening final.history final.state)) front_is w;
          }))))) why
