-- A run with vehicles over its two files.
use Rattle.std.proofs.Common.{◌≡◌, ℕ, Bool, List, inl, inr, refl, ◌∙◌, subst, sym, ap, Option, None, Result}
use Rattle.std.specs.Prelude.{true}
use Rattle.std.specs.declared.alloc.AllocError.{AllocError}
use Rattle.std.specs.Io.KnownBytes.{Appends}
use Rattle.std.proofs.KnownBytes.{Keeps-refl}
use Rattle.wh_grid.specs.Grids.{Floor}
use Rattle.wh_points.specs.Points.{Site}
use Rattle.wh_lines.specs.Input.{Input}
use Rattle.wh_replay.specs.declared.asker.Asker.{Asker}
use Rattle.wh_core.specs.States.{State}
use Rattle.wh_core.specs.Laws.{IsBeginning, IsOpening}
use Rattle.wh_core.specs.Steps.{Run}
use Rattle.wh_judge.specs.Drafts.{AllServed, Seen, HasWaysForAll}
use Rattle.wh_drive.specs.Drives.{Drive}
use Rattle.wh_dispatch.specs.Crews.{Crew}
use Rattle.wh_dispatch.specs.SettingOut.{SomeInStep}
use Rattle.wh_dispatch.proofs.Together.{each_script_happens}
use Rattle.wh_edge.specs.Site.{SiteKept}
use Rattle.wh_edge.specs.declared.trouble.Trouble.{Trouble}
use Rattle.wh_options.specs.declared.chosen.Fleet.{Fleet}
use Rattle.wh_options.specs.declared.chosen.Tail.{Tail}
use Rattle.wh_options.specs.declared.chosen.VehicleOptions.{VehicleOptions}
use Rattle.wh_resume.specs.declared.recovery.Preface.{Preface}
use Rattle.wh_continue.proofs.Opened.{start_opening}
use Rattle.wh_continue.specs.Again.{CanTellAgain}
use Rattle.wh_continue.specs.Besides.{StandsBeside}
use Rattle.wh_continue.specs.Opening.{IsOpened, IsWhyNotBoth}
use Rattle.wh_continue.specs.Running.{Opens}
use Rattle.wh_continue.specs.declared.running.KeepFault.{KeepFault}
use Rattle.wh_continue.specs.declared.beside.Beside.{Beside}
use Rattle.wh_continue.specs.declared.starting.Start.{Start}
use Rattle.wh_convoy.specs.Beginning.{BeginsArrivals, first_line}
use Rattle.wh_convoy.specs.Convoys.{Held, depot}
use Rattle.wh_convoy.specs.Riding.{RidesFrom, RidesOn, RidesToEnd}
use Rattle.wh_convoy.specs.declared.finding.Stood.{Stood}
use Rattle.wh_dispatch.proofs.Kept.{kept_is_served}
use Rattle.wh_service.specs.Convoys.{GoesOn, GoesToEnd, IsWhyNoConvoy, IsWhyNotOn, IsWhyUnconvoyed, ServesConvoy, StandsOver, StartsConvoy}
use Rattle.wh_service.specs.Kept.{HasLog, IsSeated, IsSet, Siding, StartsFrom, first_slots, keep_trouble}
use Rattle.wh_service.specs.declared.convoys.DriveTrouble.{DriveTrouble}
use Rattle.wh_service.specs.declared.convoys.DriveTrouble.TheVariants.{Plain}
use Rattle.wh_service.specs.declared.parts.PlannerParts.{PlannerParts}
use Rattle.wh_service.specs.Tails.{tail_behind}
use Rattle.wh_service.proofs.Lasting.{before_of_begun, counts_before, preface_of_begun, start_site, told_before}

abbrev record_of : Option (List ℕ) → Option (List ℕ) → Held
record_of log arrivals = record { log = log; arrivals = arrivals }

-- two files of one content
pub both : (log held arrivals came : Option (List ℕ)) → held ≡ log → came ≡ arrivals → record_of held came ≡ record_of log arrivals
both log held arrivals came p q = ap (λ (h : Option (List ℕ)). record_of h came) p ∙ ap (λ (a : Option (List ℕ)). record_of log a) q

module _ {X : Type 0} (fits : X → Floor → Bool) (count : X → ℕ) (asker : Asker) (bound : ℕ) (before after : Input) (book : Seen) (spares : List X) (new : Seen) (crew : Crew)
    (had has : Option (List ℕ)) (begun holds synced : Held) where
  -- lines that are served change no site, and the book began as it did
  same_start : (rest : List X) (d : Drive) → RidesToEnd fits count asker bound before after book spares d new rest crew had has begun holds synced →
      (new.site ≡ book.site) × (new.opening ≡ book.opening)
  same_start rest d r =
      let c = r.rides.convoys in
      let old_depot = depot book spares r.rides.set in
      let new_depot = depot new rest r.rides.final in
      let happened = each_script_happens fits count asker bound _ old_depot new_depot c.texts (kept_is_served fits count asker bound _ old_depot new_depot c.texts c.kept c.lines.all) in
      (happened.site, happened.opening)

module _ {X : Type 0} (fits : X → Floor → Bool) (count : X → ℕ) (asker : Asker) (again : Option ℕ) (bound : ℕ) (before after : Input) (start : Start) (stands : Stood) (spares rest : List X)
    (some : SomeInStep start.book stands.order) (final : Seen) (crew : Crew) (had replied : Option (List ℕ)) (files holds synced : Held)
    (runs : RidesOn fits count asker again bound before after start stands spares final rest crew had replied files holds synced)
    (begins : IsBeginning final.site final.opening) (run : Run final.site final.opening final.history final.state) (served : HasWaysForAll final.site final.opening → AllServed final.history) where
  pub goes_to_end : GoesToEnd fits count asker again bound before after start stands spares final crew had replied files holds synced
  goes_to_end =
      let r = runs.rides some.0 some.1 in
      let same = same_start fits count asker bound before after start.book spares final crew runs.counted replied runs.begun holds synced rest some.0 r in
      record {
        rest = rest;
        runs = runs;
        drive = r.rides.final;
        manned = r.rides.manned;
        site_is = same.0;
        opening_is = same.1;
        is_beginning = begins;
        run = run;
        served = served;
      }

-- a run that went on once its log was begun went on from what stood before
goes_before : {X : Type 0} (fits : X → Floor → Bool) (count : X → ℕ) (asker : Asker) (tail : Tail) (again : Option ℕ) (bound : ℕ) (before after : Input) (start begun : Start) (stands : Stood) (spares : List X)
    (had has : Option (List ℕ)) (files : Held) (held : Option (List ℕ)) (holds synced : Held) (left : ℕ) → begun.book ≡ start.book → begun.before ≡ start.before → begun.preface ≡ start.preface → IsOpened start begun files.log held
    → GoesOn fits count asker tail again bound before after begun stands spares had has (record_of held files.arrivals) holds synced left → GoesOn fits count asker tail again bound before after start stands spares had has files holds synced left
goes_before {X} fits count asker tail again bound before after start begun stands spares had has files held holds synced left book_is before_is preface_is opened on =
    let g = on.goes in
    let ran = g.runs in
    record {
      final = on.final;
      crew = on.crew;
      replied = on.replied;
      goes = record {
        rest = g.rest;
        runs = record {
          counted = ran.counted;
          begun = ran.begun;
          begins = record {
            counts = counts_before again had ran.counted start begun files.log held ran.begun.log book_is before_is opened ran.begins.counts;
            arrivals = subst (λ (p : Option Preface). BeginsArrivals (first_line p) stands.bytes files.arrivals ran.begun.arrivals) preface_is ran.begins.arrivals;
          };
          rides = subst (λ (b : Seen). RidesFrom fits count asker bound before after b spares stands.order on.final g.rest on.crew ran.counted on.replied ran.begun holds synced) book_is ran.rides;
          whole = told_before start begun files.log held _ opened ran.whole;
        };
        drive = g.drive;
        manned = g.manned;
        site_is = g.site_is ∙ ap (λ (b : Seen). b.site) book_is;
        opening_is = g.opening_is ∙ ap (λ (b : Seen). b.opening) book_is;
        is_beginning = g.is_beginning;
        run = g.run;
        served = g.served;
      };
      follows = subst (λ (p : Option Preface). Appends on.replied has (tail_behind p tail on.final.opening on.final.history on.final.state)) preface_is on.follows;
      left_is = on.left_is;
    }

module _ {X : Type 0} (fits : X → Floor → Bool) (count : X → ℕ) (asker : Asker) (gives : PlannerParts → Result X AllocError → Type 0) (fleet : Fleet) (tail : Tail) (again : Option ℕ) (anew : Bool) (pace : VehicleOptions)
    (old between : Input) (files : Held) (beside : Siding) (site : Site) (start : Start) (stands : Stood) (planners spares : List X)
    (site_text : List ℕ) (site_read : SiteKept fleet.homes old between site site_text) (rule : site.layout.nofollow ≡ true)
    (found : Beside) (stands_beside : StandsBeside beside.before site_text found)
    (from : StartsFrom fleet site files.log start) (has_log : HasLog anew found start) (within : CanTellAgain again start)
    (m : ℕ) (ahead_is : m ≡ pace.ahead) (over : StandsOver start m files.arrivals stands)
    (seated : IsSeated gives fleet site.grid start.book.state.slots planners spares) where
  abbrev starts : StartsConvoy gives fleet again anew pace.ahead old between files beside site start stands planners spares
  starts = record {
    starts = record { text = site_text; site_read = site_read; found = found; stands = stands_beside; starts = from; has_log = has_log; within = within; seated = seated };
    rule = rule;
    over = subst (λ (n : ℕ). StandsOver start n files.arrivals stands) ahead_is over;
  }

  -- the log was not begun, or the site not kept beside it
  pub stops_opening : (fault : KeepFault) (told : Trouble) (had : Option (List ℕ)) (now holds synced : Held) (log_failed arrivals_failed : Bool) (aside : Option (List ℕ)) → told ≡ keep_trouble fault → now ≡ files → aside ≡ beside.before
      → holds.arrivals ≡ now.arrivals → IsWhyNotBoth fault start now.log holds.log log_failed aside beside.after beside.failed site_text
      → IsWhyUnconvoyed fits count asker gives fleet tail again anew pace (Plain told) old between had had files holds synced log_failed arrivals_failed beside
  stops_opening fault told had now holds synced log_failed arrivals_failed aside is same still arrivals why = inr (inr (inr (inl (
    fault,
    ap Plain is,
    record {
      site = site;
      start = start;
      stands = stands;
      planners = planners;
      spares = spares;
      starts = starts;
      arrivals = arrivals ∙ ap (λ (h : Held). h.arrivals) same;
      why = subst (λ (b : Option (List ℕ)). IsWhyNotBoth fault start files.log holds.log log_failed b beside.after beside.failed site_text) still
          (subst (λ (h : Held). IsWhyNotBoth fault start h.log holds.log log_failed aside beside.after beside.failed site_text) same why);
    },
    Keeps-refl had,
  ))))

  module _ (new : Input) (had has : Option (List ℕ)) (held now holds synced : Held) (same_files : now ≡ files) (begun : Start) (book_is : begun.book ≡ start.book) (opened : IsOpened start begun now.log held.log) (still_arrivals : held.arrivals ≡ now.arrivals) (used : Asker) (same : used ≡ asker) (n : ℕ) (behind_is : n ≡ pace.behind)
      (aside : Option (List ℕ)) (still : aside ≡ beside.before) (opens : Opens aside beside.after site_text) (safe : beside.synced ≡ beside.after) where
    opens_file : IsOpened start begun files.log held.log
    opens_file = subst (λ (h : Held). IsOpened start begun h.log held.log) same_files opened

    held_is : held ≡ record_of held.log files.arrivals
    held_is = ap (λ (a : Option (List ℕ)). record_of held.log a) (still_arrivals ∙ ap (λ (h : Held). h.arrivals) same_files)

    before_is : begun.before ≡ start.before
    before_is = before_of_begun fleet site files.log files.log held.log start begun from opens_file

    set : IsSet beside site_text
    set = (subst (λ (b : Option (List ℕ)). Opens b beside.after site_text) still opens, safe)

    -- a run that its log tells with no front began with an opening state
    opening_on : (final : Seen) → final.site ≡ start.book.site → final.opening ≡ start.book.opening → IsBeginning final.site final.opening → start.preface ≡ None → IsOpening site final.opening
    opening_on final site_same opening_same begins none =
        let on_site : IsBeginning site final.opening = subst (λ (at : Site). IsBeginning at final.opening) (site_same ∙ start_site site (first_slots fleet site) from.text start from.starts) begins in
        subst (λ (o : State). IsOpening site o) (sym opening_same)
        (start_opening site (first_slots fleet site) from.text start from.starts none (subst (λ (o : State). IsBeginning site o) opening_same on_site))

    pub serves_convoy : (left : ℕ) → GoesOn fits count used tail again n between new begun stands spares had has held holds synced left
        → ServesConvoy fits count asker gives fleet tail again anew pace old new had has files holds synced beside left
    serves_convoy left goes =
        let on : GoesOn fits count asker tail again pace.behind between new start stands spares had has files holds synced left =
        goes_before fits count asker tail again pace.behind between new start begun stands spares had has files held.log holds synced left book_is before_is
        (preface_of_begun fleet site files.log files.log held.log start begun from opens_file) opens_file
        (subst (λ (h : Held). GoesOn fits count asker tail again pace.behind between new begun stands spares had has h holds synced left) held_is
        (subst (λ (k : ℕ). GoesOn fits count asker tail again k between new begun stands spares had has held holds synced left) behind_is
        (subst (λ (t : Asker). GoesOn fits count t tail again n between new begun stands spares had has held holds synced left) same goes))) in
        record {
          site = site;
          between = between;
          start = start;
          stands = stands;
          planners = planners;
          spares = spares;
          starts = starts;
          site_is = start_site site (first_slots fleet site) from.text start from.starts;
          is_set = set;
          goes_on = on;
          is_opening = opening_on on.final on.goes.site_is on.goes.opening_is on.goes.is_beginning;
        }

    pub stops_convoy : (told : Trouble) (log_failed arrivals_failed : Bool) → IsWhyNotOn fits count used tail again n told between new begun stands planners spares had has held holds synced log_failed arrivals_failed
        → IsWhyUnconvoyed fits count asker gives fleet tail again anew pace (Plain told) old new had has files holds synced log_failed arrivals_failed beside
    stops_convoy told log_failed arrivals_failed why = inr (inr (inr (inr (
      told,
      refl,
      record {
        site = site;
        between = between;
        start = start;
        stands = stands;
        planners = planners;
        spares = spares;
        starts = starts;
        is_set = set;
        begun = begun;
        opened = held.log;
        opens = opens_file;
        why = subst (λ (h : Held). IsWhyNotOn fits count asker tail again pace.behind told between new begun stands planners spares had has h holds synced log_failed arrivals_failed) held_is
            (subst (λ (k : ℕ). IsWhyNotOn fits count asker tail again k told between new begun stands planners spares had has held holds synced log_failed arrivals_failed) behind_is
            (subst (λ (t : Asker). IsWhyNotOn fits count t tail again n told between new begun stands planners spares had has held holds synced log_failed arrivals_failed) same why));
      },
    ))))

-- as many cells ahead as the options say
pub at_ahead : (fleet : Fleet) (again : Option ℕ) (anew : Bool) (n ahead : ℕ) (site : Site) (files : Held) (beside : Option (List ℕ)) (text : List ℕ) (told : DriveTrouble) → n ≡ ahead →
    IsWhyNoConvoy fleet again anew n site files beside text told → IsWhyNoConvoy fleet again anew ahead site files beside text told
at_ahead fleet again anew n ahead site files beside text told same why = subst (λ (k : ℕ). IsWhyNoConvoy fleet again anew k site files beside text told) same why

-- planners for the slots of a state
pub seated_at : {X : Type 0} (gives : PlannerParts → Result X AllocError → Type 0) (fleet : Fleet) (grid : Floor) (slots at : List ℕ) (planners spares : List X) → slots ≡ at →
    IsSeated gives fleet grid slots planners spares → IsSeated gives fleet grid at planners spares
seated_at gives fleet grid slots at planners spares same seated = subst (λ (ns : List ℕ). IsSeated gives fleet grid ns planners spares) same seated
