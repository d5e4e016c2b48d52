-- what following a log says of runs from an opening
use Rattle.std.proofs.Common.{◌≡◌, ℕ, zero, suc, ◌≤◌, true, List, [], ◌∷◌, ◌++◌, length, refl, sym, ap, ◌∙◌, subst, arith, lit≤, append-nil, Option, None, Some, false, inl, inr}
use Rattle.std.specs.List.{AllByRecursion}
use Rattle.wh_points.specs.Points.{Site, IsLayout}
use Rattle.wh_core.specs.States.{State, opened}
use Rattle.wh_core.specs.Steps.{Run}
use Rattle.wh_event.specs.declared.entry.Entry.{Entry}
use Rattle.wh_log.specs.declared.follow_log.Followed.TheVariants as followed
use Rattle.wh_log.specs.Logs.{Content, IsSlots, IsLogText, end_line}
use Rattle.wh_log.specs.Torn.{Holds, IsUnopened, begun_lines}
use Rattle.wh_log.specs.FirstBad.{IsFirstBad, Begins}
use Rattle.wh_log.specs.declared.version.Version.{Version}
use Rattle.wh_log.proofs.Following.{one_more}
use Rattle.wh_log.specs.Torn.{Recovers}
use Rattle.wh_log.specs.declared.front_log.Front.{Front}
use Rattle.wh_log.specs.declared.front_log.Front.TheVariants.{Whole, Unopened, Bad}
use Rattle.wh_words.specs.Lines.{text_of}
use Rattle.wh_log.specs.Judges.{RunOf, Leads, IsAccepted, CanOpen, Concludes}
use Rattle.wh_log.proofs.LogLaws.{same_first_bad, no_log, one_content}
use Rattle.wh_judge.specs.Judged.{Judged}
use Rattle.wh_judge.specs.declared.verifier.Verified.{Verified}
use Rattle.wh_judge.specs.declared.verifier.Verified.TheVariants as told
use Rattle.wh_judge.specs.Following.{Opens, Steps}
use Rattle.wh_judge.specs.Verifying.{Says, SaysUnended, IsRunOf, told_front}
use Rattle.wh_judge.specs.declared.verifier.VerifiedFront.{VerifiedFront}

twos : ℕ → List ℕ
twos zero = []
twos (suc n) = 2 ∷ twos n

length-twos : (n : ℕ) → length (twos n) ≡ n
unfolding twos
length-twos zero = refl
length-twos (suc n) = ap suc (length-twos n)

each_two : (n : ℕ) → AllByRecursion IsSlots (twos n)
unfolding twos
each_two zero = tt
each_two (suc n) = ((lit≤ tt, lit≤ tt), each_two n)

-- two slots for each agent will do
pub can_open : (site : Site) (first : Judged) → first.site ≡ site → 1 ≤ length site.layout.agents → length site.layout.agents ≤ 256 → CanOpen Opens first
can_open site first is some few =
    let count = length site.layout.agents in
    let n : length (twos count) ≡ count = length-twos count in
    let seats : length (twos count) ≡ length first.site.layout.agents = n ∙ ap (λ (s : Site). length s.layout.agents) (sym is) in
    record {
      clock = 0;
      slots = twos count;
      opening = record { site = first.site; state = opened first.site.layout 0 (twos count) };
      opened = record { clock_fits = lit≤ tt; seats = seats; new_is = refl };
      fits = record { clock_fits = lit≤ tt; some = omega (arith, n); few = omega (arith, n); each = each_two count };
    }

-- a run of the judge is a run of the warehouse
run_of : (site : Site) (entries : List Entry) (old new : Judged) → old.site ≡ site → RunOf Steps old entries new → Run site old.state entries new.state
run_of site [] old new is run = ap (λ (j : Judged). j.state) run
run_of site (entry ∷ entries) old new is run =
    let mid = run.0 in
    let S : Site → Type 0 = λ s. Rattle.wh_core.specs.Steps.Step s old.state entry mid.state in
    (mid.state, subst S is run.1.step, run_of site entries mid new (run.1.site ∙ is) run.2)

-- and the other way round
of_run : (site : Site) (entries : List Entry) (old new : State) → IsLayout site.grid site.layout → Run site old entries new →
    RunOf Steps (record { site = site; state = old }) entries (record { site = site; state = new })
of_run site [] old new layout run = ap (λ (s : State). let j : Judged = record { site = site; state = s } in j) run
of_run site (entry ∷ entries) old new layout run =
    (record { site = site; state = run.0 }, record { layout = layout; step = run.1; site = refl }, of_run site entries run.0 new layout run.2)

pub leads_run : (site : Site) (first : Judged) (content : Content) (new : Judged) → IsLayout site.grid site.layout → first.site ≡ site → Leads Opens Steps first content new →
    IsRunOf site content
leads_run site first content new layout is leads =
    let opens = leads.opened in
    let stands : leads.opening ≡ record { site = site; state = opened site.layout content.clock content.slots } =
    opens.new_is ∙ ap (λ (s : Site). let j : Judged = record { site = s; state = opened s.layout content.clock content.slots } in j) is in
    let run = run_of site content.entries leads.opening new (ap (λ (j : Judged). j.site) stands) leads.run in
    record {
      is_opening = record {
        layout = layout;
        clock = content.clock;
        clock_fits = opens.clock_fits;
        slots = content.slots;
        seats = opens.seats ∙ ap (λ (s : Site). length s.layout.agents) is;
        is_opened = refl;
      };
      state = new.state;
      run = subst (λ (s : State). Run site s content.entries new.state) (ap (λ (j : Judged). j.state) stands) run;
    }

run_accepted : (site : Site) (first : Judged) (content : Content) → first.site ≡ site → IsRunOf site content → IsAccepted Opens Steps first content
run_accepted site first content is history =
    let o = history.is_opening in
    let slots : content.slots ≡ o.slots = ap (λ (s : State). s.slots) o.is_opened in
    let clock : content.clock ≡ o.clock = ap (λ (s : State). s.clock) o.is_opened in
    record {
      new = record { site = site; state = history.state };
      leads = record {
        opening = record { site = site; state = opened site.layout content.clock content.slots };
        opened = record {
          clock_fits = rw clock o.clock_fits;
          seats = ap length slots ∙ o.seats ∙ ap (λ (s : Site). length s.layout.agents) (sym is);
          new_is = ap (λ (s : Site). let j : Judged = record { site = s; state = opened s.layout content.clock content.slots } in j) (sym is);
        };
        run = of_run site content.entries _ history.state o.layout history.run;
      };
    }

-- what is refused of the judge's runs is refused of the warehouse's
pub bad_run : (site : Site) (first : Judged) (text : List ℕ) (line : ℕ) → IsLayout site.grid site.layout → first.site ≡ site → IsFirstBad (IsAccepted Opens Steps first) text line → IsFirstBad (IsRunOf site) text line
bad_run site first text line layout is bad =
    same_first_bad (IsAccepted Opens Steps first) (IsRunOf site) text line (λ content a. leads_run site first content a.new layout is a.leads) (λ content r. run_accepted site first content is r) bad

pub says_run : (site : Site) (first new : Judged) (text : List ℕ) (count : ℕ) → IsLayout site.grid site.layout → first.site ≡ site →
    Concludes Opens Steps text first new (followed.Whole count) → Says site text (told.Run count)
says_run site first new text count layout is said = (said.0, said.1, leads_run site first said.0 new layout is said.2, said.3)

pub says_bad : (site : Site) (first new : Judged) (text : List ℕ) (line : ℕ) → IsLayout site.grid site.layout → first.site ≡ site →
    Concludes Opens Steps text first new (followed.Bad line) → Says site text (told.Bad line)
says_bad site first new text line layout is said = bad_run site first text line layout is said

-- with its last line it is a whole log
pub ended_text : (version : Version) (content : Content) (text : List ℕ) (bytes : ℕ) → Holds version content true text bytes → IsLogText content text
ended_text version content text bytes holds = record {
  version = version;
  fits = holds.fits;
  text_is = holds.text_is ∙ ap (λ (rest : List ℕ). text_of (begun_lines version content) ++ rest) holds.rest_is
      ∙ one_more (begun_lines version content) (end_line (length content.entries)) [] ∙ append-nil (text_of (begun_lines version content ++ end_line (length content.entries) ∷ []));
}

pub never_run : (site : Site) (first : Judged) (text : List ℕ) → first.site ≡ site → (Begins (IsAccepted Opens Steps first) text → ⊥) → Begins (IsRunOf site) text → ⊥
never_run site first text is never begins =
    let log = begins.whole in
    never (record { more = begins.more; whole = record { content = log.content; is = log.is; holds = run_accepted site first log.content is log.holds } })

-- what is said of a log whose entries are a run is that they are
pub says_only : (site : Site) (text : List ℕ) (said : Verified) (content : Content) → Says site text said → IsLogText content text → IsRunOf site content →
    said ≡ told.Run (length content.entries)
says_only site text (told.Run entries) content says is history =
    ap (λ n. told.Run n) (sym says.3 ∙ ap (λ (c : Content). length c.entries) (one_content text says.0 content says.1 is))
says_only site text (told.Bad line) content says is history =
    absurd (no_log (IsRunOf site) text line says (record { content = content; is = is; holds = history }))

-- ---- a log that may lack its last line

abbrev pub SaysTold : Site → List ℕ → Option VerifiedFront → Type 0
SaysTold site text None = IsUnopened text
SaysTold site text (Some said) = SaysUnended site text said.verified said.is_ended

pub says_front : (site : Site) (first new : Judged) (text : List ℕ) (front : Front) → IsLayout site.grid site.layout → first.site ≡ site
    → Recovers Opens Steps text first new front → SaysTold site text (told_front front)
says_front site first new text (Whole version count bytes true) layout is said =
    (said.0, ended_text version said.0 text bytes said.1, leads_run site first said.0 new layout is said.2, said.3)
says_front site first new text (Whole version count bytes false) layout is said = record {
  version = version;
  content = said.0;
  bytes = bytes;
  holds = said.1;
  is_run = leads_run site first said.0 new layout is said.2;
  count = said.3;
}
says_front site first new text (Bad line bytes) layout is said = (bad_run site first text line layout is said.0, inl (never_run site first text is said.1))
says_front site first new text (Unopened found) layout is said = said.0

pub says_unopened : (site : Site) (text : List ℕ) (said : Verified) → IsUnopened text → Says site text said → SaysUnended site text said true
says_unopened site text (told.Run entries) short says = says
says_unopened site text (told.Bad line) short says = (says, inr short)
