-- what following a log says of runs from an opening
use Rattle.std.proofs.Common.{◌≡◌, ℕ, Bool, false, zero, suc, ◌≤◌, List, [], ◌∷◌, ◌++◌, length, refl, sym, ap, ◌∙◌, subst, arith, lit≤, append_assoc, append-nil}
use Rattle.std.specs.List.{AllByRecursion}
use Rattle.std.proofs.lemmas.Bool.{false≢true}
use Rattle.wh_grid.specs.Grids.{Floor}
use Rattle.wh_points.specs.Points.{Layout, Site, IsLayout}
use Rattle.wh_core.specs.States.{State, opened}
use Rattle.wh_core.specs.Steps.{Run, Step}
use Rattle.wh_core.specs.Laws.{IsOpening}
use Rattle.wh_event.specs.declared.entry.Entry.{Entry}
use Rattle.wh_log.specs.Logs.{Content, IsSlots}
use Rattle.wh_log.specs.FirstBad.{IsFirstBad, Begins}
use Rattle.wh_log.specs.Judges.{RunOf, Leads, IsAccepted, CanOpen}
use Rattle.wh_log.proofs.LogLaws.{same_first_bad}
use Rattle.wh_judge.specs.Judged.{Judged}
use Rattle.wh_resume.specs.Keeping.{Kept, Opens, Steps}
use Rattle.wh_resume.specs.Resuming.{IsRunOf}

twos : ℕ → List ℕ
twos zero = []
twos (suc n) = 2 ∷ twos n

length-twos : (n : ℕ) → length (twos n) ≡ n
unfolding twos
length-twos zero = refl
length-twos (suc n) = ap suc (length-twos n)

each_two : (n : ℕ) → AllByRecursion IsSlots (twos n)
unfolding twos
each_two zero = tt
each_two (suc n) = ((lit≤ tt, lit≤ tt), each_two n)

-- two slots for each agent will do
pub can_open : (site : Site) (first : Kept) → first.judge.site ≡ site → first.is_given ≡ false → 1 ≤ length site.layout.agents → length site.layout.agents ≤ 256 → CanOpen Opens first
can_open site first is not some few =
    let count = length site.layout.agents in
    let n : length (twos count) ≡ count = length-twos count in
    let seats : length (twos count) ≡ length first.judge.site.layout.agents = n ∙ ap (λ (s : Site). length s.layout.agents) (sym is) in
    record {
      clock = 0;
      slots = twos count;
      opening = record {
        judge = record { site = first.judge.site; state = opened first.judge.site.layout 0 (twos count) };
        is_given = first.is_given;
        content = record { clock = 0; slots = twos count; entries = first.content.entries };
      };
      opened = record {
        at_starts = λ no. record { clock_fits = lit≤ tt; seats = seats; judge_is = refl; given_is = refl; content_is = refl };
        at_state = λ yes. absurd (false≢true (sym not ∙ yes));
      };
      fits = record { clock_fits = lit≤ tt; some = omega (arith, n); few = omega (arith, n); each = each_two count };
    }

-- a run of the keeper is a run of the warehouse
pub run_of : (site : Site) (entries : List Entry) (old new : Kept) → old.judge.site ≡ site → RunOf Steps old entries new → Run site old.judge.state entries new.judge.state
run_of site [] old new is run = ap (λ (k : Kept). k.judge.state) run
run_of site (entry ∷ entries) old new is run =
    let mid = run.0 in
    let S : Site → Type 0 = λ s. Step s old.judge.state entry mid.judge.state in
    (mid.judge.state, subst S is run.1.step, run_of site entries mid new (run.1.site ∙ is) run.2)

-- and what it kept is what it was told
pub entries_kept : (entries : List Entry) (old new : Kept) → RunOf Steps old entries new
    → new.content ≡ record { clock = old.content.clock; slots = old.content.slots; entries = old.content.entries ++ entries }
entries_kept [] old new run =
    ap (λ (k : Kept). k.content) run ∙ ap (λ (es : List Entry). let c : Content = record { clock = old.content.clock; slots = old.content.slots; entries = es } in c) (sym (append-nil old.content.entries))
entries_kept (entry ∷ entries) old new run =
    let mid = run.0 in
    entries_kept entries mid new run.2
    ∙ ap (λ (c : Content). let d : Content = record { clock = c.clock; slots = c.slots; entries = c.entries ++ entries } in d) run.1.content_is
    ∙ ap (λ (es : List Entry). let d : Content = record { clock = old.content.clock; slots = old.content.slots; entries = es } in d) (append_assoc old.content.entries (entry ∷ []) entries)

-- and the other way round
pub of_run : (site : Site) (entries : List Entry) (old new : State) (given : Bool) (content : Content) → IsLayout site.grid site.layout → Run site old entries new
    → (last : Kept) × RunOf Steps (record { judge = record { site = site; state = old }; is_given = given; content = content }) entries last
of_run site [] old new given content layout run = (record { judge = record { site = site; state = old }; is_given = given; content = content }, refl)
of_run site (entry ∷ entries) old new given content layout run =
    let next : Content = record { clock = content.clock; slots = content.slots; entries = content.entries ++ entry ∷ [] } in
    let rest = of_run site entries run.0 new given next layout run.2 in (
      rest.0,
      (
        record { judge = record { site = site; state = run.0 }; is_given = given; content = next },
        record { layout = layout; step = run.1; site = refl; given_is = refl; content_is = refl },
        rest.1,
      ),
    )

-- what is known where the entries of a content led to a place
pub record Led (site : Site) (content : Content) (last : Kept) : Type 0 where
  pub is_opening : IsOpening site (opened site.layout content.clock content.slots)
  pub run : Run site (opened site.layout content.clock content.slots) content.entries last.judge.state
  pub content_is : last.content ≡ content

pub leads_led : (site : Site) (first : Kept) (content : Content) (new : Kept) → IsLayout site.grid site.layout → first.judge.site ≡ site → first.is_given ≡ false → first.content.entries ≡ []
    → Leads Opens Steps first content new → Led site content new
leads_led site first content new layout is not empty leads =
    let opens = leads.opened.at_starts not in
    let stands : leads.opening.judge ≡ record { site = site; state = opened site.layout content.clock content.slots } =
    opens.judge_is ∙ ap (λ (s : Site). let j : Judged = record { site = s; state = opened s.layout content.clock content.slots } in j) is in
    let run = run_of site content.entries leads.opening new (ap (λ (j : Judged). j.site) stands) leads.run in
    let began : leads.opening.content ≡ record { clock = content.clock; slots = content.slots; entries = [] } =
    opens.content_is ∙ ap (λ (es : List Entry). let c : Content = record { clock = content.clock; slots = content.slots; entries = es } in c) empty in
    record {
      is_opening = record {
        layout = layout;
        clock = content.clock;
        clock_fits = opens.clock_fits;
        slots = content.slots;
        seats = opens.seats ∙ ap (λ (s : Site). length s.layout.agents) is;
        is_opened = refl;
      };
      run = subst (λ (s : State). Run site s content.entries new.judge.state) (ap (λ (j : Judged). j.state) stands) run;
      content_is =
          entries_kept content.entries leads.opening new leads.run
          ∙ ap (λ (c : Content). let d : Content = record { clock = c.clock; slots = c.slots; entries = c.entries ++ content.entries } in d) began;
    }

-- the same of the parts that were taken out
pub record HasParts (site : Site) (content : Content) (clock : ℕ) (slots : List ℕ) (history : List Entry) (state : State) : Type 0 where
  pub is_opening : IsOpening site (opened site.layout clock slots)
  pub run : Run site (opened site.layout clock slots) history state
  pub opening_is : opened site.layout clock slots ≡ opened site.layout content.clock content.slots
  pub history_is : history ≡ content.entries

pub led_parts : (site : Site) (content : Content) (last : Kept) (clock : ℕ) (slots : List ℕ) (history : List Entry) (state : State) → Led site content last → clock ≡ last.content.clock → slots ≡ last.content.slots
    → history ≡ last.content.entries → state ≡ last.judge.state → HasParts site content clock slots history state
led_parts site content last clock slots history state led a b c d =
    let e : clock ≡ content.clock = a ∙ ap (λ (k : Content). k.clock) led.content_is in
    let f : slots ≡ content.slots = b ∙ ap (λ (k : Content). k.slots) led.content_is in
    let h : history ≡ content.entries = c ∙ ap (λ (k : Content). k.entries) led.content_is in
    let o : opened site.layout clock slots ≡ opened site.layout content.clock content.slots =
    ap (λ n. opened site.layout n slots) e ∙ ap (λ ns. opened site.layout content.clock ns) f in
    record {
      is_opening = subst (λ (s : State). IsOpening site s) (sym o) led.is_opening;
      run = subst (λ (s : State). Run site s history state) (sym o)
          (subst (λ (es : List Entry). Run site (opened site.layout content.clock content.slots) es state) (sym h)
          (subst (λ (s : State). Run site (opened site.layout content.clock content.slots) content.entries s) (sym d) led.run));
      opening_is = o;
      history_is = h;
    }

pub site_of : (s : Site) (grid : Floor) (layout : Layout) (homes : Bool) → grid ≡ s.grid → layout ≡ s.layout → homes ≡ s.homes → record { grid = grid; layout = layout; homes = homes } ≡ s
site_of s grid layout homes e f h =
    ap (λ (g : Floor). let x : Site = record { grid = g; layout = layout; homes = homes } in x) e
    ∙ ap (λ (l : Layout). let x : Site = record { grid = s.grid; layout = l; homes = homes } in x) f
    ∙ ap (λ (b : Bool). let x : Site = record { grid = s.grid; layout = s.layout; homes = b } in x) h

leads_run : (site : Site) (first : Kept) (content : Content) (new : Kept) → IsLayout site.grid site.layout → first.judge.site ≡ site → first.is_given ≡ false → first.content.entries ≡ []
    → Leads Opens Steps first content new → IsRunOf site content
leads_run site first content new layout is not empty leads =
    let led = leads_led site first content new layout is not empty leads in
    record { is_opening = led.is_opening; state = new.judge.state; run = led.run }

run_accepted : (site : Site) (first : Kept) (content : Content) → first.judge.site ≡ site → first.is_given ≡ false → IsRunOf site content → IsAccepted Opens Steps first content
run_accepted site first content is not history =
    let o = history.is_opening in
    let slots : content.slots ≡ o.slots = ap (λ (s : State). s.slots) o.is_opened in
    let clock : content.clock ≡ o.clock = ap (λ (s : State). s.clock) o.is_opened in
    let kept : Content = record { clock = content.clock; slots = content.slots; entries = first.content.entries } in
    let run = of_run site content.entries (opened site.layout content.clock content.slots) history.state first.is_given kept o.layout history.run in
    record {
      new = run.0;
      leads = record {
        opening = record { judge = record { site = site; state = opened site.layout content.clock content.slots }; is_given = first.is_given; content = kept };
        opened = record {
          at_starts = λ no. record {
            clock_fits = rw clock o.clock_fits;
            seats = ap length slots ∙ o.seats ∙ ap (λ (s : Site). length s.layout.agents) (sym is);
            judge_is = ap (λ (s : Site). let j : Judged = record { site = s; state = opened s.layout content.clock content.slots } in j) (sym is);
            given_is = refl;
            content_is = refl;
          };
          at_state = λ yes. absurd (false≢true (sym not ∙ yes));
        };
        run = run.1;
      };
    }

pub tells_bad : (site : Site) (first : Kept) (text : List ℕ) (line : ℕ) → IsLayout site.grid site.layout → first.judge.site ≡ site → first.is_given ≡ false → first.content.entries ≡ []
    → IsFirstBad (IsAccepted Opens Steps first) text line × (Begins (IsAccepted Opens Steps first) text → ⊥) → IsFirstBad (IsRunOf site) text line × (Begins (IsRunOf site) text → ⊥)
tells_bad site first text line layout is not empty bad = (
  same_first_bad (IsAccepted Opens Steps first) (IsRunOf site) text line (λ content a. leads_run site first content a.new layout is not empty a.leads) (λ content r. run_accepted site first content is not r) bad.0,
  λ begins.
      bad.1 (record {
        more = begins.more;
        whole = record { content = begins.whole.content; is = begins.whole.is; holds = run_accepted site first begins.whole.content is not begins.whole.holds };
      }),
)
