-- what following a log says of runs from a state that was given
use Rattle.std.proofs.Common.{◌≡◌, ◌≤◌, ℕ, Bool, true, false, List, [], ◌∷◌, ◌++◌, length, refl, sym, ap, ◌∙◌, subst}
use Rattle.std.proofs.lemmas.Bool.{false≢true}
use Rattle.wh_points.specs.Points.{Site, IsLayout}
use Rattle.wh_core.specs.States.{State}
use Rattle.wh_core.specs.Steps.{Run}
use Rattle.wh_event.specs.declared.entry.Entry.{Entry}
use Rattle.wh_log.specs.Logs.{Content, Opens as LogOpens}
use Rattle.wh_log.specs.FirstBad.{IsFirstBad, Begins}
use Rattle.wh_log.specs.Judges.{RunOf, Leads, IsAccepted, CanOpen}
use Rattle.wh_log.proofs.LogLaws.{same_first_bad}
use Rattle.wh_judge.specs.Judged.{Judged}
use Rattle.wh_resume.specs.Keeping.{Kept, Opens, Steps}
use Rattle.wh_resume.specs.Behind.{IsRunFrom}
use Rattle.wh_resume.proofs.Telling.{run_of, of_run, entries_kept}

-- it stands at a state that was given, and was told nothing
pub record StandsAt (site : Site) (opening : State) (keeper : Kept) : Type 0 where
  pub layout : IsLayout site.grid site.layout
  pub judge : keeper.judge ≡ record { site = site; state = opening }
  pub given : keeper.is_given ≡ true
  pub content : keeper.content ≡ record { clock = opening.clock; slots = opening.slots; entries = [] }

-- it opens with the clock and the slots of the state
pub can_open_given : (site : Site) (opening : State) (first : Kept) → StandsAt site opening first → LogOpens opening.clock opening.slots → CanOpen Opens first
can_open_given site opening first at opens = record {
  clock = opening.clock;
  slots = opening.slots;
  fits = opens;
  opening = first;
  opened = record {
    at_starts = λ starts. absurd (false≢true (sym starts ∙ at.given));
    at_state = λ given. record { clock_is = sym (ap (λ (c : Content). c.clock) at.content); slots_are = sym (ap (λ (c : Content). c.slots) at.content); new_is = refl };
  };
}

-- what is known where the entries of a content led to a place
pub record LedFrom (site : Site) (opening : State) (content : Content) (last : Kept) : Type 0 where
  pub clock_is : content.clock ≡ opening.clock
  pub slots_are : content.slots ≡ opening.slots
  pub run : Run site opening content.entries last.judge.state
  pub entries_are : last.content.entries ≡ content.entries

pub leads_given : (site : Site) (opening : State) (first : Kept) (content : Content) (new : Kept) → StandsAt site opening first → Leads Opens Steps first content new → LedFrom site opening content new
leads_given site opening first content new at leads =
    let opens = leads.opened.at_state at.given in
    let judge : leads.opening.judge ≡ record { site = site; state = opening } = ap (λ (k : Kept). k.judge) opens.new_is ∙ at.judge in
    let told : leads.opening.content ≡ record { clock = opening.clock; slots = opening.slots; entries = [] } = ap (λ (k : Kept). k.content) opens.new_is ∙ at.content in
    record {
      clock_is = opens.clock_is ∙ ap (λ (c : Content). c.clock) at.content;
      slots_are = opens.slots_are ∙ ap (λ (c : Content). c.slots) at.content;
      run = subst (λ (s : State). Run site s content.entries new.judge.state) (ap (λ (j : Judged). j.state) judge)
          (run_of site content.entries leads.opening new (ap (λ (j : Judged). j.site) judge) leads.run);
      entries_are = ap (λ (c : Content). c.entries) (entries_kept content.entries leads.opening new leads.run)
          ∙ ap (λ (c : Content). c.entries ++ content.entries) told;
    }

run_given : (site : Site) (opening : State) (first : Kept) (content : Content) (new : Kept) → StandsAt site opening first → Leads Opens Steps first content new → IsRunFrom site opening content
run_given site opening first content new at leads =
    let led = leads_given site opening first content new at leads in
    record { clock_is = led.clock_is; slots_are = led.slots_are; state = new.judge.state; run = led.run }

given_accepted : (site : Site) (opening : State) (first : Kept) (content : Content) → StandsAt site opening first → IsRunFrom site opening content → IsAccepted Opens Steps first content
given_accepted site opening first content at history =
    let start : Kept = record { judge = record { site = site; state = opening }; is_given = first.is_given; content = first.content } in
    let same : start ≡ first = ap (λ (j : Judged). let k : Kept = record { judge = j; is_given = first.is_given; content = first.content } in k) (sym at.judge) in
    let run = of_run site content.entries opening history.state first.is_given first.content at.layout history.run in
    record {
      new = run.0;
      leads = record {
        opening = first;
        opened = record {
          at_starts = λ starts. absurd (false≢true (sym starts ∙ at.given));
          at_state = λ given. record {
            clock_is = history.clock_is ∙ sym (ap (λ (c : Content). c.clock) at.content);
            slots_are = history.slots_are ∙ sym (ap (λ (c : Content). c.slots) at.content);
            new_is = refl;
          };
        };
        run = subst (λ (k : Kept). RunOf Steps k content.entries run.0) same run.1;
      };
    }

pub bad_given : (site : Site) (opening : State) (first : Kept) (text : List ℕ) (line : ℕ) → StandsAt site opening first → IsFirstBad (IsAccepted Opens Steps first) text line → IsFirstBad (IsRunFrom site opening) text line
bad_given site opening first text line at bad =
    same_first_bad (IsAccepted Opens Steps first) (IsRunFrom site opening) text line (λ content a. run_given site opening first content a.new at a.leads) (λ content r. given_accepted site opening first content at r) bad

pub never_given : (site : Site) (opening : State) (first : Kept) (text : List ℕ) → StandsAt site opening first → (Begins (IsAccepted Opens Steps first) text → ⊥) → Begins (IsRunFrom site opening) text → ⊥
never_given site opening first text at never begins =
    never (record {
      more = begins.more;
      whole = record { content = begins.whole.content; is = begins.whole.is; holds = given_accepted site opening first begins.whole.content at begins.whole.holds };
    })
