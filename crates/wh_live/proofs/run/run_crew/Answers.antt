use Rattle.std.proofs.Common.{rules, length, ◌≡◌, ℕ, List, ap, ◌∙◌, subst}
use Rattle.wh_words.specs.Lines.{text_of}
use Rattle.wh_points.specs.Points.{Site}
use Rattle.wh_event.specs.declared.entry.Entry.{Entry}
use Rattle.wh_core.specs.States.{State, opened}
use Rattle.wh_crew.specs.Fleet.{IsTied}
use Rattle.wh_log.specs.Logs.{log_lines}
use Rattle.wh_log.specs.declared.version.Version.TheVariants.{Two}
use Rattle.wh_live.specs.Lives.{WorkedFrom}
use Rattle.wh_live.proofs.run.run_crew.Goals as goal

pub returns-in-Ok-log_text-clause-ok : goal.returns-in-Ok-log_text-clause-ok
returns-in-Ok-log_text-clause-ok g c =
    let fits = g.P.Plans.fits_map in
    let count : g.row.P.Denot → ℕ = g.P.Plans.slot_count in
    let book = c.in-Ok.warehouse.book in
    let start = c.in-Ok.ensures in
    let left = c.in-Ok-history_of.history.warehouse.book in
    let slots = start.opening.0 in
    let works = c.args.works.items in
    let copied : c.deref.result.now ≡ book.opening.slots = search rules in
    let tied = subst (λ (n : List ℕ). IsTied fits count c.args.setting.grid c.in-Ok.warehouse.planners n) (ap (λ (s : State). s.slots) (start.opening.2 ∙ start.opening.1)) start.tied in
    let sited = subst (λ (s : Site). WorkedFrom fits count (record { site = s; opening = book.opening }) works (length works) c.args.journal left.history left.state) start.site c.in-Ok-history_of.ensures.ok in
    record {
      slots = slots;
      tied = subst (λ row. IsTied fits count c.args.setting.grid row slots) start.planners tied;
      history = left.history;
      state = left.state;
      worked = subst (λ (o : State). WorkedFrom fits count (record { site = c.args.setting; opening = o }) works (length works) c.args.journal left.history left.state) start.opening.1 sited;
      text_is =
          c.in-Ok-log_text.ensures.text
          ∙ ap (λ (n : List ℕ). text_of (log_lines Two (record { clock = 0; slots = n; entries = c.history.result.now }))) (copied ∙ ap (λ (s : State). s.slots) start.opening.1)
          ∙ ap (λ (entries : List Entry). text_of (log_lines Two (record { clock = 0; slots = slots; entries = entries }))) c.history.ensures.value;
    }
