-- the judge of steps as one that is told a log
use Rattle.std.specs.Prelude.{◌≡◌, ℕ, ◌≤◌, List, [], ◌∷◌, length}
use Rattle.std.proofs.Common.{sym, ap, refl, ◌∙◌}
use Rattle.wh_points.specs.Points.{Site, IsLayout}
use Rattle.wh_core.specs.States.{State, opened}
use Rattle.wh_core.specs.Steps.{Step, last_clock}
use Rattle.wh_core.proofs.Determined.{run-one}
use Rattle.wh_event.specs.declared.entry.Entry.{Entry}
use Rattle.wh_judge.specs.Judged.{Judged}

-- there are as many slots as agents, and it stands at the opening with them
pub record Opens (old : Judged) (clock : ℕ) (slots : List ℕ) (new : Judged) : Type 0 where
  pub clock_fits : clock ≤ last_clock
  pub seats : length slots ≡ length old.site.layout.agents
  pub new_is : new ≡ record { site = old.site; state = opened old.site.layout clock slots }

-- the entry is a step, over the same points
pub record Steps (old : Judged) (entry : Entry) (new : Judged) : Type 0 where
  pub layout : IsLayout old.site.grid old.site.layout
  pub step : Step old.site old.state entry new.state
  pub site : new.site ≡ old.site

pub same : (a b : Judged) → a.site ≡ b.site → a.state ≡ b.state → a ≡ b
same a b sites states =
    ap (λ (x : Site). let j : Judged = record { site = x; state = a.state } in j) sites ∙ ap (λ (x : State). let j : Judged = record { site = b.site; state = x } in j) states

-- each leads to one place
pub one_opening : (old : Judged) (clock : ℕ) (slots : List ℕ) (a b : Judged) → Opens old clock slots a → Opens old clock slots b → a ≡ b
one_opening old clock slots a b p q = p.new_is ∙ sym q.new_is

pub one_step : (old : Judged) (entry : Entry) (a b : Judged) → Steps old entry a → Steps old entry b → a ≡ b
one_step old entry a b p q =
    same a b (p.site ∙ sym q.site) (run-one old.site old.state (entry ∷ []) a.state b.state p.layout (a.state, p.step, refl) (b.state, q.step, refl))
