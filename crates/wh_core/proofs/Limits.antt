-- tasks and clock stay within their limits
use Rattle.std.proofs.Common.{◌≡◌, ◌≤◌, ◌∙◌, length, ap, arith, length-append}
use Rattle.std.proofs.lemmas.List.{length-map, length-set}
use Rattle.wh_points.specs.Points.{Site}
use Rattle.wh_core.specs.States.{State}
use Rattle.wh_core.specs.Steps.{most_tasks, last_clock}
use Rattle.wh_core.specs.Laws.{IsOpening}
use Rattle.wh_core.proofs.StepKinds.{Moves, stays, adds, takes, continues, parks, ticks}

abbrev pub Within : State → Type 0
Within s = (length s.tasks ≤ most_tasks) × (s.clock ≤ last_clock)

within-same : (old new : State) → length new.tasks ≡ length old.tasks → new.clock ≡ old.clock → Within old → Within new
within-same old new t c w = (let h = w.0 in omega arith, let h = w.1 in omega arith)

pub within-moves : (site : Site) (old new : State) → Within old → Moves site old new → Within new
within-moves site old new w m = elim m [
  | stays c p l t z ↦ within-same old new (ap (λ ts. length ts) t) c w
  | adds client names cells room count few stations e ↦ (
    let one = ap (λ s. length s.tasks) e ∙ length-append old.tasks _ in omega arith,
    let c = ap (λ s. s.clock) e in let h = w.1 in omega arith,
  )
  | takes agent n task path due none next lawful e ↦
      within-same old new (ap (λ s. length s.tasks) e ∙ length-map _ _ ∙ length-set _ _ _) (ap (λ s. s.clock) e) w
  | continues agent n task path due own lawful e ↦
      within-same old new (ap (λ s. length s.tasks) e ∙ length-map _ _) (ap (λ s. s.clock) e) w
  | parks agent path due way lawful e ↦ within-same old new (ap (λ s. length s.tasks) e) (ap (λ s. s.clock) e) w
  | ticks fits e ↦ (
    let t = ap (λ s. length s.tasks) e ∙ length-map _ _ in let h = w.0 in omega arith,
    let c = ap (λ s. s.clock) e in omega arith,
  )
]

pub within-opening : (site : Site) (s : State) → IsOpening site s → Within s
within-opening site s o =
    let t : length s.tasks ≡ 0 = ap (λ u. length u.tasks) o.is_opened in
    let c = ap (λ u. u.clock) o.is_opened in
    let fits = o.clock_fits in
    (omega arith, omega arith)
