use Rattle.std.proofs.Common.{◌≡◌, ℕ, inl, inr, List, sym, subst, ◌∙◌}
use Rattle.std.specs.Prelude.{◌↔◌, IsTrue}
use Rattle.std.proofs.lemmas.Bool.{false≢true}
use Rattle.wh_tasks.specs.declared.task.Task.{Task}
use Rattle.wh_tasks.specs.Tasks.{IsTask, IsOpen, delivery}
use Rattle.wh_stand.specs.Ways.{site_at}
use Rattle.wh_book.proofs.Straying.{none-awaited}
use Rattle.wh_book.proofs.strays.is_wanted.Goals as goal

pub returns-then-strays : goal.returns-then-strays
returns-then-strays c = λ grid.
    let there =
    subst (λ (ts : List Task). IsTrue c.delivers_at.result ↔ ((n : ℕ) × (task : Task) × IsTask ts n task × IsOpen task × (delivery task ≡ c.args.cell))) c.tasks.ensures.tasks c.delivers_at.ensures in (
      λ yes. (c.if-homes.false, inr ((c.is_awaited.ensures grid).0 yes)),
      λ w. elim w.1 [
        | inl d ↦ absurd (false≢true (sym c.if-delivers_at.false ∙ there.1 d))
        | inr a ↦ (c.is_awaited.ensures grid).1 a
      ],
    )

pub returns-else-strays : goal.returns-else-strays
returns-else-strays c = λ grid.
    let there =
    subst (λ (ts : List Task). IsTrue c.delivers_at.result ↔ ((n : ℕ) × (task : Task) × IsTask ts n task × IsOpen task × (delivery task ≡ c.args.cell))) c.tasks.ensures.tasks c.delivers_at.ensures in (
      λ yes. absurd (false≢true (sym c.if-strays.false ∙ yes)),
      λ w. elim w.1 [
        | inl d ↦ absurd (false≢true (sym c.if-delivers_at.false ∙ there.1 d))
        | inr a ↦
            absurd (none-awaited (site_at grid c.args.points.now c.args.homes) (site_at c.requires.begins.0 c.args.points.now c.args.homes) c.args.floor.now.state c.args.cell
            c.requires.begins.1.sound (c.requires.ways c.if-strays.false grid) a)
      ],
    )
