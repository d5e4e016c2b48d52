use Rattle.std.proofs.Common.{◌≡◌, ℕ, ◌<◌, length, refl, sym, ap, ◌∙◌, below_more, arith}
use Rattle.std.proofs.lemmas.Bool.{false≢true}
use Rattle.wh_stand.specs.Ways.{site_at}
use Rattle.wh_book.specs.Strays.{Awaits}
use Rattle.wh_book.proofs.Straying.{awaited-by, awaits-of}
use Rattle.wh_book.proofs.strays.is_awaited.Goals as goal

pub loop-agent-init : goal.loop-agent-init
loop-agent-init c = λ grid other h. absurd (omega arith)

pub returns-then-awaits : goal.returns-then-awaits
returns-then-awaits c = λ grid. (
  λ yes. awaited-by (site_at grid c.args.points.now c.args.homes) c.args.floor.now.state c.loop-agent.agent c.args.cell ((c.awaits.ensures grid).0 c.if-awaits.true),
  λ is. refl,
)

pub loop-agent-preserved : goal.loop-agent-preserved
loop-agent-preserved c = λ grid.
    below_more (λ (j : ℕ). ¬ Awaits (site_at grid c.args.points.now c.args.homes) c.args.floor.now.state j c.args.cell) c.loop-agent.agent (c.loop-agent.invariant grid)
    (λ a. false≢true (sym c.if-awaits.false ∙ (c.awaits.ensures grid).1 a))

pub returns : goal.returns
returns c = λ grid. (
  λ yes. absurd (false≢true yes),
  λ is.
      let s = c.args.floor.now.state in
      let a = awaits-of (site_at grid c.args.points.now c.args.homes) (site_at c.requires.begins.0 c.args.points.now c.args.homes) s c.args.cell c.requires.begins.1.sound is in
      let size : length c.paths-agent-end.result.now ≡ length s.paths = ap length c.paths-agent-end.ensures.value in
      let known = a.1 in
      absurd (c.loop-agent.invariant grid a.0 (omega (arith, c.loop-agent-test.false)) a.2),
)
