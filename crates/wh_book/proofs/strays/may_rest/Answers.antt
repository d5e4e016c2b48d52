use Rattle.std.proofs.Common.{inr, sym, subst, ap, ◌∙◌}
use Rattle.std.proofs.lemmas.Bool.{false≢true}
use Rattle.wh_path.specs.Paths.{end}
use Rattle.wh_core.specs.Steps.{IsBerth}
use Rattle.wh_stand.specs.Ways.{site_at}
use Rattle.wh_stand.proofs.Strays.{path_seen}
use Rattle.wh_book.proofs.Straying.{rest-by}
use Rattle.wh_book.proofs.strays.may_rest.Goals.{else-strays-via-then-strays+else-not-is_berth, else-strays-via-else-strays}
use Rattle.wh_book.proofs.strays.may_rest.Goals as goal

pub returns-then-not-is_berth : goal.returns-then-not-is_berth
returns-then-not-is_berth c = λ grid.
    let s = c.args.floor.now.state in
    let site = site_at grid c.args.points.now c.args.homes in
    let ends = c.end-end.ensures ∙ ap end (path_seen s.paths c.paths.result.now c.args.agent c.index-paths-agent.result c.requires.known c.paths.ensures.value c.index-paths-agent.is) in
    inr (λ b. false≢true (sym c.if-not-is_berth.true ∙ (c.is_berth.ensures grid).1 (subst (λ x. IsBerth site c.args.agent x) (sym ends) b)))

pub returns : goal.returns
returns c = λ grid.
    let s = c.args.floor.now.state in
    let site = site_at grid c.args.points.now c.args.homes in
    let ends = c.end-end.ensures ∙ ap end (path_seen s.paths c.paths.result.now c.args.agent c.index-paths-agent.result c.requires.known c.paths.ensures.value c.index-paths-agent.is) in
    let berth : IsBerth site c.args.agent c.end-end.result = elim c.else-strays.branch [
      | else-strays-via-then-strays+else-not-is_berth w ↦ (w.is_berth.ensures grid).0 w.if-not-is_berth.false
      | else-strays-via-else-strays w ↦ subst (λ x. IsBerth site c.args.agent x) (sym ends) (c.requires.ways w.if-strays.false grid c.args.agent c.requires.known).berth
    ] in
    rest-by site s c.args.agent c.end-end.result c.is_wanted.result ends (c.is_wanted.ensures grid) berth
