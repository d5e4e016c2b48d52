use Rattle.std.proofs.Common.{◌≡◌, ◌+◌, ◌-◌, take, drop, length, max, ap, ◌∙◌, sym, arith}
use Rattle.wh_path.specs.Paths.{horizon}
use Rattle.wh_path.proofs.HorizonLemmas.{horizon-append}
use Rattle.wh_grid.proofs.Removed.{remove-slices}
use Rattle.wh_path.proofs.ends.last_to_rest.Goals as goal

pub returns-clause-value : goal.returns-clause-value
returns-clause-value c =
    let xs = c.args.paths.now in
    let i = c.args.agent in
    let parts = horizon-append (take i xs) (take (length xs - (i + 1)) (drop (i + 1) xs)) in
    let whole : c.max.result ≡ max (horizon (take i xs)) (horizon (take (length xs - (i + 1)) (drop (i + 1) xs))) = omega arith in
    whole ∙ sym parts ∙ ap horizon (sym (remove-slices xs i c.requires))
