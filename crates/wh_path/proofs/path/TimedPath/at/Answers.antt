use Rattle.std.proofs.Common.{◌≡◌, ◌+◌, ◌-◌, ◌<◌, length, drop, get_or, min, ap, sym, ◌∙◌, arith}
use Rattle.std.proofs.lemmas.List.{get_or_read, get_or-drop, length-drop}
use Rattle.wh_path.specs.Paths.{at}
use Rattle.wh_path.proofs.AtLemmas.{origin}
use Rattle.wh_path.proofs.path.TimedPath.at.Goals as goal

pub returns : goal.returns
unfolding at
returns c =
    let xs = c.self.inside.cells.items in
    let n = c.self.inside.passed in
    let left : length (drop n xs) ≡ length xs - n = length-drop n xs in
    let within : n + c.min.result < length xs = omega arith in
    let place : c.min.result ≡ min c.args.k (length (drop n xs) - 1) = omega arith in
    get_or_read xs (n + c.min.result) c.index.result.now within c.index.ensures origin ∙ sym (get_or-drop n xs c.min.result origin) ∙ ap (λ i. get_or (drop n xs) i origin) place ∙ ap (λ ys. at ys c.args.k) c.self.view_is
