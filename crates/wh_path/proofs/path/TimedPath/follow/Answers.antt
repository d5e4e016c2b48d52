use Rattle.std.proofs.Common.{◌≡◌, ◌+◌, ◌-◌, ◌<◌, ◌++◌, take, drop, length, ap, ◌∙◌, arith}
use Rattle.std.proofs.lemmas.List.{drop-append-le, drop-drop, take_all, length-drop}
use Rattle.wh_path.proofs.path.TimedPath.follow.Goals as goal

pub returns-clause-ok : goal.returns-clause-ok
returns-clause-ok c =
    let xs = c.self.inside.cells.items in
    let n = c.self.inside.passed in
    let ys = c.next.inside.cells.items in
    let zs = c.deref.result.now in
    let m = c.next.inside.passed in
    let size = length-drop (m + 1) zs in
    let whole : take (length zs - (m + 1)) (drop (m + 1) zs) ≡ drop (m + 1) zs = take_all (length zs - (m + 1)) (drop (m + 1) zs) (omega arith) in
    let more : c.extend_from_slice.new.self.items ≡ xs ++ drop (m + 1) ys = c.in_ok-extend_from_slice.ensures.items ∙ ap (λ s. xs ++ s) whole ∙ ap (λ s. xs ++ drop (m + 1) s) c.deref.ensures.value in
    let known : n < length xs = c.self.invariant in
    let rest : drop 1 (drop m ys) ≡ drop (m + 1) ys = drop-drop 1 m ys in
    rw (← c.self.view_is, ← c.next.view_is, more, rest) (drop-append-le n xs (drop (m + 1) ys) (omega arith))
