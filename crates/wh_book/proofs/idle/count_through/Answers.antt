use Rattle.std.proofs.Common.{◌≡◌, ◌+◌, ◌∙◌, [], length, drop, ap, arith}
use Rattle.std.proofs.lemmas.List.{drop_all}
use Rattle.wh_book.specs.Waiting.{cells_through}
use Rattle.wh_book.proofs.Waiting.{through-none}
use Rattle.wh_book.proofs.idle.count_through.Goals as goal

pub returns-then-seen-stops : goal.returns-then-seen-stops
returns-then-seen-stops c =
    let cells = c.args.cells.now in
    let stops = c.args.stops.now in
    let seen = c.loop-k.seen in
    let all : seen ≡ length stops = c.if-seen-stops.true in
    let none : drop seen stops ≡ [] = drop_all seen stops (omega arith) in
    let rest : cells_through (drop c.loop-k.k cells) (drop seen stops) ≡ 0 = ap (cells_through (drop c.loop-k.k cells)) none ∙ through-none (drop c.loop-k.k cells) in
    let so_far : cells_through cells stops ≡ c.loop-k.k + cells_through (drop c.loop-k.k cells) (drop seen stops) = c.loop-k.invariant.1 in
    omega arith
