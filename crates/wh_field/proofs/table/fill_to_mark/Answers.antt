use Rattle.std.proofs.Common.{◌≡◌, ℕ, ◌∙◌, ◌+◌, ◌-◌, List, [], length, drop, sym, subst, ap, arith}
use Rattle.std.proofs.lemmas.List.{take_all, length-drop}
use Rattle.wh_field.specs.Tables.{IsLeastAmong, IsSpreading}
use Rattle.wh_field.proofs.Tables.{ground_then}
use Rattle.wh_field.proofs.Marked.{least_on}
use Rattle.wh_field.proofs.table.fill_to_mark.Goals as goal

pub loop-front-preserved : goal.loop-front-preserved
loop-front-preserved c =
    let l = c.loop-front in
    let t' = c.next_layer.new.table in
    let q = l.queue.items in
    let q' = c.next_layer.new.queue.items in
    let e = c.next_layer.ensures in
    let n = c.least_marked-least-in-loop-front.result in
    let end : c.len-end.result ≡ length q = omega arith in
    let P : List ℕ → Type 0 = λ xs. IsLeastAmong c.args.marks.now c.args.mark t' xs n in
    let whole = take_all (length c.deref-in-loop-front.result.now - c.len-end.result) (drop c.len-end.result c.deref-in-loop-front.result.now)
    (let z = length-drop c.len-end.result c.deref-in-loop-front.result.now in omega arith) in
    let here = ap (drop c.len-end.result) c.deref-in-loop-front.ensures.value ∙ ap (λ k. drop k q') end in
    let among : P (drop (length q) q') = subst P (whole ∙ here) c.least_marked-least-in-loop-front.ensures in
    let Q : ℕ → Type 0 = λ k. IsSpreading c.args.stride (l.front.distance + 1) t' [] (drop k q') in (
      subst Q (sym end) e.spreading,
      ground_then c.args.table.now l.table t' l.invariant.1 e.ground,
      e.room,
      e.listed,
      let long = e.longer in omega arith,
      least_on c.args.marks.now c.args.mark l.table q t' q' l.least n l.invariant.3 e.listed e.behind c.if-least.true l.invariant.5 among,
    )
