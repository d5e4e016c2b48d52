use Rattle.std.proofs.Common.{◌≡◌, ◌≢◌, ◌<◌, ◌∙◌, inl, inr, List, [], length, map, drop, get_or, sym, ap, subst, arith, Global}
use Rattle.std.proofs.Math.ListN.{set}
use Rattle.std.specs.declared.collections.VecDeque.{VecDeque}
use Rattle.std.proofs.lemmas.Bool.{cases_lt}
use Rattle.std.proofs.lemmas.List.{get_or-map}
use Rattle.wh_order.specs.declared.visit.Pending.{Pending}
use Rattle.wh_order.specs.Orders.{line_of, reached_of}
use Rattle.wh_order.proofs.Pushing.{line-same, line-other}
use Rattle.wh_order.proofs.lines.drop_all.Goals as goal

pub loop-i-preserved : goal.loop-i-preserved
loop-i-preserved c =
    let items : VecDeque Pending Global → List Pending = λ q. q.items in
    let qs = c.loop-i.lines in
    let i = c.loop-i.i in
    let q = c.index-lines-i.result in
    let v = c.drop_front.new.line in
    let before = map items c.args.lines.now in
    let vehicles = c.args.vehicles.now in
    let test = c.loop-i-test.true in
    let all = c.requires in
    let size = c.loop-i.auto.lines in
    let within : i < length qs = omega arith in
    let old : items (get_or qs i q) ≡ line_of before i = sym (get_or-map items qs i q [] within) ∙ c.loop-i.invariant.rest i (omega arith) in
    let dropped : v.items ≡ drop (reached_of vehicles i) (line_of before i) = c.drop_front.ensures ∙ ap (drop (reached_of vehicles i)) old in
    let now : line_of (map items (set qs i v)) i ≡ drop (reached_of vehicles i) (line_of before i) = line-same items qs i v within ∙ dropped in
    record {
      done = λ k h. elim (cases_lt k i) [
        | inl l ↦ (let ne : k ≢ i = λ e. omega arith in line-other items qs i k v ne ∙ c.loop-i.invariant.done k l)
        | inr g ↦
            let e : i ≡ k = omega arith in
            subst (λ n. line_of (map items (set qs i v)) n ≡ drop (reached_of vehicles n) (line_of before n)) e now
      ];
      rest = λ k h. let ne : k ≢ i = λ e. omega arith in line-other items qs i k v ne ∙ c.loop-i.invariant.rest k (omega arith);
    }
