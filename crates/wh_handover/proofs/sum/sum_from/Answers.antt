use Rattle.std.proofs.Common.{◌≡◌, ◌∙◌, ℕ, List, Bool, cond, None, Some, length, sym, ap, true}
use Rattle.wh_front.specs.Sums.{is_sum}
use Rattle.wh_handover.proofs.Digits.{is_sum_of}
use Rattle.wh_handover.proofs.sum.sum_from.Goals as goal

pub unreachable-requires : goal.unreachable-requires
unreachable-requires c =
    let digits : List ℕ = c.digits_of-digits.result in
    let count : length c.args.digest ≡ 32 = c.digits_of-digits.ensures.bytes in
    let is : is_sum digits ≡ true = ap is_sum c.digits_of-digits.ensures.digits ∙ is_sum_of c.args.digest count c.read_all.ensures in
    let some : c.read.result ≡ Some digits = c.read.ensures ∙ ap (λ (b : Bool). cond b (Some digits) None) is in
    let bad : None ≡ Some digits = sym c.in-None.is ∙ some in
    cc
