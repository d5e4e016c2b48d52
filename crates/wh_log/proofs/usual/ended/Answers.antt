use Rattle.std.proofs.Common.{◌≡◌, false, ℕ, sym, subst, take, arith}
use Rattle.wh_words.specs.Numerals.{has_leading_zero}
use Rattle.wh_log.proofs.FrontNumbers.{front_read, one_leads, other_leads}
use Rattle.wh_log.proofs.usual.ended.Goals as goal

pub returns-then-count-eq1 : goal.returns-then-count-eq1
returns-then-count-eq1 c =
    let text = c.args.text.now in
    let leads : has_leading_zero (take c.args.count text) ≡ false = subst (λ (i : ℕ). has_leading_zero (take i text) ≡ false) (sym c.if-count-eq1.true) (one_leads text) in
    front_read text c.args.count c.args.value c.behind.result.now (omega arith) c.requires.few c.requires.inside c.requires.digits leads c.requires.value c.behind.ensures

pub returns : goal.returns
returns c =
    let text = c.args.text.now in
    front_read text c.args.count c.args.value c.behind-2.result.now (omega arith) c.requires.few c.requires.inside c.requires.digits (other_leads text c.args.count c.if-text-eq48.false) c.requires.value c.behind-2.ensures
