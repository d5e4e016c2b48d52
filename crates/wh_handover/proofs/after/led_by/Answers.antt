use Rattle.std.proofs.Common.{◌≡◌, ◌∙◌, List, take, length, get_or, subst, arith, ◌<◌}
use Rattle.wh_points.specs.Points.{Site}
use Rattle.wh_core.specs.Steps.{Run}
use Rattle.wh_event.specs.declared.entry.Entry.{Entry}
use Rattle.wh_judge.specs.Judged.{IsStep}
use Rattle.wh_handover.proofs.Entries.{one_more}
use Rattle.wh_handover.proofs.after.led_by.Goals as goal

pub loop-n-preserved : goal.loop-n-preserved
loop-n-preserved c =
    let book = c.args.book.now in
    let entry = c.index-history-n.result in
    let at : entry ≡ get_or book.history c.loop-n.n entry = subst (λ (es : List Entry). entry ≡ get_or es c.loop-n.n entry) c.history-history.ensures.value c.index-history-n.is in
    let told = subst (λ (e : Entry). IsStep c.loop-n.judge.site c.loop-n.judge.state e c.step.new.self.state c.in_ok-_is_step._is_step) c.in_ok-entry.ensures c.in_ok-_is_step.ensures.step in
    let here = subst (λ (site : Site). IsStep site c.loop-n.judge.state entry c.step.new.self.state c.in_ok-_is_step._is_step) c.loop-n.invariant.site told in
    let below : c.loop-n.n < length book.history = (let a = c.loop-n-test.true in let b = c.requires.within in omega (arith, a, b)) in
    record {
      site = c.in_ok-_is_step.ensures.site ∙ c.loop-n.invariant.site;
      run = one_more book.site book.opening book.history book.state c.loop-n.n entry c.loop-n.judge.state c.step.new.self.state c.in_ok-_is_step._is_step
          c.history-history.ensures.opening.layout c.history-history.ensures.run below at c.loop-n.invariant.run here;
    }

pub returns : goal.returns
returns c =
    let whole : c.loop-n.n ≡ c.args.count = (let a = c.loop-n.auto.n-end in let b = c.loop-n-test.false in omega (arith, a, b)) in
    rw c.into_state.ensures (subst (λ n. Run c.args.book.now.site c.args.book.now.opening (take n c.args.book.now.history) c.loop-n.judge.state) whole c.loop-n.invariant.run)
