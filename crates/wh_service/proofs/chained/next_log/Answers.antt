-- The next log goes on from those before, or decides.
use Rattle.std.proofs.Common.{List, ℕ, length, ◌≤◌, sym, subst, IfOk, IfErr}
use Rattle.std.proofs.Math.Bool.{not}
use Rattle.wh_handover.specs.Chains.{IsLink, IsWhyUnlinked}
use Rattle.wh_service.proofs.Chaining.{found_within, next_err, next_ok}
use Rattle.wh_service.proofs.chained.next_log.Goals as goal

pub step_by-requires-clause-lines : goal.step_by-requires-clause-lines
step_by-requires-clause-lines g c =
    let IsShort : List ℕ → Type 0 = λ text. length text ≤ 268435456 in
    let within = subst IsShort (sym c.as_slice.ensures.value) c.in-Ok.ensures.within in
    found_within c.args.reached.setting c.args.reached.before c.as_slice.result.now (not c.ended-goes_on.result) c.link-linked.result c.link-linked.ensures.ok within

pub returns-clause-ok : goal.returns-clause-ok
returns-clause-ok g c =
    let reached = c.args.reached in
    let found = c.link-linked.result in
    let ended = c.ended-goes_on.result in
    let Links : List ℕ → Type 0 = λ text. IfOk found (IsLink reached.setting reached.before text (not ended)) in
    let Fails : List ℕ → Type 0 = λ text. IfErr found (IsWhyUnlinked reached.setting reached.before text) in
    let ok = subst Links c.as_slice.ensures.value c.link-linked.ensures.ok in
    let err = subst Fails c.as_slice.ensures.value c.link-linked.ensures.fault in
    next_ok c.args.lines.now c.log_section.new.lines reached c.args.unended c.in-Ok.log.items found ended c.step_by.result c.in-Ok.ensures.ok c.in-Ok.ensures.within c.ended-goes_on.ensures ok err c.step_by.ensures.ok

pub returns-clause-fault : goal.returns-clause-fault
returns-clause-fault g c =
    let reached = c.args.reached in
    let found = c.link-linked.result in
    let goes_on = not c.ended-goes_on.result in
    let Links : List ℕ → Type 0 = λ text. IfOk found (IsLink reached.setting reached.before text goes_on) in
    let ok = subst Links c.as_slice.ensures.value c.link-linked.ensures.ok in
    next_err c.args.lines.now c.log_section.new.lines reached c.args.unended c.in-Ok.log.items found goes_on c.step_by.result c.in-Ok.ensures.ok c.in-Ok.ensures.within ok c.step_by.ensures.fault
