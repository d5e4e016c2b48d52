use Rattle.std.proofs.Common.{◌∙◌, sym, ap}
use Rattle.std.proofs.lemmas.Bool.{false≢true}
use Rattle.wh_core.specs.States.{adopted}
use Rattle.wh_book.specs.Standings.{Standing}
use Rattle.wh_judge.proofs.Reachable.{has-start}
use Rattle.wh_judge.proofs.requests.park.Goals as goal

pub makes_way-requires-clause-home : goal.makes_way-requires-clause-home
makes_way-requires-clause-home c =
    let due = c.is_due.ensures.0 c.if-not-is_due.false in
    has-start c.args.instance.now c.args.floor.now.state c.args.agent c.requires.reached due.known.known

pub returns-then-not-branch-clause-answer : goal.returns-then-not-branch-clause-answer
returns-then-not-branch-clause-answer c = λ new answer. false≢true (sym c.if-not-branch.true ∙ c.in_ok-makes_way.ensures.way.1 answer.1)

pub returns-clause-answer : goal.returns-clause-answer
returns-clause-answer c = (
  c.is_due.ensures.0 c.if-not-is_due.false,
  c.in_ok-makes_way.ensures.way.0 c.if-not-branch.false,
  c.may_park.ensures.0 c.if-not-may_park.false,
  rw c.end.ensures at (c.is_at.ensures.0 c.if-not-is_at.false),
  c.park.ensures ∙ ap (λ (f : Standing). adopted c.args.agent c.args.path f.state) c.reserve_path.ensures.same,
)
