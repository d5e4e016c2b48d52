use Rattle.std.proofs.Common.{subst, sym}
use Rattle.wh_core.specs.Steps.{Answers}
use Rattle.wh_book.specs.Drafts.{Seen}
use Rattle.wh_book.proofs.Kept.{watched-more}
use Rattle.wh_book.proofs.book.Book.add_answer.Goals as goal

pub invariant_of-self : goal.invariant_of-self
invariant_of-self c =
    let answers = subst (λ (s : Seen). Answers s.site s.state c.args.reply c.args.event s.state) (sym c.self.view_is) c.requires.answers in
    rw c.push_reserved.ensures.items (watched-more _ _ _ _ _ (record { caller = c.args.caller; event = c.args.event; reply = c.args.reply }) _ c.self.invariant answers)

pub returns-clause-step : goal.returns-clause-step
returns-clause-step c = c.requires.answers
