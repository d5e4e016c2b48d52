use Rattle.wh_book.proofs.Kept.{answer-drafts}
use Rattle.wh_book.proofs.book.Book.draft_answer.Goals as goal

pub returns : goal.returns
returns c = answer-drafts c.args.self.now c.args.caller c.args.event c.args.reply c.requires.answers c.requires.room
