use Rattle.wh_event.proofs.Telling.{same_told}
use Rattle.wh_event.proofs.reply_text.replies_tell.Goals as goal

pub returns : goal.returns
returns c = same_told
