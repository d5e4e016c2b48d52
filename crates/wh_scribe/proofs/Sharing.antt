-- A scribe may be shared by threads, where what it is generic in may cross to one.
use denote.RattleType.{RattleType}
use denote.Param.Send.{IsSend, IsSync, sendable}
use Rattle.std.proofs.Crossing.{crosses}
use Rattle.wh_desk.specs.declared.naming.DeskName.{Ghosts as Named}
use Rattle.wh_desk.proofs.Sharing.{front_send}
use Rattle.wh_journal.specs.declared.journal.Journal.{Ghosts as Journaling}
use Rattle.wh_scribe.specs.declared.name.JournalName.{Ghosts}
use Rattle.wh_scribe.specs.contracts.waiting.Waiting as waiting
use Rattle.wh_scribe.specs.contracts.order.Order as order
use Rattle.wh_scribe.specs.contracts.page.Page as page
use Rattle.wh_scribe.specs.contracts.keeper.Keeper as keeper
use Rattle.wh_scribe.specs.contracts.mark.Mark as mark
use Rattle.wh_scribe.specs.contracts.scribe.Scribe as scribe

waiting_send : (N : RattleType) (n : Named N.Denot) → IsSend N → IsSend (waiting.the_row N n)
waiting_send N n a = search (sendable, crosses, front_send) depth 60 fits 20000

order_send : (N : RattleType) (n : Named N.Denot) → IsSend N → IsSend (order.the_row N n)
order_send N n a = search (sendable, crosses, waiting_send) depth 60 fits 20000

page_send : (N S J : RattleType) (n : Named N.Denot) (s : Ghosts S.Denot) (j : Journaling J.Denot) → IsSend N → IsSend S → IsSend J → IsSend (page.the_row N S J n s j)
page_send N S J n s j a b c = search (sendable, crosses, front_send) depth 60 fits 20000

keeper_send : (N S J : RattleType) (n : Named N.Denot) (s : Ghosts S.Denot) (j : Journaling J.Denot) → IsSend N → IsSend S → IsSend J → IsSend (keeper.the_row N S J n s j)
keeper_send N S J n s j a b c = search (sendable, crosses, page_send, waiting_send) depth 60 fits 20000

mark_send : (N S J : RattleType) (n : Named N.Denot) (s : Ghosts S.Denot) (j : Journaling J.Denot) → IsSend N → IsSend S → IsSend J → IsSend (mark.the_row N S J n s j)
mark_send N S J n s j a b c = search (sendable, crosses, front_send) depth 60 fits 20000

pub scribe_sync : (N S J : RattleType) (n : Named N.Denot) (s : Ghosts S.Denot) (j : Journaling J.Denot) → IsSend N → IsSync N → IsSend S → IsSync S → IsSend J → IsSync (scribe.the_row N S J n s j)
scribe_sync N S J n s j a b c d e = search (sendable, crosses, order_send, keeper_send, mark_send) depth 60 fits 20000
