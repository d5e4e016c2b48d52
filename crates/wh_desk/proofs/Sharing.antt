-- A desk may be shared by threads, and a pass may cross to one, where what they are generic in may. The search does not find
-- this whole, since the types are large: so here it goes part by part.
use denote.RattleType.{RattleType}
use denote.Param.Send.{IsSend, IsSync, view_send, sendable}
use denote.Param.SendFields.{declared_send}
use Rattle.std.proofs.Crossing.{crosses}
use Rattle.logbook.proofs.word.Word.TheSendSync as word
use Rattle.logbook.proofs.tokens.Seen.TheSendSync as seen
use Rattle.left_right.proofs.part.Part.TheSendSync as part
use Rattle.left_right.proofs.part.Deed.TheSendSync as deed
use Rattle.once_cell.proofs.race.note.Note.TheSendSync as note
use Rattle.once_cell.proofs.race.once_box.OnceBox.TheSendSync as once
use Rattle.atomic_table.proofs.shared.Seat.TheSendSync as seat
use Rattle.atomic_table.proofs.shared.Shared.TheSendSync as shared
use Rattle.atomic_table.proofs.badge.Badge.TheSendSync as badge
use Rattle.atomic_table.proofs.perch.Perch.TheSendSync as perch
use Rattle.atomic_table.proofs.ruled.RuledPerch.TheSendSync as ruled
use Rattle.atomic_table.proofs.ruled.Mark.TheSendSync as mark
use Rattle.atomic_table.proofs.send_lease.SendLease.TheSendSync as lease
use Rattle.wh_event.specs.contracts.entry.Entry as entry
use Rattle.wh_board.specs.contracts.front.Front as front
use Rattle.wh_board.specs.contracts.page.Page as page
use Rattle.wh_board.specs.contracts.publisher.Publisher as publisher
use Rattle.wh_planner.specs.declared.planner.Plans.{Ghosts as Planning}
use Rattle.wh_desk.specs.declared.naming.DeskName.{Ghosts}
use Rattle.wh_desk.specs.contracts.cells.Cells as cells
use Rattle.wh_desk.specs.contracts.cells.CellRow as cell_row
use Rattle.wh_desk.specs.contracts.desk.Desk as desk
use Rattle.wh_desk.specs.contracts.journal.Journal as journal
use Rattle.wh_desk.specs.contracts.pass.Pass as pass
use Rattle.wh_desk.specs.contracts.pass.Held as held
use Rattle.wh_token.specs.contracts.warehouse.Warehouse as warehouse
use Rattle.wh_token.specs.contracts.warehouse.Warehouse.TheInside as Inside
use Rattle.wh_tasks.specs.contracts.task_set.TaskSet as tasks
use Rattle.wh_state.specs.contracts.state.FleetState as floor
use Rattle.wh_book.specs.contracts.book.Book as book
use Rattle.wh_field.specs.contracts.lazy.LazyField as near
use Rattle.wh_shared.proofs.Crossing.{fields_send}

tasks_send : IsSend tasks.the_row
tasks_send = search (sendable, crosses) depth 60 fits 20000

floor_send : IsSend floor.the_row
floor_send = search (sendable, crosses, tasks_send) depth 60 fits 20000

book_send : IsSend book.the_row
book_send = search (sendable, crosses, floor_send) depth 60 fits 20000

near_send : IsSend near.the_row
near_send = search (sendable, crosses) depth 60 fits 20000

pub warehouse_send : (P : RattleType) (q : Planning P.Denot) → IsSend P → IsSend (warehouse.the_row P q)
warehouse_send P q s =
    view_send (Inside.the_row P q) _ _ _ _ (declared_send (Inside.the_type P q) (book_send, (search (sendable, crosses) depth 60 fits 20000, (near_send, (fields_send, tt)))))

pub entry_send : IsSend entry.the_row
entry_send = search (sendable, crosses) depth 60 fits 20000

pub entry_sync : IsSync entry.the_row
entry_sync = search (sendable, crosses) depth 60 fits 20000

pub front_send : IsSend front.the_row
front_send = search (sendable, crosses, seen.the_send) depth 60 fits 20000

pub front_sync : IsSync front.the_row
front_sync = search (sendable, crosses, seen.the_sync) depth 60 fits 20000

pub page_send : IsSend page.the_row
page_send = search (sendable, crosses, front_send) depth 60 fits 20000

pub page_sync : IsSync page.the_row
page_sync = search (sendable, crosses, front_sync) depth 60 fits 20000

pub held_send : IsSend held.the_row
held_send = search (sendable, crosses, note.the_send) depth 60 fits 20000

pub pass_send : (N : RattleType) (g : Ghosts N.Denot) → IsSend N → IsSync N → IsSend (pass.the_row N g)
pass_send N g s y = search (sendable, crosses, front_send, held_send) depth 60 fits 20000

pub publisher_send : (H : RattleType) → IsSend H → IsSync H → IsSend (publisher.the_row H)
publisher_send H s y = search (sendable, crosses, front_send, page_send, page_sync, word.the_send, part.the_send, part.the_sync, deed.the_send, seat.the_send, shared.the_send, shared.the_sync, badge.the_send, perch.the_send, perch.the_sync, ruled.the_send, ruled.the_sync, mark.the_send, lease.the_send, lease.the_sync) depth 60 fits 20000

pub cells_send : IsSend cells.the_row
cells_send = search (sendable, crosses, once.the_send, entry_send, entry_sync) depth 60 fits 20000

pub cell_row_send : IsSend cell_row.the_row
cell_row_send = search (sendable, crosses, cells_send) depth 60 fits 20000

pub journal_send : (N H P : RattleType) (g : Ghosts N.Denot) (q : Planning P.Denot) → IsSend N → IsSync N → IsSend H → IsSync H → IsSend P → IsSend (journal.the_row N H P g q)
journal_send N H P g q s y h k p = search (sendable, crosses, warehouse_send, publisher_send, cell_row_send, note.the_send) depth 60 fits 20000

pub desk_sync : (N H P : RattleType) (g : Ghosts N.Denot) (q : Planning P.Denot) → IsSend N → IsSync N → IsSend H → IsSync H → IsSend P → IsSync (desk.the_row N H P g q)
desk_sync N H P g q s y h k p = search (sendable, crosses, journal_send) depth 60 fits 20000
