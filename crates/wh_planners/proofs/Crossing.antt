-- A planner that searches may cross threads, as what it keeps may: so it can be boxed as a planner.
use denote.Param.Send.{IsSend, view_send, sendable}
use denote.Param.SendFields.{declared_send}
use Rattle.std.proofs.Crossing as heap
use Rattle.wh_claims.proofs.claim.Claim.TheSendSync.{the_send as claim_send}
use Rattle.wh_grid.proofs.grid.Grid.TheSendSync.{the_send as grid_send, the_sync as grid_sync}
use Rattle.wh_search.specs.contracts.memory.SearchMemory as Memory
use Rattle.wh_shared.proofs.Crossing.{share_send}
use Rattle.wh_planners.specs.contracts.sharing.Sharing as Sharing
use Rattle.wh_planners.specs.contracts.sharing.Sharing.TheInside as Inside

memory_send : IsSend Memory.the_row
memory_send = search (heap.crosses, sendable) depth 20

pub sharing_send : IsSend Sharing.the_row
sharing_send = view_send Inside.the_row _ _ _ _ (declared_send Inside.the_type (search (grid_send, grid_sync, heap.crosses, sendable) depth 20, (claim_send, (share_send, (memory_send, (search sendable depth 20, (search (heap.crosses, sendable) depth 20, (search sendable depth 20, (search sendable depth 20, tt)))))))))
