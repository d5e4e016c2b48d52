-- The fields that planners share, and what a planner counts as kept of them, may cross threads, as what they keep may.
use denote.Plain.{Nothing}
use denote.RattleType.{RattleType}
use denote.Param.Send.{IsSend, IsSync, sendable}
use denote.Param.SendFields.{declared_send}
use Rattle.std.specs.declared.cmp.Eq as eq
use Rattle.std.specs.declared.cmp.PartialEq as partial
use Rattle.std.specs.declared.hash.Hash as hash
use Rattle.std.specs.declared.hash.Hasher as hasher
use Rattle.std.specs.declared.hash.BuildHasher as builder
use Rattle.std.proofs.Crossing as heap
use Rattle.std.proofs.MapsCrossing as maps
use Rattle.std.specs.contracts.alloc.Global as Heap
use Rattle.std.specs.contracts.impls.GlobalAllocator.TheImpl.{ghosts}
use Rattle.std.specs.contracts.hash.BuildHasherDefault as Default
use Rattle.std.specs.contracts.hash.FoldHasher as Fold
use Rattle.lru.specs.contracts.cache.LruCache as LruCache
use Rattle.lru.proofs.Crosses.{List-send, KeyRef-send, Deed-send}
use Rattle.wh_field.specs.contracts.growing.GrowingField as Growing
use Rattle.wh_grid.specs.contracts.cell.Cell as Cell
use Rattle.wh_grid.proofs.cell.Cell.TheSendSync.{the_send as cell_send, the_sync as cell_sync}
use Rattle.wh_grid.proofs.grid.Grid.TheSendSync.{the_send as grid_send, the_sync as grid_sync}
use Rattle.wh_shared.specs.contracts.store.SharedFields as SharedFields
use Rattle.wh_shared.specs.contracts.share.Share as Share

growing_send : IsSend Growing.the_row
growing_send = search (heap.crosses, sendable) depth 20

-- A cache may cross threads as its keys, values and hasher may; a key is seen from its node and from the map. Of any types,
-- since a search through all parts of a kept field would be given up.
module _ (K V S T : RattleType) (q : eq.Ghosts K.Denot) (e : partial.Ghosts K.Denot) (h : hash.Ghosts K.Denot) (b : builder.Ghosts S.Denot T.Denot) (w : hasher.Ghosts T.Denot) where
  cache_send : IsSend K → IsSync K → IsSend V → IsSend S → IsSend (LruCache.the_field K V S Heap.the_row T q e h b w ghosts).row
  cache_send s y t u = search (List-send, KeyRef-send, Deed-send, heap.crosses, maps.crosses, sendable) depth 20

pub fields_send : IsSend SharedFields.the_row
fields_send =
    declared_send SharedFields.the_type (
      search (grid_send, grid_sync, heap.crosses, sendable) depth 20,
      (cache_send Cell.the_row Growing.the_row (Default.the_row Fold.the_row) Fold.the_row _ _ _ _ _ cell_send cell_sync growing_send (search sendable depth 20), tt),
    )

pub share_send : IsSend Share.the_row
share_send =
    declared_send Share.the_type (
      cache_send Cell.the_row Nothing (Default.the_row Fold.the_row) Fold.the_row _ _ _ _ _ cell_send cell_sync (search sendable depth 20) (search sendable depth 20),
      tt,
    )
