use Rattle.std.proofs.Common.{◌≡◌, ℕ, ◌+◌, ◌<◌, ◌≤◌, length, get_or, None, IsSomeAnd}
use Rattle.wh_path.specs.Paths.{cell_at}
use Rattle.wh_shared.specs.Shares.{stored_grid, room, slots}
use Rattle.wh_planners.proofs.Staying.{IsAmong}
use Rattle.wh_planners.proofs.deliver.ask_fields.Given as goal

-- the last i of them were asked for, and are among the first i fields
abbrev pub invariant-loop-i : goal.invariant-loop-i
invariant-loop-i l =
    (room l.store ≡ room l.fn.store) × (stored_grid l.store ≡ stored_grid l.fn.store) × (slots l.share ≡ slots l.fn.share) × (length l.levels ≡ 9)
    × ((k : ℕ) → k < l.few → l.few ≤ k + l.i → IsSomeAnd (get_or l.levels k None) (IsAmong l.i l.store (cell_at l.stops k)))
