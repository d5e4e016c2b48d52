use Rattle.std.proofs.Common.{All, ◌≡◌, ◌-◌, [], map, length}
use Rattle.wh_live.specs.Clients.{ReadInTurn}
use Rattle.wh_live.proofs.clients.read_clients.Given as goal

-- the clients so far were read in turn, and have no spares
abbrev pub invariant-loop-alloc : goal.invariant-loop-alloc
invariant-loop-alloc g l =
    ReadInTurn l.initial.lines l.lines (map (λ work. work.commands.items) l.works.items) × All (λ work. work.spares.items ≡ []) l.works.items

abbrev pub decreases-loop-alloc : goal.decreases-loop-alloc
decreases-loop-alloc g l = 65 - length l.works.items
