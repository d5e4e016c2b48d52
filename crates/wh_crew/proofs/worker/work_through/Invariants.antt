use Rattle.std.proofs.Common.{◌≡◌, ◌++◌, length}
use Rattle.std.specs.Vec.Iter.{into_iter_items}
use Rattle.wh_crew.proofs.Calls.{Working}
use Rattle.wh_crew.proofs.worker.work_through.Given as goal

-- what was done answers the commands so far, and these with those that are left are all
abbrev pub invariant-loop-command : goal.invariant-loop-command
invariant-loop-command g l =
    (l.yielded ++ into_iter_items l.command-iterator ≡ l.fn.work.commands.items)
    × Working g.P.Plans.fits_map g.P.Plans.slot_count g.N.DeskName.origin.site.grid (length g.N.DeskName.cells) l.yielded l.fn.work.spares.items l.initial.pass l.pass l.missed l.spares.items
