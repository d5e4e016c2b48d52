use Rattle.std.proofs.Common.{◌≡◌, length}
use Rattle.std.specs.List.{count_by}
use Rattle.std.specs.Prelude.{not}
use Rattle.wh_host.proofs.Turning.{Asking, KeepsShare}
use Rattle.wh_host.proofs.pacing.ask_until.Given as goal

-- these asked
abbrev pub invariant-loop-some : goal.invariant-loop-some
invariant-loop-some g l = record {
  seats : length l.asked ≡ length g.N.DeskName.origin.site.layout.agents;
  asking : Asking g.N.DeskName.origin l.fn.board l.fn.pass l.pass l.asked l.some l.last;
  share : KeepsShare l.fn.entries l.fn.pass l.pass;
}

-- those that have not asked
abbrev pub decreases-loop-some : goal.decreases-loop-some
decreases-loop-some g l = count_by not l.asked
