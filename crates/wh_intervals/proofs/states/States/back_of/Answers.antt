use Rattle.std.proofs.Common.{arith}
use Rattle.std.proofs.lemmas.List.{get_or_read}
use Rattle.wh_intervals.proofs.states.States.back_of.Goals as goal

pub returns-then-place-len : goal.returns-then-place-len
returns-then-place-len c =
    let nodes = c.args.self.now.nodes.items in
    record {
      place = c.args.from.parent;
      within = omega arith;
      is = get_or_read nodes c.args.from.parent c.index.result.now (omega arith) c.index.ensures (record { time = 0; leg = 0; cell = record { x = 0; y = 0 }; until = 0; parent = 0 });
    }
