use Rattle.std.proofs.Common.{List, length, ap}
use Rattle.wh_event.specs.declared.entry.Entry.{Entry}
use Rattle.wh_replay.proofs.Scripting.{left_here}
use Rattle.wh_journal.proofs.rounds.serve_round.Goals as goal

pub serve_script-requires-clause-left : goal.serve_script-requires-clause-left
serve_script-requires-clause-left g c = left_here _ _ _ _ (ap (λ (entries : List Entry). length entries) c.history-first.ensures.value) c.clock-clock.ensures.value c.new.ensures
