use Rattle.std.proofs.Common.{◌≡◌, ◌+◌, ◌<◌, false, refl, get_or}
use Rattle.std.proofs.lemmas.Option.{slice_get_within}
use Rattle.wh_path.specs.Paths.{at}
use Rattle.wh_tasks.specs.Loads.{task_of}
use Rattle.wh_state.proofs.Asking.{absent-foretells}
use Rattle.wh_state.proofs.arrivals.foretell_if_due.Goals as goal

pub returns-then-not-is_due : goal.returns-then-not-is_due
returns-then-not-is_due c =
    let late : c.args.clock + 1 < get_or c.args.dues.now c.args.agent 0 = c.is_due.ensures (let e : c.is_due.result ≡ false = cc in e) in
    absent-foretells (c.args.clock + 1) (at c.args.path.now 1) c.args.tasks.now.tasks c.args.agent c.args.load c.requires.load
    (λ n task there is left. c.requires.away n task 1 there is left late) (task_of c.args.load) refl

pub foretell_one-requires : goal.foretell_one-requires
foretell_one-requires c = λ n names. let holds = c.requires.load.holds n names in slice_get_within c.args.tasks.now.tasks n holds.task holds.there
