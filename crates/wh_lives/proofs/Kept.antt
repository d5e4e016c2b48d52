-- What is kept of a run from any state is in the ranges of a log.
use Rattle.std.proofs.Common.{◌+◌, ◌*◌, ◌<◌, ◌^◌, ℕ, List, [], ◌∷◌, ◌++◌, length, refl, arith}
use Rattle.std.specs.List.{AllByRecursion}
use Rattle.wh_points.specs.Points.{Site}
use Rattle.wh_event.specs.declared.entry.Entry.{Entry}
use Rattle.wh_core.specs.States.{State}
use Rattle.wh_core.specs.Steps.{Run}
use Rattle.wh_core.specs.Laws.{IsBeginning, IsReached}
use Rattle.wh_core.proofs.Sound.{kept-reached, sound-reached}
use Rattle.wh_core.proofs.StepKinds.{run-join, step-moves}
use Rattle.wh_log.specs.Ranges.{Keeps}
use Rattle.wh_judge.specs.Written.{IsAskedInRange, IsInRange}
use Rattle.wh_judge.proofs.Paths.{Short, short_moves}
use Rattle.wh_judge.proofs.Replies.{reply_keeps}

keeps_from : (site : Site) (before entries : List Entry) (old new : State) (most : ℕ) → IsInRange site → IsReached site before old → Short most old.paths → Run site old entries new → AllByRecursion IsAskedInRange entries
    → most + length entries * 150994944 < 2 ^ 64 → AllByRecursion (Keeps 8) entries
keeps_from site before [] old new most range reached short run asked room = tt
keeps_from site before (entry ∷ entries) old new most range reached short run asked room =
    let fits : most < 2 ^ 64 = omega arith in
    let next : IsReached site (before ++ entry ∷ []) run.0 = record {
      opening = reached.opening;
      is_beginning = reached.is_beginning;
      run = run-join site reached.opening before old (entry ∷ []) run.0 reached.run (run.0, run.1, refl);
    } in
    let grown = short_moves site old run.0 most range (kept-reached site before old reached).orderly short (step-moves site old entry run.0 run.1) in (
      record {
        caller = asked.0.caller;
        event = asked.0.event;
        reply = reply_keeps site old entry.reply entry.event run.0 most range (sound-reached site before old reached).few short fits asked.0.event run.1;
      },
      keeps_from site (before ++ entry ∷ []) entries run.0 new (most + 150994944) range next grown run.2 asked.1 (omega arith),
    )

-- of a run from a state whose paths have at most so many steps
pub entries_keep : (site : Site) (opening : State) (entries : List Entry) (new : State) (most : ℕ) → IsInRange site → IsBeginning site opening → Short most opening.paths → most < 2 ^ 63 → Run site opening entries new
    → AllByRecursion IsAskedInRange entries → length entries < 10 ^ 9 → AllByRecursion (Keeps 8) entries
entries_keep site opening entries new most range begins short small run asked few =
    keeps_from site [] entries opening new most range (record { opening = opening; is_beginning = begins; run = refl }) short run asked (omega arith)
