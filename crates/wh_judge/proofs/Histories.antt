-- the history of a warehouse is what a log can tell
use Rattle.std.proofs.Common.{◌≡◌, ℕ, ◌+◌, ◌*◌, ◌<◌, ◌^◌, List, [], ◌∷◌, ◌++◌, length, refl, ap, arith}
use Rattle.std.specs.List.{AllByRecursion, All}
use Rattle.std.proofs.lemmas.List.Elements.{All-head, All-tail}
use Rattle.wh_points.specs.Points.{Site, starts}
use Rattle.wh_event.specs.declared.entry.Entry.{Entry}
use Rattle.wh_core.specs.States.{State, opened}
use Rattle.wh_core.specs.Steps.{Run}
use Rattle.wh_core.specs.Laws.{IsReached}
use Rattle.wh_core.proofs.Sound.{opening-reached, kept-reached, sound-reached}
use Rattle.wh_core.proofs.StepKinds.{run-join, step-moves}
use Rattle.wh_log.specs.Ranges.{Keeps}
use Rattle.wh_judge.specs.Written.{IsInRange, IsAskedInRange, RunsAreLogs}
use Rattle.wh_judge.proofs.Paths.{Short, short_first, short_moves}
use Rattle.wh_judge.proofs.Replies.{reply_keeps}

-- each entry keeps the ranges, with paths that grow by no more than nine times over the map for each entry
keeps_from : (site : Site) (before entries : List Entry) (old new : State) (most : ℕ) → IsInRange site → IsReached site before old → Short most old.paths →
    Run site old entries new → All IsAskedInRange entries → most + length entries * 150994944 < 2 ^ 64 → AllByRecursion (Keeps 8) entries
keeps_from site before [] old new most range reached short run asked room = tt
keeps_from site before (entry ∷ entries) old new most range reached short run asked room =
    let first = All-head IsAskedInRange entry entries asked in
    let fits : most < 2 ^ 64 = omega arith in
    let next : IsReached site (before ++ entry ∷ []) run.0 = record {
      opening = reached.opening;
      is_beginning = reached.is_beginning;
      run = run-join site reached.opening before old (entry ∷ []) run.0 reached.run (run.0, run.1, refl);
    } in
    let grown = short_moves site old run.0 most range (kept-reached site before old reached).orderly short (step-moves site old entry run.0 run.1) in (
      record {
        caller = first.caller;
        event = first.event;
        reply = reply_keeps site old entry.reply entry.event run.0 most range (sound-reached site before old reached).few short fits first.event run.1;
      },
      keeps_from site (before ++ entry ∷ []) entries run.0 new (most + 150994944) range next grown run.2 (All-tail IsAskedInRange entry entries asked) (omega arith),
    )

pub runs_are_logs : RunsAreLogs
runs_are_logs site content range told slots asked few =
    let opening = opened site.layout content.clock content.slots in
    let o = told.is_opening in
    let clock : content.clock ≡ o.clock = ap (λ (s : State). s.clock) o.is_opened in
    let seats : length content.slots ≡ length o.slots = ap (λ (s : State). length s.slots) o.is_opened in
    let fits = o.clock_fits in
    let all = o.seats in
    let some = range.some in
    let most = range.few in
    record {
      opens = record { clock_fits = omega arith; some = omega arith; few = omega arith; each = slots };
      entries =
          keeps_from site [] content.entries opening told.state 0 range (opening-reached site opening [] opening o refl).reached
          (short_first (starts site.layout)) told.run asked (omega arith);
      count = few;
    }
