use Rattle.std.proofs.Common.{◌≡◌, ◌≤◌, ◌∙◌, List, length, ap, sym, arith}
use Rattle.wh_grid.specs.declared.cell.Cell.{Cell}
use Rattle.wh_path.specs.Paths.{at, place_of}
use Rattle.wh_tasks.specs.Tasks.{stops_left}
use Rattle.wh_tasks.specs.Arrivals.{stops_here}
use Rattle.wh_tasks.proofs.Visiting.{stops_here-at}
use Rattle.wh_state.specs.Columns.{state_in}
use Rattle.wh_stand.proofs.Holding.{phase-held}
use Rattle.wh_stand.proofs.Times.{path-read}
use Rattle.wh_stand.proofs.Telling.{told-size, duty-second, duty-alone, held-same}
use Rattle.wh_stand.proofs.Soundness.{left-off}
use Rattle.wh_stand.proofs.work.duty_flaw.Goals as goal

pub index-requires : goal.index-requires
index-requires c = (let size = told-size (state_in c.args.parts.now) c.requires.told in omega (arith, c.args.parts.now.loads.ok.0))

pub returns-in-Some-clause-some : goal.returns-in-Some-clause-some
returns-in-Some-clause-some c =
    let task = c.args.task.now in
    let some : 1 ≤ length task.stops = (let two = c.as_slice-stops.ensures.two in omega arith) in
    duty-second (state_in c.args.parts.now) task c.args.agent c.in-Some.other c.index.result.now c.requires.told c.requires.known c.index.ensures (sym c.task.ensures ∙ c.in-Some.is)
    (phase-held c.args.agent task c.requires.agent some (c.is_underway.ensures.0 c.if-not-is_underway.false))

pub returns-then-stops_here-gt0-clause-some : goal.returns-then-stops_here-gt0-clause-some
returns-then-stops_here-gt0-clause-some c =
    let task = c.args.task.now in
    let paths = c.args.parts.now.paths.items in
    let some : 1 ≤ length task.stops = (let two = c.as_slice-stops.ensures.two in omega arith) in
    let place : c.start.result ≡ place_of paths c.args.agent =
    c.start.ensures ∙ ap (λ (p : List Cell). at p 0) (path-read paths c.args.agent c.index-2.result.now c.requires.known c.index-2.ensures) in
    let here = c.stops_here.ensures.here in (
      duty-alone (state_in c.args.parts.now) task c.args.agent c.index.result.now c.requires.told c.requires.known c.index.ensures (sym c.task.ensures ∙ c.in_default.is) c.requires.agent,
      record {
        agent = c.args.agent;
        held = phase-held c.args.agent task c.requires.agent some (c.is_underway.ensures.0 c.if-not-is_underway.false);
        here = stops_here-at c.start.result (stops_left task) 0 (omega arith) ∙ place;
      },
      omega (arith, c.args.parts.now.tasks.ok.0),
    )

pub returns-clause-none : goal.returns-clause-none
returns-clause-none c =
    let task = c.args.task.now in
    let paths = c.args.parts.now.paths.items in
    let place : c.start.result ≡ place_of paths c.args.agent =
    c.start.ensures ∙ ap (λ (p : List Cell). at p 0) (path-read paths c.args.agent c.index-2.result.now c.requires.known c.index-2.ensures) in
    let none : stops_here c.start.result (stops_left task) ≡ 0 = (let here = c.stops_here.ensures.here in omega arith) in (
      duty-alone (state_in c.args.parts.now) task c.args.agent c.index.result.now c.requires.told c.requires.known c.index.ensures (sym c.task.ensures ∙ c.in_default.is) c.requires.agent,
      λ agent held here.
          let same = held-same task c.args.agent agent c.requires.agent held in
          left-off c.start.result task held.left none (here ∙ ap (λ a. place_of paths a) same ∙ sym place),
    )
