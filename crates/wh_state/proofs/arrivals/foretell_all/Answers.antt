use Rattle.std.proofs.Common.{◌≡◌, ◌+◌, ◌<◌, [], false, length, get_or, ap, sym, ◌∙◌, refl, map, subst}
use Rattle.std.proofs.lemmas.List.{get_or_default}
use Rattle.std.proofs.lemmas.Option.{slice_get-get_or}
use Rattle.wh_path.specs.Paths.{at, path_of, place_of, advanced}
use Rattle.wh_tasks.specs.declared.task.Load.{Load}
use Rattle.wh_tasks.specs.Loads.{task_of}
use Rattle.wh_state.specs.Arriving.{ForetellsBy}
use Rattle.wh_state.specs.Dues.{IsAway}
use Rattle.wh_state.proofs.Asking.{nobody-due, picked-none, dropped-none}
use Rattle.wh_state.proofs.NextStops.{load-of}
use Rattle.wh_state.proofs.Steps.{byte-bit}
use Rattle.wh_state.proofs.Foretelling.{foretelling-start, foretelling-step, foretold-picked, foretold-dropped, place-next}
use Rattle.wh_state.proofs.arrivals.foretell_all.Goals as goal

pub returns-then-not-is_any-clause-picked : goal.returns-then-not-is_any-clause-picked
returns-then-not-is_any-clause-picked c =
    picked-none (c.args.clock + 1) (place_of (map advanced c.args.paths.now)) c.args.tasks.now.tasks
    (nobody-due c.args.clock 1 (c.args.clock + 1) c.args.paths.now (place_of (map advanced c.args.paths.now)) c.args.loads.now c.args.tasks.now.tasks c.args.dues.now c.requires.each
    (λ agent lt. place-next c.args.paths.now agent lt) c.requires.tied c.requires.due refl (c.is_any.ensures (let e : c.is_any.result ≡ false = cc in e)))

pub returns-then-not-is_any-clause-dropped : goal.returns-then-not-is_any-clause-dropped
returns-then-not-is_any-clause-dropped c =
    dropped-none (c.args.clock + 1) (place_of (map advanced c.args.paths.now)) c.args.tasks.now.tasks
    (nobody-due c.args.clock 1 (c.args.clock + 1) c.args.paths.now (place_of (map advanced c.args.paths.now)) c.args.loads.now c.args.tasks.now.tasks c.args.dues.now c.requires.each
    (λ agent lt. place-next c.args.paths.now agent lt) c.requires.tied c.requires.due refl (c.is_any.ensures (let e : c.is_any.result ≡ false = cc in e)))

pub loop-agent-init : goal.loop-agent-init
loop-agent-init c = foretelling-start (c.args.clock + 1) (place_of (map advanced c.args.paths.now)) c.args.tasks.now.tasks

pub foretell_if_due-told-requires-clause-load : goal.foretell_if_due-told-requires-clause-load
foretell_if_due-told-requires-clause-load c =
    let i = c.loop-agent.agent in
    load-of c.args.loads.now c.args.tasks.now.tasks i (get_or c.args.loads.now i Load.None) c.requires.tied (slice_get-get_or c.args.loads.now i Load.None c.loop-agent-test.true)

pub foretell_if_due-told-requires-clause-away : goal.foretell_if_due-told-requires-clause-away
foretell_if_due-told-requires-clause-away c =
    let i = c.loop-agent.agent in
    let paths = c.args.paths.now in
    let on : i < length paths = rw c.requires.each at c.loop-agent-test.true in
    let path : c.index-paths-agent.result ≡ path_of paths i = c.index-paths-agent.is ∙ get_or_default paths i c.index-paths-agent.result [] on in
    subst (λ p. IsAway c.args.clock p c.args.tasks.now.tasks (get_or c.args.dues.now i 0) i) (sym path) (c.requires.due.away i)

pub loop-agent-preserved : goal.loop-agent-preserved
loop-agent-preserved c =
    let picks = c.from-picked.ensures ∙ byte-bit c.foretell_if_due-told.result.picked in
    let drops = c.from-dropped.ensures ∙ byte-bit c.foretell_if_due-told.result.dropped in
    let clock = c.args.clock + 1 in
    let i = c.loop-agent.agent in
    let paths = c.args.paths.now in
    let load : Load = get_or c.args.loads.now i Load.None in
    let has = slice_get-get_or c.args.loads.now i Load.None c.loop-agent-test.true in
    let on : i < length paths = rw c.requires.each at c.loop-agent-test.true in
    let here : at c.index-paths-agent.result 1 ≡ place_of (map advanced paths) i =
    ap (λ p. at p 1) (c.index-paths-agent.is ∙ get_or_default paths i c.index-paths-agent.result [] on) ∙ sym (place-next paths i on) in
    let tells : ForetellsBy clock (place_of (map advanced paths) i) c.args.tasks.now.tasks (task_of load) c.foretell_if_due-told.result = rw here at c.foretell_if_due-told.ensures in
    rw (picks, drops) (foretelling-step clock (place_of (map advanced paths)) c.args.loads.now c.args.tasks.now.tasks i c.loop-agent.picked c.loop-agent.dropped
    load (task_of load) c.foretell_if_due-told.result c.requires.tied has refl c.loop-agent.invariant tells)

pub returns-clause-picked : goal.returns-clause-picked
returns-clause-picked c =
    foretold-picked (c.args.clock + 1) (place_of (map advanced c.args.paths.now)) c.args.loads.now c.args.tasks.now.tasks c.loop-agent.agent c.loop-agent.picked c.loop-agent.dropped
    c.requires.tied c.loop-agent-test.false c.loop-agent.invariant

pub returns-clause-dropped : goal.returns-clause-dropped
returns-clause-dropped c =
    foretold-dropped (c.args.clock + 1) (place_of (map advanced c.args.paths.now)) c.args.loads.now c.args.tasks.now.tasks c.loop-agent.agent c.loop-agent.picked c.loop-agent.dropped
    c.requires.tied c.loop-agent-test.false c.loop-agent.invariant
