use Rattle.std.proofs.Common.{◌≡◌, ℕ, ◌<◌, List, length, subst, sym, arith}
use Rattle.std.proofs.lemmas.List.{get_or_read}
use Rattle.wh_search.specs.declared.noted.Node.{Node}
use Rattle.wh_search.specs.Frontiers.{problem, node_at, state_of, IsTrace}
use Rattle.wh_motion_rows.specs.Layers.{IsReached}
use Rattle.wh_search.specs.States.{IsEnd}
use Rattle.wh_motion_rows.proofs.Layered.{layers_none, layers_found}
use Rattle.wh_motion_rows.proofs.layers.search.Goals as goal

pub returns-then-index-len : goal.returns-then-index-len
returns-then-index-len c = layers_none c.args.errand.now c.loop-index.met.nodes.items c.loop-index.index c.requires c.loop-index.invariant (omega arith)

pub walk_back-requires-clause-reached : goal.walk_back-requires-clause-reached
walk_back-requires-clause-reached c =
    let p = problem c.args.errand.now in
    subst (λ (y : List Node). (i : ℕ) → i < length y → IsReached p y i (node_at y i)) (sym c.deref.ensures.value) c.loop-index.invariant.reached

pub returns-then-is_end : goal.returns-then-is_end
returns-then-is_end c =
    let e = c.args.errand.now in
    let l = c.loop-index in
    let nodes = l.met.nodes.items in
    let n = c.index.result.now in
    let is : n ≡ node_at nodes l.index = get_or_read nodes l.index n (omega arith) c.index.ensures (record { time = 0; leg = 0; cell = record { x = 0; y = 0 }; parent = 0 }) in
    let E : Node → Type 0 = λ y. IsEnd e.others.now e.via.now e.ends.now y.time (state_of y) in
    let trace : IsTrace (problem e) c.in_ok-path.path (node_at nodes l.index) =
    subst (λ (y : List Node). IsTrace (problem e) c.in_ok-path.path (node_at y l.index)) c.deref.ensures.value c.in_ok-path.ensures in
    layers_found e nodes l.index c.in_ok-path.path c.requires l.invariant (omega arith) (subst E is (c.is_end.ensures.0 c.if-is_end.true)) trace
