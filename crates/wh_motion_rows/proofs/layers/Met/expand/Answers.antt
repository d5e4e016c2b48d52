use Rattle.std.proofs.Common.{◌≡◌, ◌+◌, ◌<◌, ◌≤◌, length, take, subst, sym, arith}
use Rattle.std.proofs.lemmas.List.{take_all, get_or_read}
use Rattle.wh_search.specs.Steps.{Go}
use Rattle.wh_search.specs.declared.noted.Node.{Node}
use Rattle.wh_motion_rows.specs.declared.layers.Met.{Met}
use Rattle.wh_search.specs.Frontiers.{problem, node_at, state_of}
use Rattle.wh_search.specs.States.{IsEnd}
use Rattle.wh_search.proofs.Expands.{move_at}
use Rattle.wh_motion_rows.proofs.Layered.{IsSpreading, spreading_met, spreading_not, spreading_done, layered_late}
use Rattle.wh_motion_rows.proofs.layers.Met.expand.Goals as goal
use Rattle.wh_motion_rows.proofs.layers.Met.expand.Goals.{then-allows+in_ok-meet, else-allows}

pub returns-then-time-errand : goal.returns-then-time-errand
returns-then-time-errand c =
    let nodes = c.args.self.now.nodes.items in
    let from = c.index-from.result.now in
    let is : from ≡ node_at nodes c.args.index = get_or_read nodes c.args.index from (omega arith) c.index-from.ensures (record { time = 0; leg = 0; cell = record { x = 0; y = 0 }; parent = 0 }) in
    let limit = c.if-time-errand.true in
    layered_late (problem c.args.errand.now) nodes c.args.index c.requires.kept (omega arith) (subst (λ (n : Node). c.args.errand.now.limit ≤ n.time) is (omega arith)) c.requires.no_end

pub loop-i-preserved : goal.loop-i-preserved
loop-i-preserved c =
    let p = problem c.args.errand.now in
    let l = c.loop-i in
    let from = c.index-from.result.now in
    let moves = c.moves_from-moves.result in
    let small : l.i < length moves = omega arith in
    let P : Met → Type 0 = λ m. IsSpreading p m.nodes.items c.args.index from (take (l.i + 1) moves) in
    let limit = c.if-time-errand.false in
    elim c.if-allows.branch [
      | then-allows+in_ok-meet w ↦ subst P (sym w.self-is)
          (let a = c.allows.ensures.0 w.if-allows.true in
          let go : Go p.grid p.others from.time from.cell (move_at moves l.i) = record { passable = a.0; move = c.moves_from-moves.ensures.moves l.i (record { x = 0; y = 0 }) small; may = a.1 } in
          spreading_met p l.self.nodes.items w.meet.new.self.nodes.items c.args.index from moves l.i w.arrive-leg.result small l.invariant go w.arrive-leg.ensures (omega arith) w.in_ok-meet.ensures)
      | else-allows w ↦ subst P (sym w.self-is)
          (spreading_not p l.self.nodes.items c.args.index from moves l.i small l.invariant (λ go. let t = c.allows.ensures.1 (go.passable, go.may) in absurd cc))
    ]

pub returns : goal.returns
returns c =
    let p = problem c.args.errand.now in
    let l = c.loop-i in
    let old = c.args.self.now.nodes.items in
    let from = c.index-from.result.now in
    let moves = c.moves_from-moves.result in
    let is : from ≡ node_at old c.args.index = get_or_read old c.args.index from (omega arith) c.index-from.ensures (record { time = 0; leg = 0; cell = record { x = 0; y = 0 }; parent = 0 }) in
    let E : Node → Type 0 = λ n. IsEnd p.others p.via p.ends n.time (state_of n) → ⊥ in
    let x = subst (IsSpreading p l.self.nodes.items c.args.index from) (take_all l.i moves (omega arith)) l.invariant in
    spreading_done p l.self.nodes.items c.args.index from moves x (λ d a b m. c.moves_from-moves.ensures.complete d (omega arith) (omega arith) m) (omega arith) (omega arith) (subst E (sym is) c.requires.no_end)
