use Rattle.std.proofs.Common.{◌≡◌, ◌<◌, ◌≤◌, inl, inr, length, refl, rules, sym, true, false, ap, ◌∙◌, arith}
use Rattle.wh_desk.specs.Lists.{Received}
use Rattle.wh_crew.proofs.Resting.{rests}
use Rattle.wh_crew.proofs.Turning.{shows_now, taking_knows, taking_more, taking_none, taking_rests}
use Rattle.wh_host.proofs.Turning.{KeepsShare, paces, paces_stale, paces_until, share_kept}
use Rattle.wh_host.proofs.pacing.take_turns.Goals as goal

pub loop-init : goal.loop-init
loop-init g c = record { taking = taking_none g.N.DeskName.origin c.args.pass.now c.none-last.result c.none-last.ensures; share = inl refl }

pub take_turn-requires-clause-shown : goal.take_turn-requires-clause-shown
take_turn-requires-clause-shown g c = (let is = c.in-Ok.ensures.board in omega (arith, is.entries))

pub loop-preserved-then-rests_at : goal.loop-preserved-then-rests_at
loop-preserved-then-rests_at g c =
    let rest : rests c.loop.last c.in-Ok.board ≡ true = sym c.rests_at.ensures ∙ c.if-rests_at.true in
    let t = taking_knows c.loop.invariant.taking c.in-Ok.ensures.knows in
    record {
      taking = taking_rests t.turns t.caller_is t.goes_on t.count t.taken t.received t.whole t.latest (shows_now c.look.new.pass c.in-Ok.ensures.board c.in-Ok.ensures.own) rest;
      share = share_kept c.args.pace.entries c.args.pass.now c.loop.pass c.look.new.pass c.loop.invariant.share (inl c.in-Ok.ensures.knows.list_is);
    }

pub loop-preserved : goal.loop-preserved
loop-preserved g c =
    let busy : rests c.loop.last c.in-Ok.board ≡ false = sym c.rests_at.ensures ∙ c.if-rests_at.false in
    let t = taking_knows c.loop.invariant.taking c.in-Ok.ensures.knows in
    let share = share_kept c.args.pace.entries c.args.pass.now c.loop.pass c.look.new.pass c.loop.invariant.share (inl c.in-Ok.ensures.knows.list_is) in
    record {
      taking = taking_more t (shows_now c.look.new.pass c.in-Ok.ensures.board c.in-Ok.ensures.own) busy c.in-Ok-take_turn.ensures.ok;
      share = share_kept c.args.pace.entries c.args.pass.now c.look.new.pass c.take_turn.new.pass share c.in-Ok-take_turn.ensures.share;
    }

pub returns-in-Err-take_turn : goal.returns-in-Err-take_turn
returns-in-Err-take_turn g c =
    let less : c.loop.counter < c.args.pace.turns = search rules in
    let busy : rests c.loop.last c.in-Ok.board ≡ false = sym c.rests_at.ensures ∙ c.if-rests_at.false in
    let t = taking_knows c.loop.invariant.taking c.in-Ok.ensures.knows in
    let share = share_kept c.args.pace.entries c.args.pass.now c.loop.pass c.look.new.pass c.loop.invariant.share (inl c.in-Ok.ensures.knows.list_is) in
    paces_until t less (shows_now c.look.new.pass c.in-Ok.ensures.board c.in-Ok.ensures.own) busy c.in-Err-take_turn.ensures.err share c.in-Err-take_turn.ensures.share
