use Rattle.std.proofs.Common.{[], ◌∷◌, ◌++◌, length, subst, sym, ◌∙◌}
use Rattle.std.proofs.lemmas.Result.{err_from_is_err_and}
use Rattle.wh_crew.specs.Turns.{IsOutcome, Outcome}
use Rattle.wh_crew.proofs.Asking.{turn_comes, turn_still}
use Rattle.wh_crew.proofs.Resting.{outcome_more, outcome_new}
use Rattle.wh_host.proofs.Turning.{share_kept, turn_stops, turn_stops_ticking}
use Rattle.wh_host.proofs.pacing.take_turn.Goals as goal

pub ask_all-requires-clause-first : goal.ask_all-requires-clause-first
ask_all-requires-clause-first g c κs within = subst (λ (o : Outcome). IsOutcome c.args.board.now [] o) (sym c.new-last.ensures) (outcome_new c.args.board.now)

pub returns-clause-ok : goal.returns-clause-ok
returns-clause-ok g c = turn_still c.requires.shown c.in_ok-some.ensures.ok (sym c.is_to_tick.ensures ∙ c.if-is_to_tick.false)

pub returns-in_err-tick-clause-err : goal.returns-in_err-tick-clause-err
returns-in_err-tick-clause-err g c =
    let p = err_from_is_err_and c.from_residual-in_err-tick.result c.from_residual-in_err-tick.ensures.1 in
    rw (p.1, p.2) (turn_stops_ticking c.requires.shown c.in_ok-some.ensures.ok (sym c.is_to_tick.ensures ∙ c.if-is_to_tick.true) c.in_err-tick.ensures.err)

pub returns-then-is_to_tick-clause-ok : goal.returns-then-is_to_tick-clause-ok
returns-then-is_to_tick-clause-ok g c =
    let all = c.in_ok-some.ensures.ok in
    let t = c.in_ok-tick.ensures.ok in
    let is : IsOutcome c.args.board.now (all.requests ++ t.receipt ∷ []) c.tick.new.last = subst (λ (o : Outcome). IsOutcome c.args.board.now (all.requests ++ t.receipt ∷ []) o) (sym t.outcome_is) (outcome_more c.args.board.now all.requests c.ask_all.new.last t.receipt all.outcome_is) in
    turn_comes t.receipt c.requires.shown all (sym c.is_to_tick.ensures ∙ c.if-is_to_tick.true) t.ticks is
