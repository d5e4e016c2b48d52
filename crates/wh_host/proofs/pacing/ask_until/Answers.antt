use Rattle.std.proofs.Common.{Bool, List, false, inl, length, refl, subst, sym, ◌∙◌}
use Rattle.std.proofs.lemmas.Result.{err_from_is_err_and}
use Rattle.wh_crew.specs.Turns.{AllAsked, Outcome}
use Rattle.wh_host.proofs.Turning.{Asking, asking_ends, asking_length, asking_more, asking_none, fewer_asked, share_kept, stops_later}
use Rattle.wh_host.proofs.pacing.ask_until.Goals as goal

pub loop-some-init : goal.loop-some-init
loop-some-init g c = record {
  seats = c.requires.seats;
  asking = subst (λ (l : List Bool). Asking g.N.DeskName.origin c.args.board.now c.args.pass.now c.args.pass.now l false c.args.last.now) (sym c.requires.nobody)
      (asking_none g.N.DeskName.origin c.args.board.now c.args.pass.now c.args.last.now c.requires.first);
  share = inl refl;
}

pub loop-some-smaller : goal.loop-some-smaller
loop-some-smaller g c = fewer_asked (c.in_ok-ask_one.ensures.asks c.if-branch.true)

pub loop-some-preserved : goal.loop-some-preserved
loop-some-preserved g c =
    let one = c.in_ok-ask_one.ensures.asks c.if-branch.true in
    record {
      seats = asking_length one ∙ c.loop-some.invariant.seats;
      asking = asking_more c.loop-some.invariant.asking one;
      share = share_kept c.args.entries c.args.pass.now c.loop-some.pass c.ask_one.new.pass c.loop-some.invariant.share c.in_ok-ask_one.ensures.share;
    }

pub returns-clause-ok : goal.returns-clause-ok
returns-clause-ok g c =
    let none = c.in_ok-ask_one.ensures.none c.if-branch.false in
    subst (λ (o : Outcome). AllAsked g.N.DeskName.origin c.args.board.now c.args.pass.now c.loop-some.some c.ask_one.new.pass o) (sym none.1) (asking_ends c.loop-some.invariant.asking none.0)

pub returns-in_err-ask_one-clause-err : goal.returns-in_err-ask_one-clause-err
returns-in_err-ask_one-clause-err g c =
    let p = err_from_is_err_and c.from_residual.result c.from_residual.ensures.1 in
    let t = c.loop-some.invariant.asking in
    rw (p.1, p.2) (stops_later t.requests t.asks c.in_err-ask_one.ensures.err)
