use Rattle.std.proofs.Common.{Option, inl, inr, subst}
use Rattle.std.specs.Io.KnownBytes.{Appends}
use Rattle.wh_resume.specs.declared.recovery.Preface.{Preface}
use Rattle.wh_judge.specs.Drafts.{Seen}
use Rattle.wh_service.specs.Tails.{IsWhyNoTail, tail_behind}
use Rattle.wh_service.proofs.Convoyed.{goes_to_end}
use Rattle.wh_service.proofs.convoys.go_on.Goals as goal

pub returns-in-Err-clause-fault : goal.returns-in-Err-clause-fault
returns-in-Err-clause-fault g c = inl (c.in-Err.fault, c.ride_on-ran.new.spares.items, c.ride_trouble.ensures, c.in-Err.ensures.fault)

pub returns-in-Ok-written-clause-ok : goal.returns-in-Ok-written-clause-ok
returns-in-Ok-written-clause-ok g c =
    let final : Seen = c.in-Ok.ran.0.book in
    record {
      final = final;
      crew = c.in-Ok.ran.1;
      replied = g.W.Write.contents c.ride_on-ran.new.writer;
      goes = goes_to_end _ _ _ _ _ _ _ c.args.start c.args.stood _ _ c.requires.stand final c.in-Ok.ran.1 _ _ _ _ _ c.in-Ok.ensures.runs c.history-history.ensures.opening c.history-history.ensures.run c.history-history.ensures.served;
      follows = subst (λ (p : Option Preface). Appends (g.W.Write.contents c.ride_on-ran.new.writer) (g.W.Write.contents c.write_tail-written.new.output) (tail_behind p c.args.tail final.opening final.history final.state)) c.in-Ok.ensures.preface
          c.in-Ok-written.ensures.ok;
      left_is = c.on_their_way.ensures;
    }

pub returns-clause-fault : goal.returns-clause-fault
returns-clause-fault g c =
    let final : Seen = c.in-Ok.ran.0.book in
    inr (record {
      final = final;
      crew = c.in-Ok.ran.1;
      replied = g.W.Write.contents c.ride_on-ran.new.writer;
      goes = goes_to_end _ _ _ _ _ _ _ c.args.start c.args.stood _ _ c.requires.stand final c.in-Ok.ran.1 _ _ _ _ _ c.in-Ok.ensures.runs c.history-history.ensures.opening c.history-history.ensures.run c.history-history.ensures.served;
      why = subst (λ (p : Option Preface). IsWhyNoTail c.in-Err-written.trouble (g.W.Write.contents c.ride_on-ran.new.writer) (g.W.Write.contents c.write_tail-written.new.output) (tail_behind p c.args.tail final.opening final.history final.state)) c.in-Ok.ensures.preface
          c.in-Err-written.ensures.fault;
    })
