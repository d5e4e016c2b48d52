use Rattle.std.proofs.Common.{List, ℕ, inl, inr, refl, ap, subst, rules}
use Rattle.std.specs.Prelude.{None}
use Rattle.std.proofs.lemmas.Result.{IfErr-weaker, IfOk-weaker}
use Rattle.wh_handover.specs.Handing.{IsWhyNone}
use Rattle.wh_edge.specs.declared.trouble.Trouble.{Trouble}
use Rattle.wh_service.specs.declared.convoys.DriveTrouble.TheVariants.{Plain}
use Rattle.wh_service.proofs.Stood.{by_files, not_by_files}
use Rattle.wh_service.proofs.standing.text_by_files.Goals as goal

pub returns-then-not-nofollow-clause-fault : goal.returns-then-not-nofollow-clause-fault
returns-then-not-nofollow-clause-fault g c = inl (search rules, refl)

pub returns-in-Err-clause-fault : goal.returns-in-Err-clause-fault
returns-in-Err-clause-fault g c = inr (inl (c.in-Err.trouble, c.in-Err.ensures.fault, refl))

pub returns-in-Err-recovered-clause-fault : goal.returns-in-Err-recovered-clause-fault
returns-in-Err-recovered-clause-fault g c =
    inr (inr (inl (record {
      log = c.in-Ok.log.items;
      log_is = c.in-Ok.ensures.ok;
      fault = c.in-Err-recovered.fault;
      why = subst (λ (t : List ℕ). IsWhyNone c.args.setting t None c.in-Err-recovered.fault) c.as_slice.ensures.value (c.in-Err-recovered.ensures.fault None);
      told_is = ap (λ (t : Trouble). Plain t) c.trouble_of.ensures;
    })))

pub returns-in-Err-text_of-clause-fault : goal.returns-in-Err-text_of-clause-fault
returns-in-Err-text_of-clause-fault g c = inr (inl (c.in-Err-text_of.trouble, c.in-Err-text_of.ensures.fault, refl))

pub returns-clause-ok : goal.returns-clause-ok
returns-clause-ok g c =
    IfOk-weaker c.text_standing-told.result _ _
    (λ told is. by_files c.args.setting (g.L.Journal.contents c.args.file.now) (g.L.Journal.contents c.args.arrivals.now) c.in-Ok.log.items c.in-Ok-text_of.reports.items c.in-Ok-recovered.resumed
    c.in-Ok.ensures.ok c.in-Ok-text_of.ensures.ok c.in-Ok-recovered.ensures.site c.as_slice.result.now c.as_slice.ensures.value c.in-Ok-recovered.ensures.tells
    c.as_slice-2.result.now c.as_slice-2.ensures.value c.as_slice-3.result.now c.as_slice-3.ensures.value (search rules) told.items is)
    c.text_standing-told.ensures.ok

pub returns-clause-fault : goal.returns-clause-fault
returns-clause-fault g c =
    IfErr-weaker c.text_standing-told.result _ _
    (λ told why. inr (inr (inr (not_by_files c.args.setting (g.L.Journal.contents c.args.file.now) (g.L.Journal.contents c.args.arrivals.now) c.in-Ok.log.items c.in-Ok-text_of.reports.items c.in-Ok-recovered.resumed
    c.in-Ok.ensures.ok c.in-Ok-text_of.ensures.ok c.in-Ok-recovered.ensures.site c.as_slice.result.now c.as_slice.ensures.value c.in-Ok-recovered.ensures.tells
    c.as_slice-2.result.now c.as_slice-2.ensures.value c.as_slice-3.result.now c.as_slice-3.ensures.value told why))))
    c.text_standing-told.ensures.fault
