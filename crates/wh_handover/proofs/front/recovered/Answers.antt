use Rattle.std.proofs.Common.{◌∙◌, ℕ, List, [], inr, sym, subst, Some}
use Rattle.wh_points.specs.Points.{Site}
use Rattle.wh_resume.specs.Behind.{IsFlawed}
use Rattle.wh_resume.specs.Resuming.{IsWhyBad, TellsBook, TellsFrom}
use Rattle.wh_resume.specs.declared.recovery.Recovery.{Recovery}
use Rattle.wh_handover.proofs.Facts.{site_told, nothing_before}
use Rattle.wh_handover.proofs.front.recovered.Goals as goal

pub returns-in-Resumed-clause-tells : goal.returns-in-Resumed-clause-tells
returns-in-Resumed-clause-tells c =
    let said = subst (λ (f : Recovery). TellsFrom c.args.setting [] (Some c.args.text.now) f) c.in-Resumed.is c.in-Ok.ensures.told in
    let r = c.in-Resumed.resumed in
    subst (λ (t : List ℕ). TellsBook r.book.site t r r.preface) said.1
    (subst (λ (s : Site). TellsBook s said.0 r r.preface) (sym (site_told c.args.setting said.0 r r.preface said.2)) said.2)

pub returns-in-Resumed-clause-site : goal.returns-in-Resumed-clause-site
returns-in-Resumed-clause-site c =
    let said = subst (λ (f : Recovery). TellsFrom c.args.setting [] (Some c.args.text.now) f) c.in-Resumed.is c.in-Ok.ensures.told in
    let r = c.in-Resumed.resumed in
    site_told c.args.setting said.0 r r.preface said.2

pub returns-in-Unopened-clause-fault : goal.returns-in-Unopened-clause-fault
returns-in-Unopened-clause-fault c = λ after.
    let said = subst (λ (f : Recovery). TellsFrom c.args.setting [] (Some c.args.text.now) f) c.in-Unopened.is c.in-Ok.ensures.told in
    sym said.1 ∙ nothing_before said.0 said.2.1.rest said.2.1.is

pub returns-in-Flawed-clause-fault : goal.returns-in-Flawed-clause-fault
returns-in-Flawed-clause-fault c = λ after.
    let said = subst (λ (f : Recovery). TellsFrom c.args.setting [] (Some c.args.text.now) f) c.in-Flawed.is c.in-Ok.ensures.told in
    subst (λ (t : List ℕ). IsFlawed c.args.setting t c.in-Flawed.line c.in-Flawed.reason) said.1 said.2

pub returns-clause-fault : goal.returns-clause-fault
returns-clause-fault c = λ after.
    let said = subst (λ (f : Recovery). TellsFrom c.args.setting [] (Some c.args.text.now) f) c.in-Bad.is c.in-Ok.ensures.told in
    inr (subst (λ (t : List ℕ). IsWhyBad c.args.setting [] t c.in-Bad.line) said.1 said.2.1)
