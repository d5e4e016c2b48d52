use Rattle.std.proofs.Common.{List, ℕ, Option, IfOk, sym, subst, ◌∙◌}
use Rattle.wh_resume.specs.Resuming.{TellsFrom}
use Rattle.wh_continue.proofs.starting.recover_file.Goals as goal

pub returns-clause-told : goal.returns-clause-told
returns-clause-told g c =
    subst (λ (h : Option (List ℕ)). IfOk c.recover.result (TellsFrom c.args.setting c.args.begun.now h)) (g.met.L.LogFile.one_text c.args.file.now) c.recover.ensures.told

pub returns-clause-same : goal.returns-clause-same
returns-clause-same g c = sym (g.met.L.LogFile.one_text c.recover.new.source) ∙ c.recover.ensures.same ∙ g.met.L.LogFile.one_text c.args.file.now
