-- Where `check` was entered, its rows say the rule.
use Rattle.std.proofs.Common.{◌∙◌, Some, ap, codes, sym, true≢false}
use Rattle.wh_options.specs.Reads.{homes_of}
use Rattle.wh_options.proofs.Entered.{given_are, name_is}
use Rattle.wh_options.proofs.read.check_options.Goals as goal

pub returns-in-Some : goal.returns-in-Some
returns-in-Some c = λ name rows e is.
    let same = given_are c.args.matches.now c.in-Some.check.now name rows e c.in-Some.ensures.rows in
    c.homes.ensures ∙ ap homes_of (same (codes "ends"))

pub returns-in-None : goal.returns-in-None
returns-in-None c = λ name rows e is.
    absurd (true≢false (sym (c.in-None.ensures.found.1 (name_is c.args.matches.now name rows e ∙ ap Some is))))
