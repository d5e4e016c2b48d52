-- The rights that words name, where there are as many.
use Rattle.std.proofs.Common.{◌≡◌, length, sym, ◌∙◌}
use Rattle.wh_client.specs.Clients.{count_rights}
use Rattle.wh_client.proofs.Named.{AreNamed, named, not_each, not_single}
use Rattle.wh_client.proofs.client.rights_of_words.Goals as goal
use Rattle.wh_client.proofs.client.rights_of_words.Goals.{else-are_rights-via-then-are_rights+else-words-count, else-are_rights-via-else-are_rights}

pub returns-then-words-count : goal.returns-then-words-count
returns-then-words-count c =
    let are : AreNamed c.args.words.now c.rights_named-rights.result = record {
      submit = c.rights_named-rights.ensures.submit;
      token = c.rights_named-rights.ensures.token;
      tick = c.rights_named-rights.ensures.tick;
      replace = c.rights_named-rights.ensures.replace;
      close = c.rights_named-rights.ensures.close;
      stop = c.rights_named-rights.ensures.stop;
    } in
    let single : length c.args.words.now ≡ count_rights c.rights_named-rights.result = c.if-words-count.true ∙ c.count.ensures in
    named c.args.words.now c.rights_named-rights.result are (sym c.are_rights.ensures ∙ c.if-are_rights.true) single

pub returns-else-are_rights : goal.returns-else-are_rights
returns-else-are_rights c =
    let are : AreNamed c.args.words.now c.rights_named-rights.result = record {
      submit = c.rights_named-rights.ensures.submit;
      token = c.rights_named-rights.ensures.token;
      tick = c.rights_named-rights.ensures.tick;
      replace = c.rights_named-rights.ensures.replace;
      close = c.rights_named-rights.ensures.close;
      stop = c.rights_named-rights.ensures.stop;
    } in
    elim c.else-are_rights.branch [
      | else-are_rights-via-then-are_rights+else-words-count w ↦
          not_single c.args.words.now c.rights_named-rights.result are (λ e. w.if-words-count.false (e ∙ sym w.count.ensures))
      | else-are_rights-via-else-are_rights w ↦ not_each c.args.words.now (sym c.are_rights.ensures ∙ w.if-are_rights.false)
    ]
