-- The rights of a text are those of its words between commas.
use Rattle.std.proofs.Common.{◌≡◌, ◌∙◌, ap, sym, lit<}
use Rattle.std.specs.List.{slice_split}
use Rattle.std.proofs.lemmas.Result.{IfOk-at_ok}
use Rattle.std.proofs.lemmas.Iterator.Consumers.{map_from_collect}
use Rattle.std.proofs.lemmas.Iterator.Splits.{YieldsList-from_str_split}
use Rattle.wh_client.specs.Clients.{is_comma}
use Rattle.wh_client.proofs.Named.{shown, spelled}
use Rattle.wh_client.proofs.client.rights_of.Goals as goal

pub returns : goal.returns
returns c =
    let collected : shown c.in_ok-words.words.items ≡ slice_split is_comma c.args.text.now =
    IfOk-at_ok _ c.in_ok-words.was (map_from_collect _ c.collect.ensures.ran (YieldsList-from_str_split 44 c.args.text.now (lit< tt) c.split.ensures.text c.split.ensures.has_more c.split.ensures.pattern)) in
    spelled c.args.text.now c.as_slice.result.now c.rights_of_words.result (sym c.eq.ensures ∙ c.if-eq.false) (ap shown c.as_slice.ensures.value ∙ collected) c.rights_of_words.ensures
