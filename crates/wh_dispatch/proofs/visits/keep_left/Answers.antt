use Rattle.std.proofs.Common.{rules, ◌∙◌, ap}
use Rattle.std.specs.List.{filter}
use Rattle.std.proofs.lemmas.Fn.{filter_same}
use Rattle.wh_dispatch.specs.Visiting.{is_left}
use Rattle.wh_dispatch.proofs.visits.keep_left.Goals as goal

pub returns : goal.returns
returns g c = filter_same _ is_left _ (λ x b f' k. search rules) _ _ c.retain.ensures.filtered ∙ ap (filter is_left) c.mark_told.ensures
