use Rattle.std.proofs.Common.{◌∙◌, ◌++◌, ◌∷◌, [], ap, sym}
use Rattle.wh_handover.specs.Chains.{as_far_as, match_with}
use Rattle.std.specs.List.{slice_get}
use Rattle.wh_handover.proofs.Matching.{looked_up, matched_more}
use Rattle.wh_handover.proofs.due.tasks_as_far.Goals as goal

pub loop-k-preserved : goal.loop-k-preserved
loop-k-preserved c =
    let tasks = c.args.tasks.now in
    let others = c.args.others.now in
    let k = c.loop-k.k in
    let told = c.index-tasks-k.result in
    let found = looked_up others k c.get.result c.get.ensures.lookup.1 c.get.ensures.lookup.3 in
    c.in_ok-push.ensures.ok
    ∙ ap (λ due. c.loop-k.as_far ++ due ∷ []) (c.task_due.ensures ∙ ap (match_with as_far_as told) found)
    ∙ ap (λ due. due ++ match_with as_far_as told (slice_get others k) ∷ []) c.loop-k.invariant
    ∙ sym (matched_more as_far_as tasks others k told c.loop-k-test.true c.index-tasks-k.is)
