use Rattle.std.proofs.Common.{◌∙◌, ◌++◌, ◌∷◌, [], ap, sym}
use Rattle.wh_handover.specs.Chains.{at_rest_as, match_with}
use Rattle.std.specs.List.{slice_get}
use Rattle.wh_handover.proofs.Matching.{looked_up, matched_more}
use Rattle.wh_handover.proofs.due.seats_at_rest.Goals as goal

pub loop-k-preserved : goal.loop-k-preserved
loop-k-preserved c =
    let seats = c.args.seats.now in
    let others = c.args.others.now in
    let k = c.loop-k.k in
    let seat = c.index-seats-k.result in
    let found = looked_up others k c.get.result c.get.ensures.lookup.1 c.get.ensures.lookup.3 in
    c.in_ok-push.ensures.ok
    ∙ ap (λ due. c.loop-k.at_rest ++ due ∷ []) (c.in_ok-due.ensures ∙ ap (match_with at_rest_as seat) found)
    ∙ ap (λ due. due ++ match_with at_rest_as seat (slice_get others k) ∷ []) c.loop-k.invariant
    ∙ sym (matched_more at_rest_as seats others k seat c.loop-k-test.true c.index-seats-k.is)
