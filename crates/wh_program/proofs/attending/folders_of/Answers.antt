use Rattle.std.proofs.Common.{◌∙◌, ap, arith, map}
use Rattle.std.specs.Prelude.{option_map}
use Rattle.std.proofs.lemmas.List.{length-map, map_push}
use Rattle.wh_attend.proofs.Callers.{at_end}
use Rattle.wh_program.specs.Attending.{IsFolderAt}
use Rattle.wh_program.proofs.attending.folders_of.Goals as goal

pub loop-number-preserved : goal.loop-number-preserved
loop-number-preserved c =
    let told = map (λ folder. option_map (λ s. s.now) folder) in
    record {
      size = grind (arith, c.in_ok-push.ensures.len);
      each = at_end (IsFolderAt c.args.clients.now) (told c.loop-number.folders.items) _ c.loop-number.number _
          (ap told c.in_ok-push.ensures.items ∙ map_push _ c.loop-number.folders.items c.folder_of.result) (length-map c.loop-number.folders.items _ ∙ c.loop-number.invariant.size) c.loop-number.invariant.each
          c.folder_of.ensures;
    }
