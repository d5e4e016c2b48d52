use Rattle.std.specs.Prelude.{Contains}
use Rattle.wh_planner.proofs.ClearWays.{clear_parking-lawful}
use Rattle.wh_planner.proofs.laws.clear_parkings_give_paths.Goals as goal

pub returns : goal.returns
returns c = λ g nofollow paths agent allowed way rests clear. clear_parking-lawful g nofollow paths agent (Contains allowed) way rests clear
