use Rattle.std.proofs.Common.{[], ◌∷◌, refl}
use Rattle.wh_core.proofs.Determined.{run-one}
use Rattle.wh_judge.proofs.laws.one_state_follows.Goals as goal

pub returns : goal.returns
returns c = λ site old entry one other layout a b. run-one site old (entry ∷ []) one other layout (one, a, refl) (other, b, refl)
