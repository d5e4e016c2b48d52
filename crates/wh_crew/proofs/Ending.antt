-- What the last of many passes has of the history.
use Rattle.std.proofs.Common.{List, [], ◌∷◌, ◌++◌, length}
use Rattle.std.specs.List.{All}
use Rattle.wh_desk.proofs.Entries.{get_push}
use Rattle.wh_crew.proofs.Crews.{all_at}

pub all_last : {A : Type 0} (P : A → Type 0) (xs : List A) (y : A) → All P (xs ++ y ∷ []) → P y
all_last P xs y all = all_at P (xs ++ y ∷ []) all (length xs) y (get_push xs y)
