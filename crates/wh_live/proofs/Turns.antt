-- One more client.
use Rattle.std.proofs.Common.{◌≡◌, false, List, [], ◌∷◌, ◌++◌, refl, subst}
use Rattle.wh_lines.specs.Input.{Input}
use Rattle.wh_event.specs.declared.event.Command.{Command}
use Rattle.wh_live.specs.Clients.{ClientRead, ReadInTurn}

pub read_more : (old between new : Input) (clients : List (List Command)) (commands : List Command)
    → ReadInTurn old between clients → between.ended ≡ false → ClientRead between new commands → ReadInTurn old new (clients ++ commands ∷ [])
read_more old between new [] commands turns going read =
    subst (λ (i : Input). ReadInTurn i new (commands ∷ [])) turns (going, (new, read, refl))
read_more old between new (first ∷ clients) commands turns going read =
    (turns.0, (turns.1.0, turns.1.1, read_more turns.1.0 between new clients commands turns.1.2 going read))
