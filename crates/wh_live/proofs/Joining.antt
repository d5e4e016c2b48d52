-- One more worker behind the clients.
use Rattle.std.proofs.Common.{◌≡◌, List, [], ◌∷◌, ◌++◌, refl, ap, sym, ◌∙◌, append_assoc, append-nil}
use Rattle.std.proofs.lemmas.List.{map_push}
use Rattle.std.proofs.lemmas.List.Elements.{All-nil, All-push}
use Rattle.wh_event.specs.declared.event.Command.{Command}
use Rattle.wh_edge.specs.declared.work.Work.{Work}
use Rattle.wh_live.specs.Works.{JoinedBy}

pub joined_by_none : {X : Type 0} (clients : List (Work X)) → JoinedBy [] clients clients
joined_by_none {X} clients = record { others = []; works_are = sym (append-nil clients); commands_are = refl; spares = All-nil (λ (work : Work X). work.spares.items ≡ []) }

pub joined_by_more : {X : Type 0} (commands : List (List Command)) (clients works new : List (Work X)) (work : Work X)
    → JoinedBy commands clients works → new ≡ works ++ work ∷ [] → work.spares.items ≡ []
    → (asked : List Command) → work.commands.items ≡ asked → JoinedBy (commands ++ asked ∷ []) clients new
joined_by_more {X} commands clients works new work joined pushed spares asked commands_are = record {
  others = joined.others ++ work ∷ [];
  works_are = pushed ∙ ap (λ l. l ++ work ∷ []) joined.works_are ∙ append_assoc clients joined.others (work ∷ []);
  commands_are = map_push (λ (w : Work X). w.commands.items) joined.others work ∙ ap (λ l. l ++ work.commands.items ∷ []) joined.commands_are ∙ ap (λ l. commands ++ l ∷ []) commands_are;
  spares = All-push (λ (w : Work X). w.spares.items ≡ []) joined.others work joined.spares spares;
}
