use Rattle.std.proofs.Common.{◌≡◌, ◌∙◌, ℕ, ◌++◌, ◌∷◌, take, sym, ap, subst, codes, Option, Some, None, Ok}
use Rattle.std.specs.Prelude.{IfSome}
use Rattle.std.proofs.lemmas.List.{take-append-drop}
use Rattle.wh_text.specs.Numbers.{small_number_of}
use Rattle.wh_event.specs.CommandLines.{command_of}
use Rattle.wh_event.specs.declared.event.Command.TheVariants.{Token}
use Rattle.wh_event.proofs.Asking.{plain_law}
use Rattle.wh_event.proofs.command_line.plain_request.Goals as goal

pub returns-then-begins_request : goal.returns-then-begins_request
returns-then-begins_request c = go c.small_number.result c.small_number.ensures.value
  where
    go : (r : Option ℕ) → r ≡ small_number_of c.split_at.result.1.now → IfSome r (λ agent. command_of c.args.line.now ≡ Ok (Some (Token agent)))
    go None e = tt
    go (Some agent) e =
        let word : c.split_at.result.0.now ≡ codes "token " = c.begins_request.ensures c.if-begins_request.true in
        let line : codes "token" ++ 32 ∷ c.split_at.result.1.now ≡ c.args.line.now =
        ap (λ w. w ++ c.split_at.result.1.now) (sym word ∙ c.split_at.ensures.front) ∙ ap (λ n. take 6 c.args.line.now ++ n) c.split_at.ensures.back ∙ take-append-drop 6 c.args.line.now in
        subst (λ l. command_of l ≡ Ok (Some (Token agent))) line (plain_law c.split_at.result.1.now agent (sym e))
