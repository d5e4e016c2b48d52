-- Two that do not go together are given.
use Rattle.std.proofs.Common.{◌≡◌, ◌≢◌, ◌∙◌, Bool, true, Option, None, Some, sym, true≢false}
use Rattle.std.specs.Prelude.{is_some}

some_given : {A : Type 0} (o : Option A) (found : Bool) → found ≡ is_some o → found ≡ true → o ≢ None
some_given None found is given none = absurd (true≢false (sym given ∙ is))
some_given (Some a) found is given none = cc
