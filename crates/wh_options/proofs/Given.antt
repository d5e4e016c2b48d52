-- Where a value is given, the values are not none.
use Rattle.std.proofs.Common.{List, [], ◌∷◌, refl, sym, ◌∙◌, None}
use Rattle.std.specs.Prelude.{◌≢◌, slice_get}
use Rattle.wh_options.specs.Setting.{Setting, Text, value_of, values_of}
use Rattle.wh_options.proofs.Rows.{first_value}

first_some : (texts : List Text) → slice_get texts 0 ≢ None → texts ≢ []
first_some [] some = λ e. some refl
first_some (t ∷ ts) some = λ e. cc

pub some_values : (name : Text) (xs : List Setting) → value_of name xs ≢ None → values_of name xs ≢ []
some_values name xs some = first_some (values_of name xs) (λ none. some (sym (first_value name xs) ∙ none))
