-- The rows that settings leave.
use Rattle.std.proofs.Common.{◌≡◌, List, [], ◌∷◌, ◌++◌, map, refl, sym, ap, ◌∙◌, Bool, true, false, cond, Some, subst, codes, append-nil, append_assoc, ◌||◌, ◌&&◌, not, option_map, true≢false}
use Rattle.std.specs.Prelude.{filter, find, fold, option_and_then, slice_get}
use Rattle.std.specs.List.{AllByRecursion, IsDistinct}
use Rattle.std.specs.Str.{bytes_eq}
use Rattle.clap.specs.Facts.{parser_of_value}
use Rattle.clap.specs.Kinds.{Kinds, value_kinds}
use Rattle.clap.specs.ValueTests.{accepts}
use Rattle.clap.specs.Values.{refused_kind}
use Rattle.clap.specs.declared.error.kind.ErrorKind.TheVariants.{ArgumentConflict}
use Rattle.clap.specs.Walk.{Row, Rule, Text, action_of, arg_by_long, at_row, first_of, has_row, more_values, reading_by, used, used_as, with_default, with_values, without}
use Rattle.clap.specs.declared.builder.value_parser.Reading.{Reading}
use Rattle.clap.specs.declared.builder.action.ArgAction.TheVariants.{Append, Set}
use Rattle.clap.specs.declared.parser.matches.ValueSource.TheVariants.{CommandLine}
use Rattle.wh_options.proofs.Shapes.{bytes_same}
use Rattle.clap.specs.Faults.{action_fault, repeat_fault, set_fault, use_fault, values_fault}
use Rattle.clap.specs.Simple.{Shape}
use Rattle.wh_options.specs.Setting.{Setting, Spelling, StandsBy, alone, apart, joined, may_repeat, single_names, value_of, values_of}
use Rattle.wh_options.proofs.Leaf.{ArePlain, IsOption, IsSwitch, Suits, both_empty, held_by}
use Rattle.wh_options.proofs.Words.{Applied, self_same}

pub either_false : (a b : Bool) → (a || b) ≡ false → (a ≡ false) × (b ≡ false)
either_false true b e = cc
either_false false b e = (refl, e)

-- two texts differ both ways
pub swapped : (a b : Text) → bytes_eq b a ≡ false → bytes_eq a b ≡ false
swapped a b differs = go (bytes_eq a b) refl
  where
    go : (c : Bool) → bytes_eq a b ≡ c → bytes_eq a b ≡ false
    go true is = absurd (true≢false (sym (self_same b) ∙ ap (λ n. bytes_eq b n) (sym (bytes_same a b is)) ∙ differs))
    go false is = is

-- ---- a new row

at_row_cons : (id : Text) (change : Row → List Row) (missing rows : List Row) (r : Row) (b : Bool) → b ≡ false
    → at_row id change missing rows ≡ rows ++ missing → cond b (change r ++ rows) (r ∷ at_row id change missing rows) ≡ r ∷ (rows ++ missing)
at_row_cons id change missing rows r true e ih = cc
at_row_cons id change missing rows r false e ih = ap (λ l. r ∷ l) ih

at_row_new : (id : Text) (change : Row → List Row) (missing rows : List Row) → has_row id rows ≡ false → at_row id change missing rows ≡ rows ++ missing
at_row_new id change missing [] e = refl
at_row_new id change missing (r ∷ rs) e =
    let both = either_false (bytes_eq r.id id) (has_row id rs) e in
    at_row_cons id change missing rs r (bytes_eq r.id id) both.0 (at_row_new id change missing rs both.1)

-- one value more of this name
abbrev pub with_value_of : Rule → Text → List Row → List Row
with_value_of a v rows = with_values a.id (reading_by a) CommandLine (v ∷ []) rows

added_row : (a : Rule) (v : Text) (rows : List Row) → has_row a.id rows ≡ false
    → with_values a.id (reading_by a) CommandLine (v ∷ []) (without a.id rows) ≡ with_value_of a v rows
added_row a v rows e =
    let gone : without a.id rows ≡ rows = at_row_new a.id (λ _. []) [] rows e ∙ append-nil rows in
    rw gone refl

-- ---- the values of a name

-- all values that the rows have of a name
abbrev pub values_in : Text → List Row → List Text
values_in id [] = []
values_in id (r ∷ rs) = cond (bytes_eq r.id id) r.values (values_in id rs)

-- what one more value of a name comes to for any name
abbrev pub more_in : Text → Text → Text → List Row → List Text
more_in id name v rows = values_in name rows ++ cond (bytes_eq id name) (v ∷ []) []

here_more : (id name v : Text) (values : List Text) (rs : List Row) (b c : Bool) → c ≡ b
    → cond b (values ++ v ∷ []) (values_in name rs) ≡ cond b values (values_in name rs) ++ cond c (v ∷ []) []
here_more id name v values rs true true e = refl
here_more id name v values rs true false e = cc
here_more id name v values rs false true e = cc
here_more id name v values rs false false e = sym (append-nil (values_in name rs))

there_more : (id name v : Text) (r : Row) (rs more : List Row) (b : Bool) → bytes_eq r.id name ≡ b → bytes_eq r.id id ≡ false → values_in name more ≡ more_in id name v rs
    → cond b r.values (values_in name more) ≡ cond b r.values (values_in name rs) ++ cond (bytes_eq id name) (v ∷ []) []
there_more id name v r rs more true is differs ih =
    let apart_so : bytes_eq id name ≡ false = ap (λ n. bytes_eq id n) (sym (bytes_same r.id name is)) ∙ swapped id r.id differs in
    rw apart_so (sym (append-nil r.values))
there_more id name v r rs more false is differs ih = ih

values_step : (id name v : Text) (how : Reading) (r : Row) (rs : List Row) (b : Bool) → bytes_eq r.id id ≡ b
    → values_in name (with_values id how CommandLine (v ∷ []) rs) ≡ more_in id name v rs
    → values_in name (cond b (more_values CommandLine (v ∷ []) r ++ rs) (r ∷ with_values id how CommandLine (v ∷ []) rs)) ≡ more_in id name v (r ∷ rs)
values_step id name v how r rs true is ih =
    here_more id name v r.values rs (bytes_eq r.id name) (bytes_eq id name) (ap (λ n. bytes_eq n name) (sym (bytes_same r.id id is)))
values_step id name v how r rs false is ih = there_more id name v r rs (with_values id how CommandLine (v ∷ []) rs) (bytes_eq r.id name) refl is ih

pub values_more : (id name v : Text) (how : Reading) (rows : List Row) → values_in name (with_values id how CommandLine (v ∷ []) rows) ≡ more_in id name v rows
values_more id name v how [] = refl
values_more id name v how (r ∷ rs) = values_step id name v how r rs (bytes_eq r.id id) refl (values_more id name v how rs)

-- ---- the names of the rows

or_swap : (a b c : Bool) → (a || (b || c)) ≡ ((a || b) || c)
or_swap true b c = refl
or_swap false b c = refl

or_same : (a c b : Bool) → a ≡ b → (a || c) ≡ ((a || c) || b)
or_same true c b e = refl
or_same false c true e = cc
or_same false true false e = refl
or_same false false false e = refl

row_step : (id name v : Text) (how : Reading) (r : Row) (rs : List Row) (b : Bool) → bytes_eq r.id id ≡ b
    → has_row name (with_values id how CommandLine (v ∷ []) rs) ≡ (has_row name rs || bytes_eq id name)
    → has_row name (cond b (more_values CommandLine (v ∷ []) r ++ rs) (r ∷ with_values id how CommandLine (v ∷ []) rs)) ≡ (has_row name (r ∷ rs) || bytes_eq id name)
row_step id name v how r rs true is ih = or_same (bytes_eq r.id name) (has_row name rs) (bytes_eq id name) (ap (λ n. bytes_eq n name) (bytes_same r.id id is))
row_step id name v how r rs false is ih = ap (λ b. bytes_eq r.id name || b) ih ∙ or_swap (bytes_eq r.id name) (has_row name rs) (bytes_eq id name)

or_none : (b : Bool) → (b || false) ≡ b
or_none true = refl
or_none false = refl

pub rows_more : (id name v : Text) (how : Reading) (rows : List Row) → has_row name (with_values id how CommandLine (v ∷ []) rows) ≡ (has_row name rows || bytes_eq id name)
rows_more id name v how [] = or_none (bytes_eq id name)
rows_more id name v how (r ∷ rs) = row_step id name v how r rs (bytes_eq r.id id) refl (rows_more id name v how rs)

-- what a use with these words says, where it is not refused
pub record IsUse (a : Rule) (words : List Text) (v : Text) (rows : List Row) : Type 0 where
  pub is_new : may_repeat a.id ≡ false → has_row a.id rows ≡ false
  pub is_accepted : accepts a.ignore_case (parser_of_value a.parser) v ≡ true
  pub makes : used a words rows ≡ with_value_of a v rows

not_repeated : (b : Bool) → (let k : Kinds = cond (b && not false) (ArgumentConflict ∷ []) [] in k ≡ []) → b ≡ false
not_repeated true e = cc
not_repeated false e = refl

accepted : (a : Rule) (v : Text) → value_kinds a.ignore_case (parser_of_value a.parser) v ≡ [] → accepts a.ignore_case (parser_of_value a.parser) v ≡ true
accepted a v = go (accepts a.ignore_case (parser_of_value a.parser) v)
  where
    go : (b : Bool) → cond b [] (refused_kind (parser_of_value a.parser) ∷ []) ≡ [] → b ≡ true
    go true e = refl
    go false e = cc

-- what a value that is set leaves
set_is : (again : Bool) (a : Rule) (v : Text) (rows : List Row) → again ≡ false → set_fault again a (v ∷ []) rows ≡ []
    → (has_row a.id rows ≡ false) × (accepts a.ignore_case (parser_of_value a.parser) v ≡ true)
set_is again a v rows never setting =
    let both = both_empty (repeat_fault again a.id rows) (values_fault a (v ∷ [])) setting in
    let once : repeat_fault false a.id rows ≡ [] = subst (λ b. repeat_fault b a.id rows ≡ []) never both.0 in
    (not_repeated (has_row a.id rows) once, accepted a v (both_empty _ _ both.1).0)

once_use : (again : Bool) (a : Rule) (v : Text) (rows : List Row) → again ≡ false → action_of a ≡ Set → action_fault (action_of a) again a (v ∷ []) rows ≡ [] → IsUse a (v ∷ []) v rows
once_use again a v rows never action acted =
    let setting : set_fault again a (v ∷ []) rows ≡ [] = rw action at acted in
    let set = set_is again a v rows never setting in
    let made : used_as (action_of a) a.id (reading_by a) (v ∷ []) rows ≡ with_value_of a v rows = rw action (added_row a v rows set.0) in
    record { is_new = λ once. set.0; is_accepted = set.1; makes = made }

many_use : (again : Bool) (a : Rule) (v : Text) (rows : List Row) → may_repeat a.id ≡ true → action_of a ≡ Append → action_fault (action_of a) again a (v ∷ []) rows ≡ [] → IsUse a (v ∷ []) v rows
many_use again a v rows many action acted =
    let values : values_fault a (v ∷ []) ≡ [] = rw action at acted in
    let made : used_as (action_of a) a.id (reading_by a) (v ∷ []) rows ≡ with_value_of a v rows = rw action refl in
    record { is_new = λ once. absurd (true≢false (sym many ∙ once)); is_accepted = accepted a v (both_empty _ _ values).0; makes = made }

option_use : (again : Bool) (a : Rule) (v : Text) (rows : List Row) → again ≡ false → IsOption a → use_fault again a (v ∷ []) rows ≡ [] → IsUse a (v ∷ []) v rows
option_use again a v rows never opt e = go (may_repeat a.id) refl opt.action (both_empty _ _ e).1
  where
    go : (b : Bool) → may_repeat a.id ≡ b → action_of a ≡ cond b Append Set → action_fault (action_of a) again a (v ∷ []) rows ≡ [] → IsUse a (v ∷ []) v rows
    go true many action acted = many_use again a v rows many action acted
    go false once action acted = once_use again a v rows never action acted

switch_use : (again : Bool) (a : Rule) (v : Text) (rows : List Row) → again ≡ false → IsSwitch a → v ≡ codes "true" → use_fault again a [] rows ≡ [] → IsUse a [] v rows
switch_use again a v rows never switch is e =
    let acted : action_fault (action_of a) again a a.missing rows ≡ [] = (both_empty _ _ e).1 in
    let given : a.missing ≡ v ∷ [] = switch.missing ∙ ap (λ t. t ∷ []) (sym is) in
    let setting : set_fault again a (v ∷ []) rows ≡ [] = rw (switch.action, given) at acted in
    let set = set_is again a v rows never setting in
    let made : used_as (action_of a) a.id (reading_by a) a.missing rows ≡ with_value_of a v rows = rw (switch.action, given) (added_row a v rows set.0) in
    record { is_new = λ once. set.0; is_accepted = set.1; makes = made }

pub use_is : (again : Bool) (a : Rule) (way : Spelling) (name v : Text) (rows : List Row) → again ≡ false → Suits way a → StandsBy way name v → use_fault again a (held_by way v) rows ≡ []
    → IsUse a (held_by way v) v rows
use_is again a joined name v rows never suits stands e = option_use again a v rows never suits e
use_is again a apart name v rows never suits stands e = option_use again a v rows never suits e
use_is again a alone name v rows never suits stands e = switch_use again a v rows never suits stands.1 e

-- ---- the rows of many settings

-- the setting is of one of the options and switches, which takes its value
abbrev pub IsTaken : List Rule → Setting → Type 0
IsTaken c x = (a : Rule) × (arg_by_long c x.name ≡ Some a) × Suits x.way a × (accepts a.ignore_case (parser_of_value a.parser) x.value ≡ true)

pub record Results (s : Shape) (settings : List Setting) (rows last : List Row) : Type 0 where
  pub values : (id : Text) → values_in id last ≡ values_in id rows ++ values_of id settings
  pub taken : AllByRecursion (IsTaken s.rules) settings
  pub fresh : AllByRecursion (λ (x : Setting). may_repeat x.name ≡ false → has_row x.name rows ≡ false) settings
  pub once : IsDistinct bytes_eq (single_names settings)

-- the names of the settings, where they may be given once at most, are none of this name
abbrev Away : Text → List Setting → Type 0
Away name = AllByRecursion (λ (x : Setting). may_repeat x.name ≡ false → bytes_eq name x.name ≡ false)

each_fresh : (a : Rule) (v : Text) (rows : List Row) (xs : List Setting) → AllByRecursion (λ (x : Setting). may_repeat x.name ≡ false → has_row x.name (with_value_of a v rows) ≡ false) xs
    → AllByRecursion (λ (x : Setting). may_repeat x.name ≡ false → has_row x.name rows ≡ false) xs × Away a.id xs
each_fresh a v rows [] all = (all, all)
each_fresh a v rows (x ∷ xs) all =
    let more = each_fresh a v rows xs all.1 in
    let parts : may_repeat x.name ≡ false → (has_row x.name rows ≡ false) × (bytes_eq a.id x.name ≡ false) =
    λ once. either_false (has_row x.name rows) (bytes_eq a.id x.name) (sym (rows_more a.id x.name v (reading_by a) rows) ∙ all.0 once) in
    (((λ once. (parts once).0), more.0), ((λ once. (parts once).1), more.1))

away_single : (name : Text) (xs : List Setting) → Away name xs → AllByRecursion (λ y. bytes_eq name y ≡ false) (single_names xs)
away_single name [] all = tt
away_single name (x ∷ xs) all = go (may_repeat x.name) refl (away_single name xs all.1)
  where
    go : (b : Bool) → may_repeat x.name ≡ b → AllByRecursion (λ y. bytes_eq name y ≡ false) (single_names xs)
        → AllByRecursion (λ y. bytes_eq name y ≡ false) (cond (not b) (x.name ∷ single_names xs) (single_names xs))
    go true is rest = rest
    go false is rest = (all.0 is, rest)

once_more : (name : Text) (xs : List Setting) → AllByRecursion (λ y. bytes_eq name y ≡ false) (single_names xs) → IsDistinct bytes_eq (single_names xs)
    → (b : Bool) → IsDistinct bytes_eq (cond (not b) (name ∷ single_names xs) (single_names xs))
unfolding IsDistinct
once_more name xs away once true = once
once_more name xs away once false = (away, once)

values_cons : (id v : Text) (xs : List Setting) (x : Setting) (b : Bool) → x.value ≡ v
    → cond b (v ∷ []) [] ++ values_of id xs ≡ map (λ (s : Setting). s.value) (cond b (x ∷ filter (λ (s : Setting). bytes_eq s.name id) xs) (filter (λ (s : Setting). bytes_eq s.name id) xs))
values_cons id v xs x true e = ap (λ w. w ∷ values_of id xs) (sym e)
values_cons id v xs x false e = refl

pub results : (s : Shape) (settings : List Setting) (rows last : List Row) → s.args_override_self ≡ false → Applied s settings rows last → Results s settings rows last
unfolding IsDistinct
results s [] rows last never applied = record { values = λ id. ap (values_in id) applied ∙ sym (append-nil (values_in id rows)); taken = tt; fresh = tt; once = tt }
results s (x ∷ xs) rows last never applied =
    let a = applied.0 in
    let fits = applied.1 in
    let taken = use_is s.args_override_self a x.way x.name x.value rows never fits.suits fits.in_place fits.passes in
    let rest : Applied s xs (with_value_of a x.value rows) last = subst (λ r. Applied s xs r last) taken.makes applied.2 in
    let more = results s xs (with_value_of a x.value rows) last never rest in
    let away = each_fresh a x.value rows xs more.fresh in
    let named : Away x.name xs = subst (λ n. Away n xs) fits.id away.1 in
    record {
      values = λ id.
          more.values id
          ∙ ap (λ l. l ++ values_of id xs) (values_more a.id id x.value (reading_by a) rows ∙ ap (λ n. more_in n id x.value rows) fits.id)
          ∙ append_assoc (values_in id rows) (cond (bytes_eq x.name id) (x.value ∷ []) []) (values_of id xs)
          ∙ ap (λ l. values_in id rows ++ l) (values_cons id x.value xs x (bytes_eq x.name id) refl);
      taken = ((a, fits.found, fits.suits, taken.is_accepted), more.taken);
      fresh = (subst (λ n. may_repeat n ≡ false → has_row n rows ≡ false) fits.id taken.is_new, away.0);
      once = once_more x.name xs (away_single x.name xs named) more.once (may_repeat x.name);
    }

-- ---- the first value of a name

first_row : (id : Text) (r : Row) (rs : List Row) (b : Bool) → option_and_then (λ (q : Row). slice_get q.values 0) (find (λ q. bytes_eq q.id id) rs) ≡ slice_get (values_in id rs) 0
    → option_and_then (λ (q : Row). slice_get q.values 0) (cond b (Some r) (find (λ q. bytes_eq q.id id) rs)) ≡ slice_get (cond b r.values (values_in id rs)) 0
first_row id r rs true ih = refl
first_row id r rs false ih = ih

pub first_in : (id : Text) (rows : List Row) → first_of id rows ≡ slice_get (values_in id rows) 0
first_in id [] = refl
first_in id (r ∷ rs) = first_row id r rs (bytes_eq r.id id) (first_in id rs)

first_setting : (id : Text) (x : Setting) (xs : List Setting) (b : Bool) → slice_get (values_of id xs) 0 ≡ value_of id xs
    → slice_get (map (λ (s : Setting). s.value) (cond b (x ∷ filter (λ (s : Setting). bytes_eq s.name id) xs) (filter (λ (s : Setting). bytes_eq s.name id) xs))) 0
    ≡ option_map (λ (s : Setting). s.value) (cond b (Some x) (find (λ (s : Setting). bytes_eq s.name id) xs))
first_setting id x xs true ih = refl
first_setting id x xs false ih = ih

pub first_value : (id : Text) (settings : List Setting) → slice_get (values_of id settings) 0 ≡ value_of id settings
first_value id [] = refl
first_value id (x ∷ xs) = first_setting id x xs (bytes_eq x.name id) (first_value id xs)

-- ---- no defaults

no_default : (rows : List Row) (a : Rule) → a.defaults ≡ [] → with_default rows a ≡ rows
no_default rows a none = rw none (go (has_row a.id rows))
  where
    go : (b : Bool) → cond b rows rows ≡ rows
    go true = refl
    go false = refl

pub no_defaults : (c : List Rule) (rows : List Row) → ArePlain c → fold with_default rows c ≡ rows
no_defaults [] rows all = refl
no_defaults (a ∷ rest) rows all = rw (no_default rows a all.0.defaults) (no_defaults rest rows all.1)
