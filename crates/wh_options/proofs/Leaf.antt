-- What the words after a subcommand are, where all its arguments are options of one value, switches without one, and
-- flags that ask for help or the version.
use Rattle.std.proofs.Common.{◌≡◌, ◌⊎◌, ℕ, List, [], ◌∷◌, refl, sym, ap, ◌∙◌, Bool, true, false, cond, None, Some, not, inl, inr, is_some, ◌||◌, ◌&&◌, codes, true≢false}
use Rattle.std.specs.List.{AllByRecursion}
use Rattle.std.specs.Str.{bytes_eq}
use Rattle.clap.specs.Facts.{unwrap_or_range}
use Rattle.clap.specs.Kinds.{Kinds, or_else}
use Rattle.clap.specs.Walk.{Rule, Text, action_of, arg_by_id, arg_by_index, arg_by_long, arg_by_short, has_long, has_short, most_values}
use Rattle.clap.specs.declared.builder.action.ArgAction.{ArgAction}
use Rattle.clap.specs.declared.builder.action.ArgAction.TheVariants.{Append, Set, Help, Version}
use Rattle.wh_options.specs.Setting.{Spelling, StandsBy, alone, apart, is_switch, joined, may_repeat}
use Rattle.wh_options.proofs.Shapes.{find_in, bytes_same}

-- an option of one value, which may be given once at most, or of one value each time that it is given, with a long name
-- alone
pub record IsOption (a : Rule) : Type 0 where
  pub short : a.short ≡ None
  pub short_aliases : a.short_aliases ≡ []
  pub action : action_of a ≡ cond (may_repeat a.id) Append Set
  pub least : (unwrap_or_range a.range).start_inclusive ≡ 1
  pub most : most_values a ≡ 1
  pub missing : a.missing ≡ []

-- an option without a value, with a long name alone, which is found with the value `true`
pub record IsSwitch (a : Rule) : Type 0 where
  pub short : a.short ≡ None
  pub short_aliases : a.short_aliases ≡ []
  pub action : action_of a ≡ Set
  pub once : may_repeat a.id ≡ false
  pub least : (unwrap_or_range a.range).start_inclusive ≡ 0
  pub most : most_values a ≡ 0
  pub missing : a.missing ≡ codes "true" ∷ []

-- an argument that a setting gives
abbrev pub IsSetting : Rule → Type 0
IsSetting a = IsOption a ⊎ IsSwitch a

abbrev pub IsNamedOption : Rule → Type 0
IsNamedOption a = IsOption a × (is_switch a.id ≡ false)

abbrev pub IsNamedSwitch : Rule → Type 0
IsNamedSwitch a = IsSwitch a × (is_switch a.id ≡ true)

-- a flag that asks for help or the version
pub record IsAsking (a : Rule) : Type 0 where
  pub action : (action_of a ≡ Help) ⊎ (action_of a ≡ Version)
  pub least : (unwrap_or_range a.range).start_inclusive ≡ 0
  pub most : most_values a ≡ 0

pub record IsPlainRule (a : Rule) : Type 0 where
  pub long : a.long ≡ Some a.id
  pub aliases : a.aliases ≡ []
  pub index : a.index ≡ None
  pub defaults : a.defaults ≡ []
  pub kind : IsNamedOption a ⊎ (IsNamedSwitch a ⊎ IsAsking a)

abbrev pub ArePlain : List Rule → Type 0
ArePlain = AllByRecursion IsPlainRule

-- ---- kinds

pub both_empty : (a b : Kinds) → or_else a b ≡ [] → (a ≡ []) × (b ≡ [])
both_empty [] b e = (refl, e)
both_empty (k ∷ ks) b e = cc

-- ---- the rules

no_position_step : (x : Rule) (xs : List Rule) (i : ℕ) → x.index ≡ None → arg_by_index xs i ≡ None → arg_by_index (x ∷ xs) i ≡ None
no_position_step x xs i e ih = rw e ih

pub no_position : (c : List Rule) (i : ℕ) → ArePlain c → arg_by_index c i ≡ None
no_position [] i all = refl
no_position (x ∷ xs) i all = no_position_step x xs i all.0.index (no_position xs i all.1)

or_false : (b : Bool) → (b || false) ≡ b
or_false true = refl
or_false false = refl

long_test : (a : Rule) (name : Text) → IsPlainRule a → (not (is_some a.index) && has_long a name) ≡ bytes_eq a.id name
long_test a name p = rw (p.index, p.long, p.aliases) (or_false (bytes_eq a.id name))

by_name_step : (x : Rule) (xs : List Rule) (name : Text) → IsPlainRule x → arg_by_id xs name ≡ arg_by_long xs name → arg_by_id (x ∷ xs) name ≡ arg_by_long (x ∷ xs) name
by_name_step x xs name p ih = rw (long_test x name p) (ap (λ r. cond (bytes_eq x.id name) (Some x) r) ih)

-- an option's long name is its id
pub by_name : (c : List Rule) (name : Text) → ArePlain c → arg_by_id c name ≡ arg_by_long c name
by_name [] name all = refl
by_name (x ∷ xs) name all = by_name_step x xs name all.0 (by_name xs name all.1)

pub long_plain : (c : List Rule) (name : Text) (a : Rule) → ArePlain c → arg_by_long c name ≡ Some a → IsPlainRule a × (a.id ≡ name)
long_plain c name a all e =
    let got = find_in IsPlainRule (λ a. not (is_some a.index) && has_long a name) c a all e in
    (got.0, bytes_same a.id name (sym (long_test a name got.0) ∙ got.1))

option_short : (a : Rule) (x : ℕ) → IsOption a → has_short a x ≡ false
option_short a x p = rw (p.short, p.short_aliases) refl

switch_short : (a : Rule) (x : ℕ) → IsSwitch a → has_short a x ≡ false
switch_short a x p = rw (p.short, p.short_aliases) refl

pub short_help : (c : List Rule) (x : ℕ) (a : Rule) → ArePlain c → arg_by_short c x ≡ Some a → IsAsking a
short_help c x a all e =
    let got = find_in IsPlainRule (λ a. not (is_some a.index) && has_short a x) c a all e in
    elim got.0.kind [
      | inl o ↦
          let bad : false ≡ true = rw (got.0.index, option_short a x o.0) at got.1 in
          cc
      | inr k ↦ elim k [
        | inl w ↦
            let bad : false ≡ true = rw (got.0.index, switch_short a x w.0) at got.1 in
            cc
        | inr h ↦ h
      ]
    ]

-- ---- a way to spell and an argument

-- a value is for an option, and a name alone for a switch
abbrev pub Suits : Spelling → Rule → Type 0
Suits joined a = IsOption a
Suits apart a = IsOption a
Suits alone a = IsSwitch a

-- the values that a setting's words hold
abbrev pub held_by : Spelling → Text → List Text
held_by joined v = v ∷ []
held_by apart v = v ∷ []
held_by alone v = []

-- the actions of options and switches
abbrev pub is_set : ArgAction → Bool
is_set Set = true
is_set Append = true
is_set _ = false

either_set : (b : Bool) → is_set (cond b Append Set) ≡ true
either_set true = refl
either_set false = refl

pub option_set : (a : Rule) → IsOption a → is_set (action_of a) ≡ true
option_set a p = ap is_set p.action ∙ either_set (may_repeat a.id)

pub suits_set : (way : Spelling) (a : Rule) → Suits way a → is_set (action_of a) ≡ true
suits_set joined a p = option_set a p
suits_set apart a p = option_set a p
suits_set alone a p = ap is_set p.action

pub suits_setting : (way : Spelling) (a : Rule) → Suits way a → IsSetting a
suits_setting joined a p = inl p
suits_setting apart a p = inl p
suits_setting alone a p = inr p

-- a name that is no switch is spelled as an option's, and a switch's as a switch
pub option_suits : (way : Spelling) (name v : Text) (a : Rule) → StandsBy way name v → is_switch name ≡ false → IsOption a → Suits way a
option_suits joined name v a stands differs o = o
option_suits apart name v a stands differs o = o
option_suits alone name v a stands differs o = absurd (true≢false (sym stands.0 ∙ differs))

pub switch_suits : (way : Spelling) (name v : Text) (a : Rule) → StandsBy way name v → is_switch name ≡ true → IsSwitch a → Suits way a
switch_suits joined name v a stands is w = absurd (true≢false (sym is ∙ stands))
switch_suits apart name v a stands is w = absurd (true≢false (sym is ∙ stands.0))
switch_suits alone name v a stands is w = w
