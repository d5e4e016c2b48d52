-- The kinds of arguments that the menu has.
use Rattle.std.proofs.Common.{◌≡◌, ℕ, refl, Bool, true, false, cond, ◌&&◌, not}
use Rattle.clap.proofs.WalkLemmas.{both}
use Rattle.clap.specs.Simple.{filled}
use Rattle.clap.specs.declared.builder.action.ArgAction.TheVariants.{Append, Set}
use Rattle.wh_options.specs.Setting.{Text, is_switch, may_repeat}
use Rattle.wh_options.specs.Menu.{Choices, choice_rule, file_rule, many_rule, number_rule, switch_rule}
use Rattle.wh_options.proofs.Leaf.{IsOption, IsSwitch}

-- an option of a value, given once at most
abbrev pub is_single : Text → Bool
is_single name = not (is_switch name) && not (may_repeat name)

untrue : (b : Bool) → not b ≡ true → b ≡ false
untrue true e = cc
untrue false e = refl

pub single_parts : (name : Text) → is_single name ≡ true → (is_switch name ≡ false) × (may_repeat name ≡ false)
single_parts name e =
    let parts = both _ _ e in
    (untrue _ parts.0, untrue _ parts.1)

sets_once : (name : Text) → is_single name ≡ true → Set ≡ cond (may_repeat name) Append Set
sets_once name e = rw (single_parts name e).1 refl

pub number_option : (name : Text) (least most : ℕ) → is_single name ≡ true → IsOption (filled (number_rule name least most))
number_option name least most single = record { short = refl; short_aliases = refl; action = sets_once name single; least = refl; most = refl; missing = refl }

pub choice_option : (name : Text) (choices : Choices) → is_single name ≡ true → IsOption (filled (choice_rule name choices))
choice_option name choices single = record { short = refl; short_aliases = refl; action = sets_once name single; least = refl; most = refl; missing = refl }

pub file_option : (name : Text) → is_single name ≡ true → IsOption (filled (file_rule name))
file_option name single = record { short = refl; short_aliases = refl; action = sets_once name single; least = refl; most = refl; missing = refl }

pub many_option : (name : Text) → may_repeat name ≡ true → IsOption (filled (many_rule name))
many_option name many = record { short = refl; short_aliases = refl; action = rw many refl; least = refl; most = refl; missing = refl }

pub switch_is : (name : Text) → may_repeat name ≡ false → IsSwitch (filled (switch_rule name))
switch_is name once = record { short = refl; short_aliases = refl; action = refl; once = once; least = refl; most = refl; missing = refl }
