-- What the rows of the subcommand that was entered say.
use Rattle.std.proofs.Common.{◌≡◌, ◌∙◌, List, Option, Some, None, sym, ap, refl, option_map}
use Rattle.std.specs.Prelude.{Box}
use Rattle.std.specs.Box.{box_value}
use Rattle.clap.proofs.WalkLemmas.{first_value-rows}
use Rattle.clap.specs.Words.{Row, Text, first_of, first_value, found_of, rows_of, subcommand_name_of, subcommand_rows, subcommand_rows_of}
use Rattle.clap.specs.declared.parser.matches.ArgMatches.{ArgMatches}
use Rattle.clap.specs.declared.parser.matches.SubCommand.{SubCommand}
use Rattle.clap.specs.declared.parser.matches.ArgMatches.TheViews.{out-ArgMatches, out-SubCommand}
use Rattle.wh_options.specs.Reads.{clients_in}
use Rattle.wh_options.proofs.Values.{some_same}

pub names_agree : {Z : Type 0} (o : Option (Box SubCommand Z)) → option_map (λ p. p.0) (subcommand_rows o) ≡ option_map (λ b. (out-SubCommand (box_value b)).name.now) o
names_agree None = refl
names_agree (Some b) = refl

pub name_is : (m : ArgMatches) (name : Text) (rows : List Row) → subcommand_rows_of m ≡ Some (name, rows) → subcommand_name_of m ≡ Some name
name_is m name rows e = sym (names_agree (out-ArgMatches m).subcommand) ∙ ap (option_map (λ (p : Text × List Row). p.0)) e

pub rows_are : (m inner : ArgMatches) (name : Text) (rows : List Row) → subcommand_rows_of m ≡ Some (name, rows)
    → option_map (λ (p : Text × List Row). p.1) (subcommand_rows_of m) ≡ Some (rows_of (found_of inner)) → rows_of (found_of inner) ≡ rows
rows_are m inner name rows e f = some_same _ _ (sym f ∙ ap (option_map (λ (p : Text × List Row). p.1)) e)

pub given_are : (m inner : ArgMatches) (name : Text) (rows : List Row) → subcommand_rows_of m ≡ Some (name, rows)
    → option_map (λ (p : Text × List Row). p.1) (subcommand_rows_of m) ≡ Some (rows_of (found_of inner)) → (id : Text) → first_value (found_of inner) id ≡ first_of id rows
given_are m inner name rows e f id = first_value-rows (found_of inner) id ∙ ap (first_of id) (rows_are m inner name rows e f)

pub clients_are : (m inner : ArgMatches) (name : Text) (rows : List Row) → subcommand_rows_of m ≡ Some (name, rows)
    → option_map (λ (p : Text × List Row). p.1) (subcommand_rows_of m) ≡ Some (rows_of (found_of inner)) → clients_in (rows_of (found_of inner)) ≡ clients_in rows
clients_are m inner name rows e f = ap clients_in (rows_are m inner name rows e f)

pub is_named : (m : ArgMatches) (name word : Text) (rows : List Row) → subcommand_rows_of m ≡ Some (name, rows) → subcommand_name_of m ≡ Some word → name ≡ word
is_named m name word rows e found = some_same _ _ (sym (name_is m name rows e) ∙ found)
