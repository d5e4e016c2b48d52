-- What the settings of `check`, `verify` and `state` mean.
use Rattle.std.proofs.Common.{◌≡◌, List, [], refl, sym, ap, ◌∙◌, Bool, None, Some, Option, subst, inl, inr, codes, lit<, is_some}
use Rattle.clap.specs.Simple.{Shape, filled}
use Rattle.clap.specs.Walk.{Text, first_of, rows_after, texts}
use Rattle.wh_options.specs.Setting.{value_of}
use Rattle.wh_options.specs.Options.{GivesRule, GivesState, GivesVerify, HasOnly, LacksAny, Means, StateClashes, rule_names}
use Rattle.wh_options.specs.Reads.{MayRead, Reads, clients_in, homes_of}
use Rattle.wh_options.specs.Menu.{Choices, OtherChoices, choice_rule, ends_words, file_rule, number_rule}
use Rattle.wh_options.specs.declared.chosen.Options.{Options}
use Rattle.wh_options.specs.declared.chosen.Options.TheVariants.{Check, Replay, Verify, Live, Serve, State}
use Rattle.wh_options.specs.declared.chosen.VerifyOptions.{VerifyOptions}
use Rattle.wh_options.specs.declared.chosen.StateOptions.{StateOptions}
use Rattle.wh_options.proofs.Leaf.{ArePlain}
use Rattle.wh_options.proofs.Names.{other_word}
use Rattle.wh_options.proofs.Values.{ends_given, file_given, only_names, option_ids, may_given}
use Rattle.wh_options.proofs.Menus.{HasChoice, LeafSays, asking_plain, choice_plain, file_plain, lacks_as, leaf_at, none_lacks, number_plain, switch_plain}

-- what the settings of a subcommand say that is told where paths end, and nothing else
abbrev pub IsRuled : Shape → Choices → Type 0
IsRuled s ends = ArePlain s.rules × (option_ids s.rules ≡ rule_names) × HasChoice s.rules (codes "ends") ends

ruled_given : (s : Shape) (rest : List Text) (ends : Choices) (homes : Bool) → IsRuled s ends → texts ends.now ≡ ends_words → (says : LeafSays s rest)
    → homes ≡ homes_of (first_of (codes "ends") (rows_after s.rules [] rest)) → GivesRule says.settings homes
ruled_given s rest ends homes ruled words says reads = record {
  only = subst (λ names. HasOnly names says.settings) ruled.1 (only_names s.rules says.settings ruled.0 says.taken);
  ends = ends_given s.rules says.settings homes says.taken ends words ruled.2.0 ruled.2.1 ruled.2.2 ruled.2.3 _ (says.first (codes "ends")) reads;
}

pub check_ruled : (p t r : Choices) (q : OtherChoices) → IsRuled (leaf_at 0 p t r q) q.check_ends
check_ruled p t r q = ((choice_plain (codes "ends") q.check_ends refl, asking_plain), refl, (filled (choice_rule (codes "ends") q.check_ends), refl, refl, refl))

pub verify_plain : (p t r : Choices) (q : OtherChoices) → ArePlain (leaf_at 2 p t r q).rules
verify_plain p t r q = (choice_plain (codes "ends") q.verify_ends refl, (switch_plain (codes "unended") refl refl, (number_plain (codes "wlog") 3 3 refl, (switch_plain (codes "chain") refl refl, asking_plain))))

verify_given : (p t r : Choices) (q : OtherChoices) (rest : List Text) (o : VerifyOptions) (says : LeafSays (leaf_at 2 p t r q) rest) → texts q.verify_ends.now ≡ ends_words
    → (o.homes ≡ homes_of (first_of (codes "ends") (rows_after (leaf_at 2 p t r q).rules [] rest))) × (o.unended ≡ is_some (first_of (codes "unended") (rows_after (leaf_at 2 p t r q).rules [] rest)))
    × MayRead (first_of (codes "wlog") (rows_after (leaf_at 2 p t r q).rules [] rest)) o.wlog
    × (o.chain ≡ is_some (first_of (codes "chain") (rows_after (leaf_at 2 p t r q).rules [] rest)))
    → GivesVerify says.settings o
verify_given p t r q rest o says words reads = record {
  only = only_names (leaf_at 2 p t r q).rules says.settings (verify_plain p t r q) says.taken;
  ends = ends_given (leaf_at 2 p t r q).rules says.settings o.homes says.taken q.verify_ends words (filled (choice_rule (codes "ends") q.verify_ends)) refl refl refl _ (says.first (codes "ends")) reads.0;
  unended = reads.1 ∙ ap is_some (says.first (codes "unended"));
  wlog = may_given (leaf_at 2 p t r q).rules says.settings (codes "wlog") 3 3 o.wlog (lit< tt) says.taken (filled (number_rule (codes "wlog") 3 3)) refl refl refl
      (first_of (codes "wlog") (rows_after (leaf_at 2 p t r q).rules [] rest)) (says.first (codes "wlog")) reads.2;
  chain = reads.3 ∙ ap is_some (says.first (codes "chain"));
}

state_lacks : (given : Text → Option Text) (log : Text) → Some log ≡ given (codes "log") → LacksAny (codes "state") given → ⊥
state_lacks given log is (inl lacks) = other_word (codes "state") (codes "replay") refl lacks.0
state_lacks given log is (inr (inl lacks)) = other_word (codes "state") (codes "serve") refl lacks.0
state_lacks given log is (inr (inr lacks)) =
    let bad : Some log ≡ None = is ∙ lacks.1 in
    cc

pub state_plain : (p t r : Choices) (q : OtherChoices) → ArePlain (leaf_at 5 p t r q).rules
state_plain p t r q = (choice_plain (codes "ends") q.state_ends refl, (file_plain (codes "log") refl, (number_plain (codes "after") 0 999999999 refl, (switch_plain (codes "stand") refl refl, asking_plain))))

state_given : (p t r : Choices) (q : OtherChoices) (rest : List Text) (o : StateOptions) (says : LeafSays (leaf_at 5 p t r q) rest) → texts q.state_ends.now ≡ ends_words
    → Some o.log.now ≡ first_of (codes "log") (rows_after (leaf_at 5 p t r q).rules [] rest) → MayRead (first_of (codes "after") (rows_after (leaf_at 5 p t r q).rules [] rest)) o.after
    → o.homes ≡ homes_of (first_of (codes "ends") (rows_after (leaf_at 5 p t r q).rules [] rest))
    → o.stand ≡ is_some (first_of (codes "stand") (rows_after (leaf_at 5 p t r q).rules [] rest)) → GivesState says.settings o
state_given p t r q rest o says words log after ends stand = record {
  only = only_names (leaf_at 5 p t r q).rules says.settings (state_plain p t r q) says.taken;
  ends = ends_given (leaf_at 5 p t r q).rules says.settings o.homes says.taken q.state_ends words (filled (choice_rule (codes "ends") q.state_ends)) refl refl refl _ (says.first (codes "ends")) ends;
  log = file_given (leaf_at 5 p t r q).rules says.settings (codes "log") (Some o.log.now) says.taken (filled (file_rule (codes "log"))) refl refl
      (first_of (codes "log") (rows_after (leaf_at 5 p t r q).rules [] rest)) (says.first (codes "log")) log;
  after = may_given (leaf_at 5 p t r q).rules says.settings (codes "after") 0 999999999 o.after (lit< tt) says.taken (filled (number_rule (codes "after") 0 999999999)) refl refl refl
      (first_of (codes "after") (rows_after (leaf_at 5 p t r q).rules [] rest)) (says.first (codes "after")) after;
  stand = stand ∙ ap is_some (says.first (codes "stand"));
}

pub check_means : (p t r : Choices) (q : OtherChoices) (rest : List Text) (o : Options) (says : LeafSays (leaf_at 0 p t r q) rest) → texts q.check_ends.now ≡ ends_words
    → Reads (codes "check") (λ id. first_of id (rows_after (leaf_at 0 p t r q).rules [] rest)) (clients_in (rows_after (leaf_at 0 p t r q).rules [] rest)) o → Means (codes "check") says.settings o
check_means p t r q rest (Check o) says ends reads =
    ((refl, ruled_given (leaf_at 0 p t r q) rest q.check_ends o.homes (check_ruled p t r q) ends says (reads.5 refl)), none_lacks (codes "check") (λ id. value_of id says.settings) refl refl refl)
check_means p t r q rest (Replay o) says ends reads = absurd (other_word (codes "check") (codes "replay") refl reads.0)
check_means p t r q rest (Verify o) says ends reads = absurd (other_word (codes "check") (codes "verify") refl reads.0)
check_means p t r q rest (Live o) says ends reads = absurd (other_word (codes "check") (codes "live") refl reads.0)
check_means p t r q rest (Serve o) says ends reads = absurd (other_word (codes "check") (codes "serve") refl reads.0)
check_means p t r q rest (State o) says ends reads = absurd (other_word (codes "check") (codes "state") refl reads.0)

pub verify_means : (p t r : Choices) (q : OtherChoices) (rest : List Text) (o : Options) (says : LeafSays (leaf_at 2 p t r q) rest) → texts q.verify_ends.now ≡ ends_words
    → Reads (codes "verify") (λ id. first_of id (rows_after (leaf_at 2 p t r q).rules [] rest)) (clients_in (rows_after (leaf_at 2 p t r q).rules [] rest)) o → Means (codes "verify") says.settings o
verify_means p t r q rest (Check o) says ends reads = absurd (reads.3 refl)
verify_means p t r q rest (Replay o) says ends reads = absurd (other_word (codes "verify") (codes "replay") refl reads.0)
verify_means p t r q rest (Verify o) says ends reads =
    ((refl, verify_given p t r q rest o says ends (reads.1, reads.2, reads.3, reads.4)), none_lacks (codes "verify") (λ id. value_of id says.settings) refl refl refl)
verify_means p t r q rest (Live o) says ends reads = absurd (other_word (codes "verify") (codes "live") refl reads.0)
verify_means p t r q rest (Serve o) says ends reads = absurd (other_word (codes "verify") (codes "serve") refl reads.0)
verify_means p t r q rest (State o) says ends reads = absurd (other_word (codes "verify") (codes "state") refl reads.0)

pub state_means : (p t r : Choices) (q : OtherChoices) (rest : List Text) (o : Options) (says : LeafSays (leaf_at 5 p t r q) rest) → texts q.state_ends.now ≡ ends_words
    → Reads (codes "state") (λ id. first_of id (rows_after (leaf_at 5 p t r q).rules [] rest)) (clients_in (rows_after (leaf_at 5 p t r q).rules [] rest)) o → Means (codes "state") says.settings o
state_means p t r q rest (Check o) says ends reads = absurd (reads.4 refl)
state_means p t r q rest (Replay o) says ends reads = absurd (other_word (codes "state") (codes "replay") refl reads.0)
state_means p t r q rest (Verify o) says ends reads = absurd (other_word (codes "state") (codes "verify") refl reads.0)
state_means p t r q rest (Live o) says ends reads = absurd (other_word (codes "state") (codes "live") refl reads.0)
state_means p t r q rest (Serve o) says ends reads = absurd (other_word (codes "state") (codes "serve") refl reads.0)
state_means p t r q rest (State o) says ends reads = (
  (
    refl,
    state_given p t r q rest o says ends reads.1 reads.2 reads.3 reads.4,
    λ both. reads.5 (lacks_as StateClashes (λ id. value_of id says.settings) (λ id. first_of id (rows_after (leaf_at 5 p t r q).rules [] rest)) (λ id. sym (says.first id)) both),
  ),
  state_lacks (λ id. value_of id says.settings) o.log.now (reads.1 ∙ says.first (codes "log")),
)
