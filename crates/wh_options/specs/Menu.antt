-- The subcommands and their options, as `clap` sees them.
use Rattle.std.specs.Prelude.{◌≡◌, ℕ, List, [], ◌∷◌, Some, codes, true, false}
use Rattle.std.specs.Borrow.{Bor}
use Rattle.clap.specs.Words.{App, Rule, app_of, new_app, new_rule, with_rule, with_subcommand}
use Rattle.clap.specs.Walk.{texts}
use Rattle.clap.specs.declared.builder.command.Command.TheViews.{out-Command as fields_of}
use Rattle.clap.specs.declared.builder.action.ArgAction.TheVariants.{Append, Set}
use Rattle.clap.specs.declared.builder.command.Command.{Command}
use Rattle.clap.specs.declared.builder.value_parser.ValueParser.TheVariants as vp
use Rattle.wh_options.specs.Setting.{Text}

-- the references to a list of words
abbrev pub Choices : Type 0
Choices = Bor (List (Bor Text))

-- an option whose value is a number in a range
abbrev pub number_rule : Text → ℕ → ℕ → Rule
number_rule name least most = record (new_rule name) {
  long = Some name;
  action = Some Set;
  value_names = 1;
  parser = Some (vp.Unsigned least most);
}

-- an option whose value is one of some words
abbrev pub choice_rule : Text → Choices → Rule
choice_rule name choices = record (new_rule name) {
  long = Some name;
  action = Some Set;
  value_names = 1;
  parser = Some (vp.Names choices);
}

-- an option whose value is the name of a file, any text but the empty one
abbrev pub file_rule : Text → Rule
file_rule name = record (new_rule name) {
  long = Some name;
  action = Some Set;
  value_names = 1;
  parser = Some vp.NonEmptyString;
}

-- an option without a value, which is found with the value `true`
abbrev pub switch_rule : Text → Rule
switch_rule name = record (new_rule name) {
  long = Some name;
  action = Some Set;
  range = Some (record { start_inclusive = 0; end_inclusive = 0 });
  missing = codes "true" ∷ [];
}

-- an option that may be given many times, each time with a text
abbrev pub many_rule : Text → Rule
many_rule name = record (new_rule name) {
  long = Some name;
  action = Some Append;
  value_names = 1;
  parser = Some vp.String;
}

abbrev pub planner_words : List Text
planner_words = codes "near" ∷ codes "patient" ∷ []

abbrev pub tail_words : List Text
tail_words = codes "none" ∷ codes "log" ∷ codes "ledger" ∷ []

abbrev pub replies_words : List Text
replies_words = codes "short" ∷ codes "full" ∷ codes "placed" ∷ []

abbrev pub ends_words : List Text
ends_words = codes "stops" ∷ codes "homes" ∷ []

-- the option that says where paths end
abbrev pub with_ends_rule : Choices → App → App
with_ends_rule ends a = with_rule a (choice_rule (codes "ends") ends)

-- a subcommand that is told where paths end, and nothing else
abbrev pub ruled_app : Text → Choices → App
ruled_app name ends = with_ends_rule ends (new_app name)

-- the subcommand that is also told that a log may lack its last line, that one may be of version 3, and that the logs of a chain are given
abbrev pub verify_app : Choices → App
verify_app ends = with_rule (with_rule (with_rule (ruled_app (codes "verify") ends) (switch_rule (codes "unended"))) (number_rule (codes "wlog") 3 3)) (switch_rule (codes "chain"))

-- the subcommand that is also told which file has the log, how many of its entries count, and whether the vehicles' stand is told
abbrev pub state_app : Choices → App
state_app ends = with_rule (with_rule (with_rule (ruled_app (codes "state") ends) (file_rule (codes "log")))
    (number_rule (codes "after") 0 999999999)) (switch_rule (codes "stand"))

-- the options that say which planners there are, and where paths end
abbrev pub fleet_app : Text → Choices → Choices → App
fleet_app name planners ends = with_ends_rule ends (with_rule (with_rule (with_rule (with_rule (with_rule (with_rule (new_app name)
    (choice_rule (codes "planner") planners)) (number_rule (codes "slack") 0 1000)) (number_rule (codes "effort") 1000 1000000000))
    (number_rule (codes "slots") 2 64))
    (number_rule (codes "bank") 2 65536)) (number_rule (codes "spares") 0 16))

-- the options that say how vehicles carry out the plan
abbrev pub with_vehicle_rules : App → App
with_vehicle_rules a = with_rule (with_rule (with_rule a (switch_rule (codes "vehicles")))
    (number_rule (codes "behind") 1 1000)) (number_rule (codes "ahead") 1 1000)

-- the option that has all delivered behind the script
abbrev pub with_deliver_rule : App → App
with_deliver_rule a = with_rule a (switch_rule (codes "deliver"))

-- the options that say how replies are told, and what follows them
abbrev pub with_telling_rules : Choices → Choices → App → App
with_telling_rules tails replies a = with_rule (with_rule a (choice_rule (codes "tail") tails)) (choice_rule (codes "replies") replies)

-- the options that say which file keeps the log, what is told of it, and whether a run may begin where it was lost
abbrev pub with_log_rules : App → App
with_log_rules a = with_rule (with_rule (with_rule a (file_rule (codes "log"))) (number_rule (codes "told") 0 999999999)) (switch_rule (codes "new"))

abbrev pub replay_app : Choices → Choices → Choices → Choices → App
replay_app planners tails replies ends =
    with_deliver_rule (with_vehicle_rules (with_log_rules (with_telling_rules tails replies (fleet_app (codes "replay") planners ends))))

-- the options that say which file shows the board, and how often
abbrev pub with_board_rules : App → App
with_board_rules a =
    with_rule (with_rule a (file_rule (codes "board"))) (number_rule (codes "board-every") 1 60000)

abbrev pub live_app : Choices → Choices → App
live_app planners ends = with_rule (with_rule (fleet_app (codes "live") planners ends)
    (number_rule (codes "turns") 1 100000)) (number_rule (codes "journal") 1 1000000)

-- the options that say which file keeps the log, whether a run may begin where it was lost, how clients are told, what they may enter, and who they are
abbrev pub with_client_rules : Choices → App → App
with_client_rules replies a = with_rule (with_rule (with_rule (with_rule (with_rule a (file_rule (codes "log"))) (switch_rule (codes "new")))
    (choice_rule (codes "replies") replies)) (number_rule (codes "share") 1 1000000)) (many_rule (codes "client"))

abbrev pub serve_app : Choices → Choices → Choices → App
serve_app planners replies ends = with_client_rules replies (with_board_rules (with_rule (with_rule
    (fleet_app (codes "serve") planners ends) (number_rule (codes "journal") 1 1000000)) (number_rule (codes "every") 1 60000)))

-- the words that options of `live` and `serve` choose from, and those that say where paths end
pub record OtherChoices : Type 0 where
  pub live : Choices
  pub planners : Choices
  pub replies : Choices
  pub check_ends : Choices
  pub replay_ends : Choices
  pub verify_ends : Choices
  pub live_ends : Choices
  pub serve_ends : Choices
  pub state_ends : Choices

-- a subcommand must follow, and each command tells the version
abbrev pub with_settings : App → App
with_settings a = record a {
  top = record a.top { subcommand_required = true; has_version = true; propagate_version = true };
}

-- the whole command
abbrev pub menu : Choices → Choices → Choices → OtherChoices → App
menu planners tails replies others =
    with_subcommand (with_subcommand (with_subcommand (with_subcommand (with_subcommand (with_subcommand
    (with_settings (new_app (codes "warehouse")))
    (ruled_app (codes "check") others.check_ends).top) (replay_app planners tails replies others.replay_ends).top)
    (verify_app others.verify_ends).top) (live_app others.live others.live_ends).top)
    (serve_app others.planners others.replies others.serve_ends).top) (state_app others.state_ends).top

-- a command with this shape, and no argument that reaches below it
pub record HasShape (c : Command) (a : App) : Type 0 where
  pub shape : app_of c ≡ a
  pub local : (fields_of c).has_globals ≡ false

pub record IsFleetCommand (c : Command) (name : Text) : Type 0 where
  pub planners : Choices
  pub ends : Choices
  pub words : texts planners.now ≡ planner_words
  pub ends_texts : texts ends.now ≡ ends_words
  pub is : HasShape c (fleet_app name planners ends)

pub record IsRuledCommand (c : Command) (name : Text) : Type 0 where
  pub ends : Choices
  pub ends_texts : texts ends.now ≡ ends_words
  pub is : HasShape c (ruled_app name ends)

pub record IsVerifyCommand (c : Command) : Type 0 where
  pub ends : Choices
  pub ends_texts : texts ends.now ≡ ends_words
  pub is : HasShape c (verify_app ends)

pub record IsStateCommand (c : Command) : Type 0 where
  pub ends : Choices
  pub ends_texts : texts ends.now ≡ ends_words
  pub is : HasShape c (state_app ends)

pub record IsReplayCommand (c : Command) : Type 0 where
  pub planners : Choices
  pub tails : Choices
  pub replies : Choices
  pub planner_texts : texts planners.now ≡ planner_words
  pub tail_texts : texts tails.now ≡ tail_words
  pub replies_texts : texts replies.now ≡ replies_words
  pub ends : Choices
  pub ends_texts : texts ends.now ≡ ends_words
  pub is : HasShape c (replay_app planners tails replies ends)

pub record IsLiveCommand (c : Command) : Type 0 where
  pub planners : Choices
  pub planner_texts : texts planners.now ≡ planner_words
  pub ends : Choices
  pub ends_texts : texts ends.now ≡ ends_words
  pub is : HasShape c (live_app planners ends)

pub record IsServeCommand (c : Command) : Type 0 where
  pub planners : Choices
  pub replies : Choices
  pub planner_texts : texts planners.now ≡ planner_words
  pub replies_texts : texts replies.now ≡ replies_words
  pub ends : Choices
  pub ends_texts : texts ends.now ≡ ends_words
  pub is : HasShape c (serve_app planners replies ends)

-- a command that has a subcommand of this name besides, which is told where paths end
pub record AddsRuled (name : Text) (b c : Command) : Type 0 where
  pub ends : Choices
  pub ends_texts : texts ends.now ≡ ends_words
  pub is : app_of c ≡ with_subcommand (app_of b) (ruled_app name ends).top

-- a command that has the subcommand `verify` besides
pub record AddsVerify (b c : Command) : Type 0 where
  pub ends : Choices
  pub ends_texts : texts ends.now ≡ ends_words
  pub is : app_of c ≡ with_subcommand (app_of b) (verify_app ends).top

-- a command that has the subcommand `state` besides
pub record AddsState (b c : Command) : Type 0 where
  pub ends : Choices
  pub ends_texts : texts ends.now ≡ ends_words
  pub is : app_of c ≡ with_subcommand (app_of b) (state_app ends).top

-- a command that has the subcommand `replay` besides
pub record AddsReplay (b c : Command) : Type 0 where
  pub planners : Choices
  pub tails : Choices
  pub replies : Choices
  pub planner_texts : texts planners.now ≡ planner_words
  pub tail_texts : texts tails.now ≡ tail_words
  pub replies_texts : texts replies.now ≡ replies_words
  pub ends : Choices
  pub ends_texts : texts ends.now ≡ ends_words
  pub is : app_of c ≡ with_subcommand (app_of b) (replay_app planners tails replies ends).top

-- a command that has the subcommand `live` besides
pub record AddsLive (b c : Command) : Type 0 where
  pub planners : Choices
  pub planner_texts : texts planners.now ≡ planner_words
  pub ends : Choices
  pub ends_texts : texts ends.now ≡ ends_words
  pub is : app_of c ≡ with_subcommand (app_of b) (live_app planners ends).top

-- a command that has the subcommand `serve` besides
pub record AddsServe (b c : Command) : Type 0 where
  pub planners : Choices
  pub replies : Choices
  pub planner_texts : texts planners.now ≡ planner_words
  pub replies_texts : texts replies.now ≡ replies_words
  pub ends : Choices
  pub ends_texts : texts ends.now ≡ ends_words
  pub is : app_of c ≡ with_subcommand (app_of b) (serve_app planners replies ends).top

-- the command of the program
pub record IsMenu (a : App) : Type 0 where
  pub planners : Choices
  pub tails : Choices
  pub replies : Choices
  pub others : OtherChoices
  pub planner_texts : texts planners.now ≡ planner_words
  pub tail_texts : texts tails.now ≡ tail_words
  pub replies_texts : texts replies.now ≡ replies_words
  pub live_texts : texts others.live.now ≡ planner_words
  pub other_texts : texts others.planners.now ≡ planner_words
  pub other_replies : texts others.replies.now ≡ replies_words
  pub check_ends : texts others.check_ends.now ≡ ends_words
  pub replay_ends : texts others.replay_ends.now ≡ ends_words
  pub verify_ends : texts others.verify_ends.now ≡ ends_words
  pub live_ends : texts others.live_ends.now ≡ ends_words
  pub serve_ends : texts others.serve_ends.now ≡ ends_words
  pub state_ends : texts others.state_ends.now ≡ ends_words
  pub is : a ≡ menu planners tails replies others
