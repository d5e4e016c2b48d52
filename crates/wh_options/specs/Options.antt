-- Which options the words of a command line give.
use Rattle.std.specs.Prelude.{◌≡◌, ◌≢◌, ◌≤◌, ◌⊎◌, ◌&&◌, ◌||◌, ℕ, Bool, List, [], ◌∷◌, ◌++◌, Option, Some, None, MatchOption, codes, is_some, option_map, false, true}
use Rattle.std.specs.List.{AllByRecursion, AllZip, list_any}
use Rattle.std.specs.Str.{bytes_eq}
use Rattle.std.specs.Str.Parse.{IsNumeral, digits_value, without_leading_plus}
use Rattle.wh_options.specs.Setting.{IsLine, Setting, Text, value_of, values_of}
use Rattle.wh_client.specs.Clients.{GiveClients, IsSameClient}
use Rattle.wh_client.specs.declared.client.ClientOptions.{ClientOptions}
use Rattle.wh_options.specs.declared.chosen.PlannerKind.{PlannerKind}
use Rattle.wh_options.specs.declared.chosen.PlannerKind.TheVariants.{Near, Patient}
use Rattle.wh_options.specs.declared.chosen.Tail.{Tail}
use Rattle.wh_options.specs.declared.chosen.Tail.TheVariants.{Nothing, Log, Ledger}
use Rattle.wh_options.specs.declared.chosen.Replies.{Replies}
use Rattle.wh_options.specs.declared.chosen.Replies.TheVariants.{Short, Full, Placed}
use Rattle.wh_options.specs.declared.chosen.Fleet.{Fleet}
use Rattle.wh_options.specs.declared.chosen.VehicleOptions.{VehicleOptions}
use Rattle.wh_options.specs.declared.chosen.ReplayOptions.{ReplayOptions}
use Rattle.wh_options.specs.declared.chosen.LiveOptions.{LiveOptions}
use Rattle.wh_options.specs.declared.chosen.ServeOptions.{ServeOptions}
use Rattle.wh_options.specs.declared.chosen.Options.{Options}
use Rattle.wh_options.specs.declared.chosen.Options.TheVariants.{Check, Replay, Verify, Live, Serve, State}
use Rattle.wh_options.specs.declared.chosen.VerifyOptions.{VerifyOptions}
use Rattle.wh_options.specs.declared.chosen.StateOptions.{StateOptions}

-- the text is n in decimal digits, perhaps after a plus
abbrev pub IsWritten : ℕ → Text → Type 0
IsWritten n text =
    IsNumeral 10 (without_leading_plus text) × (n ≡ digits_value 10 (without_leading_plus text))

-- n is the number given, in its range, or the default where none is given
abbrev pub GivesNumber : List Setting → Text → ℕ → ℕ → ℕ → ℕ → Type 0
GivesNumber settings name default least most n = MatchOption (value_of name settings)
    (n ≡ default) (λ text. IsWritten n text × (least ≤ n) × (n ≤ most))

abbrev pub planner_text : PlannerKind → Text
planner_text Near = codes "near"
planner_text Patient = codes "patient"

abbrev pub tail_text : Tail → Text
tail_text Nothing = codes "none"
tail_text Log = codes "log"
tail_text Ledger = codes "ledger"

abbrev pub replies_text : Replies → Text
replies_text Short = codes "short"
replies_text Full = codes "full"
replies_text Placed = codes "placed"

-- the planner given by its word, or `near`
abbrev pub GivesPlanner : List Setting → PlannerKind → Type 0
GivesPlanner settings planner = MatchOption (value_of (codes "planner") settings)
    (planner ≡ Near) (λ text. text ≡ planner_text planner)

-- the tail given by its word, or none
abbrev pub GivesTail : List Setting → Tail → Type 0
GivesTail settings tail = MatchOption (value_of (codes "tail") settings)
    (tail ≡ Nothing) (λ text. text ≡ tail_text tail)

-- the way to tell replies given by its word, or `short`
abbrev pub GivesReplies : List Setting → Replies → Type 0
GivesReplies settings replies = MatchOption (value_of (codes "replies") settings)
    (replies ≡ Short) (λ text. text ≡ replies_text replies)

-- the word for paths that end at homes, and for those that end at their last stops
abbrev pub ends_text : Bool → Text
ends_text true = codes "homes"
ends_text false = codes "stops"

-- whether paths end at homes, given by its word, or at their last stops
abbrev pub GivesHomes : List Setting → Bool → Type 0
GivesHomes settings homes = MatchOption (value_of (codes "ends") settings)
    (homes ≡ false) (λ text. text ≡ ends_text homes)

-- the text of the name of the log's file
abbrev pub log_of : ReplayOptions → Option Text
log_of o = option_map (λ s. s.now) o.log

-- the text of the name of the board's file
abbrev pub board_of : ServeOptions → Option Text
board_of o = option_map (λ s. s.now) o.board

-- the file named by this option, if one is, by a name that is not empty
pub record GivesFile (settings : List Setting) (option : Text) (file : Option Text) : Type 0 where
  pub is : file ≡ value_of option settings
  pub named : file ≢ Some []

-- the number given, in its range, if one is
abbrev pub MayGive : List Setting → Text → ℕ → ℕ → Option ℕ → Type 0
MayGive settings name least most given = MatchOption (value_of name settings)
    (given ≡ None) (λ text. (n : ℕ) × (given ≡ Some n) × IsWritten n text × (least ≤ n) × (n ≤ most))

-- whether this switch is given
abbrev pub GivesSwitch : List Setting → Text → Bool → Type 0
GivesSwitch settings name given = given ≡ is_some (value_of name settings)

-- how vehicles carry out the plan, if they do: each number as given, or by default
pub record GivesVehicles (settings : List Setting) (vehicles : Option VehicleOptions) : Type 0 where
  pub pace : VehicleOptions
  pub behind : GivesNumber settings (codes "behind") 8 1 1000 pace.behind
  pub ahead : GivesNumber settings (codes "ahead") 1 1 1000 pace.ahead
  pub is : MatchOption (value_of (codes "vehicles") settings)
      (vehicles ≡ None) (λ text. vehicles ≡ Some pace)

-- the settings give these planners, and this rule
pub record GivesFleet (settings : List Setting) (fleet : Fleet) : Type 0 where
  pub planner : GivesPlanner settings fleet.planner
  pub slack : GivesNumber settings (codes "slack") 0 0 1000 fleet.slack
  pub effort : MayGive settings (codes "effort") 1000 1000000000 fleet.effort
  pub slots : GivesNumber settings (codes "slots") 4 2 64 fleet.slots
  pub bank : GivesNumber settings (codes "bank") 1024 2 65536 fleet.bank
  pub spares : GivesNumber settings (codes "spares") 0 0 16 fleet.spares
  pub ends : GivesHomes settings fleet.homes

-- each setting is of one of these names
abbrev pub HasOnly : List Text → List Setting → Type 0
HasOnly names =
    AllByRecursion (λ (s : Setting). list_any (bytes_eq s.name) names ≡ true)

abbrev pub fleet_names : List Text
fleet_names = codes "planner" ∷ codes "slack" ∷ codes "effort" ∷ codes "slots" ∷ codes "bank" ∷ codes "spares" ∷ codes "ends" ∷ []

abbrev pub rule_names : List Text
rule_names = codes "ends" ∷ []

abbrev pub verify_names : List Text
verify_names = codes "ends" ∷ codes "unended" ∷ codes "wlog" ∷ codes "chain" ∷ []

abbrev pub state_names : List Text
state_names = codes "ends" ∷ codes "log" ∷ codes "after" ∷ codes "stand" ∷ []

abbrev pub replay_names : List Text
replay_names = codes "planner" ∷ codes "slack" ∷ codes "effort" ∷ codes "slots" ∷ codes "bank" ∷ codes "spares" ∷ codes "ends" ∷ codes "tail"
    ∷ codes "replies" ∷ codes "log" ∷ codes "told" ∷ codes "new" ∷ codes "vehicles"
    ∷ codes "behind" ∷ codes "ahead" ∷ codes "deliver" ∷ []

abbrev pub live_names : List Text
live_names = codes "planner" ∷ codes "slack" ∷ codes "effort" ∷ codes "slots" ∷ codes "bank" ∷ codes "spares" ∷ codes "ends" ∷ codes "turns"
    ∷ codes "journal" ∷ []

abbrev pub serve_names : List Text
serve_names = codes "planner" ∷ codes "slack" ∷ codes "effort" ∷ codes "slots" ∷ codes "bank" ∷ codes "spares" ∷ codes "ends" ∷ codes "journal"
    ∷ codes "every" ∷ codes "board" ∷ codes "board-every" ∷ codes "log" ∷ codes "new"
    ∷ codes "replies" ∷ codes "share" ∷ codes "client" ∷ []

-- what the settings of `check` say
pub record GivesRule (settings : List Setting) (homes : Bool) : Type 0 where
  pub only : HasOnly rule_names settings
  pub ends : GivesHomes settings homes

-- what the settings of `verify` say
pub record GivesVerify (settings : List Setting) (o : VerifyOptions) : Type 0 where
  pub only : HasOnly verify_names settings
  pub ends : GivesHomes settings o.homes
  pub unended : GivesSwitch settings (codes "unended") o.unended
  pub wlog : MayGive settings (codes "wlog") 3 3 o.wlog
  pub chain : GivesSwitch settings (codes "chain") o.chain

-- what the settings of `state` say
pub record GivesState (settings : List Setting) (o : StateOptions) : Type 0 where
  pub only : HasOnly state_names settings
  pub ends : GivesHomes settings o.homes
  pub log : GivesFile settings (codes "log") (Some o.log.now)
  pub after : MayGive settings (codes "after") 0 999999999 o.after
  pub stand : GivesSwitch settings (codes "stand") o.stand

-- what each setting of `replay` says by itself
pub record GivesReplay (settings : List Setting) (o : ReplayOptions) : Type 0 where
  pub only : HasOnly replay_names settings
  pub fleet : GivesFleet settings o.fleet
  pub tail : GivesTail settings o.tail
  pub replies : GivesReplies settings o.replies
  pub log : GivesFile settings (codes "log") (log_of o)
  pub told : MayGive settings (codes "told") 0 999999999 o.told
  pub anew : GivesSwitch settings (codes "new") o.anew
  pub vehicles : GivesVehicles settings o.vehicles
  pub deliver : GivesSwitch settings (codes "deliver") o.deliver

-- what each setting of `live` says by itself
pub record GivesLive (settings : List Setting) (o : LiveOptions) : Type 0 where
  pub only : HasOnly live_names settings
  pub fleet : GivesFleet settings o.fleet
  pub turns : GivesNumber settings (codes "turns") 64 1 100000 o.turns
  pub journal : GivesNumber settings (codes "journal") 10000 1 1000000 o.journal

-- one is given, and the other is not
abbrev pub Lacks : (Text → Option Text) → Text → Text → Type 0
Lacks given one other = (given one ≢ None) × (given other ≡ None)

-- a board in this file would replace a log in that one, or a file beside it: the board is written to FILE.new and then named
-- FILE, and beside the log stand FILE.site and FILE.at
abbrev pub covers : (board log : Text) → Bool
covers board log =
    bytes_eq board log || (bytes_eq log (board ++ codes ".new") || (bytes_eq board (log ++ codes ".site") || bytes_eq board (log ++ codes ".at")))

-- the board is given a file of the log
pub record CoversLog (given : Text → Option Text) : Type 0 where
  pub board : Text
  pub log : Text
  pub board_is : given (codes "board") ≡ Some board
  pub log_is : given (codes "log") ≡ Some log
  pub covered : covers board log ≡ true

-- the planners are given as patient
abbrev pub is_patient : Option Text → Bool
is_patient None = false
is_patient (Some text) = bytes_eq text (codes "patient")

-- a slack or an effort is given, and to planners that are patient
abbrev pub bounds_patient : (Text → Option Text) → Bool
bounds_patient given = (is_some (given (codes "slack")) || is_some (given (codes "effort"))) && is_patient (given (codes "planner"))

abbrev pub BoundsPatient : (Text → Option Text) → Type 0
BoundsPatient given = bounds_patient given ≡ true

-- what `serve` is given does not go together
abbrev pub ServeClashes : (Text → Option Text) → Type 0
ServeClashes given = CoversLog given ⊎ BoundsPatient given

-- what the settings of `serve` say: at least one client, a log, a board in none of the log's files, and no slack or effort of patient planners
pub record GivesServe (settings : List Setting) (o : ServeOptions) : Type 0 where
  pub only : HasOnly serve_names settings
  pub fleet : GivesFleet settings o.fleet
  pub journal : GivesNumber settings (codes "journal") 1000000 1 1000000 o.journal
  pub share : MayGive settings (codes "share") 1 1000000 o.share
  pub replies : GivesReplies settings o.replies
  pub log : GivesFile settings (codes "log") (Some o.log.now)
  pub anew : GivesSwitch settings (codes "new") o.anew
  pub every : MayGive settings (codes "every") 1 60000 o.every
  pub board : GivesFile settings (codes "board") (board_of o)
  pub board_every : GivesNumber settings (codes "board-every") 100 1 60000 o.board_every
  pub clients : GiveClients (values_of (codes "client") settings) o.clients.items
  pub some : o.clients.items ≢ []
  pub agree : ¬ ServeClashes (λ id. value_of id settings)

-- all is to be delivered behind the script, and by vehicles
abbrev pub DeliversByVehicles : (Text → Option Text) → Type 0
DeliversByVehicles given = (given (codes "deliver") ≢ None) × (given (codes "vehicles") ≢ None)

-- what `replay` is given does not go together
abbrev pub ReplayClashes : (Text → Option Text) → Type 0
ReplayClashes given = DeliversByVehicles given ⊎ BoundsPatient given

-- what `state` is given does not go together: the vehicles' stand is told after all entries
abbrev pub StateClashes : (Text → Option Text) → Type 0
StateClashes given = (given (codes "stand") ≢ None) × (given (codes "after") ≢ None)

-- what each setting of a subcommand says by itself
abbrev pub EachGives : Text → List Setting → Options → Type 0
EachGives name settings (Check o) = (name ≡ codes "check") × GivesRule settings o.homes
EachGives name settings (Replay o) = (name ≡ codes "replay") × GivesReplay settings o × (¬ ReplayClashes (λ id. value_of id settings))
EachGives name settings (Verify o) = (name ≡ codes "verify") × GivesVerify settings o
EachGives name settings (Live o) = (name ≡ codes "live") × GivesLive settings o × (¬ BoundsPatient (λ id. value_of id settings))
EachGives name settings (Serve o) = (name ≡ codes "serve") × GivesServe settings o
EachGives name settings (State o) = (name ≡ codes "state") × GivesState settings o × (¬ StateClashes (λ id. value_of id settings))

-- an option of `replay` is given without the one that it belongs to
abbrev pub ReplayLacks : (Text → Option Text) → Type 0
ReplayLacks given = Lacks given (codes "told") (codes "log")
    ⊎ (Lacks given (codes "new") (codes "log")
    ⊎ (Lacks given (codes "behind") (codes "vehicles")
    ⊎ Lacks given (codes "ahead") (codes "vehicles")))

-- `serve` is given no log, or no client, or how often the board is looked at and no board
abbrev pub ServeLacks : (Text → Option Text) → Type 0
ServeLacks given = (given (codes "log") ≡ None)
    ⊎ ((given (codes "client") ≡ None)
    ⊎ Lacks given (codes "board-every") (codes "board"))

-- `state` is given no log
abbrev pub StateLacks : (Text → Option Text) → Type 0
StateLacks given = given (codes "log") ≡ None

-- this subcommand is given an option without the one that it belongs to, or not what it needs
abbrev pub LacksAny : Text → (Text → Option Text) → Type 0
LacksAny name given = ((name ≡ codes "replay") × ReplayLacks given)
    ⊎ (((name ≡ codes "serve") × ServeLacks given)
    ⊎ ((name ≡ codes "state") × StateLacks given))

-- the subcommand and its settings mean these options
abbrev pub Means : Text → List Setting → Options → Type 0
Means name settings options =
    EachGives name settings options × (¬ LacksAny name (λ id. value_of id settings))

-- the words give these options
abbrev pub WordsGive : List Text → Options → Type 0
WordsGive words options = (name : Text) × (settings : List Setting)
    × IsLine words name settings × Means name settings options

-- each setting of `serve` says something by itself, whatever stands beside it; only whether its texts name clients is
-- left open
pub record SaysServe (settings : List Setting) : Type 0 where
  pub planners : Fleet
  pub entries : ℕ
  pub part : Option ℕ
  pub form : Replies
  pub kept : Option Text
  pub pace : Option ℕ
  pub shown : Option Text
  pub looks : ℕ
  pub only : HasOnly serve_names settings
  pub fleet : GivesFleet settings planners
  pub journal : GivesNumber settings (codes "journal") 1000000 1 1000000 entries
  pub share : MayGive settings (codes "share") 1 1000000 part
  pub replies : GivesReplies settings form
  pub log : GivesFile settings (codes "log") kept
  pub every : MayGive settings (codes "every") 1 60000 pace
  pub board : GivesFile settings (codes "board") shown
  pub board_every : GivesNumber settings (codes "board-every") 100 1 60000 looks

-- each setting of `state` says something by itself, whatever stands beside it
pub record SaysState (settings : List Setting) : Type 0 where
  pub homes : Bool
  pub kept : Option Text
  pub count : Option ℕ
  pub only : HasOnly state_names settings
  pub ends : GivesHomes settings homes
  pub log : GivesFile settings (codes "log") kept
  pub after : MayGive settings (codes "after") 0 999999999 count

-- each setting of `replay`, `serve`, `live` or `state` says something by itself
abbrev pub EachSays : Text → List Setting → Type 0
EachSays name settings = ((name ≡ codes "replay") × (o : ReplayOptions) × GivesReplay settings o)
    ⊎ (((name ≡ codes "serve") × SaysServe settings)
    ⊎ (((name ≡ codes "live") × (o : LiveOptions) × GivesLive settings o)
    ⊎ ((name ≡ codes "state") × SaysState settings)))

-- a way in which the settings of a subcommand, by what each name and `client` are given, do not go together
abbrev pub Way : Type 1
Way = Text → (Text → Option Text) → List Text → Type 0

-- one lacks the other that it belongs to, or what the subcommand needs is not there
abbrev pub IsLacking : Way
IsLacking name given clients = LacksAny name given

-- nothing lacks, and what the subcommand is given does not go together
abbrev pub IsClashing : Way
IsClashing name given clients = ((name ≡ codes "serve") × (¬ ServeLacks given) × ServeClashes given)
    ⊎ (((name ≡ codes "replay") × (¬ ReplayLacks given) × ReplayClashes given)
    ⊎ (((name ≡ codes "live") × BoundsPatient given)
    ⊎ ((name ≡ codes "state") × (¬ StateLacks given) × StateClashes given)))

-- nothing lacks and nothing clashes, and the texts given for clients name none, or not each its own
abbrev pub IsClientless : Way
IsClientless name given clients = (name ≡ codes "serve") × (¬ ServeLacks given) × (¬ ServeClashes given)
    × ((cs : List ClientOptions) → ¬ GiveClients clients cs)

-- words whose settings each say something by itself, while they do not go together in this way
pub record IsAmiss (Goes : Way) (words : List Text) : Type 0 where
  pub name : Text
  pub settings : List Setting
  pub line : IsLine words name settings
  pub each : EachSays name settings
  pub amiss : Goes name (λ id. value_of id settings) (values_of (codes "client") settings)

-- the same options: a name of a file or a folder counts by its text, wherever that text lies
abbrev pub AreSame : Options → Options → Type 0
AreSame (Replay o) (Replay p) = (o.fleet ≡ p.fleet) × (o.tail ≡ p.tail) × (o.replies ≡ p.replies)
    × (log_of o ≡ log_of p) × (o.told ≡ p.told) × (o.anew ≡ p.anew) × (o.vehicles ≡ p.vehicles) × (o.deliver ≡ p.deliver)
AreSame (Serve o) (Serve p) = (o.fleet ≡ p.fleet) × (o.journal ≡ p.journal) × (o.share ≡ p.share) × (o.replies ≡ p.replies)
    × (o.log.now ≡ p.log.now) × (o.anew ≡ p.anew) × (o.every ≡ p.every) × (board_of o ≡ board_of p)
    × (o.board_every ≡ p.board_every) × AllZip IsSameClient o.clients.items p.clients.items
AreSame (State o) (State p) = (o.log.now ≡ p.log.now) × (o.after ≡ p.after) × (o.homes ≡ p.homes) × (o.stand ≡ p.stand)
AreSame o p = o ≡ p
