-- How the values that `clap` found are read.
use Rattle.std.specs.Prelude.{◌≡◌, ◌≢◌, ◌⊎◌, ◌<◌, ◌^◌, ℕ, Bool, List, [], Option, Some, None, MatchOption, Result, Ok, Err, if◌then◌else◌, codes, false, is_some, unwrap_or}
use Rattle.std.specs.Borrow.{Bor}
use Rattle.std.specs.Str.{bytes_eq}
use Rattle.std.specs.Str.Parse.{IsNumeral, digits_value, without_leading_plus}
use Rattle.clap.specs.Words.{Row, Text, all_of}
use Rattle.clap.specs.declared.error.kind.ErrorKind.{ErrorKind}
use Rattle.clap.specs.declared.error.kind.ErrorKind.TheVariants.{ArgumentConflict, MissingRequiredArgument, ValueValidation}
use Rattle.wh_client.specs.Clients.{GiveClients}
use Rattle.wh_options.specs.Options.{BoundsPatient, IsClashing, IsClientless, IsLacking, ReplayClashes, ReplayLacks, ServeClashes, ServeLacks, StateClashes, StateLacks, Way, board_of, log_of}
use Rattle.wh_options.specs.declared.mistake.Mistake.{Mistake}
use Rattle.wh_options.specs.declared.mistake.Mistake.TheVariants.{AheadWithoutVehicles, BehindWithoutVehicles, BoardCoversLog, DeliverWithVehicles, BoardEveryWithoutBoard, EffortOfPatientLive, EffortOfPatientReplay, EffortOfPatientServe, NewWithoutLog, NoClients, ServeWithoutClient, ServeWithoutLog, StandWithAfter, StateWithoutLog, SlackOfPatientLive, SlackOfPatientReplay, SlackOfPatientServe, ToldWithoutLog}
use Rattle.wh_options.specs.declared.chosen.PlannerKind.{PlannerKind}
use Rattle.wh_options.specs.declared.chosen.PlannerKind.TheVariants.{Near, Patient}
use Rattle.wh_options.specs.declared.chosen.Tail.{Tail}
use Rattle.wh_options.specs.declared.chosen.Tail.TheVariants.{Nothing, Log, Ledger}
use Rattle.wh_options.specs.declared.chosen.Replies.{Replies}
use Rattle.wh_options.specs.declared.chosen.Replies.TheVariants.{Short, Full, Placed}
use Rattle.wh_options.specs.declared.chosen.Fleet.{Fleet}
use Rattle.wh_options.specs.declared.chosen.VehicleOptions.{VehicleOptions}
use Rattle.wh_options.specs.declared.chosen.ReplayOptions.{ReplayOptions}
use Rattle.wh_options.specs.declared.chosen.LiveOptions.{LiveOptions}
use Rattle.wh_options.specs.declared.chosen.ServeOptions.{ServeOptions}
use Rattle.wh_options.specs.declared.chosen.Options.{Options}
use Rattle.wh_options.specs.declared.chosen.Options.TheVariants.{Check, Replay, Verify, Live, Serve, State}

-- n is the number that the text writes, where it writes one of 32 bits
abbrev pub ReadsNumber : Option Text → ℕ → ℕ → Type 0
ReadsNumber None default n = n ≡ default
ReadsNumber (Some text) default n = IsNumeral 10 (without_leading_plus text)
    → digits_value 10 (without_leading_plus text) < 2 ^ 32
    → n ≡ digits_value 10 (without_leading_plus text)

abbrev pub planner_of : Option Text → PlannerKind
planner_of None = Near
planner_of (Some text) = if bytes_eq text (codes "patient") then Patient else Near

abbrev pub tail_of : Option Text → Tail
tail_of None = Nothing
tail_of (Some text) = if bytes_eq text (codes "log") then Log
    else (if bytes_eq text (codes "ledger") then Ledger else Nothing)

abbrev pub replies_of : Option Text → Replies
replies_of None = Short
replies_of (Some text) = if bytes_eq text (codes "full") then Full
    else (if bytes_eq text (codes "placed") then Placed else Short)

-- whether paths end at homes
abbrev pub homes_of : Option Text → Bool
homes_of None = false
homes_of (Some text) = bytes_eq text (codes "homes")

-- the number that the text writes, if there is one and it writes one of 32 bits
abbrev pub MayRead : Option Text → Option ℕ → Type 0
MayRead None read = read ≡ None
MayRead (Some text) read = (n : ℕ) × (read ≡ Some n) × ReadsNumber (Some text) 0 n

-- how vehicles carry out the plan, where the switch was found
pub record ReadsVehicles (given : Text → Option Text) (vehicles : Option VehicleOptions) : Type 0 where
  pub pace : VehicleOptions
  pub behind : ReadsNumber (given (codes "behind")) 8 pace.behind
  pub ahead : ReadsNumber (given (codes "ahead")) 1 pace.ahead
  pub is : MatchOption (given (codes "vehicles")) (vehicles ≡ None) (λ text. vehicles ≡ Some pace)

-- the planners and the rule, read from what was found
pub record ReadsFleet (given : Text → Option Text) (fleet : Fleet) : Type 0 where
  pub planner : fleet.planner ≡ planner_of (given (codes "planner"))
  pub slack : ReadsNumber (given (codes "slack")) 0 fleet.slack
  pub effort : MayRead (given (codes "effort")) fleet.effort
  pub slots : ReadsNumber (given (codes "slots")) 4 fleet.slots
  pub bank : ReadsNumber (given (codes "bank")) 1024 fleet.bank
  pub spares : ReadsNumber (given (codes "spares")) 0 fleet.spares
  pub ends : fleet.homes ≡ homes_of (given (codes "ends"))

pub record ReadsReplay (given : Text → Option Text) (o : ReplayOptions) : Type 0 where
  pub fleet : ReadsFleet given o.fleet
  pub tail : o.tail ≡ tail_of (given (codes "tail"))
  pub replies : o.replies ≡ replies_of (given (codes "replies"))
  pub log : log_of o ≡ given (codes "log")
  pub told : MayRead (given (codes "told")) o.told
  pub anew : o.anew ≡ is_some (given (codes "new"))
  pub vehicles : ReadsVehicles given o.vehicles
  pub deliver : o.deliver ≡ is_some (given (codes "deliver"))

pub record ReadsLive (given : Text → Option Text) (o : LiveOptions) : Type 0 where
  pub fleet : ReadsFleet given o.fleet
  pub turns : ReadsNumber (given (codes "turns")) 64 o.turns
  pub journal : ReadsNumber (given (codes "journal")) 10000 o.journal

-- the options of `serve`, read from what was found, and from all that was found for `client`
pub record ReadsServe (given : Text → Option Text) (clients : List Text) (o : ServeOptions) : Type 0 where
  pub fleet : ReadsFleet given o.fleet
  pub journal : ReadsNumber (given (codes "journal")) 1000000 o.journal
  pub share : MayRead (given (codes "share")) o.share
  pub replies : o.replies ≡ replies_of (given (codes "replies"))
  pub log : Some o.log.now ≡ given (codes "log")
  pub anew : o.anew ≡ is_some (given (codes "new"))
  pub every : MayRead (given (codes "every")) o.every
  pub board : board_of o ≡ given (codes "board")
  pub board_every : ReadsNumber (given (codes "board-every")) 100 o.board_every
  pub clients_are : GiveClients clients o.clients.items

-- the subcommand and what was found for its arguments, as options
abbrev pub Reads : Text → (Text → Option Text) → List Text → Options → Type 0
Reads name given clients (Check o) = (name ≢ codes "replay") × (name ≢ codes "live") × (name ≢ codes "serve") × (name ≢ codes "verify") × (name ≢ codes "state")
    × (name ≡ codes "check" → o.homes ≡ homes_of (given (codes "ends")))
Reads name given clients (Replay o) = (name ≡ codes "replay") × ReadsReplay given o × (¬ ReplayLacks given) × (¬ ReplayClashes given)
Reads name given clients (Verify o) = (name ≡ codes "verify") × (o.homes ≡ homes_of (given (codes "ends"))) × (o.unended ≡ is_some (given (codes "unended")))
    × MayRead (given (codes "wlog")) o.wlog × (o.chain ≡ is_some (given (codes "chain")))
Reads name given clients (Live o) = (name ≡ codes "live") × ReadsLive given o × (¬ BoundsPatient given)
Reads name given clients (Serve o) = (name ≡ codes "serve") × ReadsServe given clients o × (¬ ServeLacks given)
    × (¬ ServeClashes given)
Reads name given clients (State o) = (name ≡ codes "state") × (Some o.log.now ≡ given (codes "log")) × MayRead (given (codes "after")) o.after
    × (o.homes ≡ homes_of (given (codes "ends"))) × (o.stand ≡ is_some (given (codes "stand"))) × (¬ StateClashes given)

-- the kind of error that tells of a mistake
abbrev pub kind_of_mistake : Mistake → ErrorKind
kind_of_mistake ToldWithoutLog = MissingRequiredArgument
kind_of_mistake NewWithoutLog = MissingRequiredArgument
kind_of_mistake BehindWithoutVehicles = MissingRequiredArgument
kind_of_mistake AheadWithoutVehicles = MissingRequiredArgument
kind_of_mistake BoardEveryWithoutBoard = MissingRequiredArgument
kind_of_mistake ServeWithoutLog = MissingRequiredArgument
kind_of_mistake StateWithoutLog = MissingRequiredArgument
kind_of_mistake ServeWithoutClient = MissingRequiredArgument
kind_of_mistake BoardCoversLog = ArgumentConflict
kind_of_mistake DeliverWithVehicles = ArgumentConflict
kind_of_mistake StandWithAfter = ArgumentConflict
kind_of_mistake SlackOfPatientReplay = ArgumentConflict
kind_of_mistake SlackOfPatientLive = ArgumentConflict
kind_of_mistake SlackOfPatientServe = ArgumentConflict
kind_of_mistake EffortOfPatientReplay = ArgumentConflict
kind_of_mistake EffortOfPatientLive = ArgumentConflict
kind_of_mistake EffortOfPatientServe = ArgumentConflict
kind_of_mistake NoClients = ValueValidation

-- the options do not go together, and an error of this kind tells so
abbrev pub IsTold : ErrorKind → Way
IsTold kind name given clients = (IsLacking name given clients × (kind ≡ MissingRequiredArgument))
    ⊎ ((IsClashing name given clients × (kind ≡ ArgumentConflict))
    ⊎ (IsClientless name given clients × (kind ≡ ValueValidation)))

-- nothing of this was found, or a mistake that an error of this kind tells of
abbrev pub Judges : ErrorKind → ((Text → Option Text) → Type 0) → (Text → Option Text) → Option Mistake → Type 0
Judges kind Wrong given found = MatchOption found (¬ Wrong given) (λ mistake. Wrong given × (kind_of_mistake mistake ≡ kind))

-- nothing of this was found for `replay` that does not go together, or a mistake that says what does not
abbrev pub JudgesReplay : (Text → Option Text) → Option Mistake → Type 0
JudgesReplay given found = MatchOption found ((¬ ReplayLacks given) × (¬ ReplayClashes given))
    (λ mistake. (ReplayLacks given × (kind_of_mistake mistake ≡ MissingRequiredArgument))
    ⊎ ((¬ ReplayLacks given) × ReplayClashes given × (kind_of_mistake mistake ≡ ArgumentConflict)))

-- the name of the log's file, where what was found for `serve` goes together; else a mistake that says what does not
abbrev pub JudgesServe : (Text → Option Text) → Result (Bor Text) Mistake → Type 0
JudgesServe given (Ok log) = (Some log.now ≡ given (codes "log")) × (¬ ServeLacks given) × (¬ ServeClashes given)
JudgesServe given (Err mistake) = (ServeLacks given × (kind_of_mistake mistake ≡ MissingRequiredArgument))
    ⊎ ((¬ ServeLacks given) × ServeClashes given × (kind_of_mistake mistake ≡ ArgumentConflict))

-- the name of the log's file, where what was found for `state` goes together; else a mistake that says what does not
abbrev pub JudgesState : (Text → Option Text) → Result (Bor Text) Mistake → Type 0
JudgesState given (Ok log) = (Some log.now ≡ given (codes "log")) × (¬ StateClashes given)
JudgesState given (Err mistake) = (StateLacks given × (kind_of_mistake mistake ≡ MissingRequiredArgument))
    ⊎ ((¬ StateLacks given) × StateClashes given × (kind_of_mistake mistake ≡ ArgumentConflict))

-- all the texts that were found for `client`
abbrev pub clients_in : List Row → List Text
clients_in rows = unwrap_or (all_of (codes "client") rows) []

-- the options of `serve`, or the mistake in them
abbrev pub ReadsLine : (Text → Option Text) → List Text → Result Options Mistake → Type 0
ReadsLine given clients (Ok o) = Reads (codes "serve") given clients o
ReadsLine given clients (Err mistake) = IsTold (kind_of_mistake mistake) (codes "serve") given clients

-- the options of `state`, or the mistake in them
abbrev pub ReadsState : (Text → Option Text) → Result Options Mistake → Type 0
ReadsState given (Ok o) = (clients : List Text) → Reads (codes "state") given clients o
ReadsState given (Err mistake) = (StateLacks given × (kind_of_mistake mistake ≡ MissingRequiredArgument))
    ⊎ ((¬ StateLacks given) × StateClashes given × (kind_of_mistake mistake ≡ ArgumentConflict))
