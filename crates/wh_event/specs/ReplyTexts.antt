-- the texts of replies
use Rattle.std.specs.Prelude.{◌≡◌, ℕ, ◌<◌, ◌^◌, true, List, ◌++◌, codes, decimal}
use Rattle.wh_text.specs.Names.{is_name}
use Rattle.wh_path.specs.Paths.{last_index}
use Rattle.wh_event.specs.declared.reply.Reply.{Reply}
use Rattle.wh_event.specs.declared.reply.Reply.TheVariants.{Accepted, Took, Rested, Parked, Clock, Replaced, Closed, Refused}
use Rattle.wh_event.specs.declared.reply.Refusal.{Refusal}
use Rattle.wh_event.specs.declared.reply.Refusal.TheVariants as refusal

abbrev pub refusal_text : Refusal → List ℕ
refusal_text (refusal.UnknownPoint name) = codes "E1 " ++ name
refusal_text (refusal.NotStation name) = codes "E2 " ++ name
refusal_text refusal.TasksFull = codes "E3"
refusal_text (refusal.UnknownAgent agent) = codes "E4 " ++ decimal agent
refusal_text (refusal.Moving steps) = codes "E5 " ++ decimal steps
refusal_text refusal.NoPath = codes "E6"
refusal_text refusal.ClockFull = codes "E7"
refusal_text refusal.Closed = codes "E8"
refusal_text refusal.ForeignPlanner = codes "E9"
refusal_text refusal.NoSpare = codes "E10"

-- a path is told by its last index alone
abbrev pub reply_text : Reply → List ℕ
reply_text (Accepted task) = codes "accepted " ++ decimal task
reply_text (Took task path) = codes "took " ++ decimal task ++ codes " end " ++ decimal (last_index path)
reply_text Rested = codes "rested"
reply_text (Parked point path) = codes "parked " ++ point ++ codes " end " ++ decimal (last_index path)
reply_text (Clock now picked dropped) = codes "clock " ++ decimal now ++ codes " picked " ++ decimal picked ++ codes " dropped " ++ decimal dropped
reply_text (Replaced slots) = codes "replaced " ++ decimal slots
reply_text Closed = codes "closed"
reply_text (Refused why) = codes "refused " ++ refusal_text why

-- what the types of a reply's parts hold
abbrev pub RefusalHolds : Refusal → Type 0
RefusalHolds (refusal.UnknownPoint name) = is_name name ≡ true
RefusalHolds (refusal.NotStation name) = is_name name ≡ true
RefusalHolds (refusal.UnknownAgent agent) = agent < 2 ^ 32
RefusalHolds (refusal.Moving steps) = steps < 2 ^ 64
RefusalHolds _ = Unit {0}

abbrev pub ReplyHolds : Reply → Type 0
ReplyHolds (Accepted task) = task < 2 ^ 32
ReplyHolds (Took task path) = (task < 2 ^ 32) × (last_index path < 2 ^ 61)
ReplyHolds (Parked point path) = (is_name point ≡ true) × (last_index path < 2 ^ 61)
ReplyHolds (Clock now picked dropped) = (now < 2 ^ 32) × (picked < 2 ^ 32) × (dropped < 2 ^ 32)
ReplyHolds (Replaced slots) = slots < 2 ^ 32
ReplyHolds (Refused why) = RefusalHolds why
ReplyHolds _ = Unit {0}

-- the replies tell the same: all is the same but the cells of a path, of which the last index is
abbrev pub TellSame : Reply → Reply → Type 0
TellSame (Took task path) (Took other_task other_path) = (task ≡ other_task) × (last_index path ≡ last_index other_path)
TellSame (Parked point path) (Parked other_point other_path) = (point ≡ other_point) × (last_index path ≡ last_index other_path)
TellSame reply other = reply ≡ other
