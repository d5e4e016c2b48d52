-- what is found of the front of a log of version 3
use Rattle.std.specs.Prelude.{◌≡◌, ℕ, ◌+◌, ◌<◌, ◌≤◌, ◌^◌, Bool, true, false, List, [], ◌++◌, map, length, take, Option, IfSome, All, slice_index_or}
use Rattle.wh_points.specs.Points.{Site, IsLayout}
use Rattle.wh_resume.specs.Keeping.{Kept}
use Rattle.wh_log.specs.Logs.{IsSlots}
use Rattle.wh_front.specs.declared.front.Front.{Front}
use Rattle.wh_front.specs.declared.front.Seat.{Seat}
use Rattle.wh_front.specs.Fronts.{front_text}
use Rattle.wh_state.specs.Columns.{state_in}
use Rattle.wh_restore.specs.Heads.{first_two_lines}
use Rattle.wh_restore.specs.SoundFronts.{state_told}
use Rattle.wh_restore.specs.declared.reason.Reason.TheVariants as reasons
use Rattle.wh_restore.specs.declared.restored.Restored.{Restored}
use Rattle.wh_resume.specs.Behind.{IsFrontOf, IsPrefaceOf, IsFlawed}
use Rattle.wh_resume.specs.Resuming.{IsFront}
use Rattle.wh_resume.specs.declared.looking.Begun.{Begun}
use Rattle.wh_resume.specs.declared.looking.Looked.{Looked}
use Rattle.wh_resume.specs.declared.looking.Looked.TheVariants as looked

-- these bytes are a front of those that are held, where these are told; and all of them, or at least so many
pub record HoldsAtLeast (held : Option (List ℕ)) (least : ℕ) (read : List ℕ) : Type 0 where
  pub front : IfSome held (IsFront read)
  pub all : length read < least → IfSome held (λ bytes. read ≡ bytes)

-- how many lines of a front stand before those of its agents: one more where it tells that paths go on home
abbrev pub lines_to_agents : Bool → ℕ
lines_to_agents false = 5
lines_to_agents true = 6

-- the first of these that are fewer than 2 or more than 64
pub record IsFirstOdd (slots : List ℕ) (agent : ℕ) : Type 0 where
  pub known : agent < length slots
  pub odd : IsSlots (slice_index_or slots agent 0) → ⊥
  pub earlier : (other : ℕ) → other < agent → IsSlots (slice_index_or slots other 0)

-- what was restored from a text, made ready to go on
pub record IsOfFront (homes : Bool) (text : List ℕ) (restored : Restored) (begun : Begun) : Type 0 where
  pub parts : begun.parts ≡ restored.state
  pub head : begun.preface.head ≡ restored.head
  pub callers : begun.preface.callers ≡ restored.callers
  pub lines : begun.preface.lines ≡ lines_to_agents homes + length restored.state.paths.items + length restored.state.tasks.items + 2
  pub front : begun.front + length restored.rest.now ≡ length text
  pub copied : begun.preface.text.items ≡ take begun.front text
  pub log : begun.log.items ≡ first_two_lines restored.state.clock restored.state.slots.items ++ restored.rest.now
  pub two : begun.head ≡ length (first_two_lines restored.state.clock restored.state.slots.items)

-- What is found of a state that was restored: the first planner whose slots are out of range, at the line of its agent; else what is made
-- ready to go on.
abbrev pub LooksAt : (homes : Bool) → (text : List ℕ) → Restored → Looked → Type 0
LooksAt homes text restored (looked.Begun begun) = All IsSlots restored.state.slots.items × IsOfFront homes text restored begun
LooksAt homes text restored (looked.Flawed line reason) =
    (reason ≡ reasons.Form) × ((agent : ℕ) × IsFirstOdd restored.state.slots.items agent × (line ≡ lines_to_agents homes + agent + 1))

-- The text begins with a front of a sound state, and all that is told of it is so.
pub record IsBegun (site : Site) (text : List ℕ) (begun : Begun) : Type 0 where
  pub front : Front
  pub is_front : IsFrontOf site front
  pub slots : All IsSlots (map (λ (seat : Seat). seat.slots) front.seats)
  pub rest : List ℕ
  pub text_is : text ≡ front_text front ++ rest
  pub room : length text < 2 ^ 63
  pub state : state_in begun.parts ≡ state_told front
  pub preface : IsPrefaceOf front begun.preface
  pub bytes : begun.front ≡ length (front_text front)
  pub log : begun.log.items ≡ first_two_lines front.clock (map (λ (seat : Seat). seat.slots) front.seats) ++ rest
  pub two : begun.head ≡ length (first_two_lines front.clock (map (λ (seat : Seat). seat.slots) front.seats))

-- what is found is so
abbrev pub Looks : Site → List ℕ → Looked → Type 0
Looks site text (looked.Begun begun) = IsBegun site text begun
Looks site text (looked.Flawed line reason) = IsFlawed site text line reason

-- the judge stands at the state of a front, with which some text begins, and was told nothing
pub record IsReady (keeper : Kept) (begun : Begun) : Type 0 where
  pub text : List ℕ
  pub is : IsBegun keeper.judge.site text begun
  pub layout : IsLayout keeper.judge.site.grid keeper.judge.site.layout
  pub state : keeper.judge.state ≡ state_in begun.parts
  pub given : keeper.is_given ≡ true
  pub content : keeper.content ≡ record { clock = begun.parts.clock; slots = begun.parts.slots.items; entries = [] }
