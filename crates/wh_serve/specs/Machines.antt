-- a client as a machine of the one loop
use Rattle.std.specs.Prelude.{◌≡◌, ◌≤◌, ◌+◌, ◌-◌, ◌^◌, ℕ, Bool, true, false, List, [], length, Option}
use Rattle.wh_grid.specs.Grids.{Floor}
use Rattle.wh_event.specs.declared.entry.Entry.{Entry}
use Rattle.wh_log.specs.declared.form.Form.{Form}
use Rattle.wh_desk.specs.Lists.{Received}
use Rattle.wh_desk.specs.Pasts.{Origin}
use Rattle.wh_replay.specs.Answers.{text_of}
use Rattle.wh_session.specs.declared.machine.Halt.{Halt}
use Rattle.wh_session.specs.declared.machine.Halt.TheVariants as halt
use Rattle.wh_serve.specs.Texts.{InEach, receipt_text}
use Rattle.wh_serve.specs.Beginnings.{is_begin}
use Rattle.wh_serve.specs.Sayings.{asked, said}
use Rattle.wh_serve.specs.Outcomes.{Gives, answers}
use Rattle.wh_serve.specs.Losses.{Loses}
use Rattle.wh_serve.specs.declared.allowance.Allowance.{Allowance}
use Rattle.wh_serve.specs.declared.call.Lost.{Lost}
use Rattle.wh_serve.specs.declared.doors.Tag.{Tag}

-- A client as it stands: the names of the references to its pass and its spares, these, what it may do, the form of its replies, the
-- tag of the connection and whether it has begun, and how many replies it was told.
pub record Standing (X : Type 0) : Type 0 where
  pub seat : ℕ
  pub room : ℕ
  pub pass : Received
  pub spares : List X
  pub may : Allowance
  pub form : Form
  pub tag : Tag
  pub begun : Bool
  pub replies : ℕ

abbrev pub standing : {X : Type 0} → (seat room : ℕ) → Received → List X → Allowance → Form → Tag → Bool → ℕ → Standing X
standing seat room pass spares may form tag begun replies = record { seat = seat; room = room; pass = pass; spares = spares; may = may; form = form; tag = tag; begun = begun; replies = replies }

-- it is the same client, with the same pass and spares, whatever these have
pub record IsSameClient {X : Type 0} (old new : Standing X) : Type 0 where
  pub seat_is : new.seat ≡ old.seat
  pub room_is : new.room ≡ old.room
  pub may_is : new.may ≡ old.may
  pub form_is : new.form ≡ old.form
  pub tag_is : new.tag ≡ old.tag

-- One line was served, as this history has it: its replies, one or none, are told, and count.
pub record ServesBy {X : Type 0} (cells : ℕ) (fits : X → Floor → Bool) (count : X → ℕ) (origin : Origin) (history : List Entry) (line : Option (List ℕ)) (told : List ℕ) (old new : Standing X) : Type 0 where
  pub replies : List (List ℕ)
  pub gives : Gives old.may cells fits count origin.site.grid (asked (said line)) (answers old.may.rights (receipt_text old.form origin history) (said line)) old.pass old.spares new.pass new.spares replies
  pub told_is : told ≡ text_of replies
  pub few : length replies ≤ 1
  pub counted : old.replies + length replies ≤ 2 ^ 64 - 1 → new.replies ≡ old.replies + length replies
  pub still : new.begun ≡ true
  pub same : IsSameClient old new

-- A line came before the connection had begun. It is answered nothing and has no effect, but that the connection begins where it is
-- `begin TAG`.
pub record HeardAt {X : Type 0} (line : Option (List ℕ)) (told : List ℕ) (old new : Standing X) : Type 0 where
  pub told_is : told ≡ []
  pub new_is : new ≡ standing old.seat old.room old.pass old.spares old.may old.form old.tag (is_begin old.tag line) old.replies

-- a line of a connection that has begun is served, and one that comes before is not
abbrev pub Hears : {X : Type 0} → Bool → ℕ → (X → Floor → Bool) → (X → ℕ) → Origin → List Entry → Option (List ℕ) → List ℕ → Standing X → Standing X → Type 0
Hears true cells fits count origin history line told old new = ServesBy cells fits count origin history line told old new
Hears false cells fits count origin history line told old new = HeardAt line told old new

-- the journal has failed at a line, as this history has it, and the line is answered nothing
pub record LosesBy {X : Type 0} (cells : ℕ) (fits : X → Floor → Bool) (count : X → ℕ) (origin : Origin) (history : List Entry) (line : Option (List ℕ)) (old new : Standing X) : Type 0 where
  pub why : Lost
  pub begun : old.begun ≡ true
  pub loses : Loses old.may cells fits count origin.site.grid (receipt_text old.form origin history) (said line) old.pass old.spares new.pass new.spares why
  pub same : IsSameClient old new

-- by each history that goes on from what the pass knows behind the line
abbrev pub ServesSo : {X : Type 0} → ℕ → (X → Floor → Bool) → (X → ℕ) → Origin → Option (List ℕ) → List ℕ → Standing X → Standing X → Type 0
ServesSo cells fits count origin line told old new = InEach new.pass.known (λ history. Hears old.begun cells fits count origin history line told old new)

-- A line was begun and not answered: the journal has failed. Memory ends no client.
abbrev pub HaltsSo : {X : Type 0} → ℕ → (X → Floor → Bool) → (X → ℕ) → Origin → Option (List ℕ) → Halt → Standing X → Standing X → Type 0
HaltsSo cells fits count origin line halt.NoMemory old new = ⊥
HaltsSo cells fits count origin line halt.Failed old new = InEach new.pass.known (λ history. LosesBy cells fits count origin history line old new)
