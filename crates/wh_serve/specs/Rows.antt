-- What a client is served over one connection, and over a row of them.
use Rattle.std.specs.Prelude.{◌≡◌, ◌⊎◌, ℕ, Bool, List, [], ◌∷◌, length, Option, Result, Ok, Err}
use Rattle.std.specs.Io.KnownBytes.{Appends}
use Rattle.wh_lines.specs.Input.{Input}
use Rattle.wh_grid.specs.Grids.{Floor}
use Rattle.wh_event.specs.declared.entry.Entry.{Entry}
use Rattle.wh_desk.specs.Lists.{Received}
use Rattle.wh_replay.specs.Answers.{text_of}
use Rattle.wh_replay.specs.Scripts.{WritesFront}
use Rattle.wh_replay.specs.declared.script.ReplayFault.TheVariants.{Unwritten}
use Rattle.wh_serve.specs.Texts.{entries_in_all, greeting_text}
use Rattle.wh_serve.specs.Sessions.{ServesAll, Stops}
use Rattle.wh_serve.specs.declared.allowance.Allowance.{Allowance}
use Rattle.wh_serve.specs.declared.doors.Tag.{Tag}
use Rattle.wh_serve.specs.declared.served.Served.{Served}
use Rattle.wh_serve.specs.declared.served.ServeFault.{ServeFault}
use Rattle.wh_serve.specs.declared.served.ServeFault.TheVariants.{Cut}
use Rattle.wh_serve.specs.declared.threads.Client.{Client}

-- the client was served until the connection ended, or until a fault
abbrev pub Fared : {X : Type 0} → Allowance → ℕ → (X → Floor → Bool) → (X → ℕ) → Floor → (ℕ × Entry → List ℕ) → Tag → Result Served ServeFault → Input → Input
    → Received → List X → Received → List X → Option (List ℕ) → Option (List ℕ) → Type 0
Fared may cells fits count grid text tag (Ok served) before after old spares new rest had has = ServesAll may cells fits count grid text tag before after old spares new rest had has served.replies served.end
Fared may cells fits count grid text tag (Err fault) before after old spares new rest had has = Stops may cells fits count grid text tag fault before after old spares new rest had has

-- The first line told how many entries the client has in all, and the tag, and then it was served from the reader's start. Remaining and contents are
-- the bytes that a reader and a writer tell.
pub record ServedOver {R W X : Type 0} (may : Allowance) (cells : ℕ) (fits : X → Floor → Bool) (count : X → ℕ) (grid : Floor) (text : ℕ × Entry → List ℕ) (remaining : R → Option (List ℕ)) (contents : W → Option (List ℕ))
    (reader : R) (writer : W) (tag : Tag) (outcome : Result Served ServeFault) (left : W) (had : Received) (spares : List X) (has : Received) (rest : List X) : Type 0 where
  pub told : Option (List ℕ)
  pub first_line : Appends (contents writer) told (text_of (greeting_text (entries_in_all may.before (length had.list)) tag ∷ []))
  pub before : Input
  pub nothing_yet : before.waiting ≡ []
  pub source_is : before.source ≡ remaining reader
  pub after : Input
  pub fared : Fared may cells fits count grid text tag outcome before after had spares has rest told (contents left)

-- the first line could not be written to its end, and the client was served nothing
pub record Unreached {W X : Type 0} (may : Allowance) (contents : W → Option (List ℕ)) (writer : W) (tag : Tag) (outcome : Result Served ServeFault) (left : W) (had : Received) (spares : List X) (has : Received) (rest : List X) : Type 0 where
  pub fault : outcome ≡ Err (Cut Unwritten)
  pub front : WritesFront (contents writer) (contents left) (text_of (greeting_text (entries_in_all may.before (length had.list)) tag ∷ []))
  pub same : has ≡ had
  pub same_spares : rest ≡ spares

-- One connection, with its reader, its writer and its tag as they were opened, how the client fared, and its writer as it was left: with
-- what the pass had and has, the spares before and after. What was written is told by what the pass gained.
abbrev pub Session : {R W X : Type 0} → Allowance → ℕ → (X → Floor → Bool) → (X → ℕ) → Floor → (ℕ × Entry → List ℕ) → (R → Option (List ℕ)) → (W → Option (List ℕ))
    → R → W → Tag → Result Served ServeFault → W → Received → List X → Received → List X → Type 0
Session may cells fits count grid text remaining contents reader writer tag outcome left had spares has rest =
    ServedOver may cells fits count grid text remaining contents reader writer tag outcome left had spares has rest
    ⊎ Unreached may contents writer tag outcome left had spares has rest

-- a connection that is over, and what the pass and the spares were then
pub record Visit (R W X : Type 0) : Type 0 where
  pub reader : R
  pub writer : W
  pub tag : Tag
  pub outcome : Result Served ServeFault
  pub left : W
  pub has : Received
  pub rest : List X

-- one connection after another: each begins with the pass and the spares that the one before left, the first with these, and the
-- last one leaves those
abbrev pub Row : {R W X : Type 0} → Allowance → ℕ → (X → Floor → Bool) → (X → ℕ) → Floor → (ℕ × Entry → List ℕ) → (R → Option (List ℕ)) → (W → Option (List ℕ))
    → Received → List X → List (Visit R W X) → Received → List X → Type 0
Row may cells fits count grid text remaining contents had spares [] has rest = (has ≡ had) × (rest ≡ spares)
Row may cells fits count grid text remaining contents had spares (visit ∷ visits) has rest =
    Session may cells fits count grid text remaining contents visit.reader visit.writer visit.tag visit.outcome visit.left had spares visit.has visit.rest
    × Row may cells fits count grid text remaining contents visit.has visit.rest visits has rest

-- a number of connections, one after another
pub record Visits {R W X : Type 0} (may : Allowance) (cells : ℕ) (fits : X → Floor → Bool) (count : X → ℕ) (grid : Floor) (text : ℕ × Entry → List ℕ) (remaining : R → Option (List ℕ)) (contents : W → Option (List ℕ))
    (had : Received) (spares : List X) (has : Received) (rest : List X) (connections : ℕ) : Type 0 where
  pub visits : List (Visit R W X)
  pub count_is : connections ≡ length visits
  pub row : Row may cells fits count grid text remaining contents had spares visits has rest

-- A client was served over this many connections, with a pass that had one list and has another.
pub record Attended {R W X : Type 0} (cells : ℕ) (fits : X → Floor → Bool) (count : X → ℕ) (grid : Floor) (text : ℕ × Entry → List ℕ) (remaining : R → Option (List ℕ)) (contents : W → Option (List ℕ))
    (client : Client X) (had has : Received) (connections : ℕ) : Type 0 where
  pub rest : List X
  pub visits : Visits client.allowance cells fits count grid text remaining contents had client.spares.items has rest connections
