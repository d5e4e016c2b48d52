-- How a warehouse is opened with planners, and a script is played.
use Rattle.std.specs.Prelude.{◌≡◌, ◌≢◌, ◌⊎◌, ◌^◌, ◌-◌, ℕ, Bool, true, List, [], Option}
use Rattle.std.specs.Io.KnownBytes.{Appends, Keeps}
use Rattle.wh_lines.specs.Input.{Input}
use Rattle.wh_grid.specs.Grids.{Floor}
use Rattle.wh_points.specs.Points.{Site}
use Rattle.wh_core.specs.States.{opened}
use Rattle.wh_judge.specs.Drafts.{Seen}
use Rattle.wh_replay.specs.Fleet.{IsTied}
use Rattle.wh_edge.specs.declared.trouble.Trouble.{Trouble}
use Rattle.wh_edge.specs.declared.trouble.Trouble.TheVariants as trouble
use Rattle.wh_replay.specs.declared.asker.Asker.{Asker}
use Rattle.wh_log.specs.declared.form.Form.{Form}
use Rattle.wh_log.specs.declared.form.Form.TheVariants as form
use Rattle.wh_options.specs.declared.chosen.Replies.{Replies}
use Rattle.wh_options.specs.declared.chosen.Replies.TheVariants as replies
use Rattle.wh_options.specs.declared.chosen.Tail.{Tail}
use Rattle.wh_replay.specs.Scripts.{Replays, Stops}
use Rattle.wh_replay.specs.declared.script.ReplayFault.{ReplayFault}
use Rattle.wh_replay.specs.declared.script.ReplayFault.TheVariants as replay
use Rattle.wh_event.specs.declared.entry.Entry.{Entry}
use Rattle.wh_deliver.specs.Delivers.{DeliversShort, MayDeliver}
use Rattle.wh_deliver.specs.declared.delivering.DeliverFault.{DeliverFault}
use Rattle.wh_deliver.specs.declared.delivering.DeliverFault.TheVariants as delivery
use Rattle.wh_service.specs.Tails.{IsWhyNoTail, tail_after, told_open}

-- what is told of a script that was not served to its end
abbrev pub trouble_of : ReplayFault → Trouble
trouble_of replay.Broken = trouble.Broken
trouble_of replay.Endless = trouble.Endless
trouble_of replay.Unwritten = trouble.Unwritten

-- what is told of what was not delivered to its end behind a script
abbrev pub deliver_trouble : DeliverFault → Trouble
deliver_trouble delivery.NoMemory = trouble.NoMemory
deliver_trouble delivery.TooMany = trouble.NoMemory
deliver_trouble delivery.Unkept = trouble.Unkept
deliver_trouble delivery.Unwritten = trouble.Unwritten

-- the form in which replies are told
abbrev pub form_of : Replies → Form
form_of replies.Short = form.Short
form_of replies.Full = form.Full
form_of replies.Placed = form.Placed

-- the book of a warehouse that was opened at clock 0 with these planners, in the agents' order
pub record IsOpened {X : Type 0} (fits : X → Floor → Bool) (count : X → ℕ) (site : Site) (planners : List X) (book : Seen) : Type 0 where
  pub site_is : book.site ≡ site
  pub slots : List ℕ
  pub tied : IsTied fits count site.grid planners slots
  pub opening : book.opening ≡ opened site.layout 0 slots
  pub state : book.state ≡ book.opening
  pub history : book.history ≡ []

-- A warehouse was opened, and served the script to its end, and all was delivered behind it, where that was asked for. Asker, here and below, says
-- who asks, and deliver whether all was to be delivered.
pub record PlaysThrough {X : Type 0} (fits : X → Floor → Bool) (count : X → ℕ) (asker : Asker) (site : Site) (planners spares : List X) (deliver : Bool)
    (before after : Input) (had has : Option (List ℕ)) (final : Seen) (written : ℕ) : Type 0 where
  pub book : Seen
  pub opened : IsOpened fits count site planners book
  pub rest : List X
  pub served : Seen
  pub answered : Option (List ℕ)
  pub replays : Replays fits count asker before after book spares served rest had answered written
  pub added : List Entry
  pub delivers : MayDeliver deliver asker (2 ^ 64 - 1) served final added answered has

-- and what must follow the replies follows them; this is to be told of orders that are open
pub record Plays {X : Type 0} (fits : X → Floor → Bool) (count : X → ℕ) (asker : Asker) (site : Site) (planners spares : List X) (deliver : Bool) (tail : Tail)
    (before after : Input) (had has : Option (List ℕ)) (written : ℕ) (report : List ℕ) : Type 0 where
  pub final : Seen
  pub replied : Option (List ℕ)
  pub plays : PlaysThrough fits count asker site planners spares deliver before after had replied final written
  pub follows : Appends replied has (tail_after tail final.opening final.history final.state)
  pub open_is : report ≡ told_open deliver final.state

-- or it does not follow
pub record PlaysWithoutTail {X : Type 0} (fits : X → Floor → Bool) (count : X → ℕ) (asker : Asker) (site : Site) (planners spares : List X) (deliver : Bool) (tail : Tail)
    (told : Trouble) (before after : Input) (had has : Option (List ℕ)) : Type 0 where
  pub final : Seen
  pub replied : Option (List ℕ)
  pub written : ℕ
  pub plays : PlaysThrough fits count asker site planners spares deliver before after had replied final written
  pub why : IsWhyNoTail told replied has (tail_after tail final.opening final.history final.state)

-- a warehouse was opened, and served a beginning of the script
pub record PlaysUntil {X : Type 0} (fits : X → Floor → Bool) (count : X → ℕ) (asker : Asker) (site : Site) (planners spares : List X)
    (fault : ReplayFault) (before after : Input) (had has : Option (List ℕ)) : Type 0 where
  pub book : Seen
  pub opened : IsOpened fits count site planners book
  pub final : Seen
  pub rest : List X
  pub stops : Stops fits count asker fault before after book spares final rest had has

-- a warehouse was opened, and served the script to its end, and not all was delivered behind it
pub record PlaysUndelivered {X : Type 0} (fits : X → Floor → Bool) (count : X → ℕ) (asker : Asker) (site : Site) (planners spares : List X)
    (fault : DeliverFault) (before after : Input) (had has : Option (List ℕ)) : Type 0 where
  pub book : Seen
  pub opened : IsOpened fits count site planners book
  pub rest : List X
  pub served : Seen
  pub answered : Option (List ℕ)
  pub written : ℕ
  pub replays : Replays fits count asker before after book spares served rest had answered written
  pub final : Seen
  pub added : List Entry
  pub stops : DeliversShort fault asker (2 ^ 64 - 1) served final added answered has
  pub no_keeper : fault ≢ delivery.Unkept

-- Why a script was not played to its end: memory ran out to open the warehouse, or the reader or the writer failed, or not all was delivered
-- behind it, or what is to follow the replies does not.
abbrev pub IsWhyUnplayed : {X : Type 0} → (X → Floor → Bool) → (X → ℕ) → Asker → Site → List X → List X → (deliver : Bool) → Tail → Trouble → Input → Input → Option (List ℕ) → Option (List ℕ) → Type 0
IsWhyUnplayed fits count asker site planners spares deliver tail told before after had has =
    ((told ≡ trouble.NoMemory) × (after ≡ before) × Keeps had has)
    ⊎ ((fault : ReplayFault) × (told ≡ trouble_of fault) × PlaysUntil fits count asker site planners spares fault before after had has)
    ⊎ ((deliver ≡ true) × (fault : DeliverFault) × (told ≡ deliver_trouble fault) × PlaysUndelivered fits count asker site planners spares fault before after had has)
    ⊎ PlaysWithoutTail fits count asker site planners spares deliver tail told before after had has
