-- The clients of a run of `serve`, and the planners that it is given.
use Rattle.std.specs.Prelude.{◌≡◌, ◌≢◌, ◌⊎◌, ◌<◌, ◌≤◌, ◌+◌, ◌/◌, ◌==◌, ℕ, false, cond, max, List, [], ◌∷◌, length, All, Contains, Option, None, Some, Result}
use Rattle.std.specs.declared.alloc.AllocError.{AllocError}
use Rattle.wh_grid.specs.Grids.{Floor}
use Rattle.wh_event.specs.declared.entry.Entry.{Entry}
use Rattle.wh_claims.specs.Bank.{bank_total}
use Rattle.wh_claims.specs.declared.bank.Bank.{Bank}
use Rattle.wh_client.specs.declared.client.ClientOptions.{ClientOptions}
use Rattle.wh_client.specs.declared.client.ClientRights.{ClientRights}
use Rattle.wh_options.specs.declared.chosen.ServeOptions.{ServeOptions}
use Rattle.wh_desk.specs.Lists.{AllAt, entries_of}
use Rattle.wh_front.specs.declared.front.Count.{Count}
use Rattle.wh_resume.specs.declared.recovery.Preface.{Preface}
use Rattle.wh_serve.specs.declared.allowance.Rights.{Rights}
use Rattle.wh_serve.specs.declared.threads.Client.{Client}
use Rattle.wh_service.specs.Fleets.{AreSeated}
use Rattle.wh_service.specs.Fleets.{AreMembers}
use Rattle.wh_service.specs.declared.parts.PlannerParts.{PlannerParts}

-- the rights that a client's word gave it, and none
abbrev pub rights_of : ClientRights → Rights
rights_of r = record { submit = r.submit; token = r.token; tick = r.tick; replace = r.replace; close = r.close; stop = r.stop }

abbrev pub no_rights : Rights
no_rights = record { submit = false; token = false; tick = false; replace = false; close = false; stop = false }

-- among how many the entries of the journal are shared: the named clients, and the worker for agents and clock, if there is one
abbrev pub sharers : (every : Option ℕ) → (named : ℕ) → ℕ
sharers None named = named
sharers (Some every) named = named + 1

-- how many more entries each named client may have: the number given; else an equal part of the journal's, and
-- each has one at least
abbrev pub share_of : (share : Option ℕ) → (journal among : ℕ) → ℕ
share_of None journal among = max (journal / among) 1
share_of (Some share) journal among = share

-- the number of the worker for agents and clock, the last one
abbrev pub worker_number : ℕ
worker_number = 63

-- The number of clients is right: up to 64, and beside a worker one for each number below its own.
abbrev pub HaveRoom : (every : Option ℕ) → (many : ℕ) → Type 0
HaveRoom None many = many ≤ 64
HaveRoom (Some every) many = many ≡ worker_number

-- how many numbers these have, from 0 on: beside a worker its own is one of them
abbrev pub numbers_of : (every : Option ℕ) → (many : ℕ) → ℕ
numbers_of None many = many
numbers_of (Some every) many = many + 1

-- the clients that were named number 0 to 61, one at least
pub record AreNamed (clients : List ClientOptions) : Type 0 where
  pub some : 1 ≤ length clients
  pub each : All (λ named. named.number < 62) clients

-- how many entries a caller had in the logs before, by what the front of this one tells, if it has one
abbrev pub counts_before : Option Preface → List Count
counts_before None = []
counts_before (Some preface) = preface.head.counts

abbrev pub entries_told : List Count → (caller : ℕ) → ℕ
entries_told [] caller = 0
entries_told (count ∷ counts) caller = cond (count.caller == caller) count.entries (entries_told counts caller)

-- this one was named by this number
pub record IsNamed (clients : List ClientOptions) (number : ℕ) (named : ClientOptions) : Type 0 where
  pub there : Contains clients named
  pub number_is : named.number ≡ number

-- A client with a given number of entries in the log before the run, and so many in the logs before, whose word gave it these rights: it may have
-- its share of entries beside those of this log, and as many planners stand by for it as the options name.
pub record IsGuest {X : Type 0} (gives : PlannerParts → Result X AllocError → Type 0) (options : ServeOptions) (grid : Floor) (bank : Bank) (had before : ℕ) (rights : ClientRights) (client : Client X) : Type 0 where
  pub rights_are : client.allowance.rights ≡ rights_of rights
  pub before_is : client.allowance.before ≡ before
  pub share_is : client.allowance.entries ≡ had + share_of options.share options.journal (sharers options.every (length options.clients.items))
  pub spares_are : AreMembers gives options.fleet grid bank options.fleet.spares client.spares.items

-- A client that nobody named: it may do nothing.
pub record IsNobody {X : Type 0} (client : Client X) : Type 0 where
  pub rights_are : client.allowance.rights ≡ no_rights
  pub share_is : client.allowance.entries ≡ 0
  pub spares_are : client.spares.items ≡ []

-- the client of this number, which was named, or which nobody named
abbrev pub IsClient : {X : Type 0} → (PlannerParts → Result X AllocError → Type 0) → ServeOptions → Floor → Bank → (earlier : List Entry) → List Count → (number : ℕ) → Client X → Type 0
IsClient gives options grid bank earlier counts number client =
    ((named : ClientOptions) × IsNamed options.clients.items number named × IsGuest gives options grid bank (length (entries_of earlier number)) (entries_told counts number) named.rights client)
    ⊎ (All (λ named. named.number ≢ number) options.clients.items × IsNobody client)

-- A client for each number from 0 on: for all that were named, and for all that have entries, except for the worker, if there is one.
pub record AreClients {X : Type 0} (gives : PlannerParts → Result X AllocError → Type 0) (options : ServeOptions) (grid : Floor) (bank : Bank) (earlier : List Entry) (counts : List Count) (clients : List (Client X)) : Type 0 where
  pub few : HaveRoom options.every (length clients)
  pub named : All (λ named. named.number < length clients) options.clients.items
  pub callers : All (λ entry. entry.caller < numbers_of options.every (length clients)) earlier
  pub each : AllAt (IsClient gives options grid bank earlier counts) clients

-- One planner for each agent, with the slots that its state tells, and the clients with those that stand by for them. All have their
-- claims on one bank, which has as many slots in all as the options name.
pub record IsStaffed {X : Type 0} (gives : PlannerParts → Result X AllocError → Type 0) (options : ServeOptions) (grid : Floor) (slots : List ℕ) (earlier : List Entry) (counts : List Count) (planners : List X) (clients : List (Client X)) : Type 0 where
  pub bank : Bank
  pub total : bank_total bank ≡ options.fleet.bank
  pub planners_are : AreSeated gives options.fleet grid bank slots planners
  pub clients_are : AreClients gives options grid bank earlier counts clients
