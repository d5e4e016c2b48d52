-- What a run of `live` came to.
use Rattle.std.proofs.Common.{◌≡◌, ◌+◌, ◌≤◌, ℕ, Bool, List, [], ◌∷◌, ◌++◌, length, map, replicate, refl, sym, ap, ◌∙◌, subst, arith, inl, inr, All, Option, Result, Ok, Err, IfErr}
use Prim.Native.Nat.{zero, suc}
use Rattle.std.specs.Prelude.{OnErr, OnOk}
use Rattle.std.specs.Io.KnownBytes.{Appends, Keeps}
use Rattle.std.proofs.lemmas.List.{length-append, length-map, length_push, map_push}
use Rattle.std.proofs.lemmas.List.Elements.{All-push, recursion_from_All}
use Rattle.wh_lines.specs.Input.{Input}
use Rattle.wh_grid.specs.Grids.{Floor}
use Rattle.wh_points.specs.Points.{Site}
use Rattle.wh_claims.specs.declared.bank.Bank.{Bank}
use Rattle.wh_event.specs.declared.event.Command.{Command}
use Rattle.wh_event.specs.declared.event.Command.TheVariants.{Tick, Token}
use Rattle.wh_edge.specs.Site.{SiteRuled}
use Rattle.wh_edge.specs.declared.work.Work.{Work}
use Rattle.wh_edge.specs.declared.trouble.Trouble.{Trouble}
use Rattle.wh_edge.specs.declared.trouble.Trouble.TheVariants as trouble
use Rattle.wh_options.specs.declared.chosen.Fleet.{Fleet}
use Rattle.wh_options.specs.declared.chosen.LiveOptions.{LiveOptions}
use Rattle.wh_live.specs.Clients.{ClientsRead, ClientsFault}
use Rattle.wh_live.specs.Works.{requests}
use Rattle.wh_live.specs.Lives.{Lives}
use Rattle.wh_crew.specs.Troubles.{IsWhyDead}
use Rattle.wh_replay.specs.Scripts.{WritesFront}
use Rattle.wh_service.specs.Fleets.{AreMembers, IsMember, IsOfFleet, IsWhyUnclaimed, MakesPlanners}
use Rattle.wh_live.specs.Hosts.{HaveSpares, IsTeam, ReadsAll, Hosts, HostsTo, IsWhyUnhosted}
use Rattle.wh_core.specs.States.{opened}
use Rattle.wh_core.proofs.Sound.{opening-reached}
use Rattle.wh_core.proofs.Ways.{none_is_refused_a_path}
use Rattle.wh_live.proofs.Logged.{logged}
use Rattle.wh_service.proofs.Openings.{opening_read}
use Rattle.wh_service.proofs.Playing.{Gives, slots_each, tied_slots}

-- the commands of one more client
pub commands_added : {X : Type 0} (works added clients : List (Work X)) (work client : Work X) → added ≡ works ++ work ∷ []
    → map (λ w. w.commands.items) works ≡ map (λ w. w.commands.items) clients → work.commands.items ≡ client.commands.items
    → map (λ w. w.commands.items) added ≡ map (λ w. w.commands.items) (clients ++ client ∷ [])
commands_added {X} works added clients work client pushed same one =
    let commands : Work X → List Command = λ w. w.commands.items in
    ap (map commands) pushed ∙ map_push commands works work ∙ ap (λ l. l ++ commands work ∷ []) same
    ∙ ap (λ s. map commands clients ++ s ∷ []) one ∙ sym (map_push commands clients client)

-- one more client has its spares
pub spares_added : {X : Type 0} {gives : Gives X} {fleet : Fleet} {grid : Floor} {bank : Bank} (works added : List (Work X)) (work : Work X) → added ≡ works ++ work ∷ []
    → HaveSpares gives fleet grid bank works → length work.spares.items ≡ fleet.spares → All (IsMember gives fleet grid bank) work.spares.items
    → HaveSpares gives fleet grid bank added
spares_added {X} {gives} {fleet} {grid} {bank} works added work pushed all many each =
    let has : Work X → Type 0 = λ w. AreMembers gives fleet grid bank fleet.spares w.spares.items in
    subst (λ (l : List (Work X)). All has l) (sym pushed) (All-push has works work all (record { many_is = many; members = each }))

asked_each : (turns agents : ℕ) → length (requests turns agents) ≡ agents
asked_each turns zero = refl
asked_each turns (suc n) = omega (arith, length_push (requests turns n) (replicate turns (Token n)), asked_each turns n)

-- a team has as many workers as there are clients, agents and clocks
pub few_works : {X : Type 0} (gives : Gives X) (options : LiveOptions) (grid : Floor) (agents : ℕ) (between new : Input) (scripts : List (List Command)) (planners : List X) (works : List (Work X))
    → IsTeam gives options grid agents scripts planners works → ClientsRead agents between new scripts → length works ≤ 64
few_works {X} gives options grid agents between new scripts planners works team read =
    let commands : Work X → List Command = λ w. w.commands.items in
    let joined = team.works_are in
    let clients : length team.clients ≡ length scripts = sym (length-map team.clients commands) ∙ ap length team.scripts_are in
    let size : length works ≡ length team.clients + length joined.others = ap length joined.works_are ∙ length-append team.clients joined.others in
    let others = sym (length-map joined.others commands) ∙ ap length joined.commands_are ∙ length_push (requests options.turns agents) (replicate options.turns Tick) in
    omega (arith, size, others, asked_each options.turns agents, clients, read.few)

-- what a team's run came to: each planner has the fleet's slots
pub hosts : {X : Type 0} (fits : X → Floor → Bool) (count : X → ℕ) (gives : Gives X) (options : LiveOptions) (site : Site) (scripts : List (List Command)) (planners : List X) (works : List (Work X)) (old new : Input) (text : List ℕ)
    → ReadsAll options.fleet.homes old new site scripts → MakesPlanners fits count gives → IsOfFleet options.fleet → IsTeam gives options site.grid (length site.layout.agents) scripts planners works
    → Lives fits count site planners works options.journal text → Hosts fits count gives options old new text
hosts fits count gives options site scripts planners works old new text reads makes range team lives =
    let each = recursion_from_All (IsMember gives options.fleet site.grid team.bank) planners team.planners_are.members in
    let slots_are =
    tied_slots count planners lives.slots lives.tied.seats lives.tied.counts
    ∙ slots_each fits count gives options.fleet site.grid team.bank planners (length site.layout.agents) makes range team.planners_are.many_is each in
    let few = few_works gives options site.grid (length site.layout.agents) reads.between new scripts planners works team reads.clients_read in
    let begins = opening_read old reads.between site lives.slots reads.site_read.read (sym lives.tied.seats ∙ team.planners_are.many_is) in
    record {
      site = site;
      scripts = scripts;
      reads = reads;
      planners = planners;
      works = works;
      team = team;
      lives = lives;
      is_opening = begins;
      served = λ formed. none_is_refused_a_path site lives.history lives.state formed (opening-reached site (opened site.layout 0 lives.slots) lives.history lives.state begins lives.worked.run);
      slots = slots_are;
      is_log = logged fits count gives options site scripts planners works old new text reads makes range team few lives slots_are;
    }

-- a site and its clients, in other words
pub reads_all : (homes : Bool) (old between new : Input) (site : Site) (agents : ℕ) (scripts : List (List Command)) → agents ≡ length site.layout.agents
    → SiteRuled homes old between site → ClientsRead agents between new scripts → ReadsAll homes old new site scripts
reads_all homes old between new site agents scripts seats at read = record {
  between = between;
  site_read = at;
  clients_read = subst (λ (n : ℕ). ClientsRead n between new scripts) seats read;
}

-- the same of so many agents on a grid in other words
pub team_at : {X : Type 0} (gives : Gives X) (options : LiveOptions) (grid at : Floor) (agents seats : ℕ) (scripts : List (List Command)) (planners : List X) (works : List (Work X))
    → grid ≡ at → agents ≡ seats → IsTeam gives options grid agents scripts planners works → IsTeam gives options at seats scripts planners works
team_at gives options grid at agents seats scripts planners works lies same team =
    subst (λ (f : Floor). IsTeam gives options f seats scripts planners works) lies (subst (λ (n : ℕ). IsTeam gives options grid n scripts planners works) same team)

-- the same of the text in other words
pub lives_as : {X : Type 0} (fits : X → Floor → Bool) (count : X → ℕ) (site : Site) (planners : List X) (works : List (Work X)) (journal : ℕ) (text written : List ℕ)
    → text ≡ written → Lives fits count site planners works journal text → Lives fits count site planners works journal written
lives_as fits count site planners works journal text written is lives = subst (λ (t : List ℕ). Lives fits count site planners works journal t) is lives

-- ---- why there is no log

pub at_clients : {X : Type 0} (fits : X → Floor → Bool) (count : X → ℕ) (gives : Gives X) (options : LiveOptions) (told : Trouble) (old between new : Input) (site : Site) (agents : ℕ) (had has : Option (List ℕ))
    → agents ≡ length site.layout.agents → SiteRuled options.fleet.homes old between site → ClientsFault told agents between new → Keeps had has
    → IsWhyUnhosted fits count gives options told old new had has
at_clients fits count gives options told old between new site agents had has same at fault kept =
    let read = subst (λ (n : ℕ). ClientsFault told n between new) same fault in
    inr (inl (record { between = between; site = site; site_read = at; fault = read }, kept))

pub at_team : {X : Type 0} (fits : X → Floor → Bool) (count : X → ℕ) (gives : Gives X) (options : LiveOptions) (told : Trouble) (old new : Input) (site : Site) (scripts : List (List Command)) (had has : Option (List ℕ))
    → ReadsAll options.fleet.homes old new site scripts → IsWhyUnclaimed options.fleet.slots told → Keeps had has → IsWhyUnhosted fits count gives options told old new had has
at_team fits count gives options told old new site scripts had has reads why kept =
    inr (inr (inl (record { site = site; scripts = scripts; reads = reads; why = why }, kept)))

pub at_run : {X : Type 0} (fits : X → Floor → Bool) (count : X → ℕ) (gives : Gives X) (options : LiveOptions) (told : Trouble) (old new : Input) (site : Site) (scripts : List (List Command)) (planners : List X) (works : List (Work X)) (had has : Option (List ℕ))
    → ReadsAll options.fleet.homes old new site scripts → IsTeam gives options site.grid (length site.layout.agents) scripts planners works → IsWhyDead told → Keeps had has
    → IsWhyUnhosted fits count gives options told old new had has
at_run fits count gives options told old new site scripts planners works had has reads team why kept =
    inr (inr (inr (inl (record { site = site; scripts = scripts; reads = reads; planners = planners; works = works; team = team; why = why }, kept))))

-- ---- the text

module _ {X : Type 0} (fits : X → Floor → Bool) (count : X → ℕ) (gives : Gives X) (options : LiveOptions) (old new : Input) (text : List ℕ) (had has : Option (List ℕ)) (hosted : Hosts fits count gives options old new text) where
  pub written : (came : Result Unit Trouble) → OnOk came (Appends had has text) → OnOk came (HostsTo fits count gives options old new had has)
  written (Ok done) all = record { text = text; hosts = hosted; appends = all }
  written (Err told) all = tt

  -- a front of it was written, and that is told
  pub unwritten : (came : Result Unit Trouble) → IfErr came (λ told. told ≡ trouble.Unwritten) → OnErr came (WritesFront had has text) → IfErr came (λ told. IsWhyUnhosted fits count gives options told old new had has)
  unwritten (Ok done) is front = tt
  unwritten (Err told) is front = inr (inr (inr (inr (record { told_is = is; text = text; hosts = hosted; front = front }))))
