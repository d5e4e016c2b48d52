-- What a team asks is in the ranges of a log.
use Rattle.std.proofs.Common.{◌≡◌, ◌≤◌, ℕ, List, [], ◌∷◌, Bool, get_or, map, replicate, sym, subst, arith, All}
use Rattle.std.specs.List.{AllByRecursion}
use Rattle.std.proofs.lemmas.List.Elements.{All-nil, recursion_from_All}
use Rattle.wh_lines.specs.Input.{Input}
use Rattle.wh_grid.specs.Grids.{Floor}
use Rattle.wh_claims.specs.declared.bank.Bank.{Bank}
use Rattle.wh_event.specs.declared.event.Command.{Command}
use Rattle.wh_edge.specs.declared.work.Work.{Work}
use Rattle.wh_options.specs.declared.chosen.Fleet.{Fleet}
use Rattle.wh_options.specs.declared.chosen.LiveOptions.{LiveOptions}
use Rattle.wh_live.specs.Clients.{ReadInTurn}
use Rattle.wh_live.specs.Works.{requests}
use Rattle.wh_service.specs.Fleets.{IsOfFleet, MakesPlanners}
use Rattle.wh_live.specs.Hosts.{HaveSpares, IsTeam}
use Rattle.wh_service.proofs.Asked.{CommandKeeps, CountKeeps, keeps_append}
use Rattle.wh_live.proofs.Asked.{WorkKeeps, clients_keep, replicate_keeps, requests_keep}
use Rattle.wh_service.proofs.Playing.{Gives, member_tells}

works_keep : {X : Type 0} (count : X → ℕ) (works : List (Work X)) (scripts : List (List Command)) → map (λ work. work.commands.items) works ≡ scripts
    → AllByRecursion (AllByRecursion CommandKeeps) scripts → AllByRecursion (λ work. All (CountKeeps count) work.spares.items) works → AllByRecursion (WorkKeeps count) works
works_keep {X} count works scripts same asked few = go works (subst (AllByRecursion (AllByRecursion CommandKeeps)) (sym same) asked) few
  where
    go : (ws : List (Work X)) → AllByRecursion (AllByRecursion CommandKeeps) (map (λ work. work.commands.items) ws)
        → AllByRecursion (λ work. All (CountKeeps count) work.spares.items) ws → AllByRecursion (WorkKeeps count) ws
    go [] a b = tt
    go (w ∷ ws) a b = (record { commands = a.0; spares = b.0 }, go ws a.1 b.1)

no_spares : {X : Type 0} (count : X → ℕ) (works : List (Work X)) → AllByRecursion (λ work. work.spares.items ≡ []) works
    → AllByRecursion (λ work. All (CountKeeps count) work.spares.items) works
no_spares count [] none = tt
no_spares {X} count (w ∷ ws) none = (subst (λ (l : List X). All (CountKeeps count) l) (sym none.0) (All-nil (CountKeeps count)), no_spares count ws none.1)

member_spares : {X : Type 0} (fits : X → Floor → Bool) (count : X → ℕ) (gives : Gives X) (fleet : Fleet) (grid : Floor) (bank : Bank) (works : List (Work X))
    → MakesPlanners fits count gives → IsOfFleet fleet → HaveSpares gives fleet grid bank works → AllByRecursion (λ work. All (CountKeeps count) work.spares.items) works
member_spares {X} fits count gives fleet grid bank works makes range have = recursion_from_All (λ work. All (CountKeeps count) work.spares.items) works (λ k d less.
    let w = get_or works k d in
    let most = range.1 in
    λ j planner within.
    let slots = (member_tells fits count gives fleet grid bank _ makes range ((have k d less).members j planner within)).1 in omega arith)

-- the works of a team are in range
pub team_keeps : {X : Type 0} (fits : X → Floor → Bool) (count : X → ℕ) (gives : Gives X) (options : LiveOptions) (grid : Floor) (agents : ℕ)
    (old new : Input) (scripts : List (List Command)) (planners : List X) (works : List (Work X))
    → agents ≤ 256 → MakesPlanners fits count gives → IsOfFleet options.fleet → ReadInTurn old new scripts → IsTeam gives options grid agents scripts planners works
    → AllByRecursion (WorkKeeps count) works
team_keeps {X} fits count gives options grid agents old new scripts planners works few makes range turns team =
    let clients = works_keep count team.clients scripts team.scripts_are (clients_keep old new scripts turns) (member_spares fits count gives options.fleet grid team.bank team.clients makes range team.spares_are) in
    let joined = team.works_are in
    let asked = keeps_append (AllByRecursion CommandKeeps) (requests options.turns agents) (replicate options.turns Command.Tick ∷ []) (requests_keep options.turns agents few) (replicate_keeps options.turns Command.Tick tt, tt) in
    let others = works_keep count joined.others _ joined.commands_are asked (no_spares count joined.others (recursion_from_All (λ (work : Work X). work.spares.items ≡ []) joined.others joined.spares)) in
    subst (AllByRecursion (WorkKeeps count)) (sym joined.works_are) (keeps_append (WorkKeeps count) team.clients joined.others clients others)
