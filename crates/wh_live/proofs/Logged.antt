-- What a run of `live` writes is a log.
use Rattle.std.proofs.Common.{◌≡◌, ◌<◌, ◌≤◌, ◌^◌, ◌∙◌, ℕ, Bool, List, length, replicate, sym, ap, subst, arith}
use Rattle.std.specs.List.{AllByRecursion}
use Rattle.std.proofs.lemmas.List.{length-replicate}
use Rattle.wh_lines.specs.Input.{Input}
use Rattle.wh_grid.specs.Grids.{Floor}
use Rattle.wh_points.specs.Points.{Site}
use Rattle.wh_event.specs.declared.event.Command.{Command}
use Rattle.wh_log.specs.Logs.{Content, IsLogText, IsSlots}
use Rattle.wh_log.specs.declared.version.Version.TheVariants.{Two}
use Rattle.wh_judge.proofs.Histories.{runs_are_logs}
use Rattle.wh_edge.specs.declared.work.Work.{Work}
use Rattle.wh_options.specs.declared.chosen.LiveOptions.{LiveOptions}
use Rattle.wh_live.specs.Lives.{Lives}
use Rattle.wh_live.specs.Pasts.{Origin}
use Rattle.wh_core.specs.States.{opened}
use Rattle.wh_service.specs.Fleets.{IsOfFleet, MakesPlanners}
use Rattle.wh_live.specs.Hosts.{IsTeam, ReadsAll}
use Rattle.wh_live.proofs.Asked.{crew_keeps, worker_keeps}
use Rattle.wh_service.proofs.InRange.{in_range}
use Rattle.wh_service.proofs.Openings.{run_of, slots_keep}
use Rattle.wh_service.proofs.Playing.{Gives}
use Rattle.wh_live.proofs.Teams.{team_keeps}

-- the text of a team's run is a log
pub logged : {X : Type 0} (fits : X → Floor → Bool) (count : X → ℕ) (gives : Gives X) (options : LiveOptions) (site : Site) (scripts : List (List Command)) (planners : List X) (works : List (Work X)) (old new : Input) (text : List ℕ)
    → ReadsAll options.fleet.homes old new site scripts → MakesPlanners fits count gives → IsOfFleet options.fleet → IsTeam gives options site.grid (length site.layout.agents) scripts planners works
    → length works ≤ 64 → (lives : Lives fits count site planners works options.journal text) → lives.slots ≡ replicate (length site.layout.agents) options.fleet.slots
    → options.journal < 10 ^ 9 → IsLogText (record { clock = 0; slots = lives.slots; entries = lives.history }) text
logged {X} fits count gives options site scripts planners works old new text reads makes range team few lives slots_are short =
    let content : Content = record { clock = 0; slots = lives.slots; entries = lives.history } in
    let worked = lives.worked in
    let origin : Origin = record { site = site; opening = opened site.layout 0 lives.slots } in
    let at = in_range old reads.between site reads.site_read.read in
    let seats : length lives.slots ≡ length site.layout.agents = ap length slots_are ∙ length-replicate (length site.layout.agents) options.fleet.slots in
    let told = run_of old reads.between site lives.slots lives.history reads.site_read.read seats lives.state worked.run in
    let slots = subst (AllByRecursion IsSlots) (sym slots_are) (slots_keep (length site.layout.agents) options.fleet.slots range.0 range.1) in
    let keep = team_keeps fits count gives options site.grid (length site.layout.agents) reads.between new scripts planners works at.few makes range reads.clients_read.in_turn team in
    let asked =
    crew_keeps fits count origin works (length works) options.journal lives.history lives.state few worked
    (worker_keeps fits count origin works (length works) options.journal lives.history lives.state (omega arith) keep worked) in
    let within = worked.within in
    record {
      version = Two;
      fits = runs_are_logs site content at told slots asked (omega arith);
      text_is = lives.text_is;
    }
