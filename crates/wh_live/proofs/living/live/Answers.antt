use Rattle.std.proofs.Common.{refl, subst, sym}
use Rattle.std.proofs.KnownBytes.{Keeps-refl}
use Rattle.wh_grid.specs.Grids.{Floor}
use Rattle.wh_points.specs.Points.{Site}
use Rattle.wh_crew.specs.Fleet.{AllFit}
use Rattle.wh_service.proofs.Playing.{members_fit}
use Rattle.wh_live.proofs.Hosted.{at_clients, at_run, at_team, few_works, hosts, lives_as, reads_all, team_at, unwritten, written}
use Rattle.wh_live.proofs.living.live.Goals as goal

pub returns-in-Err-read_clients-clause-fault : goal.returns-in-Err-read_clients-clause-fault
returns-in-Err-read_clients-clause-fault g c =
    at_clients _ _ _ c.args.options.now _ _ _ _ c.in-Ok.setting _ _ _ c.agents-agents.ensures.value c.in-Ok.ensures.ok c.in-Err-read_clients.ensures.fault (Keeps-refl _)

pub returns-in-Err-make_team-clause-fault : goal.returns-in-Err-make_team-clause-fault
returns-in-Err-make_team-clause-fault g c =
    at_team _ _ _ c.args.options.now _ _ _ _ _ _ _
    (reads_all _ _ _ _ c.in-Ok.setting _ _ c.agents-agents.ensures.value c.in-Ok.ensures.ok c.in-Ok-read_clients.ensures.ok)
    c.in-Err-make_team.ensures.fault (Keeps-refl _)

pub run_crew-requires-clause-fit : goal.run_crew-requires-clause-fit
run_crew-requires-clause-fit g c κs within =
    let team = c.in-Ok-make_team.ensures.ok in
    let fit = members_fit _ _ _ c.args.options.now.fleet _ team.bank _ c.requires.makes c.requires.range team.planners_are.members in
    subst (λ (f : Floor). AllFit g.P.Plans.fits_map f c.in-Ok-make_team.team.planners.items) c.shared_grid-grid.ensures fit

pub run_crew-requires-clause-few : goal.run_crew-requires-clause-few
run_crew-requires-clause-few g c κs within = few_works _ c.args.options.now _ _ _ _ _ _ _ c.in-Ok-make_team.ensures.ok c.in-Ok-read_clients.ensures.ok

pub returns-clause-fault : goal.returns-clause-fault
returns-clause-fault g c =
    let seats = c.agents-agents.ensures.value in
    let reads = reads_all _ _ _ _ c.in-Ok.setting _ _ seats c.in-Ok.ensures.ok c.in-Ok-read_clients.ensures.ok in
    let team = team_at _ c.args.options.now _ _ _ _ _ _ _ c.shared_grid-grid.ensures seats c.in-Ok-make_team.ensures.ok in
    at_run _ _ _ c.args.options.now _ _ _ c.in-Ok.setting _ _ _ _ _ reads team c.in-Err-run_crew.ensures.fault (Keeps-refl _)

-- what the run came to, as the text that is written tells it
pub returns-in-Ok-run_crew-clause-ok : goal.returns-in-Ok-run_crew-clause-ok
returns-in-Ok-run_crew-clause-ok g c =
    let site : Site = c.in-Ok.setting in
    let seats = c.agents-agents.ensures.value in
    let reads = reads_all _ _ _ _ site _ _ seats c.in-Ok.ensures.ok c.in-Ok-read_clients.ensures.ok in
    let team = team_at _ c.args.options.now _ _ _ _ _ _ _ c.shared_grid-grid.ensures seats c.in-Ok-make_team.ensures.ok in
    let made = c.in-Ok-make_team.team in
    let lives = lives_as g.P.Plans.fits_map g.P.Plans.slot_count site made.planners.items made.works.items c.args.options.now.journal _ _ (sym c.as_slice.ensures.value) c.in-Ok-run_crew.ensures.ok in
    let hosted = hosts _ _ _ c.args.options.now site _ made.planners.items made.works.items _ _ c.as_slice.result.now reads c.requires.makes c.requires.range team lives in
    written _ _ _ c.args.options.now _ _ _ _ _ hosted c.write_text.result c.write_text.ensures.ok

pub returns-in-Ok-run_crew-clause-fault : goal.returns-in-Ok-run_crew-clause-fault
returns-in-Ok-run_crew-clause-fault g c =
    let site : Site = c.in-Ok.setting in
    let seats = c.agents-agents.ensures.value in
    let reads = reads_all _ _ _ _ site _ _ seats c.in-Ok.ensures.ok c.in-Ok-read_clients.ensures.ok in
    let team = team_at _ c.args.options.now _ _ _ _ _ _ _ c.shared_grid-grid.ensures seats c.in-Ok-make_team.ensures.ok in
    let made = c.in-Ok-make_team.team in
    let lives = lives_as g.P.Plans.fits_map g.P.Plans.slot_count site made.planners.items made.works.items c.args.options.now.journal _ _ (sym c.as_slice.ensures.value) c.in-Ok-run_crew.ensures.ok in
    let hosted = hosts _ _ _ c.args.options.now site _ made.planners.items made.works.items _ _ c.as_slice.result.now reads c.requires.makes c.requires.range team lives in
    unwritten _ _ _ c.args.options.now _ _ _ _ _ hosted c.write_text.result c.write_text.ensures.fault c.write_text.ensures.front
