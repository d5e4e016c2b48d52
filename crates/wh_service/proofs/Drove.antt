-- a script that is served with vehicles
use Rattle.std.proofs.Common.{◌≡◌, ◌≢◌, ℕ, ◌∙◌, Bool, true, List, [], ◌∷◌, ◌++◌, cond, length, Option, Result, IfOk, IfErr, inr, refl, sym, subst, ap, append_assoc}
use Rattle.std.specs.Prelude.{codes, decimal}
use Rattle.std.proofs.lemmas.Bool.{ne_eqb}
use Rattle.std.proofs.lemmas.Result.{IfOk-weaker, IfErr-weaker}
use Rattle.wh_points.specs.Points.{Site}
use Rattle.wh_edge.specs.Site.{SiteRuled}
use Rattle.wh_edge.specs.declared.trouble.Trouble.{Trouble}
use Rattle.wh_options.specs.declared.chosen.Fleet.{Fleet}
use Rattle.wh_options.specs.declared.chosen.Tail.{Tail}
use Rattle.wh_options.specs.declared.chosen.VehicleOptions.{VehicleOptions}
use Rattle.wh_service.specs.Fleets.{IsEquipped}
use Rattle.std.specs.List.{count_by}
use Rattle.wh_lines.specs.Input.{Input}
use Rattle.wh_grid.specs.Grids.{Floor}
use Rattle.wh_core.specs.States.{State}
use Rattle.wh_core.specs.Laws.{IsOpening}
use Rattle.wh_judge.specs.Drafts.{Seen}
use Rattle.wh_replay.specs.declared.asker.Asker.{Asker}
use Rattle.wh_drive.specs.declared.vehicle.Vehicle.{Vehicle}
use Rattle.wh_drive.specs.Drives as drives
use Rattle.wh_vehicles.specs.Plans.{places}
use Rattle.wh_dispatch.specs.Crews.{Crew, IsManned, is_under_way}
use Rattle.wh_dispatch.specs.Lines.{Depot}
use Rattle.wh_dispatch.specs.Scripts.{Dispatches, DispatchesFrom, Stops, StopsFrom}
use Rattle.wh_dispatch.specs.declared.script.DispatchFault.{DispatchFault}
use Rattle.wh_dispatch.proofs.Together.{each_script_happens}
use Rattle.wh_service.specs.Late.{setting_out, Drives, IsWhyUndriven, IsWhyUnservedLate, ServesLate, way_text}
use Rattle.wh_service.proofs.Playing.{Gives}

-- where a run is from an opening it stays so
pub still_opening : {X : Type 0} (fits : X → Floor → Bool) (count : X → ℕ) (asker : Asker) (bound : ℕ) (before after : Input) (old new : Depot X) (had has : Option (List ℕ)) →
    Dispatches fits count asker bound before after old new had has → IsOpening old.book.site old.book.opening → IsOpening new.book.site new.book.opening
still_opening fits count asker bound before after old new had has d is =
    let happened = each_script_happens fits count asker bound _ old new d.texts d.serves in
    subst (λ (s : Site). IsOpening s new.book.opening) (sym happened.site) (subst (λ (o : State). IsOpening old.book.site o) (sym happened.opening) is)

-- served from the opening on
pub record Driven {X : Type 0} (fits : X → Floor → Bool) (count : X → ℕ) (asker : Asker) (bound ahead : ℕ) (before after : Input) (book : Seen) (spares : List X) (new : Seen) (next : Crew)
    (had has : Option (List ℕ)) : Type 0 where
  pub final : Depot X
  pub book_is : final.book ≡ new
  pub count_is : count_by is_under_way next.order.vehicles ≡ count_by is_under_way final.drive.vehicles
  pub dispatches : Dispatches fits count asker bound before after (setting_out ahead book spares) final had has

module _ {X : Type 0} (fits : X → Floor → Bool) (count : X → ℕ) (asker : Asker) (bound ahead n : ℕ) (before after : Input) (book : Seen) (spares : List X) (crew : Crew) (new : Seen) (rest : List X)
    (had has : Option (List ℕ)) (same : n ≡ bound) (m : IsManned book crew (drives.opened book.site.layout.nofollow ahead (places book.state))) where
  pub driven : (next : Crew) → DispatchesFrom fits count asker n before after book spares crew new rest next had has → Driven fits count asker bound ahead before after book spares new next had has
  driven next from =
      let r = subst (λ k. DispatchesFrom fits count asker k before after book spares crew new rest next had has) same from (drives.opened book.site.layout.nofollow ahead (places book.state)) m in
      record {
        final = record { book = new; spares = rest; drive = r.0 };
        book_is = refl;
        count_is = ap (λ (vs : List Vehicle). count_by is_under_way vs) r.1.in_step.represents.vehicles;
        dispatches = r.2;
      }

  pub stopped : (fault : DispatchFault) → StopsFrom fits count asker n fault before after book spares crew new rest had has →
      (final : Depot X) × Stops fits count asker bound fault before after (setting_out ahead book spares) final had has
  stopped fault from =
      let r = subst (λ k. StopsFrom fits count asker k fault before after book spares crew new rest had has) same from (drives.opened book.site.layout.nofollow ahead (places book.state)) m in
      (record { book = new; spares = rest; drive = r.0 }, r.1)

module _ {X : Type 0} (fits : X → Floor → Bool) (count : X → ℕ) (asker used : Asker) (gives : Gives X) (fleet : Fleet) (site : Site) (planners spares : List X) (tail : Tail) (pace : VehicleOptions)
    (old between new : Input) (had has : Option (List ℕ)) (answer : Result ℕ Trouble) (at : SiteRuled fleet.homes old between site) (rule : site.layout.nofollow ≡ true)
    (e : IsEquipped gives fleet site.grid (length site.layout.agents) planners spares) (same : used ≡ asker) where
  pub answer_late : IfOk answer (λ left. Drives fits count used site planners spares tail pace between new had has left) → IfOk answer (λ left. ServesLate fits count asker gives fleet tail pace old new had has left)
  answer_late drives =
      IfOk-weaker answer (λ left. Drives fits count asker site planners spares tail pace between new had has left) (λ left. ServesLate fits count asker gives fleet tail pace old new had has left)
      (λ left d. record { between = between; site = site; site_read = at; rule = rule; planners = planners; spares = spares; equipped = e; drives = d })
      (subst (λ (u : Asker). IfOk answer (λ left. Drives fits count u site planners spares tail pace between new had has left)) same drives)

  pub answer_unserved_late : IfErr answer (λ told. IsWhyUndriven fits count used site planners spares tail pace told between new had has) →
      IfErr answer (λ told. IsWhyUnservedLate fits count asker gives fleet tail pace told old new had has)
  answer_unserved_late why =
      IfErr-weaker answer (λ told. IsWhyUndriven fits count asker site planners spares tail pace told between new had has) (λ told. IsWhyUnservedLate fits count asker gives fleet tail pace told old new had has)
      (λ told w. inr (inr (inr record { between = between; site = site; site_read = at; rule = rule; planners = planners; spares = spares; equipped = e; why = w })))
      (subst (λ (u : Asker). IfErr answer (λ told. IsWhyUndriven fits count u site planners spares tail pace told between new had has)) same why)

-- the line that tells how many vehicles are on their way
pub way_is : (left : ℕ) → left ≢ 0 → (codes "vehicles on their way: " ++ decimal left) ++ 10 ∷ [] ≡ way_text left
way_is left some =
    append_assoc (codes "vehicles on their way: ") (decimal left) (10 ∷ [])
    ∙ ap (λ (b : Bool). cond b [] (codes "vehicles on their way: " ++ (decimal left ++ 10 ∷ []))) (sym (ne_eqb left 0 some))
