-- what is known of vehicles that stand
use Rattle.std.proofs.Common.{◌≡◌, ◌<◌, ◌+◌, ◌++◌, ◌∷◌, ◌∙◌, inl, inr, ℕ, List, [], length, length-append, map, take, sym, ap, subst, arith}
use Rattle.std.specs.Prelude.{IfSome, Option, true}
use Rattle.std.proofs.lemmas.Bool.{cases_lt}
use Rattle.std.proofs.lemmas.List.{get_or_append_left, map-append, take_more}
use Rattle.std.proofs.Math.Seq.{get_or-append_seam}
use Rattle.wh_grid.specs.declared.cell.Cell.{Cell}
use Rattle.wh_path.specs.Paths.{cell_at}
use Rattle.wh_drive.specs.Drives.{Drive, place}
use Rattle.wh_drive.specs.declared.vehicle.Vehicle.{Vehicle}
use Rattle.wh_judge.specs.Drafts.{Seen}
use Rattle.wh_resume.specs.Resuming.{TellsBook}
use Rattle.wh_resume.specs.declared.recovery.Preface.{Preface}
use Rattle.wh_resume.specs.declared.recovery.Resumed.{Resumed}
use Rattle.wh_convoy.specs.Standing.{StandsBy}
use Rattle.wh_convoy.specs.declared.finding.Stood.{Stood}
use Rattle.wh_order.specs.Orders.{Order, vehicle_in}
use Rattle.wh_points.specs.Points.{Site}
use Rattle.wh_edge.specs.declared.trouble.Trouble.{Trouble}
use Rattle.wh_handover.specs.declared.front.HandoverFault.{HandoverFault}
use Rattle.wh_handover.specs.Standing.{IsStoppedText, IsWhyNotStopped}
use Rattle.wh_service.specs.States.{trouble_of}
use Rattle.wh_service.specs.Stands.{ArePlaces, AreSteps, HasNoneAsLeft, IsOfNoStand, IsTextAsLeft, IsWhyNoStand, StandsByFiles, TellsStand}
use Rattle.wh_service.specs.declared.convoys.DriveTrouble.{DriveTrouble}

-- the place of one vehicle more
pub one_place_more : (d : Drive) (places : List Cell) (cell : Cell) → ((agent : ℕ) → agent < length places → cell_at places agent ≡ place d agent) → cell ≡ place d (length places) →
    (agent : ℕ) → agent < length (places ++ cell ∷ []) → cell_at (places ++ cell ∷ []) agent ≡ place d agent
one_place_more d places cell each last agent within =
    let size = length-append places (cell ∷ []) in
    elim (cases_lt agent (length places)) [
      | inl l ↦ get_or_append_left places (cell ∷ []) (record { x = 0; y = 0 }) agent l ∙ each agent l
      | inr r ↦
          let same : length places ≡ agent = omega (arith, size, within, r) in
          subst (λ (n : ℕ). cell_at (places ++ cell ∷ []) n ≡ place d n) same (get_or-append_seam places cell [] _ ∙ last)
    ]

-- the step of one more
pub one_step_more : (vehicles : List Vehicle) (steps : List ℕ) (agent step : ℕ) → agent < length vehicles → steps ≡ map (λ (v : Vehicle). v.reached) (take agent vehicles) → step ≡ (vehicle_in vehicles agent).reached →
    steps ++ step ∷ [] ≡ map (λ (v : Vehicle). v.reached) (take (agent + 1) vehicles)
one_step_more vehicles steps agent step within so_far is =
    let reached_of : Vehicle → ℕ = λ v. v.reached in
    ap (λ (l : List ℕ). l ++ step ∷ []) so_far
    ∙ ap (λ (n : ℕ). map reached_of (take agent vehicles) ++ n ∷ []) is
    ∙ sym (map-append reached_of (take agent vehicles) (vehicle_in vehicles agent ∷ []))
    ∙ sym (ap (λ (vs : List Vehicle). map reached_of vs) (take_more vehicles agent _ within))

-- there is a vehicle for each agent
pub each_stood : (book : Seen) (ahead : ℕ) (preface : Option Preface) (text : List ℕ) (stood : Stood) → StandsBy book ahead preface text stood → length stood.order.vehicles ≡ length book.state.paths
each_stood book ahead preface text stood s =
    ap (λ (vs : List Vehicle). length vs) s.stand.represents.vehicles ∙ s.stand.stand.all ∙ s.tells.2.all

-- as vehicles of the order have left it
pub as_left : (site : Site) (log : List ℕ) (order : Order) (places : List Cell) (steps : List ℕ) (cells : List Cell) (reached : List ℕ) → cells ≡ places → reached ≡ steps → ArePlaces order places → AreSteps order steps →
    (told : List ℕ) → IsStoppedText site log cells reached told → IsTextAsLeft site log order told
as_left site log order places steps cells reached same also here by told is = record {
  places = places;
  steps = steps;
  places_are = here;
  steps_are = by;
  is = subst (λ (s : List ℕ). IsStoppedText site log places s told) also (subst (λ (p : List Cell). IsStoppedText site log p reached told) same is);
}

pub not_left : (site : Site) (log : List ℕ) (order : Order) (places : List Cell) (steps : List ℕ) (cells : List Cell) (reached : List ℕ) → cells ≡ places → reached ≡ steps → ArePlaces order places → AreSteps order steps →
    (fault : HandoverFault) → IsWhyNotStopped site log cells reached fault → (told : Trouble) → told ≡ trouble_of fault → HasNoneAsLeft site log order told
not_left site log order places steps cells reached same also here by fault why told is = record {
  places = places;
  steps = steps;
  places_are = here;
  steps_are = by;
  fault = fault;
  why = subst (λ (s : List ℕ). IsWhyNotStopped site log places s fault) also (subst (λ (p : List Cell). IsWhyNotStopped site log p reached fault) same why);
  told_is = is;
}

-- the texts of both files were read
module _ (site : Site) (file arrivals : Option (List ℕ)) (log reports : List ℕ) (resumed : Resumed) (log_is : IfSome file (λ held. log ≡ held)) (reports_are : IfSome arrivals (λ held. reports ≡ held)) (over : resumed.book.site ≡ site)
    (text : List ℕ) (same : text ≡ log) (tells : TellsBook resumed.book.site text resumed resumed.preface) (again : List ℕ) (other : again ≡ log) (said : List ℕ) (also : said ≡ reports) where
  tells_log : TellsBook site log resumed resumed.preface
  tells_log = subst (λ (s : Site). TellsBook s log resumed resumed.preface) over (subst (λ (t : List ℕ). TellsBook resumed.book.site t resumed resumed.preface) same tells)

  pub by_files : site.layout.nofollow ≡ true → (told : List ℕ) → TellsStand resumed again said told → StandsByFiles site file arrivals told
  by_files rule told is = record {
    rule = rule;
    log = log;
    log_is = log_is;
    resumed = resumed;
    site_is = over;
    tells = tells_log;
    reports = reports;
    reports_are = reports_are;
    is = subst (λ (r : List ℕ). TellsStand resumed log r told) also (subst (λ (l : List ℕ). TellsStand resumed l said told) other is);
  }

  pub not_by_files : (told : DriveTrouble) → IsWhyNoStand resumed again said told → IsOfNoStand site file arrivals told
  not_by_files told why = record {
    log = log;
    log_is = log_is;
    resumed = resumed;
    site_is = over;
    tells = tells_log;
    reports = reports;
    reports_are = reports_are;
    why = subst (λ (r : List ℕ). IsWhyNoStand resumed log r told) also (subst (λ (l : List ℕ). IsWhyNoStand resumed l said told) other why);
  }
