-- a row of where the agents are
use Rattle.std.proofs.Common.{◌≡◌, ◌≢◌, ℕ, ◌+◌, ◌<◌, ◌≤◌, ◌∙◌, inl, inr, List, [], length, Bool, sym, subst, refl, ap, arith, take, get_or, cond, true, false}
use Rattle.std.specs.Prelude.{Contains}
use Rattle.std.specs.List.{AllPairs, count_by}
use Rattle.std.proofs.lemmas.List.Sums.{count_by_more_yes, count_by_more_no}
use Rattle.std.proofs.Math.ListN.{set}
use Rattle.std.proofs.lemmas.Bool.{cases_lt}
use Rattle.std.proofs.lemmas.List.{length-map, get_or-map, get_or_default, same_lists, get_or-set_same, get_or-set_other}
use Rattle.wh_grid.specs.declared.cell.Cell.{Cell}
use Rattle.wh_path.specs.Paths.{cell_at, place_of}
use Rattle.wh_path.proofs.AtLemmas.{origin}
use Rattle.wh_core.specs.States.{State}
use Rattle.wh_core.specs.Laws.{IsBeginning, IsReached as IsReachedState}
use Rattle.wh_core.proofs.Sound.{kept-of}
use Rattle.wh_core.proofs.Traffic.{none_share}
use Rattle.wh_core.specs.Steps.{Run}
use Rattle.wh_book.specs.Drafts.{Seen}
use Rattle.wh_drive.specs.declared.vehicle.Vehicle.{Vehicle}
use Rattle.wh_drive.specs.Drives.{vehicle, reached, told, opened}
use Rattle.wh_drive.proofs.Vehicles.{idle}
use Rattle.wh_order.specs.Orders.{Represents}
use Rattle.wh_order.specs.Settling.{IsQuiet}
use Rattle.wh_vehicles.specs.Plans.{places, IsOpening, IsCarriedOut}
use Rattle.wh_vehicles.proofs.Planning.{size, at-place, carried-opening}
use Rattle.wh_vehicles.specs.Visits.{HasMade}
use Rattle.wh_dispatch.specs.declared.visits.Pending.{Pending}
use Rattle.wh_dispatch.specs.Crews.{Crew, IsManned, AreWatched}
use Rattle.wh_dispatch.specs.SettingOut.{NoneIsTold}
use Rattle.wh_dispatch.specs.Visiting.{left_after, IsStanding}
use Rattle.wh_dispatch.proofs.Watching.{standing, watched_after}

-- a row that has each agent's cell at its place
pub is_row : (s : State) (row : List Cell) → length row ≡ length s.paths → ((k : ℕ) → k < length s.paths → cell_at row k ≡ place_of s.paths k) → row ≡ places s
is_row s row count same =
    let cells = size s in
    same_lists row (places s) (omega arith) (λ k d h.
    let l : k < length s.paths = omega arith in
    get_or_default row k d origin h ∙ same k l ∙ sym (at-place s k l) ∙ get_or_default (places s) k origin d (omega arith))

-- one agent's cell more
pub row_more : (s : State) (row : List Cell) (agent : ℕ) (cell : Cell) → agent < length row → cell ≡ place_of s.paths agent →
    ((k : ℕ) → k < agent → cell_at row k ≡ place_of s.paths k) → (k : ℕ) → k < agent + 1 → cell_at (set row agent cell) k ≡ place_of s.paths k
row_more s row agent cell h is there k below = elim (cases_lt k agent) [
  | inl l ↦ get_or-set_other row agent k cell origin (λ e. omega arith) ∙ there k l
  | inr g ↦ (let e : agent ≡ k = omega arith in
      ap (cell_at (set row agent cell)) (sym e) ∙ get_or-set_same row agent cell origin h ∙ is ∙ ap (place_of s.paths) e)
]

-- at the opening nobody may start, and no step is left to pass
pub quiet_opened : (nofollow : Bool) (ahead : ℕ) (starts : List Cell) → IsQuiet (opened nofollow ahead starts)
quiet_opened nofollow ahead starts = record {
  none_starts = λ agent may. (let planned = may.step.planned_to in omega arith);
  none_passes = λ agent passes.
      let d = opened nofollow ahead starts in
      let many = length-map starts (λ (_ : Cell). idle) in
      let known = passes.known in
      let same : vehicle d agent ≡ idle = get_or-map (λ (_ : Cell). idle) starts agent origin idle (omega arith) in
      let here : reached d agent ≡ 0 = ap (λ (v : Vehicle). v.reached) same in
      let far : told d agent ≡ 0 = ap (λ (v : Vehicle). v.told) same in
      let goes = passes.goes in
      omega arith;
}

-- with no history the state is the opening
pub at_opening : (book : Seen) → book.history ≡ [] → Run book.site book.opening book.history book.state → book.state ≡ book.opening
at_opening book none run = subst (λ es. Run book.site book.opening es book.state) none run

opening_fleet : (book : Seen) (ahead : ℕ) → IsBeginning book.site book.state → 1 ≤ ahead →
    IsOpening book.site (record { state = book.state; drive = opened book.site.layout.nofollow ahead (places book.state) })
opening_fleet book ahead begins some = record {
  ahead = ahead;
  some = some;
  state = begins;
  drive = refl;
}

-- the state of a book with no history is one from which it may begin
pub begins_there : (book : Seen) → IsBeginning book.site book.opening → book.state ≡ book.opening → IsBeginning book.site book.state
begins_there book begins same = subst (λ (s : State). IsBeginning book.site s) (sym same) begins

-- no two agents begin at one cell
pub differ_opened : (book : Seen) → IsBeginning book.site book.state → AllPairs (λ a b. a ≢ b) (places book.state)
differ_opened book begins =
    let s = book.state in
    let cells = size s in
    let reached : IsReachedState book.site [] s = record { opening = s; is_beginning = begins; run = refl } in
    λ i j a below within e.
    let l : j < length s.paths = omega arith in
    let l' : i < length s.paths = omega arith in
    none_share book.site [] s i j reached (record { first = l'; second = l; differ = λ same. omega arith })
    (sym (at-place s i l') ∙ get_or_default (places s) i origin a (omega arith) ∙ e ∙ get_or_default (places s) j a origin within ∙ at-place s j l)

-- of the tasks that agents have none was told
module _ (book : Seen) (before : List Pending) (begins : IsBeginning book.site book.state) (untold : AreWatched book.state NoneIsTold before) where
  pub stand_opened : (ahead agents : ℕ) → agents ≡ length book.state.paths → (p : Pending) → Contains before p → IsStanding book.state.tasks agents p
  stand_opened ahead agents count =
      standing book.opening.clock book.state (opened book.site.layout.nofollow ahead (places book.state)) NoneIsTold before untold agents count
      (kept-of book.site book.state begins.sound).working (λ v told. absurd told)

  pub manned_opened : (crew : Crew) (ahead : ℕ) → book.state ≡ book.opening → book.history ≡ [] → 1 ≤ ahead →
      crew.pending ≡ left_after book.opening.clock book.state.tasks crew.order.vehicles before →
      Represents crew.order (opened book.site.layout.nofollow ahead (places book.state)) → IsManned book crew (opened book.site.layout.nofollow ahead (places book.state))
  manned_opened crew ahead same none some left r =
      let d = opened book.site.layout.nofollow ahead (places book.state) in
      let opening = book.opening.clock in
      let sound = begins.sound in
      let left_is : crew.pending ≡ left_after opening book.state.tasks d.vehicles before = left ∙ ap (λ (vs : List Vehicle). left_after opening book.state.tasks vs before) r.vehicles in
      record {
        in_step = record {
          represents = r;
          carried = subst (λ es. IsCarriedOut book.site es (record { state = book.state; drive = d })) (sym none) (carried-opening book.site _ (opening_fleet book ahead begins some));
          time = (let here : book.state.clock ≡ book.opening.clock = ap (λ (s : State). s.clock) same in omega arith);
        };
        quiet = quiet_opened book.site.layout.nofollow ahead (places book.state);
        watched = subst (λ (ps : List Pending). AreWatched book.state (HasMade opening (record { state = book.state; drive = d })) ps) (sym left_is)
            (watched_after opening book.state d NoneIsTold before untold book.state.clock (λ n task is. (sound.tasks n task is).timed) (λ n task is. (sound.tasks n task is).few)
            (λ v told. absurd told));
      }

-- one vehicle more is counted
pub count_more : (p : Vehicle → Bool) (xs : List Vehicle) (i : ℕ) → i < length xs → count_by p (take (i + 1) xs) ≡ count_by p (take i xs) + cond (p (get_or xs i idle)) 1 0
count_more p xs i h = go (p (get_or xs i idle)) refl
  where
    go : (b : Bool) → p (get_or xs i idle) ≡ b → count_by p (take (i + 1) xs) ≡ count_by p (take i xs) + cond b 1 0
    go true e = count_by_more_yes p xs i idle h e
    go false e = (let more = count_by_more_no p xs i idle h e in omega arith)
