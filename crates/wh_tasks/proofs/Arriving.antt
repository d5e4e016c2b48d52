-- several visits at one clock
use Rattle.std.proofs.Common.{◌≡◌, ℕ, ◌+◌, ◌<◌, ◌≤◌, ◌⊎◌, inl, inr, List, [], ◌∷◌, ◌++◌, true, false, length, get_or, drop, ap, sym, ◌∙◌, arith, refl, suc, zero}
use Rattle.std.specs.Prelude.{Some, slice_get, replicate}
use Rattle.std.proofs.lemmas.Bool.{lt-ltb}
use Rattle.std.proofs.lemmas.List.{drop_more, append-nil, append_assoc, replicate_more, length-append, length-replicate}
use Rattle.std.proofs.lemmas.List.Elements.{All-append, All-replicate}
use Rattle.wh_grid.specs.declared.cell.Cell.{Cell}
use Rattle.wh_tasks.specs.declared.task.Task.{Task}
use Rattle.wh_tasks.specs.declared.task.Phase.{Phase}
use Rattle.wh_tasks.specs.Tasks.{visited, phase_of, carried_or_done}
use Rattle.wh_grid.specs.Cells.{is_cell}
use Rattle.wh_tasks.specs.Arrivals.{stops_here}
use Rattle.wh_tasks.specs.Changes.{changed_at, visited_once, IsUnderway, IsInTime}
use Rattle.wh_tasks.specs.Visiting.{IsGoing, visited_times}
use Rattle.wh_tasks.proofs.Edits.{slice_get-changed_at}

-- the stop at a place is the cell, or it is not
pub here-more : (here : Cell) (stops : List Cell) (k : ℕ) (d : Cell) → k < length stops → is_cell here (get_or stops k d) ≡ true →
    stops_here here (drop k stops) ≡ stops_here here (drop (k + 1) stops) + 1
here-more here stops k d lt same = rw (drop_more stops k d lt, same) (omega arith)

pub here-stops : (here : Cell) (stops : List Cell) (k : ℕ) (d : Cell) → k < length stops → is_cell here (get_or stops k d) ≡ false →
    stops_here here (drop k stops) ≡ 0
here-stops here stops k d lt other = rw (drop_more stops k d lt, other) refl

-- two changes at a place are one
pub changed_at-twice : {X : Type 0} (xs : List X) (n : ℕ) (f g h : X → X) → ((x : X) → g (f x) ≡ h x) → changed_at n g (changed_at n f xs) ≡ changed_at n h xs
changed_at-twice [] n f g h same = refl
changed_at-twice (x ∷ xs) zero f g h same = ap (λ v. v ∷ xs) (same x)
changed_at-twice (x ∷ xs) (suc n) f g h same = ap (λ v. x ∷ v) (changed_at-twice xs n f g h same)

pub changed_at-nothing : {X : Type 0} (xs : List X) (n : ℕ) (f : X → X) → ((x : X) → f x ≡ x) → changed_at n f xs ≡ xs
changed_at-nothing [] n f same = refl
changed_at-nothing (x ∷ xs) zero f same = ap (λ v. v ∷ xs) (same x)
changed_at-nothing (x ∷ xs) (suc n) f same = ap (λ v. x ∷ v) (changed_at-nothing xs n f same)

-- two changes that agree on the element at the place are one
pub changed_at-agree : {X : Type 0} (xs : List X) (n : ℕ) (f g : X → X) (x : X) → slice_get xs n ≡ Some x → f x ≡ g x → changed_at n f xs ≡ changed_at n g xs
changed_at-agree [] n f g x is same = refl
changed_at-agree (y ∷ ys) zero f g x is same = let one : y ≡ x = cc in ap (λ v. v ∷ ys) (ap f one ∙ same ∙ ap g (sym one))
changed_at-agree (y ∷ ys) (suc n) f g x is same = ap (λ v. y ∷ v) (changed_at-agree ys n f g x is same)

pub times-none : (clock : ℕ) (task : Task) → visited_times 0 clock task ≡ task
times-none clock task = ap (λ (v : List ℕ). record task { visits = v }) (append-nil task.visits)

pub times-more : (count clock : ℕ) (task : Task) → visited_once clock (visited_times count clock task) ≡ visited_times (count + 1) clock task
times-more count clock task =
    ap (λ (v : List ℕ). record task { visits = v }) (append_assoc task.visits (replicate count clock) (clock ∷ []) ∙ ap (λ v. task.visits ++ v) (replicate_more count clock))

pub visited-times : (count clock : ℕ) (task : Task) → visited (visited_times count clock task) ≡ visited task + count
visited-times count clock task = length-append task.visits (replicate count clock) ∙ ap (λ n. visited task + n) (length-replicate count clock)

pub in_time-times : (count clock : ℕ) (task : Task) → IsInTime clock task → IsInTime clock (visited_times count clock task)
in_time-times count clock task is = record {
  submitted = is.submitted;
  visits = All-append (λ earlier. earlier ≤ clock) task.visits (replicate count clock) is.visits (All-replicate (λ earlier. earlier ≤ clock) count clock (omega arith));
}

-- a task with an agent of which a stop is left is assigned or carried
pub underway-phase : (agent seen stops : ℕ) → seen < stops → (phase_of (Some agent) seen stops ≡ Phase.Assigned) ⊎ (phase_of (Some agent) seen stops ≡ Phase.Carried)
underway-phase agent zero stops lt = inl refl
underway-phase agent (suc seen) stops lt = inr (ap carried_or_done (lt-ltb (suc seen) stops lt))

pub going-underway : (tasks : List Task) (n : ℕ) (task : Task) → IsGoing tasks n 1 task → IsUnderway tasks n task
going-underway tasks n task going = record {
  there = going.there;
  is_underway =
      let lt : visited task < length task.stops = (let h = going.left in omega arith) in
      rw going.agent_is (underway-phase going.agent (visited task) (length task.stops) lt);
}

-- what is left after some of the visits
pub going-times : (tasks : List Task) (n count k clock : ℕ) (task : Task) → IsGoing tasks n count task → k < count →
    IsGoing (changed_at n (visited_times k clock) tasks) n 1 (visited_times k clock task)
going-times tasks n count k clock task going lt = record {
  there = slice_get-changed_at tasks n (visited_times k clock) task going.there;
  agent = going.agent;
  agent_is = going.agent_is;
  left = let h = going.left in let e = visited-times k clock task in omega arith;
}
