-- the first entries of a run
use Rattle.std.proofs.Common.{◌≡◌, ℕ, ◌+◌, ◌<◌, Bool, true, false, List, [], ◌∷◌, ◌++◌, length, take, drop, get_or, refl, sym, ap, ◌∙◌, subst}
use Rattle.std.proofs.lemmas.List.{take-append-drop, take_more}
use Rattle.wh_points.specs.Points.{Site, IsLayout}
use Rattle.wh_core.specs.States.{State}
use Rattle.wh_core.specs.Steps.{Run, Step}
use Rattle.wh_core.proofs.Determined.{run-one}
use Rattle.wh_core.proofs.StepKinds.{run-join}
use Rattle.wh_event.specs.declared.entry.Entry.{Entry}
use Rattle.wh_judge.specs.Judged.{IsStep}

-- a run of more entries passes the state to which the first lead
run_split : (site : Site) (old : State) (entries more : List Entry) (new : State) → Run site old (entries ++ more) new → (mid : State) × Run site old entries mid × Run site mid more new
run_split site old [] more new run = (old, refl, run)
run_split site old (entry ∷ entries) more new run =
    let rest = run_split site run.0 entries more new run.2 in
    (rest.0, (run.0, run.1, rest.1), rest.2)

-- the entry of this number is a step from there
next_step : (site : Site) (opening : State) (history : List Entry) (last : State) (n : ℕ) (entry : Entry) (s : State) → IsLayout site.grid site.layout → Run site opening history last → n < length history →
    entry ≡ get_or history n entry → Run site opening (take n history) s → (next : State) × Step site s entry next
next_step site opening history last n entry s layout run below is so_far =
    let parts : take (n + 1) history ++ drop (n + 1) history ≡ history = take-append-drop (n + 1) history in
    let whole : Run site opening (take (n + 1) history ++ drop (n + 1) history) last = subst (λ (es : List Entry). Run site opening es last) (sym parts) run in
    let front = run_split site opening (take (n + 1) history) (drop (n + 1) history) last whole in
    let more : take (n + 1) history ≡ take n history ++ entry ∷ [] = take_more history n entry below ∙ ap (λ (e : Entry). take n history ++ e ∷ []) (sym is) in
    let to : Run site opening (take n history ++ entry ∷ []) front.0 = subst (λ (es : List Entry). Run site opening es front.0) more front.1 in
    let one = run_split site opening (take n history) (entry ∷ []) front.0 to in
    let same : one.0 ≡ s = run-one site opening (take n history) one.0 s layout one.1 so_far in
    subst (λ (x : State). (next : State) × Step site x entry next) same (one.2.0, one.2.1)

taken : (site : Site) (old : State) (entry : Entry) (new next : State) (is : Bool) → IsStep site old entry new is → Step site old entry next → Step site old entry new
taken site old entry new next true step other = step
taken site old entry new next false none other = absurd (none next other)

-- so a judge takes it, and stands behind it
pub one_more : (site : Site) (opening : State) (history : List Entry) (last : State) (n : ℕ) (entry : Entry) (s new : State) (is : Bool) → IsLayout site.grid site.layout → Run site opening history last →
    n < length history → entry ≡ get_or history n entry → Run site opening (take n history) s → IsStep site s entry new is → Run site opening (take (n + 1) history) new
one_more site opening history last n entry s new is layout run below at so_far judged =
    let next = next_step site opening history last n entry s layout run below at so_far in
    let step = taken site s entry new next.0 is judged next.1 in
    let more : take (n + 1) history ≡ take n history ++ entry ∷ [] = take_more history n entry below ∙ ap (λ (e : Entry). take n history ++ e ∷ []) (sym at) in
    subst (λ (es : List Entry). Run site opening es new) (sym more) (run-join site opening (take n history) s (entry ∷ []) new so_far (new, step, refl))
