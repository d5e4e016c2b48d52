-- the bars of the open tasks, after a task is submitted, assigned or visited
use Rattle.std.proofs.Common.{◌≡◌, ◌≢◌, ℕ, ◌<◌, ◌⊎◌, inl, inr, List, [], ◌∷◌, ◌++◌, Option, Some, None, length, ap, sym, ◌∙◌, refl, subst, arith}
use Rattle.std.specs.Prelude.{◌↔◌, All, Contains, IfSome, IfNone}
use Prim.Native.Nat.{suc}
use Rattle.std.proofs.lemmas.Bool.{cases_eq}
use Rattle.std.proofs.lemmas.Option.{slice_get_within}
use Rattle.wh_grid.specs.declared.cell.Cell.{Cell}
use Rattle.wh_tasks.specs.declared.task.Task.{Task}
use Rattle.wh_tasks.specs.Tasks.{IsTask, IsOpen}
use Rattle.wh_tasks.specs.Changes.{changed_at, fresh, assigned}
use Rattle.wh_tasks.specs.Bars.{bar_of, IsBar, AreClear, AreBars}
use Rattle.wh_tasks.proofs.Edits.{length-changed_at, length-snoc, changed-there, changed-cases, changed-other, snoc-cases, get-snoc-old, get-snoc-new, there-new, there-append}

-- of a bar that is there, and of one that is not
pub some-holds : (o : Option Cell) (P : Cell → Type 0) (bar : Cell) → IfSome o P → o ≡ Some bar → P bar
some-holds o P bar holds is = subst (λ (v : Option Cell). IfSome v P) is holds

none-holds : (o : Option Cell) (P : Type 0) → IfNone o P → o ≡ None → P
none-holds o P holds is = subst (λ (v : Option Cell). IfNone v P) is holds

-- One task more is open: the bar that is told for it is one of its stops at which a path ends. If it has none, no path
-- ends at its stops, and it is put among those that are clear.
pub bars-submitted : (tasks : List Task) (ends : List Cell) (bars : List (Option Cell)) (clear clear' : List ℕ) (client : List ℕ) (stops : List Cell) (clock : ℕ) (v : Option Cell) → AreBars tasks ends bars clear →
    IfSome v (λ cell. Contains stops cell × Contains ends cell) → IfNone v (All (λ cell. ¬ Contains ends cell) stops) →
    ((m : ℕ) → Contains clear' m ↔ (Contains clear m ⊎ ((v ≡ None) × (m ≡ length tasks)))) →
    AreBars (tasks ++ fresh client stops clock ∷ []) ends (bars ++ v ∷ []) clear'
bars-submitted tasks ends bars clear clear' client stops clock v are some none put =
    let t : Task = fresh client stops clock in
    let P : Cell → Type 0 = λ cell. Contains stops cell × Contains ends cell in
    let each = are.each in
    let within : (n : ℕ) (u : Task) → IsTask tasks n u → n < length bars = λ n u there. rw each (slice_get_within tasks n u there) in
    let old : (n : ℕ) (u : Task) → IsTask tasks n u → bar_of (bars ++ v ∷ []) n ≡ bar_of bars n = λ n u there. get-snoc-old bars v None n (within n u there) in
    let last : (n : ℕ) → n ≡ length tasks → bar_of (bars ++ v ∷ []) n ≡ v = λ n e.
    ap (λ k. bar_of (bars ++ v ∷ []) k) (e ∙ sym each) ∙ get-snoc-new bars v None in
    let here : IsTask (tasks ++ t ∷ []) (length tasks) t = there-new tasks t in
    record {
      each = length-snoc bars v ∙ ap (λ k. suc k) each ∙ sym (length-snoc tasks t);
      barred = λ n u bar there is_open is. elim (snoc-cases tasks t n u there) [
        | inl was ↦ are.barred n u bar was is_open (sym (old n u was) ∙ is)
        | inr new ↦
            let both = some-holds v P bar some (sym (last n new.0) ∙ is) in
            record { stop = subst (λ (w : Task). Contains w.stops bar) (sym new.1) both.0; is_end = both.1 }
      ];
      clear_stops = λ n u there is_open is. elim (snoc-cases tasks t n u there) [
        | inl was ↦ are.clear_stops n u was is_open (sym (old n u was) ∙ is)
        | inr new ↦ subst (λ (w : Task). AreClear ends w.stops) (sym new.1) (none-holds v (All (λ cell. ¬ Contains ends cell) stops) none (sym (last n new.0) ∙ is))
      ];
      clear_listed = λ n u there is_open is. elim (snoc-cases tasks t n u there) [
        | inl was ↦ (put n).1 (inl (are.clear_listed n u was is_open (sym (old n u was) ∙ is)))
        | inr new ↦ (put n).1 (inr (sym (last n new.0) ∙ is, new.0))
      ];
      clear_only = λ n has. elim ((put n).0 has) [
        | inl was ↦
            let one = are.clear_only n was in
            (one.0, there-append tasks (t ∷ []) n one.0 one.1, one.2, old n one.0 one.1 ∙ one.3)
        | inr new ↦ (t, rw new.1 here, refl, last n new.1 ∙ new.0)
      ];
    }

-- one task more has an agent, and none is put among those that are clear
pub bars-begun : (tasks : List Task) (ends : List Cell) (bars : List (Option Cell)) (clear : List ℕ) (task : Task) → AreBars tasks ends bars clear → task.agent ≢ None →
    AreBars (tasks ++ task ∷ []) ends (bars ++ None ∷ []) clear
bars-begun tasks ends bars clear task are begun =
    let each = are.each in
    let old : (n : ℕ) (u : Task) → IsTask tasks n u → bar_of (bars ++ None ∷ []) n ≡ bar_of bars n = λ n u there.
    get-snoc-old bars None None n (rw each (slice_get_within tasks n u there)) in
    let last : (u : Task) → u ≡ task → IsOpen u → ⊥ = λ u same is_open. begun (subst IsOpen same is_open) in
    record {
      each = length-snoc bars None ∙ ap (λ k. suc k) each ∙ sym (length-snoc tasks task);
      barred = λ n u bar there is_open is. elim (snoc-cases tasks task n u there) [
        | inl was ↦ are.barred n u bar was is_open (sym (old n u was) ∙ is)
        | inr new ↦ absurd (last u new.1 is_open)
      ];
      clear_stops = λ n u there is_open is. elim (snoc-cases tasks task n u there) [
        | inl was ↦ are.clear_stops n u was is_open (sym (old n u was) ∙ is)
        | inr new ↦ absurd (last u new.1 is_open)
      ];
      clear_listed = λ n u there is_open is. elim (snoc-cases tasks task n u there) [
        | inl was ↦ are.clear_listed n u was is_open (sym (old n u was) ∙ is)
        | inr new ↦ absurd (last u new.1 is_open)
      ];
      clear_only = λ n has.
          let one = are.clear_only n has in
          (one.0, there-append tasks (task ∷ []) n one.0 one.1, one.2, old n one.0 one.1 ∙ one.3);
    }

-- One task is not open any more, and not among those that are clear.
pub bars-assigned : (tasks : List Task) (ends : List Cell) (bars : List (Option Cell)) (clear clear' : List ℕ) (n agent : ℕ) (task : Task) → AreBars tasks ends bars clear →
    IsTask tasks n task → ((m : ℕ) → Contains clear' m ↔ (Contains clear m × (m ≢ n))) →
    AreBars (changed_at n (assigned agent) tasks) ends bars clear'
bars-assigned tasks ends bars clear clear' n agent task are at out =
    let f : Task → Task = assigned agent in
    let shut : (u t : Task) → u ≡ f t → IsOpen u → ⊥ = λ u t e is_open. (let clash : None ≡ Some agent = sym is_open ∙ ap (λ (w : Task). w.agent) e in cc) in
    record {
      each = are.each ∙ sym (length-changed_at tasks n f);
      barred = λ m u bar there is_open is. elim (changed-cases tasks n f m u there) [
        | inl was ↦ are.barred m u bar was.1 is_open is
        | inr now ↦ absurd (shut u now.1 now.3 is_open)
      ];
      clear_stops = λ m u there is_open is. elim (changed-cases tasks n f m u there) [
        | inl was ↦ are.clear_stops m u was.1 is_open is
        | inr now ↦ absurd (shut u now.1 now.3 is_open)
      ];
      clear_listed = λ m u there is_open is. elim (changed-cases tasks n f m u there) [
        | inl was ↦ (out m).1 (are.clear_listed m u was.1 is_open is, was.0)
        | inr now ↦ absurd (shut u now.1 now.3 is_open)
      ];
      clear_only = λ m has.
          let both = (out m).0 has in
          let one = are.clear_only m both.0 in
          (one.0, changed-other tasks n f m both.1 ∙ one.1, one.2, one.3);
    }

-- a task with a bar is not among those that are clear
pub barred-out : (tasks : List Task) (ends : List Cell) (bars : List (Option Cell)) (clear : List ℕ) (n : ℕ) → AreBars tasks ends bars clear → bar_of bars n ≢ None →
    (m : ℕ) → Contains clear m ↔ (Contains clear m × (m ≢ n))
barred-out tasks ends bars clear n are some = λ m. (
  λ has. (has, λ same. some (ap (λ k. bar_of bars k) (sym same) ∙ (are.clear_only m has).3)),
  λ both. both.0,
)

-- a change that leaves the stops and the agent of a task
pub bars-kept : (tasks : List Task) (ends : List Cell) (bars : List (Option Cell)) (clear : List ℕ) (n : ℕ) (f : Task → Task) → ((t : Task) → (f t).stops ≡ t.stops) → ((t : Task) → (f t).agent ≡ t.agent) →
    AreBars tasks ends bars clear → AreBars (changed_at n f tasks) ends bars clear
bars-kept tasks ends bars clear n f stops agent are =
    let opened : (u t : Task) → u ≡ f t → IsOpen u → IsOpen t = λ u t e is_open. sym (agent t) ∙ sym (ap (λ (w : Task). w.agent) e) ∙ is_open in
    let stops_are : (u t : Task) → u ≡ f t → t.stops ≡ u.stops = λ u t e. sym (stops t) ∙ sym (ap (λ (w : Task). w.stops) e) in
    record {
      each = are.each ∙ sym (length-changed_at tasks n f);
      barred = λ m u bar there is_open is. elim (changed-cases tasks n f m u there) [
        | inl was ↦ are.barred m u bar was.1 is_open is
        | inr now ↦ subst (λ cells. IsBar ends cells bar) (stops_are u now.1 now.3) (are.barred m now.1 bar now.2 (opened u now.1 now.3 is_open) is)
      ];
      clear_stops = λ m u there is_open is. elim (changed-cases tasks n f m u there) [
        | inl was ↦ are.clear_stops m u was.1 is_open is
        | inr now ↦ subst (λ cells. AreClear ends cells) (stops_are u now.1 now.3) (are.clear_stops m now.1 now.2 (opened u now.1 now.3 is_open) is)
      ];
      clear_listed = λ m u there is_open is. elim (changed-cases tasks n f m u there) [
        | inl was ↦ are.clear_listed m u was.1 is_open is
        | inr now ↦ are.clear_listed m now.1 now.2 (opened u now.1 now.3 is_open) is
      ];
      clear_only = λ m has.
          let one = are.clear_only m has in
          elim (cases_eq m n) [
            | inl same ↦ (f one.0, changed-there tasks n f m one.0 same one.1, agent one.0 ∙ one.2, one.3)
            | inr apart ↦ (one.0, changed-other tasks n f m apart ∙ one.1, one.2, one.3)
          ];
    }

-- the number of the next task is not among those that are clear
pub clear-old : (tasks : List Task) (ends : List Cell) (bars : List (Option Cell)) (clear : List ℕ) → AreBars tasks ends bars clear → Contains clear (length tasks) → ⊥
clear-old tasks ends bars clear are has =
    let one = are.clear_only (length tasks) has in
    let lt = slice_get_within tasks (length tasks) one.0 one.1 in
    omega (arith, lt)

-- it is put there where it has no bar, and else it is not
pub clear-put : (bar : Option Cell) (clear clear' : List ℕ) (n : ℕ) → bar ≡ None → ((m : ℕ) → Contains clear' m ↔ (Contains clear m ⊎ (m ≡ n))) →
    (m : ℕ) → Contains clear' m ↔ (Contains clear m ⊎ ((bar ≡ None) × (m ≡ n)))
clear-put bar clear clear' n none put = λ m. (
  λ has. elim ((put m).0 has) [ inl old ↦ inl old | inr new ↦ inr (none, new) ],
  λ either. (put m).1 (elim either [ inl old ↦ inl old | inr new ↦ inr new.1 ]),
)

pub clear-kept : (bar : Option Cell) (clear clear' : List ℕ) (n : ℕ) → bar ≢ None → clear' ≡ clear → (m : ℕ) → Contains clear' m ↔ (Contains clear m ⊎ ((bar ≡ None) × (m ≡ n)))
clear-kept bar clear clear' n some same = λ m. (
  λ has. inl (subst (λ l. Contains l m) same has),
  λ either. subst (λ l. Contains l m) (sym same) (elim either [ inl old ↦ old | inr new ↦ absurd (some new.0) ]),
)
