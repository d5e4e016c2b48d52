-- What the reports of the threads say of the whole history.
use Rattle.std.proofs.Common.{◌≡◌, ℕ, ◌<◌, List, [], ◌∷◌, ◌++◌, length, Some, slice_get, refl, ap, sym, ◌∙◌, subst, arith, inl, inr}
use Rattle.std.specs.List.{All}
use Rattle.std.proofs.lemmas.List.{length_push}
use Rattle.std.proofs.lemmas.Option.{slice_get_within}
use Rattle.wh_event.specs.declared.entry.Entry.{Entry}
use Rattle.wh_desk.specs.Lists.{entries_of, Received}
use mathlib.Core.List.{IsPrefix}
use Rattle.wh_board.proofs.Fronts.{prefix_self}
use Rattle.wh_desk.specs.Calls.{InOrder, AllBegin}
use Rattle.wh_core.proofs.Lists.{slice_get_push}
use Rattle.wh_crew.proofs.Crews.{all_at}
use Rattle.wh_desk.proofs.Entries.{AllAt_push, get_left, get_push}
use Rattle.wh_serve.proofs.Hosts.{get_some}
use Rattle.wh_serve.specs.Hosting.{AllReported}
use Rattle.wh_serve.specs.Texts.{InEach}
use Rattle.wh_host.specs.Hosting.{AllServed}

-- before the end stand the elements of the front
pub get_before : {A : Type 0} (xs : List A) (y x : A) (k : ℕ) → k < length xs → slice_get (xs ++ y ∷ []) k ≡ Some x → slice_get xs k ≡ Some x
get_before xs y x k less at = elim (slice_get_push xs y k x at) [
  | inl e ↦ e
  | inr e ↦ absurd (omega (arith, e.0, less))
]

-- what is served keeps the caller
abbrev pub KeepsCaller : {C : Type 0} → (C → Received → Received → ℕ → Type 0) → Type 0
KeepsCaller {C} serves = (client : C) (had has : Received) (times : ℕ) → serves client had has times → has.caller ≡ had.caller

-- what is served is told by each history that begins with what is known then
abbrev pub Each : {C : Type 0} → (List Entry → C → Received → Received → ℕ → Type 0) → C → Received → Received → ℕ → Type 0
Each serves client had has times = InEach has.known (λ history. serves history client had has times)

module _ {C : Type 0} (serves : List Entry → C → Received → Received → ℕ → Type 0) (keeps : (history : List Entry) → KeepsCaller (serves history)) where
  -- each pass that is left is its client's
  left_caller : (clients : List C) (passes left : List Received) (times : List ℕ) → length clients ≡ length passes → length left ≡ length clients → length times ≡ length clients
      → AllReported (Each serves) clients passes left times → (k : ℕ) (p : Received) → slice_get left k ≡ Some p
      → (q : Received) × (slice_get passes k ≡ Some q) × (p.caller ≡ q.caller)
  left_caller clients passes left times same count many reports k p at =
      let within = slice_get_within left k p at in
      let before = get_some passes k (omega (arith, count, same, within)) in
      let client = get_some clients k (omega (arith, count, within)) in
      let n = get_some times k (omega (arith, count, many, within)) in
      (before.0, before.1, keeps p.known client.0 before.0 p n.0 (reports k client.0 before.0 p n.0 client.1 before.1 at n.1 p.known (prefix_self p.known)))

  -- the passes that are left stand in order
  pub ended_order : (clients : List C) (passes left : List Received) (times : List ℕ) (callers : ℕ) → InOrder callers passes → length clients ≡ length passes → length left ≡ length clients → length times ≡ length clients
      → AllReported (Each serves) clients passes left times → InOrder callers left
  ended_order clients passes left times callers order same count many reports = record {
    count = count ∙ same ∙ order.count;
    each = λ k p at. (let q = left_caller clients passes left times same count many reports k p at in q.2 ∙ order.each k q.0 q.1);
  }

  -- and so they do with the worker's behind them
  pub paced_order : (clients : List C) (all passes left : List Received) (times : List ℕ) (callers : ℕ) (own pass : Received) → InOrder callers all → all ≡ passes ++ own ∷ [] → length clients ≡ length passes → length left ≡ length clients → length times ≡ length clients
      → AllReported (Each serves) clients passes left times → pass.caller ≡ own.caller → InOrder callers (left ++ pass ∷ [])
  paced_order clients all passes left times callers own pass order parts same count many reports mine =
      let front : InOrder (length passes) passes = record { count = refl; each = λ k p at. order.each k p (subst (λ (l : List Received). slice_get l k ≡ Some p) (sym parts) (get_left passes (own ∷ []) k p at)) } in
      let last : own.caller ≡ length passes = order.each (length passes) own (subst (λ (l : List Received). slice_get l (length passes) ≡ Some own) (sym parts) (get_push passes own)) in
      let ended = ended_order clients passes left times (length passes) front same count many reports in
      record {
        count = omega (arith, length_push left pass, length_push passes own, count, same, ap length parts, order.count);
        each = AllAt_push (λ (k : ℕ) (p : Received). p.caller ≡ k) left pass ended.each (mine ∙ last ∙ sym (count ∙ same));
      }

  -- what is each client's in the history
  pub all_served : (clients : List C) (passes left : List Received) (times : List ℕ) (history : List Entry) (all ended : List Received)
      → ((k : ℕ) (p : Received) → slice_get all k ≡ Some p → p.caller ≡ k) → ((k : ℕ) (p : Received) → k < length clients → slice_get all k ≡ Some p → slice_get passes k ≡ Some p)
      → ((k : ℕ) (p : Received) → slice_get left k ≡ Some p → slice_get ended k ≡ Some p)
      → length left ≡ length clients → length times ≡ length clients → AllReported (Each serves) clients passes left times
      → All (λ p. p.list ≡ entries_of history p.caller) ended → AllBegin history ended
      → AllServed (serves history) clients all history times
  all_served clients passes left times history all ended mine narrow widen count many reports lists begins = record {
    one_each = many;
    each = λ i client had n client_at had_at n_at.
        let within = slice_get_within clients i client client_at in
        let has = get_some left i (omega (arith, count, within)) in
        let place = widen i has.0 has.1 in
        let begun = all_at (λ (p : Received). IsPrefix p.known history) ended begins i has.0 place in
        let served = reports i client had has.0 n client_at (narrow i had within had_at) has.1 n_at history begun in
        let caller : has.0.caller ≡ i = keeps history client had has.0 n served ∙ mine i had had_at in
        record {
          has = has.0;
          caller_is = caller;
          list_is = all_at (λ (p : Received). p.list ≡ entries_of history p.caller) ended lists i has.0 place ∙ ap (entries_of history) caller;
          knows = begun;
          served = served;
        };
  }
