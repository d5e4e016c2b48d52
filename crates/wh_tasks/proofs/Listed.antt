-- stops in lists as callers see them
use Rattle.std.proofs.Common.{◌≡◌, ◌≢◌, ℕ, ◌+◌, ◌-◌, ◌<◌, ◌≤◌, List, Option, None, Some, suc, length, map, ap, sym, ◌∙◌, subst, inl, inr, arith}
use Rattle.std.specs.Prelude.{slice_index_or, IfNone}
use Rattle.std.proofs.lemmas.Bool.{cases_lt, cases_eq}
use Rattle.std.proofs.lemmas.Grind.{get_or-set_at, get_or_default_zero}
use Rattle.std.proofs.lemmas.List.{get_or-set_other, length-set, length-map, get_or_read}
use Rattle.std.proofs.lemmas.Option.{get_or_from_slice_get, slice_get-get_or, slice_get_past}
use Rattle.std.proofs.Math.ListN.{get_or-map, set}
use Rattle.wh_grid.specs.declared.cell.Cell.{Cell}
use Rattle.wh_tasks.specs.declared.cell_lists.Stop.{Stop}
use Rattle.wh_tasks.specs.declared.cell_lists.Linked.{Linked}
use Rattle.wh_tasks.specs.CellLists.{linked_at, list_of, listed, StandsAt, Stands, IsIn, IsLatest, IsLastBelow, NoneBelow, AreNexts, AreLinked, Leads, AreTakenOut}
use Rattle.wh_tasks.proofs.Lists.{no_linked, stands_within, list_within}

abbrev pub stops_of : List Linked → List Stop
stops_of stops = map (λ (s : Linked). s.stop) stops

-- what stands at a cell
stands_at : (stops : List Linked) (k : ℕ) (cell : Cell) → 0 < (linked_at stops k).stop.task → (linked_at stops k).stop.cell ≡ cell → StandsAt (stops_of stops) k ((linked_at stops k).stop.task - 1) cell
stands_at stops k cell some e =
    let within = stands_within stops k some in
    let low : k < length (stops_of stops) = (let same = length-map stops (λ (s : Linked). s.stop) in omega arith) in
    let task : (linked_at stops k).stop.task ≡ suc ((linked_at stops k).stop.task - 1) = omega arith in
    let one : (linked_at stops k).stop ≡ listed ((linked_at stops k).stop.task - 1) cell = λ i. record { task = task i; cell = e i } in
    slice_get-get_or (stops_of stops) k no_linked.stop low ∙ ap (λ (s : Stop). Some s) (get_or-map (λ s. s.stop) stops k no_linked ∙ one)

listed_at : (stops : List Linked) (k task : ℕ) (cell : Cell) → StandsAt (stops_of stops) k task cell → (linked_at stops k).stop ≡ listed task cell
listed_at stops k task cell is = sym (get_or-map (λ (s : Linked). s.stop) stops k no_linked) ∙ get_or_from_slice_get (stops_of stops) k (listed task cell) no_linked.stop is

pub listed_in : (width height : ℕ) (stops : List Linked) (k task : ℕ) (cell : Cell) → StandsAt (stops_of stops) k task cell → IsIn width height stops (list_of width height cell) k
listed_in width height stops k task cell is =
    let e = listed_at stops k task cell is in
    record {
      stands = subst (λ (s : Stop). 0 < s.task) (sym e) (omega arith);
      place_is = ap (λ (s : Stop). list_of width height s.cell) e;
    }

-- from a link on: all that stand at the cell and come before the start come before it
pub record IsWalk (stops : List Linked) (cell : Cell) (start at : ℕ) : Type 0 where
  pub width : ℕ
  pub height : ℕ
  pub nexts : AreNexts width height stops
  pub leads : Leads width height stops at cell
  pub within : at ≤ start
  pub few : start ≤ length stops
  pub others : (k task : ℕ) → at ≤ k → k < start → ¬ StandsAt (stops_of stops) k task cell

pub walk_next : (stops : List Linked) (cell : Cell) (start at : ℕ) → IsWalk stops cell start at → 0 < at → (linked_at stops (at - 1)).stop.cell ≢ cell → IsWalk stops cell start (linked_at stops (at - 1)).next
walk_next stops cell start at walk more other =
    let k = at - 1 in
    let place = list_of walk.width walk.height cell in
    let l = walk.nexts place k (walk.leads k (omega arith)) in
    let below = l.within in
    let within = walk.within in
    record {
      width = walk.width;
      height = walk.height;
      nexts = walk.nexts;
      leads = l.there;
      within = omega arith;
      few = walk.few;
      others = λ j task late soon is. elim (cases_lt j k) [
        | inl before ↦ l.last j late before (listed_in walk.width walk.height stops j task cell is)
        | inr after ↦ elim (cases_eq j k) [
          | inl same ↦ other (ap (λ (n : ℕ). (linked_at stops n).stop.cell) (sym same) ∙ ap (λ (s : Stop). s.cell) (listed_at stops j task cell is))
          | inr apart ↦ walk.others j task (omega arith) soon is
        ]
      ];
    }

pub next_smaller : (stops : List Linked) (cell : Cell) (start at : ℕ) → IsWalk stops cell start at → 0 < at → (linked_at stops (at - 1)).next < at
next_smaller stops cell start at walk more =
    let below = (walk.nexts (list_of walk.width walk.height cell) (at - 1) (walk.leads (at - 1) (omega arith))).within in
    omega arith

pub walk_found : (stops : List Linked) (cell : Cell) (start at : ℕ) → IsWalk stops cell start at → 0 < at → (linked_at stops (at - 1)).stop.cell ≡ cell → IsLastBelow (stops_of stops) cell start (at - 1)
walk_found stops cell start at walk more e =
    let within = walk.within in
    record {
      below = omega arith;
      task = (linked_at stops (at - 1)).stop.task - 1;
      stands = stands_at stops (at - 1) cell (walk.leads (at - 1) (omega arith)).stands e;
      last = λ j other late soon. walk.others j other (omega arith) soon;
    }

-- what is the last below a link is the last below the bound of which that is the latest
pub last_reaches : (width height : ℕ) (stops : List Linked) (cell : Cell) (bound start k : ℕ) → IsLatest (IsIn width height stops (list_of width height cell)) bound start → IsLastBelow (stops_of stops) cell start k → IsLastBelow (stops_of stops) cell bound k
last_reaches width height stops cell bound start k l is =
    let within = l.within in
    let below = is.below in
    record {
      below = omega arith;
      task = is.task;
      stands = is.stands;
      last = λ j other late soon there. elim (cases_lt j start) [
        | inl low ↦ is.last j other late low there
        | inr high ↦ l.last j high soon (listed_in width height stops j other cell there)
      ];
    }

pub none_reaches : (width height : ℕ) (stops : List Linked) (cell : Cell) (bound start : ℕ) → IsLatest (IsIn width height stops (list_of width height cell)) bound start → NoneBelow (stops_of stops) cell start → NoneBelow (stops_of stops) cell bound
none_reaches width height stops cell bound start l none j other soon there =
    elim (cases_lt j start) [
      | inl low ↦ none j other low there
      | inr high ↦ l.last j high soon (listed_in width height stops j other cell there)
    ]

-- where a cell's list starts, as the code reads it
pub list_starts : (width height : ℕ) (heads : List ℕ) (stops : List Linked) (place start : ℕ) (cell : Cell) → AreLinked width height heads stops → place ≡ list_of width height cell → start ≡ slice_index_or heads place start → IsLatest (IsIn width height stops (list_of width height cell)) (length stops) start
list_starts width height heads stops place start cell linked here e =
    let low : place < length heads = (let a = linked.places in let b = list_within width height cell in omega arith) in
    let top : start ≡ slice_index_or heads (list_of width height cell) 0 = e ∙ get_or_default_zero heads place start low ∙ ap (λ (p : ℕ). slice_index_or heads p 0) here in
    subst (IsLatest (IsIn width height stops (list_of width height cell)) (length stops)) (sym top) (linked.tops (list_of width height cell))

-- where it goes on from a stop
pub list_goes_on : (width height : ℕ) (heads : List ℕ) (stops : List Linked) (k task : ℕ) (linked : Linked) (cell : Cell) → AreLinked width height heads stops → StandsAt (stops_of stops) k task cell → linked ≡ slice_index_or stops k linked → IsLatest (IsIn width height stops (list_of width height cell)) k linked.next
list_goes_on width height heads stops k task l cell linked stands e =
    let is = listed_in width height stops k task cell stands in
    let same : l ≡ linked_at stops k = get_or_read stops k l (stands_within stops k is.stands) e no_linked in
    subst (λ (x : Linked). IsLatest (IsIn width height stops (list_of width height cell)) k x.next) (sym same) (linked.nexts (list_of width height cell) k is)

-- what follows from a clause on none
pub IfNone_then : {X : Type 0} (o : Option X) {P Q : Type 0} → IfNone o P → (P → Q) → IfNone o Q
IfNone_then None is to = to is
IfNone_then (Some x) is to = is

-- one that is taken out
pub taken_one : (old new : List Stop) (k : ℕ) (cell : Cell) → k < length old → new ≡ set old k (record { task = 0; cell = cell }) → AreTakenOut k 1 old new
taken_one old new k cell within e =
    let out : Stop = record { task = 0; cell = cell } in
    let each : length new ≡ length old = ap (λ (l : List Stop). length l) e ∙ length-set old k out in
    record {
      each = each;
      out = λ j task at late soon is. (
          let zero : 0 ≡ suc task = sym (ap (λ (s : Stop). s.task) (ap (λ (l : List Stop). slice_index_or l j out) e ∙ get_or-set_at old k j out out (omega arith) within)) ∙ ap (λ (s : Stop). s.task) (get_or_from_slice_get new j (listed task at) out is) in
          omega arith
          );
      others = λ j apart. (
          let not : j ≢ k = λ same. elim apart [ inl low ↦ absurd (omega arith) | inr high ↦ absurd (omega arith) ] in
          elim (cases_lt j (length old)) [
            | inl low ↦
                let low' : j < length new = omega arith in
                slice_get-get_or new j out low' ∙ ap (λ (s : Stop). Some s) (ap (λ (l : List Stop). slice_index_or l j out) e ∙ get_or-set_other old k j out out not) ∙ sym (slice_get-get_or old j out low)
            | inr high ↦ slice_get_past new j (omega arith) ∙ sym (slice_get_past old j high)
          ]
          );
    }

-- one after those that were taken out stands still
pub stands_still : (first count k : ℕ) (old new : List Stop) → AreTakenOut first count old new → first + count ≤ k → Stands old k → Stands new k
stands_still first count k old new so after is = (is.0, is.1, so.others k (inr after) ∙ is.2)
