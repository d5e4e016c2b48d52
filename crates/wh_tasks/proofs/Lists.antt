-- stops linked in lists, as they come and as they are taken out
use Rattle.std.proofs.Common.{◌≡◌, ◌≢◌, ℕ, ◌+◌, ◌-◌, ◌*◌, ◌<◌, ◌≤◌, List, [], ◌∷◌, ◌++◌, ◌&&◌, nat_lt, length, map, take, drop, ap, refl, sym, ◌∙◌, subst, inl, inr, arith}
use Rattle.std.specs.Prelude.{slice_index_or}
use Rattle.std.proofs.lemmas.Bool.{cases_lt, cases_eq, cases_Bool, and_parts}
use Rattle.std.proofs.lemmas.Bool.Decides.{nat_tests}
use Rattle.std.proofs.lemmas.Nat.{mul-add-lt}
use Rattle.std.proofs.lemmas.Grind.{get_or-set_at, get_or_default_zero}
use Rattle.std.proofs.lemmas.List.{ext_get_or, get_or_past, get_or-set_same, get_or-set_other, length-set, length-map, map-set, map-append, length_push, drop_all, append-nil, take_all, get_or_append_left, get_or_push}
use Rattle.std.proofs.Math.ListN.{get_or-map, set}
use Rattle.wh_grid.specs.declared.cell.Cell.{Cell}
use Rattle.wh_tasks.specs.declared.cell_lists.Stop.{Stop}
use Rattle.wh_tasks.specs.declared.cell_lists.Linked.{Linked}
use Rattle.wh_tasks.specs.CellLists.{linked_at, list_of, listed, IsIn, IsLatest, IsEarliest, AreLinked, IsNextSet, IsBeforeSet}

-- the same are in up to the bound
latest_moved : (A B : ℕ → Type 0) (bound link : ℕ) → ((k : ℕ) → k < bound → A k → B k) → ((k : ℕ) → k < bound → B k → A k) → IsLatest A bound link → IsLatest B bound link
latest_moved A B bound link to from l =
    let within = l.within in
    record {
      within = within;
      there = λ k e. to k (omega arith) (l.there k e);
      last = λ k late soon b. l.last k late soon (from k soon b);
    }

earliest_moved : (A B : ℕ → Type 0) (from_ link : ℕ) → ((k : ℕ) → A k → B k) → ((k : ℕ) → B k → A k) → IsEarliest A from_ link → IsEarliest B from_ link
earliest_moved A B from_ link to from l = record {
  above = l.above;
  there = λ k e. to k (l.there k e);
  first = λ k late b. l.first k late (from k b);
}

-- another than the latest is taken out
latest_kept : (A B : ℕ → Type 0) (bound link out : ℕ) → ((k : ℕ) → A k → k ≢ out → B k) → ((k : ℕ) → B k → A k) → link ≢ out + 1 → IsLatest A bound link → IsLatest B bound link
latest_kept A B bound link out to from other l = record {
  within = l.within;
  there = λ k e. to k (l.there k e) (λ same. other (omega arith));
  last = λ k late soon b. l.last k late soon (from k b);
}

-- the latest is taken out: the one before it is the latest
latest_skipped : (A B : ℕ → Type 0) (bound link out next : ℕ) → ((k : ℕ) → A k → k ≢ out → B k) → ((k : ℕ) → B k → A k) → ¬ B out → link ≡ out + 1 → IsLatest A bound link → IsLatest A out next → IsLatest B bound next
latest_skipped A B bound link out next to from gone is l n =
    let within = l.within in
    let below = n.within in
    record {
      within = omega arith;
      there = λ k e. to k (n.there k e) (λ same. absurd (omega arith));
      last = λ k late soon b. elim (cases_lt k out) [
        | inl before ↦ n.last k late before (from k b)
        | inr after ↦ elim (cases_eq k out) [
          | inl same ↦ gone (subst B same b)
          | inr apart ↦ l.last k (omega arith) soon (from k b)
        ]
      ];
    }

earliest_kept : (A B : ℕ → Type 0) (from_ link out : ℕ) → ((k : ℕ) → A k → k ≢ out → B k) → ((k : ℕ) → B k → A k) → link ≢ out + 1 → IsEarliest A from_ link → IsEarliest B from_ link
earliest_kept A B from_ link out to from other l = record {
  above = l.above;
  there = λ k e. to k (l.there k e) (λ same. other (omega arith));
  first = λ k late b. l.first k late (from k b);
}

earliest_skipped : (A B : ℕ → Type 0) (from_ link out before : ℕ) → ((k : ℕ) → A k → k ≢ out → B k) → ((k : ℕ) → B k → A k) → ¬ B out → link ≡ out + 1 → IsEarliest A from_ link → IsEarliest A out before → IsEarliest B from_ before
earliest_skipped A B from_ link out before to from gone is l n =
    let over = l.above out is in
    record {
      above = λ k e. (let more = n.above k e in omega arith);
      there = λ k e. (let more = n.above k e in to k (n.there k e) (λ same. absurd (omega arith)));
      first = λ k late b. (
          let low = (l.first k late (from k b)).1 in
          elim (cases_eq k out) [
            | inl same ↦ absurd (gone (subst B same b))
            | inr apart ↦ n.first k (omega arith) (from k b)
          ]
          );
    }

-- whose next is the one that goes
next_is : (A : ℕ → Type 0) (out before j link : ℕ) → A out → IsEarliest A out before → before ≡ j + 1 → IsLatest A j link → link ≡ out + 1
next_is A out before j link is e at l =
    let over = e.above j at in
    let within = l.within in
    elim (cases_lt out link) [
      | inr low ↦ absurd (l.last out low over is)
      | inl some ↦ elim (cases_eq link (out + 1)) [
        | inl same ↦ same
        | inr apart ↦ (let far = (e.first (link - 1) (omega arith) (l.there (link - 1) (omega arith))).1 in absurd (omega arith))
      ]
    ]

next_other : (A : ℕ → Type 0) (out before j link : ℕ) → A out → A j → IsEarliest A out before → before ≢ j + 1 → IsLatest A j link → link ≢ out + 1
next_other A out before j link is has e apart l at =
    let within = l.within in
    let near = e.first j (omega arith) has in
    let some = near.0 in
    let low = near.1 in
    let over = e.above (before - 1) (omega arith) in
    l.last (before - 1) (omega arith) (omega arith) (e.there (before - 1) (omega arith))

top_is : (A : ℕ → Type 0) (out before n link : ℕ) → A out → out < n → IsEarliest A out before → before ≡ 0 → IsLatest A n link → link ≡ out + 1
top_is A out before n link is soon e none l =
    elim (cases_lt out link) [
      | inr low ↦ absurd (l.last out low soon is)
      | inl some ↦ elim (cases_eq link (out + 1)) [
        | inl same ↦ same
        | inr apart ↦ (let far = (e.first (link - 1) (omega arith) (l.there (link - 1) (omega arith))).0 in absurd (omega arith))
      ]
    ]

top_other : (A : ℕ → Type 0) (out before n link : ℕ) → ((k : ℕ) → A k → k < n) → IsEarliest A out before → before ≢ 0 → IsLatest A n link → link ≢ out + 1
top_other A out before n link within e some l at =
    let has = e.there (before - 1) (omega arith) in
    let over = e.above (before - 1) (omega arith) in
    l.last (before - 1) (omega arith) (within (before - 1) has) has

before_is : (A : ℕ → Type 0) (out next j link : ℕ) → A out → IsLatest A out next → next ≡ j + 1 → IsEarliest A j link → link ≡ out + 1
before_is A out next j link is l at e =
    let within = l.within in
    let near = e.first out (omega arith) is in
    let some = near.0 in
    let low = near.1 in
    elim (cases_eq link (out + 1)) [
      | inl same ↦ same
      | inr apart ↦
          let over = e.above (link - 1) (omega arith) in
          absurd (l.last (link - 1) (omega arith) (omega arith) (e.there (link - 1) (omega arith)))
    ]

before_other : (A : ℕ → Type 0) (out next j link : ℕ) → A j → IsLatest A out next → next ≢ j + 1 → IsEarliest A j link → link ≢ out + 1
before_other A out next j link has l apart e at =
    let over = e.above out at in
    let within = l.within in
    elim (cases_lt j next) [
      | inr low ↦ l.last j low over has
      | inl some ↦ (let far = (e.first (next - 1) (omega arith) (l.there (next - 1) (omega arith))).1 in absurd (omega arith))
    ]

abbrev pub no_linked : Linked
no_linked = record { stop = record { task = 0; cell = record { x = 0; y = 0 } }; next = 0; before = 0 }

-- each cell has a list
pub list_within : (width height : ℕ) (cell : Cell) → list_of width height cell < width * height + 1
list_within width height cell =
    elim (cases_Bool (nat_lt cell.x width && nat_lt cell.y height)) [
      | inl inside ↦
          let parts = and_parts (nat_lt cell.x width) (nat_lt cell.y height) inside in
          let x : cell.x < width = (let t = parts.0 in grind (arith, nat_tests)) in
          let y : cell.y < height = (let t = parts.1 in grind (arith, nat_tests)) in
          let low = mul-add-lt cell.y width cell.x height y x in
          rw inside (omega arith)
      | inr outside ↦ rw outside (omega arith)
    ]

-- what stands is there
pub stands_within : (stops : List Linked) (k : ℕ) → 0 < (linked_at stops k).stop.task → k < length stops
stands_within stops k some =
    elim (cases_lt k (length stops)) [
      | inl within ↦ within
      | inr past ↦ (let e = ap (λ (l : Linked). l.stop.task) (get_or_past stops k no_linked past) in absurd (omega arith))
    ]

-- what a change of links leaves
stop_before : (old new : List Linked) (link before : ℕ) → IsBeforeSet old new link before → (k : ℕ) → (linked_at new k).stop ≡ (linked_at old k).stop
stop_before old new link before is k =
    elim (cases_eq link (k + 1)) [
      | inl here ↦ ap (λ (l : Linked). l.stop) (is.here k here)
      | inr other ↦ ap (λ (l : Linked). l.stop) (is.others k other)
    ]

next_before : (old new : List Linked) (link before : ℕ) → IsBeforeSet old new link before → (k : ℕ) → (linked_at new k).next ≡ (linked_at old k).next
next_before old new link before is k =
    elim (cases_eq link (k + 1)) [
      | inl here ↦ ap (λ (l : Linked). l.next) (is.here k here)
      | inr other ↦ ap (λ (l : Linked). l.next) (is.others k other)
    ]

stop_next : (old new : List Linked) (link next : ℕ) → IsNextSet old new link next → (k : ℕ) → (linked_at new k).stop ≡ (linked_at old k).stop
stop_next old new link next is k =
    elim (cases_eq link (k + 1)) [
      | inl here ↦ ap (λ (l : Linked). l.stop) (is.here k here)
      | inr other ↦ ap (λ (l : Linked). l.stop) (is.others k other)
    ]

before_next : (old new : List Linked) (link next : ℕ) → IsNextSet old new link next → (k : ℕ) → (linked_at new k).before ≡ (linked_at old k).before
before_next old new link next is k =
    elim (cases_eq link (k + 1)) [
      | inl here ↦ ap (λ (l : Linked). l.before) (is.here k here)
      | inr other ↦ ap (λ (l : Linked). l.before) (is.others k other)
    ]

same_stops : (old new : List Linked) → length new ≡ length old → ((k : ℕ) → (linked_at new k).stop ≡ (linked_at old k).stop) → map (λ (s : Linked). s.stop) new ≡ map (λ (s : Linked). s.stop) old
same_stops old new size each =
    ext_get_or no_linked.stop (map (λ (s : Linked). s.stop) new) (map (λ (s : Linked). s.stop) old) (length-map new (λ s. s.stop) ∙ size ∙ sym (length-map old (λ s. s.stop)))
    (λ k within. get_or-map (λ s. s.stop) new k no_linked ∙ each k ∙ sym (get_or-map (λ s. s.stop) old k no_linked))

pub stops_before : (old new : List Linked) (link before : ℕ) → IsBeforeSet old new link before → map (λ (s : Linked). s.stop) new ≡ map (λ (s : Linked). s.stop) old
stops_before old new link before is = same_stops old new is.size (stop_before old new link before is)

pub stops_next : (old new : List Linked) (link next : ℕ) → IsNextSet old new link next → map (λ (s : Linked). s.stop) new ≡ map (λ (s : Linked). s.stop) old
stops_next old new link next is = same_stops old new is.size (stop_next old new link next is)

-- from old to new one stop was taken out, and those beside it are linked
record IsOut (old new : List Linked) (out : ℕ) : Type 0 where
  size : length new ≡ length old
  gone : (linked_at new out).stop.task ≡ 0
  stops : (k : ℕ) → k ≢ out → (linked_at new k).stop ≡ (linked_at old k).stop
  next_here : (k : ℕ) → k ≢ out → (linked_at old out).before ≡ k + 1 → (linked_at new k).next ≡ (linked_at old out).next
  next_others : (k : ℕ) → k ≢ out → (linked_at old out).before ≢ k + 1 → (linked_at new k).next ≡ (linked_at old k).next
  before_here : (k : ℕ) → k ≢ out → (linked_at old out).next ≡ k + 1 → (linked_at new k).before ≡ (linked_at old out).before
  before_others : (k : ℕ) → k ≢ out → (linked_at old out).next ≢ k + 1 → (linked_at new k).before ≡ (linked_at old k).before

in_moved : (width height : ℕ) (old new : List Linked) (place k : ℕ) → (linked_at new k).stop ≡ (linked_at old k).stop → IsIn width height old place k → IsIn width height new place k
in_moved width height old new place k e is = record {
  stands = subst (λ (s : Stop). 0 < s.task) (sym e) is.stands;
  place_is = ap (λ (s : Stop). list_of width height s.cell) e ∙ is.place_is;
}

out_linked : (width height : ℕ) (heads heads' : List ℕ) (old new : List Linked) (out : ℕ) → AreLinked width height heads old → 0 < (linked_at old out).stop.task → list_of width height (linked_at old out).stop.cell < length heads → IsOut old new out
    → ((linked_at old out).before ≡ 0 → heads' ≡ set heads (list_of width height (linked_at old out).stop.cell) (linked_at old out).next) → (0 < (linked_at old out).before → heads' ≡ heads)
    → AreLinked width height heads' new
out_linked width height heads heads' old new out linked stands has is head kept =
    let here = list_of width height (linked_at old out).stop.cell in
    let next = (linked_at old out).next in
    let before = (linked_at old out).before in
    let A : ℕ → ℕ → Type 0 = IsIn width height old in
    let B : ℕ → ℕ → Type 0 = IsIn width height new in
    let to : (place k : ℕ) → A place k → k ≢ out → B place k = λ place k a apart. in_moved width height old new place k (is.stops k apart) a in
    let not : (place k : ℕ) → B place k → k ≢ out = λ place k b same. (let t = subst (λ (n : ℕ). 0 < (linked_at new n).stop.task) same b.stands in let e = is.gone in absurd (omega arith)) in
    let from : (place k : ℕ) → B place k → A place k = λ place k b. in_moved width height new old place k (sym (is.stops k (not place k b))) b in
    let gone : (place : ℕ) → ¬ B place out = λ place b. not place out b refl in
    let within : (place k : ℕ) → A place k → k < length old = λ place k a. stands_within old k a.stands in
    let is_out : (place : ℕ) → place ≡ here → A place out = λ place e. record { stands = stands; place_is = sym e } in
    let apart_out : (place k : ℕ) → place ≢ here → A place k → k ≢ out = λ place k apart a same. apart (sym a.place_is ∙ ap (λ (n : ℕ). list_of width height (linked_at old n).stop.cell) same) in
    let aside : (place k : ℕ) → place ≢ here → A place k → (j : ℕ) → A here j → j ≢ k = λ place k apart a j b same. apart (sym a.place_is ∙ ap (λ (n : ℕ). list_of width height (linked_at old n).stop.cell) (sym same) ∙ b.place_is) in
    let top_in : (place : ℕ) → place ≡ here → IsLatest (B place) (length old) (slice_index_or heads' place 0) = λ place e. (
    let a = is_out place e in
    elim (cases_eq before 0) [
      | inl none ↦
          let new_head : slice_index_or heads' place 0 ≡ next = ap (λ (h : List ℕ). slice_index_or h place 0) (head none) ∙ get_or-set_at heads here place next 0 e has in
          subst (IsLatest (B place) (length old)) (sym new_head)
          (latest_skipped (A place) (B place) (length old) (slice_index_or heads place 0) out next (to place) (from place) (gone place)
          (top_is (A place) out before (length old) (slice_index_or heads place 0) a (within place out a) (linked.befores place out a) none (linked.tops place)) (linked.tops place) (linked.nexts place out a))
      | inr some ↦
          subst (λ (h : List ℕ). IsLatest (B place) (length old) (slice_index_or h place 0)) (sym (kept (omega arith)))
          (latest_kept (A place) (B place) (length old) (slice_index_or heads place 0) out (to place) (from place)
          (top_other (A place) out before (length old) (slice_index_or heads place 0) (within place) (linked.befores place out a) some (linked.tops place)) (linked.tops place))
    ]
    ) in
    let top_apart : (place : ℕ) → place ≢ here → IsLatest (B place) (length old) (slice_index_or heads' place 0) = λ place apart. (
    let same : slice_index_or heads' place 0 ≡ slice_index_or heads place 0 = elim (cases_eq before 0) [
      | inl none ↦ ap (λ (h : List ℕ). slice_index_or h place 0) (head none) ∙ get_or-set_other heads here place next 0 apart
      | inr some ↦ ap (λ (h : List ℕ). slice_index_or h place 0) (kept (omega arith))
    ] in
    subst (IsLatest (B place) (length old)) (sym same)
    (latest_moved (A place) (B place) (length old) (slice_index_or heads place 0) (λ k soon a. to place k a (apart_out place k apart a)) (λ k soon b. from place k b) (linked.tops place))
    ) in
    record {
      places = elim (cases_eq before 0) [
        | inl none ↦ ap (λ (h : List ℕ). length h) (head none) ∙ length-set heads here next ∙ linked.places
        | inr some ↦ ap (λ (h : List ℕ). length h) (kept (omega arith)) ∙ linked.places
      ];
      tops = λ place. subst (λ (n : ℕ). IsLatest (B place) n (slice_index_or heads' place 0)) (sym is.size) (elim (cases_eq place here) [
        | inl e ↦ top_in place e
        | inr apart ↦ top_apart place apart
      ]);
      nexts = λ place k b. (
          let a = from place k b in
          let not_out = not place k b in
          let old_next = (linked_at old k).next in
          elim (cases_eq place here) [
            | inl e ↦
                let o = is_out place e in
                elim (cases_eq before (k + 1)) [
                  | inl beside ↦
                      subst (IsLatest (B place) k) (sym (is.next_here k not_out beside))
                      (latest_skipped (A place) (B place) k old_next out next (to place) (from place) (gone place)
                      (next_is (A place) out before k old_next o (linked.befores place out o) beside (linked.nexts place k a)) (linked.nexts place k a) (linked.nexts place out o))
                  | inr other ↦
                      subst (IsLatest (B place) k) (sym (is.next_others k not_out other))
                      (latest_kept (A place) (B place) k old_next out (to place) (from place)
                      (next_other (A place) out before k old_next o a (linked.befores place out o) other (linked.nexts place k a)) (linked.nexts place k a))
                ]
            | inr apart ↦
                let o = is_out here refl in
                let other : before ≢ k + 1 = λ beside. aside place k apart a k ((linked.befores here out o).there k beside) refl in
                subst (IsLatest (B place) k) (sym (is.next_others k not_out other))
                (latest_moved (A place) (B place) k old_next (λ j soon x. to place j x (apart_out place j apart x)) (λ j soon x. from place j x) (linked.nexts place k a))
          ]
          );
      befores = λ place k b. (
          let a = from place k b in
          let not_out = not place k b in
          let old_before = (linked_at old k).before in
          elim (cases_eq place here) [
            | inl e ↦
                let o = is_out place e in
                elim (cases_eq next (k + 1)) [
                  | inl beside ↦
                      subst (IsEarliest (B place) k) (sym (is.before_here k not_out beside))
                      (earliest_skipped (A place) (B place) k old_before out before (to place) (from place) (gone place)
                      (before_is (A place) out next k old_before o (linked.nexts place out o) beside (linked.befores place k a)) (linked.befores place k a) (linked.befores place out o))
                  | inr other ↦
                      subst (IsEarliest (B place) k) (sym (is.before_others k not_out other))
                      (earliest_kept (A place) (B place) k old_before out (to place) (from place)
                      (before_other (A place) out next k old_before a (linked.nexts place out o) other (linked.befores place k a)) (linked.befores place k a))
                ]
            | inr apart ↦
                let o = is_out here refl in
                let other : next ≢ k + 1 = λ beside. aside place k apart a k ((linked.nexts here out o).there k beside) refl in
                subst (IsEarliest (B place) k) (sym (is.before_others k not_out other))
                (earliest_moved (A place) (B place) k old_before (λ j x. to place j x (apart_out place j apart x)) (from place) (linked.befores place k a))
          ]
          );
    }

-- a stop as the code writes it that is taken out
abbrev out_of : Linked → Linked
out_of l = record { stop = record { task = 0; cell = l.stop.cell }; next = l.next; before = l.before }

is_out : (old mid low : List Linked) (out : ℕ) → 0 < (linked_at old out).stop.task → IsNextSet old mid (linked_at old out).before (linked_at old out).next → IsBeforeSet mid low (linked_at old out).next (linked_at old out).before → IsOut old (set low out (out_of (linked_at low out))) out
is_out old mid low out stands n b =
    let next = (linked_at old out).next in
    let before = (linked_at old out).before in
    let new = set low out (out_of (linked_at low out)) in
    let size : length new ≡ length old = length-set low out (out_of (linked_at low out)) ∙ b.size ∙ n.size in
    let within = stands_within old out stands in
    let there : out < length low = (let e = b.size in let e' = n.size in omega arith) in
    let same : (k : ℕ) → k ≢ out → linked_at new k ≡ linked_at low k = λ k apart. get_or-set_other low out k (out_of (linked_at low out)) no_linked apart in
    record {
      size = size;
      gone = ap (λ (l : Linked). l.stop.task) (get_or-set_same low out (out_of (linked_at low out)) no_linked there);
      stops = λ k apart. ap (λ (l : Linked). l.stop) (same k apart) ∙ stop_before mid low next before b k ∙ stop_next old mid before next n k;
      next_here = λ k apart e. ap (λ (l : Linked). l.next) (same k apart) ∙ next_before mid low next before b k ∙ ap (λ (l : Linked). l.next) (n.here k e);
      next_others = λ k apart e. ap (λ (l : Linked). l.next) (same k apart) ∙ next_before mid low next before b k ∙ ap (λ (l : Linked). l.next) (n.others k e);
      before_here = λ k apart e. ap (λ (l : Linked). l.before) (same k apart) ∙ ap (λ (l : Linked). l.before) (b.here k e);
      before_others = λ k apart e. ap (λ (l : Linked). l.before) (same k apart) ∙ ap (λ (l : Linked). l.before) (b.others k e) ∙ before_next old mid before next n k;
    }

-- a stop that is taken out
pub linked_out : (width height : ℕ) (heads heads' : List ℕ) (old mid low : List Linked) (out : ℕ) → AreLinked width height heads old → 0 < (linked_at old out).stop.task → list_of width height (linked_at old out).stop.cell < width * height + 1
    → IsNextSet old mid (linked_at old out).before (linked_at old out).next → IsBeforeSet mid low (linked_at old out).next (linked_at old out).before
    → ((linked_at old out).before ≡ 0 → heads' ≡ set heads (list_of width height (linked_at old out).stop.cell) (linked_at old out).next) → (0 < (linked_at old out).before → heads' ≡ heads)
    → AreLinked width height heads' (set low out (out_of (linked_at low out)))
linked_out width height heads heads' old mid low out linked stands bound n b head kept =
    let there : list_of width height (linked_at old out).stop.cell < length heads = (let e = linked.places in omega arith) in
    out_linked width height heads heads' old (set low out (out_of (linked_at low out))) out linked stands there (is_out old mid low out stands n b) head kept

pub stops_out : (old mid low : List Linked) (out : ℕ) → IsNextSet old mid (linked_at old out).before (linked_at old out).next → IsBeforeSet mid low (linked_at old out).next (linked_at old out).before
    → map (λ (s : Linked). s.stop) (set low out (out_of (linked_at low out))) ≡ set (map (λ (s : Linked). s.stop) old) out (record { task = 0; cell = (linked_at old out).stop.cell })
stops_out old mid low out n b =
    let next = (linked_at old out).next in
    let before = (linked_at old out).before in
    let cell : (linked_at low out).stop.cell ≡ (linked_at old out).stop.cell = ap (λ (s : Stop). s.cell) (stop_before mid low next before b out ∙ stop_next old mid before next n out) in
    map-set (λ (s : Linked). s.stop) low out (out_of (linked_at low out))
    ∙ ap (λ (l : List Stop). set l out (record { task = 0; cell = (linked_at low out).stop.cell })) (stops_before mid low next before b ∙ stops_next old mid before next n)
    ∙ ap (λ (c : Cell). set (map (λ (s : Linked). s.stop) old) out (record { task = 0; cell = c })) cell

-- a link leads no further than to the end
pub before_within : (width height : ℕ) (heads : List ℕ) (stops : List Linked) (k : ℕ) → AreLinked width height heads stops → 0 < (linked_at stops k).stop.task → (linked_at stops k).before ≤ length stops
before_within width height heads stops k linked stands =
    let place = list_of width height (linked_at stops k).stop.cell in
    let e = linked.befores place k (record { stands = stands; place_is = refl }) in
    let before = (linked_at stops k).before in
    elim (cases_eq before 0) [
      | inl none ↦ omega arith
      | inr some ↦ (let within = stands_within stops (before - 1) (e.there (before - 1) (omega arith)).stands in omega arith)
    ]

pub next_within : (width height : ℕ) (heads : List ℕ) (stops : List Linked) (k : ℕ) → AreLinked width height heads stops → 0 < (linked_at stops k).stop.task → (linked_at stops k).next ≤ length stops
next_within width height heads stops k linked stands =
    let place = list_of width height (linked_at stops k).stop.cell in
    let low = (linked.nexts place k (record { stands = stands; place_is = refl })).within in
    let within = stands_within stops k stands in
    omega arith

-- a number more, which is not in
latest_later : (B : ℕ → Type 0) (n link : ℕ) → ¬ B n → IsLatest B n link → IsLatest B (n + 1) link
latest_later B n link not l =
    let within = l.within in
    record {
      within = omega arith;
      there = l.there;
      last = λ k late soon b. elim (cases_eq k n) [
        | inl same ↦ not (subst B same b)
        | inr apart ↦ l.last k late (omega arith) b
      ];
    }

-- a number more, which is in: it is the latest
latest_new : (B : ℕ → Type 0) (n : ℕ) → B n → IsLatest B (n + 1) (n + 1)
latest_new B n is = record {
  within = omega arith;
  there = λ k e. (let same : n ≡ k = omega arith in subst B same is);
  last = λ k late soon b. absurd (omega arith);
}

-- and it is the earliest after what was the latest
earliest_new : (A B : ℕ → Type 0) (n from_ link : ℕ) → ((k : ℕ) → k < n → B k → A k) → B n → from_ < n → link ≡ from_ + 1 → IsLatest A n link → IsEarliest B from_ (n + 1)
earliest_new A B n from_ link from is low at l = record {
  above = λ k e. omega arith;
  there = λ k e. (let same : n ≡ k = omega arith in subst B same is);
  first = λ k late b. elim (cases_lt k n) [
    | inl soon ↦ absurd (l.last k (omega arith) soon (from k soon b))
    | inr after ↦ (omega arith, omega arith)
  ];
}

-- for all others there was one after them
earliest_still : (A B : ℕ → Type 0) (n from_ link top : ℕ) → ((k : ℕ) → A k → B k) → ((k : ℕ) → k < n → B k → A k) → A from_ → from_ < n → top ≢ from_ + 1 → IsLatest A n top → IsEarliest A from_ link → IsEarliest B from_ link
earliest_still A B n from_ link top to from has low apart l e =
    let within = l.within in
    let more : from_ + 1 < top = elim (cases_lt from_ top) [
      | inl over ↦ omega arith
      | inr under ↦ absurd (l.last from_ under low has)
    ] in
    let some = e.first (top - 1) (omega arith) (l.there (top - 1) (omega arith)) in
    record {
      above = e.above;
      there = λ k at. to k (e.there k at);
      first = λ k late b. elim (cases_lt k n) [
        | inl soon ↦ e.first k late (from k soon b)
        | inr after ↦ (some.0, (let few = some.1 in omega arith))
      ];
    }

-- a stop that comes
pub linked_in : (width height : ℕ) (heads : List ℕ) (old mid : List Linked) (x : Linked) → AreLinked width height heads old → 0 < x.stop.task → x.next ≡ slice_index_or heads (list_of width height x.stop.cell) 0 → x.before ≡ 0
    → IsBeforeSet old mid x.next (length old + 1) → AreLinked width height (set heads (list_of width height x.stop.cell) (length old + 1)) (mid ++ x ∷ [])
linked_in width height heads old mid x linked stands next_is none b =
    let n = length old in
    let here = list_of width height x.stop.cell in
    let new = mid ++ x ∷ [] in
    let heads' = set heads here (n + 1) in
    let size : length new ≡ n + 1 = (let e = length_push mid x in let e' = b.size in omega arith) in
    let there : here < length heads = (let e = linked.places in let e' = list_within width height x.stop.cell in omega arith) in
    let A : ℕ → ℕ → Type 0 = IsIn width height old in
    let B : ℕ → ℕ → Type 0 = IsIn width height new in
    let low_at : (k : ℕ) → k < n → linked_at new k ≡ linked_at mid k = λ k soon. get_or_append_left mid (x ∷ []) no_linked k (let e = b.size in omega arith) in
    let last_at : linked_at new n ≡ x = get_or_push mid x no_linked n (let e = b.size in omega arith) in
    let stop_at : (k : ℕ) → k < n → (linked_at new k).stop ≡ (linked_at old k).stop = λ k soon. ap (λ (l : Linked). l.stop) (low_at k soon) ∙ stop_before old mid x.next (n + 1) b k in
    let next_at : (k : ℕ) → k < n → (linked_at new k).next ≡ (linked_at old k).next = λ k soon. ap (λ (l : Linked). l.next) (low_at k soon) ∙ next_before old mid x.next (n + 1) b k in
    let old_within : (place k : ℕ) → A place k → k < n = λ place k a. stands_within old k a.stands in
    let new_within : (place k : ℕ) → B place k → k < n + 1 = λ place k a. (let w = stands_within new k a.stands in omega arith) in
    let to : (place k : ℕ) → A place k → B place k = λ place k a. in_moved width height old new place k (stop_at k (old_within place k a)) a in
    let from : (place k : ℕ) → k < n → B place k → A place k = λ place k soon a. in_moved width height new old place k (sym (stop_at k soon)) a in
    let new_in : (place : ℕ) → place ≡ here → B place n = λ place e. record {
      stands = subst (λ (l : Linked). 0 < l.stop.task) (sym last_at) stands;
      place_is = ap (λ (l : Linked). list_of width height l.stop.cell) last_at ∙ sym e;
    } in
    let new_here : (place : ℕ) → B place n → place ≡ here = λ place a. sym a.place_is ∙ ap (λ (l : Linked). list_of width height l.stop.cell) last_at in
    let soon : (place k : ℕ) → place ≢ here → B place k → k < n = λ place k apart a. (
    let w = new_within place k a in
    elim (cases_eq k n) [
      | inl same ↦ absurd (apart (new_here place (subst (B place) same a)))
      | inr other ↦ omega arith
    ]
    ) in
    record {
      places = length-set heads here (n + 1) ∙ linked.places;
      tops = λ place. subst (λ (m : ℕ). IsLatest (B place) m (slice_index_or heads' place 0)) (sym size) (elim (cases_eq place here) [
        | inl e ↦ subst (IsLatest (B place) (n + 1)) (sym (get_or-set_at heads here place (n + 1) 0 e there)) (latest_new (B place) n (new_in place e))
        | inr apart ↦
            subst (IsLatest (B place) (n + 1)) (sym (get_or-set_other heads here place (n + 1) 0 apart))
            (latest_later (B place) n (slice_index_or heads place 0) (λ a. apart (new_here place a))
            (latest_moved (A place) (B place) n (slice_index_or heads place 0) (λ k low a. to place k a) (from place) (linked.tops place)))
      ]);
      nexts = λ place k a. elim (cases_eq k n) [
        | inl e ↦
            let is = new_here place (subst (B place) e a) in
            let next : (linked_at new k).next ≡ slice_index_or heads place 0 = ap (λ (m : ℕ). (linked_at new m).next) e ∙ ap (λ (l : Linked). l.next) last_at ∙ next_is ∙ ap (λ (p : ℕ). slice_index_or heads p 0) (sym is) in
            subst (IsLatest (B place) k) (sym next) (subst (λ (m : ℕ). IsLatest (B place) m (slice_index_or heads place 0)) (sym e)
            (latest_moved (A place) (B place) n (slice_index_or heads place 0) (λ j low a. to place j a) (from place) (linked.tops place)))
        | inr apart ↦
            let w = new_within place k a in
            let low : k < n = omega arith in
            subst (IsLatest (B place) k) (sym (next_at k low))
            (latest_moved (A place) (B place) k (linked_at old k).next (λ j soon a. to place j a) (λ j soon a. from place j (omega arith) a) (linked.nexts place k (from place k low a)))
      ];
      befores = λ place k a. elim (cases_eq k n) [
        | inl e ↦
            let before : (linked_at new k).before ≡ 0 = ap (λ (m : ℕ). (linked_at new m).before) e ∙ ap (λ (l : Linked). l.before) last_at ∙ none in
            subst (IsEarliest (B place) k) (sym before) (record {
              above = λ j at. absurd (omega arith);
              there = λ j at. absurd (omega arith);
              first = λ j late b. (let w = new_within place j b in absurd (omega arith));
            })
        | inr apart ↦
            let w = new_within place k a in
            let low : k < n = omega arith in
            let has = from place k low a in
            let before_low : (linked_at new k).before ≡ (linked_at mid k).before = ap (λ (l : Linked). l.before) (low_at k low) in
            elim (cases_eq place here) [
              | inl e ↦ elim (cases_eq x.next (k + 1)) [
                | inl beside ↦
                    subst (IsEarliest (B place) k) (sym (before_low ∙ ap (λ (l : Linked). l.before) (b.here k beside)))
                    (earliest_new (A place) (B place) n k (slice_index_or heads place 0) (from place) (new_in place e) low (ap (λ (p : ℕ). slice_index_or heads p 0) e ∙ sym next_is ∙ beside) (linked.tops place))
                | inr other ↦
                    subst (IsEarliest (B place) k) (sym (before_low ∙ ap (λ (l : Linked). l.before) (b.others k other)))
                    (earliest_still (A place) (B place) n k (linked_at old k).before (slice_index_or heads place 0) (to place) (from place) has low
                    (λ at. other (next_is ∙ ap (λ (p : ℕ). slice_index_or heads p 0) (sym e) ∙ at)) (linked.tops place) (linked.befores place k has))
              ]
              | inr aside ↦
                  let other : x.next ≢ k + 1 = λ at. aside (sym has.place_is ∙ ((linked.tops here).there k (sym next_is ∙ at)).place_is) in
                  subst (IsEarliest (B place) k) (sym (before_low ∙ ap (λ (l : Linked). l.before) (b.others k other)))
                  (earliest_moved (A place) (B place) k (linked_at old k).before (to place) (λ j a. from place j (soon place j aside a) a) (linked.befores place k has))
            ]
      ];
    }

-- a list that is written back
pub written_back : (new items : List Linked) (n : ℕ) → length new ≡ length items → n ≡ length items → take n (new ++ drop (length new) items) ≡ new
written_back new items n size all =
    ap (λ (rest : List Linked). take n (new ++ rest)) (drop_all (length new) items (omega arith)) ∙ ap (λ (l : List Linked). take n l) (append-nil new) ∙ take_all n new (omega arith)

-- a stop that comes, as the code has it
pub linked_push : (width height : ℕ) (heads : List ℕ) (old was mid : List Linked) (x : Linked) (place number : ℕ) → AreLinked width height heads old → was ≡ old → number ≡ length old → place ≡ list_of width height x.stop.cell → 0 < x.stop.task
    → x.next ≡ slice_index_or heads place x.next → x.before ≡ 0 → IsBeforeSet was mid x.next (number + 1) → AreLinked width height (set heads place (number + 1)) (mid ++ x ∷ [])
linked_push width height heads old was mid x place number linked same count here stands next none b =
    let low : place < length heads = (let e = linked.places in let e' = list_within width height x.stop.cell in omega arith) in
    let b' : IsBeforeSet old mid x.next (length old + 1) = subst (λ (n : ℕ). IsBeforeSet old mid x.next (n + 1)) count (subst (λ (l : List Linked). IsBeforeSet l mid x.next (number + 1)) same b) in
    let top : x.next ≡ slice_index_or heads (list_of width height x.stop.cell) 0 = next ∙ get_or_default_zero heads place x.next low ∙ ap (λ (p : ℕ). slice_index_or heads p 0) here in
    subst (λ (n : ℕ). AreLinked width height (set heads place (n + 1)) (mid ++ x ∷ [])) (sym count)
    (subst (λ (p : ℕ). AreLinked width height (set heads p (length old + 1)) (mid ++ x ∷ [])) (sym here) (linked_in width height heads old mid x linked stands top none b'))

pub stops_push : (old was mid : List Linked) (x : Linked) (task link before : ℕ) (cell : Cell) → was ≡ old → IsBeforeSet was mid link before → x.stop ≡ listed task cell → map (λ (s : Linked). s.stop) (mid ++ x ∷ []) ≡ map (λ (s : Linked). s.stop) old ++ listed task cell ∷ []
stops_push old was mid x task link before cell same b is =
    map-append (λ (s : Linked). s.stop) mid (x ∷ [])
    ∙ ap (λ (l : List Stop). l ++ x.stop ∷ []) (stops_before was mid link before b ∙ ap (λ (l : List Linked). map (λ (s : Linked). s.stop) l) same)
    ∙ ap (λ (s : Stop). map (λ (s : Linked). s.stop) old ++ s ∷ []) is
