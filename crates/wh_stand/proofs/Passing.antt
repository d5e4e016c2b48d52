-- which stops a path's cells up to its end go past
use Rattle.std.proofs.Common.{◌≡◌, ℕ, ◌+◌, ◌-◌, ◌<◌, ◌≤◌, ◌∙◌, ◌↔◌, inl, inr, List, [], ◌∷◌, ◌++◌, Bool, true, false, cond, ltb, min, length, sym, ap, arith, length-append}
use Rattle.std.proofs.lemmas.Bool.{cases_lt}
use Rattle.std.proofs.lemmas.List.{get_or_append_left}
use Rattle.std.proofs.Math.Seq.{get_or-append_seam}
use Rattle.wh_grid.specs.declared.cell.Cell.{Cell}
use Rattle.wh_path.specs.Paths.{at, end, cell_at, last_index, VisitsInOrder}
use Rattle.wh_path.proofs.AtLemmas.{at-beyond}
use Rattle.wh_tasks.proofs.Loads.{lt-ltb, ge-ltb}
use Rattle.wh_planner.specs.Duties.{Delivers}
use Rattle.wh_core.specs.Steps.{homeward}
use Rattle.wh_stand.specs.Ways.{GoesPast, last_of}

at-rests : (p : List Cell) (j k : ℕ) → last_index p ≤ j → last_index p ≤ k → at p j ≡ at p k
at-rests p j k f g = at-beyond p j f ∙ sym (at-beyond p k g)

-- after the times below k, so many stops were visited; and every way to visit all has its stops of those times among them
pub record IsVisiting (stops path : List Cell) (k visited : ℕ) : Type 0 where
  pub few : visited ≤ length stops
  pub when : ℕ → ℕ
  pub in_order : (i j : ℕ) → i ≤ j → when i ≤ when j
  pub there : (i : ℕ) → i < visited → at path (when i) ≡ cell_at stops i
  pub in_time : (i : ℕ) → when i ≤ k
  pub most : (any : VisitsInOrder path stops) (i : ℕ) → i < length stops → any.when i < k → i < visited

pub visiting-none : (stops path : List Cell) → IsVisiting stops path 0 0
visiting-none stops path = record {
  few = omega arith;
  when = λ i. 0;
  in_order = λ i j le. omega arith;
  there = λ i h. absurd (omega arith);
  in_time = λ i. omega arith;
  most = λ any i h l. absurd (omega arith);
}

abbrev extended : ℕ → (ℕ → ℕ) → ℕ → ℕ → ℕ
extended visited when k i = cond (ltb i visited) (when i) k

extended-low : (visited : ℕ) (when : ℕ → ℕ) (k i : ℕ) → i < visited → extended visited when k i ≡ when i
extended-low visited when k i h = ap (λ b. cond b (when i) k) (lt-ltb i visited h)

extended-high : (visited : ℕ) (when : ℕ → ℕ) (k i : ℕ) → visited ≤ i → extended visited when k i ≡ k
extended-high visited when k i h = ap (λ b. cond b (when i) k) (ge-ltb i visited h)

pub visiting-more : (stops path : List Cell) (k visited after : ℕ) → IsVisiting stops path k visited → GoesPast stops visited (at path k) after → IsVisiting stops path (k + 1) after
visiting-more stops path k visited after old past = record {
  few = past.few;
  when = extended visited old.when k;
  in_order = λ i j le. elim (cases_lt j visited) [
    | inl l ↦
        let a = extended-low visited old.when k i (omega arith) in
        let b = extended-low visited old.when k j l in
        let c = old.in_order i j le in
        omega arith
    | inr l ↦
        let b = extended-high visited old.when k j l in
        elim (cases_lt i visited) [
          | inl m ↦ (let a = extended-low visited old.when k i m in let c = old.in_time i in omega arith)
          | inr m ↦ (let a = extended-high visited old.when k i m in omega arith)
        ]
  ];
  there = λ i h. elim (cases_lt i visited) [
    | inl l ↦ ap (λ t. at path t) (extended-low visited old.when k i l) ∙ old.there i l
    | inr l ↦ ap (λ t. at path t) (extended-high visited old.when k i l) ∙ sym (past.each_here i l h)
  ];
  in_time = λ i. elim (cases_lt i visited) [
    | inl l ↦ (let a = extended-low visited old.when k i l in let c = old.in_time i in omega arith)
    | inr l ↦ (let a = extended-high visited old.when k i l in omega arith)
  ];
  most = λ any i h l. elim (cases_lt i after) [
    | inl m ↦ m
    | inr m ↦
        let order = any.in_order after i m in
        let forward = past.forward in
        elim (cases_lt (any.when after) k) [
          | inl early ↦ absurd (let c = old.most any after (omega arith) early in omega arith)
          | inr late ↦
              let now : any.when after ≡ k = omega arith in
              absurd (past.next_elsewhere (omega arith) (sym (any.there after (omega arith)) ∙ ap (λ t. at path t) now))
        ]
  ];
}

-- the same visits, none after the path's end
pub capped : (stops path : List Cell) → VisitsInOrder path stops → (v : VisitsInOrder path stops) × ((i : ℕ) → v.when i ≤ last_index path)
capped stops path v = (
  record {
    when = λ i. min (v.when i) (last_index path);
    in_order = λ i j le. (let h = v.in_order i j le in omega arith);
    there = λ i h. elim (cases_lt (v.when i) (last_index path)) [
      | inl l ↦
          let e : min (v.when i) (last_index path) ≡ v.when i = omega arith in
          ap (λ t. at path t) e ∙ v.there i h
      | inr l ↦
          let e : min (v.when i) (last_index path) ≡ last_index path = omega arith in
          ap (λ t. at path t) e ∙ at-rests path (last_index path) (v.when i) (omega arith) l ∙ v.there i h
    ];
  },
  λ i. omega arith,
)

-- at the end all were visited exactly if they can be
pub all-visited : (stops path : List Cell) (k visited : ℕ) → IsVisiting stops path k visited → last_index path < k → (visited ≡ length stops) ↔ VisitsInOrder path stops
all-visited stops path k visited v past = (
  λ same. record { when = v.when; in_order = v.in_order; there = λ i h. v.there i (omega (arith, same)) },
  λ any. elim (cases_lt visited (length stops)) [
    | inl l ↦
        let c = capped stops path any in
        absurd (let m = v.most c.0 (length stops - 1) (omega arith) (let n = c.1 (length stops - 1) in omega arith) in omega arith)
    | inr l ↦ (let f = v.few in omega arith)
  ],
)

-- ---- and on home, if paths go there

at-first : (stops : List Cell) (home : Cell) (i : ℕ) → i < length stops → cell_at (stops ++ home ∷ []) i ≡ cell_at stops i
at-first stops home i h = get_or_append_left stops (home ∷ []) (record { x = 0; y = 0 }) i h

at-last : (stops : List Cell) (home : Cell) → cell_at (stops ++ home ∷ []) (length (stops ++ home ∷ []) - 1) ≡ home
at-last stops home =
    ap (λ n. cell_at (stops ++ home ∷ []) n) (let n = length-append stops (home ∷ []) in let e : length (stops ++ home ∷ []) - 1 ≡ length stops = omega arith in e)
    ∙ get_or-append_seam stops home [] _

home-visits : (stops path : List Cell) (home : Cell) → VisitsInOrder path stops → end path ≡ home → VisitsInOrder path (stops ++ home ∷ [])
home-visits stops path home v ends =
    let c = capped stops path v in
    let w = c.0.when in
    let n = length stops in
    record {
      when = extended n w (last_index path);
      in_order = λ i j le. elim (cases_lt j n) [
        | inl l ↦
            let a = extended-low n w (last_index path) i (omega arith) in
            let b = extended-low n w (last_index path) j l in
            let o = c.0.in_order i j le in
            omega arith
        | inr l ↦
            let b = extended-high n w (last_index path) j l in
            elim (cases_lt i n) [
              | inl m ↦ (let a = extended-low n w (last_index path) i m in let o = c.1 i in omega arith)
              | inr m ↦ (let a = extended-high n w (last_index path) i m in omega arith)
            ]
      ];
      there = λ i h. elim (cases_lt i n) [
        | inl l ↦ ap (λ t. at path t) (extended-low n w (last_index path) i l) ∙ c.0.there i l ∙ sym (at-first stops home i l)
        | inr l ↦
            let m = length-append stops (home ∷ []) in
            let e : i ≡ length (stops ++ home ∷ []) - 1 = omega (arith, h, l, m) in
            ap (λ t. at path t) (extended-high n w (last_index path) i l) ∙ ends ∙ sym (at-last stops home) ∙ sym (ap (λ k. cell_at (stops ++ home ∷ []) k) e)
      ];
    }

pub delivers-by : (homes : Bool) (home : Cell) (stops path : List Cell) → VisitsInOrder path stops → end path ≡ last_of homes home stops → Delivers (homeward homes home stops) path
delivers-by false home stops path v ends = record { visits = v; ends_there = ends }
delivers-by true home stops path v ends = record { visits = home-visits stops path home v ends; ends_there = ends ∙ sym (at-last stops home) }

pub delivers-to : (homes : Bool) (home : Cell) (stops path : List Cell) → Delivers (homeward homes home stops) path → VisitsInOrder path stops × (end path ≡ last_of homes home stops)
delivers-to false home stops path d = (d.visits, d.ends_there)
delivers-to true home stops path d = (
  record {
    when = d.visits.when;
    in_order = d.visits.in_order;
    there = λ i h. d.visits.there i (let n = length-append stops (home ∷ []) in omega arith) ∙ at-first stops home i h;
  },
  d.ends_there ∙ at-last stops home,
)
