-- stops that are left to visit, along a path; and the stops of a tour
use Rattle.std.proofs.Common.{◌≡◌, ◌≢◌, ℕ, ◌+◌, ◌-◌, ◌<◌, ◌≤◌, ◌∙◌, inl, inr, List, [], ◌∷◌, ◌++◌, Bool, true, false, length, drop, sym, subst, refl, ap, arith}
use Prim.Native.Nat.{zero, suc}
use Rattle.std.proofs.Math.ListN.{get_or-append}
use Rattle.std.proofs.Math.Seq.{get_or-drop, get_or-append_seam}
use Rattle.std.proofs.lemmas.List.{length-drop, length-append}
use Rattle.std.proofs.lemmas.Bool.{cases_eq}
use Rattle.wh_grid.specs.declared.cell.Cell.{Cell}
use Rattle.wh_path.specs.Paths.{at, end, cell_at, last_index, advanced}
use Rattle.wh_path.proofs.AtLemmas.{at-advanced, end-advanced, at-resting}
use Rattle.wh_planner.specs.Duties.{Delivers}
use Rattle.wh_core.specs.Steps.{homeward}

-- a path that goes through the stops goes through all but the first of them
pub delivers-drop : (stops path : List Cell) (m : ℕ) → m < length stops → Delivers stops path → Delivers (drop m stops) path
delivers-drop stops path m h d =
    let l = length-drop m stops in
    record {
      visits = record {
        when = λ i. d.visits.when (m + i);
        in_order = λ i j le. d.visits.in_order (m + i) (m + j) (omega arith);
        there = λ i lt. d.visits.there (m + i) (omega arith) ∙ sym (get_or-drop m stops i (record { x = 0; y = 0 }));
      };
      ends_there =
          let e : m + (length (drop m stops) - 1) ≡ length stops - 1 = omega arith in
          d.ends_there ∙ ap (λ i. cell_at stops i) (sym e) ∙ sym (get_or-drop m stops (length (drop m stops) - 1) (record { x = 0; y = 0 }));
    }

-- where the first stop is another cell than the one where the agent is, the path goes through the stops one step later too
pub delivers-advanced : (stops path : List Cell) → 1 ≤ length stops → cell_at stops 0 ≢ at path 0 → Delivers stops path → Delivers stops (advanced path)
delivers-advanced stops path some ne d =
    let later : 1 ≤ d.visits.when 0 = elim (cases_eq (d.visits.when 0) 0) [
      | inl e ↦ absurd (ne (sym (d.visits.there 0 some) ∙ ap (λ k. at path k) e))
      | inr n ↦ (let z : d.visits.when 0 ≢ 0 = n in omega arith)
    ] in
    record {
      visits = record {
        when = λ i. d.visits.when i - 1;
        in_order = λ i j le. (let h = d.visits.in_order i j le in omega arith);
        there = λ i lt.
            let h = d.visits.in_order 0 i (omega arith) in
            let e : d.visits.when i - 1 + 1 ≡ d.visits.when i = omega arith in
            at-advanced path (d.visits.when i - 1) ∙ ap (λ k. at path k) e ∙ d.visits.there i lt;
      };
      ends_there = end-advanced path ∙ d.ends_there;
    }

-- an agent with no steps left stands at the next stop
pub delivers-resting : (stops path : List Cell) → 1 ≤ length stops → last_index path ≡ 0 → Delivers stops path → cell_at stops 0 ≡ at path 0
delivers-resting stops path some rests d =
    sym (d.visits.there 0 some) ∙ at-resting path (d.visits.when 0) rests ∙ sym (at-resting path 0 rests)

-- a tour is as long as the stops, and with a home one longer
pub homeward-some : (homes : Bool) (home : Cell) (stops : List Cell) → 1 ≤ length stops → 1 ≤ length (homeward homes home stops)
homeward-some false home stops some = some
homeward-some true home stops some = (let e = length-append stops (home ∷ []) in omega arith)

drop-before : (m : ℕ) (xs : List Cell) (y : Cell) → m ≤ length xs → drop m (xs ++ y ∷ []) ≡ drop m xs ++ y ∷ []
drop-before zero xs y le = refl
drop-before (suc m) [] y le = absurd (omega arith)
drop-before (suc m) (x ∷ xs) y le = drop-before m xs y (omega arith)

pub homeward-drop : (homes : Bool) (home : Cell) (stops path : List Cell) (m : ℕ) → m < length stops → Delivers (homeward homes home stops) path →
    Delivers (homeward homes home (drop m stops)) path
homeward-drop false home stops path m h d = delivers-drop stops path m h d
homeward-drop true home stops path m h d =
    let l = length-append stops (home ∷ []) in
    subst (λ c. Delivers c path) (drop-before m stops home (omega arith)) (delivers-drop (stops ++ home ∷ []) path m (omega arith) d)

-- the first stop of a tour is that of the stops
pub homeward-first : (homes : Bool) (home : Cell) (stops : List Cell) → 1 ≤ length stops → cell_at (homeward homes home stops) 0 ≡ cell_at stops 0
homeward-first false home stops some = refl
homeward-first true home stops some = get_or-append stops (home ∷ []) (record { x = 0; y = 0 }) 0 some

-- what holds of the stops, and of home, holds of the tour
pub homeward-all : (P : Cell → Type 0) (homes : Bool) (home : Cell) (stops : List Cell) → (homes ≡ true → P home) →
    ((i : ℕ) → i < length stops → P (cell_at stops i)) → (i : ℕ) → i < length (homeward homes home stops) → P (cell_at (homeward homes home stops) i)
homeward-all P false home stops ends each i h = each i h
homeward-all P true home stops ends each i h =
    let l = length-append stops (home ∷ []) in
    elim (cases_eq i (length stops)) [
      | inl e ↦ rw (e, get_or-append_seam stops home [] (record { x = 0; y = 0 })) (ends refl)
      | inr ne ↦
          let lt : i < length stops = omega arith in
          rw (get_or-append stops (home ∷ []) (record { x = 0; y = 0 }) i lt) (each i lt)
    ]

-- with a home the tour ends there, and without at the last stop
pub homeward-end : (homes : Bool) (home : Cell) (stops path : List Cell) → homes ≡ true → Delivers (homeward homes home stops) path → end path ≡ home
homeward-end false home stops path on d = absurd (let clash : false ≡ true = on in cc)
homeward-end true home stops path on d =
    let l = length-append stops (home ∷ []) in
    let e : length (stops ++ home ∷ []) - 1 ≡ length stops = omega arith in
    d.ends_there ∙ ap (λ i. cell_at (stops ++ home ∷ []) i) e ∙ get_or-append_seam stops home [] (record { x = 0; y = 0 })

pub homeward-off : (homes : Bool) (home : Cell) (stops : List Cell) → homes ≡ false → homeward homes home stops ≡ stops
homeward-off false home stops off = refl
homeward-off true home stops off = absurd (let clash : true ≡ false = off in cc)
