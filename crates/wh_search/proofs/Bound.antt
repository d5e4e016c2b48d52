-- where an end is reached at all, one is reached within the bound: from the horizon on a state that comes again was reached sooner
use Rattle.std.proofs.Common.{◌≡◌, ◌≢◌, ℕ, ◌+◌, ◌-◌, ◌*◌, ◌/◌, ◌%◌, ◌<◌, ◌≤◌, ◌⊎◌, inl, inr, ◌∙◌, List, [], ◌∷◌, ◌++◌, length, get_or, set, refl, sym, ap, subst, suc, zero, Bool, true, false, length-set, get_or-set_same, get_or-set_other, arith}
use Rattle.std.proofs.lemmas.Bool.{cases_lt, cases_eq}
use Rattle.std.proofs.lemmas.List.{get_or_append_left}
use Rattle.std.proofs.lemmas.Nat.{div-mul-add, mod-mul-add}
use Rattle.std.proofs.lemmas.Option.{get_or_from_slice_get}
use Rattle.wh_grid.specs.declared.cell.Cell.{Cell}
use Rattle.wh_grid.specs.Grids.{Floor, IsPassable, passable_cells}
use Rattle.wh_resv.specs.Others.{Others}
use Rattle.wh_path.specs.Paths.{horizon}
use Rattle.wh_search.specs.Steps.{AddsNone, marked_count}
use Rattle.wh_grid.proofs.Cells.{same_cell}
use Rattle.wh_search.proofs.Cells.{count-subset, count-more, marked_count-is, past_end}
use Rattle.wh_search.specs.Tours.{longest_tour}
use Rattle.wh_search.specs.States.{State, Steps, IsEnd, Reaches}
use Rattle.wh_search.proofs.BestFirst.{IsSpace}
use Rattle.wh_search.proofs.Reach.{reaches_inside, reaches_few}

-- a list n times
abbrev pub copies : ℕ → List Bool → List Bool
copies zero xs = []
copies (suc n) xs = xs ++ copies n xs

marked_count-append : (xs ys : List Bool) → marked_count (xs ++ ys) ≡ marked_count xs + marked_count ys
marked_count-append [] ys = omega arith
marked_count-append (true ∷ xs) ys = omega (arith, marked_count-append xs ys)
marked_count-append (false ∷ xs) ys = marked_count-append xs ys

marked_count-copies : (n : ℕ) (xs : List Bool) → marked_count (copies n xs) ≡ n * marked_count xs
marked_count-copies zero xs = omega arith
marked_count-copies (suc n) xs = omega (arith, marked_count-append xs (copies n xs), marked_count-copies n xs)

get_or-right : (xs ys : List Bool) (i : ℕ) → get_or (xs ++ ys) (length xs + i) false ≡ get_or ys i false
get_or-right [] ys i = ap (λ j. get_or ys j false) (let e : 0 + i ≡ i = omega arith in e)
get_or-right (x ∷ xs) ys i =
    ap (λ j. get_or (x ∷ (xs ++ ys)) j false) (let e : length (x ∷ xs) + i ≡ suc (length xs + i) = omega arith in e) ∙ get_or-right xs ys i

copies_get : (n l i : ℕ) (xs : List Bool) → l < n → i < length xs → get_or (copies n xs) (l * length xs + i) false ≡ get_or xs i false
copies_get zero l i xs h b = absurd (omega arith)
copies_get (suc n) zero i xs h b =
    ap (λ j. get_or (xs ++ copies n xs) j false) (let e : 0 * length xs + i ≡ i = omega arith in e) ∙ get_or_append_left xs (copies n xs) false i b
copies_get (suc n) (suc l) i xs h b =
    ap (λ j. get_or (xs ++ copies n xs) j false) (let e : suc l * length xs + i ≡ length xs + (l * length xs + i) = omega arith in e)
    ∙ get_or-right xs (copies n xs) (l * length xs + i)
    ∙ copies_get n l i xs (omega arith) b

-- the place of a state, in a list that has the grid once for each leg
abbrev pub place : Floor → State → ℕ
place g s = s.leg * length g.walkable + (s.cell.y * g.width + s.cell.x)

walkable_there : (g : Floor) (c : Cell) → IsPassable g c → get_or g.walkable (c.y * g.width + c.x) false ≡ true
walkable_there g c p = get_or_from_slice_get g.walkable (c.y * g.width + c.x) true false p.is_walkable

walkable_below : (g : Floor) (c : Cell) → IsPassable g c → c.y * g.width + c.x < length g.walkable
walkable_below g c p =
    elim (cases_lt (c.y * g.width + c.x) (length g.walkable)) [
      | inl b ↦ b
      | inr b ↦ absurd (past_end g.walkable (c.y * g.width + c.x) b (walkable_there g c p))
    ]

-- two states at one place are one
same_place : (g : Floor) (s t : State) → IsPassable g s.cell → IsPassable g t.cell → place g s ≡ place g t → s ≡ t
same_place g s t p q e =
    let W = length g.walkable in
    let i = s.cell.y * g.width + s.cell.x in
    let j = t.cell.y * g.width + t.cell.x in
    let a = walkable_below g s.cell p in
    let b = walkable_below g t.cell q in
    let legs : s.leg ≡ t.leg = sym (div-mul-add s.leg W i a) ∙ ap (λ k. k / W) e ∙ div-mul-add t.leg W j b in
    let cells : i ≡ j = sym (mod-mul-add s.leg W i a) ∙ ap (λ k. k % W) e ∙ mod-mul-add t.leg W j b in
    let ys : s.cell.y ≡ t.cell.y = sym (div-mul-add s.cell.y g.width s.cell.x p.in_width) ∙ ap (λ k. k / g.width) cells ∙ div-mul-add t.cell.y g.width t.cell.x q.in_width in
    let xs : s.cell.x ≡ t.cell.x = sym (mod-mul-add s.cell.y g.width s.cell.x p.in_width) ∙ ap (λ k. k % g.width) cells ∙ mod-mul-add t.cell.y g.width t.cell.x q.in_width in
    ap (λ l. record { leg = l; cell = s.cell }) legs ∙ ap (λ c. record { leg = t.leg; cell = c }) (same_cell s.cell t.cell xs ys)

place_in : (g : Floor) (n : ℕ) (s : State) → s.leg < n → IsPassable g s.cell → get_or (copies n g.walkable) (place g s) false ≡ true
place_in g n s h p = copies_get n s.leg (s.cell.y * g.width + s.cell.x) g.walkable h (walkable_below g s.cell p) ∙ walkable_there g s.cell p

blank : List Bool → List Bool
blank [] = []
blank (b ∷ bs) = false ∷ blank bs

blank_length : (xs : List Bool) → length (blank xs) ≡ length xs
unfolding blank
blank_length [] = refl
blank_length (b ∷ bs) = omega (arith, blank_length bs)

blank_none : (xs : List Bool) (i : ℕ) → get_or (blank xs) i false ≡ true → ⊥
unfolding blank
blank_none [] i e = let z : false ≡ true = e in cc
blank_none (b ∷ bs) zero e = let z : false ≡ true = e in cc
blank_none (b ∷ bs) (suc i) e = blank_none bs i e

-- places marked: at least d, and each of a state that was reached from the horizon on, before horizon + d
record Tally (g : Floor) (others : Others) (via : List Cell) (start : State) (d : ℕ) : Type 0 where
  pub marks : List Bool
  pub size : length marks ≡ length (copies (length via + 1) g.walkable)
  pub inside : AddsNone (copies (length via + 1) g.walkable) marks
  pub known : (s : State) → IsPassable g s.cell → get_or marks (place g s) false ≡ true → (m : ℕ) × (horizon others.paths ≤ m) × (m < horizon others.paths + d) × Reaches (Steps g others via) start m s
  pub many : d ≤ marked_count marks

abbrev Sooner : Floor → Others → List Cell → State → ℕ → State → Type 0
Sooner g others via start k t = (m : ℕ) × (horizon others.paths ≤ m) × (m < k) × Reaches (Steps g others via) start m t

tally_start : (g : Floor) (others : Others) (via : List Cell) (start : State) → Tally g others via start 0
tally_start g others via start =
    let big = copies (length via + 1) g.walkable in
    record {
      marks = blank big;
      size = blank_length big;
      inside = λ i e. absurd (blank_none big i e);
      known = λ s p e. absurd (blank_none big (place g s) e);
      many = omega arith;
    }

true_or_false : (b : Bool) → (b ≡ true) ⊎ (b ≡ false)
true_or_false true = inl refl
true_or_false false = inr refl

-- a state that is reached was reached sooner, or its place is marked newly
tally_more : (g : Floor) (others : Others) (via : List Cell) (start : State) (k d : ℕ) (t : State) → k ≡ horizon others.paths + d → t.leg ≤ length via → IsPassable g t.cell → Reaches (Steps g others via) start k t
    → Tally g others via start d → Sooner g others via start k t ⊎ Tally g others via start (suc d)
tally_more g others via start k d t e few p r y =
    let i = place g t in
    let big = copies (length via + 1) g.walkable in
    let there : get_or big i false ≡ true = place_in g (length via + 1) t (omega arith) p in
    elim (true_or_false (get_or y.marks i false)) [
      | inl m ↦ (let h = y.known t p m in inl (h.0, h.1, omega (arith, h.2), h.3))
      | inr m ↦ (let within : i < length y.marks = elim (cases_lt i (length y.marks)) [ inl b ↦ b | inr b ↦ absurd (past_end big i (omega (arith, y.size)) there) ] in
          let more = set y.marks i true in
          let here : get_or more i false ≡ true = get_or-set_same y.marks i true false within in
          let other : (j : ℕ) → j ≢ i → get_or more j false ≡ get_or y.marks j false = λ j n. get_or-set_other y.marks i j true false n in
          inr (record {
            marks = more;
            size = length-set y.marks i true ∙ y.size;
            inside = λ j f. elim (cases_eq j i) [
              | inl z ↦ ap (λ n. get_or big n false) z ∙ there
              | inr n ↦ y.inside j (sym (other j n) ∙ f)
            ];
            known = λ s q f. elim (cases_eq (place g s) i) [
              | inl z ↦ (k, omega arith, omega arith, subst (Reaches (Steps g others via) start k) (sym (same_place g s t q p z)) r)
              | inr n ↦ (let h = y.known s q (sym (other (place g s) n) ∙ f) in (h.0, h.1, omega (arith, h.2), h.3))
            ];
            many = (let c = count-more y.marks more (λ j f. elim (cases_eq j i) [ inl z ↦ ap (λ n. get_or more n false) z ∙ here | inr n ↦ other j n ∙ f ]) i here m in
                omega (arith, y.many, c));
          }))
    ]

-- a state that is reached from the horizon on was reached sooner, or as many places are marked as there were steps
sooner_or_tally : (g : Floor) (others : Others) (via : List Cell) (ends : List Cell) (estimate : State → ℕ) (start : State) → IsSpace (Steps g others via) (IsEnd others via ends) start (horizon others.paths) estimate
    → IsPassable g start.cell → start.leg ≤ length via → (k d : ℕ) (t : State) → k ≡ horizon others.paths + d → Reaches (Steps g others via) start k t → Sooner g others via start k t ⊎ Tally g others via start (suc d)
sooner_or_tally g others via ends estimate start sp p few k zero t e r =
    tally_more g others via start k 0 t e (reaches_few g others via start few k t r) (reaches_inside g others via start p k t r) r (tally_start g others via start)
sooner_or_tally g others via ends estimate start sp p few zero (suc d) t e r = absurd (omega arith)
sooner_or_tally g others via ends estimate start sp p few (suc k) (suc d) t e r =
    elim (sooner_or_tally g others via ends estimate start sp p few k d r.0 (omega arith) r.1) [
      | inl s ↦ inl (suc s.0, omega (arith, s.1), omega (arith, s.2), (r.0, s.3, sp.step_later s.0 k r.0 t s.1 (omega arith) r.2))
      | inr y ↦ tally_more g others via start (suc k) (suc d) t e (reaches_few g others via start few (suc k) t r) (reaches_inside g others via start p (suc k) t r) r y
    ]

-- no more places are marked than there are passable cells, once for each leg
tally_few : (g : Floor) (others : Others) (via : List Cell) (start : State) (d : ℕ) → Tally g others via start d → d ≤ (length via + 1) * passable_cells g
tally_few g others via start d y =
    let big = copies (length via + 1) g.walkable in
    let counted : marked_count big ≡ (length via + 1) * passable_cells g = marked_count-copies (length via + 1) g.walkable ∙ ap (λ n. (length via + 1) * n) (marked_count-is g.walkable) in
    omega (arith, y.many, count-subset y.marks big y.inside, counted)

-- an end that is reached is reached by the bound too
pub end_by_bound : (g : Floor) (others : Others) (via : List Cell) (ends : List Cell) (estimate : State → ℕ) (start : State) → IsSpace (Steps g others via) (IsEnd others via ends) start (horizon others.paths) estimate
    → IsPassable g start.cell → start.leg ≤ length via → (fuel m : ℕ) (t : State) → m ≤ fuel → Reaches (Steps g others via) start m t → IsEnd others via ends m t
    → (n : ℕ) × (n ≤ longest_tour g others via) × Reaches (Steps g others via) start n t × IsEnd others via ends n t
end_by_bound g others via ends estimate start sp p few zero m t h r e = (m, omega arith, r, e)
end_by_bound g others via ends estimate start sp p few (suc fuel) m t h r e =
    elim (cases_lt (longest_tour g others via) m) [
      | inr b ↦ (m, b, r, e)
      | inl b ↦ elim (sooner_or_tally g others via ends estimate start sp p few m (m - horizon others.paths) t (omega arith) r) [
        | inl s ↦ end_by_bound g others via ends estimate start sp p few fuel s.0 t (omega (arith, s.2)) s.3 (sp.goal_later s.0 m t s.1 (omega arith) e)
        | inr y ↦ absurd (omega (arith, tally_few g others via start (suc (m - horizon others.paths)) y))
      ]
    ]
