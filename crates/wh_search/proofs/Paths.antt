-- the path of a chain of states is a tour
use Rattle.std.proofs.Common.{Bool, ◌≡◌, ◌≢◌, ℕ, ◌+◌, ◌<◌, ◌≤◌, ◌⊎◌, inl, inr, ◌∙◌, List, [], ◌∷◌, length, get_or, refl, sym, ap, subst, suc, zero, add-one, Contains, arith}
use Rattle.std.proofs.lemmas.Bool.{cases_lt}
use Rattle.wh_grid.specs.declared.cell.Cell.{Cell}
use Rattle.wh_grid.specs.Grids.{Floor, IsPassable}
use Rattle.wh_resv.specs.Others.{Others, IsClearStep, StaysAway}
use Rattle.wh_path.specs.Paths.{at, last_index, IsFree, cell_at}
use Rattle.wh_path.proofs.AtLemmas.{at-within, at-rests, origin}
use Rattle.wh_search.specs.Steps.{Go}
use Rattle.wh_grid.proofs.Pigeons.{cell_cases}
use Rattle.wh_search.specs.Tours.{IsTour}
use Rattle.wh_search.specs.States.{State, Arrives, IsEnd, Leads}

pub leads_size : (g : Floor) (others : Others) (via : List Cell) (i : ℕ) (s : State) (cs : List Cell) (n : ℕ) (t : State) → Leads g others via i s cs n t → length cs + i ≡ n
leads_size g others via i s [] n t h = let e = h.0 in omega arith
leads_size g others via i s (c ∷ cs) n t h = omega (arith, leads_size g others via (suc i) h.0 cs n t h.3)

leads_end : (g : Floor) (others : Others) (via : List Cell) (i : ℕ) (s : State) (cs : List Cell) (n : ℕ) (t : State) → Leads g others via i s cs n t → get_or (s.cell ∷ cs) (length cs) origin ≡ t.cell
leads_end g others via i s [] n t h = ap (λ (x : State). x.cell) h.1
leads_end g others via i s (c ∷ cs) n t h =
    subst (λ (x : Cell). get_or (x ∷ cs) (length cs) origin ≡ t.cell) (sym h.1) (leads_end g others via (suc i) h.0 cs n t h.3)

leads_goes : (g : Floor) (others : Others) (via : List Cell) (i : ℕ) (s : State) (cs : List Cell) (n : ℕ) (t : State) → Leads g others via i s cs n t
    → (k : ℕ) → k < length cs → Go g others (i + k) (get_or (s.cell ∷ cs) k origin) (get_or cs k origin)
leads_goes g others via i s [] n t h k b = absurd (omega arith)
leads_goes g others via i s (c ∷ cs) n t h zero b =
    let e : i ≡ i + 0 = omega arith in
    subst (λ (j : ℕ). Go g others j s.cell c) e (subst (λ (x : Cell). Go g others i s.cell x) (sym h.1) h.2.goes)
leads_goes g others via i s (c ∷ cs) n t h (suc k) b =
    let e : suc i + k ≡ i + suc k = omega arith in
    subst (λ (j : ℕ). Go g others j (get_or (c ∷ cs) k origin) (get_or cs k origin)) e
    (subst (λ (x : Cell). Go g others (suc i + k) (get_or (x ∷ cs) k origin) (get_or cs k origin)) (sym h.1) (leads_goes g others via (suc i) h.0 cs n t h.3 k (omega arith)))

-- at once, or one step later than this
pick : (j l : ℕ) → (j < l) ⊎ (l ≤ j) → ℕ → ℕ
pick j l (inl b) n = 0
pick j l (inr b) n = suc n

pick_first : (j l : ℕ) (x : (j < l) ⊎ (l ≤ j)) (n : ℕ) → j < l → pick j l x n ≡ 0
unfolding pick
pick_first j l (inl b) n h = refl
pick_first j l (inr b) n h = absurd (omega arith)

pick_later : (j l : ℕ) (x : (j < l) ⊎ (l ≤ j)) (n : ℕ) → l ≤ j → pick j l x n ≡ suc n
unfolding pick
pick_later j l (inl b) n h = absurd (omega arith)
pick_later j l (inr b) n h = refl

-- when a stop is visited
leads_when : (g : Floor) (others : Others) (via : List Cell) (i : ℕ) (s : State) (cs : List Cell) (n : ℕ) (t : State) → Leads g others via i s cs n t → ℕ → ℕ
leads_when g others via i s [] n t h j = 0
leads_when g others via i s (c ∷ cs) n t h j = pick j s.leg (cases_lt j s.leg) (leads_when g others via (suc i) h.0 cs n t h.3 j)

when_first : (g : Floor) (others : Others) (via : List Cell) (i : ℕ) (s : State) (cs : List Cell) (n : ℕ) (t : State) (h : Leads g others via i s cs n t) (j : ℕ) → j < s.leg → leads_when g others via i s cs n t h j ≡ 0
unfolding leads_when
when_first g others via i s [] n t h j b = refl
when_first g others via i s (c ∷ cs) n t h j b = pick_first j s.leg (cases_lt j s.leg) (leads_when g others via (suc i) h.0 cs n t h.3 j) b

when_few : (g : Floor) (others : Others) (via : List Cell) (i : ℕ) (s : State) (cs : List Cell) (n : ℕ) (t : State) (h : Leads g others via i s cs n t) (j : ℕ) → leads_when g others via i s cs n t h j < length cs + 1
unfolding leads_when
when_few g others via i s [] n t h j = omega arith
when_few g others via i s (c ∷ cs) n t h j =
    let w = leads_when g others via (suc i) h.0 cs n t h.3 j in
    elim (cases_lt j s.leg) [
      | inl b ↦ omega (arith, pick_first j s.leg (cases_lt j s.leg) w b)
      | inr b ↦ omega (arith, pick_later j s.leg (cases_lt j s.leg) w b, when_few g others via (suc i) h.0 cs n t h.3 j)
    ]

when_order : (g : Floor) (others : Others) (via : List Cell) (i : ℕ) (s : State) (cs : List Cell) (n : ℕ) (t : State) (h : Leads g others via i s cs n t) (j k : ℕ) → j ≤ k → leads_when g others via i s cs n t h j ≤ leads_when g others via i s cs n t h k
unfolding leads_when
when_order g others via i s [] n t h j k b = omega arith
when_order g others via i s (c ∷ cs) n t h j k b =
    let v = leads_when g others via (suc i) h.0 cs n t h.3 j in
    let w = leads_when g others via (suc i) h.0 cs n t h.3 k in
    elim (cases_lt j s.leg) [
      | inl x ↦ omega (arith, pick_first j s.leg (cases_lt j s.leg) v x)
      | inr x ↦ omega (arith, pick_later j s.leg (cases_lt j s.leg) v x, pick_later k s.leg (cases_lt k s.leg) w (omega arith), when_order g others via (suc i) h.0 cs n t h.3 j k b)
    ]

when_there : (g : Floor) (others : Others) (via : List Cell) (i : ℕ) (s : State) (cs : List Cell) (n : ℕ) (t : State) (h : Leads g others via i s cs n t) (j : ℕ) → s.leg ≤ j → j < t.leg
    → get_or (s.cell ∷ cs) (leads_when g others via i s cs n t h j) origin ≡ cell_at via j
unfolding leads_when
when_there g others via i s [] n t h j b f = let e : s.leg ≡ t.leg = ap (λ (x : State). x.leg) h.1 in absurd (omega arith)
when_there g others via i s (c ∷ cs) n t h j b f =
    let u = h.0 in
    let w = leads_when g others via (suc i) u cs n t h.3 j in
    let rest : get_or (c ∷ cs) w origin ≡ cell_at via j = elim (cases_lt j u.leg) [
      | inl x ↦ (let z : w ≡ 0 = when_first g others via (suc i) u cs n t h.3 j x in
          ap (λ m. get_or (c ∷ cs) m origin) z ∙ h.1 ∙ sym (h.2.arrives.visited j b x))
      | inr x ↦ subst (λ (y : Cell). get_or (y ∷ cs) w origin ≡ cell_at via j) (sym h.1) (when_there g others via (suc i) u cs n t h.3 j x f)
    ] in
    ap (λ m. get_or (s.cell ∷ c ∷ cs) m origin) (pick_later j s.leg (cases_lt j s.leg) w b) ∙ rest

-- a path of single steps beside one other path, and then at rest away from it, is free of it
run_free : (nofollow : Bool) (q p : List Cell) (n : ℕ) (c : Cell) → last_index p ≡ n → at p n ≡ c → ((k : ℕ) → k < n → IsClearStep nofollow q (at p k) (at p (k + 1)) k) → StaysAway q c n → IsFree nofollow p q
run_free nofollow q p n c l e steps rest =
    let stays : (k : ℕ) → n ≤ k → at p k ≡ c = λ k h. at-rests p k n (omega arith) (omega arith) ∙ e in
    let apart : (k : ℕ) → at p k ≢ at q k = λ k m. elim (cases_lt k n) [ inl b ↦ (steps k b).start (sym m) | inr b ↦ rest.away k b (sym m ∙ stays k b) ] in
    record {
      apart = apart;
      no_swap = λ k m. elim (cases_lt k n) [
        | inl b ↦ (steps k b).no_swap (sym m.1) (sym m.0)
        | inr b ↦ rest.away (k + 1) (omega arith) (sym m.0 ∙ stays k b)
      ];
      no_follow = λ r k m. elim (cell_cases (at p k) (at p (k + 1))) [
        | inl s ↦ elim m [ inl f ↦ apart k (s ∙ f) | inr f ↦ apart (k + 1) (sym s ∙ sym f) ]
        | inr ne ↦ elim (cases_lt k n) [
          | inl b ↦ (let h = (steps k b).no_follow r ne in elim m [ inl f ↦ h.0 (sym f) | inr f ↦ h.1 f ])
          | inr b ↦ ne (stays k b ∙ sym (stays (k + 1) (omega arith)))
        ]
      ];
    }

stood : (g : Floor) (loc : Cell) (n : ℕ) (p : List Cell) → IsPassable g loc → at p 0 ≡ loc → ((k : ℕ) → k < n → IsPassable g (at p (k + 1))) → (k : ℕ) → k < n + 1 → IsPassable g (at p k)
stood g loc n p i e f zero h = subst (IsPassable g) (sym e) i
stood g loc n p i e f (suc k) h = subst (λ (m : ℕ). IsPassable g (at p m)) (add-one k) (f k (omega arith))

pub leads_tour : (g : Floor) (others : Others) (loc : Cell) (via : List Cell) (ends : List Cell) (first : ℕ) (cs : List Cell) (n : ℕ) (t : State) → IsPassable g loc → Arrives via 0 loc first → IsEnd others via ends n t
    → Leads g others via 0 (record { leg = first; cell = loc }) cs n t → IsTour g others loc via ends (loc ∷ cs)
leads_tour g others loc via ends first cs n t inside a e h =
    let start : State = record { leg = first; cell = loc } in
    let p = loc ∷ cs in
    let size : length cs ≡ n = (let z = leads_size g others via 0 start cs n t h in omega arith) in
    let l : last_index p ≡ n = omega arith in
    let here : (k : ℕ) → k < n + 1 → at p k ≡ get_or p k origin = λ k b. at-within p k (omega arith) in
    let starts : at p 0 ≡ loc = here 0 (omega arith) in
    let delivers : at p n ≡ t.cell = here n (omega arith) ∙ ap (λ k. get_or p k origin) (sym size) ∙ leads_end g others via 0 start cs n t h in
    let goes : (k : ℕ) → k < n → Go g others k (at p k) (at p (k + 1)) = λ k b.
    let z : 0 + k ≡ k = omega arith in
    let one : at p (k + 1) ≡ get_or cs k origin = here (k + 1) (omega arith) ∙ ap (λ m. get_or p m origin) (add-one k) in
    subst (λ (x : Cell). Go g others k (at p k) x) (sym one)
    (subst (λ (x : Cell). Go g others k x (get_or cs k origin)) (sym (here k (omega arith)))
    (subst (λ (j : ℕ). Go g others j (get_or p k origin) (get_or cs k origin)) z (leads_goes g others via 0 start cs n t h k (omega arith)))) in
    let within : (k : ℕ) → k < n + 1 → IsPassable g (at p k) = λ k b. stood g loc n p inside starts (λ j f. (goes j f).passable) k b in
    let when : ℕ → ℕ = leads_when g others via 0 start cs n t h in
    let all = e.all_visited in
    record {
      starts = starts;
      walk = record {
        non_empty = omega arith;
        passable = λ k. elim (cases_lt k (n + 1)) [ inl b ↦ within k b | inr b ↦ subst (IsPassable g) (at-rests p n k (omega arith) (omega arith)) (within n (omega arith)) ];
        moves = λ k. elim (cases_lt k n) [ inl b ↦ (goes k b).move | inr b ↦ inl (at-rests p k (k + 1) (omega arith) (omega arith)) ];
      };
      free = λ i d b. run_free others.nofollow (get_or others.paths i d) p n t.cell l delivers (λ k f. (goes k f).may i d b) (e.rests i d b);
      visits = record {
        when = when;
        in_order = when_order g others via 0 start cs n t h;
        there = λ i b.
            let f = when_few g others via 0 start cs n t h i in
            here (when i) (omega arith) ∙ elim (cases_lt i first) [
              | inl x ↦ ap (λ k. get_or p k origin) (when_first g others via 0 start cs n t h i x) ∙ sym (a.visited i (omega arith) x)
              | inr x ↦ when_there g others via 0 start cs n t h i x (omega arith)
            ];
      };
      delivers = subst (Contains ends) (sym (ap (at p) l ∙ delivers)) e.delivered;
    }
