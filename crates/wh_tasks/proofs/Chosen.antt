-- there is a nearest task, or none that may be chosen
use Rattle.std.proofs.Common.{◌≡◌, ℕ, ◌<◌, ◌≤◌, ◌∙◌, ◌⊎◌, inl, inr, List, [], ◌∷◌, Option, Some, None, length, sym, subst, refl, arith}
use Prim.Native.Nat.{zero, suc}
use Rattle.std.specs.Prelude.{All, Contains, slice_get}
use Rattle.std.proofs.lemmas.Bool.{cases_lt}
use Rattle.std.proofs.lemmas.List.Elements.{All-nil, All-cons}
use Rattle.std.proofs.lemmas.Option.{same_Some, slice_get_within}
use Rattle.wh_grid.specs.declared.cell.Cell.{Cell}
use Rattle.wh_grid.specs.Grids.{Floor}
use Rattle.wh_field.specs.Distances.{IsDistance}
use Rattle.wh_field.proofs.Tables.{Contains-none, Contains-cases}
use Rattle.wh_grid.proofs.Pigeons.{cell_cases}
use Rattle.wh_tasks.specs.declared.task.Task.{Task}
use Rattle.wh_tasks.specs.Tasks.{IsTask, IsOpen, pickup}
use Rattle.wh_tasks.specs.Choice.{IsEligible, NoneEligible, IsAtMost, IsNearest}
use Rattle.wh_tasks.proofs.Visiting.{option_cases}
use Rattle.wh_tasks.proofs.Choosing.{same-distance}

-- a fact, or its contrary
abbrev pub Decided : Type 0 → Type 0
Decided P = P ⊎ (P → ⊥)

decide-contains : (cells : List Cell) (c : Cell) → Decided (Contains cells c)
decide-contains [] c = inr (Contains-none c)
decide-contains (d ∷ cells) c = elim (cell_cases d c) [
  | inl e ↦ inl (0, omega arith, e)
  | inr ne ↦ elim (decide-contains cells c) [
    | inl has ↦ inl (suc has.0, (let h = has.1 in omega arith), has.2)
    | inr none ↦ inr (λ has. elim (Contains-cases c d cells has) [ inl e ↦ ne e | inr h ↦ none h ])
  ]
]

pub decide-open : (task : Task) → Decided (IsOpen task)
decide-open task = elim (option_cases task.agent) [
  | inl e ↦ inl e
  | inr e ↦ inr (λ none. (let clash : None ≡ Some e.0 = sym none ∙ e.1 in cc))
]

decide-clear : (ends stops : List Cell) → Decided (All (λ stop. ¬ Contains ends stop) stops)
decide-clear ends [] = inl (All-nil (λ stop. ¬ Contains ends stop))
decide-clear ends (stop ∷ stops) =
    let P : Cell → Type 0 = λ s. ¬ Contains ends s in
    elim (decide-contains ends stop) [
      | inl has ↦ inr (λ all. all 0 stop (omega arith) has)
      | inr none ↦ elim (decide-clear ends stops) [
        | inl rest ↦ inl (All-cons P stop stops none rest)
        | inr not ↦ inr (λ all. not (λ k d h. all (suc k) d (omega arith)))
      ]
    ]

-- the parts of eligible, without the place
decide-free : (ends : List Cell) (task : Task) → Decided (IsOpen task × All (λ stop. ¬ Contains ends stop) task.stops)
decide-free ends task = elim (decide-open task) [
  | inr bars ↦ inr (λ p. bars p.0)
  | inl fits ↦ elim (decide-clear ends task.stops) [
    | inr bars ↦ inr (λ p. bars p.1)
    | inl all ↦ inl (fits, all)
  ]
]

-- of the tasks below k the nearest one
record Best (g : Floor) (tasks : List Task) (ends : List Cell) (here : Cell) (k : ℕ) : Type 0 where
  pub n : ℕ
  pub below : n < k
  pub task : Task
  pub eligible : IsEligible tasks ends n task
  pub steps : ℕ
  pub distance : IsDistance g here (pickup task) (Some steps)
  pub least : (m : ℕ) (other : Task) (far : Option ℕ) → m < k → IsEligible tasks ends m other → IsDistance g here (pickup other) far → IsAtMost (Some steps) n far m

abbrev NoneBelow : List Task → List Cell → ℕ → Type 0
NoneBelow tasks ends k = (m : ℕ) (task : Task) → m < k → ¬ IsEligible tasks ends m task

eligible-one : (tasks : List Task) (ends : List Cell) (n : ℕ) (t u : Task) → IsTask tasks n t → IsEligible tasks ends n u → t ≡ u
eligible-one tasks ends n t u is e = same_Some t u (sym is ∙ e.there)

at_most-of : (g : Floor) (here : Cell) (t u : Task) (d : ℕ) (far : Option ℕ) → t ≡ u → IsDistance g here (pickup t) (Some d) → IsDistance g here (pickup u) far → Some d ≡ far
at_most-of g here t u d far e a b =
    same-distance g here (pickup u) (Some d) far (subst (λ (v : Task). IsDistance g here (pickup v) (Some d)) e a) b

less : (d n : ℕ) (far : Option ℕ) (e m : ℕ) → Some e ≡ far → (d < e) ⊎ ((d ≡ e) × (n ≤ m)) → IsAtMost (Some d) n far m
less d n far e m is h = subst (λ f. IsAtMost (Some d) n f m) is h

-- the one before comes before a nearer one
at_most-trans : (d n e m : ℕ) (far : Option ℕ) (l : ℕ) → d < e → IsAtMost (Some e) m far l → IsAtMost (Some d) n far l
at_most-trans d n e m None l h a = tt
at_most-trans d n e m (Some f) l h a = elim a [ inl b ↦ inl (omega arith) | inr b ↦ inl (let s = b.0 in omega arith) ]

best-skip : (g : Floor) (tasks : List Task) (ends : List Cell) (here : Cell) (k : ℕ) → ((task : Task) → ¬ IsEligible tasks ends k task) →
    Best g tasks ends here k ⊎ NoneBelow tasks ends k → Best g tasks ends here (suc k) ⊎ NoneBelow tasks ends (suc k)
best-skip g tasks ends here k bars (inl b) = inl (record {
  n = b.n;
  below = (let h = b.below in omega arith);
  task = b.task;
  eligible = b.eligible;
  steps = b.steps;
  distance = b.distance;
  least = λ m other far h e is. elim (cases_lt m k) [
    | inl l ↦ b.least m other far l e is
    | inr l ↦ (let s : m ≡ k = omega arith in absurd (bars other (subst (λ j. IsEligible tasks ends j other) s e)))
  ];
})
best-skip g tasks ends here k bars (inr none) = inr (λ m task h e. elim (cases_lt m k) [
  | inl l ↦ none m task l e
  | inr l ↦ (let s : m ≡ k = omega arith in bars task (subst (λ j. IsEligible tasks ends j task) s e))
])

best-new : (g : Floor) (tasks : List Task) (ends : List Cell) (here : Cell) (k : ℕ) (t : Task) → IsEligible tasks ends k t → (d : ℕ) →
    IsDistance g here (pickup t) (Some d) →
    ((m : ℕ) (other : Task) (far : Option ℕ) → m < k → IsEligible tasks ends m other → IsDistance g here (pickup other) far → IsAtMost (Some d) k far m) →
    Best g tasks ends here (suc k)
best-new g tasks ends here k t eligible d dist before = record {
  n = k;
  below = omega arith;
  task = t;
  eligible = eligible;
  steps = d;
  distance = dist;
  least = λ m other far h e is. elim (cases_lt m k) [
    | inl l ↦ before m other far l e is
    | inr l ↦
        let s : k ≡ m = omega arith in
        let same = eligible-one tasks ends m t other (subst (λ j. IsTask tasks j t) s eligible.there) e in
        less d k far d m (at_most-of g here t other d far same dist is) (inr (refl, omega arith))
  ];
}

order : (d e n m : ℕ) → d ≤ e → n ≤ m → (d < e) ⊎ ((d ≡ e) × (n ≤ m))
order d e n m h k = elim (cases_lt d e) [ inl l ↦ inl l | inr l ↦ inr (omega arith, k) ]

best-join : (g : Floor) (tasks : List Task) (ends : List Cell) (here : Cell) (k : ℕ) (t : Task) → IsEligible tasks ends k t → (d : ℕ) →
    IsDistance g here (pickup t) (Some d) → Best g tasks ends here k ⊎ NoneBelow tasks ends k → Best g tasks ends here (suc k) ⊎ NoneBelow tasks ends (suc k)
best-join g tasks ends here k t eligible d dist (inr none) =
    inl (best-new g tasks ends here k t eligible d dist (λ m other far l e is. absurd (none m other l e)))
best-join g tasks ends here k t eligible d dist (inl b) = elim (cases_lt d b.steps) [
  | inl nearer ↦ inl (best-new g tasks ends here k t eligible d dist (λ m other far l e is. at_most-trans d k b.steps b.n far m nearer (b.least m other far l e is)))
  | inr later ↦ inl (record {
    n = b.n;
    below = (let h = b.below in omega arith);
    task = b.task;
    eligible = b.eligible;
    steps = b.steps;
    distance = b.distance;
    least = λ m other far h e is. elim (cases_lt m k) [
      | inl l ↦ b.least m other far l e is
      | inr l ↦
          let s : k ≡ m = omega arith in
          let same = eligible-one tasks ends m t other (subst (λ j. IsTask tasks j t) s eligible.there) e in
          let low = b.below in
          less b.steps b.n far d m (at_most-of g here t other d far same dist is) (order b.steps d b.n m later (omega arith))
    ];
  })
]

best-below : (g : Floor) (tasks : List Task) (ends : List Cell) (here : Cell) →
    ((n : ℕ) (task : Task) → IsEligible tasks ends n task → (d : ℕ) × IsDistance g here (pickup task) (Some d)) →
    (k : ℕ) → Best g tasks ends here k ⊎ NoneBelow tasks ends k
best-below g tasks ends here dist zero = inr (λ m task h e. omega arith)
best-below g tasks ends here dist (suc k) =
    elim (option_cases (slice_get tasks k)) [
      | inl none ↦ best-skip g tasks ends here k (λ t e. (let clash : None ≡ Some t = sym none ∙ e.there in cc)) (best-below g tasks ends here dist k)
      | inr some ↦ elim (decide-free ends some.0) [
        | inr bars ↦ best-skip g tasks ends here k (λ t e.
            let same = eligible-one tasks ends k some.0 t some.1 e in
            bars (subst (λ (u : Task). IsOpen u × All (λ stop. ¬ Contains ends stop) u.stops) (sym same) (e.is_open, e.clear))) (best-below g tasks ends here dist k)
        | inl fits ↦
            let eligible : IsEligible tasks ends k some.0 = record { there = some.1; is_open = fits.0; clear = fits.1 } in
            let d = dist k some.0 eligible in
            best-join g tasks ends here k some.0 eligible d.0 d.1 (best-below g tasks ends here dist k)
      ]
    ]

pub nearest-or-none : (g : Floor) (tasks : List Task) (ends : List Cell) (here : Cell) →
    ((n : ℕ) (task : Task) → IsEligible tasks ends n task → (d : ℕ) × IsDistance g here (pickup task) (Some d)) →
    ((n : ℕ) × (task : Task) × IsNearest g tasks ends here n task) ⊎ NoneEligible tasks ends
nearest-or-none g tasks ends here dist = elim (best-below g tasks ends here dist (length tasks)) [
  | inl b ↦ inl (
    b.n,
    b.task,
    record {
      eligible = b.eligible;
      distance = Some b.steps;
      is_distance = b.distance;
      least = λ m other far e is. b.least m other far (slice_get_within tasks m other e.there) e is;
    },
  )
  | inr none ↦ inr (λ m task e. none m task (slice_get_within tasks m task e.there) e)
]
