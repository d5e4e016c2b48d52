-- when an agent is idle: there is one number of ticks until then, and it is 0 just where it is idle
use Rattle.std.proofs.Common.{◌≡◌, ◌≢◌, ℕ, ◌-◌, ◌<◌, ◌≤◌, ◌∙◌, ◌⊎◌, inl, inr, List, [], ◌∷◌, Bool, true, false, length, sym, subst, refl, ap, arith}
use Prim.Native.Nat.{zero, suc}
use Rattle.std.proofs.lemmas.Bool.{cases_eq}
use Rattle.std.proofs.lemmas.List.{length-map, get_or-map}
use Rattle.wh_grid.specs.declared.cell.Cell.{Cell}
use Rattle.wh_path.specs.Paths.{last_index, path_of, steps_left, advanced}
use Rattle.wh_points.specs.Points.{Site}
use Rattle.wh_tasks.specs.declared.task.Load.{Load}
use Rattle.wh_tasks.proofs.Visiting.{bool_cases}
use Rattle.wh_core.specs.States.{State, load_of, arrived, moved}
use Rattle.wh_core.specs.Steps.{IsIdle, IsIdleIn}

pub idle-one : (site : Site) (s : State) (agent j k : ℕ) → IsIdleIn site s agent j → IsIdleIn site s agent k → j ≡ k
idle-one site s agent zero zero a b = refl
idle-one site s agent zero (suc k) a b = absurd (b.0 a)
idle-one site s agent (suc j) zero a b = absurd (a.0 b)
idle-one site s agent (suc j) (suc k) a b = ap suc (idle-one site (arrived (moved s)) agent j k a.1 b.1)

-- who is idle is so in 0 ticks
pub idle-none : (site : Site) (s : State) (agent left : ℕ) → IsIdle site s agent → IsIdleIn site s agent left → left ≡ 0
idle-none site s agent left idle a = sym (idle-one site s agent 0 left idle a)

no-load : (l : Load) → (l ≡ Load.None) ⊎ (l ≢ Load.None)
no-load Load.None = inl refl
no-load (Load.Fetching n) = inr (λ e. (let clash : Load.Fetching n ≡ Load.None = e in cc))
no-load (Load.Carrying n seen) = inr (λ e. (let clash : Load.Carrying n seen ≡ Load.None = e in cc))

pub off-on : {A : Type 0} (b : Bool) → b ≡ false → b ≡ true → A
off-on false off on = absurd (let clash : false ≡ true = on in cc)
off-on true off on = absurd (let clash : true ≡ false = off in cc)

-- whether an agent is idle
pub decide-idle : (site : Site) (s : State) (agent : ℕ) → IsIdle site s agent ⊎ (IsIdle site s agent → ⊥)
decide-idle site s agent = elim (cases_eq (steps_left s.paths agent) 0) [
  | inl rests ↦ inl (inl rests)
  | inr moves ↦ elim (bool_cases site.homes) [
    | inl on ↦ elim (no-load (load_of s agent)) [
      | inl free ↦ inl (inr (on, free))
      | inr loaded ↦ inr (λ idle. elim idle [ inl rests ↦ moves rests | inr free ↦ loaded free.1 ])
    ]
    | inr off ↦ inr (λ idle. elim idle [ inl rests ↦ moves rests | inr free ↦ off-on site.homes off free.0 ])
  ]
]

last-advanced : (p : List Cell) → last_index (advanced p) ≡ last_index p - 1
last-advanced [] = refl
last-advanced (only ∷ []) = refl
last-advanced (first ∷ next ∷ rest) = omega arith

-- a tick leaves a step less
pub left-next : (s : State) (agent : ℕ) → agent < length s.paths → steps_left (moved s).paths agent ≡ steps_left s.paths agent - 1
left-next s agent known = ap last_index (get_or-map advanced s.paths agent [] [] known) ∙ last-advanced (path_of s.paths agent)

known-next : (s : State) (agent : ℕ) → agent < length s.paths → agent < length (moved s).paths
known-next s agent known = (let e = length-map s.paths advanced in omega arith)

-- there is such a number, at most that of its steps
idle-by : (fuel : ℕ) (site : Site) (s : State) (agent : ℕ) → agent < length s.paths → steps_left s.paths agent ≤ fuel → (k : ℕ) × IsIdleIn site s agent k
idle-by zero site s agent known few = (0, inl (omega arith))
idle-by (suc fuel) site s agent known few = elim (decide-idle site s agent) [
  | inl idle ↦ (0, idle)
  | inr busy ↦
      let step = left-next s agent known in
      let next = idle-by fuel site (arrived (moved s)) agent (known-next s agent known) (omega arith) in
      (suc next.0, (busy, next.1))
]

pub idle-some : (site : Site) (s : State) (agent : ℕ) → agent < length s.paths → (IsIdle site s agent → ⊥) → (left : ℕ) × IsIdleIn site s agent left × (left ≢ 0)
idle-some site s agent known busy =
    let k = idle-by (steps_left s.paths agent) site s agent known (omega arith) in
    (k.0, k.1, λ z. busy (subst (λ n. IsIdleIn site s agent n) z k.1))

-- without homes it is the number of steps left
pub idle-rests : (site : Site) (s : State) (agent : ℕ) → site.homes ≡ false → IsIdle site s agent → steps_left s.paths agent ≡ 0
idle-rests site s agent off idle = elim idle [ inl rests ↦ rests | inr free ↦ off-on site.homes off free.0 ]

pub steps-idle : (k : ℕ) (site : Site) (s : State) (agent : ℕ) → site.homes ≡ false → agent < length s.paths → k ≡ steps_left s.paths agent → IsIdleIn site s agent k
steps-idle zero site s agent off known is = inl (sym is)
steps-idle (suc k) site s agent off known is =
    let step = left-next s agent known in (
      λ idle. (let rests = idle-rests site s agent off idle in omega arith),
      steps-idle k site (arrived (moved s)) agent off (known-next s agent known) (omega arith),
    )

pub idle-steps : (site : Site) (s : State) (agent k : ℕ) → site.homes ≡ false → agent < length s.paths → IsIdleIn site s agent k → k ≡ steps_left s.paths agent
idle-steps site s agent k off known a =
    idle-one site s agent k (steps_left s.paths agent) a (steps-idle (steps_left s.paths agent) site s agent off known refl)
