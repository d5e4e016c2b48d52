-- a best-first search over states by time, where all times from the horizon on are alike:
-- what makes the first goal the least, from two properties of the estimate alone
use Rattle.std.proofs.Common.{◌≡◌, ℕ, ◌+◌, ◌<◌, ◌≤◌, ◌⊎◌, inl, inr, refl, sym, ap, subst, suc, zero, arith}
use Rattle.wh_search.specs.States.{Reaches}

-- steps and goals, which are alike at all times from the horizon on, and an estimate
pub record IsSpace {S : Type 0} (Step : ℕ → S → S → Type 0) (Goal : ℕ → S → Type 0) (start : S) (horizon : ℕ) (estimate : S → ℕ) : Type 0 where
  pub step_later : (j k : ℕ) (s t : S) → horizon ≤ j → horizon ≤ k → Step k s t → Step j s t
  pub goal_later : (j k : ℕ) (s : S) → horizon ≤ j → horizon ≤ k → Goal k s → Goal j s
  pub at_goal : (k : ℕ) (s : S) → Reaches Step start k s → Goal k s → estimate s ≡ 0
  pub falls : (k : ℕ) (s t : S) → Reaches Step start k s → Step k s t → estimate s ≤ estimate t + 1

-- j is k, or an earlier time that is like it
abbrev pub Alike : ℕ → ℕ → ℕ → Type 0
Alike horizon j k = (j ≡ k) ⊎ ((horizon ≤ j) × (j ≤ k))

-- P at a time like k
pub record Covers {S : Type 0} (P : ℕ → S → Type 0) (horizon k : ℕ) (t : S) : Type 0 where
  pub time : ℕ
  pub alike : Alike horizon time k
  pub holds : P time t

-- each state to which s at k leads, of less than the bound, was met; and s is no goal of less than it
pub record IsDone {S : Type 0} (Step : ℕ → S → S → Type 0) (Goal : ℕ → S → Type 0) (horizon limit : ℕ) (estimate : S → ℕ) (Met : ℕ → S → Type 0) (k : ℕ) (s : S) (bound : ℕ) : Type 0 where
  pub onward : (t : S) → Step k s t → k + 1 + estimate t < bound → k + 1 + estimate t ≤ limit → Covers Met horizon (k + 1) t
  pub no_goal : k + estimate s < bound → Goal k s → ⊥

-- what the loop keeps: the start was met, and each state that was met is done up to a bound that waits, or beyond the limit
pub record IsFrontier {S : Type 0} (Step : ℕ → S → S → Type 0) (Goal : ℕ → S → Type 0) (start : S) (horizon limit : ℕ) (estimate : S → ℕ) (Met : ℕ → S → Type 0) (Waits : ℕ → Type 0) : Type 0 where
  pub start_met : estimate start ≤ limit → Met 0 start
  pub each : (k : ℕ) (s : S) → Met k s → (bound : ℕ) × IsDone Step Goal horizon limit estimate Met k s bound × (Waits bound ⊎ (limit < bound))

alike_next : (h i j k : ℕ) → Alike h j k → Alike h i (j + 1) → Alike h i (suc k)
alike_next h i j k (inl e) (inl f) = inl (omega arith)
alike_next h i j k (inl e) (inr p) = inr (p.0, omega (arith, p.1))
alike_next h i j k (inr q) (inl f) = inr (omega (arith, q.0), omega (arith, q.1))
alike_next h i j k (inr q) (inr p) = inr (p.0, omega (arith, p.1, q.1))

-- no later
pub alike_le : (h j k : ℕ) → Alike h j k → j ≤ k
alike_le h j k (inl e) = omega arith
alike_le h j k (inr p) = p.1

-- no bound that waits, or is beyond the limit, is m or less
done_beyond : {S : Type 0} (Step : ℕ → S → S → Type 0) (Goal : ℕ → S → Type 0) (start : S) (horizon limit : ℕ) (estimate : S → ℕ) (Met : ℕ → S → Type 0) (Waits : ℕ → Type 0)
    → IsFrontier Step Goal start horizon limit estimate Met Waits → (m : ℕ) → m ≤ limit → ((bound : ℕ) → Waits bound → m < bound) → (k : ℕ) (s : S) → Met k s → (bound : ℕ) × IsDone Step Goal horizon limit estimate Met k s bound × (m < bound)
done_beyond Step Goal start horizon limit estimate Met Waits f m small late k s h =
    let d = f.each k s h in
    (d.0, d.1, elim d.2 [ inl w ↦ late d.0 w | inr b ↦ omega arith ])

-- each state that is reached, of no more than m, was met
pub met : {S : Type 0} (Step : ℕ → S → S → Type 0) (Goal : ℕ → S → Type 0) (start : S) (horizon limit : ℕ) (estimate : S → ℕ) (Met : ℕ → S → Type 0) (Waits : ℕ → Type 0)
    → IsSpace Step Goal start horizon estimate → IsFrontier Step Goal start horizon limit estimate Met Waits → (m : ℕ) → m ≤ limit → ((bound : ℕ) → Waits bound → m < bound)
    → (k : ℕ) (t : S) → k + estimate t ≤ m → Reaches Step start k t → Covers Met horizon k t
met Step Goal start horizon limit estimate Met Waits p f m small late zero t h r =
    let q : estimate start ≡ estimate t = ap estimate (sym r) in
    record { time = 0; alike = inl refl; holds = subst (Met 0) (sym r) (f.start_met (omega arith)) }
met Step Goal start horizon limit estimate Met Waits p f m small late (suc k) t h r =
    let s = r.0 in
    let falls = p.falls k s t r.1 r.2 in
    let c = met Step Goal start horizon limit estimate Met Waits p f m small late k s (omega (arith, falls)) r.1 in
    let early = alike_le horizon c.time k c.alike in
    let here : Step c.time s t = elim c.alike [ inl e ↦ subst (λ (j : ℕ). Step j s t) (sym e) r.2 | inr q ↦ p.step_later c.time k s t q.0 (omega (arith, q.0, q.1)) r.2 ] in
    let d = done_beyond Step Goal start horizon limit estimate Met Waits f m small late c.time s c.holds in
    let n = d.1.onward t here (omega (arith, d.2)) (omega arith) in
    record { time = n.time; alike = alike_next horizon n.time c.time k c.alike n.alike; holds = n.holds }

-- where every bound that waits is above m, no goal is reached at m
pub no_goal_by : {S : Type 0} (Step : ℕ → S → S → Type 0) (Goal : ℕ → S → Type 0) (start : S) (horizon limit : ℕ) (estimate : S → ℕ) (Met : ℕ → S → Type 0) (Waits : ℕ → Type 0)
    → IsSpace Step Goal start horizon estimate → IsFrontier Step Goal start horizon limit estimate Met Waits → (m : ℕ) → m ≤ limit → ((bound : ℕ) → Waits bound → m < bound)
    → (t : S) → Reaches Step start m t → Goal m t → ⊥
no_goal_by Step Goal start horizon limit estimate Met Waits p f m small late t r g =
    let z = p.at_goal m t r g in
    let c = met Step Goal start horizon limit estimate Met Waits p f m small late m t (omega arith) r in
    let early = alike_le horizon c.time m c.alike in
    let d = done_beyond Step Goal start horizon limit estimate Met Waits f m small late c.time t c.holds in
    d.1.no_goal (omega (arith, d.2)) (elim c.alike [ inl e ↦ subst (λ (j : ℕ). Goal j t) (sym e) g | inr q ↦ p.goal_later c.time m t q.0 (omega (arith, q.0, q.1)) g ])

-- no goal is reached before the estimate of the start
pub start_before : {S : Type 0} (Step : ℕ → S → S → Type 0) (Goal : ℕ → S → Type 0) (start : S) (horizon : ℕ) (estimate : S → ℕ) → IsSpace Step Goal start horizon estimate → (k : ℕ) (t : S) → Reaches Step start k t → estimate start ≤ k + estimate t
start_before Step Goal start horizon estimate p zero t r = let q : estimate start ≡ estimate t = ap estimate (sym r) in omega arith
start_before Step Goal start horizon estimate p (suc k) t r = omega (arith, start_before Step Goal start horizon estimate p k r.0 r.1, p.falls k r.0 t r.1 r.2)
