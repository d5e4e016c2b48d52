-- rings of followers stand for ever, and only they
use Rattle.std.proofs.Common.{◌≡◌, ◌≢◌, ℕ, ◌+◌, ◌<◌, ◌≤◌, ◌∙◌, ◌==◌, ◌⊎◌, inl, inr, List, [], ◌∷◌, Bool, true, false, cond, length, sym, subst, refl, ap, arith}
use Prim.Native.Nat.{zero, suc}
use Rattle.std.proofs.lemmas.Bool.{cases_eq, cases_lt, cases_Bool, eqb-true, eqb-false, ltb-true, lt-ltb}
use Rattle.std.proofs.Math.Dec.{ltb}
use Rattle.std.proofs.lemmas.List.{length-set}
use Rattle.wh_grid.specs.declared.cell.Cell.{Cell}
use Rattle.wh_drive.specs.declared.vehicle.Vehicle.{Vehicle}
use Rattle.wh_drive.specs.Drives.{Drive, clock, planned, reached, told, MayStart, started, arrived, ticked}
use Rattle.wh_drive.specs.Runs.{Event, Start, Arrive, Tick, Step, Run, IsOpening, IsSound}
use Rattle.wh_drive.specs.Standstills.{IsRing, RingsStand, SomeoneGoes, OnlyRingsStand}
use Rattle.wh_drive.proofs.Keeping.{sound-step}
use Rattle.wh_drive.proofs.Opening.{all-idle, sound-opening}
use Rattle.wh_drive.proofs.Running.{sound-reached}
use Rattle.wh_drive.proofs.Going.{least-below}
use Rattle.wh_drive.proofs.Vehicles.{started-same, started-other, arrived-told, ticked-past}

-- in each ring nobody has been told to go on from it
abbrev Stand : Drive → Type 0
Stand d = (time : ℕ) (ring : ℕ → Bool) (agent : ℕ) → IsRing d time ring → ring agent ≡ true → told d agent ≤ time

-- a ring that was there before
ring-before : (old new : Drive) (time : ℕ) (ring : ℕ → Bool) → length new.vehicles ≡ length old.vehicles → time < clock old →
    ((i t : ℕ) → t ≤ clock old → planned new i t ≡ planned old i t) → IsRing new time ring → IsRing old time ring
ring-before old new time ring size before same is = record {
  before = before;
  known = λ agent within. let known = is.known agent within in omega arith;
  enters = λ agent within.
      let e = is.enters agent within in
      let known = e.known in
      record {
        other = e.other;
        within = e.within;
        known = omega arith;
        differ = e.differ;
        entered = sym (same agent (time + 1) (omega arith)) ∙ e.entered ∙ same e.other time (omega arith);
      };
}

stand-started : (d : Drive) (agent : ℕ) → IsSound d → MayStart d agent → Stand d → Stand (started agent d)
stand-started d agent sound may stand time ring i is within =
    let size : length (started agent d).vehicles ≡ length d.vehicles = length-set d.vehicles agent _ in
    let old : IsRing d time ring = ring-before d (started agent d) time ring size is.before (λ k t h. refl) is in
    let upto = stand time ring i old within in
    elim (cases_eq i agent) [
      | inr ne ↦ (let same : told (started agent d) i ≡ told d i = ap (λ (v : Vehicle). v.told) (started-other d agent i ne) in omega arith)
      | inl e ↦
          let same : told (started agent d) i ≡ told d agent + 1 =
          ap (λ k. told (started agent d) k) e ∙ ap (λ (v : Vehicle). v.told) (started-same d agent may.step.known) in
          let own : told d i ≡ told d agent = ap (λ k. told d k) e in
          elim (cases_lt (told d agent) time) [
            | inl l ↦ omega arith
            | inr g ↦
                let now : time ≡ told d agent = omega arith in
                let enters = old.enters i within in
                let theirs = stand time ring enters.other old enters.within in
                let in_step = sound.in_step enters.other in
                absurd (may.in_turn enters.other time (record {
                  known = enters.known;
                  differ = λ f. enters.differ (f ∙ sym e);
                  earlier = omega arith;
                  there = sym enters.entered ∙ ap (λ k. planned d k (time + 1)) e ∙ ap (λ t. planned d agent (t + 1)) now;
                  not_over = omega arith;
                }))
          ]
    ]

stand-arrived : (d : Drive) (agent : ℕ) → agent < length d.vehicles → Stand d → Stand (arrived agent d)
stand-arrived d agent known stand time ring i is within =
    let size : length (arrived agent d).vehicles ≡ length d.vehicles = length-set d.vehicles agent _ in
    let old : IsRing d time ring = ring-before d (arrived agent d) time ring size is.before (λ k t h. refl) is in
    let upto = stand time ring i old within in
    let same = arrived-told d agent i known in
    omega arith

stand-ticked : (d : Drive) (cells : List Cell) → IsSound d → Stand d → Stand (ticked cells d)
stand-ticked d cells sound stand time ring i is within =
    let some = sound.plan.some in
    let in_time = sound.in_time i in
    elim (cases_lt time (clock d)) [
      | inl l ↦ stand time ring i (ring-before d (ticked cells d) time ring refl l (λ k t h. ticked-past d cells k t (omega arith)) is) within
      | inr g ↦ (let upto : told d i ≤ time = omega arith in upto)
    ]

stand-step : (old : Drive) (event : Event) (new : Drive) → IsSound old → Step old event new → Stand old → Stand new
stand-step old (Start agent) new sound step stand = subst Stand (sym step.1) (stand-started old agent sound step.0 stand)
stand-step old (Arrive agent number) new sound step stand = subst Stand (sym step.1) (stand-arrived old agent step.0.known stand)
stand-step old (Tick cells) new sound step stand = subst Stand (sym step.1) (stand-ticked old cells sound stand)

stand-run : (old : Drive) (events : List Event) (new : Drive) → IsSound old → Run old events new → Stand old → Stand new
stand-run old [] new sound run stand = subst Stand (sym run) stand
stand-run old (event ∷ events) new sound run stand =
    stand-run run.0 events new (sound-step old event run.0 sound run.1) run.2 (stand-step old event run.0 sound run.1 stand)

stand-opening : (d : Drive) → IsOpening d → Stand d
stand-opening d o time ring i is within =
    let none : told d i ≡ 0 = ap (λ s. told s i) o.is_opened ∙ ap (λ (v : Vehicle). v.told) (all-idle o.starts i) in
    omega arith

pub rings_stand : RingsStand
rings_stand events d time ring agent r is within =
    stand-run r.opening events d (sound-opening r.opening r.is_opening) r.run (stand-opening r.opening r.is_opening) time ring agent is within

-- cells are alike or not
alike : (c e : Cell) → (c ≡ e) ⊎ (c ≢ e)
alike c e = elim (cases_eq c.x e.x) [
  | inr ne ↦ inr (λ same. ne (ap (λ (p : Cell). p.x) same))
  | inl x ↦ elim (cases_eq c.y e.y) [
    | inr ne ↦ inr (λ same. ne (ap (λ (p : Cell). p.y) same))
    | inl y ↦ inl (ap (λ n. record { x = n; y = c.y }) x ∙ ap (λ n. record { x = e.x; y = n }) y)
  ]
]

-- among the first n, one that is at the time and whose cell the agent enters, or none
record IsFollowed (d : Drive) (time agent other : ℕ) : Type 0 where
  at : reached d other ≡ time
  differ : other ≢ agent
  entered : planned d agent (time + 1) ≡ planned d other time

followed-one : (d : Drive) (time agent other : ℕ) → IsFollowed d time agent other ⊎ (IsFollowed d time agent other → ⊥)
followed-one d time agent other = elim (cases_eq (reached d other) time) [
  | inr ne ↦ inr (λ f. ne f.at)
  | inl at ↦ elim (cases_eq other agent) [
    | inl e ↦ inr (λ f. f.differ e)
    | inr ne ↦ elim (alike (planned d agent (time + 1)) (planned d other time)) [
      | inr far ↦ inr (λ f. far f.entered)
      | inl same ↦ inl (record { at = at; differ = ne; entered = same })
    ]
  ]
]

followed : (d : Drive) (time agent n : ℕ) → ((other : ℕ) × (other < n) × IsFollowed d time agent other) ⊎ ((other : ℕ) → other < n → IsFollowed d time agent other → ⊥)
followed d time agent zero = inr (λ other h. absurd (omega arith))
followed d time agent (suc n) = elim (followed-one d time agent n) [
  | inl f ↦ inl (n, (let h : n < suc n = omega arith in h), f)
  | inr far ↦ elim (followed d time agent n) [
    | inl some ↦ inl (some.0, (let w = some.1 in let h : some.0 < suc n = omega arith in h), some.2)
    | inr none ↦ inr (λ other h f. elim (cases_lt other n) [
      | inl l ↦ none other l f
      | inr g ↦ (let e : other ≡ n = omega arith in far (subst (IsFollowed d time agent) e f))
    ])
  ]
]

-- of those furthest back one goes or may go, or follows another of them
one-follows : (d : Drive) (time agent : ℕ) → IsSound d → ((k : ℕ) → k < length d.vehicles → time ≤ reached d k) → time < clock d → agent < length d.vehicles →
    reached d agent ≡ time → SomeoneGoes d ⊎ ((other : ℕ) × (other < length d.vehicles) × IsFollowed d time agent other)
one-follows d time agent sound least behind known at = elim (cases_lt (reached d agent) (told d agent)) [
  | inl goes ↦ inl (record { agent = agent; known = known; goes = inl goes })
  | inr g ↦ elim (followed d time agent (length d.vehicles)) [
    | inl some ↦ inr some
    | inr none ↦
        let in_step = sound.in_step agent in
        let some = sound.some in
        let stands : told d agent ≡ time = omega arith in
        let may : MayStart d agent = record {
          step = record { known = known; planned_to = omega arith; near = omega arith };
          in_turn = λ other when before.
              let l = least other before.known in
              let earlier = before.earlier in
              let not_over = before.not_over in
              let now : when ≡ time = omega arith in
              none other before.known (record {
                at = omega arith;
                differ = before.differ;
                entered = ap (λ t. planned d agent (t + 1)) (sym stands) ∙ sym before.there ∙ ap (planned d other) now;
              });
        } in
        inl (record { agent = agent; known = known; goes = inr may })
  ]
]

all-follow : (d : Drive) (time n : ℕ) → IsSound d → ((k : ℕ) → k < length d.vehicles → time ≤ reached d k) → time < clock d → n ≤ length d.vehicles →
    SomeoneGoes d ⊎ ((agent : ℕ) → agent < n → reached d agent ≡ time → (other : ℕ) × (other < length d.vehicles) × IsFollowed d time agent other)
all-follow d time zero sound least behind h = inr (λ agent l. absurd (omega arith))
all-follow d time (suc n) sound least behind h = elim (all-follow d time n sound least behind (omega arith)) [
  | inl goes ↦ inl goes
  | inr all ↦ elim (cases_eq (reached d n) time) [
    | inr ne ↦ inr (λ agent l at. elim (cases_lt agent n) [
      | inl b ↦ all agent b at
      | inr g ↦ (let e : agent ≡ n = omega arith in absurd (ne (ap (λ k. reached d k) (sym e) ∙ at)))
    ])
    | inl now ↦ elim (one-follows d time n sound least behind (omega arith) now) [
      | inl goes ↦ inl goes
      | inr mine ↦ inr (λ agent l at. elim (cases_lt agent n) [
        | inl b ↦ all agent b at
        | inr g ↦
            let e : n ≡ agent = omega arith in
            subst (λ k. (other : ℕ) × (other < length d.vehicles) × IsFollowed d time k other) e mine
      ])
    ]
  ]
]

-- the agents of a ring: known, and at the time
abbrev in-ring : Drive → ℕ → ℕ → Bool
in-ring d time agent = cond (ltb agent (length d.vehicles)) (reached d agent == time) false

in-known : (d : Drive) (time agent : ℕ) → in-ring d time agent ≡ true → agent < length d.vehicles
in-known d time agent within = elim (cases_Bool (ltb agent (length d.vehicles))) [
  | inl e ↦ ltb-true agent (length d.vehicles) e
  | inr e ↦ (let f = ap (λ b. cond b (reached d agent == time) false) e in absurd (cc (f, within)))
]

in-at : (d : Drive) (time agent : ℕ) → in-ring d time agent ≡ true → reached d agent ≡ time
in-at d time agent within = elim (cases_Bool (ltb agent (length d.vehicles))) [
  | inl e ↦ eqb-true (reached d agent) time (sym (ap (λ b. cond b (reached d agent == time) false) e) ∙ within)
  | inr e ↦ (let f = ap (λ b. cond b (reached d agent == time) false) e in absurd (cc (f, within)))
]

in-of : (d : Drive) (time agent : ℕ) → agent < length d.vehicles → reached d agent ≡ time → in-ring d time agent ≡ true
in-of d time agent known at = elim (cases_Bool (reached d agent == time)) [
  | inl e ↦ ap (λ b. cond b (reached d agent == time) false) (lt-ltb agent (length d.vehicles) known) ∙ e
  | inr e ↦ absurd (eqb-false (reached d agent) time e at)
]

pub only_rings_stand : OnlyRingsStand
only_rings_stand events d agent r known behind =
    let sound = sound-reached events d r in
    let last = least-below (reached d) (length d.vehicles) (omega arith) in
    let time = reached d last.which in
    let l = last.least agent known in
    elim (all-follow d time (length d.vehicles) sound last.least (omega arith) (omega arith)) [
      | inl goes ↦ inl goes
      | inr all ↦ inr (record {
        time = time;
        ring = in-ring d time;
        is_ring = record {
          before = omega arith;
          known = λ i within. in-known d time i within;
          enters = λ i within.
              let f = all i (in-known d time i within) (in-at d time i within) in
              record { other = f.0; within = in-of d time f.0 f.1 f.2.at; known = f.1; differ = f.2.differ; entered = f.2.entered };
        };
        agent = last.which;
        within = in-of d time last.which last.within refl;
      })
    ]
