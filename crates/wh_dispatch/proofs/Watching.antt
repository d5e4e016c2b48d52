-- the visits that are due of the tasks that are kept
use Rattle.std.proofs.Common.{◌≡◌, ◌≢◌, ◌⊎◌, ◌↔◌, ℕ, ◌+◌, ◌-◌, ◌<◌, ◌≤◌, ◌∙◌, inl, inr, List, [], ◌∷◌, length, drop, get_or, cond, Some, sym, subst, ap, arith, length-drop}
use Prim.Native.Nat.{zero, suc}
use Rattle.std.specs.Prelude.{Contains, map}
use Rattle.std.specs.List.{AllPairs}
use Rattle.std.proofs.lemmas.Bool.{cases_lt}
use Rattle.std.proofs.lemmas.Bool.Decides.{leb_tells}
use Rattle.std.proofs.lemmas.Option.{same_Some}
use Rattle.std.proofs.lemmas.List.{length-map, get_or-map, get_or-drop}
use Rattle.std.proofs.lemmas.List.Kept.{AllPairs-filter}
use Rattle.wh_tasks.specs.declared.task.Task.{Task}
use Rattle.wh_tasks.specs.Tasks.{IsTask, visited}
use Rattle.wh_core.specs.States.{State}
use Rattle.wh_core.specs.Laws.{IsTimed}
use Rattle.wh_core.proofs.Work.{IsWorking}
use Rattle.wh_drive.specs.Drives.{Drive, reached}
use Rattle.wh_vehicles.specs.Visits.{Visit, visit_steps, HasMade}
use Rattle.wh_dispatch.specs.declared.visits.Pending.{Pending}
use Rattle.wh_dispatch.specs.Crews.{IsWatched, AreWatched}
use Rattle.wh_dispatch.specs.Lines.{InTurn}
use Rattle.wh_dispatch.specs.Visiting.{made_first, clocks_of, made_of, due_of, due_visits, told_of, is_left, left_after, IsStanding}
use Rattle.wh_dispatch.proofs.Members.{in_flat_map, flat_map_in, in_map, map_in, in_filter, filter_in, in_range, range_in, pairs_nil, pairs_join, pairs_first, pairs_rest, pairs_map, pairs_range}

-- ---- clocks

pub first_made : (opening reach : ℕ) (clocks : List ℕ) (k : ℕ) → k < made_first opening reach clocks → (k < length clocks) × (get_or clocks k 0 - opening ≤ reach)
first_made opening reach [] k h = absurd (omega arith)
first_made opening reach (clock ∷ clocks) k h = elim (leb_tells (clock - opening) reach) [
  | inl over ↦ go (first_made opening reach clocks) over.1 k (subst (λ b. k < cond b (suc (made_first opening reach clocks)) 0) over.0 h)
  | inr not ↦ absurd (let none : k < 0 = subst (λ b. k < cond b (suc (made_first opening reach clocks)) 0) not.0 h in omega arith)
]
  where
    go : ((j : ℕ) → j < made_first opening reach clocks → (j < length clocks) × (get_or clocks j 0 - opening ≤ reach)) → clock - opening ≤ reach → (j : ℕ) → j < suc (made_first opening reach clocks) →
        (j < length (clock ∷ clocks)) × (get_or (clock ∷ clocks) j 0 - opening ≤ reach)
    go rest over zero h = (omega arith, over)
    go rest over (suc j) h = (let r = rest j (omega arith) in (let l = r.0 in omega arith, r.1))

pub all_made : (opening reach : ℕ) (clocks : List ℕ) (k : ℕ) → k < length clocks → ((j : ℕ) → j ≤ k → get_or clocks j 0 - opening ≤ reach) → k < made_first opening reach clocks
all_made opening reach [] k h all = absurd (omega arith)
all_made opening reach (clock ∷ clocks) k h all = elim (leb_tells (clock - opening) reach) [
  | inl over ↦ subst (λ b. k < cond b (suc (made_first opening reach clocks)) 0) (sym over.0) (go (all_made opening reach clocks) k h all)
  | inr not ↦ absurd (let first : clock - opening ≤ reach = all 0 (omega arith) in let later = not.1 in omega arith)
]
  where
    go : ((j : ℕ) → j < length clocks → ((i : ℕ) → i ≤ j → get_or clocks i 0 - opening ≤ reach) → j < made_first opening reach clocks) → (j : ℕ) → j < length (clock ∷ clocks) →
        ((i : ℕ) → i ≤ j → get_or (clock ∷ clocks) i 0 - opening ≤ reach) → j < suc (made_first opening reach clocks)
    go rest zero h all = omega arith
    go rest (suc j) h all = (let l = rest j (omega arith) (λ i le. all (suc i) (omega arith)) in omega arith)

abbrev pub visit : ℕ → ℕ → ℕ → Visit
visit agent task number = record { agent = agent; task = task; number = number }

-- what is told of a set of visits holds of another, where both have the same
pub watched_as : (s : State) (A B : Visit → Type 0) (pending : List Pending) → ((v : Visit) → A v → B v) → ((v : Visit) → B v → A v) → AreWatched s A pending → AreWatched s B pending
watched_as s A B pending to from w = record {
  once = w.once;
  each = λ p c. (let one = w.each p c in record {
    task = one.task;
    is_task = one.is_task;
    agent_is = one.agent_is;
    stops_are = one.stops_are;
    told = λ k. (λ b. (one.told k).0 (from _ b), λ h. to _ ((one.told k).1 h));
  });
  all = λ n task agent is has. elim (w.all n task agent is has) [
    | inl kept ↦ inl kept
    | inr told ↦ inr (λ k h. to _ (told k h))
  ];
}

module _ (opening : ℕ) (s : State) (e : Drive) where
  abbrev pub Made : Visit → Type 0
  Made v = HasMade opening (record { state = s; drive = e }) v

  pub made_when : (agent n k : ℕ) (task : Task) → IsTask s.tasks n task → task.agent ≡ Some agent → k < length task.visits → get_or task.visits k 0 - opening ≤ reached e agent →
      Made (visit agent n k)
  made_when agent n k task is has within over =
      let size = length-map task.visits (λ (clock : ℕ). clock - opening) in
      let here : get_or (visit_steps opening task) k 0 ≡ get_or task.visits k 0 - opening = get_or-map (λ (clock : ℕ). clock - opening) task.visits k 0 0 within in
      record {
        task = task;
        is_task = is;
        agent_is = has;
        made = record { visit = omega arith; over = subst (λ t. t ≤ reached e agent) (sym here) over };
      }

  -- what a visit that is made says of its task
  pub record Tells (v : Visit) (task : Task) : Type 0 where
    pub agent : task.agent ≡ Some v.agent
    pub within : v.number < length task.visits
    pub over : get_or task.visits v.number 0 - opening ≤ reached e v.agent

  pub made_tells : (v : Visit) (task : Task) → Made v → IsTask s.tasks v.task task → Tells v task
  made_tells v task m is =
      let same : m.task ≡ task = same_Some m.task task (sym m.is_task ∙ is) in
      let size = length-map m.task.visits (λ (clock : ℕ). clock - opening) in
      let visit = m.made.visit in
      let within : v.number < length m.task.visits = omega arith in
      let here : get_or (visit_steps opening m.task) v.number 0 ≡ get_or m.task.visits v.number 0 - opening =
      get_or-map (λ (clock : ℕ). clock - opening) m.task.visits v.number 0 0 within in
      subst (λ (t : Task). Tells v t) same (record {
        agent = m.agent_is;
        within = within;
        over = subst (λ t. t ≤ reached e v.agent) here m.made.over;
      })

  module _ (IsTold : Visit → Type 0) where
    abbrev many : Pending → ℕ
    many p = made_of opening s.tasks e.vehicles p

    module _ (p : Pending) (w : IsWatched s IsTold p) where
      left_clocks : List ℕ
      left_clocks = drop p.told w.task.visits

      many_is : many p ≡ p.told + made_first opening (reached e p.agent) (drop p.told w.task.visits)
      many_is = ap (λ o. p.told + made_first opening (reached e p.agent) (drop p.told (clocks_of o))) w.is_task

      pub due_made : (k : ℕ) → p.told ≤ k → k < many p → Made (visit p.agent p.task k)
      due_made k low high =
          let many = many_is in
          let size = length-drop p.told w.task.visits in
          let first = first_made opening (reached e p.agent) (drop p.told w.task.visits) (k - p.told) (omega arith) in
          let place : p.told + (k - p.told) ≡ k = omega arith in
          let inside = first.0 in
          let here : get_or (drop p.told w.task.visits) (k - p.told) 0 ≡ get_or w.task.visits k 0 =
          get_or-drop p.told w.task.visits (k - p.told) 0 ∙ ap (λ i. get_or w.task.visits i 0) place in
          made_when p.agent p.task k w.task w.is_task w.agent_is (omega arith) (subst (λ t. t - opening ≤ reached e p.agent) here first.1)

      due_most : (c : ℕ) → IsTimed c w.task → (k : ℕ) → Made (visit p.agent p.task k) → p.told ≤ k → k < many p
      due_most c timed k made low =
          let says = made_tells (visit p.agent p.task k) w.task made w.is_task in
          let inside = says.within in
          let over = says.over in
          let size = length-drop p.told w.task.visits in
          let first : k - p.told < made_first opening (reached e p.agent) (drop p.told w.task.visits) =
          all_made opening (reached e p.agent) (drop p.told w.task.visits) (k - p.told) (omega arith) (λ j le.
          let here = get_or-drop p.told w.task.visits j 0 in
          let before = timed.in_order (p.told + j) k (omega arith) inside in
          omega arith) in
          let many = many_is in
          omega arith

      no_less : p.told ≤ many p
      no_less = (let many = many_is in omega arith)

      made_now : (c : ℕ) → IsTimed c w.task → ((v : Visit) → IsTold v → Made v) → (k : ℕ) → Made (visit p.agent p.task k) ↔ k < many p
      made_now c timed stays k = (
        λ made. elim (cases_lt k p.told) [
          | inl l ↦ (let more = no_less in omega arith)
          | inr g ↦ due_most c timed k made g
        ],
        λ h. elim (cases_lt k p.told) [
          | inl l ↦ stays _ ((w.told k).1 l)
          | inr g ↦ due_made k g h
        ],
      )

    module _ (pending : List Pending) (a : AreWatched s IsTold pending) where
      abbrev due : List Visit
      due = due_visits opening s.tasks e.vehicles pending

      -- each that is due is made, and was not told
      pub each_due : (v : Visit) → Contains due v → Made v × ¬ IsTold v
      each_due v c =
          let at = in_flat_map (due_of opening s.tasks e.vehicles) pending v c in
          let p = at.0 in
          let w = a.each p at.1 in
          let k = in_range (λ number. visit p.agent p.task number) p.told (many p - p.told) v at.2 in
          let more = no_less p w in
          let low = k.1 in
          let high = k.2 in
          subst (λ (u : Visit). Made u × ¬ IsTold u) k.3
          (due_made p w k.0 low (omega arith), λ told. (let before = (w.told k.0).0 told in absurd (omega arith)))

      turns : (ps : List Pending) → AllPairs (λ p q. p.task ≢ q.task) ps → AllPairs InTurn (due_visits opening s.tasks e.vehicles ps)
      turns [] once = pairs_nil InTurn
      turns (p ∷ ps) once =
          pairs_join InTurn (due_of opening s.tasks e.vehicles p) (due_visits opening s.tasks e.vehicles ps)
          (pairs_range InTurn (λ number. visit p.agent p.task number) p.told (many p - p.told) (λ k l less same. less))
          (turns ps (pairs_rest (λ (p q : Pending). p.task ≢ q.task) p ps once))
          (λ x y cx cy same.
          let k = in_range (λ number. visit p.agent p.task number) p.told (many p - p.told) x cx in
          let at = in_flat_map (due_of opening s.tasks e.vehicles) ps y cy in
          let q = at.0 in
          let l = in_range (λ number. visit q.agent q.task number) q.told (many q - q.told) y at.2 in
          absurd (pairs_first (λ (p q : Pending). p.task ≢ q.task) p ps once q at.1 (ap (λ (v : Visit). v.task) k.3 ∙ same ∙ sym (ap (λ (v : Visit). v.task) l.3))))

      pub due_in_turn : AllPairs InTurn due
      due_in_turn = turns pending a.once

      module _ (c : ℕ) (timed : (n : ℕ) (task : Task) → IsTask s.tasks n task → IsTimed c task) (few : (n : ℕ) (task : Task) → IsTask s.tasks n task → visited task ≤ length task.stops)
          (stays : (v : Visit) → IsTold v → Made v) where
        -- each that is made was told, or is due
        pub all_due : (v : Visit) → Made v → IsTold v ⊎ Contains due v
        all_due v m = elim (a.all v.task m.task v.agent m.is_task m.agent_is) [
          | inl kept ↦
              let p = kept.0 in
              let w = a.each p kept.1 in
              let same : w.task ≡ m.task = same_Some w.task m.task (sym w.is_task ∙ subst (λ n. IsTask s.tasks n m.task) (sym kept.2) m.is_task) in
              let agent : p.agent ≡ v.agent = same_Some p.agent v.agent (sym w.agent_is ∙ ap (λ (t : Task). t.agent) same ∙ m.agent_is) in
              let is : visit p.agent p.task v.number ≡ v = ap (λ k. visit k p.task v.number) agent ∙ ap (λ k. visit v.agent k v.number) kept.2 in
              elim (cases_lt v.number p.told) [
                | inl l ↦ inl (subst IsTold is ((w.told v.number).1 l))
                | inr g ↦
                    let high = due_most p w c (timed p.task w.task w.is_task) v.number (subst Made (sym is) m) g in
                    inr (subst (λ u. Contains due u) is
                    (flat_map_in (due_of opening s.tasks e.vehicles) pending p (visit p.agent p.task v.number) kept.1
                    (range_in (λ number. visit p.agent p.task number) p.told (many p - p.told) v.number g (omega arith))))
              ]
          | inr told ↦
              let within = (made_tells v m.task m m.is_task).within in
              let most = few v.task m.task m.is_task in
              inl (told v.number (omega arith))
        ]

        -- once they are told, those are kept of which not all are
        pub watched_after : AreWatched s Made (left_after opening s.tasks e.vehicles pending)
        watched_after = record {
          once = AllPairs-filter (λ (p q : Pending). p.task ≢ q.task) is_left (map (told_of opening s.tasks e.vehicles) pending)
              (pairs_map (λ (p q : Pending). p.task ≢ q.task) (told_of opening s.tasks e.vehicles) pending a.once);
          each = λ q cq.
              let left = in_filter is_left (map (told_of opening s.tasks e.vehicles) pending) q cq in
              let at = in_map (told_of opening s.tasks e.vehicles) pending q left.0 in
              let p = at.0 in
              let w = a.each p at.1 in
              let now : IsWatched s Made (told_of opening s.tasks e.vehicles p) = record {
                task = w.task;
                is_task = w.is_task;
                agent_is = w.agent_is;
                stops_are = w.stops_are;
                told = made_now p w c (timed p.task w.task w.is_task) stays;
              } in
              subst (λ (r : Pending). IsWatched s Made r) at.2 now;
          all = λ n task agent is has. elim (a.all n task agent is has) [
            | inl kept ↦
                let p = kept.0 in
                let w = a.each p kept.1 in
                let q = told_of opening s.tasks e.vehicles p in
                elim (leb_tells (suc (many p)) p.stops) [
                  | inl some ↦ inl (q, filter_in is_left (map (told_of opening s.tasks e.vehicles) pending) q (map_in (told_of opening s.tasks e.vehicles) pending p kept.1) some.0, kept.2)
                  | inr none ↦
                      let same : w.task ≡ task = same_Some w.task task (sym w.is_task ∙ subst (λ k. IsTask s.tasks k task) (sym kept.2) is) in
                      let mine : p.agent ≡ agent = same_Some p.agent agent (sym w.agent_is ∙ ap (λ (t : Task). t.agent) same ∙ has) in
                      let stops : p.stops ≡ length task.stops = w.stops_are ∙ ap (λ (t : Task). length t.stops) same in
                      inr (λ k h.
                      let all = none.1 in
                      subst (λ b. Made (visit b n k)) mine
                      (subst (λ b. Made (visit p.agent b k)) kept.2 ((made_now p w c (timed p.task w.task w.is_task) stays k).1 (omega arith))))
                ]
            | inr told ↦ inr (λ k h. stays _ (told k h))
          ];
        }

      -- the tasks that are kept stand
      pub standing : (agents : ℕ) → agents ≡ length s.paths → IsWorking s → ((v : Visit) → IsTold v → Made v) → (p : Pending) → Contains pending p → IsStanding s.tasks agents p
      standing agents count working stays p cp =
          let w = a.each p cp in
          let known = working.known p.task w.task p.agent w.is_task w.agent_is in
          record { task = w.task; is_task = w.is_task; known = omega arith; told = go p.told (λ k h. (made_tells (visit p.agent p.task k) w.task (stays _ ((w.told k).1 h)) w.is_task).within) }
        where
          go : {most : ℕ} (told : ℕ) → ((k : ℕ) → k < told → k < most) → told ≤ most
          go zero all = omega arith
          go (suc told) all = (let l = all told (omega arith) in omega arith)
