-- what was expanded so far
use Rattle.std.proofs.Common.{◌≡◌, ℕ, ◌+◌, ◌-◌, ◌<◌, ◌≤◌, ◌⊎◌, inl, inr, ◌∙◌, List, [], ◌∷◌, ◌++◌, length, get_or, refl, sym, ap, subst, suc, zero, add-one, Option, Some, None, Contains, arith}
use Rattle.std.proofs.lemmas.Bool.{cases_lt}
use Rattle.std.proofs.lemmas.List.Elements.{All-nil, All-contains, Contains-get_or, Contains-push, Contains-append_left, Contains-push_cases}
use Rattle.std.proofs.lemmas.List.Quantifiers.{all_pairs_push}
use Rattle.wh_grid.specs.declared.cell.Cell.{Cell}
use Rattle.wh_path.specs.Paths.{last_index}
use Rattle.wh_resv.specs.Calls.{IsVacant}
use Rattle.wh_resv.specs.Others.{Others}
use Rattle.wh_search.specs.States.{State, Steps, IsEnd, Reaches}
use Rattle.wh_search.specs.Tours.{IsTour}
use Rattle.wh_search.proofs.Expands.{arrives_one}
use Rattle.wh_intervals.specs.Arrivals.{Arrival, Stands, Covered, IsInterval, total}
use Rattle.wh_intervals.specs.Closings.{Notes}
use Rattle.wh_intervals.specs.Efforts.{arrival, IsOneOf, GoesOn, IsPart, AreExpandedBy}
use Rattle.wh_resv.specs.Questions.{IsClear}
use Rattle.wh_intervals.specs.Laws.{IsSettled}
use Rattle.wh_intervals.specs.Problems.{Problem, IsProblem}
use Rattle.wh_intervals.specs.Queues.{Waiting, Pops}
use Rattle.wh_intervals.specs.declared.entry.Entry.{Entry}
use Rattle.wh_intervals.specs.declared.interval.Interval.{Interval}
use Rattle.wh_intervals.specs.declared.node.Node.{Node}
use Rattle.wh_intervals.specs.Stays.{Stay}
use Rattle.wh_intervals.specs.Nodes.{state_of, arrival_of, interval_of, node_at, total_at, bound_at, IsReached, IsOnward, IsExpanded, IsKept, Spreads}
use Rattle.wh_intervals.specs.Told.{node_in, IsSpent, IsWithin, IsPast, IsRest, whole, front, IsTold}
use Rattle.wh_intervals.proofs.Closings.{some_same}
use Rattle.wh_intervals.proofs.Covering.{covered, stands_total}
use Rattle.wh_intervals.proofs.Found.{IsNode, kept_expanded, start_settled}
use Rattle.wh_intervals.proofs.Kept.{grows_node, grows_size, expanded_grows, kept_done}
use Rattle.wh_intervals.proofs.Waits.{wait_reaches, rest_sooner}

-- a state that can be reached at the beginning of an interval can be reached at each of its times
reaches_later : (p : Problem) (n : Node) (k : ℕ) → IsSettled p.grid p.via (state_of n) → IsClear p.others.paths n.cell n.time n.until → n.time ≤ k → k ≤ n.until → Reaches (Steps p.grid p.others p.via) p.start n.time (state_of n) → Reaches (Steps p.grid p.others p.via) p.start k (state_of n)
reaches_later p n k settled clear from to r =
    let e : n.time + (k - n.time) ≡ k = omega arith in
    subst (λ (j : ℕ). Reaches (Steps p.grid p.others p.via) p.start j (state_of n)) e
    (wait_reaches p.grid p.others p.via p.start (state_of n) n.time (k - n.time) settled r (record { vacant = λ j a b. clear.vacant j a (omega arith) }))

-- each node can be reached at each of its times
node_reaches : (p : Problem) (nodes : List Node) → ((i : ℕ) → i < length nodes → IsReached p nodes i (node_at nodes i)) → (fuel i k : ℕ) → i < fuel → i < length nodes → (node_at nodes i).time ≤ k → k ≤ (node_at nodes i).until
    → Reaches (Steps p.grid p.others p.via) p.start k (state_of (node_at nodes i))
node_reaches p nodes all zero i k few within from to = absurd (omega arith)
node_reaches p nodes all (suc fuel) i k few within from to =
    let n = node_at nodes i in
    let r = all i within in
    let R : ℕ → State → Type 0 = Reaches (Steps p.grid p.others p.via) p.start in
    let first : R n.time (state_of n) = elim r.comes [
      | inl s ↦ subst (λ (j : ℕ). R j (state_of n)) (sym s.0) s.1
      | inr c ↦ (let earlier = c.earlier in
          let before = node_reaches p nodes all fuel n.parent c.before (omega arith) (omega arith) c.from c.to in
          subst (λ (j : ℕ). R j (state_of n)) (sym (c.later ∙ add-one c.before)) (state_of (node_at nodes n.parent), before, c.steps))
    ] in
    reaches_later p n k r.settled r.interval.clear from to first

none_there : (s : Stay) → Contains [] s → ⊥
none_there s c = All-contains (λ _. ⊥) [] s (All-nil (λ _. ⊥)) c

abbrev is_there : Option ℕ → Type 0
is_there None = ⊥
is_there (Some t) = t ≡ t

some_not_none : (t : ℕ) → Some t ≡ None → ⊥
some_not_none t e = subst is_there e refl

-- the first node waits
pub told_first : (p : Problem) (low index : ℕ) (queue : List Entry) (nodes : List Node) (new : List Entry) (closed : Interval → Option ℕ) → ((i : Interval) → closed i ≡ None) → Spreads p low index [] queue nodes new → ((i : ℕ) → i < length nodes → (node_at nodes i).time ≡ 0) → IsTold p nodes new None closed []
told_first p low index queue nodes new closed none x first =
    record {
      reached = λ s c. absurd (none_there s c);
      may_lead = λ s c. absurd (none_there s c);
      parts = λ s c. absurd (none_there s c);
      once = λ i j d first within. absurd (omega arith);
      spent = λ i t is. absurd (some_not_none t (sym is ∙ none i));
      within = λ s c. absurd (none_there s c);
      each = λ i b. inr (inl (x.fresh i (omega arith) b));
      begun = λ i b late. absurd (omega (arith, first i b));
    }

spent_pop : (p : Problem) (nodes : List Node) (queue rest : List Entry) (bound index : ℕ) (stays : List Stay) (i : Interval) (t : ℕ) → Pops queue rest bound index → IsSpent p nodes queue stays i t → IsSpent p nodes rest stays i t
spent_pop p nodes queue rest bound index stays i t pop x =
    record {
      from = x.from;
      in_time = x.in_time;
      interval = x.interval;
      expanded = x.expanded;
      first = x.first;
      among = x.among;
      state_is = x.state_is;
      time_is = x.time_is;
      stands = x.stands;
      past = λ b n w. x.past b n (pop.only b n w);
    }

pub told_pop : (p : Problem) (nodes : List Node) (queue rest : List Entry) (bound index : ℕ) (closed : Interval → Option ℕ) (stays : List Stay) → IsTold p nodes queue None closed stays → Pops queue rest bound index → IsTold p nodes rest (Some index) closed stays
told_pop p nodes queue rest bound index closed stays x pop =
    record {
      reached = x.reached;
      may_lead = x.may_lead;
      parts = x.parts;
      once = x.once;
      spent = λ i t is. spent_pop p nodes queue rest bound index stays i t pop (x.spent i t is);
      within = x.within;
      begun = x.begun;
      each = λ i b. elim (x.each i b) [
        | inl c ↦ inl c
        | inr d ↦ inr (elim d [
          | inl w ↦ elim (pop.kept (bound_at p (node_at nodes i)) i w) [ inl e ↦ inr e.1 | inr still ↦ inl still ]
          | inr z ↦ absurd z
        ])
      ];
    }

-- what is expanded is of no greater bound than what is taken
pub popped_past : (p : Problem) (nodes : List Node) (queue rest : List Entry) (bound index : ℕ) (closed : Interval → Option ℕ) (stays : List Stay) → IsTold p nodes queue None closed stays → Pops queue rest bound index → bound ≡ bound_at p (node_at nodes index)
    → (i : Interval) (t : ℕ) → closed i ≡ Some t → bound_at p (node_in i t) ≤ bound_at p (node_at nodes index)
popped_past p nodes queue rest bound index closed stays x pop is i t c = omega (arith, (x.spent i t c).past bound index pop.was, is)

-- the arrivals of one state in one interval end at one time
ends_alike : (p : Problem) (a b : Arrival) (k : ℕ) (t : State) → IsInterval p.others p.limit a → IsInterval p.others p.limit b → b.until ≤ p.limit → Stands a k t → Stands b k t → a.until < b.until → ⊥
ends_alike p a b k t x y in_b st su less =
    let same : b.state.cell ≡ a.state.cell = ap (λ (s : State). s.cell) (su.state_is ∙ sym st.state_is) in
    let to = st.to in
    let from = su.from in
    x.taken (omega arith) (subst (λ (c : Cell). IsVacant p.others.paths c (a.until + 1)) same (y.clear.vacant (a.until + 1) (omega arith) (omega arith)))

one_end : (p : Problem) (a b : Arrival) (k : ℕ) (t : State) → IsInterval p.others p.limit a → IsInterval p.others p.limit b → a.until ≤ p.limit → b.until ≤ p.limit → Stands a k t → Stands b k t → a.until ≡ b.until
one_end p a b k t x y in_a in_b st su =
    elim (cases_lt a.until b.until) [
      | inl less ↦ absurd (ends_alike p a b k t x y in_b st su less)
      | inr no_less ↦ elim (cases_lt b.until a.until) [
        | inl less ↦ absurd (ends_alike p b a k t y x in_a su st less)
        | inr none ↦ (let e : a.until ≡ b.until = omega arith in e)
      ]
    ]

-- none of these times is in a stay
rest_apart : (closed : Interval → Option ℕ) (n : Node) (last : ℕ) → IsRest (closed (interval_of n)) n last → (t k : ℕ) → closed (interval_of n) ≡ Some t → t ≤ k → k ≤ last → ⊥
rest_apart closed n last (whole none e) t k is from to = some_not_none t (sym is ∙ none)
rest_apart closed n last (front since some soon e) t k is from to = let same = some_same t since (sym is ∙ some) in omega arith

-- a later time of the interval was the first before
rest_later : (closed : Interval → Option ℕ) (n : Node) (last : ℕ) → IsRest (closed (interval_of n)) n last → (t : ℕ) → closed (interval_of n) ≡ Some t → n.time ≤ t
rest_later closed n last (whole none e) t is = absurd (some_not_none t (sym is ∙ none))
rest_later closed n last (front since some soon e) t is = let same = some_same t since (sym is ∙ some) in omega arith

same_interval : (i : Interval) (n : Node) (t : ℕ) → state_of (node_in i t) ≡ state_of n → i.until ≡ n.until → i ≡ interval_of n
same_interval i n t states ends =
    ap (λ (s : State). record { leg = s.leg; cell = s.cell; until = i.until }) states ∙ ap (λ u. record { leg = n.leg; cell = n.cell; until = u }) ends

stands_more : (stays : List Stay) (one : Stay) (k : ℕ) (t : State) → Covered (IsOneOf stays) k t → Covered (IsOneOf (stays ++ one ∷ [])) k t
stands_more stays one k t c = record { arrival = c.arrival; among = (c.among.0, Contains-append_left stays (one ∷ []) c.among.0 c.among.1, c.among.2); stands = c.stands }

goes_on_more : (estimate : ℕ → Cell → ℕ) (base : ℕ) (stays : List Stay) (one s : Stay) → GoesOn estimate base stays s → GoesOn estimate base (stays ++ one ∷ []) s
goes_on_more estimate base stays one s x = record { next = x.next; among = Contains-append_left stays (one ∷ []) x.next x.among; state_is = x.state_is; time_is = x.time_is; low = x.low }

part_more : (others : Others) (estimate : ℕ → Cell → ℕ) (base limit : ℕ) (stays : List Stay) (one s : Stay) → IsPart others estimate base limit stays s → IsPart others estimate base limit (stays ++ one ∷ []) s
part_more others estimate base limit stays one s x =
    record { clear = x.clear; lasts = x.lasts; in_time = x.in_time; ends = λ soon. elim (x.ends soon) [ inl taken ↦ inl taken | inr on ↦ inr (goes_on_more estimate base stays one s on) ] }

-- the part of a node's interval that is expanded now
abbrev pub part_of : Node → ℕ → Stay
part_of n last = record { time = n.time; leg = n.leg; cell = n.cell; until = last }

rest_ends : (p : Problem) (nodes : List Node) (queue : List Entry) (index : ℕ) (closed : Interval → Option ℕ) (stays : List Stay) (last : ℕ) → IsTold p nodes queue (Some index) closed stays → IsReached p nodes index (node_at nodes index)
    → ((i : Interval) (t : ℕ) → closed i ≡ Some t → bound_at p (node_in i t) ≤ bound_at p (node_at nodes index)) → IsRest (closed (interval_of (node_at nodes index))) (node_at nodes index) last → IsPart p.others p.estimate p.base p.limit stays (part_of (node_at nodes index) last)
rest_ends p nodes queue index closed stays last x r past (whole none e) =
    let from = r.from in
    let in_time = r.in_time in
    record {
      clear = record { vacant = λ j a b. r.interval.clear.vacant j a (omega arith) };
      lasts = omega arith;
      in_time = omega arith;
      ends = λ soon. inl (subst (λ (u : ℕ). IsVacant p.others.paths (node_at nodes index).cell (u + 1) → ⊥) (sym e) (r.interval.taken (omega arith)));
    }
rest_ends p nodes queue index closed stays last x r past (front since some soon e) =
    let n = node_at nodes index in
    let y = x.spent (interval_of n) since some in
    let from = y.from in
    let in_time = r.in_time in
    let low = past (interval_of n) since some in
    let first = y.time_is in
    let same : p.estimate y.first.leg y.first.cell ≡ p.estimate n.leg n.cell = ap (λ (s : State). p.estimate s.leg s.cell) y.state_is in
    record {
      clear = record { vacant = λ j a b. r.interval.clear.vacant j a (omega arith) };
      lasts = omega arith;
      in_time = omega arith;
      ends = λ early. inr (record { next = y.first; among = y.among; state_is = y.state_is; time_is = omega arith; low = omega arith });
    }

-- what is expanded of the interval before, and the rest of it
rest_onward : (p : Problem) (nodes : List Node) (queue : List Entry) (closed : Interval → Option ℕ) (stays : List Stay) (n : Node) (last : ℕ) → ((i : Interval) (t : ℕ) → closed i ≡ Some t → IsSpent p nodes queue stays i t) → IsRest (closed (interval_of n)) n last
    → IsOnward p nodes n last → IsOnward p nodes n n.until
rest_onward p nodes queue closed stays n last spent (whole none e) x k t from to step ne small = x k t from (omega arith) step ne small
rest_onward p nodes queue closed stays n last spent (front since some soon e) x k t from to step ne small =
    elim (cases_lt k since) [
      | inl before ↦ x k t from (omega arith) step ne small
      | inr late ↦ (spent (interval_of n) since some).expanded.onward k t late to step ne small
    ]

rest_stands : (p : Problem) (nodes : List Node) (queue : List Entry) (closed : Interval → Option ℕ) (stays : List Stay) (n : Node) (last : ℕ) → ((i : Interval) (t : ℕ) → closed i ≡ Some t → IsSpent p nodes queue stays i t) → IsRest (closed (interval_of n)) n last → (k : ℕ) → n.time ≤ k → k ≤ n.until
    → Covered (IsOneOf (stays ++ part_of n last ∷ [])) k (state_of n)
rest_stands p nodes queue closed stays n last spent (whole none e) k from to =
    record { arrival = arrival (part_of n last); among = (part_of n last, Contains-push stays (part_of n last), refl); stands = record { state_is = refl; from = from; to = omega arith } }
rest_stands p nodes queue closed stays n last spent (front since some soon e) k from to =
    elim (cases_lt k since) [
      | inl before ↦ record { arrival = arrival (part_of n last); among = (part_of n last, Contains-push stays (part_of n last), refl); stands = record { state_is = refl; from = from; to = omega arith } }
      | inr late ↦ stands_more stays (part_of n last) k (state_of n) ((spent (interval_of n) since some).stands k late to)
    ]

-- nodes, queue and stays may grow
spent_more : (p : Problem) (nodes : List Node) (queue : List Entry) (new_nodes : List Node) (new_queue : List Entry) (stays : List Stay) (one : Stay) (low index : ℕ) (i : Interval) (t : ℕ) → Spreads p low index nodes queue new_nodes new_queue → bound_at p (node_in i t) ≤ low
    → IsSpent p nodes queue stays i t → IsSpent p new_nodes new_queue (stays ++ one ∷ []) i t
spent_more p nodes queue new_nodes new_queue stays one low index i t more below x =
    record {
      from = x.from;
      in_time = x.in_time;
      interval = x.interval;
      expanded = expanded_grows p nodes new_nodes (node_in i t) more.grows x.expanded;
      first = x.first;
      among = Contains-append_left stays (one ∷ []) x.first x.among;
      state_is = x.state_is;
      time_is = x.time_is;
      stands = λ k from to. stands_more stays one k (state_of (node_in i t)) (x.stands k from to);
      past = λ b n w. elim (more.only b n w) [ inl old ↦ x.past b n old | inr above ↦ omega arith ];
    }

-- the rest of an interval is within it
pub last_within : (p : Problem) (nodes : List Node) (queue : List Entry) (closed : Interval → Option ℕ) (stays : List Stay) (n : Node) (last : ℕ) → ((i : Interval) (t : ℕ) → closed i ≡ Some t → IsSpent p nodes queue stays i t) → IsRest (closed (interval_of n)) n last → last ≤ n.until
last_within p nodes queue closed stays n last spent (whole none e) = omega arith
last_within p nodes queue closed stays n last spent (front since some soon e) = let from = (spent (interval_of n) since some).from in omega arith

-- and apart from each stay
part_apart : (p : Problem) (nodes : List Node) (queue : List Entry) (closed : Interval → Option ℕ) (stays : List Stay) (n : Node) (last : ℕ) (s : Stay) → ((i : Interval) (t : ℕ) → closed i ≡ Some t → IsSpent p nodes queue stays i t) → IsWithin closed s
    → IsInterval p.others p.limit (arrival_of n) → n.until ≤ p.limit → last ≤ n.until → IsRest (closed (interval_of n)) n last → (k : ℕ) (u : State) → Stands (arrival s) k u → Stands (arrival (part_of n last)) k u → ⊥
part_apart p nodes queue closed stays n last s spent w interval in_time long rest k u st su =
    let y = spent w.interval w.since w.closed_is in
    let from = w.from in
    let to = w.to in
    let st_from = st.from in
    let st_to = st.to in
    let su_from = su.from in
    let su_to = su.to in
    let in_s : Stands (arrival_of (node_in w.interval w.since)) k u = record { state_is = sym w.state_is ∙ st.state_is; from = omega arith; to = omega arith } in
    let in_n : Stands (arrival_of n) k u = record { state_is = su.state_is; from = su_from; to = omega arith } in
    let ends = one_end p (arrival_of (node_in w.interval w.since)) (arrival_of n) k u y.interval interval y.in_time in_time in_s in_n in
    let same = same_interval w.interval n w.since (in_s.state_is ∙ sym su.state_is) ends in
    rest_apart closed n last rest w.since k (sym (ap closed same) ∙ w.closed_is) (omega arith) su_to

spent_grows : (p : Problem) (nodes : List Node) (queue : List Entry) (new_nodes : List Node) (new_queue : List Entry) (stays : List Stay) (low index : ℕ) (i : Interval) (t : ℕ) → Spreads p low index nodes queue new_nodes new_queue → bound_at p (node_in i t) ≤ low
    → IsSpent p nodes queue stays i t → IsSpent p new_nodes new_queue stays i t
spent_grows p nodes queue new_nodes new_queue stays low index i t more below x =
    record {
      from = x.from;
      in_time = x.in_time;
      interval = x.interval;
      expanded = expanded_grows p nodes new_nodes (node_in i t) more.grows x.expanded;
      first = x.first;
      among = x.among;
      state_is = x.state_is;
      time_is = x.time_is;
      stands = x.stands;
      past = λ b n w. elim (more.only b n w) [ inl old ↦ x.past b n old | inr above ↦ omega arith ];
    }

-- a node that is not at the start comes from an earlier one
pub parent_within : (p : Problem) (nodes : List Node) (i : ℕ) → IsReached p nodes i (node_at nodes i) → 0 < (node_at nodes i).time → (node_at nodes i).parent < i
parent_within p nodes i r late = elim r.comes [ inl s ↦ absurd (omega (arith, s.0)) | inr c ↦ c.earlier ]

-- with the rest of its interval the node is expanded
pub rest_kept : (p : Problem) (nodes : List Node) (queue : List Entry) (new_nodes : List Node) (new_queue : List Entry) (index : ℕ) (closed : Interval → Option ℕ) (stays : List Stay) (last : ℕ) → IsTold p nodes queue (Some index) closed stays → index < length nodes
    → ((i : Interval) (t : ℕ) → closed i ≡ Some t → bound_at p (node_in i t) ≤ bound_at p (node_at nodes index)) → IsKept p new_nodes new_queue (Some index) → Spreads p (bound_at p (node_at nodes index)) index nodes queue new_nodes new_queue → IsRest (closed (interval_of (node_at nodes index))) (node_at nodes index) last
    → IsOnward p new_nodes (node_at nodes index) last → (IsEnd p.others p.via p.ends (node_at nodes index).time (state_of (node_at nodes index)) → ⊥) → IsKept p new_nodes new_queue None
rest_kept p nodes queue new_nodes new_queue index closed stays last x within past kept more rest onward no_end =
    let n = node_at nodes index in
    let grown : (i : Interval) (t : ℕ) → closed i ≡ Some t → IsSpent p new_nodes new_queue stays i t = λ i t is. spent_grows p nodes queue new_nodes new_queue stays (bound_at p n) index i t more (past i t is) (x.spent i t is) in
    let done : IsExpanded p new_nodes n = record { onward = rest_onward p new_nodes new_queue closed stays n last grown rest onward; no_end = no_end } in
    kept_done p new_nodes new_queue index kept (subst (IsExpanded p new_nodes) (sym (grows_node nodes new_nodes index more.grows within)) done)

-- the rest of the interval of the node that was taken is expanded, and new nodes wait
pub told_note : (p : Problem) (nodes : List Node) (queue : List Entry) (new_nodes : List Node) (new_queue : List Entry) (index : ℕ) (closed new_closed : Interval → Option ℕ) (stays : List Stay) (last : ℕ)
    → IsTold p nodes queue (Some index) closed stays → index < length nodes → ((i : ℕ) → i < length nodes → IsReached p nodes i (node_at nodes i))
    → ((q : List Cell) → IsTour p.grid p.others p.start.cell p.via p.ends q → total_at p (node_at nodes index) ≤ last_index q + p.slack)
    → ((i : Interval) (t : ℕ) → closed i ≡ Some t → bound_at p (node_in i t) ≤ bound_at p (node_at nodes index))
    → ((b i : ℕ) → Waiting queue b i → bound_at p (node_at nodes index) ≤ b)
    → (IsEnd p.others p.via p.ends (node_at nodes index).time (state_of (node_at nodes index)) → ⊥)
    → IsRest (closed (interval_of (node_at nodes index))) (node_at nodes index) last → Spreads p (bound_at p (node_at nodes index)) index nodes queue new_nodes new_queue → IsOnward p new_nodes (node_at nodes index) last
    → Notes closed new_closed (interval_of (node_at nodes index)) (node_at nodes index).time
    → IsTold p new_nodes new_queue None new_closed (stays ++ part_of (node_at nodes index) last ∷ [])
told_note p nodes queue new_nodes new_queue index closed new_closed stays last x within all lead past least no_end rest more onward notes =
    let n = node_at nodes index in
    let one = part_of n last in
    let r = all index within in
    let size = grows_size nodes new_nodes more.grows in
    let part = rest_ends p nodes queue index closed stays last x r past rest in
    let after = stays ++ one ∷ [] in
    let P : Stay → Type 0 = λ s. (k : ℕ) → s.time ≤ k → k ≤ s.until → Reaches (Steps p.grid p.others p.via) p.start k (arrival s).state in
    let L : Stay → Type 0 = λ s. (q : List Cell) → IsTour p.grid p.others p.start.cell p.via p.ends q → total p.estimate s.time (arrival s).state ≤ last_index q + p.slack in
    let I : Stay → Type 0 = IsPart p.others p.estimate p.base p.limit after in
    let W : Stay → Type 0 = IsWithin new_closed in
    let long : last ≤ n.until = last_within p nodes queue closed stays n last x.spent rest in
    let here : P one = λ k from to. node_reaches p nodes all (index + 1) index k (omega arith) within from (omega arith) in
    let same : (s : Stay) → Contains after s → Contains stays s ⊎ (one ≡ s) = λ s c. Contains-push_cases stays one s c in
    let spent : (i : Interval) (t : ℕ) → closed i ≡ Some t → IsSpent p new_nodes new_queue after i t = λ i t is. spent_more p nodes queue new_nodes new_queue stays one (bound_at p n) index i t more (past i t is) (x.spent i t is) in
    let grown : (i : Interval) (t : ℕ) → closed i ≡ Some t → IsSpent p new_nodes new_queue stays i t = λ i t is. spent_grows p nodes queue new_nodes new_queue stays (bound_at p n) index i t more (past i t is) (x.spent i t is) in
    let now : IsSpent p new_nodes new_queue after (interval_of n) n.time = record {
      from = r.from;
      in_time = r.in_time;
      interval = r.interval;
      expanded = record { onward = rest_onward p new_nodes new_queue closed stays n last grown rest onward; no_end = no_end };
      first = one;
      among = Contains-push stays one;
      state_is = refl;
      time_is = refl;
      stands = rest_stands p new_nodes new_queue closed stays n last grown rest;
      past = λ b i w. elim (more.only b i w) [ inl old ↦ least b i old | inr above ↦ above ];
    } in
    record {
      reached = λ s c. elim (same s c) [ inl old ↦ x.reached s old | inr e ↦ subst P e here ];
      may_lead = λ s c. elim (same s c) [ inl old ↦ x.may_lead s old | inr e ↦ subst L e lead ];
      parts = λ s c. elim (same s c) [
        | inl old ↦ part_more p.others p.estimate p.base p.limit stays one s (x.parts s old)
        | inr e ↦ subst I e (part_more p.others p.estimate p.base p.limit stays one one part)
      ];
      once = all_pairs_push (λ s t. (k : ℕ) (u : State) → Stands (arrival s) k u → Stands (arrival t) k u → ⊥) stays one x.once
          (λ j d b. let s = get_or stays j d in let c = Contains-get_or stays j d b in part_apart p nodes queue closed stays n last s (x.spent) (x.within s c) r.interval r.in_time long rest);
      spent = λ i t is. elim (notes.only i t is) [
        | inl e ↦ (let S : Interval → Type 0 = λ j. IsSpent p new_nodes new_queue after j t in
            subst S (sym e.0) (subst (IsSpent p new_nodes new_queue after (interval_of n)) (sym e.1) now))
        | inr old ↦ spent i t old
      ];
      within = λ s c. elim (same s c) [
        | inl old ↦ (let w = x.within s old in elim (notes.kept w.interval w.since w.closed_is) [
          | inl e ↦ (let later = rest_later closed n last rest w.since (sym (ap closed e) ∙ w.closed_is) in
              let from = w.from in
              record { interval = w.interval; since = n.time; closed_is = ap new_closed e ∙ notes.here; state_is = w.state_is; from = omega arith; to = w.to })
          | inr still ↦ record { interval = w.interval; since = w.since; closed_is = still; state_is = w.state_is; from = w.from; to = w.to }
        ])
        | inr e ↦ subst W e (record { interval = interval_of n; since = n.time; closed_is = notes.here; state_is = refl; from = omega arith; to = long })
      ];
      begun = λ i b late. elim (cases_lt i (length nodes)) [
        | inr new ↦ (let keeps = grows_node nodes new_nodes index more.grows within in
            let time : n.time ≡ (node_at new_nodes (node_at new_nodes i).parent).time = ap (λ (m : Node). m.time) (sym keeps) ∙ ap (λ j. (node_at new_nodes j).time) (sym (more.parent i new b)) in
            (one, Contains-push stays one, time))
        | inl old ↦ (let keeps = grows_node nodes new_nodes i more.grows old in
            let late_before : 0 < (node_at nodes i).time = subst (λ (m : Node). 0 < m.time) keeps late in
            let before = x.begun i old late_before in
            let child = parent_within p nodes i (all i old) late_before in
            let time : (node_at nodes (node_at nodes i).parent).time ≡ (node_at new_nodes (node_at new_nodes i).parent).time =
            ap (λ (m : Node). m.time) (sym (grows_node nodes new_nodes (node_at nodes i).parent more.grows (omega arith))) ∙ ap (λ (m : Node). (node_at new_nodes m.parent).time) (sym keeps) in
            (before.0, Contains-append_left stays (one ∷ []) before.0 before.1, before.2 ∙ time))
      ];
      each = λ i b. elim (cases_lt i (length nodes)) [
        | inr new ↦ inr (inl (more.fresh i new b))
        | inl old ↦ (let keeps = sym (grows_node nodes new_nodes i more.grows old) in
            let M : Node → Type 0 = IsPast new_closed in
            let V : Node → Type 0 = λ m. Waiting new_queue (bound_at p m) i in
            elim (x.each i old) [
              | inl c ↦ (let from = c.from in
                  inl (subst M keeps (elim (notes.kept (interval_of (node_at nodes i)) c.since c.closed_is) [
                    | inl e ↦ (let later = rest_later closed n last rest c.since (sym (ap closed e) ∙ c.closed_is) in record { since = n.time; closed_is = ap new_closed e ∙ notes.here; from = omega arith })
                    | inr still ↦ record { since = c.since; closed_is = still; from = from }
                  ])))
              | inr d ↦ elim d [
                | inl w ↦ inr (inl (subst V keeps (more.kept (bound_at p (node_at nodes i)) i w)))
                | inr e ↦ (let Q : ℕ → Type 0 = λ j. M (node_at nodes j) in
                    inl (subst M keeps (subst Q (sym e) (record { since = n.time; closed_is = notes.here; from = omega arith }))))
              ]
            ])
      ];
    }

-- the node that was taken is in an interval that is expanded from its time on: so it is expanded
pub past_expanded : (p : Problem) (nodes : List Node) (queue : List Entry) (stays : List Stay) (n : Node) (since : ℕ) → IsSpent p nodes queue stays (interval_of n) since → since ≤ n.time → n.time ≤ n.until → IsExpanded p nodes n
past_expanded p nodes queue stays n since x from long =
    record {
      onward = λ k t a b step ne small. x.expanded.onward k t (omega arith) b step ne small;
      no_end = λ end.
          let clear : IsClear p.others.paths n.cell since n.time = record { vacant = λ j a b. x.interval.clear.vacant j a (omega arith) } in
          x.expanded.no_end (record { all_visited = end.all_visited; delivered = end.delivered; rests = rest_sooner p.others n.cell since n.time clear end.rests });
    }

pub told_skip : (p : Problem) (nodes : List Node) (queue : List Entry) (index : ℕ) (closed : Interval → Option ℕ) (stays : List Stay) → IsTold p nodes queue (Some index) closed stays → IsPast closed (node_at nodes index) → IsTold p nodes queue None closed stays
told_skip p nodes queue index closed stays x skip =
    record {
      reached = x.reached;
      may_lead = x.may_lead;
      parts = x.parts;
      once = x.once;
      spent = x.spent;
      within = x.within;
      begun = x.begun;
      each = λ i b. elim (x.each i b) [
        | inl c ↦ inl c
        | inr d ↦ elim d [
          | inl w ↦ inr (inl w)
          | inr e ↦ (let Q : ℕ → Type 0 = λ j. IsPast closed (node_at nodes j) in inl (subst Q (sym e) skip))
        ]
      ];
    }

-- what was expanded when an end is taken that a tour leads to
pub found_expanded : (p : Problem) (nodes : List Node) (queue rest : List Entry) (bound index : ℕ) (path : List Cell) (closed : Interval → Option ℕ) (stays : List Stay) → IsProblem p → IsKept p nodes queue None → Pops queue rest bound index → IsTold p nodes queue None closed stays
    → IsTour p.grid p.others p.start.cell p.via p.ends path → last_index path ≡ (node_at nodes index).time → p.slack ≡ 0
    → AreExpandedBy p.grid p.others p.via p.start.cell p.estimate p.base p.limit (last_index path) stays
found_expanded p nodes queue rest bound index path closed stays h kept pop told tour size none_late =
    let mine = kept.all.queued bound index pop.was in
    let is = mine.bound_is in
    let reach = kept.all.reached index mine.within in
    let early = reach.from in
    let in_time = reach.in_time in
    let Step = Steps p.grid p.others p.via in
    let m = last_index path - 1 in
    record {
      reached = λ s c k from to. record { first = p.start.leg; arrives = h.arrives; reaches = told.reached s c k from to };
      parts = told.parts;
      once = told.once;
      may_lead = λ s c. omega (arith, none_late, told.may_lead s c path tour);
      all = λ k t r less late.
          let one = arrives_one p.via 0 p.start.cell r.first p.start.leg r.arrives h.arrives in
          let reaches : Reaches Step p.start k t = subst (λ (f : ℕ). Reaches Step (record { leg = f; cell = p.start.cell }) k t) one r.reaches in
          let waits : (i : ℕ) → total_at p (node_at nodes i) ≤ m → Waiting queue (bound_at p (node_at nodes i)) i → ⊥ = λ i low w. omega (arith, size, pop.least (bound_at p (node_at nodes i)) i w) in
          let c = covered p.grid p.others p.via p.ends p.start p.estimate p.limit m (IsNode nodes) (kept_expanded p nodes queue m kept waits) (start_settled p h) h.guided (omega (arith, size)) k t reaches (omega arith) in
          let i = c.among.0 in
          let within = c.among.1 in
          let st : Stands (arrival_of (node_at nodes i)) k t = subst (λ (y : Arrival). Stands y k t) (sym c.among.2) c.stands in
          let before = stands_total p.estimate (arrival_of (node_at nodes i)) k t st in
          elim (told.each i within) [
            | inl a ↦ (let from = a.from in let since = st.from in
                subst (Covered (IsOneOf stays) k) st.state_is ((told.spent (interval_of (node_at nodes i)) a.since a.closed_is).stands k (omega arith) st.to))
            | inr d ↦ elim d [
              | inl w ↦ absurd (waits i (omega arith) w)
              | inr z ↦ absurd z
            ]
          ];
    }
