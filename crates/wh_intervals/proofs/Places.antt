-- what the links of the intervals that are noted tell
use Rattle.std.proofs.Common.{◌≡◌, ◌≢◌, ℕ, ◌+◌, ◌-◌, ◌<◌, ◌≤◌, ◌∙◌, inl, inr, List, [], ◌∷◌, ◌++◌, length, map, take, drop, Bool, true, false, cond, Option, Some, None, refl, sym, ap, subst, zero, suc, arith}
use Rattle.std.specs.Prelude.{slice_set, slice_index_or}
use Rattle.std.proofs.lemmas.Bool.{cases_lt, cases_eq, cases_Bool}
use Rattle.std.proofs.lemmas.List.{length-set, length_push, get_or_append_left, get_or_push, get_or-set_same, get_or-set_other, get_or_read, map-set, set-get_or, length-map, take_all, drop_all, append-nil}
use Rattle.std.proofs.Math.ListN.{get_or-map}
use Rattle.wh_intervals.specs.Closings.{interval_eq, since_of, closed_by}
use Rattle.wh_intervals.specs.Places.{noted_at, interval_at, known_in, or_else, kept, with_known, IsTop, IsLinked, AreOthers, IsLatest}
use Rattle.wh_intervals.specs.declared.interval.Interval.{Interval}
use Rattle.wh_intervals.specs.declared.intervals.Noted.{Noted}
use Rattle.wh_intervals.specs.declared.known.Known.{Known}
use Rattle.wh_intervals.proofs.Closings.{interval_same, interval_one, closed_stays}

abbrev none_noted : Noted
none_noted = record { interval = record { leg = 0; cell = record { x = 0; y = 0 }; until = 0 }; known = record { newest = 0; since = None }; before = 0 }

-- from a link on back: all that are of the interval are before it
pub record IsWalk (slot : Interval → ℕ) (noted : List Noted) (i : Interval) (link : ℕ) : Type 0 where
  pub within : link ≤ length noted
  pub here : 0 < link → slot (interval_at noted (link - 1)) ≡ slot i
  pub others : (k : ℕ) → link ≤ k → k < length noted → interval_at noted k ≢ i

pub walk_first : (slot : Interval → ℕ) (noted : List Noted) (i : Interval) (link : ℕ) → IsTop slot noted (length noted) (slot i) link → IsWalk slot noted i link
walk_first slot noted i link top =
    record { within = top.within; here = top.here; others = λ k late soon e. top.last k late soon (ap (λ (j : Interval). slot j) e) }

pub walk_next : (slot : Interval → ℕ) (heads : List ℕ) (noted : List Noted) (i : Interval) (link : ℕ) → IsLinked slot heads noted (length noted) → IsWalk slot noted i link → 0 < link → interval_at noted (link - 1) ≢ i → IsWalk slot noted i (noted_at noted (link - 1)).before
walk_next slot heads noted i link linked walk more other =
    let place = link - 1 in
    let within = walk.within in
    let top = linked.links place (omega arith) in
    let low = top.within in
    record {
      within = omega arith;
      here = λ some. top.here some ∙ walk.here more;
      others = λ k late soon e. elim (cases_lt k place) [
        | inl before ↦ top.last k late before (ap (λ (j : Interval). slot j) e ∙ sym (walk.here more))
        | inr after ↦ elim (cases_lt place k) [
          | inl later ↦ walk.others k (omega arith) soon e
          | inr same ↦ (let is : k ≡ place = omega arith in other (subst (λ (n : ℕ). interval_at noted n ≡ i) is e))
        ]
      ];
    }

pub walk_found : (slot : Interval → ℕ) (noted : List Noted) (i : Interval) (link : ℕ) → IsWalk slot noted i link → 0 < link → interval_at noted (link - 1) ≡ i → IsLatest noted i (link - 1)
walk_found slot noted i link walk more is =
    let within = walk.within in
    record { within = omega arith; is = is; last = λ k late soon. walk.others k (omega arith) soon }

-- one more that is noted
top_push : (slot : Interval → ℕ) (noted : List Noted) (x : Noted) (n at link : ℕ) → n ≤ length noted → IsTop slot noted n at link → IsTop slot (noted ++ x ∷ []) n at link
top_push slot noted x n at link few top =
    let within = top.within in
    let same : (k : ℕ) → k < length noted → slot (interval_at (noted ++ x ∷ []) k) ≡ slot (interval_at noted k) = λ k h. ap (λ (y : Noted). slot y.interval) (get_or_append_left noted (x ∷ []) none_noted k h) in
    record {
      within = within;
      here = λ some. same (link - 1) (omega arith) ∙ top.here some;
      last = λ k late soon e. top.last k late soon (sym (same k (omega arith)) ∙ e);
    }

pub linked_push : (slot : Interval → ℕ) (heads : List ℕ) (noted : List Noted) (x : Noted) (n : ℕ) → n ≤ length noted → IsLinked slot heads noted n → IsLinked slot heads (noted ++ x ∷ []) n
linked_push slot heads noted x n few linked =
    let new = noted ++ x ∷ [] in
    record {
      tops = λ s within. top_push slot noted x n s (slice_index_or heads s 0) few (linked.tops s within);
      links = λ j within. subst (λ (y : Noted). IsTop slot new j (slot y.interval) y.before) (sym (get_or_append_left noted (x ∷ []) none_noted j (omega arith)))
          (top_push slot noted x j (slot (interval_at noted j)) (noted_at noted j).before (omega arith) (linked.links j within));
    }

-- where none is linked yet
pub linked_none : (slot : Interval → ℕ) (heads : List ℕ) (noted : List Noted) → ((s : ℕ) → slice_index_or heads s 0 ≡ 0) → IsLinked slot heads noted 0
linked_none slot heads noted fresh =
    record {
      tops = λ s within. subst (IsTop slot noted 0 s) (sym (fresh s)) (record { within = omega arith; here = λ some. absurd (omega arith); last = λ k late soon. absurd (omega arith) });
      links = λ j within. absurd (omega arith);
    }

-- a link may change
pub kept_link : (noted : List Noted) (n link : ℕ) → map kept (slice_set noted n (record { interval = interval_at noted n; known = (noted_at noted n).known; before = link })) ≡ map kept noted
kept_link noted n link =
    map-set kept noted n (record { interval = interval_at noted n; known = (noted_at noted n).known; before = link })
    ∙ ap (λ (p : Interval × Known). slice_set (map kept noted) n p) (sym (get_or-map kept noted n none_noted))
    ∙ set-get_or (map kept noted) n (kept none_noted)

-- what does not depend on links
kept_at : (a b : List Noted) → map kept a ≡ map kept b → (k : ℕ) → interval_at a k ≡ interval_at b k
kept_at a b e k =
    ap (λ (p : Interval × Known). p.0) (sym (get_or-map kept a k none_noted) ∙ ap (λ (l : List (Interval × Known)). slice_index_or l k (kept none_noted)) e ∙ get_or-map kept b k none_noted)

pub kept_size : (a b : List Noted) → map kept a ≡ map kept b → length a ≡ length b
kept_size a b e = sym (length-map a kept) ∙ ap (λ (l : List (Interval × Known)). length l) e ∙ length-map b kept

pub kept_others : (a b : List Noted) (i : Interval) → map kept a ≡ map kept b → AreOthers b i → AreOthers a i
kept_others a b i e others k soon is = others k (omega (arith, soon, kept_size a b e)) (sym (kept_at a b e k) ∙ is)

pub kept_latest : (a b : List Noted) (i : Interval) (place : ℕ) → map kept a ≡ map kept b → IsLatest b i place → IsLatest a i place
kept_latest a b i place e l =
    let size = kept_size a b e in
    let within = l.within in
    record { within = omega arith; is = kept_at a b e place ∙ l.is; last = λ k late soon is. l.last k late (omega arith) (sym (kept_at a b e k) ∙ is) }

abbrev pairs_in : List (Interval × Known) → Interval → Option Known
pairs_in [] i = None
pairs_in (p ∷ pairs) i = or_else (pairs_in pairs i) (cond (interval_eq p.0 i) (Some p.1) None)

known_pairs : (noted : List Noted) (i : Interval) → known_in noted i ≡ pairs_in (map kept noted) i
known_pairs [] i = refl
known_pairs (n ∷ noted) i = ap (λ (o : Option Known). or_else o (cond (interval_eq n.interval i) (Some n.known) None)) (known_pairs noted i)

pub kept_known : (a b : List Noted) → map kept a ≡ map kept b → known_in a ≡ known_in b
kept_known a b e =
    let each : (i : Interval) → known_in a i ≡ known_in b i = λ i. known_pairs a i ∙ ap (λ (l : List (Interval × Known)). pairs_in l i) e ∙ sym (known_pairs b i) in
    λ j i. each i j

-- what is known may change
abbrev core : Noted → Interval × ℕ
core n = (n.interval, n.before)

core_same : (noted : List Noted) (place : ℕ) (w : Known) → place < length noted → (k : ℕ) → core (noted_at (slice_set noted place (with_known (noted_at noted place) w)) k) ≡ core (noted_at noted k)
core_same noted place w h k =
    let x = with_known (noted_at noted place) w in
    elim (cases_eq k place) [
      | inl same ↦ ap (λ (j : ℕ). core (noted_at (slice_set noted place x) j)) same ∙ ap core (get_or-set_same noted place x none_noted h) ∙ ap (λ (j : ℕ). core (noted_at noted j)) (sym same)
      | inr other ↦ ap core (get_or-set_other noted place k x none_noted other)
    ]

pub linked_set : (slot : Interval → ℕ) (heads : List ℕ) (noted : List Noted) (place n : ℕ) (w : Known) → place < length noted → IsLinked slot heads noted n → IsLinked slot heads (slice_set noted place (with_known (noted_at noted place) w)) n
linked_set slot heads noted place n w h linked =
    let new = slice_set noted place (with_known (noted_at noted place) w) in
    let same : (k : ℕ) → core (noted_at new k) ≡ core (noted_at noted k) = core_same noted place w h in
    let slots : (k : ℕ) → slot (interval_at new k) ≡ slot (interval_at noted k) = λ k. ap (λ (y : Interval × ℕ). slot y.0) (same k) in
    let moved : (n at link : ℕ) → IsTop slot noted n at link → IsTop slot new n at link = λ n at link top. record {
      within = top.within;
      here = λ some. slots (link - 1) ∙ top.here some;
      last = λ k late soon e. top.last k late soon (sym (slots k) ∙ e);
    } in
    record {
      tops = λ s within. moved n s (slice_index_or heads s 0) (linked.tops s within);
      links = λ j within. subst (λ (y : Interval × ℕ). IsTop slot new j (slot y.0) y.1) (sym (same j)) (moved j (slot (interval_at noted j)) (noted_at noted j).before (linked.links j (omega arith)));
    }

-- what is known of an interval
pub known_others : (noted : List Noted) (i : Interval) → AreOthers noted i → known_in noted i ≡ None
known_others [] i h = refl
known_others (n ∷ noted) i h =
    let rest = known_others noted i (λ k soon e. h (suc k) (omega arith) e) in
    let differ : interval_eq n.interval i ≡ false = elim (cases_Bool (interval_eq n.interval i)) [ inl e ↦ absurd (h 0 (omega arith) (interval_same n.interval i e)) | inr e ↦ e ] in
    ap (λ (o : Option Known). or_else o (cond (interval_eq n.interval i) (Some n.known) None)) rest ∙ ap (λ (b : Bool). cond b (Some n.known) None) differ

pub known_latest : (noted : List Noted) (i : Interval) (place : ℕ) → IsLatest noted i place → known_in noted i ≡ Some (noted_at noted place).known
known_latest [] i place l = absurd (let h = l.within in omega arith)
known_latest (n ∷ noted) i zero l =
    let rest = known_others noted i (λ k soon e. l.last (suc k) (omega arith) (omega arith) e) in
    let here : interval_eq n.interval i ≡ true = subst (λ (j : Interval). interval_eq n.interval j ≡ true) l.is (interval_one n.interval) in
    ap (λ (o : Option Known). or_else o (cond (interval_eq n.interval i) (Some n.known) None)) rest ∙ ap (λ (b : Bool). cond b (Some n.known) None) here
known_latest (n ∷ noted) i (suc p) l =
    let within = l.within in
    let rest = known_latest noted i p (record { within = omega arith; is = l.is; last = λ k late soon e. l.last (suc k) (omega arith) (omega arith) e }) in
    ap (λ (o : Option Known). or_else o (cond (interval_eq n.interval i) (Some n.known) None)) rest

head_put : (b : Bool) (rest : Option Known) (v w : Known) → (b ≡ true → rest ≡ None) → or_else rest (cond b (Some v) None) ≡ cond b (Some v) (or_else rest (cond b (Some w) None))
head_put true rest v w h = ap (λ (o : Option Known). or_else o (Some v)) (h refl)
head_put false rest v w h = refl

tail_put : (b : Bool) (rest first : Option Known) (v : Known) → or_else (cond b (Some v) rest) first ≡ cond b (Some v) (or_else rest first)
tail_put true rest first v = refl
tail_put false rest first v = refl

pub known_set : (noted : List Noted) (i : Interval) (place : ℕ) (x : Noted) → IsLatest noted i place → x.interval ≡ i → (q : Interval) → known_in (slice_set noted place x) q ≡ cond (interval_eq i q) (Some x.known) (known_in noted q)
known_set [] i place x l same q = absurd (let h = l.within in omega arith)
known_set (n ∷ noted) i zero x l same q =
    let rest = known_in noted q in
    let first : interval_eq x.interval q ≡ interval_eq i q = ap (λ (j : Interval). interval_eq j q) same in
    let was : interval_eq n.interval q ≡ interval_eq i q = ap (λ (j : Interval). interval_eq j q) l.is in
    ap (λ (b : Bool). or_else rest (cond b (Some x.known) None)) first
    ∙ head_put (interval_eq i q) rest x.known n.known (λ w. known_others noted q (λ k soon e. l.last (suc k) (omega arith) (omega arith) (e ∙ sym (interval_same i q w))))
    ∙ ap (λ (b : Bool). cond (interval_eq i q) (Some x.known) (or_else rest (cond b (Some n.known) None))) (sym was)
known_set (n ∷ noted) i (suc p) x l same q =
    let first = cond (interval_eq n.interval q) (Some n.known) None in
    let within = l.within in
    let rest = known_set noted i p x (record { within = omega arith; is = l.is; last = λ k late soon e. l.last (suc k) (omega arith) (omega arith) e }) same q in
    ap (λ (o : Option Known). or_else o first) rest ∙ tail_put (interval_eq i q) (known_in noted q) first x.known

known_push : (noted : List Noted) (x : Noted) (q : Interval) → known_in (noted ++ x ∷ []) q ≡ cond (interval_eq x.interval q) (Some x.known) (known_in noted q)
known_push [] x q = refl
known_push (n ∷ noted) x q =
    let first = cond (interval_eq n.interval q) (Some n.known) None in
    ap (λ (o : Option Known). or_else o first) (known_push noted x q) ∙ tail_put (interval_eq x.interval q) (known_in noted q) first x.known

-- a new interval is not expanded
pub closed_push : (noted : List Noted) (x : Noted) → AreOthers noted x.interval → x.known.since ≡ None → closed_by (known_in (noted ++ x ∷ [])) ≡ closed_by (known_in noted)
closed_push noted x others none =
    closed_stays (known_in noted) (known_in (noted ++ x ∷ [])) x.interval x.known (known_push noted x)
    (none ∙ sym (ap since_of (known_others noted x.interval others)))

pub latest_push : (noted : List Noted) (x : Noted) → IsLatest (noted ++ x ∷ []) x.interval (length noted)
latest_push noted x =
    let more : length (noted ++ x ∷ []) ≡ length noted + 1 = length_push noted x in
    record { within = omega arith; is = ap (λ (y : Noted). y.interval) (get_or_push noted x none_noted (length noted) refl); last = λ k late soon. absurd (omega arith) }

-- what is written of the interval at a place
pub known_written : (noted : List Noted) (i : Interval) (place : ℕ) (w : Known) → IsLatest noted i place → (q : Interval) → known_in (slice_set noted place (with_known (noted_at noted place) w)) q ≡ cond (interval_eq i q) (Some w) (known_in noted q)
known_written noted i place w l = known_set noted i place (with_known (noted_at noted place) w) l l.is

pub since_latest : (noted : List Noted) (i : Interval) (place : ℕ) → IsLatest noted i place → (noted_at noted place).known.since ≡ closed_by (known_in noted) i
since_latest noted i place l = sym (ap since_of (known_latest noted i place l))

-- as the code has them
pub linked_written : (slot : Interval → ℕ) (heads : List ℕ) (noted : List Noted) (place : ℕ) (x : Noted) (w : Known) → place < length noted → x ≡ slice_index_or noted place x → IsLinked slot heads noted (length noted)
    → IsLinked slot heads (slice_set noted place (with_known x w)) (length (slice_set noted place (with_known x w)))
linked_written slot heads noted place x w h read linked =
    let same = sym (get_or_read noted place x h read none_noted) in
    subst (λ (n : ℕ). IsLinked slot heads (slice_set noted place (with_known x w)) n) (sym (length-set noted place (with_known x w)))
    (subst (λ (y : Noted). IsLinked slot heads (slice_set noted place (with_known y w)) (length noted)) same (linked_set slot heads noted place (length noted) w h linked))

-- a list that is written back
pub written_back : (noted items : List Noted) (n : ℕ) → length noted ≡ length items → n ≡ length items → take n (noted ++ drop (length noted) items) ≡ noted
written_back noted items n size all =
    ap (λ (rest : List Noted). take n (noted ++ rest)) (drop_all (length noted) items (omega arith)) ∙ ap (λ (l : List Noted). take n l) (append-nil noted) ∙ take_all n noted (omega arith)
