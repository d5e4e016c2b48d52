-- there is one reply to an event, except for the path
use Rattle.std.proofs.Common.{◌≡◌, ◌≢◌, ℕ, ◌+◌, ◌<◌, ◌≤◌, ◌∙◌, ◌⊎◌, inl, inr, List, [], ◌∷◌, ◌++◌, Bool, true, false, length, get_or, drop, sym, subst, refl, ap, arith}
use Prim.Native.Nat.{zero, suc}
use Rattle.std.specs.Prelude.{All}
use Rattle.std.specs.List.{AllZip}
use Rattle.std.proofs.lemmas.Bool.{cases_eq, false≢true}
use Rattle.std.proofs.lemmas.List.{get_or_default}
use Rattle.wh_grid.specs.declared.cell.Cell.{Cell}
use Rattle.wh_points.specs.declared.points.Kind.{Kind}
use Rattle.wh_points.specs.declared.points.Point.{Point}
use Rattle.wh_path.specs.Paths.{place_of, end_of}
use Rattle.wh_points.specs.Points.{Layout, Site, IsLayout, IsStation, point_at}
use Rattle.wh_tasks.specs.declared.task.Task.{Task}
use Rattle.wh_tasks.specs.declared.task.Load.{Load}
use Rattle.wh_tasks.proofs.Nearest.{nearest_one}
use Rattle.wh_core.specs.States.{State, load_of, moved, picked, dropped}
use Rattle.wh_core.specs.Steps.{Answers, IsKnown, IsIdleIn, IsDue, IsNext, IsNextBy, NoneIsNext, IsRestCell, IsStray, MakesWay, IsStationName, IsParkingName, IsUnknownName, IsFirstFault, most_tasks, last_clock}
use Rattle.wh_core.specs.Laws.{AgreeButForPath, AsksNoStray}
use Rattle.wh_core.proofs.Idle.{idle-one, idle-none}
use Rattle.wh_event.specs.declared.event.Spare.{Spare}
use Rattle.wh_event.specs.declared.event.Event.{Event}
use Rattle.wh_event.specs.declared.reply.Refusal.{Refusal}
use Rattle.wh_event.specs.declared.reply.Reply.{Reply}

both : {A : Type 0} (b : Bool) → b ≡ true → b ≡ false → A
both b t f = absurd (false≢true (sym f ∙ t))

-- a name is not that of a station and of a parking
pub parking-no_station : (site : Site) (name : List ℕ) → IsLayout site.grid site.layout → IsParkingName site.layout name → ¬ IsStationName site.layout name
parking-no_station site name layout parking station =
    let points = site.layout.points in
    let x : Point = record { name = name; cell = parking.0; kind = Kind.Parking } in
    let y : Point = record { name = name; cell = station.0; kind = Kind.Station } in
    let i = parking.1.0 in
    let j = station.1.0 in
    let first : point_at points i ≡ x = get_or_default points i _ x parking.1.1 ∙ parking.1.2 in
    let second : point_at points j ≡ y = get_or_default points j _ y station.1.1 ∙ station.1.2 in
    elim (cases_eq i j) [
      | inl e ↦ (let clash : Kind.Parking ≡ Kind.Station = ap (λ (p : Point). p.kind) (sym first ∙ ap (λ k. point_at points k) e ∙ second) in cc)
      | inr ne ↦ layout.names i j parking.1.1 station.1.1 ne (ap (λ (p : Point). p.name) first ∙ sym (ap (λ (p : Point). p.name) second))
    ]

unknown-no_station : (layout : Layout) (name : List ℕ) → IsUnknownName layout name → ¬ IsStationName layout name
unknown-no_station layout name unknown station = unknown station.0 (Kind.Station, station.1)

-- of a list there is one first element that is not so
first-one : {X : Type 0} (S : X → Type 0) (before rest : List X) (a b : X) (after last : List X) → before ++ a ∷ after ≡ rest ++ b ∷ last →
    All S before → All S rest → ¬ S a → ¬ S b → a ≡ b
first-one S [] [] a b after last e sa sb na nb = ap (λ xs. get_or xs 0 a) e
first-one S [] (y ∷ rest) a b after last e sa sb na nb = absurd (na (subst S (sym (ap (λ xs. get_or xs 0 a) e)) (sb 0 y (omega arith))))
first-one S (x ∷ before) [] a b after last e sa sb na nb = absurd (nb (subst S (ap (λ xs. get_or xs 0 b) e) (sa 0 x (omega arith))))
first-one S (x ∷ before) (y ∷ rest) a b after last e sa sb na nb =
    first-one S before rest a b after last (ap (λ xs. drop 1 xs) e) (λ k d h. sa (suc k) d (omega arith)) (λ k d h. sb (suc k) d (omega arith)) na nb

middle : {X : Type 0} (S : X → Type 0) (before : List X) (a : X) (after : List X) → All S (before ++ a ∷ after) → S a
middle S [] a after all = all 0 a (omega arith)
middle S (x ∷ before) a after all = middle S before a after (λ k d h. all (suc k) d (omega arith))

-- and none where all are so
first-none : {X : Type 0} (S : X → Type 0) (xs before : List X) (a : X) (after : List X) → xs ≡ before ++ a ∷ after → All S xs → ¬ S a → ⊥
first-none S xs before a after e all na = na (middle S before a after (subst (λ ys. All S ys) e all))

pub zip-names : (layout : Layout) (names : List (List ℕ)) (cells : List Cell) → AllZip (IsStation layout) names cells → All (IsStationName layout) names
zip-names layout [] cells zip k d h = absurd (omega arith)
zip-names layout (n ∷ names) [] zip k d h = absurd zip
zip-names layout (n ∷ names) (c ∷ cells) zip zero d h = (c, zip.0)
zip-names layout (n ∷ names) (c ∷ cells) zip (suc k) d h = zip-names layout names cells zip.1 k d (omega arith)

-- the replies to a submit
data Submitted (site : Site) (s : State) (stops : List (List ℕ)) (r : Reply) : Type 0 where
  closed : s.closed ≡ true → r ≡ Reply.Refused Refusal.Closed → Submitted site s stops r
  unknown : (name : List ℕ) → s.closed ≡ false → IsFirstFault site.layout stops name → IsUnknownName site.layout name →
      r ≡ Reply.Refused (Refusal.UnknownPoint name) → Submitted site s stops r
  parking : (name : List ℕ) → s.closed ≡ false → IsFirstFault site.layout stops name → IsParkingName site.layout name →
      r ≡ Reply.Refused (Refusal.NotStation name) → Submitted site s stops r
  full : s.closed ≡ false → All (IsStationName site.layout) stops → length s.tasks ≡ most_tasks → r ≡ Reply.Refused Refusal.TasksFull → Submitted site s stops r
  taken : s.closed ≡ false → All (IsStationName site.layout) stops → length s.tasks < most_tasks → r ≡ Reply.Accepted (length s.tasks) → Submitted site s stops r

submitted : (site : Site) (s : State) (client : List ℕ) (stops : List (List ℕ)) (r : Reply) (new : State) → Answers site s r (Event.Submit client stops) new → Submitted site s stops r
submitted site s client stops (Reply.Refused Refusal.Closed) new step = closed step.0 refl
submitted site s client stops (Reply.Refused (Refusal.UnknownPoint name)) new step = unknown name step.0.0 step.0.1 step.0.2 refl
submitted site s client stops (Reply.Refused (Refusal.NotStation name)) new step = parking name step.0.0 step.0.1 step.0.2 refl
submitted site s client stops (Reply.Refused Refusal.TasksFull) new step = full step.0.0 step.0.1 step.0.2 refl
submitted site s client stops (Reply.Refused refusal) new step = absurd step.0
submitted site s client stops (Reply.Accepted n) new step =
    taken step.0 (zip-names site.layout stops step.5.0 step.5.1) (let e = step.1 in let h = step.2 in omega arith) (ap (λ k. Reply.Accepted k) step.1)
submitted site s client stops r new step = absurd step

agree-refl : (r : Reply) → AgreeButForPath r r
agree-refl (Reply.Took n path) = refl
agree-refl (Reply.Parked point path) = tt
agree-refl (Reply.Refused Refusal.NoPath) = refl
agree-refl (Reply.Refused refusal) = refl
agree-refl r = refl

agree-same : (r q x : Reply) → r ≡ x → q ≡ x → AgreeButForPath r q
agree-same r q x e f = subst (λ y. AgreeButForPath r y) (e ∙ sym f) (agree-refl r)

agree-by : (r q x y : Reply) → r ≡ x → q ≡ y → AgreeButForPath x y → AgreeButForPath r q
agree-by r q x y e f agree = subst (λ z. AgreeButForPath z q) (sym e) (subst (λ z. AgreeButForPath x z) (sym f) agree)

pub fault-one : (site : Site) (stops : List (List ℕ)) (a b : List ℕ) → IsFirstFault site.layout stops a → IsFirstFault site.layout stops b →
    ¬ IsStationName site.layout a → ¬ IsStationName site.layout b → a ≡ b
fault-one site stops a b fa fb na nb =
    first-one (λ name. IsStationName site.layout name) fa.0 fb.0 a b fa.1 fb.1 (sym fa.2 ∙ fb.2) fa.3 fb.3 na nb

pub fault-none : {A : Type 0} (site : Site) (stops : List (List ℕ)) (a : List ℕ) → IsFirstFault site.layout stops a → ¬ IsStationName site.layout a →
    All (IsStationName site.layout) stops → A
fault-none site stops a f n all = absurd (first-none (λ name. IsStationName site.layout name) stops f.0 a f.1 f.2 all n)

unknown-parking : {A : Type 0} (site : Site) (stops : List (List ℕ)) (a b : List ℕ) → IsLayout site.grid site.layout → IsFirstFault site.layout stops a →
    IsFirstFault site.layout stops b → IsUnknownName site.layout a → IsParkingName site.layout b → A
unknown-parking site stops a b layout fa fb lost parks =
    let e : a ≡ b = fault-one site stops a b fa fb (unknown-no_station site.layout a lost) (parking-no_station site b layout parks) in
    let known : IsParkingName site.layout a = subst (λ n. IsParkingName site.layout n) (sym e) parks in
    absurd (lost known.0 (Kind.Parking, known.1))

submits-agree : (site : Site) (s : State) (stops : List (List ℕ)) (r q : Reply) → IsLayout site.grid site.layout → Submitted site s stops r → Submitted site s stops q →
    AgreeButForPath r q
submits-agree site s stops r q layout (closed c e) (closed d f) = agree-same r q _ e f
submits-agree site s stops r q layout (closed c e) (unknown m o g h f) = both s.closed c o
submits-agree site s stops r q layout (closed c e) (parking m o g h f) = both s.closed c o
submits-agree site s stops r q layout (closed c e) (full o g h f) = both s.closed c o
submits-agree site s stops r q layout (closed c e) (taken o g h f) = both s.closed c o
submits-agree site s stops r q layout (unknown n o g h e) (closed c f) = both s.closed c o
submits-agree site s stops r q layout (unknown n o g h e) (unknown m p i j f) =
    let same : n ≡ m = fault-one site stops n m g i (unknown-no_station site.layout n h) (unknown-no_station site.layout m j) in
    agree-same r q _ e (f ∙ sym (ap (λ k. Reply.Refused (Refusal.UnknownPoint k)) same))
submits-agree site s stops r q layout (unknown n o g h e) (parking m p i j f) = unknown-parking site stops n m layout g i h j
submits-agree site s stops r q layout (unknown n o g h e) (full p i j f) = fault-none site stops n g (unknown-no_station site.layout n h) i
submits-agree site s stops r q layout (unknown n o g h e) (taken p i j f) = fault-none site stops n g (unknown-no_station site.layout n h) i
submits-agree site s stops r q layout (parking n o g h e) (closed c f) = both s.closed c o
submits-agree site s stops r q layout (parking n o g h e) (unknown m p i j f) = unknown-parking site stops m n layout i g j h
submits-agree site s stops r q layout (parking n o g h e) (parking m p i j f) =
    let same : n ≡ m = fault-one site stops n m g i (parking-no_station site n layout h) (parking-no_station site m layout j) in
    agree-same r q _ e (f ∙ sym (ap (λ k. Reply.Refused (Refusal.NotStation k)) same))
submits-agree site s stops r q layout (parking n o g h e) (full p i j f) = fault-none site stops n g (parking-no_station site n layout h) i
submits-agree site s stops r q layout (parking n o g h e) (taken p i j f) = fault-none site stops n g (parking-no_station site n layout h) i
submits-agree site s stops r q layout (full o g h e) (closed c f) = both s.closed c o
submits-agree site s stops r q layout (full o g h e) (unknown m p i j f) = fault-none site stops m i (unknown-no_station site.layout m j) g
submits-agree site s stops r q layout (full o g h e) (parking m p i j f) = fault-none site stops m i (parking-no_station site m layout j) g
submits-agree site s stops r q layout (full o g h e) (full p i j f) = agree-same r q _ e f
submits-agree site s stops r q layout (full o g h e) (taken p i j f) = absurd (omega arith)
submits-agree site s stops r q layout (taken o g h e) (closed c f) = both s.closed c o
submits-agree site s stops r q layout (taken o g h e) (unknown m p i j f) = fault-none site stops m i (unknown-no_station site.layout m j) g
submits-agree site s stops r q layout (taken o g h e) (parking m p i j f) = fault-none site stops m i (parking-no_station site m layout j) g
submits-agree site s stops r q layout (taken o g h e) (full p i j f) = absurd (omega arith)
submits-agree site s stops r q layout (taken o g h e) (taken p i j f) = agree-same r q _ e f

-- the replies to a due request
data Asked (site : Site) (s : State) (agent : ℕ) (r : Reply) : Type 0 where
  pathless : ((n : ℕ) × (task : Task) × IsNext site s agent n task) ⊎ MakesWay site s agent → r ≡ Reply.Refused Refusal.NoPath → Asked site s agent r
  took : (n : ℕ) (task : Task) (path : List Cell) → IsNext site s agent n task → r ≡ Reply.Took n path → Asked site s agent r
  rested : NoneIsNext s agent → IsRestCell site s agent (end_of s.paths agent) → r ≡ Reply.Rested → Asked site s agent r
  parked : (point : List ℕ) (path : List Cell) → MakesWay site s agent → r ≡ Reply.Parked point path → Asked site s agent r

-- the replies to a request
data Requested (site : Site) (s : State) (agent : ℕ) (r : Reply) : Type 0 where
  shut : s.closed ≡ true → r ≡ Reply.Refused Refusal.Closed → Requested site s agent r
  stranger : s.closed ≡ false → length s.paths ≤ agent → r ≡ Reply.Refused (Refusal.UnknownAgent agent) → Requested site s agent r
  moving : (left : ℕ) → IsKnown s agent → IsIdleIn site s agent left → left ≢ 0 → r ≡ Reply.Refused (Refusal.Moving left) → Requested site s agent r
  due : IsDue site s agent → Asked site s agent r → Requested site s agent r

requested : (site : Site) (s : State) (agent : ℕ) (r : Reply) (new : State) → Answers site s r (Event.Request agent) new → Requested site s agent r
requested site s agent (Reply.Refused Refusal.Closed) new step = shut step.0 refl
requested site s agent (Reply.Refused (Refusal.UnknownAgent told)) new step =
    stranger step.0.0 step.0.1 (ap (λ k. Reply.Refused (Refusal.UnknownAgent k)) step.0.2)
requested site s agent (Reply.Refused (Refusal.Moving left)) new step =
    let why = step.0 in
    moving left why.0 why.1 why.2 refl
requested site s agent (Reply.Refused Refusal.NoPath) new step =
    due step.0.0 (pathless (elim step.0.1 [ inl w ↦ inl (w.0, w.1, w.2) | inr w ↦ inr w.0 ]) refl)
requested site s agent (Reply.Refused refusal) new step = absurd step.0
requested site s agent (Reply.Took n path) new step = due step.0 (took n step.1.0 path step.1.1 refl)
requested site s agent Reply.Rested new step = due step.0 (rested step.1 step.2 refl)
requested site s agent (Reply.Parked point path) new step = due step.0 (parked point path step.1 refl)
requested site s agent r new step = absurd step

-- of two tasks that are next both are one
next-one : (site : Site) (s : State) (agent : ℕ) (load : Load) (n m : ℕ) (t u : Task) → IsNextBy load site s agent n t → IsNextBy load site s agent m u → n ≡ m
next-one site s agent Load.None n m t u next other = nearest_one site.grid s.tasks _ (place_of s.paths agent) n m t u next other
next-one site s agent (Load.Fetching k) n m t u next other = next.0 ∙ sym other.0
next-one site s agent (Load.Carrying k seen) n m t u next other = next.0 ∙ sym other.0

-- one is next, or none is
next-none : {A : Type 0} (site : Site) (s : State) (agent n : ℕ) (task : Task) → NoneIsNext s agent → IsNext site s agent n task → A
next-none site s agent n task none next = absurd (none.1 n task (subst (λ l. IsNextBy l site s agent n task) none.0 next).eligible)

-- an agent that is no stray and makes way has no next task
way-none : {A : Type 0} (site : Site) (s : State) (agent n : ℕ) (task : Task) → (¬ IsStray site s agent) → MakesWay site s agent → IsNext site s agent n task → A
way-none site s agent n task settled way next = elim way.no_work [ inl none ↦ next-none site s agent n task none next | inr barred ↦ absurd (settled barred.stray) ]

-- an agent that makes way may not rest
way-no_rest : {A : Type 0} (site : Site) (s : State) (agent : ℕ) → MakesWay site s agent → IsRestCell site s agent (end_of s.paths agent) → A
way-no_rest site s agent way rest = absurd (elim way.in_the_way [ inl wanted ↦ rest.not_wanted wanted | inr off ↦ off rest.berth ])

-- a task is next, or the agent makes way, and it may rest: not both
not-rested : {A : Type 0} (site : Site) (s : State) (agent : ℕ) → ((n : ℕ) × (task : Task) × IsNext site s agent n task) ⊎ MakesWay site s agent →
    NoneIsNext s agent → IsRestCell site s agent (end_of s.paths agent) → A
not-rested site s agent work none rest = elim work [
  | inl w ↦ next-none site s agent w.0 w.1 none w.2
  | inr way ↦ way-no_rest site s agent way rest
]

asked-agree : (site : Site) (s : State) (agent : ℕ) (r q : Reply) → (¬ IsStray site s agent) → Asked site s agent r → Asked site s agent q → AgreeButForPath r q
asked-agree site s agent r q settled (pathless w e) (pathless v f) = agree-same r q _ e f
asked-agree site s agent r q settled (pathless w e) (took m t p next f) = agree-by r q _ _ e f tt
asked-agree site s agent r q settled (pathless w e) (rested none off f) = not-rested site s agent w none off
asked-agree site s agent r q settled (pathless w e) (parked a p way f) = agree-by r q _ _ e f tt
asked-agree site s agent r q settled (took n t p next e) (pathless v f) = agree-by r q _ _ e f tt
asked-agree site s agent r q settled (took n t p next e) (took m u o other f) =
    agree-by r q _ _ e f (next-one site s agent (load_of s agent) n m t u next other)
asked-agree site s agent r q settled (took n t p next e) (rested none off f) = next-none site s agent n t none next
asked-agree site s agent r q settled (took n t p next e) (parked a o way f) = way-none site s agent n t settled way next
asked-agree site s agent r q settled (rested none off e) (pathless v f) = not-rested site s agent v none off
asked-agree site s agent r q settled (rested none off e) (took m t p next f) = next-none site s agent m t none next
asked-agree site s agent r q settled (rested none off e) (rested more away f) = agree-same r q _ e f
asked-agree site s agent r q settled (rested none off e) (parked a p way f) = way-no_rest site s agent way off
asked-agree site s agent r q settled (parked a p way e) (pathless v f) = agree-by r q _ _ e f tt
asked-agree site s agent r q settled (parked a p way e) (took m t o next f) = way-none site s agent m t settled way next
asked-agree site s agent r q settled (parked a p way e) (rested none off f) = way-no_rest site s agent way off
asked-agree site s agent r q settled (parked a p way e) (parked b o more f) = agree-by r q _ _ e f tt

requests-agree : (site : Site) (s : State) (agent : ℕ) (r q : Reply) → (IsDue site s agent → ¬ IsStray site s agent) → Requested site s agent r → Requested site s agent q → AgreeButForPath r q
requests-agree site s agent r q settled (shut c e) (shut d f) = agree-same r q _ e f
requests-agree site s agent r q settled (shut c e) (stranger o l f) = both s.closed c o
requests-agree site s agent r q settled (shut c e) (moving left k l n f) = both s.closed c k.not_closed
requests-agree site s agent r q settled (shut c e) (due d a) = both s.closed c d.known.not_closed
requests-agree site s agent r q settled (stranger o l e) (shut c f) = both s.closed c o
requests-agree site s agent r q settled (stranger o l e) (stranger p m f) = agree-same r q _ e f
requests-agree site s agent r q settled (stranger o l e) (moving left k m n f) = absurd (let h = k.known in omega arith)
requests-agree site s agent r q settled (stranger o l e) (due d a) = absurd (let h = d.known.known in omega arith)
requests-agree site s agent r q settled (moving left k m n e) (shut c f) = both s.closed c k.not_closed
requests-agree site s agent r q settled (moving left k m n e) (stranger o l f) = absurd (let h = k.known in omega arith)
requests-agree site s agent r q settled (moving left k m n e) (moving more l o p f) =
    agree-same r q _ e (f ∙ sym (ap (λ j. Reply.Refused (Refusal.Moving j)) (idle-one site s agent left more m o)))
requests-agree site s agent r q settled (moving left k m n e) (due d a) = absurd (n (idle-none site s agent left d.idle m))
requests-agree site s agent r q settled (due d a) (shut c f) = both s.closed c d.known.not_closed
requests-agree site s agent r q settled (due d a) (stranger o l f) = absurd (let h = d.known.known in omega arith)
requests-agree site s agent r q settled (due d a) (moving left k m n f) = absurd (n (idle-none site s agent left d.idle m))
requests-agree site s agent r q settled (due d a) (due e b) = asked-agree site s agent r q (settled d) a b

-- a tick, a replacement, a close
data Ticked (s : State) (r : Reply) : Type 0 where
  ended : s.closed ≡ true → r ≡ Reply.Refused Refusal.Closed → Ticked s r
  late : s.closed ≡ false → s.clock ≡ last_clock → r ≡ Reply.Refused Refusal.ClockFull → Ticked s r
  goes : s.closed ≡ false → s.clock < last_clock → r ≡ Reply.Clock (s.clock + 1) (picked (moved s)) (dropped (moved s)) → Ticked s r

ticked : (site : Site) (s : State) (r : Reply) (new : State) → Answers site s r Event.Tick new → Ticked s r
ticked site s (Reply.Refused Refusal.Closed) new step = ended step.0 refl
ticked site s (Reply.Refused Refusal.ClockFull) new step = late step.0.0 step.0.1 refl
ticked site s (Reply.Refused refusal) new step = absurd step.0
ticked site s (Reply.Clock now first last) new step = goes step.0 step.1 (λ i. Reply.Clock (step.2 i) (step.3 i) (step.4 i))
ticked site s r new step = absurd step

ticks-agree : (s : State) (r q : Reply) → Ticked s r → Ticked s q → AgreeButForPath r q
ticks-agree s r q (ended c e) (ended d f) = agree-same r q _ e f
ticks-agree s r q (ended c e) (late o t f) = both s.closed c o
ticks-agree s r q (ended c e) (goes o t f) = both s.closed c o
ticks-agree s r q (late o t e) (ended c f) = both s.closed c o
ticks-agree s r q (late o t e) (late p u f) = agree-same r q _ e f
ticks-agree s r q (late o t e) (goes p u f) = absurd (omega arith)
ticks-agree s r q (goes o t e) (ended c f) = both s.closed c o
ticks-agree s r q (goes o t e) (late p u f) = absurd (omega arith)
ticks-agree s r q (goes o t e) (goes p u f) = agree-same r q _ e f

abbrev replacement : Spare → Reply
replacement Spare.None = Reply.Refused Refusal.NoSpare
replacement Spare.Foreign = Reply.Refused Refusal.ForeignPlanner
replacement (Spare.Fits slots) = Reply.Replaced slots

data Replacing (s : State) (agent : ℕ) (spare : Spare) (r : Reply) : Type 0 where
  gone : s.closed ≡ true → r ≡ Reply.Refused Refusal.Closed → Replacing s agent spare r
  nobody : s.closed ≡ false → length s.paths ≤ agent → r ≡ Reply.Refused (Refusal.UnknownAgent agent) → Replacing s agent spare r
  somebody : IsKnown s agent → r ≡ replacement spare → Replacing s agent spare r

replacing : (site : Site) (s : State) (agent : ℕ) (spare : Spare) (r : Reply) (new : State) → Answers site s r (Event.Replace agent spare) new → Replacing s agent spare r
replacing site s agent spare (Reply.Refused Refusal.Closed) new step = gone step.0 refl
replacing site s agent spare (Reply.Refused (Refusal.UnknownAgent told)) new step =
    nobody step.0.0 step.0.1 (ap (λ k. Reply.Refused (Refusal.UnknownAgent k)) step.0.2)
replacing site s agent Spare.None (Reply.Refused Refusal.NoSpare) new step = somebody step.0 refl
replacing site s agent Spare.Foreign (Reply.Refused Refusal.ForeignPlanner) new step = somebody step.0 refl
replacing site s agent spare (Reply.Refused refusal) new step = absurd step.0
replacing site s agent (Spare.Fits count) (Reply.Replaced slots) new step = somebody step.0 (ap (λ k. Reply.Replaced k) step.1)
replacing site s agent spare r new step = absurd step

replaces-agree : (s : State) (agent : ℕ) (spare : Spare) (r q : Reply) → Replacing s agent spare r → Replacing s agent spare q → AgreeButForPath r q
replaces-agree s agent spare r q (gone c e) (gone d f) = agree-same r q _ e f
replaces-agree s agent spare r q (gone c e) (nobody o l f) = both s.closed c o
replaces-agree s agent spare r q (gone c e) (somebody k f) = both s.closed c k.not_closed
replaces-agree s agent spare r q (nobody o l e) (gone c f) = both s.closed c o
replaces-agree s agent spare r q (nobody o l e) (nobody p m f) = agree-same r q _ e f
replaces-agree s agent spare r q (nobody o l e) (somebody k f) = absurd (let h = k.known in omega arith)
replaces-agree s agent spare r q (somebody k e) (gone c f) = both s.closed c k.not_closed
replaces-agree s agent spare r q (somebody k e) (nobody o l f) = absurd (let h = k.known in omega arith)
replaces-agree s agent spare r q (somebody k e) (somebody l f) = agree-same r q _ e f

data Closing (s : State) (r : Reply) : Type 0 where
  again : s.closed ≡ true → r ≡ Reply.Refused Refusal.Closed → Closing s r
  once : s.closed ≡ false → r ≡ Reply.Closed → Closing s r

closing : (site : Site) (s : State) (r : Reply) (new : State) → Answers site s r Event.Close new → Closing s r
closing site s (Reply.Refused Refusal.Closed) new step = again step.0 refl
closing site s (Reply.Refused refusal) new step = absurd step.0
closing site s Reply.Closed new step = once step.0 refl
closing site s r new step = absurd step

closes-agree : (s : State) (r q : Reply) → Closing s r → Closing s q → AgreeButForPath r q
closes-agree s r q (again c e) (again d f) = agree-same r q _ e f
closes-agree s r q (again c e) (once o f) = both s.closed c o
closes-agree s r q (once o e) (again c f) = both s.closed c o
closes-agree s r q (once o e) (once p f) = agree-same r q _ e f

pub replies_agree : (site : Site) (old : State) (event : Event) (one other : Reply) (a b : State) → IsLayout site.grid site.layout → AsksNoStray site old event →
    Answers site old one event a → Answers site old other event b → AgreeButForPath one other
replies_agree site old (Event.Submit client stops) one other a b layout asks x y =
    submits-agree site old stops one other layout (submitted site old client stops one a x) (submitted site old client stops other b y)
replies_agree site old (Event.Request agent) one other a b layout asks x y =
    requests-agree site old agent one other (λ due. asks agent refl due) (requested site old agent one a x) (requested site old agent other b y)
replies_agree site old Event.Tick one other a b layout asks x y = ticks-agree old one other (ticked site old one a x) (ticked site old other b y)
replies_agree site old (Event.Replace agent spare) one other a b layout asks x y =
    replaces-agree old agent spare one other (replacing site old agent spare one a x) (replacing site old agent spare other b y)
replies_agree site old Event.Close one other a b layout asks x y = closes-agree old one other (closing site old one a x) (closing site old other b y)
