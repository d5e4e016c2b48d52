-- A reader stands where the draft does that its lines make.
use Rattle.std.proofs.Common.{◌≡◌, ℕ, ◌+◌, ◌-◌, Bool, true, false, cond, List, [], ◌∷◌, ◌++◌, length, refl, sym, ap, ◌∙◌, subst, arith, length-append}
use Rattle.std.proofs.Math.Dec.{ltb as nat_lt}
use Rattle.std.proofs.lemmas.Bool.{lt-ltb, le-ltb, ltb-true, ltb-false}
use Rattle.wh_front.specs.declared.front.Front.{Front}
use Rattle.wh_front.specs.declared.front.Seat.{Seat}
use Rattle.wh_front.specs.declared.front.Submission.{Submission}
use Rattle.wh_front.specs.declared.line.Line.{Line}
use Rattle.wh_front.specs.declared.line.Line.TheVariants as lines
use Rattle.wh_front.specs.declared.stage.Stage.{Stage}
use Rattle.wh_front.specs.declared.stage.Stage.TheVariants as stages
use Rattle.wh_front.specs.declared.place.Place.{Place}
use Rattle.wh_front.specs.declared.reader.FrontFault.TheVariants as bad
use Rattle.wh_front.specs.declared.reader.NextFault.{NextFault}
use Rattle.wh_front.specs.declared.reader.NextFault.TheVariants as nexts
use Rattle.wh_front.specs.Fronts.{front_text, Fits}
use Rattle.wh_front.specs.Drafts.{Draft, empty, nothing, expects, is_done, with_line, put}
use Rattle.wh_front.specs.Places.{Reach, start, behind, behind_all, fault_at, IsMiscount}
use Rattle.wh_front.specs.FirstBad.{IsFirstBad, IsNext, IsNoNext}
use Rattle.wh_front.proofs.DraftLaws.{draft, StandsAt, nothing_is}
use Rattle.wh_front.proofs.Readings.{IsReading, reading_goes, reading_done, reading_only, reading_none, reading_bad, shorter}

-- how many more there are to be
abbrev pub LeftIs : Stage → Draft → ℕ → Type 0
LeftIs stages.Seats d left = left + length d.front.seats ≡ d.agents
LeftIs stages.Submissions d left = left + length d.front.tasks ≡ d.tasks
LeftIs _ d left = Unit {0}

pub record StandsWith (d : Draft) (p : Place) : Type 0 where
  pub stage : p.stage ≡ d.stage
  pub left : LeftIs d.stage d p.left

on_seat : (f : Front) (n m : ℕ) (p : Place) (seat : Seat) → StandsAt stages.Seats (draft f n m stages.Seats) → p.left + length f.seats ≡ n → StandsWith (put (draft f n m stages.Seats) (lines.Agent seat)) (behind p (lines.Agent seat))
on_seat f n m p seat s l = go (nat_lt (length (f.seats ++ seat ∷ [])) n) refl
  where
    longer : length (f.seats ++ seat ∷ []) ≡ length f.seats + 1
    longer = simp length-append (omega arith)

    go : (v : Bool) → nat_lt (length (f.seats ++ seat ∷ [])) n ≡ v
        → StandsWith (draft (record f { seats = f.seats ++ seat ∷ [] }) n m (cond v stages.Seats stages.Tasks)) (behind p (lines.Agent seat))
    go true is =
        let below = ltb-true _ _ is in
        let more : nat_lt 0 (p.left - 1) ≡ true = lt-ltb _ _ (omega (arith, s.0, l, longer, below)) in
        record { stage = ap (λ (v : Bool). cond v stages.Seats stages.Tasks) more; left = omega (arith, s.0, l, longer) }
    go false is =
        let above = ltb-false _ _ is in
        let none : nat_lt 0 (p.left - 1) ≡ false = le-ltb _ _ (omega (arith, s.0, l, longer, above)) in
        record { stage = ap (λ (v : Bool). cond v stages.Seats stages.Tasks) none; left = tt }

on_task : (f : Front) (n m : ℕ) (p : Place) (task : Submission) → StandsAt stages.Submissions (draft f n m stages.Submissions) → p.left + length f.tasks ≡ m
    → StandsWith (put (draft f n m stages.Submissions) (lines.Task task)) (behind p (lines.Task task))
on_task f n m p task s l = go (nat_lt (length (f.tasks ++ task ∷ [])) m) refl
  where
    longer : length (f.tasks ++ task ∷ []) ≡ length f.tasks + 1
    longer = simp length-append (omega arith)

    go : (v : Bool) → nat_lt (length (f.tasks ++ task ∷ [])) m ≡ v
        → StandsWith (draft (record f { tasks = f.tasks ++ task ∷ [] }) n m (cond v stages.Submissions stages.Begin)) (behind p (lines.Task task))
    go true is =
        let below = ltb-true _ _ is in
        let more : nat_lt 0 (p.left - 1) ≡ true = lt-ltb _ _ (omega (arith, s.1, l, longer, below)) in
        record { stage = ap (λ (v : Bool). cond v stages.Submissions stages.Begin) more; left = omega (arith, s.1, l, longer) }
    go false is =
        let above = ltb-false _ _ is in
        let none : nat_lt 0 (p.left - 1) ≡ false = le-ltb _ _ (omega (arith, s.1, l, longer, above)) in
        record { stage = ap (λ (v : Bool). cond v stages.Submissions stages.Begin) none; left = tt }

on_tasks : (f : Front) (n m count : ℕ) (p : Place) → f.tasks ≡ [] → StandsWith (put (draft f n m stages.Tasks) (lines.Tasks count)) (behind p (lines.Tasks count))
on_tasks f n m count p empty = go (nat_lt 0 count) refl
  where
    none : length f.tasks ≡ 0
    none = ap (λ (ts : List Submission). length ts) empty

    go : (v : Bool) → nat_lt 0 count ≡ v → StandsWith (draft f n count (cond v stages.Submissions stages.Begin)) (record { stage = cond v stages.Submissions stages.Begin; left = count })
    go true is = record { stage = refl; left = omega (arith, none) }
    go false is = record { stage = refl; left = tt }

on : (f : Front) (n m : ℕ) (stage : Stage) (p : Place) (line : Line) → StandsAt stage (draft f n m stage) → LeftIs stage (draft f n m stage) p.left → expects stage line ≡ true → StandsWith (put (draft f n m stage) line) (behind p line)
on f n m stages.Title p lines.Title s l may = record { stage = refl; left = tt }
on f n m stages.Before p (lines.Before before) s l may = record { stage = refl; left = tt }
on f n m stages.Rules p (lines.Rules rules) s l may = record { stage = refl; left = tt }
on f n m stages.Rules p (lines.State clock closed kind) s l may = record { stage = refl; left = tt }
on f n m stages.State p (lines.State clock closed kind) s l may = record { stage = refl; left = tt }
on f n m stages.Entries p (lines.Entries counts) s l may = record { stage = refl; left = tt }
on f n m stages.Agents p (lines.Agents count) s l may =
    let none : length f.seats ≡ 0 = ap (λ (ss : List Seat). length ss) s.seats in
    record { stage = refl; left = omega (arith, none) }
on f n m stages.Seats p (lines.Agent seat) s l may = on_seat f n m p seat s l
on f n m stages.Tasks p (lines.Tasks count) s l may = on_tasks f n m count p s.1
on f n m stages.Submissions p (lines.Task task) s l may = on_task f n m p task s l
on f n m stages.Begin p lines.Begin s l may = record { stage = refl; left = tt }
on f n m stage p line s l may = absurd cc

pub stands_on : (d : Draft) (p : Place) (line : Line) → StandsAt d.stage d → StandsWith d p → expects d.stage line ≡ true → StandsWith (put d line) (behind p line)
stands_on d p line s w may = on d.front d.agents d.tasks d.stage p line s w.left may

-- ---- a reader and its text
-- whole lines were read, they make the draft, and the reader stands behind them
pub record IsFollowing (text : List ℕ) (d : Draft) (reach : Reach) : Type 0 where
  pub reading : IsReading text d reach.rest reach.number
  pub stands : StandsWith d reach.place
  pub place : reach.place ≡ behind_all start reading.taken

behind_last : (p : Place) (taken : List Line) (line : Line) → behind_all p (taken ++ line ∷ []) ≡ behind (behind_all p taken) line
behind_last p [] line = refl
behind_last p (first ∷ taken) line = behind_last (behind p first) taken line

pub next_of : (text : List ℕ) (d : Draft) (reach : Reach) (line : Line) (rest : List ℕ) → IsFollowing text d reach → IsNext reach.place.stage reach.rest line rest → IsNext d.stage reach.rest line rest
next_of text d reach line rest r next = subst (λ (s : Stage). IsNext s reach.rest line rest) r.stands.stage next

-- it follows with these lines
pub record IsFollowingOn (text : List ℕ) (d : Draft) (reach : Reach) (taken : List Line) : Type 0 where
  pub following : IsFollowing text d reach
  pub taken_is : following.reading.taken ≡ taken

pub following_starts : (text : List ℕ) → IsFollowingOn text nothing (record { rest = text; number = 1; place = start }) []
following_starts text = record {
  following = record {
    reading = record { taken = []; is_draft = nothing_is; run_is = refl; fit = tt; parts = refl; place = refl; bound = omega arith };
    stands = record { stage = refl; left = tt };
    place = refl;
  };
  taken_is = refl;
}

pub following_goes : (text : List ℕ) (d : Draft) (reach : Reach) (line : Line) (rest : List ℕ) (r : IsFollowing text d reach) → IsNext reach.place.stage reach.rest line rest
    → IsFollowingOn text (put d line) (record { rest = rest; number = reach.number + 1; place = behind reach.place line }) (r.reading.taken ++ line ∷ [])
following_goes text d reach line rest r next =
    let here = next_of text d reach line rest r next in
    let on = reading_goes text d reach.rest reach.number line rest r.reading here in
    record {
      following = record {
        reading = on.reading;
        stands = stands_on d reach.place line r.reading.is_draft.stands r.stands here.may;
        place = ap (λ (p : Place). behind p line) r.place ∙ sym (behind_last start r.reading.taken line) ∙ ap (λ (ls : List Line). behind_all start ls) (sym on.taken_is);
      };
      taken_is = on.taken_is;
    }

-- ---- what comes of it
front_put : (d : Draft) (line : Line) → (put d line).front ≡ with_line d.front line
front_put d lines.Title = refl
front_put d (lines.Before before) = refl
front_put d (lines.Rules rules) = refl
front_put d (lines.State clock closed kind) = refl
front_put d (lines.Entries counts) = refl
front_put d (lines.Agents count) = refl
front_put d (lines.Agent seat) = refl
front_put d (lines.Tasks count) = refl
front_put d (lines.Task task) = refl
front_put d lines.Begin = refl

-- a reader that follows a text, and the front that it has told
abbrev pub HasTold : List ℕ → Front → Reach → Type 0
HasTold text front reach = (d : Draft) × (d.front ≡ front) × IsFollowing text d reach

pub told_starts : (text : List ℕ) (front : Front) (reach : Reach) → front ≡ empty → reach ≡ record { rest = text; number = 1; place = start } → HasTold text front reach
told_starts text front reach none begun = (nothing, sym none, subst (λ (r : Reach). IsFollowing text nothing r) (sym begun) (following_starts text).following)

pub told_goes : (text : List ℕ) (front new : Front) (old reach : Reach) (line : Line) → HasTold text front old → IsNext old.place.stage old.rest line reach.rest
    → reach ≡ record { rest = reach.rest; number = old.number + 1; place = behind old.place line } → new ≡ with_line front line → HasTold text new reach
told_goes text front new old reach line i next goes taken = (
  put i.0 line,
  front_put i.0 line ∙ ap (λ (f : Front). with_line f line) i.1 ∙ sym taken,
  subst (λ (r : Reach). IsFollowing text (put i.0 line) r) (sym goes) (following_goes text i.0 old line reach.rest i.2 next).following,
)

stage_done : (text : List ℕ) (d : Draft) (reach : Reach) (v : Bool) → IsFollowing text d reach → is_done reach.place.stage ≡ v → is_done d.stage ≡ v
stage_done text d reach v r done = ap (λ (s : Stage). is_done s) (sym r.stands.stage) ∙ done

pub told_found : (text : List ℕ) (front : Front) (reach : Reach) → HasTold text front reach → is_done reach.place.stage ≡ true → Fits front × (text ≡ front_text front ++ reach.rest)
told_found text front reach i done =
    subst (λ (f : Front). Fits f × (text ≡ front_text f ++ reach.rest)) i.1 (reading_done text i.0 reach.rest reach.number i.2.reading (stage_done text i.0 reach true i.2 done))

pub told_only : (text : List ℕ) (front : Front) (reach : Reach) → HasTold text front reach → is_done reach.place.stage ≡ true
    → (other : Front) (x : List ℕ) → Fits other → text ≡ front_text other ++ x → (front ≡ other) × (reach.rest ≡ x)
told_only text front reach i done other x fits is =
    let p = reading_only text i.0 reach.rest reach.number i.2.reading (stage_done text i.0 reach true i.2 done) other x fits is in
    (sym i.1 ∙ p.0, p.1)

-- the fault is that there is no next line, unless memory ran out
abbrev pub IsFault : NextFault → Reach → Type 0
IsFault fault reach =
    (fault ≡ nexts.Form → IsNoNext reach.place.stage reach.rest × ¬ IsMiscount reach.place.stage reach.rest)
    × (fault ≡ nexts.Count → IsNoNext reach.place.stage reach.rest × IsMiscount reach.place.stage reach.rest)

pub fault_only : (text : List ℕ) (front : Front) (reach : Reach) (number : ℕ) (fault : NextFault) → HasTold text front reach → is_done reach.place.stage ≡ false → IsFault fault reach
    → (other : Front) (x : List ℕ) → Fits other → text ≡ front_text other ++ x → fault_at number fault ≡ bad.NoMemory
fault_only text front reach number fault i going is_fault other x fits is = go fault is_fault
  where
    none : IsNoNext reach.place.stage reach.rest → ⊥
    none lacks =
        reading_none text i.0 reach.rest reach.number i.2.reading (stage_done text i.0 reach false i.2 going) (subst (λ (s : Stage). IsNoNext s reach.rest) i.2.stands.stage lacks) other x fits is

    go : (fault : NextFault) → IsFault fault reach → fault_at number fault ≡ bad.NoMemory
    go nexts.Form h = absurd (none ((h.0 refl).0))
    go nexts.Count h = absurd (none ((h.1 refl).0))
    go nexts.NoMemory h = refl

pub fault_line : (text : List ℕ) (front : Front) (reach : Reach) (fault : NextFault) (n : ℕ) → HasTold text front reach → is_done reach.place.stage ≡ false → IsFault fault reach
    → fault_at reach.number fault ≡ bad.At n → IsFirstBad text n
fault_line text front reach fault n i going is_fault e = go fault is_fault e
  where
    first : IsNoNext reach.place.stage reach.rest → bad.At reach.number ≡ bad.At n → IsFirstBad text n
    first lacks e =
        let same : reach.number ≡ n = cc in
        subst (λ (k : ℕ). IsFirstBad text k) same
        (reading_bad text i.0 reach.rest reach.number i.2.reading (stage_done text i.0 reach false i.2 going) (subst (λ (s : Stage). IsNoNext s reach.rest) i.2.stands.stage lacks))

    go : (fault : NextFault) → IsFault fault reach → fault_at reach.number fault ≡ bad.At n → IsFirstBad text n
    go nexts.Form h e = first ((h.0 refl).0) e
    go nexts.Count h e = first ((h.1 refl).0) e
    go nexts.NoMemory h e = absurd cc
