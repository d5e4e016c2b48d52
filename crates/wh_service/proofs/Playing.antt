-- What a run of the fleet's planners says when the planners are left out.
use Rattle.wh_core.proofs.Sound.{ways-opening}
use Rattle.wh_core.specs.Laws.{AllOnTheirWays, IsOpening}
use Rattle.std.proofs.Common.{◌≡◌, ◌<◌, ◌≤◌, ◌^◌, ◌-◌, ℕ, Bool, true, false, true≢false, List, [], ◌∷◌, ◌++◌, length, map, replicate, refl, sym, ap, ◌∙◌, subst, arith, inl, inr, Option, Some, All, Result, IfOk, IfErr}
use Prim.Native.Nat.{zero, suc}
use Rattle.std.specs.List.{AllByRecursion}
use Rattle.std.specs.Prelude.{slice_get, slice_index}
use Rattle.std.specs.Io.KnownBytes.{Appends, Keeps}
use Rattle.std.proofs.KnownBytes.{Appends-trans}
use Rattle.std.specs.declared.alloc.AllocError.{AllocError}
use Rattle.std.proofs.lemmas.List.{length-replicate}
use Rattle.std.proofs.lemmas.List.Elements.{All-push, recursion_from_All}
use Rattle.std.proofs.lemmas.Option.{get_or_from_slice_get, slice_get_within}
use Rattle.wh_text.specs.Lines.{lines_of}
use Rattle.wh_lines.specs.Input.{Input}
use Rattle.wh_grid.specs.Grids.{Floor}
use Rattle.wh_points.specs.Points.{Site}
use Rattle.wh_points.specs.Formed.{IsFormed}
use Rattle.wh_claims.specs.declared.bank.Bank.{Bank}
use Rattle.wh_event.specs.declared.entry.Entry.{Entry}
use Rattle.wh_log.specs.Told.{told_text}
use Rattle.wh_replay.specs.declared.asker.Asker.{Asker}
use Rattle.wh_core.specs.States.{State, opened}
use Rattle.wh_core.specs.Steps.{Run}
use Rattle.wh_judge.specs.Drafts.{Seen}
use Rattle.wh_replay.specs.Fleet.{IsTied, AllFit}
use Rattle.wh_replay.specs.Runs.{Ran, entries_of}
use Rattle.wh_edge.specs.Site.{SiteRuled}
use Rattle.wh_edge.specs.declared.trouble.Trouble.{Trouble}
use Rattle.wh_options.specs.declared.chosen.Fleet.{Fleet}
use Rattle.wh_options.specs.declared.chosen.Tail.{Tail}
use Rattle.wh_replay.specs.Answers.{answered_from, commands_of, replies_to, text_of}
use Rattle.wh_replay.specs.Scripts.{IsOutputOf, Replays}
use Rattle.wh_deliver.specs.Delivers.{MayDeliver}
use Rattle.wh_service.specs.declared.program.Played.{Played}
use Rattle.wh_replay.specs.declared.script.ReplayFault.{ReplayFault}
use Rattle.std.proofs.lemmas.Result.{IfOk-weaker, IfErr-weaker}
use Rattle.wh_service.specs.Fleets.{IsEquipped, IsForPlanner, IsMember, IsOfFleet, IsWhyUnclaimed, MakesPlanners}
use Rattle.wh_service.specs.declared.parts.PlannerParts.{PlannerParts}
use Rattle.wh_service.specs.Plays.{IsOpened, Plays, PlaysThrough, PlaysUntil, PlaysWithoutTail, IsWhyUnplayed}
use Rattle.wh_service.specs.Tails.{IsWhyNoTail, tail_after}
use Rattle.wh_service.specs.Serves.{RanFrom, opening, Operates, Finishes, Serves, ServesByFleet, ServesUntil, ServesWithoutTail, IsWhyUnserved, IsWhyUnservedByFleet}
use Rattle.wh_service.proofs.Openings.{opening_read}
use Rattle.wh_service.proofs.Replayed.{replay_logged}
use Rattle.wh_service.proofs.Spared.{ran_from}

-- ---- opening

pub opened_with : {X : Type 0} (fits : X → Floor → Bool) (count : X → ℕ) (site : Site) (planners seated : List X) (book : Seen)
    → book.site ≡ site → ((slots : List ℕ) × (book.opening ≡ opened site.layout 0 slots) × (book.state ≡ book.opening)) → book.history ≡ [] → seated ≡ planners
    → IsTied fits count site.grid seated book.state.slots → IsOpened fits count site planners book
opened_with {X} fits count site planners seated book at started fresh same tied = record {
  site_is = at;
  slots = started.0;
  tied = subst (λ (slots : List ℕ). IsTied fits count site.grid planners slots) (ap (λ (s : State). s.slots) (started.2 ∙ started.1))
      (subst (λ (xs : List X). IsTied fits count site.grid xs book.state.slots) same tied);
  opening = started.1;
  state = started.2;
  history = fresh;
}

-- ---- the fleet

-- what a call that makes planners may give
abbrev pub Gives : Type 0 → Type 1
Gives X = PlannerParts → Result X AllocError → Type 0

-- one more member
pub member_added : {X : Type 0} {gives : Gives X} {fleet : Fleet} {grid : Floor} {bank : Bank} (row added : List X) (planner : X) → added ≡ row ++ planner ∷ []
    → All (IsMember gives fleet grid bank) row → IsMember gives fleet grid bank planner → All (IsMember gives fleet grid bank) added
member_added {X} {gives} {fleet} {grid} {bank} row added planner same all m =
    subst (λ (xs : List X). All (IsMember gives fleet grid bank) xs) (sym same) (All-push (IsMember gives fleet grid bank) row planner all m)

-- the same of so many agents on a grid in other words
pub equipped_at : {X : Type 0} {gives : Gives X} {fleet : Fleet} {grid at : Floor} {n m : ℕ} {planners spares : List X} → grid ≡ at → n ≡ m
    → IsEquipped gives fleet grid n planners spares → IsEquipped gives fleet at m planners spares
equipped_at {X} {gives} {fleet} {grid} {at} {n} {m} {planners} {spares} lies same e =
    subst (λ (f : Floor). IsEquipped gives fleet f m planners spares) lies (subst (λ (k : ℕ). IsEquipped gives fleet grid k planners spares) same e)

-- members of a fleet on a grid plan on it, with the fleet's slots
pub member_tells : {X : Type 0} (fits : X → Floor → Bool) (count : X → ℕ) (gives : Gives X) (fleet : Fleet) (grid : Floor) (bank : Bank) (planner : X)
    → MakesPlanners fits count gives → IsOfFleet fleet → IsMember gives fleet grid bank planner → (fits planner grid ≡ true) × (count planner ≡ fleet.slots)
member_tells fits count gives fleet grid bank planner makes range m =
    let few : IsForPlanner m.parts.claim = (subst (λ n. 2 ≤ n) (sym m.slots_are) range.0, subst (λ n. n ≤ 64) (sym m.slots_are) range.1) in (
      subst (λ (g : Floor). fits planner g ≡ true) m.grid_is (makes.on_grid m.parts planner few m.made),
      makes.has_slots m.parts planner few m.made ∙ m.slots_are,
    )

pub members_fit : {X : Type 0} (fits : X → Floor → Bool) (count : X → ℕ) (gives : Gives X) (fleet : Fleet) (grid : Floor) (bank : Bank) (row : List X)
    → MakesPlanners fits count gives → IsOfFleet fleet → All (IsMember gives fleet grid bank) row → AllFit fits grid row
members_fit fits count gives fleet grid bank row makes range all = λ k planner at.
    subst (λ b. fits b grid ≡ true) (get_or_from_slice_get row k planner planner at)
    (member_tells fits count gives fleet grid bank _ makes range (all k planner (slice_get_within row k planner at))).0

fit_each : {X : Type 0} (fits : X → Floor → Bool) (count : X → ℕ) (gives : Gives X) (fleet : Fleet) (grid : Floor) (bank : Bank) (row : List X)
    → MakesPlanners fits count gives → IsOfFleet fleet → AllByRecursion (IsMember gives fleet grid bank) row → AllByRecursion (λ b. fits b grid ≡ true) row
fit_each fits count gives fleet grid bank [] makes range all = tt
fit_each fits count gives fleet grid bank (b ∷ row) makes range all =
    ((member_tells fits count gives fleet grid bank b makes range all.0).0, fit_each fits count gives fleet grid bank row makes range all.1)

-- the slots of each
pub slots_each : {X : Type 0} (fits : X → Floor → Bool) (count : X → ℕ) (gives : Gives X) (fleet : Fleet) (grid : Floor) (bank : Bank) (row : List X) (n : ℕ)
    → MakesPlanners fits count gives → IsOfFleet fleet → length row ≡ n → AllByRecursion (IsMember gives fleet grid bank) row → map count row ≡ replicate n fleet.slots
slots_each fits count gives fleet grid bank [] zero makes range size all = refl
slots_each fits count gives fleet grid bank [] (suc n) makes range size all = absurd (omega (arith, size))
slots_each fits count gives fleet grid bank (b ∷ row) zero makes range size all = absurd (omega (arith, size))
slots_each fits count gives fleet grid bank (b ∷ row) (suc n) makes range size all =
    let e : length row ≡ n = omega (arith, size) in
    ap (λ s. s ∷ map count row) (member_tells fits count gives fleet grid bank b makes range all.0).1
    ∙ ap (λ l. fleet.slots ∷ l) (slots_each fits count gives fleet grid bank row n makes range e all.1)

-- slots that tell what planners have are these numbers
pub tied_slots : {X : Type 0} (count : X → ℕ) (row : List X) (slots : List ℕ) → length row ≡ length slots
    → ((k : ℕ) (planner : X) → slice_get row k ≡ Some planner → count planner ≡ slice_index slots k) → slots ≡ map count row
tied_slots count [] [] size tell = refl
tied_slots count [] (s ∷ slots) size tell = absurd (omega (arith, size))
tied_slots count (b ∷ row) [] size tell = absurd (omega (arith, size))
tied_slots count (b ∷ row) (s ∷ slots) size tell =
    let e : length row ≡ length slots = omega (arith, size) in
    let rest = tied_slots count row slots e (λ k planner at. tell (suc k) planner at) in
    ap (λ l. s ∷ l) rest ∙ ap (λ n. n ∷ map count row) (sym (tell 0 b refl))

-- ---- the run

-- the opening state has the fleet's slots
opening_is : {X : Type 0} (fits : X → Floor → Bool) (count : X → ℕ) (gives : Gives X) (fleet : Fleet) (site : Site) (planners spares : List X) (book : Seen)
    → MakesPlanners fits count gives → IsOfFleet fleet → IsEquipped gives fleet site.grid (length site.layout.agents) planners spares
    → IsOpened fits count site planners book → book.opening ≡ opening fleet site
opening_is fits count gives fleet site planners spares book makes range e o =
    let each = recursion_from_All (IsMember gives fleet site.grid e.bank) planners e.planners_are in
    let seats_are = slots_each fits count gives fleet site.grid e.bank planners (length site.layout.agents) makes range e.seats each in
    o.opening ∙ ap (opened site.layout 0) (tied_slots count planners o.slots o.tied.seats o.tied.counts ∙ seats_are)

-- the replies of a fleet's warehouse
abbrev operates : {X : Type 0} (fits : X → Floor → Bool) (count : X → ℕ) (asker : Asker) (gives : Gives X) (fleet : Fleet) (site : Site) (planners spares : List X) (lines : List (List ℕ))
    (book final : Seen) (rest : List X) (replies : List (List ℕ))
    → MakesPlanners fits count gives → IsOfFleet fleet → IsEquipped gives fleet site.grid (length site.layout.agents) planners spares
    → IsOpened fits count site planners book → IsOpening site (opening fleet site) → IsOutputOf fits count asker lines book spares final rest replies
    → Operates asker fleet site lines replies
operates fits count asker gives fleet site planners spares lines book final rest replies makes range e o opens g =
    let apart = recursion_from_All (IsMember gives fleet site.grid e.bank) spares e.spares_are in
    let spares_are = slots_each fits count gives fleet site.grid e.bank spares fleet.spares makes range e.stands_by apart in
    let start = o.state ∙ opening_is fits count gives fleet site planners spares book makes range e o in
    let ran = subst (λ (at : Site). Ran fits count at asker.caller (commands_of lines) g.outcomes book.state spares final.state rest) o.site_is g.ran in
    let seen = ran_from fits count site asker.caller (commands_of lines) g.outcomes book.state spares final.state rest (fit_each fits count gives fleet site.grid e.bank spares makes range apart) ran in
    let run = subst (λ (at : Site). Run at book.state (entries_of g.outcomes) final.state) o.site_is g.run in
    record {
      outcomes = g.outcomes;
      final = final.state;
      rest = map count rest;
      replies_are = g.replies_are
          ∙ ap (λ (n : ℕ). replies_to (told_text asker.form) lines (answered_from n book.state.clock g.outcomes)) (ap length o.history)
          ∙ ap (λ (s : State). replies_to (told_text asker.form) lines (answered_from 0 s.clock g.outcomes)) start;
      ran = subst (λ (s : State). RanFrom asker.caller site s (replicate fleet.spares fleet.slots) (commands_of lines) g.outcomes final.state (map count rest)) start
          (subst (λ (l : List ℕ). RanFrom asker.caller site book.state l (commands_of lines) g.outcomes final.state (map count rest)) spares_are seen);
      run = subst (λ (s : State). Run site s (entries_of g.outcomes) final.state) start run;
      served = λ formed. g.served (record {
        formed = subst IsFormed (sym o.site_is) formed;
        on_their_ways = subst (λ (t : Site). AllOnTheirWays t book.opening) (sym o.site_is)
            (subst (λ (s : State). AllOnTheirWays site s) (sym (opening_is fits count gives fleet site planners spares book makes range e o)) (ways-opening site (opening fleet site) opens));
      });
    }

-- what follows the replies of it
tail_is : {X : Type 0} (fits : X → Floor → Bool) (count : X → ℕ) (asker : Asker) (gives : Gives X) (fleet : Fleet) (site : Site) (planners spares : List X) (tail : Tail) (lines : List (List ℕ))
    (book final : Seen) (rest : List X) (replies : List (List ℕ))
    → MakesPlanners fits count gives → IsOfFleet fleet → IsEquipped gives fleet site.grid (length site.layout.agents) planners spares
    → IsOpened fits count site planners book → (g : IsOutputOf fits count asker lines book spares final rest replies)
    → tail_after tail final.opening final.history final.state ≡ tail_after tail (opening fleet site) (entries_of g.outcomes) final.state
tail_is fits count asker gives fleet site planners spares tail lines book final rest replies makes range e o g =
    let opens = g.opening ∙ opening_is fits count gives fleet site planners spares book makes range e o in
    let grew = g.history ∙ ap (λ (h : List Entry). h ++ entries_of g.outcomes) o.history in
    ap (λ (s : State). tail_after tail s final.history final.state) opens ∙ ap (λ (h : List Entry). tail_after tail (opening fleet site) h final.state) grew

-- where nothing is delivered behind the script, it was served to its end, and that is all
abbrev plain : {X : Type 0} (fits : X → Floor → Bool) (count : X → ℕ) (asker : Asker) (site : Site) (planners spares : List X) (deliver : Bool) (between new : Input) (had has : Option (List ℕ)) (final : Seen) (written : ℕ)
    → deliver ≡ false → (p : PlaysThrough fits count asker site planners spares deliver between new had has final written) → Replays fits count asker between new p.book spares final p.rest had has written
plain fits count asker site planners spares deliver between new had has final written off p =
    let still = subst (λ (d : Bool). MayDeliver d asker (2 ^ 64 - 1) p.served final p.added p.answered has) off p.delivers in
    subst (λ (w : Option (List ℕ)). Replays fits count asker between new p.book spares final p.rest had w written) (sym still.2)
    (subst (λ (b : Seen). Replays fits count asker between new p.book spares b p.rest had p.answered written) (sym still.0) p.replays)

abbrev finishes : {X : Type 0} (fits : X → Floor → Bool) (count : X → ℕ) (asker : Asker) (gives : Gives X) (fleet : Fleet) (site : Site) (planners spares : List X) (old between new : Input)
    (had has : Option (List ℕ)) (book final : Seen) (rest : List X) (written : ℕ)
    → asker.caller < 64 → SiteRuled fleet.homes old between site
    → MakesPlanners fits count gives → IsOfFleet fleet → IsEquipped gives fleet site.grid (length site.layout.agents) planners spares
    → IsOpened fits count site planners book → Replays fits count asker between new book spares final rest had has written → Finishes asker fleet old new
finishes fits count asker gives fleet site planners spares old between new had has book final rest written low at makes range e o r =
    let opens = opening_read old between site (replicate (length site.layout.agents) fleet.slots) at.read (length-replicate (length site.layout.agents) fleet.slots) in
    let done = operates fits count asker gives fleet site planners spares (lines_of r.read) book final rest r.replies makes range e o opens r.output in
    record {
      between = between;
      site = site;
      site_read = at;
      is_opening = opens;
      script = r.read;
      takes = r.takes;
      ended = r.ended;
      replies = r.replies;
      operates = done;
      is_log = replay_logged asker fleet site old between (lines_of r.read) r.replies low at range done;
    }

pub serves : {X : Type 0} (fits : X → Floor → Bool) (count : X → ℕ) (asker : Asker) (gives : Gives X) (fleet : Fleet) (site : Site) (planners spares : List X) (deliver : Bool) (tail : Tail) (old between new : Input)
    (had has : Option (List ℕ)) (written : ℕ) (report : List ℕ) → deliver ≡ false
    → asker.caller < 64 → SiteRuled fleet.homes old between site
    → MakesPlanners fits count gives → IsOfFleet fleet → IsEquipped gives fleet site.grid (length site.layout.agents) planners spares
    → Plays fits count asker site planners spares deliver tail between new had has written report → Serves asker fleet tail old new had has written
serves fits count asker gives fleet site planners spares deliver tail old between new had has written report off low at makes range e p =
    let q = p.plays in
    let r = plain fits count asker site planners spares deliver between new had p.replied p.final written off q in
    let same = tail_is fits count asker gives fleet site planners spares tail (lines_of r.read) q.book p.final q.rest r.replies makes range e q.opened r.output in
    record {
      run = finishes fits count asker gives fleet site planners spares old between new had p.replied q.book p.final q.rest written low at makes range e q.opened r;
      appends = subst (λ (t : List ℕ). Appends had has (text_of r.replies ++ t)) same
          (Appends-trans had p.replied has (text_of r.replies) (tail_after tail p.final.opening p.final.history p.final.state) r.appends p.follows);
      written_is = r.written_is;
    }

serves_without : {X : Type 0} (fits : X → Floor → Bool) (count : X → ℕ) (asker : Asker) (gives : Gives X) (fleet : Fleet) (site : Site) (planners spares : List X) (deliver : Bool) (tail : Tail) (told : Trouble)
    (old between new : Input) (had has : Option (List ℕ)) → deliver ≡ false
    → asker.caller < 64 → SiteRuled fleet.homes old between site
    → MakesPlanners fits count gives → IsOfFleet fleet → IsEquipped gives fleet site.grid (length site.layout.agents) planners spares
    → PlaysWithoutTail fits count asker site planners spares deliver tail told between new had has → ServesWithoutTail asker fleet tail told old new had has
serves_without fits count asker gives fleet site planners spares deliver tail told old between new had has off low at makes range e p =
    let q = p.plays in
    let r = plain fits count asker site planners spares deliver between new had p.replied p.final p.written off q in
    let same = tail_is fits count asker gives fleet site planners spares tail (lines_of r.read) q.book p.final q.rest r.replies makes range e q.opened r.output in
    record {
      run = finishes fits count asker gives fleet site planners spares old between new had p.replied q.book p.final q.rest p.written low at makes range e q.opened r;
      replied = p.replied;
      appends = r.appends;
      why = subst (λ (t : List ℕ). IsWhyNoTail told p.replied has t) same p.why;
    }

serves_until : {X : Type 0} (fits : X → Floor → Bool) (count : X → ℕ) (asker : Asker) (gives : Gives X) (fleet : Fleet) (site : Site) (planners spares : List X) (fault : ReplayFault)
    (old between new : Input) (had has : Option (List ℕ))
    → SiteRuled fleet.homes old between site
    → MakesPlanners fits count gives → IsOfFleet fleet → IsEquipped gives fleet site.grid (length site.layout.agents) planners spares
    → PlaysUntil fits count asker site planners spares fault between new had has → ServesUntil asker fleet fault old new had has
serves_until fits count asker gives fleet site planners spares fault old between new had has at makes range e p = record {
  between = between;
  site = site;
  site_read = at;
  is_opening = opening_read old between site (replicate (length site.layout.agents) fleet.slots) at.read (length-replicate (length site.layout.agents) fleet.slots);
  read = p.stops.read;
  begun = p.stops.begun;
  takes = p.stops.takes;
  part = p.stops.part;
  whole = p.stops.whole;
  replies = p.stops.replies;
  operates = operates fits count asker gives fleet site planners spares (lines_of p.stops.read) p.book p.final p.rest p.stops.replies makes range e p.opened
      (opening_read old between site (replicate (length site.layout.agents) fleet.slots) at.read (length-replicate (length site.layout.agents) fleet.slots)) p.stops.output;
  writes = p.stops.writes;
  cause = p.stops.cause;
}

-- why it was not served
pub unserved : {X : Type 0} (fits : X → Floor → Bool) (count : X → ℕ) (asker : Asker) (gives : Gives X) (fleet : Fleet) (site : Site) (planners spares : List X) (deliver : Bool) (tail : Tail) (old between new : Input)
    (had has : Option (List ℕ)) (told : Trouble) → deliver ≡ false
    → asker.caller < 64 → SiteRuled fleet.homes old between site
    → MakesPlanners fits count gives → IsOfFleet fleet → IsEquipped gives fleet site.grid (length site.layout.agents) planners spares
    → IsWhyUnplayed fits count asker site planners spares deliver tail told between new had has → IsWhyUnserved asker fleet tail told old new had has
unserved fits count asker gives fleet site planners spares deliver tail old between new had has told off low at makes range e why = elim why [
  | inl before ↦
      inr (inl (
        record {
          site = site;
          site_read = subst (λ (i : Input). SiteRuled fleet.homes old i site) (sym before.1) at;
          why = subst (IsWhyUnclaimed fleet.slots) (sym before.0) tt;
        },
        before.2,
      ))
  | inr later ↦
      elim later [
        | inl during ↦ inr (inr (inl (during.0, during.1, serves_until fits count asker gives fleet site planners spares during.0 old between new had has at makes range e during.2)))
        | inr behind ↦ elim behind [
          | inl undelivered ↦ absurd (true≢false (sym undelivered.0 ∙ off))
          | inr last ↦ inr (inr (inr (serves_without fits count asker gives fleet site planners spares deliver tail told old between new had has off low at makes range e last)))
        ]
      ]
]

pub unequipped : (asker : Asker) (fleet : Fleet) (site : Site) (tail : Tail) (old new : Input) (had has : Option (List ℕ)) (told : Trouble)
    → SiteRuled fleet.homes old new site → IsWhyUnclaimed fleet.slots told → Keeps had has → IsWhyUnserved asker fleet tail told old new had has
unequipped asker fleet site tail old new had has told at why kept = inr (inl (record { site = site; site_read = at; why = why }, kept))

-- the same with the fleet's planners
pub unequipped_fleet : {X : Type 0} (fits : X → Floor → Bool) (count : X → ℕ) (asker : Asker) (gives : Gives X) (fleet : Fleet) (site : Site) (deliver : Bool) (tail : Tail) (old new : Input) (had has : Option (List ℕ)) (told : Trouble)
    → SiteRuled fleet.homes old new site → IsWhyUnclaimed fleet.slots told → Keeps had has → IsWhyUnservedByFleet fits count asker gives fleet deliver tail told old new had has
unequipped_fleet fits count asker gives fleet site deliver tail old new had has told at why kept = inr (inl (record { site = site; site_read = at; why = why }, kept))

-- the same of an answer
module _ {X : Type 0} (fits : X → Floor → Bool) (count : X → ℕ) (asker used : Asker) (gives : Gives X) (fleet : Fleet) (site : Site) (planners spares : List X) (deliver : Bool) (tail : Tail) (old between new : Input)
    (had has : Option (List ℕ)) (answer : Result Played Trouble) (at : SiteRuled fleet.homes old between site) (e : IsEquipped gives fleet site.grid (length site.layout.agents) planners spares) (low : asker.caller < 64) (same : used ≡ asker) where
  pub answer_serves : MakesPlanners fits count gives → IsOfFleet fleet → IfOk answer (λ r. Plays fits count used site planners spares deliver tail between new had has r.replies r.report.items)
      → deliver ≡ false → IfOk answer (λ r. Serves asker fleet tail old new had has r.replies)
  answer_serves makes range plays off =
      IfOk-weaker answer (λ r. Plays fits count asker site planners spares deliver tail between new had has r.replies r.report.items) (λ r. Serves asker fleet tail old new had has r.replies)
      (λ r p. serves fits count asker gives fleet site planners spares deliver tail old between new had has r.replies r.report.items off low at makes range e p)
      (subst (λ (u : Asker). IfOk answer (λ r. Plays fits count u site planners spares deliver tail between new had has r.replies r.report.items)) same plays)

  pub answer_unserved : MakesPlanners fits count gives → IsOfFleet fleet → IfErr answer (λ told. IsWhyUnplayed fits count used site planners spares deliver tail told between new had has)
      → deliver ≡ false → IfErr answer (λ told. IsWhyUnserved asker fleet tail told old new had has)
  answer_unserved makes range plays off =
      IfErr-weaker answer (λ told. IsWhyUnplayed fits count asker site planners spares deliver tail told between new had has) (λ told. IsWhyUnserved asker fleet tail told old new had has)
      (λ told p. unserved fits count asker gives fleet site planners spares deliver tail old between new had has told off low at makes range e p)
      (subst (λ (u : Asker). IfErr answer (λ told. IsWhyUnplayed fits count u site planners spares deliver tail told between new had has)) same plays)

  -- and by which planners
  pub answer_fleet : IfOk answer (λ r. Plays fits count used site planners spares deliver tail between new had has r.replies r.report.items)
      → IfOk answer (λ r. ServesByFleet fits count asker gives fleet deliver tail old new had has r.replies r.report.items)
  answer_fleet plays =
      IfOk-weaker answer (λ r. Plays fits count asker site planners spares deliver tail between new had has r.replies r.report.items) (λ r. ServesByFleet fits count asker gives fleet deliver tail old new had has r.replies r.report.items)
      (λ r p. record { between = between; site = site; site_read = at; planners = planners; spares = spares; equipped = e; plays = p })
      (subst (λ (u : Asker). IfOk answer (λ r. Plays fits count u site planners spares deliver tail between new had has r.replies r.report.items)) same plays)

  pub answer_by_fleet : IfErr answer (λ told. IsWhyUnplayed fits count used site planners spares deliver tail told between new had has)
      → IfErr answer (λ told. IsWhyUnservedByFleet fits count asker gives fleet deliver tail told old new had has)
  answer_by_fleet plays =
      IfErr-weaker answer (λ told. IsWhyUnplayed fits count asker site planners spares deliver tail told between new had has) (λ told. IsWhyUnservedByFleet fits count asker gives fleet deliver tail told old new had has)
      (λ told p. inr (inr (record { between = between; site = site; site_read = at; planners = planners; spares = spares; equipped = e; why = p })))
      (subst (λ (u : Asker). IfErr answer (λ told. IsWhyUnplayed fits count u site planners spares deliver tail told between new had has)) same plays)
