-- What the second life finds of the first.
use Rattle.std.proofs.Common.{◌≡◌, ◌<◌, ◌^◌, ◌⊎◌, inl, inr, ℕ, Bool, true, List, refl, sym, ◌∙◌, subst, true≢false, Option, None, Some, Result, Ok, Err}
use Rattle.std.specs.Prelude.{All, IfSome, is_some}
use Rattle.std.specs.List.{AllByRecursion}
use Rattle.wh_lines.specs.Input.{Input}
use Rattle.wh_lines.specs.Output.{WritesFront}
use Rattle.wh_grid.specs.Grids.{Floor}
use Rattle.wh_path.specs.Paths.{last_index}
use Rattle.wh_points.specs.Points.{Site}
use Rattle.wh_core.specs.States.{State}
use Rattle.wh_log.specs.Logs.{IsSlots}
use Rattle.wh_judge.specs.Written.{IsAskedInRange}
use Rattle.wh_replay.specs.declared.asker.Asker.{Asker}
use Rattle.wh_continue.specs.Closing.{Survives, SurvivesBehind}
use Rattle.wh_continue.specs.Starting.{BreaksAt, CountsTooMany, NamesOther, StartsByFile, StartsIn}
use Rattle.wh_resume.specs.Behind.{IsFlawed}
use Rattle.wh_continue.specs.declared.starting.Start.{Start}
use Rattle.wh_continue.specs.declared.starting.StartFault.TheVariants.{Bad, Flawed, Unread, NoMemory}
use Rattle.wh_lives.specs.Lives.{Continues, Deeds, Finds, Life, Lived}
use Rattle.wh_lives.specs.Twice.{CanBeTold, LeavesOf, LivesTwice, has_lived}
use Rattle.wh_lives.specs.declared.life.LifeFault.{LifeFault}
use Rattle.wh_lives.specs.declared.life.LifeFault.TheVariants.{Unstarted, Unbegun, Stopped}
use Rattle.wh_lives.proofs.Finding.{IsFoundIn, told_is_found}
use Rattle.wh_lives.proofs.Runs.{IsRunOn, asked_on, start_asked, start_short, start_site, start_slots}

-- ---- what a kill leaves

record HasBytes (left : Option (List ℕ)) : Type 0 where
  bytes : List ℕ
  left_is : left ≡ Some bytes

has_text : (kept bytes : List ℕ) (holds : Option (List ℕ)) → WritesFront (Some kept) holds bytes → HasBytes holds
has_text kept bytes None w = absurd w.appends
has_text kept bytes (Some text) w = record { bytes = text; left_is = refl }

safe_text : (kept bytes last : List ℕ) (P : Type 0) (holds : Option (List ℕ)) → WritesFront (Some kept) holds bytes ⊎ (P × WritesFront (Some kept) holds last) → HasBytes holds
safe_text kept bytes last P holds (inl front) = has_text kept bytes holds front
safe_text kept bytes last P holds (inr ended) = has_text kept last holds ended.1

left_bytes : (safe text : List ℕ) (synced holds left : Option (List ℕ)) → synced ≡ Some safe → holds ≡ Some text → LeavesOf synced holds left → HasBytes left
left_bytes safe text synced holds left s h l =
    let at : LeavesOf (Some safe) (Some text) left = subst (λ (o : Option (List ℕ)). LeavesOf (Some safe) o left) h (subst (λ (o : Option (List ℕ)). LeavesOf o holds left) s l) in
    record { bytes = at.0; left_is = at.1 }

if_told : (file : Option (List ℕ)) (P : Type 0) → is_some file ≡ true → IfSome file (λ _. P) → P
if_told None P is p = absurd (true≢false (sym is))
if_told (Some text) P is p = p

-- ---- what is found in it

module _ (law : Survives) (behind : SurvivesBehind) {X : Type 0} (fits : X → Floor → Bool) (count : X → ℕ) (asker : Asker) (low : asker.caller < 64) (site : Site) (slots : List ℕ) (range : All IsSlots slots) (spares : List X)
    (before after : Input) (had has file synced holds : Option (List ℕ)) (early : Deeds) where
  life_of : (first : Result Unit LifeFault) → has_lived first ≡ true → Lived fits count asker site slots spares first before after had has file synced holds early
      → Life fits count asker site slots spares before after had has file synced holds early
  life_of (Ok u) was l = l
  life_of (Err (Unstarted fault)) was l = absurd (true≢false (sym was))
  life_of (Err (Unbegun fault)) was l = absurd (true≢false (sym was))
  life_of (Err (Stopped fault)) was l = l

  module _ (life : Life fits count asker site slots spares before after had has file synced holds early) (can : CanBeTold count site spares early.start early.final) (told : is_some file ≡ true) where
    start_runs : early.start.book.site ≡ site
    start_runs = start_site site slots life.starts.text early.start.version early.start.book early.start.preface early.start.bytes life.starts.starts.at

    final_runs : IsRunOn site early.final
    final_runs = record {
      site_is = life.serves_more.output.site ∙ life.serves.output.site ∙ start_runs;
      is_beginning = life.is_beginning;
      run = life.run;
    }

    same_opening : early.final.opening ≡ early.known.opening
    same_opening = life.serves_more.output.opening

    all_slots : AllByRecursion IsSlots early.known.opening.slots
    all_slots =
        subst (λ (s : State). AllByRecursion IsSlots s.slots) (sym life.serves.output.opening)
        (start_slots site slots life.starts.text early.start.version early.start.book early.start.preface early.start.bytes life.starts.starts.at range)

    all_asked : AllByRecursion IsAskedInRange early.final.history
    all_asked =
        let old = start_asked site slots life.starts.text early.start.version early.start.book early.start.preface early.start.bytes life.starts.starts.at in
        let mid = asked_on fits count asker early.start.book early.known spares life.held life.answered life.replies life.added life.serves low can.slots old in
        (asked_on fits count asker early.known early.final life.held life.rest life.unanswered life.untold life.later life.serves_more low mid.1 mid.0).0

    all_short : All (λ path. last_index path < 2 ^ 63) early.known.opening.paths
    all_short =
        subst (λ (s : State). All (λ path. last_index path < 2 ^ 63) s.paths) (sym life.serves.output.opening)
        (start_short site slots life.starts.text early.start.version early.start.book early.start.preface early.start.bytes life.starts.starts.at can.paths)

    is_found : (next : List ℕ) (bytes : List ℕ) (site_known : early.known.site ≡ site) → LeavesOf synced holds (Some bytes) → IsFoundIn site next early bytes
    is_found next bytes site_known leaves =
        told_is_found law behind site next early life.later synced holds bytes life.serves_more.added_are site_known same_opening final_runs
        can.range all_slots all_asked can.few (λ text head. all_short) (if_told file _ told life.is_safe) leaves

    -- the second life over what was left
    module _ (next : List ℕ) (next_spares : List X) (left : Option (List ℕ)) (late : Deeds) (leaves : LeavesOf synced holds left) where
      bytes_left : HasBytes left
      bytes_left =
          let safe = if_told file _ told life.is_safe in
          let text = safe_text safe.kept _ _ _ holds safe.behind in
          left_bytes safe.safe text.bytes synced holds left safe.synced_is text.left_is leaves

      found : IsFoundIn site next early bytes_left.bytes
      found = is_found next bytes_left.bytes (life.serves.output.site ∙ start_runs) (subst (λ (o : Option (List ℕ)). LeavesOf synced holds o) bytes_left.left_is leaves)

      read_so : (text : List ℕ) → IfSome left (λ held. text ≡ held) → text ≡ bytes_left.bytes
      read_so text is = subst (λ (o : Option (List ℕ)). IfSome o (λ held. text ≡ held)) bytes_left.left_is is

      continued : (start : Start) → StartsByFile site next left start → Continues early start.book
      continued start s = found.found start (subst (λ (t : List ℕ). StartsIn site next t start) (read_so s.text s.text_is) s.starts)

      pub finds : (second : Result Unit LifeFault) (next_before next_after : Input) (next_had next_has safe stands : Option (List ℕ))
          → Lived fits count asker site next next_spares second next_before next_after next_had next_has left safe stands late → Finds site left early second late
      finds (Ok u) i j h k s t l = continued late.start l.starts
      finds (Err (Unbegun fault)) i j h k s t l = continued late.start l.0
      finds (Err (Stopped fault)) i j h k s t l = continued late.start l.starts
      finds (Err (Unstarted (Flawed line reason))) i j h k s t l = found.unflawed line reason (subst (λ (x : List ℕ). IsFlawed site x line reason) (read_so l.0.0 l.0.1) l.0.2)
      finds (Err (Unstarted Unread)) i j h k s t l = tt
      finds (Err (Unstarted NoMemory)) i j h k s t l = tt
      finds (Err (Unstarted (Bad line))) i j h k s t l = elim l.0.2 [
        | inl breaks ↦ absurd (found.unbroken line (subst (λ (x : List ℕ). BreaksAt site next x line) (read_so l.0.0 l.0.1) breaks))
        | inr (inr many) ↦ absurd (found.uncounted line (subst (λ (x : List ℕ). CountsTooMany site x line) (read_so l.0.0 l.0.1) many))
        | inr (inl names) ↦ subst (λ (o : Option (List ℕ)). IfSome o (λ text. NamesOther site text line)) (sym bytes_left.left_is) (subst (λ (x : List ℕ). NamesOther site x line) (read_so l.0.0 l.0.1) names)
      ]

-- both lives, over files that tell what they tell
pub lives_twice : Survives → SurvivesBehind → {X : Type 0} (fits : X → Floor → Bool) (count : X → ℕ) (asker : Asker) → asker.caller < 64 → (site other : Site) → other ≡ site → (slots : List ℕ) → All IsSlots slots → (spares : List X) (next : List ℕ) (next_spares : List X)
    (file here synced holds left safe stands : Option (List ℕ)) → here ≡ file → (before after : Input) (had has : Option (List ℕ)) (i j : Input) (h k : Option (List ℕ)) (first second : Result Unit LifeFault)
    → ((d : Deeds) × Lived fits count asker site slots spares first before after had has here synced holds d) → LeavesOf synced holds left
    → ((d : Deeds) × Lived fits count asker other next next_spares second i j h k left safe stands d)
    → LivesTwice fits count asker site slots spares next next_spares file before after had has i j h k first second
lives_twice law behind fits count asker low site other same slots range spares next next_spares file here synced holds left safe stands told_same before after had has i j h k first second early leaves late =
    let lived = subst (λ (f : Option (List ℕ)). Lived fits count asker site slots spares first before after had has f synced holds early.0) told_same early.1 in
    let on = subst (λ (s : Site). Lived fits count asker s next next_spares second i j h k left safe stands late.0) same late.1 in
    record {
      early = early.0;
      synced = synced;
      holds = holds;
      lived = lived;
      left = left;
      is_left = leaves;
      late = late.0;
      safe = safe;
      stands = stands;
      lived_on = on;
      finds = λ told was can.
          finds law behind fits count asker low site slots range spares before after had has file synced holds early.0
          (life_of law behind fits count asker low site slots range spares before after had has file synced holds early.0 first was lived) can told next next_spares left late.0 leaves second i j h k safe stands on;
    }
