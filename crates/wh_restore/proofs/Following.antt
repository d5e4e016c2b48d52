-- A text that is being restored, line by line.
use Rattle.std.proofs.Common.{◌≡◌, ℕ, ◌≤◌, ◌+◌, true, false, List, [], ◌∷◌, ◌++◌, length, refl, sym, ap, ◌∙◌, subst, arith}
use Rattle.std.proofs.lemmas.List.{append-nil, length-map}
use Rattle.wh_log.proofs.LineLaws.{one_line}
use Rattle.wh_points.specs.Points.{Site}
use Rattle.wh_front.specs.declared.rules.Rules.{Rules}
use Rattle.wh_front.specs.declared.front.Front.{Front}
use Rattle.wh_front.specs.declared.line.Line.{Line}
use Rattle.wh_front.specs.declared.line.Line.TheVariants as lines
use Rattle.wh_front.specs.declared.stage.Stage.{Stage}
use Rattle.wh_front.specs.declared.stage.Stage.TheVariants as stages
use Rattle.wh_front.specs.declared.place.Place.{Place}
use Rattle.wh_front.specs.declared.reader.NextFault.{NextFault}
use Rattle.wh_front.specs.declared.reader.NextFault.TheVariants as nexts
use Rattle.wh_front.specs.Spelling.{front_line}
use Rattle.wh_front.specs.Fronts.{front_text}
use Rattle.wh_front.specs.Drafts.{Draft, nothing, expects, is_done, put}
use Rattle.wh_front.specs.Places.{Reach, start, behind, IsMiscount}
use Rattle.wh_front.specs.FirstBad.{IsNext, IsNoNext}
use Rattle.wh_front.proofs.Lines.{lines_text-append}
use Rattle.wh_front.proofs.RowLaws.{row_is_line}
use Rattle.wh_front.proofs.DraftLaws.{draft, StandsAt, PartsFit}
use Rattle.wh_front.proofs.Running.{done_stage}
use Rattle.wh_front.proofs.Readings.{reading_done, reading_none, reading_begins, reading_ends}
use Rattle.wh_front.proofs.Standing.{IsFollowing, following_starts, following_goes, next_of, IsFault}
use Rattle.wh_front.proofs.Later.{Keeps, rank, whole, front_keeps}
use Rattle.wh_stand.specs.Parts.{Parts}
use Rattle.wh_restore.specs.declared.reason.Reason.{Reason}
use Rattle.wh_restore.specs.declared.reason.Reason.TheVariants as reasons
use Rattle.wh_restore.specs.declared.reason.RestoreFault.TheVariants as faults
use Rattle.wh_restore.specs.declared.reason.Refusal.{Refusal}
use Rattle.wh_restore.specs.declared.reason.Refusal.TheVariants as refusals
use Rattle.wh_restore.specs.declared.restored.Head.{Head}
use Rattle.wh_restore.specs.declared.restoring.Restoring.{Restoring}
use Rattle.wh_restore.specs.SoundFronts.{parts_told, IsSoundFront}
use Rattle.wh_restore.specs.Flaws.{Heard, unheard, hear, hear_all, IsLineFlaw, IsFitLine, AreFit, NoneHasPart}
use Rattle.wh_restore.specs.FirstFlawed.{lines_text, stage_behind, HasFlaw, IsFirstFlaw, IsFirstFlawed}
use Rattle.wh_restore.specs.Restoring.{heard_by, with_head, with_caller, HasRoom, Says, IsUntold, Holds, IsHeld, fault_at, unread}
use Rattle.wh_restore.proofs.Hearing.{heard_of, task_in, heard_on, head_on, callers_on, hear_last}
use Rattle.wh_restore.proofs.Flawed.{none_has_flaw}

-- the rules, once the state was told, and the number of agents, once it was told, are those of the run
pub record AreRight (site : Site) (rules : Rules) (d : Draft) : Type 0 where
  pub ruled : 4 ≤ rank d.stage → d.front.rules ≡ rules
  pub seated : 6 ≤ rank d.stage → d.agents ≡ length site.layout.agents

-- lines without a flaw were read, and what they tell is held
pub record IsRestoring (site : Site) (rules : Rules) (text : List ℕ) (reach : Reach) (r : Restoring) : Type 0 where
  pub draft : Draft
  pub following : IsFollowing text draft reach
  pub holds : Holds draft.front r
  pub rules_are : r.rules ≡ rules
  pub site_is : r.builder.site ≡ site
  pub fit : AreFit site rules unheard following.reading.taken
  pub heard : hear_all unheard following.reading.taken ≡ heard_of draft.front
  pub right : AreRight site rules draft

held_heard : (f : Front) (r : Restoring) → Holds f r → heard_by r ≡ heard_of f
held_heard f r h =
    ap (λ (head : Head). record { rules = head.rules; parts = r.builder.parts }) h.head ∙ ap (λ (parts : Parts). record { rules = f.rules; parts = parts }) h.parts

-- ---- the beginning
pub restoring_starts : (site : Site) (rules : Rules) (text : List ℕ) (r : Restoring) → IsUntold r → r.rules ≡ rules → r.builder.site ≡ site → IsRestoring site rules text (record { rest = text; number = 1; place = start }) r
restoring_starts site rules text r untold rules_are site_is =
    let on = following_starts text in
    record {
      draft = nothing;
      following = on.following;
      holds = record { head = untold.head; parts = untold.parts; callers = untold.callers };
      rules_are = rules_are;
      site_is = site_is;
      fit = subst (λ (ls : List Line). AreFit site rules unheard ls) (sym on.taken_is) tt;
      heard = ap (λ (ls : List Line). hear_all unheard ls) on.taken_is;
      right = record { ruled = λ h. absurd (omega (arith, h)); seated = λ h. absurd (omega (arith, h)) };
    }

-- ---- one more line
fit_last : (site : Site) (rules : Rules) (h : Heard) (taken : List Line) (line : Line) → AreFit site rules h taken → IsFitLine site rules (hear_all h taken) line → AreFit site rules h (taken ++ line ∷ [])
fit_last site rules h [] line fit one = (one, tt)
fit_last site rules h (first ∷ taken) line fit one = (fit.0, fit_last site rules (hear h first) taken line fit.1 one)

right_on : (site : Site) (rules : Rules) (f : Front) (n m : ℕ) (stage : Stage) (line : Line) → expects stage line ≡ true → IsFitLine site rules (heard_of f) line → AreRight site rules (draft f n m stage) → AreRight site rules (put (draft f n m stage) line)
right_on site rules f n m stages.Title lines.Title may fit r = record { ruled = λ h. absurd (omega (arith, h)); seated = λ h. absurd (omega (arith, h)) }
right_on site rules f n m stages.Before (lines.Before before) may fit r = record { ruled = λ h. absurd (omega (arith, h)); seated = λ h. absurd (omega (arith, h)) }
right_on site rules f n m stages.Rules (lines.Rules told) may fit r = record { ruled = λ h. absurd (omega (arith, h)); seated = λ h. absurd (omega (arith, h)) }
right_on site rules f n m stages.Rules (lines.State clock closed kind) may fit r = record { ruled = λ h. fit; seated = λ h. absurd (omega (arith, h)) }
right_on site rules f n m stages.State (lines.State clock closed kind) may fit r = record { ruled = λ h. fit; seated = λ h. absurd (omega (arith, h)) }
right_on site rules f n m stages.Entries (lines.Entries counts) may fit r = record { ruled = λ h. r.ruled (omega arith); seated = λ h. absurd (omega (arith, h)) }
right_on site rules f n m stages.Agents (lines.Agents count) may fit r = record { ruled = λ h. r.ruled (omega arith); seated = λ h. fit }
right_on site rules f n m stages.Seats (lines.Agent seat) may fit r = record { ruled = λ h. r.ruled (omega arith); seated = λ h. r.seated (omega arith) }
right_on site rules f n m stages.Tasks (lines.Tasks count) may fit r = record { ruled = λ h. r.ruled (omega arith); seated = λ h. r.seated (omega arith) }
right_on site rules f n m stages.Submissions (lines.Task task) may fit r = record { ruled = λ h. r.ruled (omega arith); seated = λ h. r.seated (omega arith) }
right_on site rules f n m stages.Begin lines.Begin may fit r = record { ruled = λ h. r.ruled (omega arith); seated = λ h. r.seated (omega arith) }
right_on site rules f n m stage line may fit r = absurd cc

-- the line was taken
pub record IsTaken (old : Restoring) (line : Line) (new : Restoring) : Type 0 where
  pub heard : heard_by new ≡ hear (heard_by old) line
  pub head : new.head ≡ with_head old.head line
  pub callers : new.callers ≡ with_caller old.callers line
  pub site : new.builder.site ≡ old.builder.site
  pub rules : new.rules ≡ old.rules
  pub fit : IsFitLine old.builder.site old.rules (heard_by old) line

holds_on : (d : Draft) (line : Line) (old new : Restoring) → StandsAt d.stage d → expects d.stage line ≡ true → Holds d.front old → IsTaken old line new → Holds (put d line).front new
holds_on d line old new s may h t =
    let heard : heard_by new ≡ heard_of (put d line).front = t.heard ∙ ap (λ (x : Heard). hear x line) (held_heard d.front old h) ∙ sym (heard_on d line s may) in
    record {
      head = t.head ∙ ap (λ (x : Head). with_head x line) h.head ∙ sym (head_on d line);
      parts = ap (λ (x : Heard). x.parts) heard;
      callers = t.callers ∙ ap (λ (xs : List ℕ). with_caller xs line) h.callers ∙ sym (callers_on d line);
    }

fit_of : (site : Site) (rules : Rules) (text : List ℕ) (reach : Reach) (r : Restoring) (line : Line) (i : IsRestoring site rules text reach r) → IsFitLine r.builder.site r.rules (heard_by r) line → IsFitLine site rules (heard_of i.draft.front) line
fit_of site rules text reach r line i fit =
    subst (λ (h : Heard). IsFitLine site rules h line) (held_heard i.draft.front r i.holds)
    (subst (λ (x : Rules). IsFitLine site x (heard_by r) line) i.rules_are (subst (λ (x : Site). IsFitLine x r.rules (heard_by r) line) i.site_is fit))

pub restoring_goes : (site : Site) (rules : Rules) (text : List ℕ) (reach : Reach) (old new : Restoring) (line : Line) (rest : List ℕ) → IsRestoring site rules text reach old → IsNext reach.place.stage reach.rest line rest
    → IsTaken old line new → IsRestoring site rules text (record { rest = rest; number = reach.number + 1; place = behind reach.place line }) new
restoring_goes site rules text reach old new line rest i next t =
    let d = i.draft in
    let here = next_of text d reach line rest i.following next in
    let on = following_goes text d reach line rest i.following next in
    let taken = i.following.reading.taken in
    let stands = i.following.reading.is_draft.stands in
    let fit = fit_of site rules text reach old line i t.fit in
    record {
      draft = put d line;
      following = on.following;
      holds = holds_on d line old new stands here.may i.holds t;
      rules_are = t.rules ∙ i.rules_are;
      site_is = t.site ∙ i.site_is;
      fit = subst (λ (ls : List Line). AreFit site rules unheard ls) (sym on.taken_is) (fit_last site rules unheard taken line i.fit (subst (λ (h : Heard). IsFitLine site rules h line) (sym i.heard) fit));
      heard = ap (λ (ls : List Line). hear_all unheard ls) on.taken_is ∙ hear_last unheard taken line ∙ ap (λ (h : Heard). hear h line) i.heard ∙ sym (heard_on d line stands here.may);
      right = right_on site rules d.front d.agents d.tasks d.stage line here.may fit i.right;
    }

room : (f : Front) (n m : ℕ) (stage : Stage) (line : Line) → expects stage line ≡ true → StandsAt stage (draft f n m stage) → PartsFit (draft f n m stage) → HasRoom (parts_told f) line
room f n m stages.Submissions (lines.Task task) may s fit = let same = length-map f.tasks task_in in omega (arith, s.1, fit.few, same)
room f n m stage lines.Title may s fit = tt
room f n m stage (lines.Before before) may s fit = tt
room f n m stage (lines.Rules rules) may s fit = tt
room f n m stage (lines.State clock closed kind) may s fit = tt
room f n m stage (lines.Entries counts) may s fit = tt
room f n m stage (lines.Agents count) may s fit = tt
room f n m stage (lines.Agent seat) may s fit = tt
room f n m stage (lines.Tasks count) may s fit = tt
room f n m stage lines.Begin may s fit = tt
room f n m stage (lines.Task task) may s fit = absurd cc

pub restoring_room : (site : Site) (rules : Rules) (text : List ℕ) (reach : Reach) (r : Restoring) (line : Line) (rest : List ℕ) → IsRestoring site rules text reach r → IsNext reach.place.stage reach.rest line rest → HasRoom r.builder.parts line
restoring_room site rules text reach r line rest i next =
    let d = i.draft in
    let here = next_of text d reach line rest i.following next in
    subst (λ (p : Parts). HasRoom p line) (sym i.holds.parts) (room d.front d.agents d.tasks d.stage line here.may i.following.reading.is_draft.stands i.following.reading.is_draft.fit)

-- ---- the end
pub restoring_done : (site : Site) (rules : Rules) (text : List ℕ) (reach : Reach) (r : Restoring) → IsRestoring site rules text reach r → is_done reach.place.stage ≡ true → IsHeld site rules text reach.rest r
restoring_done site rules text reach r i done =
    let d = i.draft in
    let ended : is_done d.stage ≡ true = ap (λ (s : Stage). is_done s) (sym i.following.stands.stage) ∙ done in
    let stage = done_stage d.stage ended in
    let high : rank d.stage ≡ 10 = ap rank stage in
    let read = reading_done text d reach.rest reach.number i.following.reading ended in
    let seated : length d.front.seats ≡ d.agents = (subst (λ (s : Stage). StandsAt s d) stage i.following.reading.is_draft.stands).0 in
    record { front = d.front; fits = read.0; parts = read.1; holds = i.holds; rules_are = i.right.ruled (omega (arith, high)); agents = seated ∙ i.right.seated (omega (arith, high)) }

-- ---- faults
stage_is : (site : Site) (rules : Rules) (text : List ℕ) (reach : Reach) (r : Restoring) (i : IsRestoring site rules text reach r) → reach.place.stage ≡ stage_behind i.following.reading.taken
stage_is site rules text reach r i = ap (λ (p : Place). p.stage) i.following.place

no_next : (site : Site) (rules : Rules) (text : List ℕ) (reach : Reach) (r : Restoring) (reason : Reason) (i : IsRestoring site rules text reach r) → is_done reach.place.stage ≡ false → IsNoNext reach.place.stage reach.rest
    → IsFirstFlaw site rules i.following.reading.taken reach.rest reason → IsFirstFlawed site rules text reach.number reason
no_next site rules text reach r reason i going lacks flaw =
    let d = i.draft in
    let reading = i.following.reading in
    let same = i.following.stands.stage in
    let on : is_done d.stage ≡ false = ap (λ (s : Stage). is_done s) (sym same) ∙ going in
    let none : IsNoNext d.stage reach.rest = subst (λ (s : Stage). IsNoNext s reach.rest) same lacks in
    record {
      none = λ f x sound is. reading_none text d reach.rest reach.number reading on none f x sound.fits is;
      before = reading.taken;
      rest = reach.rest;
      parts = reading.parts;
      place = reading.place;
      begins = reading_begins text d reach.rest reach.number reading;
      fit = i.fit;
      flaw = flaw;
      ends = λ line more is rest_is begins.
          reading_ends text d reach.rest reach.number reading on none line more is rest_is (record { front = begins.front; fits = begins.sound.fits; more = begins.more; whole = begins.whole });
    }

pub restoring_form : (site : Site) (rules : Rules) (text : List ℕ) (reach : Reach) (r : Restoring) → IsRestoring site rules text reach r → is_done reach.place.stage ≡ false
    → IsNoNext reach.place.stage reach.rest × ¬ IsMiscount reach.place.stage reach.rest → IsFirstFlawed site rules text reach.number reasons.Form
restoring_form site rules text reach r i going flaw =
    no_next site rules text reach r reasons.Form i going flaw.0 (subst (λ (s : Stage). IsNoNext s reach.rest × ¬ IsMiscount s reach.rest) (stage_is site rules text reach r i) flaw)

pub restoring_count : (site : Site) (rules : Rules) (text : List ℕ) (reach : Reach) (r : Restoring) → IsRestoring site rules text reach r → is_done reach.place.stage ≡ false
    → IsNoNext reach.place.stage reach.rest × IsMiscount reach.place.stage reach.rest → IsFirstFlawed site rules text reach.number reasons.Count
restoring_count site rules text reach r i going flaw =
    no_next site rules text reach r reasons.Count i going flaw.0 (subst (λ (s : Stage). IsNoNext s reach.rest × IsMiscount s reach.rest) (stage_is site rules text reach r i) flaw)

no_form : (site : Site) (rules : Rules) (h : Heard) (line : Line) → ¬ IsLineFlaw site rules h line reasons.Form
no_form site rules h lines.Title flaw = flaw
no_form site rules h (lines.Before before) flaw = flaw
no_form site rules h (lines.Rules told) flaw = flaw
no_form site rules h (lines.State clock closed kind) flaw = flaw
no_form site rules h (lines.Entries counts) flaw = flaw
no_form site rules h (lines.Agents count) flaw = flaw
no_form site rules h (lines.Agent seat) flaw = flaw
no_form site rules h (lines.Tasks count) flaw = flaw
no_form site rules h (lines.Task task) flaw = flaw
no_form site rules h lines.Begin flaw = flaw

no_count : (site : Site) (rules : Rules) (h : Heard) (line : Line) → ¬ IsLineFlaw site rules h line reasons.Count
no_count site rules h lines.Title flaw = flaw
no_count site rules h (lines.Before before) flaw = flaw
no_count site rules h (lines.Rules told) flaw = flaw
no_count site rules h (lines.State clock closed kind) flaw = flaw
no_count site rules h (lines.Entries counts) flaw = flaw
no_count site rules h (lines.Agents count) flaw = flaw
no_count site rules h (lines.Agent seat) flaw = flaw
no_count site rules h (lines.Tasks count) flaw = flaw
no_count site rules h (lines.Task task) flaw = flaw
no_count site rules h lines.Begin flaw = flaw

first : (site : Site) (rules : Rules) (before : List Line) (text : List ℕ) (reason : Reason) → HasFlaw site rules before text reason → IsFirstFlaw site rules before text reason
first site rules before text reasons.Form h = absurd (no_form site rules (hear_all unheard before) h.line h.flaw)
first site rules before text reasons.Count h = absurd (no_count site rules (hear_all unheard before) h.line h.flaw)
first site rules before text (reasons.Flaw flaw) h = h
first site rules before text reasons.Rules h = h

flaw_of : (site : Site) (rules : Rules) (text : List ℕ) (reach : Reach) (r : Restoring) (line : Line) (reason : Reason) (i : IsRestoring site rules text reach r) → IsLineFlaw r.builder.site r.rules (heard_by r) line reason
    → IsLineFlaw site rules (heard_of i.draft.front) line reason
flaw_of site rules text reach r line reason i flaw =
    subst (λ (h : Heard). IsLineFlaw site rules h line reason) (held_heard i.draft.front r i.holds)
    (subst (λ (x : Rules). IsLineFlaw site x (heard_by r) line reason) i.rules_are (subst (λ (x : Site). IsLineFlaw x r.rules (heard_by r) line reason) i.site_is flaw))

part_of : (site : Site) (rules : Rules) (text : List ℕ) (reach : Reach) (r : Restoring) (line : Line) (i : IsRestoring site rules text reach r) → NoneHasPart r.builder.site (heard_by r) line → NoneHasPart site (heard_of i.draft.front) line
part_of site rules text reach r line i none =
    subst (λ (h : Heard). NoneHasPart site h line) (held_heard i.draft.front r i.holds) (subst (λ (x : Site). NoneHasPart x (heard_by r) line) i.site_is none)

pub restoring_flawed : (site : Site) (rules : Rules) (text : List ℕ) (reach : Reach) (r : Restoring) (line : Line) (rest : List ℕ) (reason : Reason) → IsRestoring site rules text reach r → IsNext reach.place.stage reach.rest line rest
    → IsLineFlaw r.builder.site r.rules (heard_by r) line reason → NoneHasPart r.builder.site (heard_by r) line → IsFirstFlawed site rules text reach.number reason
restoring_flawed site rules text reach r line rest reason i next flaw none =
    let d = i.draft in
    let reading = i.following.reading in
    let here = next_of text d reach line rest i.following next in
    let on = following_goes text d reach line rest i.following next in
    let wrong = flaw_of site rules text reach r line reason i flaw in
    let part = part_of site rules text reach r line i none in
    record {
      none = λ f x sound is. none_has_flaw site rules d line reason f here.may wrong part sound (kept f rest x sound (sym on.following.reading.parts ∙ is));
      before = reading.taken;
      rest = reach.rest;
      parts = reading.parts;
      place = reading.place;
      begins = reading_begins text d reach.rest reach.number reading;
      fit = i.fit;
      flaw = first site rules reading.taken reach.rest reason (record { line = line; rest = rest; next = subst (λ (s : Stage). IsNext s reach.rest line rest) (stage_is site rules text reach r i) next; flaw = subst (λ (h : Heard). IsLineFlaw site rules h line reason) (sym i.heard) wrong });
      ends = λ other more is rest_is begins.
          let cut = one_line other (front_line line) more rest is (row_is_line line next.fits) (sym rest_is ∙ next.text_is) in
          let last : lines_text on.following.reading.taken ≡ lines_text reading.taken ++ (other ++ 10 ∷ []) =
          ap (λ (ls : List Line). lines_text ls) on.taken_is ∙ lines_text-append reading.taken (line ∷ []) ∙ ap (λ (t : List ℕ). lines_text reading.taken ++ t) (append-nil (front_line line ++ 10 ∷ []))
          ∙ ap (λ (t : List ℕ). lines_text reading.taken ++ (t ++ 10 ∷ [])) (sym cut.0) in
          none_has_flaw site rules d line reason begins.front here.may wrong part begins.sound
          (kept begins.front begins.more [] begins.sound (ap (λ (t : List ℕ). t ++ begins.more) last ∙ sym begins.whole ∙ sym (append-nil (front_text begins.front))));
    }
  where
    kept : (f : Front) (x y : List ℕ) → IsSoundFront site rules f → lines_text (following_goes text i.draft reach line rest i.following next).following.reading.taken ++ x ≡ front_text f ++ y → Keeps (put i.draft line) (whole f)
    kept f x y sound is =
        let read = (following_goes text i.draft reach line rest i.following next).following.reading in
        front_keeps read.taken (put i.draft line) read.run_is read.fit f x y sound.fits is

-- ---- what comes of a line
pub restoring_next : (site : Site) (rules : Rules) (text : List ℕ) (old reach : Reach) (r new : Restoring) (line : Line) → IsRestoring site rules text old r → IsNext old.place.stage old.rest line reach.rest
    → reach ≡ record { rest = reach.rest; number = old.number + 1; place = behind old.place line } → IsTaken r line new → IsRestoring site rules text reach new
restoring_next site rules text old reach r new line i next goes taken =
    subst (λ (x : Reach). IsRestoring site rules text x new) (sym goes) (restoring_goes site rules text old r new line reach.rest i next taken)

-- nothing that may come next was read
pub restoring_unread : (site : Site) (rules : Rules) (text : List ℕ) (reach : Reach) (r : Restoring) (fault : NextFault) (n : ℕ) (reason : Reason) → IsRestoring site rules text reach r → is_done reach.place.stage ≡ false
    → IsFault fault reach → unread reach.number fault ≡ faults.Line n reason → IsFirstFlawed site rules text n reason
restoring_unread site rules text reach r fault n reason i going h e = go fault h e
  where
    told : (why : Reason) → IsFirstFlawed site rules text reach.number why → faults.Line reach.number why ≡ faults.Line n reason → IsFirstFlawed site rules text n reason
    told why flawed e =
        let number : reach.number ≡ n = cc in
        let same : why ≡ reason = cc in
        subst (λ (x : Reason). IsFirstFlawed site rules text n x) same (subst (λ (k : ℕ). IsFirstFlawed site rules text k why) number flawed)

    go : (fault : NextFault) → IsFault fault reach → unread reach.number fault ≡ faults.Line n reason → IsFirstFlawed site rules text n reason
    go nexts.Form h e = told reasons.Form (restoring_form site rules text reach r i going (h.0 refl)) e
    go nexts.Count h e = told reasons.Count (restoring_count site rules text reach r i going (h.1 refl)) e
    go nexts.NoMemory h e = absurd cc

-- the line was refused
pub restoring_refused : (site : Site) (rules : Rules) (text : List ℕ) (reach : Reach) (r : Restoring) (line : Line) (rest : List ℕ) (refusal : Refusal) (n : ℕ) (reason : Reason) → IsRestoring site rules text reach r
    → IsNext reach.place.stage reach.rest line rest → Says (IsLineFlaw r.builder.site r.rules (heard_by r) line) refusal → Says (λ _. NoneHasPart r.builder.site (heard_by r) line) refusal
    → fault_at reach.number refusal ≡ faults.Line n reason → IsFirstFlawed site rules text n reason
restoring_refused site rules text reach r line rest refusals.NoMemory n reason i next flaw none e = absurd cc
restoring_refused site rules text reach r line rest (refusals.Reason why) n reason i next flaw none e =
    let number : reach.number ≡ n = cc in
    let same : why ≡ reason = cc in
    subst (λ (x : Reason). IsFirstFlawed site rules text n x) same
    (subst (λ (k : ℕ). IsFirstFlawed site rules text k why) number (restoring_flawed site rules text reach r line rest why i next flaw none))
