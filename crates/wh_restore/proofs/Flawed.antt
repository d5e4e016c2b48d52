-- No front of a sound state goes on with a line that has a flaw.
use Rattle.std.proofs.Common.{◌≡◌, ℕ, ◌≤◌, true, List, [], ◌∷◌, ◌++◌, map, length, sym, ap, ◌∙◌, arith}
use Rattle.std.proofs.lemmas.List.{map-append, length-map}
use Rattle.wh_grid.specs.declared.cell.Cell.{Cell}
use Rattle.wh_points.specs.Points.{Site}
use Rattle.wh_tasks.specs.declared.task.Task.{Task}
use Rattle.wh_front.specs.declared.rules.Rules.{Rules}
use Rattle.wh_front.specs.declared.front.Front.{Front}
use Rattle.wh_front.specs.declared.front.Seat.{Seat}
use Rattle.wh_front.specs.declared.front.Submission.{Submission}
use Rattle.wh_front.specs.declared.line.Line.{Line}
use Rattle.wh_front.specs.declared.line.Line.TheVariants as lines
use Rattle.wh_front.specs.declared.stage.Stage.{Stage}
use Rattle.wh_front.specs.declared.stage.Stage.TheVariants as stages
use Rattle.wh_front.specs.Drafts.{Draft, expects, put}
use Rattle.wh_front.proofs.DraftLaws.{draft}
use Rattle.wh_front.proofs.Later.{Keeps, rank, task_rank, whole}
use Rattle.wh_stand.specs.declared.flaw.Flaw.TheVariants as flaws
use Rattle.wh_restore.specs.declared.reason.Reason.{Reason}
use Rattle.wh_restore.specs.declared.reason.Reason.TheVariants as reasons
use Rattle.wh_restore.specs.SoundFronts.{state_told, IsSoundFront}
use Rattle.wh_restore.specs.Flaws.{IsLineFlaw, NoneHasPart}
use Rattle.wh_restore.proofs.Hearing.{heard_of, path_in, task_in}

pub all_seated : (site : Site) (rules : Rules) (f : Front) → IsSoundFront site rules f → length f.seats ≡ length site.layout.agents
all_seated site rules f sound = sym (length-map f.seats path_in) ∙ sound.beginning.sound.seats.paths

no_rules : (site : Site) (rules : Rules) (f g : Front) (n m : ℕ) (other : Rules) (reason : Reason) → IsLineFlaw site rules (heard_of f) (lines.Rules other) reason → IsSoundFront site rules g
    → Keeps (put (draft f n m stages.Rules) (lines.Rules other)) (whole g) → ⊥
no_rules site rules f g n m other reasons.Rules flaw sound keeps = flaw (sym (keeps.rules (omega arith)) ∙ sound.rules_are)
no_rules site rules f g n m other reason flaw sound keeps = flaw

no_state : (site : Site) (rules : Rules) (f g : Front) (n m clock : ℕ) (closed : _) (kind : _) (stage : Stage) (reason : Reason) → IsLineFlaw site rules (heard_of f) (lines.State clock closed kind) reason → IsSoundFront site rules g
    → Keeps (put (draft f n m stage) (lines.State clock closed kind)) (whole g) → ⊥
no_state site rules f g n m clock closed kind stage reasons.Rules flaw sound keeps = flaw (sym (keeps.rules (omega arith)) ∙ sound.rules_are)
no_state site rules f g n m clock closed kind stage reason flaw sound keeps = flaw

no_agents : (site : Site) (rules : Rules) (f g : Front) (n m count : ℕ) (reason : Reason) → IsLineFlaw site rules (heard_of f) (lines.Agents count) reason → IsSoundFront site rules g
    → Keeps (put (draft f n m stages.Agents) (lines.Agents count)) (whole g) → ⊥
no_agents site rules f g n m count (reasons.Flaw flaws.Agents) flaw sound keeps = flaw (sym (keeps.agents (omega arith)) ∙ all_seated site rules g sound)
no_agents site rules f g n m count (reasons.Flaw other) flaw sound keeps = flaw
no_agents site rules f g n m count reason flaw sound keeps = flaw

no_seat : (site : Site) (rules : Rules) (f g : Front) (n m : ℕ) (seat : Seat) → NoneHasPart site (heard_of f) (lines.Agent seat) → IsSoundFront site rules g
    → Keeps (put (draft f n m stages.Seats) (lines.Agent seat)) (whole g) → ⊥
no_seat site rules f g n m seat none sound keeps =
    let more = keeps.seats.0 in
    let paths : map path_in g.seats ≡ (map path_in f.seats ++ seat.path ∷ []) ++ map path_in more =
    ap (λ (ss : List Seat). map path_in ss) keeps.seats.1 ∙ map-append path_in (f.seats ++ seat ∷ []) more ∙ ap (λ (ps : List (List Cell)). ps ++ map path_in more) (map-append path_in f.seats (seat ∷ [])) in
    none (state_told g) (map path_in more) paths sound.beginning.sound

no_task : (site : Site) (rules : Rules) (f g : Front) (n m : ℕ) (task : Submission) → NoneHasPart site (heard_of f) (lines.Task task) → IsSoundFront site rules g
    → 8 ≤ rank (put (draft f n m stages.Submissions) (lines.Task task)).stage → Keeps (put (draft f n m stages.Submissions) (lines.Task task)) (whole g) → ⊥
no_task site rules f g n m task none sound high keeps =
    let more = keeps.tasks.0 in
    let tasks : map task_in g.tasks ≡ (map task_in f.tasks ++ task.task ∷ []) ++ map task_in more =
    ap (λ (ts : List Submission). map task_in ts) keeps.tasks.1 ∙ map-append task_in (f.tasks ++ task ∷ []) more ∙ ap (λ (ts : List Task). ts ++ map task_in more) (map-append task_in f.tasks (task ∷ [])) in
    none (state_told g) (map task_in more) (keeps.clock (omega (arith, high))) (ap (λ (ss : List Seat). map path_in ss) (keeps.seated (omega (arith, high)))) tasks sound.beginning.sound

flawed : (site : Site) (rules : Rules) (f g : Front) (n m : ℕ) (stage : Stage) (line : Line) (reason : Reason) → expects stage line ≡ true → IsLineFlaw site rules (heard_of f) line reason → NoneHasPart site (heard_of f) line
    → IsSoundFront site rules g → Keeps (put (draft f n m stage) line) (whole g) → ⊥
flawed site rules f g n m stages.Title lines.Title reason may flaw none sound keeps = flaw
flawed site rules f g n m stages.Before (lines.Before before) reason may flaw none sound keeps = flaw
flawed site rules f g n m stages.Rules (lines.Rules other) reason may flaw none sound keeps = no_rules site rules f g n m other reason flaw sound keeps
flawed site rules f g n m stages.Rules (lines.State clock closed kind) reason may flaw none sound keeps = no_state site rules f g n m clock closed kind stages.Rules reason flaw sound keeps
flawed site rules f g n m stages.State (lines.State clock closed kind) reason may flaw none sound keeps = no_state site rules f g n m clock closed kind stages.State reason flaw sound keeps
flawed site rules f g n m stages.Entries (lines.Entries counts) reason may flaw none sound keeps = flaw
flawed site rules f g n m stages.Agents (lines.Agents count) reason may flaw none sound keeps = no_agents site rules f g n m count reason flaw sound keeps
flawed site rules f g n m stages.Seats (lines.Agent seat) reason may flaw none sound keeps = no_seat site rules f g n m seat none sound keeps
flawed site rules f g n m stages.Tasks (lines.Tasks count) reason may flaw none sound keeps = flaw
flawed site rules f g n m stages.Submissions (lines.Task task) reason may flaw none sound keeps = no_task site rules f g n m task none sound (task_rank _) keeps
flawed site rules f g n m stages.Begin lines.Begin reason may flaw none sound keeps = flaw
flawed site rules f g n m stage line reason may flaw none sound keeps = absurd cc

pub none_has_flaw : (site : Site) (rules : Rules) (d : Draft) (line : Line) (reason : Reason) (g : Front) → expects d.stage line ≡ true → IsLineFlaw site rules (heard_of d.front) line reason → NoneHasPart site (heard_of d.front) line
    → IsSoundFront site rules g → Keeps (put d line) (whole g) → ⊥
none_has_flaw site rules d line reason g may flaw none sound keeps = flawed site rules d.front g d.agents d.tasks d.stage line reason may flaw none sound keeps
