-- Runs of `serve` over a file as their screen.
use Rattle.std.proofs.Common.{◌≡◌, ℕ, Bool, List, [], Option, Result, inr, refl, subst, sym}
use Rattle.std.specs.declared.alloc.AllocError.{AllocError}
use Rattle.wh_grid.specs.Grids.{Floor}
use Rattle.wh_lines.specs.Input.{Input}
use Rattle.wh_edge.specs.declared.trouble.Status.{Status}
use Rattle.wh_edge.specs.declared.trouble.Trouble.{Trouble}
use Rattle.wh_options.specs.declared.chosen.ServeOptions.{ServeOptions}
use Rattle.wh_program.specs.Attending.{Attended, AttendsOver}
use Rattle.wh_options.specs.declared.chosen.Options.{Options}
use Rattle.wh_options.specs.declared.chosen.Options.TheVariants.{Serve}
use Rattle.wh_program.specs.Programs.{Did, Files, silent}
use Rattle.wh_service.specs.Kept.{Siding}
use Rattle.wh_service.specs.declared.parts.PlannerParts.{PlannerParts}

-- a screen tells what one over the file of the options' name does
pub attended_over : {R W X : Type 0} (fits : X → Floor → Bool) (count : X → ℕ) (gives : PlannerParts → Result X AllocError → Type 0) (remaining : R → Option (List ℕ)) (contents : W → Option (List ℕ)) (o : ServeOptions) (file : Option (List ℕ)) (beside : Siding)
    (showed shows : Option (Option (List (List ℕ)))) (came : Result Status Trouble) (old new : Input) (had : Option (List ℕ)) → showed ≡ silent o.board
    → AttendsOver fits count gives remaining contents o file beside showed shows came old new → Attended fits count gives remaining contents o came old new had had
attended_over fits count gives remaining contents o file beside showed shows came old new had named over =
    (refl, inr (file, beside, shows, subst (λ (s : Option (Option (List (List ℕ)))). AttendsOver fits count gives remaining contents o file beside s shows came old new) named over))

-- what the options ask for was done, where they ask for `serve`, and nothing is to be told of open orders
pub served_guests : {X : Type 0} (fits : X → Floor → Bool) (count : X → ℕ) (gives : PlannerParts → Result X AllocError → Type 0) (guests : ServeOptions → Result Status Trouble → Input → Input → Option (List ℕ) → Option (List ℕ) → Type 0)
    (asked : Options) (o : ServeOptions) (files : Option Files) (came : Result Status Trouble) (report : List ℕ) (old new : Input) (had : Option (List ℕ)) → asked ≡ Serve o → guests o came old new had had → report ≡ []
    → Did fits count gives guests asked files came report old new had had
served_guests fits count gives guests asked o files came report old new had is came_to none =
    subst (λ (a : Options). Did fits count gives guests a files came report old new had had) (sym is) (came_to, none)
