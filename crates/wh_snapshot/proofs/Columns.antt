-- the tasks of a front, one more
use Rattle.std.proofs.Common.{◌≡◌, ℕ, ◌+◌, ◌<◌, ◌∙◌, List, [], ◌∷◌, ◌++◌, length, take, map, get_or, sym, ap, subst}
use Rattle.std.specs.Prelude.{Result, IfOk}
use Rattle.std.specs.Result.{IsErrAnd}
use Rattle.std.specs.List.{AllByRecursion}
use Rattle.std.proofs.lemmas.List.{take_more, map-append}
use Rattle.std.proofs.lemmas.Grind.{get_or_default_zero}
use Rattle.std.proofs.lemmas.Option.{same_Some, slice_get-get_or}
use Rattle.std.proofs.lemmas.Result.{err_from_is_err_and}
use Rattle.wh_tasks.specs.declared.task.Task.{Task}
use Rattle.wh_tasks.specs.Tasks.{IsTask}
use Rattle.wh_log.proofs.Fronts.{all_append}
use Rattle.wh_front.specs.declared.front.Submission.{Submission}
use Rattle.wh_snapshot.specs.Kept.{IsTyped}

column_more : {X Y : Type 0} (f : X → Y) (before after : List X) (x : X) (ys : List Y) (k : ℕ) → k < length ys → f x ≡ get_or ys k (f x) →
    map f before ≡ take k ys → after ≡ before ++ x ∷ [] → map f after ≡ take (k + 1) ys
column_more f before after x ys k below is so_far more =
    ap (λ rows. map f rows) more ∙ map-append f before (x ∷ []) ∙ ap (λ column. column ++ f x ∷ []) so_far ∙ ap (λ y. take k ys ++ y ∷ []) is ∙ sym (take_more ys k (f x) below)

pub caller_more : (before after : List Submission) (s : Submission) (callers : List ℕ) (n : ℕ) → n < length callers → s.caller ≡ get_or callers n 0 →
    map (λ (t : Submission). t.caller) before ≡ take n callers → after ≡ before ++ s ∷ [] → map (λ (t : Submission). t.caller) after ≡ take (n + 1) callers
caller_more before after s callers n below is so_far more =
    column_more (λ (t : Submission). t.caller) before after s callers n below (is ∙ sym (get_or_default_zero callers n s.caller below)) so_far more

pub task_more : (before after : List Submission) (s : Submission) (tasks : List Task) (n : ℕ) → n < length tasks → IsTask tasks n s.task →
    map (λ (t : Submission). t.task) before ≡ take n tasks → after ≡ before ++ s ∷ [] → map (λ (t : Submission). t.task) after ≡ take (n + 1) tasks
task_more before after s tasks n below is so_far more =
    column_more (λ (t : Submission). t.task) before after s tasks n below (same_Some s.task (get_or tasks n s.task) (sym is ∙ slice_get-get_or tasks n s.task below)) so_far more

pub typed_more : (before after : List Submission) (s : Submission) → AllByRecursion (λ (t : Submission). IsTyped t.task) before → IsTyped s.task → after ≡ before ++ s ∷ [] →
    AllByRecursion (λ (t : Submission). IsTyped t.task) after
typed_more before after s all typed more =
    let P : Submission → Type 0 = λ t. IsTyped t.task in
    subst (λ (rows : List Submission). AllByRecursion P rows) (sym more) (all_append P before (s ∷ []) all (typed, tt))

-- an exit at an error gives nothing
pub gives_nothing : {T E : Type 0} (Q : E → Type 0) (P : T → Type 0) (result : Result T E) → IsErrAnd result Q → IfOk result P
gives_nothing Q P result failed = let p = err_from_is_err_and result failed in subst (λ r. IfOk r P) (sym p.1) tt
