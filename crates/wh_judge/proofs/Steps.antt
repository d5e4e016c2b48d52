-- a path is free of others exactly where each of its steps is clear of them and they stay away from its end
use Rattle.std.proofs.Common.{◌≡◌, ◌≢◌, ℕ, ◌+◌, ◌<◌, ◌≤◌, ◌∙◌, inl, inr, Bool, List, All, get_or, sym, arith}
use Rattle.std.proofs.lemmas.Bool.{cases_lt}
use Rattle.wh_grid.specs.declared.cell.Cell.{Cell}
use Rattle.wh_grid.proofs.Pigeons.{cell_cases}
use Rattle.wh_path.specs.Paths.{at, end, last_index, IsFree}
use Rattle.wh_path.proofs.AtLemmas.{at-rests}
use Rattle.wh_resv.specs.Calls.{IsVacant}
use Rattle.wh_resv.specs.Others.{Others, IsClearStep, StaysAway, MayStep, MayRest}

module _ (nofollow : Bool) (p q : List Cell) where
  pub free_step : IsFree nofollow p q → (k : ℕ) → IsClearStep nofollow q (at p k) (at p (k + 1)) k
  free_step free k = record {
    start = λ e. free.apart k (sym e);
    target = λ e. free.apart (k + 1) (sym e);
    no_swap = λ there back. free.no_swap k (sym back, sym there);
    no_follow = λ rule ne. (λ e. free.no_follow rule k (inl (sym e)), λ e. free.no_follow rule k (inr e));
  }

  -- from its end on the path rests
  rests : (k : ℕ) → last_index p ≤ k → at p k ≡ end p
  rests k late = at-rests p k (last_index p) late (omega arith)

  pub free_end : IsFree nofollow p q → StaysAway q (end p) (last_index p)
  free_end free = record { away = λ j late e. free.apart j (rests j late ∙ sym e) }

  pub steps_free : ((k : ℕ) → k < last_index p → IsClearStep nofollow q (at p k) (at p (k + 1)) k) → StaysAway q (end p) (last_index p) → IsFree nofollow p q
  steps_free steps away =
      let apart : (k : ℕ) → at p k ≢ at q k = λ k meet. elim (cases_lt k (last_index p)) [ inl b ↦ (steps k b).start (sym meet) | inr late ↦ away.away k late (sym meet ∙ rests k late) ] in
      record {
        apart = apart;
        no_swap = λ k swap. elim (cases_lt k (last_index p)) [
          | inl b ↦ (steps k b).no_swap (sym swap.1) (sym swap.0)
          | inr late ↦ away.away (k + 1) (omega arith) (sym swap.0 ∙ rests k late)
        ];
        no_follow = λ rule k follow. elim (cell_cases (at p k) (at p (k + 1))) [
          | inl same ↦ elim follow [ inl ahead ↦ apart k (same ∙ ahead) | inr behind ↦ apart (k + 1) (sym same ∙ sym behind) ]
          | inr ne ↦ elim (cases_lt k (last_index p)) [
            | inl b ↦ (let clear = (steps k b).no_follow rule ne in elim follow [ inl ahead ↦ clear.0 (sym ahead) | inr behind ↦ clear.1 behind ])
            | inr late ↦ ne (rests k late ∙ sym (rests (k + 1) (omega arith)))
          ]
        ];
      }

-- the same of all others
module _ (others : Others) (p : List Cell) where
  abbrev AllFreeOf : Type 0
  AllFreeOf = All (λ q. IsFree others.nofollow p q) others.paths

  pub all_step : AllFreeOf → (k : ℕ) → MayStep others (at p k) (at p (k + 1)) k
  all_step free k = λ i d h. free_step others.nofollow p (get_or others.paths i d) (free i d h) k

  pub all_end : AllFreeOf → MayRest others (end p) (last_index p)
  all_end free = λ i d h. free_end others.nofollow p (get_or others.paths i d) (free i d h)

  pub all_vacant : AllFreeOf → (k : ℕ) → IsVacant others.paths (at p k) k
  all_vacant free k = λ i d h e. (free i d h).apart k (sym e)

  pub all_free : ((k : ℕ) → k < last_index p → MayStep others (at p k) (at p (k + 1)) k) → MayRest others (end p) (last_index p) → AllFreeOf
  all_free steps rest = λ i d h. steps_free others.nofollow p (get_or others.paths i d) (λ k b. steps k b i d h) (rest i d h)

-- who may step somewhere is alone there
pub step_alone : (others : Others) (from to : Cell) (k : ℕ) → MayStep others from to k → IsVacant others.paths to (k + 1)
step_alone others from to k may = λ i d h. (may i d h).target
