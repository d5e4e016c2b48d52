-- What a run that is found in a journal starts from, and how few callers one client and a worker are.
use Rattle.std.proofs.Common.{◌≡◌, ◌≤◌, ℕ, List, length, sym, subst, arith, inl, Option, None, Some}
use Rattle.wh_points.specs.Points.{Site}
use Rattle.wh_continue.specs.Starting.{StartsByFile, StartsIn}
use Rattle.wh_continue.specs.Running.{IsStartOf}
use Rattle.wh_continue.specs.declared.starting.Start.{Start}
use Rattle.wh_host.specs.declared.pacing.Pacing.{Pacing}
use Rattle.wh_host.specs.Pacing.{callers_of}

starts_here : (site : Site) (slots : List ℕ) (file : Option (List ℕ)) (start : Start) → StartsByFile site slots file start → IsStartOf file start
starts_here site slots None start from = tt
starts_here site slots (Some held) start from = inl (site, slots, subst (λ (text : List ℕ). StartsIn site slots text start) from.text_is from.starts)

pub starts_of : (site : Site) (slots : List ℕ) (file now : Option (List ℕ)) (start : Start) → StartsByFile site slots file start → now ≡ file → IsStartOf now start
starts_of site slots file now start from same = subst (λ (f : Option (List ℕ)). IsStartOf f start) (sym same) (starts_here site slots file start from)

-- one client, and maybe a worker, are at most 64 callers
pub few_callers : {C : Type 0} (clients : List C) (pace : Option Pacing) → length clients ≡ 1 → callers_of clients pace ≤ 64
few_callers clients None one = omega (arith, one)
few_callers clients (Some pace) one = omega (arith, one)
