-- A fault's line is one of the file's, and nothing behind it changes the fault.
use Rattle.std.proofs.Common.{◌≡◌, ℕ, suc, ◌+◌, ◌-◌, ◌<◌, ◌≤◌, inl, inr, Result, Ok, Err, List, [], ◌∷◌, ◌++◌, length, take, refl, ap, subst, arith}
use Rattle.std.specs.Prelude.{IfErr}
use Rattle.wh_grid.specs.Grids.{Floor}
use Rattle.wh_grid.proofs.Steps.{bind_err}
use Rattle.wh_points.specs.declared.fault.FaultKind.{FaultKind}
use Rattle.wh_points.specs.declared.fault.FaultKind.TheVariants.{NoAgent}
use Rattle.wh_points.specs.declared.fault.Fault.{Fault}
use Rattle.wh_points.specs.declared.fault.PointFault.{PointFault}
use Rattle.wh_points.specs.declared.fault.PointFault.TheVariants.{NoMemory, At}
use Rattle.wh_points.specs.Points.{Layout}
use Rattle.wh_points.specs.PointLines.{line_of}
use Rattle.wh_points.specs.PointFiles.{empty, located, whole, layout_from, Gives, IsWithin, IsFirst}

located_err : (number : ℕ) (r : Result Layout FaultKind) (f : Fault) → located number r ≡ Err f → number ≡ f.line
located_err number (Ok layout) f e = absurd cc
located_err number (Err kind) f e =
    let made : Fault = record { kind = kind; line = number } in
    let same : made ≡ f = cc in
    ap (λ (x : Fault). x.line) same

whole_err : (last : ℕ) (layout : Layout) (agents : List ℕ) (f : Fault) → whole last layout agents ≡ Err f → last + 1 ≡ f.line
whole_err last layout [] f e =
    let made : Fault = record { kind = NoAgent; line = last + 1 } in
    let same : made ≡ f = cc in
    ap (λ (x : Fault). x.line) same
whole_err last layout (n ∷ agents) f e = absurd cc

record LineDecides (g : Floor) (layout : Layout) (count : ℕ) (lines : List (List ℕ)) (f : Fault) : Type 0 where
  later : count < f.line
  within : f.line ≤ count + length lines + 1
  first : f.line ≤ count + length lines → (more : List (List ℕ)) → layout_from g layout count (take (f.line - count) lines ++ more) ≡ Err f

line_decides : (g : Floor) (layout : Layout) (count : ℕ) (lines : List (List ℕ)) (f : Fault) → layout_from g layout count lines ≡ Err f → LineDecides g layout count lines f
unfolding layout_from
line_decides g layout count [] f e =
    let l : count + 1 ≡ f.line = whole_err count layout layout.agents f e in
    record { later = omega arith; within = omega arith; first = λ le more. absurd (omega arith) }
line_decides g layout count (line ∷ lines) f e = elim (bind_err (located (count + 1) (line_of g layout line)) (λ next. layout_from g next (count + 1) lines) f e) [
  | inl here ↦
      let l : count + 1 ≡ f.line = located_err (count + 1) (line_of g layout line) f here in
      record {
        later = omega arith;
        within = omega arith;
        first = λ le more. (let one : f.line - count ≡ 1 = omega arith in rw (one, here) refl);
      }
  | inr after ↦
      let rest = line_decides g after.0 (count + 1) lines f after.2 in
      let later : count + 1 < f.line = rest.later in
      let within : f.line ≤ count + 1 + length lines + 1 = rest.within in
      record {
        later = omega arith;
        within = omega arith;
        first = λ le more. (
            let one : f.line - count ≡ suc (f.line - (count + 1)) = omega arith in
            let fewer : f.line ≤ count + 1 + length lines = omega arith in
            rw (one, after.1) (rest.first fewer more));
      }
]

pub read_within : (g : Floor) (lines : List (List ℕ)) (r : Result Layout PointFault) → Gives r (layout_from g empty 0 lines) → IfErr r (λ e. IsWithin (length lines + 1) e)
read_within g lines (Ok layout) h = tt
read_within g lines (Err NoMemory) h = tt
read_within g lines (Err (At fault)) h =
    let d = line_decides g empty 0 lines fault h in
    let later : 0 < fault.line = d.later in
    let within : fault.line ≤ 0 + length lines + 1 = d.within in
    (omega arith, omega arith)

pub read_first : (g : Floor) (lines : List (List ℕ)) (r : Result Layout PointFault) → Gives r (layout_from g empty 0 lines) → IfErr r (IsFirst g lines)
read_first g lines (Ok layout) h = tt
read_first g lines (Err NoMemory) h = tt
read_first g lines (Err (At fault)) h = λ le more.
    let fewer : fault.line ≤ 0 + length lines = omega arith in
    let all : fault.line - 0 ≡ fault.line = omega arith in
    subst (λ (n : ℕ). layout_from g empty 0 (take n lines ++ more) ≡ Err fault) all ((line_decides g empty 0 lines fault h).first fewer more)
