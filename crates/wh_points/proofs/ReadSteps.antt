-- Reading line after line, as a loop does.
use Rattle.std.proofs.Common.{◌≡◌, ℕ, ◌+◌, List, [], ◌∷◌, Result, Ok, Err, refl, sym, ap, ◌∙◌}
use Rattle.wh_grid.specs.Grids.{Floor}
use Rattle.wh_grid.specs.Faults.{◌>>=◌}
use Rattle.wh_points.specs.declared.fault.Fault.{Fault}
use Rattle.wh_points.specs.declared.fault.Refused.{Refused}
use Rattle.wh_points.specs.declared.fault.Refused.TheVariants.{NoMemory, Line}
use Rattle.wh_points.specs.Points.{Layout}
use Rattle.wh_points.specs.PointLines.{line_of}
use Rattle.wh_points.specs.PointFiles.{located, layout_from, whole, Takes, Gives, fault_of}

module _ (g : Floor) (layout : Layout) (count after : ℕ) (lines rest : List (List ℕ)) (line : List ℕ) (total : Result Layout Fault)
    (first : lines ≡ line ∷ rest) (more : after ≡ count + 1) (so_far : layout_from g layout count lines ≡ total) where
  opened : (located (count + 1) (line_of g layout line) >>= λ next. layout_from g next (count + 1) rest) ≡ total
  unfolding layout_from
  opened = sym (ap (λ (ls : List (List ℕ)). layout_from g layout count ls) first) ∙ so_far

  pub goes_on : (next : Layout) → line_of g layout line ≡ Ok next → layout_from g next after rest ≡ total
  goes_on next h =
      let one : (located (count + 1) (line_of g layout line) >>= λ next. layout_from g next (count + 1) rest) ≡ layout_from g next (count + 1) rest = rw h refl in
      rw more (sym one ∙ opened)

  pub ends : (refused : Refused) → Takes (Err refused) (line_of g layout line) → Gives (Err (fault_of after refused)) total
  ends NoMemory h = tt
  ends (Line kind) h =
      let fault : Fault = record { kind = kind; line = count + 1 } in
      let one : (located (count + 1) (line_of g layout line) >>= λ next. layout_from g next (count + 1) rest) ≡ Err fault = rw h refl in
      rw more (sym opened ∙ one)

pub all_read : (g : Floor) (layout : Layout) (count : ℕ) (lines : List (List ℕ)) (total : Result Layout Fault) → lines ≡ [] → layout_from g layout count lines ≡ total → total ≡ whole count layout layout.agents
unfolding layout_from
all_read g layout count lines total none so_far = sym so_far ∙ ap (λ (ls : List (List ℕ)). layout_from g layout count ls) none
