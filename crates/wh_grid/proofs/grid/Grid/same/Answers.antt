use Rattle.std.proofs.Common.{◌≡◌, ℕ, Bool, List, ap, sym, ◌∙◌}
use Rattle.std.specs.Bool.{Decides}
use Rattle.std.specs.Cmp.{booleans_Decides}
use Rattle.std.proofs.lemmas.Slice.Eq.{slice_eq-Decides}
use Rattle.wh_grid.specs.Grids.{Floor}
use Rattle.wh_grid.proofs.grid.Grid.same.Goals as goal

same_floor : (w v h k : ℕ) (xs ys : List Bool) → w ≡ v → h ≡ k → xs ≡ ys → (let a : Floor = record { width = w; height = h; walkable = xs } in let b : Floor = record { width = v; height = k; walkable = ys } in a ≡ b)
same_floor w v h k xs ys e f g = λ i. record { width = e i; height = f i; walkable = g i }

pub returns-clause-same : goal.returns-clause-same
returns-clause-same c =
    let xs = c.self.inside.walkable.items in
    let ys = c.other.inside.walkable.items in
    let d : Decides c.eq.result (xs ≡ ys) = slice_eq-Decides booleans_Decides xs ys c.eq.result c.eq.ensures in (
      λ e. sym c.self.view_is ∙ same_floor _ _ _ _ xs ys c.if-self-other.false c.if-self-other-2.false (d.0 e) ∙ c.other.view_is,
      λ e. d.1 (ap (λ (g : Floor). g.walkable) (c.self.view_is ∙ e ∙ sym c.other.view_is)),
    )
