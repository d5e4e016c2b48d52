use Rattle.std.proofs.Common.{◌≡◌, ◌++◌, List, Bool, length, take, drop, sym, subst, ap, ◌∙◌, arith}
use Rattle.std.proofs.Math.Seq.{take-append_seam}
use Rattle.wh_grid.specs.Grids.{Floor}
use Rattle.wh_detours.specs.Closed.{IsWithoutClosed, AreClosed}
use Rattle.wh_detours.proofs.Closing.{closed_more, closed_all}
use Rattle.wh_detours.proofs.closed.without_closed.Goals as goal

pub loop-path-preserved : goal.loop-path-preserved
loop-path-preserved c =
    let g = c.args.grid.now in
    let o = c.args.others.now in
    let loc = c.args.loc in
    let was = rw c.deref_mut.ensures.value at c.bar.ensures in
    let now = c.bar.new.walkable in
    let size : c.loop-path.walkable.len ≡ length now = omega arith in
    let rest = drop (length now) c.loop-path.walkable.items in
    let back = ap (λ k. take k (now ++ rest)) size ∙ take-append_seam now rest in
    subst (λ (xs : List Bool). AreClosed g o loc xs) (sym back) (closed_more g o loc c.loop-path.walkable.items c.bar.new.walkable c.loop-path.invariant was)

pub returns : goal.returns
returns c =
    let g = c.args.grid.now in
    let o = c.args.others.now in
    let items = c.loop-path.walkable.items in
    let Made : Floor → Type 0 = λ f. f ≡ record { width = g.width; height = g.height; walkable = items } in
    let made : Made c.new.result = c.new.ensures ∙ ap (λ w. record { width = w; height = c.height.result; walkable = items }) c.width.ensures.value
    ∙ ap (λ h. record { width = g.width; height = h; walkable = items }) c.height.ensures.value in
    subst (λ (f : Floor). IsWithoutClosed g o c.args.loc f) (sym made) (closed_all g o c.args.loc items c.loop-path.invariant)
