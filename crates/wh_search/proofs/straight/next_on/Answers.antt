use Rattle.std.proofs.Common.{◌≡◌, ◌+◌, ◌-◌, ◌<◌, inl, inr, refl, ap, subst, sym, ◌∙◌, Bool, true, not, Option, Some, None, is_some, IfNone, Contains, arith}
use Rattle.std.proofs.lemmas.Bool.{cases_lt}
use Rattle.std.proofs.lemmas.List.{get_or_default}
use Rattle.std.proofs.lemmas.List.Elements.{All-weaker}
use Rattle.wh_grid.specs.declared.cell.Cell.{Cell}
use Rattle.wh_grid.specs.Grids.{IsPassable}
use Rattle.wh_field.specs.Sides.{around}
use Rattle.wh_path.specs.Paths.{at}
use Rattle.wh_resv.specs.Others.{IsClearStep, MayStep}
use Rattle.wh_search.specs.Frontiers.{problem}
use Rattle.wh_search.specs.Guides.{guide_estimate}
use Rattle.wh_search.specs.States.{State, Steps}
use Rattle.wh_search.specs.Ways.{AreTried, IsBarred, IsFallingBy, cell_beside, state_on}
use Rattle.wh_path.proofs.WalkLemmas.{move_back}
use Rattle.wh_search.proofs.Cells.{moves_complete}
use Rattle.wh_search.proofs.Searches.{errand_falls}
use Rattle.wh_search.proofs.Ways.{tried_before, tried_more, tried_far, tried_noted, tried_all}
use Rattle.wh_search.proofs.straight.next_on.Goals as goal
use Rattle.wh_search.proofs.straight.next_on.Goals.{else-is_nearer-via-then-is_nearer+then-not-has+else-allows, else-is_nearer-via-then-is_nearer+else-not-has, else-is_nearer-via-else-is_nearer}

pub move_by-to-requires-clause-inside : goal.move_by-to-requires-clause-inside
move_by-to-requires-clause-inside c = λ stays.
    let p = problem c.args.errand.now in
    let d = c.args.stand in
    let i = c.in-Some.i in
    let last = c.in-Some.ensures.some in
    let few = c.loop-i.invariant.few in
    let less = last.less in
    let falls : p.estimate d.leg (cell_beside d.cell i) < p.estimate d.leg d.cell = (c.requires.stand.falling i (omega arith)).1 last.among in
    let same = ap (p.estimate d.leg) stays in
    absurd (omega arith)

pub is_nearer-requires : goal.is_nearer-requires
is_nearer-requires c =
    let p = problem c.args.errand.now in
    let d = c.args.stand in
    let i = c.in-Some.i in
    let last = c.in-Some.ensures.some in
    let few = c.loop-i.invariant.few in
    let less = last.less in
    let five : i < 5 = omega arith in
    let total = c.requires.stand.total in
    let falls : p.estimate d.leg (cell_beside d.cell i) < p.estimate d.leg d.cell = (c.requires.stand.falling i five).1 last.among in
    let same : p.estimate d.leg c.move_by-to.result ≡ p.estimate d.leg (cell_beside d.cell i) = ap (p.estimate d.leg) c.move_by-to.ensures.same in
    omega arith

pub returns-then-allows-clause-some : goal.returns-then-allows-clause-some
returns-then-allows-clause-some c =
    let e = c.args.errand.now in
    let p = problem e in
    let d = c.args.stand in
    let k = c.args.time in
    let i = c.in-Some.i in
    let last = c.in-Some.ensures.some in
    let few = c.loop-i.invariant.few in
    let less = last.less in
    let five : i < 5 = omega arith in
    let to = c.move_by-to.result in
    let leg = c.arrive_by-leg.result in
    let a = c.allows.ensures.0 c.if-allows.true in
    let same : to ≡ cell_beside d.cell i = c.move_by-to.ensures.same in
    let step : Steps e.grid.now e.others.now e.via.now k (state_on d) (record { leg = leg; cell = to }) = record {
      goes = record { passable = a.0; move = c.move_by-to.ensures.near; may = a.1 };
      arrives = c.arrive_by-leg.ensures;
    } in
    let total = c.requires.stand.total in
    let here : p.estimate d.leg d.cell - 1 ≡ c.args.here - 1 = omega arith in
    let falls = errand_falls e c.requires.errand k (state_on d) c.requires.stand.few c.requires.stand.inside (record { leg = leg; cell = to }) step in
    let nearer : guide_estimate e.guide leg to < c.args.here = c.is_nearer.ensures.0 c.if-is_nearer.true in
    let left : c.args.here - 1 ≡ guide_estimate e.guide leg to = omega arith in (
      record {
        steps = step;
        move = five;
        cell_is = same;
        tried = subst (λ n. AreTried p n k (state_on d) (i + 1)) (sym here) (tried_before e c.requires.errand c.args.here k d c.loop-i.before (i + 1) c.requires.some c.requires.stand (λ j low before. last.later j (omega arith) before) c.loop-i.invariant.are_tried);
      },
      record {
        total = omega arith;
        few = c.arrive_by-leg.ensures.few;
        inside = a.0;
        alone = All-weaker (λ q. IsClearStep e.others.now.nofollow q d.cell to k) (λ q. at q (k + 1) ≡ to → ⊥) (λ q s. s.target) e.others.now.paths a.1;
        falling = subst (λ n. IsFallingBy p.estimate leg to n c.falls.result) left c.falls.ensures;
      },
    )

pub loop-i-preserved : goal.loop-i-preserved
loop-i-preserved c =
    let e = c.args.errand.now in
    let p = problem e in
    let d = c.args.stand in
    let k = c.args.time in
    let i = c.in-Some.i in
    let to = cell_beside d.cell i in
    let last = c.in-Some.ensures.some in
    let few = c.loop-i.invariant.few in
    let less = last.less in
    let wide = c.width-width.type_inv in
    let high = c.height-height.type_inv in
    let same : c.move_by-to.result ≡ to = c.move_by-to.ensures.same in
    let leg = c.arrive_by-leg.result in
    let here : (t : State) → t.cell ≡ to → Steps p.grid p.others p.via k (state_on d) t → IsBarred p (c.args.here - 1) (k + 1) t = λ t is step. elim c.else-is_nearer.branch [
      | else-is_nearer-via-then-is_nearer+then-not-has+else-allows v ↦ absurd (let one = v.allows.ensures.1 (subst (λ (x : Cell). IsPassable e.grid.now x × MayStep e.others.now d.cell x k) (is ∙ sym same) (step.goes.passable, step.goes.may)) in let no = v.if-allows.false in cc)
      | else-is_nearer-via-then-is_nearer+else-not-has v ↦ (let inside = step.goes.passable in
          let there : t.cell ≡ c.move_by-to.result = is ∙ sym same in
          let low = subst (λ (x : Cell). IsPassable e.grid.now x) there inside in
          let tw = low.in_width in
          let th = low.in_height in
          let value = c.width-width.ensures.value in
          let height = c.height-height.ensures.value in
          tried_noted e c.requires.errand c.args.here k d c.args.noted.now.slots.items leg c.move_by-to.result c.requires.some c.requires.stand c.requires.hopeless (omega arith) (omega arith)
          (subst (Contains c.args.noted.now.slots.items) v.state_number.ensures (v.has.ensures v.if-not-has.false)) (c.is_nearer.ensures.0 v.if-is_nearer.true) c.arrive_by-leg.ensures t there step)
      | else-is_nearer-via-else-is_nearer v ↦ elim (cases_lt (p.estimate leg c.move_by-to.result) c.args.here) [
        | inl x ↦ absurd (let yes = c.is_nearer.ensures.1 x in let no = v.if-is_nearer.false in cc)
        | inr x ↦ tried_far e c.requires.errand c.args.here k d leg c.move_by-to.result c.requires.some x c.arrive_by-leg.ensures t (is ∙ sym same) step
      ]
    ] in
    record {
      few = omega arith;
      are_tried = tried_more p (c.args.here - 1) k (state_on d) i (tried_before e c.requires.errand c.args.here k d c.loop-i.before (i + 1) c.requires.some c.requires.stand (λ j low before. last.later j (omega arith) before) c.loop-i.invariant.are_tried) here;
    }

told_none : {X P : Type 0} (o : Option X) (b : Bool) → is_some o ≡ not b → b ≡ true → IfNone o P → P
told_none None b e held told = told
told_none (Some x) b e held told = absurd (let both : true ≡ not true = e ∙ ap not held in cc)

-- where no move that is not tried is among those by which the estimate falls
pub returns-then-is_none-clause-none : goal.returns-then-is_none-clause-none
returns-then-is_none-clause-none c =
    let e = c.args.errand.now in
    let p = problem e in
    let d = c.args.stand in
    let k = c.args.time in
    let none = told_none c.last_before.result c.is_none.result c.is_none.ensures c.if-is_none.true c.last_before.ensures.none in
    tried_all p c.args.here k (state_on d) c.requires.some (tried_before e c.requires.errand c.args.here k d c.args.tried 0 c.requires.some c.requires.stand (λ j low before. none j before) c.requires.tried)
    (λ t step.
    let inside = step.goes.passable in
    let w = inside.in_width in
    let h = inside.in_height in
    let wide = c.width-width.ensures.bound in
    let high = c.height-height.ensures.bound in
    let there : Contains (around d.cell) t.cell = moves_complete d.cell t.cell _ _ _ _ refl refl refl refl (omega arith) (omega arith) (move_back d.cell t.cell step.goes.move) in
    (there.0, there.1, sym there.2 ∙ get_or_default (around d.cell) there.0 t.cell (record { x = 0; y = 0 }) there.1))

pub returns-clause-none : goal.returns-clause-none
returns-clause-none c =
    let e = c.args.errand.now in
    let p = problem e in
    let d = c.args.stand in
    let k = c.args.time in
    let none = c.in_default.ensures.none in
    tried_all p c.args.here k (state_on d) c.requires.some (tried_before e c.requires.errand c.args.here k d c.loop-i.before 0 c.requires.some c.requires.stand (λ j low before. none j before) c.loop-i.invariant.are_tried)
    (λ t step.
    let inside = step.goes.passable in
    let w = inside.in_width in
    let h = inside.in_height in
    let there : Contains (around d.cell) t.cell = moves_complete d.cell t.cell _ _ _ _ refl refl refl refl (omega arith) (omega arith) (move_back d.cell t.cell step.goes.move) in
    (there.0, there.1, sym there.2 ∙ get_or_default (around d.cell) there.0 t.cell (record { x = 0; y = 0 }) there.1))
