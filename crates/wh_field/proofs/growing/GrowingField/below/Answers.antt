use Rattle.std.proofs.Common.{◌≡◌, ◌+◌, ◌<◌, subst, arith}
use Rattle.wh_field.specs.Growing.{Growing}
use Rattle.wh_field.specs.Places.{places}
use Rattle.wh_field.proofs.Levels.{place_within, all_below_level}
use Rattle.wh_field.proofs.growing.GrowingField.below.Goals as goal
use Rattle.wh_field.proofs.growing.GrowingField.below.Goals.{then-cell-gt0, else-cell-gt0, then-cell-gt0-2, else-cell-gt0-2}

pub is_below-requires-clause-within : goal.is_below-requires-clause-within
is_below-requires-clause-within c =
    let f = c.self.inside in
    let g = c.args.self.now.grid in
    let W : Growing → Type 0 = λ x. f.width ≡ x.grid.width in
    let H : Growing → Type 0 = λ x. f.height ≡ x.grid.height in
    let room : c.in-Some.place + (g.width + 1) < places g = place_within g f.width f.height c.args.cell c.in-Some.place (subst W c.self.view_is c.self.invariant.width) (subst H c.self.view_is c.self.invariant.height) c.in-Some.ensures.inside in
    omega arith

pub is_below-requires-in-Some-clause-within : goal.is_below-requires-in-Some-clause-within
is_below-requires-in-Some-clause-within c =
    let f = c.self.inside in
    let g = c.args.self.now.grid in
    let W : Growing → Type 0 = λ x. f.width ≡ x.grid.width in
    let H : Growing → Type 0 = λ x. f.height ≡ x.grid.height in
    let room : c.in-Some.place + (g.width + 1) < places g = place_within g f.width f.height c.args.cell c.in-Some.place (subst W c.self.view_is c.self.invariant.width) (subst H c.self.view_is c.self.invariant.height) c.in-Some.ensures.inside in
    elim c.if-cell-gt0.branch [
      | then-cell-gt0 w ↦ (let e = w.to_left-is in omega arith)
      | else-cell-gt0 w ↦ (let e = w.to_left-is in omega arith)
    ]

pub is_below-requires-in-Some-2-clause-within : goal.is_below-requires-in-Some-2-clause-within
is_below-requires-in-Some-2-clause-within c =
    let f = c.self.inside in
    let g = c.args.self.now.grid in
    let W : Growing → Type 0 = λ x. f.width ≡ x.grid.width in
    let H : Growing → Type 0 = λ x. f.height ≡ x.grid.height in
    let room : c.in-Some.place + (g.width + 1) < places g = place_within g f.width f.height c.args.cell c.in-Some.place (subst W c.self.view_is c.self.invariant.width) (subst H c.self.view_is c.self.invariant.height) c.in-Some.ensures.inside in
    omega arith

pub is_below-requires-in-Some-3-clause-within : goal.is_below-requires-in-Some-3-clause-within
is_below-requires-in-Some-3-clause-within c =
    let f = c.self.inside in
    let g = c.args.self.now.grid in
    let W : Growing → Type 0 = λ x. f.width ≡ x.grid.width in
    let H : Growing → Type 0 = λ x. f.height ≡ x.grid.height in
    let room : c.in-Some.place + (g.width + 1) < places g = place_within g f.width f.height c.args.cell c.in-Some.place (subst W c.self.view_is c.self.invariant.width) (subst H c.self.view_is c.self.invariant.height) c.in-Some.ensures.inside in
    elim c.if-cell-gt0-2.branch [
      | then-cell-gt0-2 w ↦ (let e = w.to_above-is in omega arith)
      | else-cell-gt0-2 w ↦ (let e = w.to_above-is in omega arith)
    ]

pub returns-then-from-than : goal.returns-then-from-than
returns-then-from-than c = all_below_level c.args.self.now.grid c.args.self.now.cell c.args.cell c.args.level c.args.than (let far = c.if-from-than.true in let is = c.from.ensures in omega arith)
