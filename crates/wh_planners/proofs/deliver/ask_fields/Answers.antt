use Rattle.std.proofs.Common.{◌≡◌, ℕ, ◌+◌, ◌-◌, ◌<◌, ◌≤◌, length, get_or, Option, Some, None, IsSomeAnd, ap, ◌∙◌, length-set, get_or-set_same, get_or-set_other, inl, inr, arith}
use Rattle.std.proofs.lemmas.Bool.{cases_lt}
use Rattle.wh_path.specs.Paths.{cell_at}
use Rattle.wh_field.specs.Growing.{Growing}
use Rattle.wh_grid.specs.Cells.{is_cell}
use Rattle.wh_shared.specs.Shares.{room, slots, stored}
use Rattle.wh_shared.specs.declared.share.Share.{Share}
use Rattle.wh_planners.proofs.Staying.{among_asked, among_stays, within}
use Rattle.wh_planners.proofs.deliver.ask_fields.Goals.{then-leg-slots+in_ok-keep, else-leg-slots}
use Rattle.wh_planners.proofs.deliver.ask_fields.Goals as goal

weaker : {P Q : ℕ → Type 0} (o : Option ℕ) → ((m : ℕ) → P m → Q m) → IsSomeAnd o P → IsSomeAnd o Q
weaker None f h = h
weaker (Some m) f h = f m h

-- those that were asked for stay, and one more is there
pub loop-i-preserved : goal.loop-i-preserved
loop-i-preserved c =
    let l = c.loop-i in
    let few = c.min-few.result in
    let leg = few - 1 - l.i in
    let stops = c.args.stops.now in
    let new = c.ask.new.self in
    let level = c.in_ok-level.level in
    let asked = c.in_ok-level.ensures.asked in
    let size = l.invariant.3 in
    let has_room : l.i < room l.store = omega arith in (
      c.ask.ensures.room ∙ l.invariant.0,
      c.ask.ensures.grid ∙ l.invariant.1,
      (elim c.if-leg-slots.branch [
        | then-leg-slots+in_ok-keep w ↦ ap (λ (s : Share). slots s) w.share-is ∙ w.keep.ensures.slots ∙ l.invariant.2
        | else-leg-slots w ↦ ap (λ (s : Share). slots s) w.share-is ∙ l.invariant.2
      ]),
      length-set l.levels leg (Some level) ∙ size,
      λ k lt done. elim (cases_lt leg k) [
        | inl later ↦
            let before : few ≤ k + l.i = omega arith in
            rw (get_or-set_other l.levels leg k (Some level) None (λ e. absurd (omega arith)))
            (weaker (get_or l.levels k None) (λ m. among_stays l.store new (cell_at stops leg) (cell_at stops k) level m l.i asked has_room) (l.invariant.4 k lt before))
        | inr here ↦
            let e : k ≡ leg = omega arith in
            let there : leg < length l.levels = omega arith in
            rw (e, get_or-set_same l.levels leg (Some level) None there) (among_asked l.store new (cell_at stops leg) level l.i asked)
      ],
    )

pub returns-clause-asked : goal.returns-clause-asked
returns-clause-asked c k in_stops in_room =
    let l = c.loop-i in
    let lt : k < c.min-few.result = omega arith in
    let done : c.min-few.result ≤ k + l.i = omega arith in
    weaker (get_or l.levels k None) (λ m. within (is_cell (cell_at c.args.stops.now k)) (λ (f : Growing). m ≤ f.level) l.i (stored l.store)) (l.invariant.4 k lt done)
