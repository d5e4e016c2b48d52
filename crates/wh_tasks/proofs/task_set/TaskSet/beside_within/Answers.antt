use Rattle.std.proofs.Common.{◌≤◌, ap, sym, ◌∙◌, subst, length, refl}
use Rattle.std.specs.Prelude.{IfSome, IfNone, Some, None}
use Rattle.wh_field.specs.Distances.{IsDistance}
use Rattle.wh_tasks.specs.Tasks.{pickup}
use Rattle.wh_tasks.specs.Firsts.{IsBeyond}
use Rattle.wh_tasks.specs.Sets.{Stored, AreListed}
use Rattle.wh_tasks.specs.Bars.{AreBars}
use Rattle.wh_tasks.proofs.Nearby.{IsNear, IsBeside, IsChosen, field-before, beside-start, beside-more, beside-skip, beside-all, least-more, least-same, within-of, of-within, said-some, said-none, not-near}
use Rattle.wh_tasks.proofs.Walking.{stands-there, walk-stop}
use Rattle.wh_tasks.proofs.Listing.{stop-open, stop-within}
use Rattle.wh_tasks.proofs.task_set.TaskSet.beside_within.Goals as goal
use Rattle.wh_tasks.proofs.task_set.TaskSet.beside_within.Goals.{then-none_in+then-is_some, else-none_in, else-none_in-via-then-none_in+else-is_some, else-none_in-via-else-none_in}

pub loop-at-init : goal.loop-at-init
loop-at-init g c =
    let grid = g.F.Distances.grid c.args.field.now in
    let source = g.F.Distances.source c.args.field.now in
    let stops = c.self.inside.stops.stops in
    let own = c.args.own in
    let tasks = c.args.self.now.tasks in
    let ends = c.args.self.now.ends in
    let others = c.args.ends.now in
    let at = c.first-at.result in
    let Near = IsNear grid source c.args.limit in
    let ens = c.first-at.ensures in
    record {
      stop = stands-there stops own (length stops) at ens.some;
      kept = record {
        grid = refl;
        source = refl;
        holds = least-same (IsChosen tasks ends Near) (IsBeside tasks ends others stops own Near at) c.args.found (beside-start tasks ends others stops own Near at c.requires.others ens.some ens.none)
            (of-within grid tasks ends source c.args.limit c.args.found c.requires.found);
      };
    }

pub task-task-requires : goal.task-task-requires
task-task-requires g c =
    let s = c.self.inside in
    let at = rw c.in-Some.is at c.loop-at.invariant.stop in
    let stands = walk-stop s.stops.stops c.in-Some.k c.task-n.result c.args.own at c.task-n.ensures in
    rw (← ap (λ v. v.tasks) c.self.view_is) (stop-within s.tasks.items s.firsts.items s.stops.stops c.in-Some.k c.task-n.result c.args.own c.self.invariant.0.stops_are stands)

pub loop-at-preserved : goal.loop-at-preserved
loop-at-preserved g c =
    let grid = g.F.Distances.grid c.args.field.now in
    let source = g.F.Distances.source c.args.field.now in
    let s = c.self.inside in
    let stops = s.stops.stops in
    let own = c.args.own in
    let tasks = c.args.self.now.tasks in
    let ends = c.args.self.now.ends in
    let others = c.args.ends.now in
    let limit = c.args.limit in
    let k = c.in-Some.k in
    let n = c.task-n.result in
    let task = c.task-task.result.now in
    let at = c.next-at.result in
    let found = c.loop-at.found in
    let kept = c.loop-at.invariant.kept in
    let holds = rw c.in-Some.is at kept.holds in
    let listed : AreListed tasks s.firsts.items stops = subst (λ (v : Stored). AreListed v.tasks s.firsts.items stops) c.self.view_is c.self.invariant.0.stops_are in
    let stands = walk-stop stops k n own (rw c.in-Some.is at c.loop-at.invariant.stop) c.task-n.ensures in
    let ens = c.next-at.ensures in
    let there = c.task-task.ensures.task in
    let Near = IsNear grid source limit in
    let was = IsBeside tasks ends others stops own Near (Some k) in
    let is = IsBeside tasks ends others stops own Near at in
    record {
      stop = stands-there stops own k at ens.some;
      kept = elim c.if-none_in.branch [
        | then-none_in+then-is_some w ↦
            let clear = rw c.as_slice.ensures.value at w.if-none_in.ensures.0 refl in
            let near : IfSome w.within.result (λ d. IsDistance grid source (pickup task) (Some d) × (d ≤ limit)) =
            field-before (λ f s. IfSome w.within.result (λ d. IsDistance f s (pickup task) (Some d) × (d ≤ limit))) grid _ source _ kept.grid kept.source (rw w.pickup.ensures at w.within.ensures.found) in
            let some = said-some w.within.result (λ d. IsDistance grid source (pickup task) (Some d) × (d ≤ limit)) (sym w.if-is_some.ensures) near in
            rw (w.field-is, w.found-is, w.first_of-found.ensures) (record {
              grid = w.within.ensures.grid ∙ kept.grid;
              source = w.within.ensures.source ∙ kept.source;
              holds = least-more was is found n task
                  (beside-more tasks ends others stops own Near k n at task stands ens.some ens.none (record { there = there; is_open = stop-open tasks s.firsts.items stops k n own task listed stands there; clear = clear }) (some.0, some.1.0, some.1.1)) holds;
            })
        | else-none_in w ↦ elim w.else-none_in.branch [
          | else-none_in-via-then-none_in+else-is_some v ↦
              let farther : IfNone v.within.result (IsBeyond grid source limit task) =
              field-before (λ f s. IfNone v.within.result (IsBeyond f s limit task)) grid _ source _ kept.grid kept.source (rw v.pickup.ensures at v.within.ensures.farther) in
              let beyond = said-none v.within.result (IsBeyond grid source limit task) (sym v.if-is_some.ensures) farther in
              rw (w.field-is, v.field-is, w.found-is) (record {
                grid = v.within.ensures.grid ∙ kept.grid;
                source = v.within.ensures.source ∙ kept.source;
                holds = least-same was is found (beside-skip tasks ends others stops own Near k n at task stands ens.some ens.none there (λ clear near. not-near grid source limit task beyond near)) holds;
              })
          | else-none_in-via-else-none_in v ↦
              rw (w.field-is, v.field-is, w.found-is) (record {
                grid = kept.grid;
                source = kept.source;
                holds = least-same was is found (beside-skip tasks ends others stops own Near k n at task stands ens.some ens.none there (λ clear near. (let no = (rw c.as_slice.ensures.value at v.if-none_in.ensures.1) clear in cc))) holds;
              })
        ]
      ];
    }

pub returns-clause-found : goal.returns-clause-found
returns-clause-found g c =
    let grid = g.F.Distances.grid c.args.field.now in
    let source = g.F.Distances.source c.args.field.now in
    let s = c.self.inside in
    let stops = s.stops.stops in
    let own = c.args.own in
    let tasks = c.args.self.now.tasks in
    let ends = c.args.self.now.ends in
    let others = c.args.ends.now in
    let found = c.loop-at.found in
    let Near = IsNear grid source c.args.limit in
    let holds = rw c.in_default.is at c.loop-at.invariant.kept.holds in
    let listed : AreListed tasks s.firsts.items stops = subst (λ (v : Stored). AreListed v.tasks s.firsts.items stops) c.self.view_is c.self.invariant.0.stops_are in
    let bars : AreBars tasks ends s.bars.items s.clear.members = subst (λ (v : Stored). AreBars v.tasks v.ends s.bars.items s.clear.members) c.self.view_is c.self.invariant.0.bars_are in
    within-of grid tasks others source c.args.limit found
    (least-same (IsBeside tasks ends others stops own Near None) (IsChosen tasks others Near) found
    (beside-all tasks ends others stops s.firsts.items s.bars.items s.clear.members own Near listed bars c.requires.others) holds)
