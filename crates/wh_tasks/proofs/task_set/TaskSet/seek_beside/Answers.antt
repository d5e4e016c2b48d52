use Rattle.std.proofs.Common.{ap, ◌∙◌, subst, length, refl}
use Rattle.std.specs.Prelude.{Some, None}
use Rattle.wh_tasks.specs.Sets.{Stored, AreListed}
use Rattle.wh_tasks.specs.Bars.{AreBars}
use Rattle.wh_tasks.proofs.Nearby.{Any, IsBeside, IsChosen, beside-start, beside-more, beside-skip, beside-all, sought-more, sought-same, found-of, of-found}
use Rattle.wh_tasks.proofs.Walking.{stands-there, walk-stop}
use Rattle.wh_tasks.proofs.Listing.{stop-open, stop-within}
use Rattle.wh_tasks.proofs.task_set.TaskSet.seek_beside.Goals as goal
use Rattle.wh_tasks.proofs.task_set.TaskSet.seek_beside.Goals.{then-none_in, else-none_in}

pub loop-at-init : goal.loop-at-init
loop-at-init g c =
    let grid = g.F.Distances.grid c.args.field.now in
    let stops = c.self.inside.stops.stops in
    let own = c.args.own in
    let tasks = c.args.self.now.tasks in
    let ends = c.args.self.now.ends in
    let others = c.args.ends.now in
    let at = c.first-at.result in
    let sought = g.F.Distances.sought c.args.field.now in
    let ens = c.first-at.ensures in
    record {
      stop = stands-there stops own (length stops) at ens.some;
      kept = record {
        grid = refl;
        source = refl;
        holds = sought-same grid (IsChosen tasks ends Any) (IsBeside tasks ends others stops own Any at) sought c.args.found.first c.args.found.last (beside-start tasks ends others stops own Any at c.requires.others ens.some ens.none)
            (of-found grid tasks ends sought c.args.found.first c.args.found.last c.requires.found);
      };
    }

pub task-task-requires : goal.task-task-requires
task-task-requires g c =
    let s = c.self.inside in
    let at = rw c.in-Some.is at c.loop-at.invariant.stop in
    let stands = walk-stop s.stops.stops c.in-Some.k c.task-n.result c.args.own at c.task-n.ensures in
    rw (← ap (λ v. v.tasks) c.self.view_is) (stop-within s.tasks.items s.firsts.items s.stops.stops c.in-Some.k c.task-n.result c.args.own c.self.invariant.0.stops_are stands)

pub loop-at-preserved : goal.loop-at-preserved
loop-at-preserved g c =
    let grid = g.F.Distances.grid c.args.field.now in
    let s = c.self.inside in
    let stops = s.stops.stops in
    let own = c.args.own in
    let tasks = c.args.self.now.tasks in
    let ends = c.args.self.now.ends in
    let others = c.args.ends.now in
    let k = c.in-Some.k in
    let n = c.task-n.result in
    let task = c.task-task.result.now in
    let at = c.next-at.result in
    let sought = g.F.Distances.sought c.loop-at.field in
    let found = c.loop-at.found in
    let kept = c.loop-at.invariant.kept in
    let holds = rw c.in-Some.is at kept.holds in
    let listed : AreListed tasks s.firsts.items stops = subst (λ (v : Stored). AreListed v.tasks s.firsts.items stops) c.self.view_is c.self.invariant.0.stops_are in
    let stands = walk-stop stops k n own (rw c.in-Some.is at c.loop-at.invariant.stop) c.task-n.ensures in
    let ens = c.next-at.ensures in
    let there = c.task-task.ensures.task in
    let was = IsBeside tasks ends others stops own Any (Some k) in
    let is = IsBeside tasks ends others stops own Any at in
    record {
      stop = stands-there stops own k at ens.some;
      kept = elim c.if-none_in.branch [
        | then-none_in w ↦
            let clear = rw c.as_slice.ensures.value at w.if-none_in.ensures.0 refl in
            let now = rw (w.pickup.ensures, kept.grid) at w.seek.ensures.sought in
            rw (w.field-is, w.found-is, w.with-found.ensures.first, w.with-found.ensures.last) (record {
              grid = w.seek.ensures.grid ∙ kept.grid;
              source = w.seek.ensures.source ∙ kept.source;
              holds = sought-more grid was is sought (g.F.Distances.sought w.seek.new.self) found.first found.last n task
                  (beside-more tasks ends others stops own Any k n at task stands ens.some ens.none (record { there = there; is_open = stop-open tasks s.firsts.items stops k n own task listed stands there; clear = clear }) tt) now holds;
            })
        | else-none_in w ↦
            rw (w.field-is, w.found-is) (record {
              grid = kept.grid;
              source = kept.source;
              holds = sought-same grid was is sought found.first found.last
                  (beside-skip tasks ends others stops own Any k n at task stands ens.some ens.none there (λ clear any. (let no = (rw c.as_slice.ensures.value at w.if-none_in.ensures.1) clear in cc))) holds;
            })
      ];
    }

pub returns-clause-found : goal.returns-clause-found
returns-clause-found g c =
    let grid = g.F.Distances.grid c.args.field.now in
    let s = c.self.inside in
    let stops = s.stops.stops in
    let own = c.args.own in
    let tasks = c.args.self.now.tasks in
    let ends = c.args.self.now.ends in
    let others = c.args.ends.now in
    let sought = g.F.Distances.sought c.loop-at.field in
    let found = c.loop-at.found in
    let holds = rw c.in_default.is at c.loop-at.invariant.kept.holds in
    let listed : AreListed tasks s.firsts.items stops = subst (λ (v : Stored). AreListed v.tasks s.firsts.items stops) c.self.view_is c.self.invariant.0.stops_are in
    let bars : AreBars tasks ends s.bars.items s.clear.members = subst (λ (v : Stored). AreBars v.tasks v.ends s.bars.items s.clear.members) c.self.view_is c.self.invariant.0.bars_are in
    found-of grid tasks others sought found.first found.last
    (sought-same grid (IsBeside tasks ends others stops own Any None) (IsChosen tasks others Any) sought found.first found.last
    (beside-all tasks ends others stops s.firsts.items s.bars.items s.clear.members own Any listed bars c.requires.others) holds)
