use Rattle.std.proofs.Common.{◌∙◌, sym}
use Rattle.std.proofs.lemmas.Bool.{false≢true}
use Rattle.wh_planner.specs.Duties.{ParksAt}
use Rattle.wh_core.specs.Steps.{IsAllowed}
use Rattle.wh_judge.proofs.Courses.{lawful-from, course-from}
use Rattle.wh_judge.proofs.Reachable.{begins-there, ways-there}
use Rattle.wh_judge.proofs.requests.may_park.Goals as goal

pub may_end-requires-clause-begins : goal.may_end-requires-clause-begins
may_end-requires-clause-begins c = rw (c.points.ensures.value, c.homes.ensures) (begins-there c.args.instance.now c.args.floor.now.state c.requires.reached)

pub may_end-requires-clause-ways : goal.may_end-requires-clause-ways
may_end-requires-clause-ways c =
    rw (c.points.ensures.value, c.homes.ensures) (λ e. ways-there c.args.instance.now c.args.floor.now.state (c.requires.ways e))

pub returns-then-not-may_end : goal.returns-then-not-may_end
returns-then-not-may_end c =
    let may = rw (c.end.ensures, c.points.ensures.value, c.homes.ensures) at (c.may_end.ensures c.args.instance.now.grid) in
    (λ e. absurd (false≢true e), λ lawful. absurd (false≢true (sym c.if-not-may_end.true ∙ may.1 lawful.serves)))

pub returns : goal.returns
returns c =
    let site = c.args.instance.now in
    let s = c.args.floor.now.state in
    let agent = c.args.agent in
    let path = c.args.path.now in
    let course = rw (c.grid.ensures.value, c.nofollow.ensures, c.timetable.ensures.value) at c.is_course.ensures in
    let may = rw (c.end.ensures, c.points.ensures.value, c.homes.ensures) at (c.may_end.ensures site.grid) in
    let serves = may.0 c.if-not-may_end.false in (
      λ ok. lawful-from site.grid site.layout.nofollow s.paths agent 2 (ParksAt (IsAllowed site s agent)) path (course.0 ok) serves,
      λ lawful. course.1 (course-from site.grid site.layout.nofollow s.paths agent 2 (ParksAt (IsAllowed site s agent)) path lawful),
    )
