use Rattle.wh_planner.specs.Duties.{Delivers}
use Rattle.wh_judge.proofs.Courses.{lawful-from, course-from}
use Rattle.wh_judge.proofs.course.may_deliver.Goals as goal

pub returns : goal.returns
returns c =
    let stops = c.args.stops.now in (
      λ ok. lawful-from c.args.grid.now c.args.nofollow c.args.paths.now c.args.agent c.args.legs (Delivers stops) c.args.path.now
          (c.is_course.ensures.0 ok) (c.goes_through.ensures.0 c.if-not-goes_through.false),
      λ lawful. c.is_course.ensures.1
          (course-from c.args.grid.now c.args.nofollow c.args.paths.now c.args.agent c.args.legs (Delivers stops) c.args.path.now lawful),
    )
