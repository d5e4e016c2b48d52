use Rattle.std.proofs.Common.{[], refl}
use Rattle.std.proofs.lemmas.List.{get_or-map, length-map}
use Rattle.wh_path.specs.Paths.{end, ends, end_of}
use Rattle.wh_state.proofs.StandingLemmas.{ends-others}
use Rattle.wh_book.proofs.choice.rests_at_once.Goals as goal

pub has_none_for-requires : goal.has_none_for-requires
has_none_for-requires c = rw (c.tasks.ensures.ends, length-map c.args.floor.now.state.paths end) c.requires

pub returns-then-not-strays-clause-none : goal.returns-then-not-strays-clause-none
returns-then-not-strays-clause-none c =
    let paths = c.args.floor.now.state.paths in
    rw (c.tasks.ensures.tasks, c.tasks.ensures.ends, ends-others paths (ends paths) c.args.agent refl) at c.has_none_for.ensures.none

pub returns-then-not-strays-clause-out_of_the_way : goal.returns-then-not-strays-clause-out_of_the_way
returns-then-not-strays-clause-out_of_the_way c rests =
    let s = c.args.floor.now.state in
    let there = end_of s.paths c.args.agent in
    rw (c.tasks.ensures.tasks, c.tasks.ensures.ends) at c.has_none_for.ensures.away rests there (get_or-map end s.paths c.args.agent [] there c.requires)
