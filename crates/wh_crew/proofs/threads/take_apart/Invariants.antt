use Rattle.std.proofs.Common.{◌≡◌, ◌≤◌, ◌++◌, map, length, vec_capacity}
use Rattle.std.specs.Vec.Iter.{into_iter_items}
use Rattle.wh_crew.proofs.threads.take_apart.Given as goal

-- what was taken apart so far, and the reports that are left
abbrev pub invariant-loop-report : goal.invariant-loop-report
invariant-loop-report g l =
    (l.yielded ++ into_iter_items l.report-iterator ≡ l.fn.reports.items)
    × (l.passes.items ≡ map (λ r. r.pass) l.yielded)
    × (l.missed.items ≡ map (λ r. r.missed) l.yielded)
    × (length l.fn.reports.items ≤ vec_capacity l.passes)
    × (length l.fn.reports.items ≤ vec_capacity l.missed)
    × (vec_capacity l.fn.passes ≤ vec_capacity l.passes)
