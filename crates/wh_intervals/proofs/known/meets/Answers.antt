use Rattle.std.proofs.Common.{◌≡◌, ◌∙◌, cond, Some, List, ap}
use Rattle.wh_intervals.specs.Closings.{interval_eq}
use Rattle.wh_intervals.specs.Places.{known_in}
use Rattle.wh_intervals.specs.declared.interval.Interval.{Interval}
use Rattle.wh_intervals.specs.declared.intervals.Noted.{Noted}
use Rattle.wh_intervals.specs.declared.known.Known.{Known}
use Rattle.wh_intervals.proofs.Closings.{closed_stays}
use Rattle.wh_intervals.proofs.Places.{known_written, since_latest}
use Rattle.wh_intervals.proofs.known.meets.Goals as goal

pub returns-clause-closed : goal.returns-clause-closed
returns-clause-closed c =
    let i = c.interval_of.result in
    let place = c.in_ok-place.place in
    let middle = c.number_of.new.self in
    let latest = c.in_ok-place.ensures.latest in
    let w = c.meets-met.new.self in
    let new = known_in c.set.new.self in
    let written : (q : Interval) → new q ≡ cond (interval_eq i q) (Some w) (known_in middle q) = λ q. ap (λ (l : List Noted). known_in l q) c.set.ensures ∙ known_written middle i place w latest q in
    closed_stays (known_in middle) new i w written (c.meets-met.ensures.since ∙ ap (λ (k : Known). k.since) c.known-known.ensures ∙ since_latest middle i place latest) ∙ c.in_ok-place.ensures.same
