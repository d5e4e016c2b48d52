use Rattle.std.proofs.Common.{◌≡◌, ℕ, ◌≤◌, ◌∙◌, cond, Option, Some, List, sym, ap, subst}
use Rattle.wh_intervals.specs.Closings.{interval_eq, closed_by, Notes}
use Rattle.wh_intervals.specs.Nodes.{interval_of}
use Rattle.wh_intervals.specs.Places.{known_in}
use Rattle.wh_intervals.specs.Told.{IsPast, IsRest}
use Rattle.wh_intervals.specs.declared.interval.Interval.{Interval}
use Rattle.wh_intervals.specs.declared.intervals.Noted.{Noted}
use Rattle.wh_intervals.specs.declared.known.Known.{Known}
use Rattle.wh_intervals.proofs.Closings.{closed_stays, closed_notes, some_weaker, none_weaker}
use Rattle.wh_intervals.proofs.Places.{known_written, since_latest}
use Rattle.wh_intervals.proofs.known.close_at.Goals as goal
use Rattle.wh_intervals.proofs.known.close_at.Goals.{After-known-known, After-set}

-- what is known at the place is what was known of the node's interval
here : (c : After-known-known) → c.known-known.result.since ≡ closed_by (known_in c.args.intervals.now) (interval_of c.args.node)
here c = ap (λ (k : Known). k.since) c.known-known.ensures ∙ since_latest c.args.intervals.now (interval_of c.args.node) c.args.place c.requires

-- and what is written there is known of it from now on
written : (c : After-set) (q : Interval) → known_in c.set.new.self q ≡ cond (interval_eq (interval_of c.args.node) q) (Some c.close-left.new.self) (known_in c.args.intervals.now q)
written c q = ap (λ (l : List Noted). known_in l q) c.set.ensures ∙ known_written c.args.intervals.now (interval_of c.args.node) c.args.place c.close-left.new.self c.requires q

pub returns-clause-rest : goal.returns-clause-rest
returns-clause-rest c =
    let a = (goal.at.returns-clause-rest c).After-known-known in
    let n = c.args.node in
    let old = closed_by (known_in c.args.intervals.now) in
    some_weaker (IsRest c.known-known.result.since n) (IsRest (old (interval_of n)) n) c.close-left.result (λ last h. subst (λ (s : Option ℕ). IsRest s n last) (here a) h) c.close-left.ensures.rest

pub returns-clause-notes : goal.returns-clause-notes
returns-clause-notes c =
    let b = (goal.at.returns-clause-notes c).After-set in
    let n = c.args.node in
    let w = c.close-left.new.self in
    let old = known_in c.args.intervals.now in
    let new = known_in c.set.new.self in
    some_weaker (λ last. w.since ≡ Some n.time) (λ last. Notes (closed_by old) (closed_by new) (interval_of n) n.time) c.close-left.result (λ last e. closed_notes old new (interval_of n) w n.time (written b) e) c.close-left.ensures.noted

pub returns-clause-past : goal.returns-clause-past
returns-clause-past c =
    let a = (goal.at.returns-clause-past c).After-known-known in
    let n = c.args.node in
    let old = closed_by (known_in c.args.intervals.now) in
    let was = c.known-known.result in
    none_weaker ((t : ℕ) × (was.since ≡ Some t) × (t ≤ n.time)) (IsPast old n) c.close-left.result (λ h. record { since = h.0; closed_is = sym (here a) ∙ h.1; from = h.2 }) c.close-left.ensures.past

pub returns-clause-same : goal.returns-clause-same
returns-clause-same c =
    let a = (goal.at.returns-clause-same c).After-known-known in
    let b = (goal.at.returns-clause-same c).After-set in
    let w = c.close-left.new.self in
    let was = c.known-known.result in
    let old = known_in c.args.intervals.now in
    let new = known_in c.set.new.self in
    none_weaker (w.since ≡ was.since) (closed_by new ≡ closed_by old) c.close-left.result (λ e. closed_stays old new (interval_of c.args.node) w (written b) (e ∙ here a)) c.close-left.ensures.same
