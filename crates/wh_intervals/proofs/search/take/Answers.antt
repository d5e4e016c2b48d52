use Rattle.std.proofs.Common.{◌≡◌, ◌<◌, [], ◌∷◌, ◌++◌, ℕ, Option, None, length, sym, subst, arith}
use Rattle.std.proofs.lemmas.List.{get_or_read, length-append}
use Rattle.wh_intervals.specs.Closings.{closed_by, Notes}
use Rattle.wh_intervals.specs.Nodes.{node_at, interval_of, IsOnward}
use Rattle.wh_intervals.specs.Places.{known_in}
use Rattle.wh_intervals.specs.Problems.{problem}
use Rattle.wh_intervals.specs.Told.{IsPast, IsRest, IsTold}
use Rattle.wh_intervals.specs.declared.interval.Interval.{Interval}
use Rattle.wh_intervals.specs.declared.node.Node.{Node}
use Rattle.wh_intervals.proofs.Closings.{if_some, if_none}
use Rattle.wh_intervals.proofs.Kept.{kept_done}
use Rattle.wh_intervals.proofs.Told.{part_of, last_within, rest_kept, past_expanded, told_skip, told_note}
use Rattle.wh_intervals.proofs.search.take.Goals as goal

pub returns-in_default-clause-kept : goal.returns-in_default-clause-kept
returns-in_default-clause-kept c =
    let p = problem c.args.errand.now in
    let nodes = c.args.states.now.nodes.items in
    let queue = c.args.states.now.queue in
    let closed = closed_by (known_in c.args.states.now.intervals) in
    let n = node_at nodes c.args.index in
    let x = c.index-node.result.now in
    let within : c.args.index < length nodes = omega arith in
    let is : x ≡ n = get_or_read nodes c.args.index x within c.index-node.ensures (record { time = 0; leg = 0; cell = record { x = 0; y = 0 }; until = 0; parent = 0 }) in
    let past : IsPast closed n = subst (IsPast closed) is (if_none c.in_ok-last.field-0 _ c.in_default.is c.in_ok-last.ensures.past) in
    let r = c.requires.kept.all.reached c.args.index within in
    kept_done p nodes queue c.args.index c.requires.kept (past_expanded p nodes queue c.requires.told.stays n past.since (c.requires.told.told.spent (interval_of n) past.since past.closed_is) past.from r.from)

pub returns-in_default-clause-told : goal.returns-in_default-clause-told
returns-in_default-clause-told c =
    let p = problem c.args.errand.now in
    let nodes = c.args.states.now.nodes.items in
    let queue = c.args.states.now.queue in
    let stays = c.requires.told.stays in
    let closed = closed_by (known_in c.args.states.now.intervals) in
    let n = node_at nodes c.args.index in
    let x = c.index-node.result.now in
    let within : c.args.index < length nodes = omega arith in
    let is : x ≡ n = get_or_read nodes c.args.index x within c.index-node.ensures (record { time = 0; leg = 0; cell = record { x = 0; y = 0 }; until = 0; parent = 0 }) in
    let past : IsPast closed n = subst (IsPast closed) is (if_none c.in_ok-last.field-0 _ c.in_default.is c.in_ok-last.ensures.past) in
    record {
      stays = stays;
      number = c.requires.told.number;
      told = subst (λ (f : Interval → Option ℕ). IsTold p nodes queue None f stays) (sym (if_none c.in_ok-last.field-0 _ c.in_default.is c.in_ok-last.ensures.same)) (told_skip p nodes queue c.args.index closed stays c.requires.told.told past);
    }

pub expand-requires-clause-in_time : goal.expand-requires-clause-in_time
expand-requires-clause-in_time c =
    let p = problem c.args.errand.now in
    let nodes = c.args.states.now.nodes.items in
    let closed = closed_by (known_in c.args.states.now.intervals) in
    let n = node_at nodes c.args.index in
    let x = c.index-node.result.now in
    let within : c.args.index < length nodes = omega arith in
    let is : x ≡ n = get_or_read nodes c.args.index x within c.index-node.ensures (record { time = 0; leg = 0; cell = record { x = 0; y = 0 }; until = 0; parent = 0 }) in
    let last = c.in-Some.last in
    let rest : IsRest (closed (interval_of n)) n last = subst (λ (m : Node). IsRest (closed (interval_of m)) m last) is (if_some c.in_ok-last.field-0 last (IsRest (closed (interval_of x)) x) c.in-Some.is c.in_ok-last.ensures.rest) in
    omega (arith, c.from.ensures, last_within p nodes c.args.states.now.queue closed c.requires.told.stays n last c.requires.told.told.spent rest)

pub returns-clause-kept : goal.returns-clause-kept
returns-clause-kept c =
    let p = problem c.args.errand.now in
    let nodes = c.args.states.now.nodes.items in
    let queue = c.args.states.now.queue in
    let stays = c.requires.told.stays in
    let closed = closed_by (known_in c.args.states.now.intervals) in
    let n = node_at nodes c.args.index in
    let x = c.index-node.result.now in
    let within : c.args.index < length nodes = omega arith in
    let is : x ≡ n = get_or_read nodes c.args.index x within c.index-node.ensures (record { time = 0; leg = 0; cell = record { x = 0; y = 0 }; until = 0; parent = 0 }) in
    let last = c.in-Some.last in
    let rest : IsRest (closed (interval_of n)) n last = subst (λ (m : Node). IsRest (closed (interval_of m)) m last) is (if_some c.in_ok-last.field-0 last (IsRest (closed (interval_of x)) x) c.in-Some.is c.in_ok-last.ensures.rest) in
    let new = c.expand.new.self.nodes.items in
    let made = c.in_ok-expand.ensures in
    let onward : IsOnward p new n last = subst (IsOnward p new n) c.from.ensures made.onward in
    rest_kept p nodes queue new c.expand.new.self.queue c.args.index closed stays last c.requires.told.told within c.requires.past made.kept made.spreads rest onward c.requires.no_end

pub returns-clause-told : goal.returns-clause-told
returns-clause-told c =
    let p = problem c.args.errand.now in
    let nodes = c.args.states.now.nodes.items in
    let queue = c.args.states.now.queue in
    let stays = c.requires.told.stays in
    let closed = closed_by (known_in c.args.states.now.intervals) in
    let n = node_at nodes c.args.index in
    let x = c.index-node.result.now in
    let within : c.args.index < length nodes = omega arith in
    let is : x ≡ n = get_or_read nodes c.args.index x within c.index-node.ensures (record { time = 0; leg = 0; cell = record { x = 0; y = 0 }; until = 0; parent = 0 }) in
    let last = c.in-Some.last in
    let rest : IsRest (closed (interval_of n)) n last = subst (λ (m : Node). IsRest (closed (interval_of m)) m last) is (if_some c.in_ok-last.field-0 last (IsRest (closed (interval_of x)) x) c.in-Some.is c.in_ok-last.ensures.rest) in
    let new = c.expand.new.self.nodes.items in
    let new_queue = c.expand.new.self.queue in
    let middle = closed_by (known_in c.close.new.intervals) in
    let new_closed = closed_by (known_in c.expand.new.self.intervals) in
    let made = c.in_ok-expand.ensures in
    let onward : IsOnward p new n last = subst (IsOnward p new n) c.from.ensures made.onward in
    let noted : Notes closed middle (interval_of n) n.time = subst (λ (m : Node). Notes closed middle (interval_of m) m.time) is (if_some c.in_ok-last.field-0 last (λ l. Notes closed middle (interval_of x) x.time) c.in-Some.is c.in_ok-last.ensures.notes) in
    let notes : Notes closed new_closed (interval_of n) n.time = subst (λ (f : Interval → Option ℕ). Notes closed f (interval_of n) n.time) (sym made.closed) noted in
    record {
      stays = stays ++ part_of n last ∷ [];
      number = omega (arith, c.requires.told.number, length-append stays (part_of n last ∷ []));
      told = told_note p nodes queue new new_queue c.args.index closed new_closed stays last c.requires.told.told within c.requires.kept.all.reached c.requires.may_lead c.requires.past c.requires.first c.requires.no_end rest made.spreads onward notes;
    }
