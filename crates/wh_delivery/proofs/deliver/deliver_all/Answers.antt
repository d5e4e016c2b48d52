use Rattle.std.proofs.Common.{◌≡◌, ◌++◌, refl, sym, subst, ap, ◌∙◌, inr, arith}
use Rattle.wh_core.specs.Steps.{last_clock}
use Rattle.wh_core.specs.States.{State}
use Rattle.wh_delivery.specs.Deliveries.{Begins, IsDelivering, IsWhy}
use Rattle.wh_delivery.proofs.Going.{goes-trans, ways-stay}
use Rattle.wh_delivery.proofs.Rounds.{in-turn-behind, in-turn-still, delivering-none, delivering-more, all-rest, delivered, held, late-within, late, within, bounded, full}
use Rattle.wh_delivery.proofs.deliver.deliver_all.Goals as goal

pub loop-ticks-init : goal.loop-ticks-init
loop-ticks-init g c = record {
  begun = record {
    begins = c.history-run.ensures.opening;
    run = c.history-run.ensures.run;
  };
  delivering = delivering-none c.args.caller c.args.warehouse.now.book;
}

pub returns-in-Ok-true-clause-goes : goal.returns-in-Ok-true-clause-goes
returns-in-Ok-true-clause-goes g c =
    let d = c.loop-ticks.invariant.delivering in
    let a = c.in-Ok-true.ensures.asked in
    (d.added ++ a.0, goes-trans c.args.caller c.args.warehouse.now.book c.loop-ticks.warehouse.book c.begin.new.warehouse.book d.added a.0 d.goes a.1)

pub returns-in-Ok-true-clause-still : goal.returns-in-Ok-true-clause-still
returns-in-Ok-true-clause-still g c =
    let now = c.loop-ticks.warehouse.book in
    let new = c.begin.new.warehouse.book in
    let a = c.in-Ok-true.ensures.asked in
    (all-rest c.args.caller now new a.0 a.1 (subst (λ r. Begins now.site now.state r a.0 new.state) c.in-Ok-true.field-0-test a.3)).1

pub returns-in-Ok-true-clause-held : goal.returns-in-Ok-true-clause-held
returns-in-Ok-true-clause-held g c =
    let now = c.loop-ticks.warehouse.book in
    let new = c.begin.new.warehouse.book in
    let a = c.in-Ok-true.ensures.asked in
    held c.args.caller c.args.warehouse.now.book now new c.loop-ticks.ticks a.0 c.loop-ticks.invariant.begun c.loop-ticks.invariant.delivering a.1
    (subst (λ r. Begins now.site now.state r a.0 new.state) c.in-Ok-true.field-0-test a.3)

pub returns-in-Ok-true-clause-all_done : goal.returns-in-Ok-true-clause-all_done
returns-in-Ok-true-clause-all_done g c =
    let now = c.loop-ticks.warehouse.book in
    let new = c.begin.new.warehouse.book in
    let a = c.in-Ok-true.ensures.asked in
    delivered c.args.caller c.args.warehouse.now.book now new c.loop-ticks.ticks a.0 c.loop-ticks.invariant.begun c.loop-ticks.invariant.delivering a.1
    (subst (λ r. Begins now.site now.state r a.0 new.state) c.in-Ok-true.field-0-test a.3)

pub returns-in-Ok-true-clause-done : goal.returns-in-Ok-true-clause-done
returns-in-Ok-true-clause-done g c ways off some few =
    let now = c.loop-ticks.warehouse.book in
    let new = c.begin.new.warehouse.book in
    let a = c.in-Ok-true.ensures.asked in
    delivered c.args.caller c.args.warehouse.now.book now new c.loop-ticks.ticks a.0 c.loop-ticks.invariant.begun c.loop-ticks.invariant.delivering a.1
    (subst (λ r. Begins now.site now.state r a.0 new.state) c.in-Ok-true.field-0-test a.3) ways some (inr (off, few))

pub returns-in-Ok-true-clause-within : goal.returns-in-Ok-true-clause-within
returns-in-Ok-true-clause-within g c =
    within c.args.caller c.args.warehouse.now.book c.loop-ticks.warehouse.book c.loop-ticks.ticks c.loop-ticks.invariant.delivering

pub returns-in-Ok-true-clause-bounded : goal.returns-in-Ok-true-clause-bounded
returns-in-Ok-true-clause-bounded g c =
    bounded c.args.caller c.args.warehouse.now.book c.loop-ticks.warehouse.book c.loop-ticks.ticks c.loop-ticks.invariant.begun c.loop-ticks.invariant.delivering

pub returns-in-Err-clause-goes : goal.returns-in-Err-clause-goes
returns-in-Err-clause-goes g c =
    let d = c.loop-ticks.invariant.delivering in
    let a = c.in-Err.ensures.asked in
    (d.added ++ a.0, goes-trans c.args.caller c.args.warehouse.now.book c.loop-ticks.warehouse.book c.begin.new.warehouse.book d.added a.0 d.goes a.1)

pub returns-in-Err-tick-clause-goes : goal.returns-in-Err-tick-clause-goes
returns-in-Err-tick-clause-goes g c =
    let d = c.loop-ticks.invariant.delivering in
    let a = c.in-Ok-false.ensures.asked in
    let t = c.in-Err-tick.ensures.ticked in
    let first = goes-trans c.args.caller c.args.warehouse.now.book c.loop-ticks.warehouse.book c.begin.new.warehouse.book d.added a.0 d.goes a.1 in
    ((d.added ++ a.0) ++ t.0, goes-trans c.args.caller c.args.warehouse.now.book c.begin.new.warehouse.book c.tick.new.warehouse.book (d.added ++ a.0) t.0 first t.1)

pub loop-ticks-preserved : goal.loop-ticks-preserved
loop-ticks-preserved g c =
    let now = c.loop-ticks.warehouse.book in
    let mid = c.begin.new.warehouse.book in
    let a = c.in-Ok-false.ensures.asked in
    let t = c.in-Ok.ensures.ticked in
    record {
      begun = c.loop-ticks.invariant.begun;
      delivering = delivering-more c.args.caller c.args.warehouse.now.book now mid c.tick.new.warehouse.book c.loop-ticks.ticks a.0 t.0
          c.loop-ticks.invariant.begun c.loop-ticks.invariant.delivering a.1 a.2
          (subst (λ r. Begins now.site now.state r a.0 mid.state) c.in-Ok-false.field-0-test a.3) t.1 t.2.0 t.2.1;
    }

pub returns-in-Err-clause-formed : goal.returns-in-Err-clause-formed
returns-in-Err-clause-formed g c is ways =
    let d = c.loop-ticks.invariant.delivering in
    c.in-Err.ensures.formed is (ways-stay c.args.warehouse.now.book c.loop-ticks.warehouse.book d.goes.stays ways)

pub returns-in-Err-tick-clause-formed : goal.returns-in-Err-tick-clause-formed
returns-in-Err-tick-clause-formed g c is = absurd (c.in-Err-tick.ensures.moving is)

pub returns-clause-why : goal.returns-clause-why
returns-clause-why g c =
    let all : c.loop-ticks.ticks ≡ last_clock = (let l = c.loop-ticks-test.false in let m = c.loop-ticks.auto.ticks-end in omega arith) in
    full c.args.caller c.args.warehouse.now.book c.loop-ticks.warehouse.book c.loop-ticks.invariant.begun
    (subst (λ n. IsDelivering c.args.caller c.args.warehouse.now.book n c.loop-ticks.warehouse.book) all c.loop-ticks.invariant.delivering)

pub returns-in-Err-tick-clause-late_within : goal.returns-in-Err-tick-clause-late_within
returns-in-Err-tick-clause-late_within g c is =
    let book = c.args.warehouse.now.book in
    let now = c.loop-ticks.warehouse.book in
    let a = c.in-Ok-false.ensures.asked in
    let same = c.in-Err-tick.ensures.same in
    let clock : c.tick.new.warehouse.book.state.clock ≡ now.state.clock = ap (λ (s : State). s.clock) same ∙ a.3.on_time.clock in
    late-within c.args.caller book now c.tick.new.warehouse.book.state c.loop-ticks.ticks c.loop-ticks.invariant.delivering clock
    (subst (λ f. IsWhy c.tick.new.warehouse.book.site f c.tick.new.warehouse.book.state) is c.in-Err-tick.ensures.why)

pub returns-in-Err-tick-clause-late : goal.returns-in-Err-tick-clause-late
returns-in-Err-tick-clause-late g c is =
    let book = c.args.warehouse.now.book in
    let now = c.loop-ticks.warehouse.book in
    let a = c.in-Ok-false.ensures.asked in
    let same = c.in-Err-tick.ensures.same in
    let clock : c.tick.new.warehouse.book.state.clock ≡ now.state.clock = ap (λ (s : State). s.clock) same ∙ a.3.on_time.clock in
    late c.args.caller book now c.tick.new.warehouse.book.state c.loop-ticks.ticks c.loop-ticks.invariant.begun c.loop-ticks.invariant.delivering clock
    (subst (λ f. IsWhy c.tick.new.warehouse.book.site f c.tick.new.warehouse.book.state) is c.in-Err-tick.ensures.why)

pub returns-clause-late_within : goal.returns-clause-late_within
returns-clause-late_within g c is =
    let book = c.args.warehouse.now.book in
    let now = c.loop-ticks.warehouse.book in
    let all : c.loop-ticks.ticks ≡ last_clock = (let l = c.loop-ticks-test.false in let m = c.loop-ticks.auto.ticks-end in omega arith) in
    let last = full c.args.caller book now c.loop-ticks.invariant.begun
    (subst (λ n. IsDelivering c.args.caller book n now) all c.loop-ticks.invariant.delivering) in
    late-within c.args.caller book now now.state c.loop-ticks.ticks c.loop-ticks.invariant.delivering refl last

pub returns-clause-late : goal.returns-clause-late
returns-clause-late g c is =
    let book = c.args.warehouse.now.book in
    let now = c.loop-ticks.warehouse.book in
    let all : c.loop-ticks.ticks ≡ last_clock = (let l = c.loop-ticks-test.false in let m = c.loop-ticks.auto.ticks-end in omega arith) in
    let last = full c.args.caller book now c.loop-ticks.invariant.begun
    (subst (λ n. IsDelivering c.args.caller book n now) all c.loop-ticks.invariant.delivering) in
    late c.args.caller book now now.state c.loop-ticks.ticks c.loop-ticks.invariant.begun c.loop-ticks.invariant.delivering refl last

pub returns-in-Ok-true-clause-in_turn : goal.returns-in-Ok-true-clause-in_turn
returns-in-Ok-true-clause-in_turn g c =
    let d = c.loop-ticks.invariant.delivering in
    let a = c.in-Ok-true.ensures.asked in
    in-turn-behind c.args.caller c.args.warehouse.now.book c.loop-ticks.warehouse.book c.begin.new.warehouse.book c.loop-ticks.ticks a.0 d a.1 a.2

pub returns-in-Err-clause-in_turn : goal.returns-in-Err-clause-in_turn
returns-in-Err-clause-in_turn g c =
    let d = c.loop-ticks.invariant.delivering in
    let a = c.in-Err.ensures.asked in
    in-turn-behind c.args.caller c.args.warehouse.now.book c.loop-ticks.warehouse.book c.begin.new.warehouse.book c.loop-ticks.ticks a.0 d a.1 a.2

pub returns-in-Err-tick-clause-in_turn : goal.returns-in-Err-tick-clause-in_turn
returns-in-Err-tick-clause-in_turn g c =
    let d = c.loop-ticks.invariant.delivering in
    let a = c.in-Ok-false.ensures.asked in
    let t = c.in-Err-tick.ensures.ticked in
    in-turn-still c.args.caller c.args.warehouse.now.book c.loop-ticks.warehouse.book c.begin.new.warehouse.book c.tick.new.warehouse.book c.loop-ticks.ticks a.0 t.0 d a.1 a.2
    t.1 t.2
