use Rattle.std.proofs.Common.{◌≡◌, ◌≢◌, ◌+◌, ◌<◌, ◌∙◌, List, [], ◌∷◌, ◌++◌, length, map, take, drop, ap, sym, subst}
use Rattle.std.specs.List.{AllPairs}
use Rattle.std.proofs.lemmas.Result.{err_from_is_err_and}
use Rattle.wh_grid.specs.declared.cell.Cell.{Cell}
use Rattle.wh_path.specs.Paths.{at}
use Rattle.wh_event.specs.declared.entry.Entry.{Entry}
use Rattle.wh_order.specs.Orders.{Order}
use Rattle.wh_vehicles.specs.Plans.{places}
use Rattle.wh_arrivals.proofs.Walks.{Walked, differ-beginning, walked-start, walked-still, due, walked-tick, walked-all, comes-too-early, tells-fault, walked-at, walked-on, parts-at, walked-end}
use Rattle.wh_arrivals.proofs.standing.stand_from.Goals.{then-is_tick+in_ok-write_row-2+in_ok-go_on, else-is_tick}
use Rattle.wh_arrivals.proofs.standing.stand_from.Goals as goal

pub open-requires-clause-differ : goal.open-requires-clause-differ
open-requires-clause-differ c =
    let book = c.args.book.now in
    let row_is : c.as_slice-2.result.now ≡ places book.opening =
    c.as_slice-2.ensures.value ∙ c.in_ok-write_row.ensures ∙ ap (map (λ (path : List Cell). at path 0)) (c.as_slice.ensures.value ∙ c.requires.paths) in
    subst (λ (row : List Cell). AllPairs (λ a b. a ≢ b) row) (sym row_is) (differ-beginning book c.history-history.ensures.opening)

pub loop-entry-init : goal.loop-entry-init
loop-entry-init c =
    let book = c.args.book.now in
    let row_is : c.as_slice-2.result.now ≡ places book.opening =
    c.as_slice-2.ensures.value ∙ c.in_ok-write_row.ensures ∙ ap (map (λ (path : List Cell). at path 0)) (c.as_slice.ensures.value ∙ c.requires.paths) in
    subst (λ (es : List Entry). Walked book c.args.ahead c.args.steps.now [] es c.args.paths.items c.in_ok-order.order) (sym c.history-history.ensures.value)
    (walked-start book c.args.ahead c.args.steps.now c.as_slice-2.result.now c.args.paths.items c.in_ok-order.order c.history-history.ensures.opening c.history-history.ensures.run
    c.requires.all row_is c.requires.paths c.in_ok-order.ensures.represents)

pub go_on-requires-clause-fits : goal.go_on-requires-clause-fits
go_on-requires-clause-fits c =
    let h = c.history-history.result.now in
    let k = c.loop-entry.entry-index in
    let entry = c.entry-item.result in
    let lt : k < length h = c.loop-entry-test.true in
    let w = walked-at c.args.book.now c.args.ahead c.args.steps.now h k entry c.loop-entry.paths.items c.loop-entry.order lt c.entry-item.is c.loop-entry.invariant in
    let row = c.as_slice-then-is_tick-2.result.now in
    let ready = due c.args.book.now c.args.ahead c.args.steps.now (take k h) entry (drop (k + 1) h) c.loop-entry.paths.items c.follow.new.paths.items row c.loop-entry.order
    c.history-history.ensures.opening c.requires.some w c.in_ok-follow.ensures (sym c.is_tick.ensures ∙ c.if-is_tick.true)
    (c.as_slice-then-is_tick-2.ensures.value ∙ c.in_ok-write_row-2.ensures ∙ ap (map (λ (path : List Cell). at path 0)) c.as_slice-then-is_tick.ensures.value) in
    ready.fits

pub go_on-requires-clause-all : goal.go_on-requires-clause-all
go_on-requires-clause-all c =
    let h = c.history-history.result.now in
    let k = c.loop-entry.entry-index in
    let entry = c.entry-item.result in
    let lt : k < length h = c.loop-entry-test.true in
    let w = walked-at c.args.book.now c.args.ahead c.args.steps.now h k entry c.loop-entry.paths.items c.loop-entry.order lt c.entry-item.is c.loop-entry.invariant in
    let row = c.as_slice-then-is_tick-2.result.now in
    let ready = due c.args.book.now c.args.ahead c.args.steps.now (take k h) entry (drop (k + 1) h) c.loop-entry.paths.items c.follow.new.paths.items row c.loop-entry.order
    c.history-history.ensures.opening c.requires.some w c.in_ok-follow.ensures (sym c.is_tick.ensures ∙ c.if-is_tick.true)
    (c.as_slice-then-is_tick-2.ensures.value ∙ c.in_ok-write_row-2.ensures ∙ ap (map (λ (path : List Cell). at path 0)) c.as_slice-then-is_tick.ensures.value) in
    ready.all

pub go_on-requires-clause-differ : goal.go_on-requires-clause-differ
go_on-requires-clause-differ c =
    let h = c.history-history.result.now in
    let k = c.loop-entry.entry-index in
    let entry = c.entry-item.result in
    let lt : k < length h = c.loop-entry-test.true in
    let w = walked-at c.args.book.now c.args.ahead c.args.steps.now h k entry c.loop-entry.paths.items c.loop-entry.order lt c.entry-item.is c.loop-entry.invariant in
    let row = c.as_slice-then-is_tick-2.result.now in
    let ready = due c.args.book.now c.args.ahead c.args.steps.now (take k h) entry (drop (k + 1) h) c.loop-entry.paths.items c.follow.new.paths.items row c.loop-entry.order
    c.history-history.ensures.opening c.requires.some w c.in_ok-follow.ensures (sym c.is_tick.ensures ∙ c.if-is_tick.true)
    (c.as_slice-then-is_tick-2.ensures.value ∙ c.in_ok-write_row-2.ensures ∙ ap (map (λ (path : List Cell). at path 0)) c.as_slice-then-is_tick.ensures.value) in
    ready.may.differ

pub returns-in_err-go_on-clause-err : goal.returns-in_err-go_on-clause-err
returns-in_err-go_on-clause-err c =
    let came = err_from_is_err_and c.from_residual-in_err-go_on.result c.from_residual-in_err-go_on.ensures.1 in
    let h = c.history-history.result.now in
    let k = c.loop-entry.entry-index in
    let entry = c.entry-item.result in
    let lt : k < length h = c.loop-entry-test.true in
    let w = walked-at c.args.book.now c.args.ahead c.args.steps.now h k entry c.loop-entry.paths.items c.loop-entry.order lt c.entry-item.is c.loop-entry.invariant in
    let row = c.as_slice-then-is_tick-2.result.now in
    let ready = due c.args.book.now c.args.ahead c.args.steps.now (take k h) entry (drop (k + 1) h) c.loop-entry.paths.items c.follow.new.paths.items row c.loop-entry.order
    c.history-history.ensures.opening c.requires.some w c.in_ok-follow.ensures (sym c.is_tick.ensures ∙ c.if-is_tick.true)
    (c.as_slice-then-is_tick-2.ensures.value ∙ c.in_ok-write_row-2.ensures ∙ ap (map (λ (path : List Cell). at path 0)) c.as_slice-then-is_tick.ensures.value) in
    let book = c.args.book.now in
    rw came.1 (tells-fault book c.args.ahead c.args.steps.now came.0 (λ agent is rule.
    comes-too-early book c.args.ahead c.args.steps.now (take k h) entry (drop (k + 1) h) row c.follow.new.paths.items c.loop-entry.order w.drive agent
    (sym c.history-history.ensures.value ∙ parts-at h k entry lt c.entry-item.is) ready
    (c.in_err-go_on.ensures.err agent (sym came.2 ∙ is) w.drive w.represents ready.may (ready.rule ∙ rule))))

pub loop-entry-preserved : goal.loop-entry-preserved
loop-entry-preserved c =
    let book = c.args.book.now in
    let steps = c.args.steps.now in
    let h = c.history-history.result.now in
    let k = c.loop-entry.entry-index in
    let entry = c.entry-item.result in
    let lt : k < length h = c.loop-entry-test.true in
    let w = walked-at book c.args.ahead steps h k entry c.loop-entry.paths.items c.loop-entry.order lt c.entry-item.is c.loop-entry.invariant in
    let paths = c.follow.new.paths.items in
    walked-on book c.args.ahead steps h k entry paths c.if-is_tick.order lt c.entry-item.is (elim c.if-is_tick.branch [
      | then-is_tick+in_ok-write_row-2+in_ok-go_on b ↦
          let row = b.as_slice-then-is_tick-2.result.now in
          let ready = due book c.args.ahead steps (take k h) entry (drop (k + 1) h) c.loop-entry.paths.items paths row c.loop-entry.order
          c.history-history.ensures.opening c.requires.some w c.in_ok-follow.ensures (sym c.is_tick.ensures ∙ b.if-is_tick.true)
          (b.as_slice-then-is_tick-2.ensures.value ∙ b.in_ok-write_row-2.ensures ∙ ap (map (λ (path : List Cell). at path 0)) b.as_slice-then-is_tick.ensures.value) in
          let then = b.go_on.new.order in
          subst (λ (o : Order). Walked book c.args.ahead steps (take k h ++ entry ∷ []) (drop (k + 1) h) paths o) (sym b.order-is)
          (walked-tick book c.args.ahead steps (take k h) entry (drop (k + 1) h) c.loop-entry.paths.items paths row c.loop-entry.order then w ready
          (b.in_ok-go_on.ensures.drive w.drive w.represents ready.may) b.in_ok-go_on.ensures.clock b.in_ok-go_on.ensures.stand)
      | else-is_tick b ↦
          subst (λ (o : Order). Walked book c.args.ahead steps (take k h ++ entry ∷ []) (drop (k + 1) h) paths o) (sym b.order-is)
          (walked-still book c.args.ahead steps (take k h) entry (drop (k + 1) h) c.loop-entry.paths.items paths c.loop-entry.order w c.in_ok-follow.ensures (sym c.is_tick.ensures ∙ b.if-is_tick.false))
    ])

pub returns-clause-ok : goal.returns-clause-ok
returns-clause-ok c =
    let book = c.args.book.now in
    let steps = c.args.steps.now in
    walked-all book c.args.ahead steps c.loop-entry.paths.items c.loop-entry.order c.history-history.ensures.opening c.requires.some
    (walked-end book c.args.ahead steps c.history-history.result.now c.loop-entry.entry-index c.loop-entry.paths.items c.loop-entry.order c.history-history.ensures.value c.loop-entry-test.false c.loop-entry.invariant)
