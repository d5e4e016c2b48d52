use Rattle.std.proofs.Common.{ℕ, List, [], length, sym, ap, subst, arith}
use Rattle.wh_field.specs.Tables.{IsForgotten}
use Rattle.wh_field.specs.Places.{IsStarted}
use Rattle.wh_field.proofs.Starts.{start_none}
use Rattle.wh_field.proofs.Forgets.{forgotten_open}
use Rattle.wh_field.proofs.opening.begin_again.Goals as goal

pub start-requires-clause-room : goal.start-requires-clause-room
start-requires-clause-room c =
    let count = c.forget.ensures.count in
    let room = c.requires.room.room in
    let empty = ap length c.clear.ensures.items in
    let same = c.clear.ensures.capacity in
    record { room = omega arith }

pub returns-clause-started : goal.returns-clause-started
returns-clause-started c = λ g sources d layer v h f s.
    let now = c.forget.new.table in
    let opened = forgotten_open g sources d c.args.table.now layer c.args.queue.now.items now f s c.requires.listed (subst (λ xs. IsForgotten c.args.table.now xs now) c.deref.ensures.value c.forget.ensures) in
    let P : List ℕ → Type 0 = λ q. IsStarted g [] [] now q in
    c.start.ensures.started g [] [] v h (subst P (sym c.clear.ensures.items) (start_none g [] now opened))
