-- What may be committed may be committed still, where the book tells the same and has no less room.
use Rattle.std.proofs.Common.{ℕ, ◌≤◌, sym, subst, arith}
use Rattle.wh_points.specs.Points.{Site}
use Rattle.wh_core.specs.States.{State}
use Rattle.wh_core.specs.Steps.{Step}
use Rattle.wh_book.specs.declared.draft.Change.{Change}
use Rattle.wh_book.specs.Drafts.{Seen, Changes, CanChange, IsSame, StaysReady}

can_stay : (change : Change) (s : State) (before after : ℕ) → before ≤ after → CanChange change (record { state = s; room = before }) → CanChange change (record { state = s; room = after })
can_stay Change.Nothing s before after more can = can
can_stay (Change.Add client stops) s before after more can = let one : 1 ≤ before = can.0 in (omega arith, can.1)
can_stay (Change.Take agent n path) s before after more can = can
can_stay (Change.Park agent path) s before after more can = can
can_stay Change.Tick s before after more can = can
can_stay (Change.Seat agent slots) s before after more can = can
can_stay Change.Shut s before after more can = can

pub stays_ready : (old new : Seen) → IsSame old new → old.entry_room ≤ new.entry_room → old.task_room ≤ new.task_room → StaysReady old new
stays_ready old new same entries tasks draft ready = record {
  step = λ state changes.
      let step : Step old.site old.state draft.entry state = ready.step state (subst (λ (s : State). Changes draft.change s state) same.state changes) in
      subst (λ (site : Site). Step site new.state draft.entry state) (sym same.site) (subst (λ (s : State). Step old.site s draft.entry state) (sym same.state) step);
  can = subst (λ (s : State). CanChange draft.change (record { state = s; room = new.task_room })) (sym same.state) (can_stay draft.change old.state old.task_room new.task_room tasks ready.can);
  room = (let one : 1 ≤ old.entry_room = ready.room in omega arith);
}
