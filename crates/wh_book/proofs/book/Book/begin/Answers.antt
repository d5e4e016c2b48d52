use Rattle.std.proofs.Common.{sym, subst}
use Rattle.wh_core.specs.States.{State}
use Rattle.wh_core.specs.Laws.{IsBeginning}
use Rattle.wh_state.specs.Columns.{state_in}
use Rattle.wh_book.proofs.Kept.{kept-begun, sound-somewhere}
use Rattle.wh_book.proofs.book.Book.begin.Goals as goal

pub of-requires : goal.of-requires
of-requires c = sound-somewhere c.args.setting (state_in c.args.parts) c.requires (rw (← c.agents-agents.ensures.value) c.agents-agents.ensures.few)

pub has_stray-strays-requires : goal.has_stray-strays-requires
has_stray-strays-requires c = subst (λ (s : State). IsBeginning c.args.setting s) (sym c.in_ok-floor.ensures) c.requires

pub invariant_of-result : goal.invariant_of-result
invariant_of-result c = record {
  kept = kept-begun c.args.setting (state_in c.args.parts) c.new.result.items c.in_ok-floor.floor.state c.requires c.new.ensures.items c.in_ok-floor.ensures;
  ways = c.has_stray-strays.ensures;
}
