use Rattle.std.proofs.Common.{ℕ, ◌<◌, sym, subst}
use Rattle.std.specs.List.{All}
use Rattle.wh_event.specs.declared.entry.Entry.{Entry}
use Rattle.wh_crew.specs.Calls.{InOrder}
use Rattle.wh_live.proofs.run.over_desk.Goals as goal

pub returns-in-Ok-clause-ok : goal.returns-in-Ok-clause-ok
returns-in-Ok-clause-ok g c =
    let done = c.in-Ok.ensures in
    let many = sym c.requires.callers in
    record {
      begins = done.opening;
      run = done.run;
      served = done.served;
      within = done.within;
      by_callers = subst (λ (n : ℕ). All (λ (entry : Entry). entry.caller < n) c.in-Ok.crewed.history.warehouse.book.history) many done.callers;
      passes = c.in_ok-desk.passes.items;
      in_order = subst (λ (n : ℕ). InOrder n c.in_ok-desk.passes.items) many c.in_ok-desk.ensures.order;
      empty = c.in_ok-desk.ensures.empty;
      missed = c.in-Ok.crewed.missed.items;
      worked = done.workers;
      with_cause = done.cause;
    }
