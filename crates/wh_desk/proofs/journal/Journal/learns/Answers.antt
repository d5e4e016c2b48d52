use Rattle.std.proofs.Common.{◌<◌, ◌+◌, ℕ, List, length, ap, sym, subst, ◌∙◌, arith}
use Rattle.std.specs.List.{All}
use Rattle.std.proofs.lemmas.List.Elements.{All-weaker}
use mathlib.Core.List.{IsPrefix}
use Rattle.wh_event.specs.declared.entry.Entry.{Entry}
use Rattle.wh_desk.specs.Lists.{Received, entries_of}
use Rattle.wh_desk.specs.Calls.{IsStateAt}
use Rattle.wh_desk.proofs.Asking.{state_behind}
use Rattle.wh_desk.proofs.Entries.{entries_before}
use Rattle.wh_desk.proofs.journal.Journal.learns.Goals as goal

pub returns-clause-known : goal.returns-clause-known
returns-clause-known g c = ap (λ (p : Received). p.known) c.tell_all.ensures

pub returns-clause-knows : goal.returns-clause-knows
returns-clause-knows g c =
    let known = ap (λ (p : Received). p.known) c.tell_all.ensures in
    record {
      caller_is = ap (λ (p : Received). p.caller) c.tell_all.ensures;
      list_is = ap (λ (p : Received). p.list) c.tell_all.ensures;
      goes_on = subst (λ (l : List Entry). IsPrefix c.args.pass.now.known l) (sym known) (c.knows.ensures.begins c.if-not-knows.false);
    }

pub returns-clause-own : goal.returns-clause-own
returns-clause-own g c =
    let h = c.args.self.now.history in
    let known = ap (λ (p : Received). p.known) c.tell_all.ensures in
    let list = ap (λ (p : Received). p.list) c.tell_all.ensures ∙ c.knows.ensures.whole c.if-not-knows.false in
    let all : All (λ (x : ℕ × Entry). x.0 < length h) (entries_of h c.args.pass.now.caller) =
    All-weaker (λ (x : ℕ × Entry). x.0 < 0 + length h) (λ (x : ℕ × Entry). x.0 < length h) (λ x less. omega (arith, less)) (entries_of h c.args.pass.now.caller) (entries_before 0 h c.args.pass.now.caller) in
    subst (λ (l : List Entry). All (λ (x : ℕ × Entry). x.0 < length l) c.tell_all.new.pass.list) (sym known)
    (subst (λ (l : List (ℕ × Entry)). All (λ (x : ℕ × Entry). x.0 < length h) l) (sym list) all)

pub returns-clause-state : goal.returns-clause-state
returns-clause-state g c =
    let known = ap (λ (p : Received). p.known) c.tell_all.ensures in
    subst (λ (l : List Entry). IsStateAt g.N.DeskName.origin l (length l) c.args.self.now.state) (sym known) (state_behind c.args.self.now.history c.args.self.now.state c.is_run.ensures)
