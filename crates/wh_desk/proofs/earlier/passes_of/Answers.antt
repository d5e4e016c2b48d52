use Rattle.std.proofs.Common.{◌≡◌, ◌+◌, length, ap, sym, ◌∙◌, arith, refl, subst, List, Some, slice_get, suc, zero-add, add-zero}
use Rattle.std.specs.List.{All}
use Rattle.std.proofs.lemmas.List.{length_push}
use Rattle.std.proofs.lemmas.List.Elements.{All-push, All-nil}
use Rattle.wh_desk.specs.declared.earlier.Own.{Own}
use Rattle.wh_desk.specs.Lists.{AllAt, Received, entries_of}
use Rattle.wh_desk.specs.Earlier.{OwnOf}
use Rattle.wh_desk.proofs.Entries.{AllAt_push}
use Rattle.wh_desk.proofs.earlier.passes_of.Goals as goal

pub loop-caller-init : goal.loop-caller-init
loop-caller-init g c =
    let h = c.args.front.now.past.history in
    let all = c.into_iter-rest.ensures.rest in
    record {
      left = omega (arith, ap length all, c.requires.length);
      owns = subst (λ (l : List Own). AllAt (λ i own. OwnOf g.N.DeskName.cells (entries_of h (0 + i)) own) l) (sym all)
          (λ k own at. subst (λ n. OwnOf g.N.DeskName.cells (entries_of h n) own) (sym (zero-add k)) (c.requires.owns k own at));
      count = ap length c.new-passes.ensures.items;
      order = subst (λ l. AllAt (λ k (p : Received). p.caller ≡ k) l) (sym c.new-passes.ensures.items) (λ k p at. absurd cc);
      lists = subst (λ l. All (λ (p : Received). p.list ≡ entries_of h p.caller) l) (sym c.new-passes.ensures.items) (All-nil _);
      known = subst (λ l. All (λ (p : Received). p.known ≡ h) l) (sym c.new-passes.ensures.items) (All-nil _);
    }

pub over-requires-clause-own : goal.over-requires-clause-own
over-requires-clause-own g c =
    let h = c.args.front.now.past.history in
    let inv = c.loop-caller.invariant in
    let own = c.in-Some.own in
    let here = subst (λ (l : List Own). slice_get l 0 ≡ Some own) (sym c.in-Some.ensures.items) refl in
    subst (λ n. OwnOf g.N.DeskName.cells (entries_of h n) own) (add-zero c.loop-caller.caller) (inv.owns 0 own here)

pub loop-caller-preserved : goal.loop-caller-preserved
loop-caller-preserved g c =
    let h = c.args.front.now.past.history in
    let inv = c.loop-caller.invariant in
    let k = c.loop-caller.caller in
    let own = c.in-Some.own in
    let passes = c.loop-caller.passes.items in
    let pass = c.over.result in
    let next = c.in-Some.ensures.items in
    let pushed = c.in_ok-push.ensures.items in
    record {
      left = omega (arith, ap length next, inv.left);
      owns = λ i x at.
          let later = subst (λ (l : List Own). slice_get l (suc i) ≡ Some x) (sym next) at in
          subst (λ n. OwnOf g.N.DeskName.cells (entries_of h n) x) (omega arith) (inv.owns (suc i) x later);
      count = omega (arith, ap length pushed, length_push passes pass, inv.count);
      order = subst (λ l. AllAt (λ j (p : Received). p.caller ≡ j) l) (sym pushed) (AllAt_push (λ j (p : Received). p.caller ≡ j) passes pass inv.order (ap (λ (p : Received). p.caller) c.over.ensures ∙ sym inv.count));
      lists = subst (λ l. All (λ (p : Received). p.list ≡ entries_of h p.caller) l) (sym pushed)
          (All-push (λ (p : Received). p.list ≡ entries_of h p.caller) passes pass inv.lists (ap (λ (p : Received). p.list) c.over.ensures ∙ ap (λ (p : Received). entries_of h p.caller) (sym c.over.ensures)));
      known = subst (λ l. All (λ (p : Received). p.known ≡ h) l) (sym pushed) (All-push (λ (p : Received). p.known ≡ h) passes pass inv.known (ap (λ (p : Received). p.known) c.over.ensures));
    }
