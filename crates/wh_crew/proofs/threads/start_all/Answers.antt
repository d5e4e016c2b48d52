use Rattle.std.proofs.Common.{◌≡◌, [], ◌+◌, length, ◌∷◌, ◌++◌, drop, Some, ap, sym, ◌∙◌, arith, subst}
use Rattle.std.proofs.lemmas.List.{length_push}
use Rattle.std.specs.Vec.Iter.{into_iter_items}
use Rattle.wh_desk.specs.Lists.{AllAt}
use Rattle.wh_desk.proofs.Entries.{AllAt_push}
use Rattle.wh_crew.specs.Work.{IsDue}
use Rattle.wh_crew.proofs.Places.{drop_head}
use Rattle.wh_crew.proofs.threads.start_all.Goals as goal

pub loop-pass-preserved : goal.loop-pass-preserved
loop-pass-preserved g c =
    let inv = c.loop-pass.invariant in
    let passes = c.args.passes.items in
    let works = c.args.works.items in
    let hs = c.loop-pass.handles.items in
    let k = length hs in
    let h = c.in-Ok-start_one.handle in
    let pushed : c.push_reserved.new.self.items ≡ hs ++ h ∷ [] = c.push_reserved.ensures.items in
    let more : length c.push_reserved.new.self.items ≡ k + 1 = ap length pushed ∙ length_push hs h in
    let pass = drop_head passes k c.in-Some.pass (into_iter_items c.next.new.self) (sym c.in-Some.ensures.steps.0 ∙ inv.1) in
    let work = drop_head works k c.in-Some-next.work (into_iter_items c.next-in-loop-pass.new.self) (sym c.in-Some-next.ensures.items ∙ inv.2) in (
      omega (arith, more, inv.0, c.in-Some.ensures.steps.1),
      pass.1 ∙ ap (λ n. drop n passes) (sym more),
      work.1 ∙ ap (λ n. drop n works) (sym more),
      omega (arith, c.push_reserved.ensures.capacity, inv.3),
      subst (λ l. AllAt (λ i y. IsDue works passes i y.promise.had.value y.promise.work.value) l) (sym pushed)
          (AllAt_push (λ i y. IsDue works passes i y.promise.had.value y.promise.work.value) hs h inv.4
          (record {
            had_is = pass.0 ∙ ap Some (sym c.in-Ok-start_one.ensures.0);
            work_is = work.0 ∙ ap Some (sym c.in-Ok-start_one.ensures.1);
          })),
    )
