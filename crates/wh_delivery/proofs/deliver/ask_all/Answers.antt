use Rattle.std.proofs.Common.{[], ◌∷◌, ◌++◌, rules, sym, subst}
use Rattle.std.proofs.lemmas.Bool.{false≢true}
use Rattle.wh_core.specs.Steps.{Answers, Step}
use Rattle.wh_book.specs.Drafts.{Seen}
use Rattle.wh_token.specs.Asking.{MayBeAsked, AllWouldRest, IsNextToAsk}
use Rattle.wh_delivery.specs.Deliveries.{AreInVain, GoesOn, HaveAsked}
use Rattle.wh_delivery.specs.Turns.{IsRoundSoFar}
use Rattle.wh_delivery.proofs.Turns.{next-left, round-more, round-none}
use Rattle.wh_delivery.proofs.Going.{goes-none, goes-trans, asked-none, vain-none, vain-more, both, brought-more, one-more, have-more, fewer-left, next-may}
use Rattle.wh_delivery.proofs.deliver.ask_all.Goals as goal

pub returns-in_err-asked : goal.returns-in_err-asked
returns-in_err-asked g c =
    let book = c.args.warehouse.now.book in
    record { asked = ([], goes-none c.args.caller book, round-none book.site book.state, search rules) }

pub loop-agent-init : goal.loop-agent-init
loop-agent-init g c =
    let book = c.args.warehouse.now.book in
    record {
      asked = (
        [],
        goes-none c.args.caller book,
        round-none book.site book.state,
        asked-none book.site book.state c.in_ok-asked.asked.items c.agents.result c.in_ok-asked.ensures c.agents.ensures.value,
        λ _. vain-none book.site book.state,
        λ no. absurd (false≢true (sym no)),
      );
    }

pub loop-agent-smaller : goal.loop-agent-smaller
loop-agent-smaller g c =
    let now = c.loop-agent.warehouse.book in
    let asked = c.loop-agent.asked.items in
    let may : MayBeAsked asked c.in-Some.agent = subst (λ l. MayBeAsked l c.in-Some.agent) c.as_slice.ensures.value (next-may now.site now.state c.as_slice.result.now c.in-Some.agent c.in-Some.ensures.next) in
    fewer-left asked c.in-Some.agent may

pub loop-agent-preserved : goal.loop-agent-preserved
loop-agent-preserved g c =
    let book = c.args.warehouse.now.book in
    let now = c.loop-agent.warehouse.book in
    let new = c.ask.new.warehouse.book in
    let agent = c.in-Some.agent in
    let asked = c.loop-agent.asked.items in
    let h = c.loop-agent.invariant.asked in
    let same = c.in-Some.ensures.book in
    let s = c.in_ok-lacks.ensures.asked in
    let goes : GoesOn c.args.caller now (s.0 ∷ []) new = subst (λ b. GoesOn c.args.caller b (s.0 ∷ []) new) same s.1 in
    let next : IsNextToAsk book.site now.state (MayBeAsked asked) agent =
    subst (λ site. IsNextToAsk site now.state (MayBeAsked asked) agent) h.1.stays.site
    (subst (λ l. IsNextToAsk now.site now.state (MayBeAsked l) agent) c.as_slice.ensures.value c.in-Some.ensures.next) in
    let step = one-more c.args.caller book now new h.0 agent s.0 h.1 goes s.2 in
    let made : Step book.site now.state s.0 new.state = subst (λ v. Answers book.site now.state s.0.reply v new.state) (sym s.2) step in
    record {
      asked = (
        h.0 ++ s.0 ∷ [],
        goes-trans c.args.caller book now new h.0 (s.0 ∷ []) h.1 goes,
        round-more book.site book.state now.state new.state h.0 s.0 agent h.2 (next-left book.site now.state asked h.0 h.3.seats h.3.told h.3.only agent next) s.2 made,
        have-more book.site book.state now.state new.state asked c.loop-agent.some h.0 s.0 agent h.3 next s.2 step,
        λ vain. vain-more book.site book.state now.state new.state h.0 s.0 agent (h.4 (both c.loop-agent.in_vain c.in_ok-lacks.lacks vain).0) s.2
            (s.3.0 (both c.loop-agent.in_vain c.in_ok-lacks.lacks vain).1) step,
        brought-more c.loop-agent.in_vain c.in_ok-lacks.lacks h.0 s.0 h.5 s.3.1,
      );
    }

pub returns : goal.returns
returns g c =
    let book = c.args.warehouse.now.book in
    let now = c.loop-agent.warehouse.book in
    let new = c.next_to_ask.new.self.book in
    let asked = c.loop-agent.asked.items in
    let h = c.loop-agent.invariant.asked in
    let same = c.in_default.ensures.book in
    let rest : AllWouldRest book.site now.state (MayBeAsked asked) =
    subst (λ site. AllWouldRest site now.state (MayBeAsked asked)) h.1.stays.site
    (subst (λ l. AllWouldRest now.site now.state (MayBeAsked l)) c.as_slice.ensures.value c.in_default.ensures.none) in
    record {
      asked = (
        h.0,
        subst (λ b. GoesOn c.args.caller book h.0 b) (sym same) h.1,
        subst (λ (b : Seen). IsRoundSoFar book.site book.state h.0 b.state) (sym same) h.2,
        (
          (
            asked,
            subst (λ (b : Seen). HaveAsked book.site book.state asked c.loop-agent.some h.0 b.state) (sym same) h.3,
            subst (λ (b : Seen). AllWouldRest book.site b.state (MayBeAsked asked)) (sym same) rest,
          ),
          λ vain. subst (λ (b : Seen). AreInVain book.site book.state h.0 b.state) (sym same) (h.4 vain),
          h.5,
        ),
      );
    }
