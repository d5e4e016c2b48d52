use Rattle.std.proofs.Common.{◌≡◌, ◌≤◌, ◌⊎◌, length, arith, ap, sym, subst, ◌∙◌}
use Rattle.std.proofs.lemmas.Bool.Decides.{nat_tests}
use Rattle.wh_board.specs.Pasts.{Known, Extends}
use Rattle.wh_scribe.specs.Keeping.{PageKeeps, standing}
use Rattle.wh_scribe.proofs.Keeping.{lines_grown, lines_broken}
use Rattle.wh_scribe.proofs.page.Page.append.Goals as goal

pub invariant_of-self-in-Ok : goal.invariant_of-self-in-Ok
invariant_of-self-in-Ok g c =
    let page = c.self.inside in
    let lines = c.args.lines.now in
    let turn : lines.taken ≡ page.written = grind (arith, nat_tests) in
    let le : lines.taken ≤ lines.entered = omega (arith, c.taken.ensures.value, c.taken.ensures.within) in
    let within : lines.entered ≤ length lines.known.past.history = omega (arith, c.entered.ensures.value, c.entered.ensures.within) in
    let book = sym (ap (λ (k : Known). k.book) c.front.ensures.value) ∙ c.front.ensures.book in
    let meets = subst (λ (k : Known). Extends page.front.past k.past ⊎ Extends k.past page.front.past) c.front.ensures.value c.meets.ensures in
    subst (λ n. PageKeeps (λ x. g.J.Journal.contents x) (λ x. g.J.Journal.synced x) g.N.DeskName.book g.S.JournalName.start (standing c.append.new.self c.again.result n page.synced page.failed)) (sym c.entered-self-inside.ensures.value)
    (lines_grown (λ x. g.J.Journal.contents x) (λ x. g.J.Journal.synced x) g.N.DeskName.book g.S.JournalName.start page.journal c.append.new.self page.front lines.known c.again.result page.written page.synced lines.taken lines.entered page.failed c.lines.result.now
    c.self.invariant c.if-self.false turn le within c.lines.ensures (c.again.ensures ∙ c.front-2.ensures.value) book meets c.in-Ok.ensures.ok c.in-Ok.ensures.synced)

pub invariant_of-self-in-Err : goal.invariant_of-self-in-Err
invariant_of-self-in-Err g c =
    let page = c.self.inside in
    let lines = c.args.lines.now in
    let turn : lines.taken ≡ page.written = grind (arith, nat_tests) in
    let le : lines.taken ≤ lines.entered = omega (arith, c.taken.ensures.value, c.taken.ensures.within) in
    let within : lines.entered ≤ length lines.known.past.history = omega (arith, c.entered.ensures.value, c.entered.ensures.within) in
    let book = sym (ap (λ (k : Known). k.book) c.front.ensures.value) ∙ c.front.ensures.book in
    let meets = subst (λ (k : Known). Extends page.front.past k.past ⊎ Extends k.past page.front.past) c.front.ensures.value c.meets.ensures in
    lines_broken (λ x. g.J.Journal.contents x) (λ x. g.J.Journal.synced x) g.N.DeskName.book g.S.JournalName.start page.journal c.append.new.self page.front lines.known c.again.result page.written page.synced lines.taken lines.entered page.failed c.lines.result.now
    c.self.invariant c.if-self.false turn le within c.lines.ensures (c.again.ensures ∙ c.front-2.ensures.value) book meets c.in-Err.ensures.err c.in-Err.ensures.synced
