use Rattle.std.proofs.Common.{◌≡◌, ◌≤◌, ◌∙◌, List, ℕ, length, subst, inl}
use Rattle.wh_log.specs.declared.front_log.Front.{Front}
use Rattle.wh_log.specs.Behinds.{RecoversFrom}
use Rattle.wh_core.proofs.Sound.{opening-begins}
use Rattle.wh_resume.specs.Keeping.{Opens, Steps}
use Rattle.wh_resume.specs.Resuming.{IsFront, TellsOther}
use Rattle.wh_resume.proofs.Telling.{can_open, leads_led, led_parts, site_of, tells_bad}
use Rattle.wh_resume.proofs.Versions.{bad_two}
use Rattle.wh_resume.proofs.Walks.{other_told}
use Rattle.wh_resume.proofs.two.recover_two.Goals as goal

pub follow_front-requires : goal.follow_front-requires
follow_front-requires g c =
    let setting = c.args.setting in
    let first = c.in-Ok.keeper in
    let is : first.judge.site ≡ setting = c.in-Ok.ensures.site ∙ c.with_homes-instance.ensures ∙ site_of setting c.grid.result.now c.points.result.now c.homes.result c.grid.ensures c.points.ensures c.homes.ensures in
    let few : length setting.layout.agents ≤ 256 = rw (← c.agents-agents.ensures.value) c.agents-agents.ensures.few in
    can_open setting first is c.in-Ok.ensures.given c.requires.some few

pub returns-in-Bad-clause-told : goal.returns-in-Bad-clause-told
returns-in-Bad-clause-told g c =
    let setting = c.args.setting in
    let first = c.in-Ok.keeper in
    let held = g.S.Source.held c.args.source.now in
    let is : first.judge.site ≡ setting = c.in-Ok.ensures.site ∙ c.with_homes-instance.ensures ∙ site_of setting c.grid.result.now c.points.result.now c.homes.result c.grid.ensures c.points.ensures c.homes.ensures in
    let said = subst (λ (f : Front). RecoversFrom Opens Steps held first c.follow_front.new.judge f) c.in-Bad.is c.in-Ok-follow_front.ensures.front in
    let told = tells_bad setting first said.0 c.in-Bad.line c.agents-agents.ensures.layout is c.in-Ok.ensures.given c.in-Ok.ensures.empty (said.2.0, said.2.1) in
    bad_two held c.args.begun.now said.0 c.in-Bad.line c.in-Bad.bytes setting said.1 c.requires.version said.2.2 told.0 told.1

pub resume-book-requires-clause-opening : goal.resume-book-requires-clause-opening
resume-book-requires-clause-opening g c =
    let setting = c.args.setting in
    let first = c.in-Ok.keeper in
    let held = g.S.Source.held c.args.source.now in
    let is : first.judge.site ≡ setting = c.in-Ok.ensures.site ∙ c.with_homes-instance.ensures ∙ site_of setting c.grid.result.now c.points.result.now c.homes.result c.grid.ensures c.points.ensures c.homes.ensures in
    let said = subst (λ (f : Front). RecoversFrom Opens Steps held first c.follow_front.new.judge f) c.in-Whole.is c.in-Ok-follow_front.ensures.front in
    let led = leads_led setting first said.2.0 c.follow_front.new.judge c.agents-agents.ensures.layout is c.in-Ok.ensures.given c.in-Ok.ensures.empty said.2.2 in
    let told = c.into_parts-first_clock in
    let parts = led_parts setting said.2.0 c.follow_front.new.judge told.result.first_clock told.result.first_slots.items told.result.history.items told.result.floor.state led
    told.ensures.clock told.ensures.slots told.ensures.history told.ensures.floor in
    (opening-begins setting _ parts.is_opening).0

pub resume-book-requires-clause-run : goal.resume-book-requires-clause-run
resume-book-requires-clause-run g c =
    let setting = c.args.setting in
    let first = c.in-Ok.keeper in
    let held = g.S.Source.held c.args.source.now in
    let is : first.judge.site ≡ setting = c.in-Ok.ensures.site ∙ c.with_homes-instance.ensures ∙ site_of setting c.grid.result.now c.points.result.now c.homes.result c.grid.ensures c.points.ensures c.homes.ensures in
    let said = subst (λ (f : Front). RecoversFrom Opens Steps held first c.follow_front.new.judge f) c.in-Whole.is c.in-Ok-follow_front.ensures.front in
    let led = leads_led setting first said.2.0 c.follow_front.new.judge c.agents-agents.ensures.layout is c.in-Ok.ensures.given c.in-Ok.ensures.empty said.2.2 in
    let told = c.into_parts-first_clock in
    let parts = led_parts setting said.2.0 c.follow_front.new.judge told.result.first_clock told.result.first_slots.items told.result.history.items told.result.floor.state led
    told.ensures.clock told.ensures.slots told.ensures.history told.ensures.floor in
    parts.run

pub returns-in-Whole-clause-told : goal.returns-in-Whole-clause-told
returns-in-Whole-clause-told g c =
    let setting = c.args.setting in
    let first = c.in-Ok.keeper in
    let held = g.S.Source.held c.args.source.now in
    let is : first.judge.site ≡ setting = c.in-Ok.ensures.site ∙ c.with_homes-instance.ensures ∙ site_of setting c.grid.result.now c.points.result.now c.homes.result c.grid.ensures c.points.ensures c.homes.ensures in
    let said = subst (λ (f : Front). RecoversFrom Opens Steps held first c.follow_front.new.judge f) c.in-Whole.is c.in-Ok-follow_front.ensures.front in
    let led = leads_led setting first said.2.0 c.follow_front.new.judge c.agents-agents.ensures.layout is c.in-Ok.ensures.given c.in-Ok.ensures.empty said.2.2 in
    let told = c.into_parts-first_clock in
    let parts = led_parts setting said.2.0 c.follow_front.new.judge told.result.first_clock told.result.first_slots.items told.result.history.items told.result.floor.state led
    told.ensures.clock told.ensures.slots told.ensures.history told.ensures.floor in (
      said.0,
      said.1,
      (
        said.2.0,
        said.2.1,
        record {
          site_is = c.resume-book.ensures.site;
          opening_is = c.resume-book.ensures.opening ∙ parts.opening_is;
          history_is = c.resume-book.ensures.history ∙ parts.history_is;
        },
      ),
    )

pub returns-else-is_front-clause-told : goal.returns-else-is_front-clause-told
returns-else-is_front-clause-told g c =
    let setting = c.args.setting in
    let first = c.in-Ok.keeper in
    let held = g.S.Source.held c.args.source.now in
    let said = subst (λ (f : Front). RecoversFrom Opens Steps held first c.follow_front.new.judge f) c.in-Unopened.is c.in-Ok-follow_front.ensures.front in (
      said.0,
      said.1,
      other_told setting c.args.begun.now said.0 c.begun_otherwise-told.result
          (subst (λ (t : List ℕ). TellsOther t c.begun_otherwise-told.result) (c.as_slice-in-Unopened.ensures.value ∙ said.2.1) c.begun_otherwise-told.ensures)
          said.2.0
          (subst (λ (t : List ℕ). IsFront t c.args.begun.now → ⊥) (c.as_slice.ensures.value ∙ said.2.1) (c.is_front.ensures.other c.if-is_front.false)),
    )
