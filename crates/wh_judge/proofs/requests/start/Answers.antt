use Rattle.std.proofs.Common.{◌∙◌, sym}
use Rattle.std.proofs.lemmas.Bool.{false≢true}
use Rattle.wh_core.specs.States.{load_of}
use Rattle.wh_core.proofs.Determined.{next-there}
use Rattle.wh_book.proofs.GoingOn.{taken-on}
use Rattle.wh_judge.proofs.Reachable.{is-sound}
use Rattle.wh_judge.proofs.Taking.{open-next}
use Rattle.wh_judge.proofs.requests.start.Goals as goal

pub take-requires-clause-is_open : goal.take-requires-clause-is_open
take-requires-clause-is_open c =
    let t = c.requires.takes in
    open-next c.args.instance.now c.args.floor.now.state c.args.agent c.args.n t.0 (c.is_idle.ensures.0 c.if-is_idle.true) t.1

pub returns-else-is_idle : goal.returns-else-is_idle
returns-else-is_idle c =
    let site = c.args.instance.now in
    let s = c.args.floor.now.state in
    let agent = c.args.agent in
    let t = c.requires.takes in
    let went = taken-on site s agent c.args.n t.0 c.args.path (is-sound site s c.requires.reached) c.requires.due.known.known
    (λ none. false≢true (sym c.if-is_idle.false ∙ c.is_idle.ensures.1 none)) t.2.starts_here t.1 in
    (t.0, next-there site s agent c.args.n t.0 (load_of s agent) t.1, c.park.ensures ∙ sym went)
