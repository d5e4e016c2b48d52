use Rattle.std.proofs.Common.{ap, subst, ◌∙◌, ◌++◌, ℕ, List}
use Rattle.std.proofs.KnownBytes.{Appends-kept}
use Rattle.std.specs.Io.KnownBytes.{Appends}
use Rattle.wh_replay.proofs.Written.{front_all}
use Rattle.wh_service.specs.Tails.{separator}
use Rattle.wh_service.proofs.tail.write_tail.Goals as goal

pub returns-in-Ok-write_both-clause-fault : goal.returns-in-Ok-write_both-clause-fault
returns-in-Ok-write_both-clause-fault g c =
    let had = g.W.Write.contents c.args.output.now in
    let has = g.W.Write.contents c.flush.new.self in
    let same =
    ap (λ (l : List ℕ). l ++ c.as_slice.result.now) c.separator.ensures
    ∙ ap (λ (l : List ℕ). separator c.args.tail ++ l) c.as_slice.ensures.value
    ∙ c.in-Ok.ensures.ok in
    front_all had has _ (subst (λ (l : List ℕ). Appends had has l) same (Appends-kept had _ has _ c.in-Ok-write_both.ensures.ok c.flush.ensures.bytes))
