use Rattle.std.proofs.Common.{◌≡◌, ◌∙◌, List, sym, subst, ap}
use Rattle.std.specs.Prelude.{ℕ, [], ◌++◌, codes, decimal}
use Rattle.std.proofs.KnownBytes.{Appends-nil}
use Rattle.wh_lines.specs.Output.{WritesFront}
use Rattle.wh_lines.proofs.Written.{front_all}
use Rattle.wh_service.specs.Late.{way_text}
use Rattle.wh_service.proofs.Drove.{way_is}
use Rattle.wh_program.proofs.Whole.{shown}
use Rattle.wh_program.proofs.driving.tell_way.Goals as goal

pub returns-then-left-eq0 : goal.returns-then-left-eq0
returns-then-left-eq0 g c =
    let had = g.E.Write.contents c.args.errors.now in
    subst (λ (n : ℕ). WritesFront had had (way_text n)) (sym c.if-left-eq0.true) (front_all had had [] (Appends-nil had))

pub returns : goal.returns
returns g c =
    let had = g.E.Write.contents c.args.errors.now in
    let has = g.E.Write.contents c.write_text-shown.new.output in
    let empty : c.new-line.result.items ≡ [] = c.new-line.ensures in
    let told = c.put_number.ensures.text
    ∙ ap (λ (l : List ℕ). (l ++ codes "vehicles on their way: ") ++ decimal c.from.result) empty
    ∙ ap (λ (n : ℕ). codes "vehicles on their way: " ++ decimal n) c.from.ensures in
    let line = c.as_slice.ensures.value ∙ c.put.ensures ∙ ap (λ (l : List ℕ). l ++ codes "\n") told ∙ way_is c.args.left c.if-left-eq0.false in
    subst (λ (l : List ℕ). WritesFront had has l) line (shown c.write_text-shown.result had has c.as_slice.result.now c.write_text-shown.ensures.ok c.write_text-shown.ensures.front)
