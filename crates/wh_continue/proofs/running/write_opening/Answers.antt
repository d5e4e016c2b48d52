use Rattle.std.proofs.Common.{◌≡◌, ◌∙◌, ℕ, List, [], ◌∷◌, ap, subst, sym}
use Rattle.wh_words.specs.Lines.{text_of as lines_text}
use Rattle.wh_log.specs.declared.version.Version.TheVariants.{Two}
use Rattle.wh_log.specs.Logs.{head_line, start_line}
use Rattle.wh_continue.specs.declared.running.KeepFault.{KeepFault}
use Rattle.wh_continue.specs.Running.{LeavesFront, OpensShort, opening_lines}
use Rattle.wh_continue.proofs.running.write_opening.Goals as goal

pub returns-clause-fault : goal.returns-clause-fault
returns-clause-fault g c =
    let file = g.L.Journal.contents c.args.file.now in
    let new = g.L.Journal.contents c.write_alone.new.file in
    let lines = opening_lines c.args.book.now in
    let same : c.as_slice.result.now ≡ lines =
    c.as_slice.ensures.value ∙ c.in-Ok.ensures
    ∙ ap (λ (n : ℕ). lines_text (head_line Two ∷ start_line n c.first_slots.result.now ∷ [])) c.first_clock.ensures
    ∙ ap (λ (slots : List ℕ). lines_text (head_line Two ∷ start_line c.args.book.now.opening.clock slots ∷ [])) c.first_slots.ensures in
    subst (λ (k : KeepFault). OpensShort k file new (g.L.Journal.failed c.write_alone.new.file) lines) (sym c.in-Err.ensures.fault)
    (c.in-Err.ensures.failed, subst (λ (bytes : List ℕ). LeavesFront file new bytes) same c.in-Err.ensures.left)
