use Rattle.std.proofs.Common.{ℕ, ◌∙◌, ap, [], ◌∷◌, length, inl, inr, refl, subst}
use Rattle.std.specs.Io.KnownBytes.{Appends}
use Rattle.wh_replay.specs.Answers.{text_of}
use Rattle.wh_replay.specs.Scripts.{WritesFront}
use Rattle.wh_serve.specs.Texts.{entries_in_all, greeting_text, receipt_text}
use Rattle.wh_serve.proofs.Rows.{fared_of}
use Rattle.wh_serve.proofs.visits.serve_connection.Goals as goal

pub returns-in-Ok : goal.returns-in-Ok
returns-in-Ok g c = λ history begins. inl (record {
  told = g.W.Write.contents c.write_greeting.new.writer;
  first_line = subst (λ (n : ℕ). Appends (g.W.Write.contents c.args.connection.writer) (g.W.Write.contents c.write_greeting.new.writer) (text_of (greeting_text n c.args.connection.tag ∷ []))) (c.entries_in_all-entries.ensures ∙ ap (λ (n : ℕ). entries_in_all c.args.may.before n) c.len.ensures) c.in-Ok.ensures.ok;
  before = c.new-lines.result;
  nothing_yet = c.new-lines.ensures.waiting;
  source_is = c.new-lines.ensures.source;
  after = c.serve_client-outcome.new.lines;
  fared = fared_of c.args.may (length g.N.DeskName.cells) g.P.Plans.fits_map g.P.Plans.slot_count g.N.DeskName.origin.site.grid (receipt_text c.args.form g.N.DeskName.origin) c.args.connection.tag c.serve_client-outcome.result c.new-lines.result c.serve_client-outcome.new.lines
      c.args.pass.now c.args.spares.now.items c.serve_client-outcome.new.pass c.serve_client-outcome.new.spares.items
      (g.W.Write.contents c.write_greeting.new.writer) (g.W.Write.contents c.serve_client-outcome.new.writer)
      c.serve_client-outcome.ensures.ok c.serve_client-outcome.ensures.fault history begins;
})

pub returns-in-Err : goal.returns-in-Err
returns-in-Err g c = λ history begins. inr (record {
  fault = refl;
  front = subst (λ (n : ℕ). WritesFront (g.W.Write.contents c.args.connection.writer) (g.W.Write.contents c.write_greeting.new.writer) (text_of (greeting_text n c.args.connection.tag ∷ []))) (c.entries_in_all-entries.ensures ∙ ap (λ (n : ℕ). entries_in_all c.args.may.before n) c.len.ensures) c.in-Err.ensures.err;
  same = refl;
  same_spares = refl;
})
