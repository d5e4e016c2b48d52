use Rattle.std.proofs.Common.{◌≡◌, ℕ, sym, ◌∙◌, ap}
use Rattle.wh_text.specs.Lines.{Unread}
use Rattle.wh_points.specs.PointFiles.{layout_at, whole}
use Rattle.wh_points.proofs.ReadSteps.{goes_on, ends, all_read}
use Rattle.wh_points.proofs.reader.read_all.Goals as goal

pub returns-in-Err : goal.returns-in-Err
returns-in-Err c =
    let e = c.in-Some.ensures.end in
    rw c.located.ensures (ends c.args.grid.now c.loop-line.draft c.loop-line.lines.count c.count.result c.loop-line.lines.lines c.next_line.new.self.lines c.in-Some.line.now
    (layout_at c.args.grid.now c.args.text.now) e.0 (c.count.ensures.value ∙ e.1) c.loop-line.invariant c.in-Err.refused c.in-Err.ensures)

pub loop-line-preserved : goal.loop-line-preserved
loop-line-preserved c =
    let e = c.in-Some.ensures.end in
    goes_on c.args.grid.now c.loop-line.draft c.loop-line.lines.count c.next_line.new.self.count c.loop-line.lines.lines c.next_line.new.self.lines c.in-Some.line.now
    (layout_at c.args.grid.now c.args.text.now) e.0 e.1 c.loop-line.invariant c.in-Ok.more c.in-Ok.ensures

pub returns-in-Ok-finish : goal.returns-in-Ok-finish
returns-in-Ok-finish c =
    let e = c.in_default.ensures.end in
    let count : c.count-2.result ≡ c.loop-line.lines.count = c.count-2.ensures.value ∙ ap (λ (u : Unread). u.count) e.1 in
    all_read c.args.grid.now c.loop-line.draft c.loop-line.lines.count c.loop-line.lines.lines (layout_at c.args.grid.now c.args.text.now) e.0 c.loop-line.invariant
    ∙ ap (λ (n : ℕ). whole n c.loop-line.draft c.loop-line.draft.agents) (sym count) ∙ sym c.in-Ok-finish.ensures

pub returns-in-Err-finish : goal.returns-in-Err-finish
returns-in-Err-finish c =
    let e = c.in_default.ensures.end in
    let count : c.count-2.result ≡ c.loop-line.lines.count = c.count-2.ensures.value ∙ ap (λ (u : Unread). u.count) e.1 in
    all_read c.args.grid.now c.loop-line.draft c.loop-line.lines.count c.loop-line.lines.lines (layout_at c.args.grid.now c.args.text.now) e.0 c.loop-line.invariant
    ∙ ap (λ (n : ℕ). whole n c.loop-line.draft c.loop-line.draft.agents) (sym count) ∙ sym c.in-Err-finish.ensures
