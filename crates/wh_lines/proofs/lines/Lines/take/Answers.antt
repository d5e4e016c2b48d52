use Rattle.std.proofs.Common.{◌≤◌, ap, ◌∙◌, drop, length, arith}
use Rattle.std.specs.Prelude.{slice_range}
use Rattle.wh_lines.specs.Input.{Input, with_waiting}
use Rattle.wh_lines.proofs.Room.{drop_range}
use Rattle.wh_lines.proofs.lines.Lines.take.Goals as goal

pub returns : goal.returns
returns g c =
    let long = ap (λ (i : Input). length i.waiting) c.self.view_is in
    let within : c.args.count ≤ length (slice_range c.self.inside.buffer c.self.inside.start c.self.inside.end) = omega (arith, long, c.requires) in
    let before : Input = record { waiting = slice_range c.self.inside.buffer c.self.inside.start c.self.inside.end; source = g.R.Read.remaining c.self.inside.reader; reads = c.self.inside.reads; failed = c.self.inside.has_failed; ended = c.self.inside.has_ended } in
    ap (with_waiting before) (drop_range c.self.inside.buffer c.self.inside.start c.self.inside.end c.args.count within)
    ∙ ap (λ (i : Input). with_waiting i (drop c.args.count i.waiting)) c.self.view_is
