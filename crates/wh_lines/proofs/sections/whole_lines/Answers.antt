use Rattle.std.proofs.Common.{◌≡◌, ◌<◌, ◌+◌, ◌-◌, ℕ, length, take, get_or, arith, subst}
use Rattle.wh_lines.specs.Text.{EndsLine}
use Rattle.wh_lines.proofs.PlainLines.{ends_at}
use Rattle.wh_lines.proofs.sections.whole_lines.Goals as goal

pub returns-else-bytes-count-ne10-clause-whole : goal.returns-else-bytes-count-ne10-clause-whole
returns-else-bytes-count-ne10-clause-whole c =
    let bytes = c.args.bytes.now in
    let n = c.loop-count.count - 1 in
    let h : n < length bytes = omega arith in
    let feed : get_or bytes n 0 ≡ 10 = omega arith in
    subst (λ (k : ℕ). EndsLine (take k bytes)) (let e : n + 1 ≡ c.loop-count.count = omega arith in e) (ends_at bytes n h feed)
