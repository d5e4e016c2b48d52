use Rattle.std.proofs.Common.{◌≡◌, ◌∙◌, ◌++◌, ℕ, List, length, take, ap, refl, arith, rules}
use Rattle.std.proofs.lemmas.List.{take-append-le, take_all}
use Rattle.wh_session.specs.Machines.{Records, nothing}
use Rattle.wh_session.specs.Keeping.{memory_none}
use Rattle.wh_scribe.proofs.waiting.write_line.Goals as goal

pub returns : goal.returns
returns c =
    let text = c.args.text.now.items in
    let log = c.append_entries-outcome.new.keeper.log.items in
    let had : Records = record { log = c.replace.result.items; more = c.new-2.result.items } in
    let part = c.in-Err.ensures.err.left had nothing nothing tt (memory_none had) refl in
    let long : c.len-before.result ≡ length text = search rules in
    let grew : log ≡ text ++ part.front.log = ap (λ (r : Records). r.log) part.added ∙ ap (λ v. v.items ++ part.front.log) c.replace.ensures.value in
    c.truncate.ensures.items ∙ ap (λ (n : ℕ). take n log) long ∙ ap (λ (l : List ℕ). take (length text) l) grew
    ∙ take-append-le (length text) text part.front.log (omega arith) ∙ take_all (length text) text (omega arith)
