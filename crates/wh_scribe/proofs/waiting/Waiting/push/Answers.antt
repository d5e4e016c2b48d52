use Rattle.std.proofs.Common.{◌≡◌, ◌+◌, arith}
use Rattle.std.proofs.lemmas.Bool.Decides.{nat_tests}
use Rattle.wh_scribe.proofs.Keeping.{stretch_grown}
use Rattle.wh_scribe.proofs.waiting.Waiting.push.Goals as goal

pub invariant_of-self-2 : goal.invariant_of-self-2
invariant_of-self-2 g c =
    let had = c.self.inside in
    let turn : c.args.position ≡ had.entered = grind (arith, nat_tests) in
    let one : c.in-Some.more ≡ c.args.position + 1 = grind (arith) in
    stretch_grown g.N.DeskName.book had.front c.args.known.now c.again.result had.taken had.entered c.args.position c.in-Some.more c.args.entry.now had.text.items c.write_line.new.text.items
    c.self.invariant turn one c.again.ensures c.requires.book c.meets.ensures c.requires.stands c.if-not-write_line.ensures
