use Rattle.std.proofs.Common.{length, refl}
use Rattle.std.proofs.lemmas.Bool.{leb-true, le-leb}
use Rattle.wh_search.proofs.errand.Errand.rests.Goals as goal

pub returns-then-self : goal.returns-then-self
returns-then-self c =
    let e = c.args.self.now in
    let h = c.requires.errand in (
      λ t. h.exact c.if-self.true c.args.k c.args.end c.requires.end (leb-true e.soonest c.args.k t),
      λ r. le-leb e.soonest c.args.k (h.not_sooner c.args.k (record { leg = length e.via.now; cell = c.args.end }) (record { all_visited = refl; delivered = c.requires.end; rests = r })),
    )
