use Rattle.std.proofs.Common.{ℕ, List, subst, sym}
use Rattle.wh_timetable.specs.declared.stay.Stay.{Stay}
use Rattle.wh_timetable.specs.Places.{stays_for}
use Rattle.wh_resv.specs.Looks.{IsFreeFor}
use Rattle.wh_resv.proofs.Telling.{free_vacant, vacant_free}
use Rattle.wh_resv.proofs.questions.none_there.Goals as goal

pub returns : goal.returns
returns c =
    let noted = c.args.stays.now in
    let paths = c.args.paths.now in
    let except = c.args.except in
    let cell = c.args.cell in (
      λ yes. free_vacant noted paths c.requires except cell c.args.k
          (subst (λ (t : ℕ). IsFreeFor (stays_for c.args.stays.now.places c.args.cell) except cell t) c.time.ensures (subst (λ (s : List Stay). IsFreeFor s except cell c.time.result) c.list.ensures (c.is_free.ensures.0 yes))),
      λ vacant. c.is_free.ensures.1
          (subst (λ (s : List Stay). IsFreeFor s except cell c.time.result) (sym c.list.ensures) (subst (λ (t : ℕ). IsFreeFor (stays_for c.args.stays.now.places c.args.cell) except cell t) (sym c.time.ensures) (vacant_free noted paths c.requires except cell c.args.k vacant))),
    )
