use Rattle.std.proofs.Common.{sym, subst, refl}
use Rattle.std.specs.Prelude.{Contains}
use Rattle.wh_points.specs.declared.points.Point.{Point}
use Rattle.wh_points.specs.Points.{Site}
use Rattle.wh_book.proofs.setting.Setting.point_at.Goals as goal

pub unreachable-requires : goal.unreachable-requires
unreachable-requires c =
    let point : Point = record { name = c.requires.0; cell = c.args.cell; kind = c.requires.1.0 } in
    c.in-None.ensures.none point (record {
      there = rw c.as_slice.ensures.value (subst (λ (s : Site). Contains s.layout.points point) (sym c.self.view_is) c.requires.1.1);
      cell_is = refl;
    })
