use Rattle.std.proofs.Common.{◌≡◌, ap, ◌∙◌, subst}
use Rattle.std.specs.List.{list_any}
use Rattle.std.specs.Str.{bytes_eq}
use Rattle.wh_points.specs.declared.points.Point.{Point}
use Rattle.wh_points.specs.Points.{Layout}
use Rattle.wh_points.specs.PointLines.{has_name}
use Rattle.wh_points.proofs.Lookups.{list_any-map}
use Rattle.wh_points.proofs.layout.Points.has_name.Goals as goal

pub returns : goal.returns
returns c =
    subst (λ (layout : Layout). c.contains.result ≡ has_name c.args.name.now layout.points) c.self.view_is
    (c.contains.ensures ∙ ap (λ ks. list_any (bytes_eq c.args.name.now) ks) c.self.invariant.0 ∙ list_any-map (bytes_eq c.args.name.now) (λ (p : Point). p.name) c.self.inside.points.items)
