use Rattle.std.proofs.Common.{◌≡◌, sym, ◌∙◌, subst}
use Rattle.wh_points.specs.Layouts.{find_name}
use Rattle.wh_points.specs.Points.{Layout}
use Rattle.wh_points.proofs.Lookups.{find_name-among, find_name-found, find_name-none}
use Rattle.wh_points.proofs.layout.Points.find.Goals as goal

pub returns-in_err-place-clause-value : goal.returns-in_err-place-clause-value
returns-in_err-place-clause-value c =
    c.from_residual.ensures ∙ sym (c.in_err-place.was) ∙ subst (λ (layout : Layout). c.get_index_of.result ≡ find_name c.args.name.now layout.points) c.self.view_is
    (find_name-among c.args.name.now c.self.inside.points.items c.self.inside.names.keys c.get_index_of.result c.get_index_of.ensures.index c.self.invariant.0)

pub returns-in_err-place-clause-none : goal.returns-in_err-place-clause-none
returns-in_err-place-clause-none c =
    let e = returns-in_err-place-clause-value c in
    rw c.from_residual.ensures (find_name-none c.args.name.now c.args.self.now.points (sym e ∙ c.from_residual.ensures))

pub returns-clause-value : goal.returns-clause-value
returns-clause-value c =
    sym (c.in_ok-place.was) ∙ subst (λ (layout : Layout). c.get_index_of.result ≡ find_name c.args.name.now layout.points) c.self.view_is
    (find_name-among c.args.name.now c.self.inside.points.items c.self.inside.names.keys c.get_index_of.result c.get_index_of.ensures.index c.self.invariant.0)

pub returns-clause-found : goal.returns-clause-found
returns-clause-found c = find_name-found c.args.name.now c.args.self.now.points c.in_ok-place.place (sym (returns-clause-value c))
