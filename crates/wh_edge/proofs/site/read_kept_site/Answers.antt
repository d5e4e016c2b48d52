use Rattle.std.proofs.Common.{List, ℕ, ◌∙◌, ap₂}
use Rattle.wh_edge.specs.Site.{site_text}
use Rattle.wh_edge.proofs.site.read_kept_site.Goals as goal

pub returns-in-Ok-site_text-clause-ok : goal.returns-in-Ok-site_text-clause-ok
returns-in-Ok-site_text-clause-ok g c = record {
  ruled = c.in-Ok.ensures.ok.ruled;
  text_is = c.in-Ok-site_text.ensures
      ∙ ap₂ (λ (map points : List ℕ). site_text c.args.homes map points) (c.as_slice.ensures.value ∙ c.in-Ok.ensures.ok.map_is) (c.as_slice-2.ensures.value ∙ c.in-Ok.ensures.ok.points_is);
}
