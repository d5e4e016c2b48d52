use Rattle.wh_edge.proofs.Sites.{one_site}
use Rattle.wh_edge.proofs.site.site_texts_differ.Goals as goal

pub returns : goal.returns
returns c = one_site
