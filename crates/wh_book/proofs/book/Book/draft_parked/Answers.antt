use Rattle.std.proofs.Common.{◌≡◌, ap, subst}
use Rattle.wh_path.specs.Paths.{end}
use Rattle.wh_points.specs.Points.{Site}
use Rattle.wh_book.specs.Drafts.{Seen}
use Rattle.wh_book.specs.Settings.{IsPlaced}
use Rattle.wh_book.proofs.Kept.{parked-drafts, placed-point}
use Rattle.wh_book.proofs.book.Book.draft_parked.Goals as goal

pub point_at-point-requires : goal.point_at-point-requires
point_at-point-requires c =
    let site : c.self.inside.setting ≡ c.args.self.now.site = ap (λ (s : Seen). s.site) c.self.view_is in
    rw (site, c.end.ensures) c.requires.lawful.serves.rest.berth.point

pub returns-clause-drafts : goal.returns-clause-drafts
returns-clause-drafts c =
    let book = c.args.self.now in
    let site : c.self.inside.setting ≡ book.site = ap (λ (s : Seen). s.site) c.self.view_is in
    let point = c.point_at-point.result.now in
    let placed = subst (λ (s : Site). IsPlaced s.layout.points c.end.result point) site c.point_at-point.ensures in
    let there = subst (λ cell. IsPlaced book.site.layout.points cell point) c.end.ensures placed in
    rw (c.copy.ensures, c.in_ok-copy.ensures) (parked-drafts book c.args.caller c.args.agent point.name c.args.path c.requires.due c.requires.makes_way c.requires.lawful
    (placed-point book.site.layout (end c.args.path) point there) c.requires.room)
