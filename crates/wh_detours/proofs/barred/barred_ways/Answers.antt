use Rattle.std.proofs.Common.{◌≡◌, ◌∷◌, ℕ, Option, None, length, get_or, add-one, length-set, ◌∙◌, ap, sym, subst, arith}
use Rattle.std.proofs.lemmas.List.{get_or_default}
use Rattle.wh_grid.specs.declared.cell.Cell.{Cell}
use Rattle.wh_path.specs.Paths.{cell_at}
use Rattle.wh_field.specs.declared.sight.Sight.{Sight}
use Rattle.wh_detours.specs.Barred.{IsShut, IsClearBy, AreBarred, cell_before}
use Rattle.wh_detours.proofs.Telling.{barred_more}
use Rattle.wh_detours.proofs.barred.barred_ways.Goals as goal

pub loop-i-preserved : goal.loop-i-preserved
loop-i-preserved c =
    let g = c.args.grid.now in
    let o = c.args.others.now in
    let loc = c.args.loc in
    let stops = c.args.stops.now in
    let sights = c.args.sights.now in
    let n = c.loop-i.i in
    let size = c.loop-i.invariant.size in
    let from = c.loop-i.invariant.from_is in
    let sight : c.index-sights-i.result ≡ get_or sights n None = c.index-sights-i.is ∙ get_or_default sights n c.index-sights-i.result None (omega (arith, c.requires.sights.size)) in
    record {
      size = omega (arith, length-set c.loop-i.barred n c.is_way_barred.result);
      from_is = get_or_default stops n (record { x = 0; y = 0 }) loc (omega arith) ∙ sym (ap (λ i. get_or (loc ∷ stops) i loc) (add-one n));
      told = barred_more g o loc stops sights c.loop-i.barred n c.is_way_barred.result (omega (arith, c.requires.few)) c.loop-i.invariant.told
          (λ yes. subst (λ (d : Cell). IsShut g o loc d (cell_at stops n)) from (c.is_way_barred.ensures.shut yes))
          (λ no. subst (λ (s : Option Sight). IsClearBy g o loc (cell_before loc stops n) (cell_at stops n) s) sight
          (subst (λ (d : Cell). IsClearBy g o loc d (cell_at stops n) c.index-sights-i.result) from (c.is_way_barred.ensures.clear no)));
    }

pub returns-clause-each : goal.returns-clause-each
returns-clause-each c =
    let end : c.loop-i.i ≡ length c.args.stops.now = omega arith in
    subst (λ (n : ℕ). AreBarred c.args.grid.now c.args.others.now c.args.loc c.args.stops.now c.args.sights.now c.loop-i.barred n) end c.loop-i.invariant.told
