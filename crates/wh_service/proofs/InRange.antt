-- A site that was read is in the ranges of a log.
use Rattle.std.proofs.Common.{◌≡◌, ◌*◌, ◌≤◌, ℕ, List, [], ◌∷◌, length, map, sym, ap, ◌∙◌, subst, arith, inl, inr, All, Ok}
use Rattle.std.specs.List.{AllByRecursion, flat_map}
use Rattle.std.proofs.lemmas.List.{length-append, length-map, length_push}
use Rattle.std.proofs.lemmas.List.Elements.{All-nil, All-push}
use Rattle.wh_text.specs.Lines.{lines_of}
use Rattle.wh_lines.specs.Input.{Input}
use Rattle.wh_grid.specs.Grids.{Floor}
use Rattle.wh_grid.specs.Grammar.{IsMap, IsRow}
use Rattle.wh_grid.specs.MapLines.{is_passable}
use Rattle.wh_grid.proofs.GrammarLemmas.{map_is_found}
use Rattle.wh_points.specs.declared.points.Point.{Point}
use Rattle.wh_points.specs.Points.{Layout, Site}
use Rattle.wh_points.specs.PointFiles.{empty}
use Rattle.wh_points.specs.PointGrammar.{IsPointsFile, Says, Spells}
use Rattle.wh_points.proofs.GrammarLaws.{read_found}
use Rattle.wh_event.specs.Grammar.{IsName}
use Rattle.wh_edge.specs.Site.{SiteRead}
use Rattle.wh_judge.specs.Written.{IsInRange}

row_cells : (width : ℕ) (rows : List (List ℕ)) → AllByRecursion (IsRow width) rows → length (flat_map (map is_passable) rows) ≡ width * length rows
row_cells width [] all = omega arith
row_cells width (row ∷ rows) all =
    let split = length-append (map is_passable row) (flat_map (map is_passable) rows) in
    let first = length-map row is_passable in
    let columns = all.0.columns in
    let rest = row_cells width rows all.1 in omega arith

sides : (lines : List (List ℕ)) (g : Floor) → IsMap lines g → (g.width ≤ 4096) × (g.height ≤ 4096)
sides lines g m = elim m.sides [ inl s ↦ (s.1.within, s.0.within) | inr s ↦ (s.0.within, s.1.within) ]

-- names that are names, and few agents
record Tame (layout : Layout) : Type 0 where
  names : All (λ (point : Point). IsName point.name) layout.points
  few : length layout.agents ≤ 256

tame_says : (g : Floor) (before next : Layout) (line : List ℕ) → Tame before → Says g before line next → Tame next
tame_says g before next line tame says = elim says [
  | inl skipped ↦ subst Tame (sym skipped.1) tame
  | inr said ↦ elim said.1 [
    | inl point ↦ subst Tame (sym point.adds) (record { names = All-push (λ (p : Point). IsName p.name) before.points point.point tame.names point.is_name; few = tame.few })
    | inr other ↦ elim other [
      | inl agent ↦ subst Tame (sym agent.adds) (record { names = tame.names; few = let long = length_push before.agents agent.number in let room = agent.room in omega arith })
      | inr rule ↦ subst Tame (sym rule.adds) (record { names = tame.names; few = tame.few })
    ]
  ]
]

tame_spells : (g : Floor) (before after : Layout) (lines : List (List ℕ)) → Tame before → Spells g before lines after → Tame after
tame_spells g before after [] tame spells = subst Tame spells tame
tame_spells g before after (line ∷ lines) tame spells = tame_spells g spells.0 after lines (tame_says g before spells.0 line tame spells.1) spells.2

pub in_range : (old new : Input) (site : Site) → SiteRead old new site.grid site.layout → IsInRange site
in_range old new site read =
    let m : IsMap (lines_of read.map.text) site.grid = map_is_found (lines_of read.map.text) site.grid read.map.says in
    let p : IsPointsFile site.grid (lines_of read.text) site.layout = read_found site.grid (lines_of read.text) (Ok site.layout) read.says in
    let tame = tame_spells site.grid empty site.layout (lines_of read.text) (record { names = All-nil (λ (point : Point). IsName point.name); few = omega arith }) p.0 in
    let short = sides (lines_of read.map.text) site.grid m in
    let some = p.1 in
    let rows = row_cells site.grid.width m.rows m.are_rows in
    let high = m.height in
    let all : length site.grid.walkable ≡ site.grid.width * length m.rows = ap length m.cells ∙ rows in
    record {
      width = short.0;
      height = short.1;
      cells = all ∙ ap (λ n. site.grid.width * n) high;
      some = omega arith;
      few = tame.few;
      names = tame.names;
    }
