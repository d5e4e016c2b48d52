-- the opening state is orderly
use Rattle.std.proofs.Common.{◌≡◌, ℕ, ◌+◌, ◌<◌, ◌∙◌, inl, List, [], ◌∷◌, Some, None, length, get_or, map, sym, subst, ap, arith}
use Rattle.std.proofs.lemmas.List.{length-map, get_or-map}
use Rattle.std.proofs.lemmas.List.Elements.{Contains-get_or}
use Rattle.wh_grid.specs.declared.cell.Cell.{Cell}
use Rattle.wh_points.specs.declared.points.Kind.{Kind}
use Rattle.wh_grid.specs.Grids.{Floor, IsPassable}
use Rattle.wh_path.specs.Paths.{end, end_of, path_of, IsWalk, last_index}
use Rattle.wh_points.specs.Points.{Layout, Site, IsLayout, IsPointCell, point_at, starts, home_of}
use Rattle.wh_path.proofs.AtLemmas.{at-one}
use Rattle.wh_path.proofs.Freedom.{free-resting}
use Rattle.wh_core.specs.States.{State, opened}
use Rattle.wh_core.specs.Steps.{IsBerth}
use Rattle.wh_core.specs.Laws.{IsOpening}
use Rattle.wh_core.proofs.Motion.{IsOrderly}

pub walk-one : (g : Floor) (c : Cell) → IsPassable g c → IsWalk g (c ∷ [])
walk-one g c passable = record {
  non_empty = omega arith;
  passable = λ k. rw at-one passable;
  moves = λ k. inl (at-one c k ∙ sym (at-one c (k + 1)));
}

pub point-cell : (layout : Layout) (n : ℕ) → n < length layout.points → IsPointCell layout (point_at layout.points n).cell
point-cell layout n h =
    let p = point_at layout.points n in
    (p.name, (p.kind, Contains-get_or layout.points n (record { name = []; cell = record { x = 0; y = 0 }; kind = Kind.Parking }) h))

pub opened-path : (layout : Layout) (i : ℕ) → i < length layout.agents →
    path_of (map (λ cell. cell ∷ []) (starts layout)) i ≡ (point_at layout.points (get_or layout.agents i 0)).cell ∷ []
opened-path layout i h =
    let one : Cell → List Cell = λ cell. cell ∷ [] in
    let start : ℕ → Cell = λ n. (point_at layout.points n).cell in
    let l : i < length (starts layout) = (let e = length-map layout.agents start in omega arith) in
    get_or-map one (starts layout) i (record { x = 0; y = 0 }) [] l
    ∙ ap one (get_or-map start layout.agents i 0 (record { x = 0; y = 0 }) h)

pub opened-count : (layout : Layout) (i : ℕ) → i < length (map (λ (cell : Cell). cell ∷ []) (starts layout)) → i < length layout.agents
opened-count layout i h =
    let e = length-map (starts layout) (λ (cell : Cell). cell ∷ []) in
    let f = length-map layout.agents (λ n. (point_at layout.points n).cell) in
    omega arith

pub orderly-opened : (site : Site) (clock : ℕ) (slots : List ℕ) → IsLayout site.grid site.layout → IsOrderly site (opened site.layout clock slots)
orderly-opened site clock slots layout = record {
  free = record {
    pair = λ i j hi hj ne.
        let i_in = opened-count site.layout i hi in
        let j_in = opened-count site.layout j hj in
        rw (opened-path site.layout i i_in, opened-path site.layout j j_in) (free-resting site.layout.nofollow _ _
        (layout.cells _ _ (layout.known i 0 i_in) (layout.known j 0 j_in) (layout.distinct i j i_in j_in ne)));
  };
  walks = λ i h.
      let i_in = opened-count site.layout i h in
      let n = get_or site.layout.agents i 0 in
      let known = layout.known i 0 i_in in
      subst (λ p. IsWalk site.grid p) (sym (opened-path site.layout i i_in))
      (walk-one site.grid (point_at site.layout.points n).cell (layout.passable n _ known));
  stops = λ n task is. absurd (let e : None ≡ Some task = is in cc);
}

pub orderly-opening : (site : Site) (s : State) → IsOpening site s → IsOrderly site s
orderly-opening site s o = subst (λ t. IsOrderly site t) (sym o.is_opened) (orderly-opened site o.clock o.slots o.layout)

-- the home of an agent is the point where it starts
pub home-start : (layout : Layout) (i : ℕ) → i < length layout.agents → home_of layout i ≡ (point_at layout.points (get_or layout.agents i 0)).cell
home-start layout i h = get_or-map (λ n. (point_at layout.points n).cell) layout.agents i 0 (record { x = 0; y = 0 }) h

pub home-point : (site : Site) (i : ℕ) → IsLayout site.grid site.layout → i < length site.layout.agents → IsPointCell site.layout (home_of site.layout i)
home-point site i layout h =
    subst (λ c. IsPointCell site.layout c) (sym (home-start site.layout i h))
    (point-cell site.layout (get_or site.layout.agents i 0) (layout.known i 0 h))

-- and each agent stands at its home
pub berths-opened : (site : Site) (clock : ℕ) (slots : List ℕ) → IsLayout site.grid site.layout → (i : ℕ) → i < length (opened site.layout clock slots).paths →
    IsBerth site i (end_of (opened site.layout clock slots).paths i)
berths-opened site clock slots layout i h =
    let i_in = opened-count site.layout i h in
    let c = (point_at site.layout.points (get_or site.layout.agents i 0)).cell in
    let is : end_of (opened site.layout clock slots).paths i ≡ home_of site.layout i =
    ap end (opened-path site.layout i i_in) ∙ at-one c (last_index (c ∷ [])) ∙ sym (home-start site.layout i i_in) in
    record {
      point = subst (λ d. IsPointCell site.layout d) (sym is) (home-point site i layout i_in);
      own = λ on. is;
    }
