-- What is read is spelled so, and what is spelled so is read.
use Rattle.std.proofs.Common.{◌≡◌, ◌≢◌, ℕ, ◌+◌, ◌<◌, ◌≤◌, ◌⊎◌, inl, inr, Bool, true, false, cond, ◌&&◌, eqb, Option, Some, None, Result, Ok, Err, List, [], ◌∷◌, length, get_or, All, refl, sym, ap, subst, arith, ◌∙◌}
use Rattle.std.specs.Prelude.{IfOk, codes}
use Rattle.std.specs.List.{list_any}
use Rattle.std.specs.Str.{bytes_eq}
use Rattle.std.specs.Cmp.Lexicographic.{bytes_decides}
use Rattle.std.proofs.Math.Dec.{ltb}
use Rattle.std.proofs.lemmas.Bool.{lt-ltb, ltb-true, ltb-false, le-ltb, eq-eqb, eqb-true, ne_eqb, false_from_ne_true, and_parts}
use Rattle.std.proofs.lemmas.List.Folds.{list_any_none}
use Rattle.wh_text.specs.Words.{begins_comment, words_of}
use Rattle.wh_text.specs.Numbers.{small_number_of}
use Rattle.wh_text.specs.Names.{is_name}
use Rattle.wh_grid.specs.declared.cell.Cell.{Cell}
use Rattle.wh_grid.specs.Grids.{Floor}
use Rattle.wh_grid.proofs.Steps.{bind_ok}
use Rattle.wh_points.specs.declared.points.Kind.{Kind}
use Rattle.wh_points.specs.declared.points.Kind.TheVariants.{Station, Parking}
use Rattle.wh_points.specs.declared.points.Point.{Point}
use Rattle.wh_points.specs.declared.fault.FaultKind.{FaultKind}
use Rattle.wh_points.specs.declared.fault.FaultKind.TheVariants.{Form, Name, NameTwice, Blocked, CellTwice, TooMany, StartTwice, RuleTwice}
use Rattle.wh_points.specs.declared.fault.Fault.{Fault}
use Rattle.wh_points.specs.declared.fault.PointFault.{PointFault}
use Rattle.wh_points.specs.Points.{Layout}
use Rattle.wh_points.specs.Layouts.{find_name}
use Rattle.wh_points.specs.PointLines.{is_open, has_name, has_cell, with_point, with_agent, with_rule, placed_at, point_by, starts_at, agent_by, rule_by, named, line_by, line_of}
use Rattle.wh_points.specs.PointFiles.{empty, located, whole, layout_from, Gives}
use Rattle.wh_points.specs.PointGrammar.{IsSkipped, word_of, AddsPoint, AddsAgent, AddsRule, Says, Spells, IsPointsFile}
use Rattle.wh_points.proofs.Additions.{list_any-false}
use Rattle.wh_points.proofs.LineSteps.{open_passable, passable_open}
use Rattle.wh_points.proofs.LayoutLaws.{located_ok}

-- tests and what they decide
abbrev Read : Type 0
Read = Result Layout FaultKind

when_ok : (b : Bool) (r : Read) (kind : FaultKind) (after : Layout) → cond b r (Err kind) ≡ Ok after → (b ≡ true) × (r ≡ Ok after)
when_ok true r kind after e = (refl, e)
when_ok false r kind after e = absurd cc

unless_ok : (b : Bool) (r : Read) (kind : FaultKind) (after : Layout) → cond b (Err kind) r ≡ Ok after → (b ≡ false) × (r ≡ Ok after)
unless_ok true r kind after e = absurd cc
unless_ok false r kind after e = (refl, e)

either_ok : (b : Bool) (r s : Read) (after : Layout) → cond b r s ≡ Ok after → ((b ≡ true) × (r ≡ Ok after)) ⊎ ((b ≡ false) × (s ≡ Ok after))
either_ok true r s after e = inl (refl, e)
either_ok false r s after e = inr (refl, e)

same_bytes : (a b : List ℕ) → bytes_eq a b ≡ true → a ≡ b
same_bytes a b = (bytes_decides a b).0

are_equal : (a : List ℕ) → bytes_eq a a ≡ true
are_equal a = (bytes_decides a a).1 refl

ok_is : (a b : Layout) → (let r : Read = Ok a in let s : Read = Ok b in r ≡ s) → b ≡ a
ok_is a b e = cc

names_apart : (name : List ℕ) (points : List Point) → has_name name points ≡ false → All (λ other. other.name ≢ name) points
names_apart name points h = λ i d below e.
    let fails : bytes_eq name (get_or points i d).name ≡ false = list_any-false (λ p. bytes_eq name p.name) points h i d below in
    let passes : bytes_eq name (get_or points i d).name ≡ true = (bytes_decides name (get_or points i d).name).1 (sym e) in
    absurd cc

apart_names : (name : List ℕ) (points : List Point) → All (λ other. other.name ≢ name) points → has_name name points ≡ false
apart_names name points all = list_any_none (λ p. bytes_eq name p.name) points (λ i d below. false_from_ne_true (bytes_eq name (get_or points i d).name) (λ h. all i d below (sym (same_bytes name (get_or points i d).name h))))

cell_is : (c d : Cell) → c.x ≡ d.x → c.y ≡ d.y → c ≡ d
cell_is c d ex ey = λ i. record { x = ex i; y = ey i }

cells_apart : (cell : Cell) (points : List Point) → has_cell cell.x cell.y points ≡ false → All (λ other. other.cell ≢ cell) points
cells_apart cell points h = λ i d below e.
    let x : eqb cell.x (get_or points i d).cell.x ≡ true = eq-eqb _ _ (ap (λ (c : Cell). c.x) (sym e)) in
    let y : eqb cell.y (get_or points i d).cell.y ≡ true = eq-eqb _ _ (ap (λ (c : Cell). c.y) (sym e)) in
    let fails : (eqb cell.x (get_or points i d).cell.x && eqb cell.y (get_or points i d).cell.y) ≡ false = list_any-false (λ p. eqb cell.x p.cell.x && eqb cell.y p.cell.y) points h i d below in
    let passes : (eqb cell.x (get_or points i d).cell.x && eqb cell.y (get_or points i d).cell.y) ≡ true = rw (x, y) refl in
    absurd cc

apart_cells : (cell : Cell) (points : List Point) → All (λ other. other.cell ≢ cell) points → has_cell cell.x cell.y points ≡ false
apart_cells cell points all = list_any_none (λ p. eqb cell.x p.cell.x && eqb cell.y p.cell.y) points (λ i d below.
    false_from_ne_true (eqb cell.x (get_or points i d).cell.x && eqb cell.y (get_or points i d).cell.y) (λ h.
    let b = and_parts (eqb cell.x (get_or points i d).cell.x) (eqb cell.y (get_or points i d).cell.y) h in
    all i d below (cell_is (get_or points i d).cell cell (sym (eqb-true _ _ b.0)) (sym (eqb-true _ _ b.1)))))

starts_apart : (n : ℕ) (agents : List ℕ) → list_any (λ m. eqb m n) agents ≡ false → All (λ other. other ≢ n) agents
starts_apart n agents h = λ i d below e.
    let fails : eqb (get_or agents i d) n ≡ false = list_any-false (λ m. eqb m n) agents h i d below in
    let passes : eqb (get_or agents i d) n ≡ true = eq-eqb _ _ e in
    absurd cc

apart_starts : (n : ℕ) (agents : List ℕ) → All (λ other. other ≢ n) agents → list_any (λ m. eqb m n) agents ≡ false
apart_starts n agents all = list_any_none (λ m. eqb m n) agents (λ i d below. ne_eqb (get_or agents i d) n (all i d below))

-- ---- a point
placed_says : (g : Floor) (before after : Layout) (kind : Kind) (name xs ys : List ℕ) (x y : Option ℕ) → small_number_of xs ≡ x → small_number_of ys ≡ y
    → placed_at g before kind name x y ≡ Ok after → AddsPoint g before (word_of kind ∷ name ∷ xs ∷ ys ∷ []) after
placed_says g before after kind name xs ys None y ex ey e = absurd cc
placed_says g before after kind name xs ys (Some x) None ex ey e = absurd cc
placed_says g before after kind name xs ys (Some x) (Some y) ex ey e =
    let cell : Cell = record { x = x; y = y } in
    let point : Point = record { name = name; cell = cell; kind = kind } in
    let a = when_ok (is_name name) _ Name after e in
    let b = unless_ok (has_name name before.points) _ NameTwice after a.1 in
    let c = when_ok (is_open g x y) _ Blocked after b.1 in
    let d = unless_ok (has_cell x y before.points) _ CellTwice after c.1 in
    let f = when_ok (ltb (length before.points) 4096) (Ok (with_point before point)) TooMany after d.1 in
    record {
      point = point;
      x = xs;
      y = ys;
      spelled = refl;
      column = ex;
      row = ey;
      is_name = a.0;
      new_name = names_apart name before.points b.0;
      passable = open_passable g x y c.0;
      new_cell = cells_apart cell before.points d.0;
      room = ltb-true _ _ f.0;
      adds = ok_is (with_point before point) after f.1;
    }

point_says : (g : Floor) (before after : Layout) (kind : Kind) (words : List (List ℕ)) → point_by g before kind words ≡ Ok after → AddsPoint g before (word_of kind ∷ words) after
point_says g before after kind [] e = absurd cc
point_says g before after kind (name ∷ []) e = absurd cc
point_says g before after kind (name ∷ x ∷ []) e = absurd cc
point_says g before after kind (name ∷ x ∷ y ∷ []) e = placed_says g before after kind name x y (small_number_of x) (small_number_of y) refl refl e
point_says g before after kind (name ∷ x ∷ y ∷ more ∷ words) e = absurd cc

-- ---- an agent
starts_says : (before after : Layout) (name : List ℕ) (found : Option ℕ) → is_name name ≡ true → find_name name before.points ≡ found → starts_at before found ≡ Ok after → AddsAgent before (codes "agent" ∷ name ∷ []) after
starts_says before after name None is at e = absurd cc
starts_says before after name (Some n) is at e =
    let a = unless_ok (list_any (λ m. eqb m n) before.agents) _ StartTwice after e in
    let b = when_ok (ltb (length before.agents) 256) (Ok (with_agent before n)) TooMany after a.1 in
    record { name = name; number = n; spelled = refl; is_name = is; found = at; new = starts_apart n before.agents a.0; room = ltb-true _ _ b.0; adds = ok_is (with_agent before n) after b.1 }

agent_says : (before after : Layout) (words : List (List ℕ)) → agent_by before words ≡ Ok after → AddsAgent before (codes "agent" ∷ words) after
agent_says before after [] e = absurd cc
agent_says before after (name ∷ []) e =
    let a = when_ok (is_name name) (starts_at before (find_name name before.points)) Name after e in
    starts_says before after name (find_name name before.points) a.0 refl a.1
agent_says before after (name ∷ more ∷ words) e = absurd cc

-- ---- the rule
rule_says : (before after : Layout) (words : List (List ℕ)) → rule_by before words ≡ Ok after → AddsRule before (codes "rule" ∷ words) after
rule_says before after [] e = absurd cc
rule_says before after (name ∷ []) e =
    let a = when_ok (bytes_eq name (codes "nofollow")) _ Form after e in
    let b = unless_ok before.nofollow (Ok (with_rule before)) RuleTwice after a.1 in
    record { spelled = ap (λ (w : List ℕ). codes "rule" ∷ w ∷ []) (same_bytes name (codes "nofollow") a.0); new = b.0; adds = ok_is (with_rule before) after b.1 }
rule_says before after (name ∷ more ∷ words) e = absurd cc

abbrev Adds : Floor → Layout → List (List ℕ) → Layout → Type 0
Adds g before words after = AddsPoint g before words after ⊎ AddsAgent before words after ⊎ AddsRule before words after

named_says : (g : Floor) (before after : Layout) (name : List ℕ) (rest : List (List ℕ)) → named g before name rest ≡ Ok after → Adds g before (name ∷ rest) after
named_says g before after name rest e = elim (either_ok (bytes_eq name (codes "station")) (point_by g before Station rest) _ after e) [
  | inl a ↦ inl (subst (λ (w : List ℕ). AddsPoint g before (w ∷ rest) after) (sym (same_bytes name (codes "station") a.0)) (point_says g before after Station rest a.1))
  | inr a ↦ elim (either_ok (bytes_eq name (codes "parking")) (point_by g before Parking rest) _ after a.1) [
    | inl b ↦ inl (subst (λ (w : List ℕ). AddsPoint g before (w ∷ rest) after) (sym (same_bytes name (codes "parking") b.0)) (point_says g before after Parking rest b.1))
    | inr b ↦ elim (either_ok (bytes_eq name (codes "agent")) (agent_by before rest) _ after b.1) [
      | inl c ↦ inr (inl (subst (λ (w : List ℕ). AddsAgent before (w ∷ rest) after) (sym (same_bytes name (codes "agent") c.0)) (agent_says before after rest c.1)))
      | inr c ↦ (let d = when_ok (bytes_eq name (codes "rule")) (rule_by before rest) Form after c.1 in
          inr (inr (subst (λ (w : List ℕ). AddsRule before (w ∷ rest) after) (sym (same_bytes name (codes "rule") d.0)) (rule_says before after rest d.1))))
    ]
  ]
]

line_by_says : (g : Floor) (before after : Layout) (size : ℕ) (words : List (List ℕ)) → line_by g before (ltb 256 size) words ≡ Ok after
    → (IsSkipped words × (after ≡ before)) ⊎ ((size ≤ 256) × Adds g before words after)
line_by_says g before after size [] e = inl (tt, ok_is before after e)
line_by_says g before after size (name ∷ rest) e = elim (either_ok (begins_comment name) (Ok before) _ after e) [
  | inl a ↦ inl (a.0, ok_is before after a.1)
  | inr a ↦ (let b = unless_ok (ltb 256 size) (named g before name rest) Form after a.1 in inr (ltb-false _ _ b.0, named_says g before after name rest b.1))
]

pub line_says : (g : Floor) (before after : Layout) (line : List ℕ) → line_of g before line ≡ Ok after → Says g before line after
line_says g before after line e = line_by_says g before after (length line) (words_of line) e

whole_says : (last : ℕ) (layout new : Layout) (agents : List ℕ) → whole last layout agents ≡ Ok new → (layout ≡ new) × (0 < length agents)
whole_says last layout new [] e = absurd cc
whole_says last layout new (n ∷ agents) e = (cc, omega arith)

from_says : (g : Floor) (before after : Layout) (count : ℕ) (lines : List (List ℕ)) → layout_from g before count lines ≡ Ok after → Spells g before lines after × (0 < length after.agents)
unfolding layout_from
from_says g before after count [] e =
    let w = whole_says count before after before.agents e in
    (w.0, subst (λ (l : Layout). 0 < length l.agents) w.0 w.1)
from_says g before after count (line ∷ lines) e =
    let a = bind_ok (located (count + 1) (line_of g before line)) (λ next. layout_from g next (count + 1) lines) after e in
    let rest = from_says g a.0 after (count + 1) lines a.2 in
    ((a.0, line_says g before a.0 line (located_ok (count + 1) (line_of g before line) a.0 a.1), rest.0), rest.1)

pub read_found : (g : Floor) (lines : List (List ℕ)) (r : Result Layout PointFault) → Gives r (layout_from g empty 0 lines) → IfOk r (IsPointsFile g lines)
read_found g lines (Ok layout) h = from_says g empty layout 0 lines h
read_found g lines (Err e) h = tt

-- ---- and the other way
point_again : (g : Floor) (before after : Layout) (words : List (List ℕ)) → (a : AddsPoint g before words after)
    → point_by g before a.point.kind (a.point.name ∷ a.x ∷ a.y ∷ []) ≡ Ok after
point_again g before after words a =
    let n : has_name a.point.name before.points ≡ false = apart_names a.point.name before.points a.new_name in
    let o : is_open g a.point.cell.x a.point.cell.y ≡ true = passable_open g a.point.cell.x a.point.cell.y a.passable in
    let c : has_cell a.point.cell.x a.point.cell.y before.points ≡ false = apart_cells a.point.cell before.points a.new_cell in
    let r : ltb (length before.points) 4096 ≡ true = lt-ltb (length before.points) 4096 a.room in
    rw (a.column, a.row, a.is_name, n, o, c, r) (ap (λ (l : Layout). Ok l) (sym a.adds))

point_named : (g : Floor) (before : Layout) (kind : Kind) (rest : List (List ℕ)) → named g before (word_of kind) rest ≡ point_by g before kind rest
point_named g before Station rest = refl
point_named g before Parking rest = refl

line_by_again : (g : Floor) (before after : Layout) (name : List ℕ) (rest : List (List ℕ)) → begins_comment name ≡ false → named g before name rest ≡ Ok after → line_by g before false (name ∷ rest) ≡ Ok after
line_by_again g before after name rest c e = rw c e

no_comment : (kind : Kind) → begins_comment (word_of kind) ≡ false
no_comment Station = refl
no_comment Parking = refl

adds_again : (g : Floor) (before after : Layout) (words : List (List ℕ)) → Adds g before words after → line_by g before false words ≡ Ok after
adds_again g before after words (inl a) =
    subst (λ (ws : List (List ℕ)). line_by g before false ws ≡ Ok after) (sym a.spelled)
    (line_by_again g before after (word_of a.point.kind) (a.point.name ∷ a.x ∷ a.y ∷ []) (no_comment a.point.kind)
    (point_named g before a.point.kind (a.point.name ∷ a.x ∷ a.y ∷ []) ∙ point_again g before after words a))
adds_again g before after words (inr (inl a)) =
    subst (λ (ws : List (List ℕ)). line_by g before false ws ≡ Ok after) (sym a.spelled)
    (let n : list_any (λ m. eqb m a.number) before.agents ≡ false = apart_starts a.number before.agents a.new in
    let r : ltb (length before.agents) 256 ≡ true = lt-ltb (length before.agents) 256 a.room in
    rw (a.is_name, a.found, n, r) (ap (λ (l : Layout). Ok l) (sym a.adds)))
adds_again g before after words (inr (inr a)) =
    subst (λ (ws : List (List ℕ)). line_by g before false ws ≡ Ok after) (sym a.spelled)
    (rw a.new (ap (λ (l : Layout). Ok l) (sym a.adds)))

skipped_again : (g : Floor) (before : Layout) (long : Bool) (words : List (List ℕ)) → IsSkipped words → line_by g before long words ≡ Ok before
skipped_again g before long [] h = refl
skipped_again g before long (name ∷ rest) h = rw h refl

pub line_again : (g : Floor) (before after : Layout) (line : List ℕ) → Says g before line after → line_of g before line ≡ Ok after
line_again g before after line (inl (skipped, same)) = skipped_again g before (ltb 256 (length line)) (words_of line) skipped ∙ ap (λ (l : Layout). Ok l) (sym same)
line_again g before after line (inr (short, adds)) =
    let s : ltb 256 (length line) ≡ false = le-ltb 256 (length line) short in
    ap (λ (b : Bool). line_by g before b (words_of line)) s ∙ adds_again g before after (words_of line) adds

whole_again : (last : ℕ) (layout : Layout) (agents : List ℕ) → 0 < length agents → whole last layout agents ≡ Ok layout
whole_again last layout [] some = absurd (omega arith)
whole_again last layout (n ∷ agents) some = refl

from_again : (g : Floor) (before after : Layout) (count : ℕ) (lines : List (List ℕ)) → Spells g before lines after → 0 < length after.agents → layout_from g before count lines ≡ Ok after
unfolding layout_from
from_again g before after count [] same some =
    subst (λ (l : Layout). whole count before before.agents ≡ Ok l) same (whole_again count before before.agents (subst (λ (l : Layout). 0 < length l.agents) (sym same) some))
from_again g before after count (line ∷ lines) h some =
    let e = line_again g before h.0 line h.1 in
    rw e (from_again g h.0 after (count + 1) lines h.2 some)

pub read_only : (g : Floor) (lines : List (List ℕ)) (layout : Layout) (r : Result Layout PointFault) → IsPointsFile g lines layout → Gives r (layout_from g empty 0 lines) → Gives r (Ok layout)
read_only g lines layout r h = subst (λ (read : Result Layout Fault). Gives r read) (from_again g empty layout 0 lines h.0 h.1)
