-- What is read from a points file is a layout on its grid.
use Rattle.std.proofs.Common.{◌≡◌, ℕ, ◌+◌, ◌<◌, ◌≤◌, Bool, true, false, cond, eqb, Option, Some, None, Result, Ok, Err, List, [], ◌∷◌, length, All, refl, ap, subst, arith}
use Rattle.std.specs.Prelude.{IfOk, codes}
use Rattle.std.specs.List.{list_any}
use Rattle.std.specs.Str.{bytes_eq}
use Rattle.std.proofs.Math.Dec.{ltb}
use Rattle.std.proofs.lemmas.List.Elements.{All-push}
use Rattle.std.proofs.lemmas.List.Quantifiers.{position-Some}
use Rattle.wh_text.specs.Words.{begins_comment, words_of}
use Rattle.wh_text.specs.Numbers.{small_number_of}
use Rattle.wh_text.specs.Names.{is_name}
use Rattle.wh_grid.specs.Grids.{Floor, IsPassable}
use Rattle.wh_grid.proofs.Steps.{bind_ok}
use Rattle.wh_points.specs.declared.points.Kind.{Kind}
use Rattle.wh_points.specs.declared.points.Kind.TheVariants.{Station, Parking}
use Rattle.wh_points.specs.declared.points.Point.{Point}
use Rattle.wh_points.specs.declared.fault.FaultKind.{FaultKind}
use Rattle.wh_points.specs.declared.fault.FaultKind.TheVariants.{Form, Name, NameTwice, Blocked, CellTwice, TooMany, StartTwice, RuleTwice}
use Rattle.wh_points.specs.declared.fault.PointFault.{PointFault}
use Rattle.wh_points.specs.Points.{Layout, IsLayout, point_at}
use Rattle.wh_points.specs.Layouts.{AreApart, find_name}
use Rattle.wh_points.specs.PointLines.{is_open, has_name, has_cell, with_point, with_agent, with_rule, placed, placed_at, point_by, starts_at, agent_by, rule_by, named, line_by, line_of}
use Rattle.wh_points.specs.PointFiles.{empty, located, whole, layout_from, layout_at, Gives}
use Rattle.wh_points.proofs.Additions.{apart_point, apart_agent}
use Rattle.wh_points.proofs.LineSteps.{open_passable}

apart_of : (g : Floor) (layout : Layout) → IsLayout g layout → AreApart layout
apart_of g layout is = record { names = is.names; cells = is.cells; known = is.known; distinct = is.distinct }

with_apart : (g : Floor) (layout : Layout) → All (λ p. IsPassable g p.cell) layout.points → AreApart layout → IsLayout g layout
with_apart g layout passable a = record { passable = passable; names = a.names; cells = a.cells; known = a.known; distinct = a.distinct }

abbrev Keeps : Floor → Layout → Result Layout FaultKind → Type 0
Keeps g layout r = IfOk r (λ new. IsLayout g layout → IsLayout g new)

-- a test before a refusal
keeps_when : (g : Floor) (layout : Layout) (b : Bool) (r : Result Layout FaultKind) (kind : FaultKind) → (b ≡ true → Keeps g layout r) → Keeps g layout (cond b r (Err kind))
keeps_when g layout true r kind h = h refl
keeps_when g layout false r kind h = tt

keeps_unless : (g : Floor) (layout : Layout) (b : Bool) (r : Result Layout FaultKind) (kind : FaultKind) → (b ≡ false → Keeps g layout r) → Keeps g layout (cond b (Err kind) r)
keeps_unless g layout true r kind h = tt
keeps_unless g layout false r kind h = h refl

keeps_either : (g : Floor) (layout : Layout) (b : Bool) (r s : Result Layout FaultKind) → Keeps g layout r → Keeps g layout s → Keeps g layout (cond b r s)
keeps_either g layout true r s h k = h
keeps_either g layout false r s h k = k

placed_keeps : (g : Floor) (layout : Layout) (kind : Kind) (name : List ℕ) (x y : ℕ) → Keeps g layout (placed g layout kind name x y)
placed_keeps g layout kind name x y =
    let point : Point = record { name = name; cell = record { x = x; y = y }; kind = kind } in
    let last : Result Layout FaultKind = Ok (with_point layout point) in
    keeps_when g layout (is_name name) _ Name (λ n.
    keeps_unless g layout (has_name name layout.points) _ NameTwice (λ fresh.
    keeps_when g layout (is_open g x y) _ Blocked (λ clear.
    keeps_unless g layout (has_cell x y layout.points) _ CellTwice (λ apart.
    keeps_when g layout (ltb (length layout.points) 4096) last TooMany (λ few is.
    with_apart g (with_point layout point) (All-push (λ p. IsPassable g p.cell) layout.points point is.passable (open_passable g x y clear)) (apart_point layout point (apart_of g layout is) fresh apart))))))

placed_at_keeps : (g : Floor) (layout : Layout) (kind : Kind) (name : List ℕ) (x y : Option ℕ) → Keeps g layout (placed_at g layout kind name x y)
placed_at_keeps g layout kind name (Some x) (Some y) = placed_keeps g layout kind name x y
placed_at_keeps g layout kind name (Some x) None = tt
placed_at_keeps g layout kind name None y = tt

point_keeps : (g : Floor) (layout : Layout) (kind : Kind) (words : List (List ℕ)) → Keeps g layout (point_by g layout kind words)
point_keeps g layout kind [] = tt
point_keeps g layout kind (name ∷ []) = tt
point_keeps g layout kind (name ∷ x ∷ []) = tt
point_keeps g layout kind (name ∷ x ∷ y ∷ []) = placed_at_keeps g layout kind name (small_number_of x) (small_number_of y)
point_keeps g layout kind (name ∷ x ∷ y ∷ more ∷ words) = tt

starts_keeps : (g : Floor) (layout : Layout) (name : List ℕ) (found : Option ℕ) → find_name name layout.points ≡ found → Keeps g layout (starts_at layout found)
starts_keeps g layout name None e = tt
starts_keeps g layout name (Some n) e =
    let known : n < length layout.points = (position-Some (λ p. bytes_eq name p.name) layout.points n (point_at layout.points n) e).0 in
    let last : Result Layout FaultKind = Ok (with_agent layout n) in
    keeps_unless g layout (list_any (λ m. eqb m n) layout.agents) _ StartTwice (λ fresh.
    keeps_when g layout (ltb (length layout.agents) 256) last TooMany (λ few is.
    with_apart g (with_agent layout n) is.passable (apart_agent layout n (apart_of g layout is) known fresh)))

agent_keeps : (g : Floor) (layout : Layout) (words : List (List ℕ)) → Keeps g layout (agent_by layout words)
agent_keeps g layout [] = tt
agent_keeps g layout (name ∷ []) = keeps_when g layout (is_name name) (starts_at layout (find_name name layout.points)) Name (λ n. starts_keeps g layout name (find_name name layout.points) refl)
agent_keeps g layout (name ∷ more ∷ words) = tt

rule_keeps : (g : Floor) (layout : Layout) (words : List (List ℕ)) → Keeps g layout (rule_by layout words)
rule_keeps g layout [] = tt
rule_keeps g layout (name ∷ []) =
    let last : Result Layout FaultKind = Ok (with_rule layout) in
    keeps_when g layout (bytes_eq name (codes "nofollow")) _ Form (λ n. keeps_unless g layout layout.nofollow last RuleTwice (λ none is.
    with_apart g (with_rule layout) is.passable (record { names = is.names; cells = is.cells; known = is.known; distinct = is.distinct })))
rule_keeps g layout (name ∷ more ∷ words) = tt

named_keeps : (g : Floor) (layout : Layout) (name : List ℕ) (rest : List (List ℕ)) → Keeps g layout (named g layout name rest)
named_keeps g layout name rest =
    keeps_either g layout (bytes_eq name (codes "station")) (point_by g layout Station rest) _ (point_keeps g layout Station rest) (
    keeps_either g layout (bytes_eq name (codes "parking")) (point_by g layout Parking rest) _ (point_keeps g layout Parking rest) (
    keeps_either g layout (bytes_eq name (codes "agent")) (agent_by layout rest) _ (agent_keeps g layout rest) (
    keeps_when g layout (bytes_eq name (codes "rule")) (rule_by layout rest) Form (λ e. rule_keeps g layout rest))))

line_by_keeps : (g : Floor) (layout : Layout) (long : Bool) (words : List (List ℕ)) → Keeps g layout (line_by g layout long words)
line_by_keeps g layout long [] = λ is. is
line_by_keeps g layout long (name ∷ rest) =
    keeps_either g layout (begins_comment name) (Ok layout) _ (λ is. is) (keeps_unless g layout long (named g layout name rest) Form (λ short. named_keeps g layout name rest))

line_keeps : (g : Floor) (layout new : Layout) (line : List ℕ) → line_of g layout line ≡ Ok new → IsLayout g layout → IsLayout g new
line_keeps g layout new line e = subst (λ (r : Result Layout FaultKind). Keeps g layout r) e (line_by_keeps g layout (ltb 256 (length line)) (words_of line))

pub located_ok : (number : ℕ) (r : Result Layout FaultKind) (new : Layout) → located number r ≡ Ok new → r ≡ Ok new
located_ok number (Ok layout) new e = let h : layout ≡ new = cc in ap (λ (l : Layout). Ok l) h
located_ok number (Err kind) new e = absurd cc

whole_ok : (last : ℕ) (layout new : Layout) (agents : List ℕ) → whole last layout agents ≡ Ok new → layout ≡ new
whole_ok last layout new [] e = absurd cc
whole_ok last layout new (n ∷ agents) e = cc

from_keeps : (g : Floor) (layout new : Layout) (count : ℕ) (lines : List (List ℕ)) → layout_from g layout count lines ≡ Ok new → IsLayout g layout → IsLayout g new
unfolding layout_from
from_keeps g layout new count [] e is = subst (IsLayout g) (whole_ok count layout new layout.agents e) is
from_keeps g layout new count (line ∷ lines) e is =
    let a = bind_ok (located (count + 1) (line_of g layout line)) (λ next. layout_from g next (count + 1) lines) new e in
    from_keeps g a.0 new (count + 1) lines a.2 (line_keeps g layout a.0 line (located_ok (count + 1) (line_of g layout line) a.0 a.1) is)

empty_is : (g : Floor) → IsLayout g empty
empty_is g = record {
  passable = λ i d below. absurd (omega arith);
  names = λ i j below. absurd (omega arith);
  cells = λ i j below. absurd (omega arith);
  known = λ i d below. absurd (omega arith);
  distinct = λ i j below. absurd (omega arith);
}

pub read_layout : (g : Floor) (text : List ℕ) (r : Result Layout PointFault) → Gives r (layout_at g text) → IfOk r (IsLayout g)
read_layout g text (Ok layout) h = from_keeps g empty layout 0 _ h (empty_is g)
read_layout g text (Err e) h = tt

whole_some : (last : ℕ) (layout new : Layout) (agents : List ℕ) → layout.agents ≡ agents → whole last layout agents ≡ Ok new → 1 ≤ length new.agents
whole_some last layout new [] are e = absurd cc
whole_some last layout new (n ∷ agents) are e =
    let same : layout ≡ new = cc in
    subst (λ (l : Layout). 1 ≤ length l.agents) same (rw are (omega arith))

from_some : (g : Floor) (layout new : Layout) (count : ℕ) (lines : List (List ℕ)) → layout_from g layout count lines ≡ Ok new → 1 ≤ length new.agents
unfolding layout_from
from_some g layout new count [] e = whole_some count layout new layout.agents refl e
from_some g layout new count (line ∷ lines) e =
    let a = bind_ok (located (count + 1) (line_of g layout line)) (λ next. layout_from g next (count + 1) lines) new e in
    from_some g a.0 new (count + 1) lines a.2

-- what is read has an agent
pub read_some : (g : Floor) (text : List ℕ) (r : Result Layout PointFault) → Gives r (layout_at g text) → IfOk r (λ layout. 1 ≤ length layout.agents)
read_some g text (Ok layout) h = from_some g empty layout 0 _ h
read_some g text (Err e) h = tt
