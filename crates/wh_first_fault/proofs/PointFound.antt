-- What reading tells of a points file that it refuses is the first fault.
use Rattle.std.proofs.Common.{◌≡◌, ◌≢◌, ℕ, ◌+◌, ◌<◌, ◌≤◌, ◌⊎◌, inl, inr, Bool, true, false, cond, ◌&&◌, eqb, Option, Some, None, Result, Ok, Err, List, [], ◌∷◌, ◌++◌, length, get_or, All, refl, sym, ap, subst, arith, ◌∙◌}
use Rattle.std.specs.Prelude.{Contains, codes}
use Rattle.std.specs.List.{list_any}
use Rattle.std.specs.Str.{bytes_eq}
use Rattle.std.specs.Cmp.Lexicographic.{bytes_decides}
use Rattle.std.proofs.Math.Dec.{ltb}
use Rattle.std.proofs.lemmas.Bool.{ltb-true, ltb-false, eqb-true, eq-eqb}
use Rattle.std.proofs.lemmas.List.Folds.{Any-from_list_any}
use Rattle.wh_text.specs.Words.{begins_comment, words_of}
use Rattle.wh_text.specs.Numbers.{small_number_of}
use Rattle.wh_text.specs.Names.{is_name}
use Rattle.wh_grid.specs.declared.cell.Cell.{Cell}
use Rattle.wh_grid.specs.Grids.{Floor, IsPassable}
use Rattle.wh_grid.proofs.Steps.{bind_err}
use Rattle.wh_points.specs.declared.points.Kind.{Kind}
use Rattle.wh_points.specs.declared.points.Kind.TheVariants.{Station, Parking}
use Rattle.wh_points.specs.declared.points.Point.{Point}
use Rattle.wh_points.specs.declared.fault.FaultKind.{FaultKind}
use Rattle.wh_points.specs.declared.fault.FaultKind.TheVariants.{Form, Name, NameTwice, Blocked, CellTwice, TooMany, NoAgent, Unknown, StartTwice, RuleTwice}
use Rattle.wh_points.specs.declared.fault.Fault.{Fault}
use Rattle.wh_points.specs.Points.{Layout, IsPoint, IsPointCell}
use Rattle.wh_points.specs.Layouts.{find_name}
use Rattle.wh_points.specs.PointLines.{is_open, has_name, has_cell, with_point, with_agent, with_rule, placed, placed_at, point_by, starts_at, agent_by, rule_by, named, line_by, line_of}
use Rattle.wh_points.specs.PointFiles.{empty, located, whole, layout_from}
use Rattle.wh_points.specs.PointGrammar.{IsSkipped, word_of, Says, Spells}
use Rattle.wh_points.proofs.Additions.{list_any-false}
use Rattle.wh_points.proofs.Lookups.{find_name-none}
use Rattle.wh_points.proofs.LineSteps.{open_passable, passable_open}
use Rattle.wh_points.proofs.LayoutLaws.{located_ok}
use Rattle.wh_points.proofs.GrammarLaws.{line_says, line_again}
use Rattle.wh_first_fault.specs.PointFaults.{TellsPoint, TellNothing, NamesPoint, NamesAgent, IsWrong, IsFault, Ends, IsFirstFault}

abbrev Read : Type 0
Read = Result Layout FaultKind

-- ---- tests and what they decide
when_err : (b : Bool) (r : Read) (kind k : FaultKind) → cond b r (Err kind) ≡ Err k → ((b ≡ true) × (r ≡ Err k)) ⊎ ((b ≡ false) × (k ≡ kind))
when_err true r kind k e = inl (refl, e)
when_err false r kind k e = inr (refl, cc)

unless_err : (b : Bool) (r : Read) (kind k : FaultKind) → cond b (Err kind) r ≡ Err k → ((b ≡ true) × (k ≡ kind)) ⊎ ((b ≡ false) × (r ≡ Err k))
unless_err true r kind k e = inl (refl, cc)
unless_err false r kind k e = inr (refl, e)

either_err : (b : Bool) (r s : Read) (k : FaultKind) → cond b r s ≡ Err k → ((b ≡ true) × (r ≡ Err k)) ⊎ ((b ≡ false) × (s ≡ Err k))
either_err true r s k e = inl (refl, e)
either_err false r s k e = inr (refl, e)

ok_err : (layout : Layout) (k : FaultKind) → (let r : Read = Ok layout in let s : Read = Err k in r ≡ s) → ⊥
ok_err layout k e = absurd cc

kind_is : (a b : FaultKind) → (let r : Read = Err a in let s : Read = Err b in r ≡ s) → b ≡ a
kind_is a b e = cc

same_bytes : (a b : List ℕ) → bytes_eq a b ≡ true → a ≡ b
same_bytes a b = (bytes_decides a b).0

are_equal : (a : List ℕ) → bytes_eq a a ≡ true
are_equal a = (bytes_decides a a).1 refl

-- ---- what a list has
found_in : {X : Type 0} (p : X → Bool) (xs : List X) → list_any p xs ≡ true → (x : X) × Contains xs x × (p x ≡ true)
found_in p xs h = let a = Any-from_list_any p xs h in (a.1, (a.0, a.2, a.3), a.4)

both_true : (a b : Bool) → (a && b) ≡ true → (a ≡ true) × (b ≡ true)
both_true true true h = (refl, refl)
both_true true false h = absurd cc
both_true false b h = absurd cc

name_stands : (layout : Layout) (name : List ℕ) → has_name name layout.points ≡ true → (cell : Cell) × IsPoint layout name cell
name_stands layout name h =
    let f = found_in (λ (p : Point). bytes_eq name p.name) layout.points h in
    let same : name ≡ f.0.name = same_bytes name f.0.name f.2 in
    (f.0.cell, (f.0.kind, subst (λ (n : List ℕ). Contains layout.points (record { name = n; cell = f.0.cell; kind = f.0.kind })) (sym same) f.1))

cell_is : (c d : Cell) → c.x ≡ d.x → c.y ≡ d.y → c ≡ d
cell_is c d ex ey = λ i. record { x = ex i; y = ey i }

cell_stands : (layout : Layout) (cell : Cell) → has_cell cell.x cell.y layout.points ≡ true → IsPointCell layout cell
cell_stands layout cell h =
    let f = found_in (λ (p : Point). eqb cell.x p.cell.x && eqb cell.y p.cell.y) layout.points h in
    let b = both_true (eqb cell.x f.0.cell.x) (eqb cell.y f.0.cell.y) f.2 in
    let same : cell ≡ f.0.cell = cell_is cell f.0.cell (eqb-true _ _ b.0) (eqb-true _ _ b.1) in
    (f.0.name, (f.0.kind, subst (λ (c : Cell). Contains layout.points (record { name = f.0.name; cell = c; kind = f.0.kind })) (sym same) f.1))

start_stands : (layout : Layout) (n : ℕ) → list_any (λ m. eqb m n) layout.agents ≡ true → Contains layout.agents n
start_stands layout n h =
    let f = found_in (λ m. eqb m n) layout.agents h in
    subst (λ (m : ℕ). Contains layout.agents m) (eqb-true _ _ f.2) f.1

names_apart : (name : List ℕ) (points : List Point) → has_name name points ≡ false → All (λ other. other.name ≢ name) points
names_apart name points h = λ i d below e.
    let fails : bytes_eq name (get_or points i d).name ≡ false = list_any-false (λ p. bytes_eq name p.name) points h i d below in
    let passes : bytes_eq name (get_or points i d).name ≡ true = (bytes_decides name (get_or points i d).name).1 (sym e) in
    absurd cc

cells_apart : (cell : Cell) (points : List Point) → has_cell cell.x cell.y points ≡ false → All (λ other. other.cell ≢ cell) points
cells_apart cell points h = λ i d below e.
    let x : eqb cell.x (get_or points i d).cell.x ≡ true = eq-eqb _ _ (ap (λ (c : Cell). c.x) (sym e)) in
    let y : eqb cell.y (get_or points i d).cell.y ≡ true = eq-eqb _ _ (ap (λ (c : Cell). c.y) (sym e)) in
    let fails : (eqb cell.x (get_or points i d).cell.x && eqb cell.y (get_or points i d).cell.y) ≡ false = list_any-false (λ p. eqb cell.x p.cell.x && eqb cell.y p.cell.y) points h i d below in
    let passes : (eqb cell.x (get_or points i d).cell.x && eqb cell.y (get_or points i d).cell.y) ≡ true = rw (x, y) refl in
    absurd cc

starts_apart : (n : ℕ) (agents : List ℕ) → list_any (λ m. eqb m n) agents ≡ false → All (λ other. other ≢ n) agents
starts_apart n agents h = λ i d below e.
    let fails : eqb (get_or agents i d) n ≡ false = list_any-false (λ m. eqb m n) agents h i d below in
    let passes : eqb (get_or agents i d) n ≡ true = eq-eqb _ _ e in
    absurd cc

-- ---- what is wrong, or no form
abbrev Refused : Floor → Layout → FaultKind → List (List ℕ) → Type 0
Refused g layout k words = (k ≡ Form) ⊎ IsWrong g layout k words

so : (g : Floor) (layout : Layout) (words : List (List ℕ)) (k kind : FaultKind) → k ≡ kind → IsWrong g layout kind words → Refused g layout k words
so g layout words k kind same wrong = inr (subst (λ (x : FaultKind). IsWrong g layout x words) (sym same) wrong)

not_passable : (g : Floor) (cell : Cell) → is_open g cell.x cell.y ≡ false → IsPassable g cell → ⊥
not_passable g cell closed p =
    let opened : is_open g cell.x cell.y ≡ true = passable_open g cell.x cell.y p in
    absurd cc

placed_err : (g : Floor) (layout : Layout) (words : List (List ℕ)) (point : Point) (k : FaultKind) → TellsPoint words point → placed g layout point.kind point.name point.cell.x point.cell.y ≡ Err k → Refused g layout k words
placed_err g layout words point k tells e = elim (when_err (is_name point.name) _ Name k e) [
  | inr a ↦ so g layout words k Name a.1 (inl (point, tells, a.0))
  | inl a ↦ elim (unless_err (has_name point.name layout.points) _ NameTwice k a.1) [
    | inl b ↦ so g layout words k NameTwice b.1 (point, tells, a.0, name_stands layout point.name b.0)
    | inr b ↦ (
        let names : NamesPoint layout words point = record { tells = tells; is_name = a.0; new_name = names_apart point.name layout.points b.0 } in
        elim (when_err (is_open g point.cell.x point.cell.y) _ Blocked k b.1) [
          | inr c ↦ so g layout words k Blocked c.1 (point, names, not_passable g point.cell c.0)
          | inl c ↦ (
              let open_cell : IsPassable g point.cell = open_passable g point.cell.x point.cell.y c.0 in
              elim (unless_err (has_cell point.cell.x point.cell.y layout.points) _ CellTwice k c.1) [
                | inl d ↦ so g layout words k CellTwice d.1 (point, names, open_cell, cell_stands layout point.cell d.0)
                | inr d ↦ elim (when_err (ltb (length layout.points) 4096) (Ok (with_point layout point)) TooMany k d.1) [
                  | inr f ↦ so g layout words k TooMany f.1 (inl (point, names, open_cell, cells_apart point.cell layout.points d.0, ltb-false _ _ f.0))
                  | inl f ↦ absurd (ok_err (with_point layout point) k f.1)
                ]
              ])
        ])
  ]
]

point_err : (g : Floor) (layout : Layout) (kind : Kind) (rest : List (List ℕ)) (k : FaultKind) → point_by g layout kind rest ≡ Err k → Refused g layout k (word_of kind ∷ rest)
point_err g layout kind [] k e = inl (kind_is Form k e)
point_err g layout kind (name ∷ []) k e = inl (kind_is Form k e)
point_err g layout kind (name ∷ x ∷ []) k e = inl (kind_is Form k e)
point_err g layout kind (name ∷ x ∷ y ∷ []) k e = at (small_number_of x) (small_number_of y) refl refl e
  where
    at : (column row : Option ℕ) → small_number_of x ≡ column → small_number_of y ≡ row → placed_at g layout kind name column row ≡ Err k → Refused g layout k (word_of kind ∷ name ∷ x ∷ y ∷ [])
    at None row ex ey h = inl (kind_is Form k h)
    at (Some n) None ex ey h = inl (kind_is Form k h)
    at (Some n) (Some m) ex ey h =
        let point : Point = record { name = name; cell = record { x = n; y = m }; kind = kind } in
        placed_err g layout (word_of kind ∷ name ∷ x ∷ y ∷ []) point k (record { x = x; y = y; spelled = refl; column = ex; row = ey }) h
point_err g layout kind (name ∷ x ∷ y ∷ more ∷ words) k e = inl (kind_is Form k e)

agent_err : (g : Floor) (layout : Layout) (rest : List (List ℕ)) (k : FaultKind) → agent_by layout rest ≡ Err k → Refused g layout k (codes "agent" ∷ rest)
agent_err g layout [] k e = inl (kind_is Form k e)
agent_err g layout (name ∷ []) k e = elim (when_err (is_name name) (starts_at layout (find_name name layout.points)) Name k e) [
  | inr a ↦ so g layout (codes "agent" ∷ name ∷ []) k Name a.1 (inr (name, refl, a.0))
  | inl a ↦ starts a.0 (find_name name layout.points) refl a.1
]
  where
    starts : is_name name ≡ true → (found : Option ℕ) → find_name name layout.points ≡ found → starts_at layout found ≡ Err k → Refused g layout k (codes "agent" ∷ name ∷ [])
    starts is None at h = so g layout (codes "agent" ∷ name ∷ []) k Unknown (kind_is Unknown k h) (name, refl, is, find_name-none name layout.points at)
    starts is (Some n) at h =
        let names : NamesAgent layout (codes "agent" ∷ name ∷ []) name n = record { tells = refl; is_name = is; found = at } in
        elim (unless_err (list_any (λ m. eqb m n) layout.agents) _ StartTwice k h) [
          | inl a ↦ so g layout (codes "agent" ∷ name ∷ []) k StartTwice a.1 (name, n, names, start_stands layout n a.0)
          | inr a ↦ elim (when_err (ltb (length layout.agents) 256) (Ok (with_agent layout n)) TooMany k a.1) [
            | inr b ↦ so g layout (codes "agent" ∷ name ∷ []) k TooMany b.1 (inr (name, n, names, starts_apart n layout.agents a.0, ltb-false _ _ b.0))
            | inl b ↦ absurd (ok_err (with_agent layout n) k b.1)
          ]
        ]
agent_err g layout (name ∷ more ∷ words) k e = inl (kind_is Form k e)

rule_err : (g : Floor) (layout : Layout) (rest : List (List ℕ)) (k : FaultKind) → rule_by layout rest ≡ Err k → Refused g layout k (codes "rule" ∷ rest)
rule_err g layout [] k e = inl (kind_is Form k e)
rule_err g layout (name ∷ []) k e = elim (when_err (bytes_eq name (codes "nofollow")) _ Form k e) [
  | inr a ↦ inl a.1
  | inl a ↦ elim (unless_err layout.nofollow (Ok (with_rule layout)) RuleTwice k a.1) [
    | inl b ↦ so g layout (codes "rule" ∷ name ∷ []) k RuleTwice b.1 (ap (λ (w : List ℕ). codes "rule" ∷ w ∷ []) (same_bytes name (codes "nofollow") a.0), b.0)
    | inr b ↦ absurd (ok_err (with_rule layout) k b.1)
  ]
]
rule_err g layout (name ∷ more ∷ words) k e = inl (kind_is Form k e)

first_is : (g : Floor) (layout : Layout) (k : FaultKind) (rest : List (List ℕ)) (name word : List ℕ) → bytes_eq name word ≡ true → Refused g layout k (word ∷ rest) → Refused g layout k (name ∷ rest)
first_is g layout k rest name word is = subst (λ (w : List ℕ). Refused g layout k (w ∷ rest)) (sym (same_bytes name word is))

named_err : (g : Floor) (layout : Layout) (name : List ℕ) (rest : List (List ℕ)) (k : FaultKind) → named g layout name rest ≡ Err k → Refused g layout k (name ∷ rest)
named_err g layout name rest k e = elim (either_err (bytes_eq name (codes "station")) (point_by g layout Station rest) _ k e) [
  | inl a ↦ first_is g layout k rest name (codes "station") a.0 (point_err g layout Station rest k a.1)
  | inr a ↦ elim (either_err (bytes_eq name (codes "parking")) (point_by g layout Parking rest) _ k a.1) [
    | inl b ↦ first_is g layout k rest name (codes "parking") b.0 (point_err g layout Parking rest k b.1)
    | inr b ↦ elim (either_err (bytes_eq name (codes "agent")) (agent_by layout rest) _ k b.1) [
      | inl c ↦ first_is g layout k rest name (codes "agent") c.0 (agent_err g layout rest k c.1)
      | inr c ↦ elim (when_err (bytes_eq name (codes "rule")) (rule_by layout rest) Form k c.1) [
        | inl d ↦ first_is g layout k rest name (codes "rule") d.0 (rule_err g layout rest k d.1)
        | inr d ↦ inl d.1
      ]
    ]
  ]
]

-- ---- no form, where nothing is told
abbrev by_words : Floor → Layout → List (List ℕ) → Read
by_words g layout [] = Ok layout
by_words g layout (name ∷ rest) = named g layout name rest

placed_form : (g : Floor) (layout : Layout) (kind : Kind) (name : List ℕ) (x y : ℕ) → placed g layout kind name x y ≡ Err Form → ⊥
placed_form g layout kind name x y e = tests (is_name name) (has_name name layout.points) (is_open g x y) (has_cell x y layout.points) (ltb (length layout.points) 4096) (with_point layout (record { name = name; cell = record { x = x; y = y }; kind = kind })) e
  where
    tests : (a b c d f : Bool) (after : Layout) → cond a (cond b (Err NameTwice) (cond c (cond d (Err CellTwice) (cond f (Ok after) (Err TooMany))) (Err Blocked))) (Err Name) ≡ Err Form → ⊥
    tests false b c d f after e = absurd cc
    tests true true c d f after e = absurd cc
    tests true false false d f after e = absurd cc
    tests true false true true f after e = absurd cc
    tests true false true false false after e = absurd cc
    tests true false true false true after e = absurd cc

starts_form : (layout : Layout) (found : Option ℕ) → starts_at layout found ≡ Err Form → ⊥
starts_form layout None e = absurd cc
starts_form layout (Some n) e = tests (list_any (λ m. eqb m n) layout.agents) (ltb (length layout.agents) 256) (with_agent layout n) e
  where
    tests : (a b : Bool) (after : Layout) → cond a (Err StartTwice) (cond b (Ok after) (Err TooMany)) ≡ Err Form → ⊥
    tests true b after e = absurd cc
    tests false true after e = absurd cc
    tests false false after e = absurd cc

agent_form : (layout : Layout) (name : List ℕ) (b : Bool) → cond b (starts_at layout (find_name name layout.points)) (Err Name) ≡ Err Form → ⊥
agent_form layout name true e = starts_form layout (find_name name layout.points) e
agent_form layout name false e = absurd cc

rule_form : (layout : Layout) (b : Bool) → cond b (Err RuleTwice) (Ok (with_rule layout)) ≡ Err Form → ⊥
rule_form layout true e = absurd cc
rule_form layout false e = absurd cc

point_named : (g : Floor) (layout : Layout) (kind : Kind) (rest : List (List ℕ)) → named g layout (word_of kind) rest ≡ point_by g layout kind rest
point_named g layout Station rest = refl
point_named g layout Parking rest = refl

told_point : (g : Floor) (layout : Layout) (words : List (List ℕ)) (point : Point) → TellsPoint words point → by_words g layout words ≡ placed g layout point.kind point.name point.cell.x point.cell.y
told_point g layout words point t =
    ap (λ (w : List (List ℕ)). by_words g layout w) t.spelled ∙ point_named g layout point.kind (point.name ∷ t.x ∷ t.y ∷ [])
    ∙ ap (λ (n : Option ℕ). placed_at g layout point.kind point.name n (small_number_of t.y)) t.column ∙ ap (λ (n : Option ℕ). placed_at g layout point.kind point.name (Some point.cell.x) n) t.row

nothing_told : (g : Floor) (layout : Layout) (words : List (List ℕ)) → by_words g layout words ≡ Err Form → TellNothing words
nothing_told g layout words e = record {
  point = λ point t. placed_form g layout point.kind point.name point.cell.x point.cell.y (sym (told_point g layout words point t) ∙ e);
  agent = λ name t. agent_form layout name (is_name name) (sym (ap (λ (w : List (List ℕ)). by_words g layout w) t) ∙ e);
  rule = λ t. rule_form layout layout.nofollow (sym (ap (λ (w : List (List ℕ)). by_words g layout w) t) ∙ e);
}

wrong_words : (g : Floor) (layout : Layout) (name : List ℕ) (rest : List (List ℕ)) (k : FaultKind) → named g layout name rest ≡ Err k → IsWrong g layout k (name ∷ rest)
wrong_words g layout name rest k e = elim (named_err g layout name rest k e) [
  | inl form ↦ subst (λ (x : FaultKind). IsWrong g layout x (name ∷ rest)) (sym form) (nothing_told g layout (name ∷ rest) (e ∙ ap (λ (x : FaultKind). Err x) form))
  | inr wrong ↦ wrong
]

-- ---- one line
abbrev Faulty : Floor → Layout → FaultKind → ℕ → List (List ℕ) → Type 0
Faulty g layout k size words = (IsSkipped words → ⊥) × (((256 < size) × (k ≡ Form)) ⊎ ((size ≤ 256) × IsWrong g layout k words))

line_by_err : (g : Floor) (layout : Layout) (size : ℕ) (words : List (List ℕ)) (k : FaultKind) → line_by g layout (ltb 256 size) words ≡ Err k → Faulty g layout k size words
line_by_err g layout size [] k e = absurd (ok_err layout k e)
line_by_err g layout size (name ∷ rest) k e = elim (either_err (begins_comment name) (Ok layout) _ k e) [
  | inl a ↦ absurd (ok_err layout k a.1)
  | inr a ↦ (
    (λ skipped. (let yes : begins_comment name ≡ true = skipped in let no : begins_comment name ≡ false = a.0 in absurd cc)),
    elim (unless_err (ltb 256 size) (named g layout name rest) Form k a.1) [
      | inl b ↦ inl (ltb-true _ _ b.0, b.1)
      | inr b ↦ inr (ltb-false _ _ b.0, wrong_words g layout name rest k b.1)
    ],
  )
]

line_fault : (g : Floor) (layout : Layout) (line : List ℕ) (k : FaultKind) → line_of g layout line ≡ Err k → IsFault g layout k line
line_fault g layout line k e = line_by_err g layout (length line) (words_of line) k e

refuses : (g : Floor) (layout : Layout) (line : List ℕ) (k : FaultKind) → line_of g layout line ≡ Err k → (after : Layout) → Says g layout line after → ⊥
refuses g layout line k e after says = ok_err after k (sym (line_again g layout after line says) ∙ e)

-- ---- the lines
located_err : (number : ℕ) (r : Read) (f : Fault) → located number r ≡ Err f → (r ≡ Err f.kind) × (f.line ≡ number)
located_err number (Ok layout) f e = absurd cc
located_err number (Err kind) f e =
    let made : Fault = record { kind = kind; line = number } in
    let same : made ≡ f = cc in
    (ap (λ (x : Fault). Err x.kind) same, sym (ap (λ (x : Fault). x.line) same))

whole_err : (last : ℕ) (layout : Layout) (agents : List ℕ) (f : Fault) → whole last layout agents ≡ Err f → (f.kind ≡ NoAgent) × (agents ≡ []) × (f.line ≡ last + 1)
whole_err last layout [] f e =
    let made : Fault = record { kind = NoAgent; line = last + 1 } in
    let same : made ≡ f = cc in
    (sym (ap (λ (x : Fault). x.kind) same), refl, sym (ap (λ (x : Fault). x.line) same))
whole_err last layout (n ∷ agents) f e = absurd cc

record Found (g : Floor) (first : Layout) (count : ℕ) (lines : List (List ℕ)) (f : Fault) : Type 0 where
  before : List (List ℕ)
  rest : List (List ℕ)
  layout : Layout
  parts : lines ≡ before ++ rest
  place : f.line ≡ count + length before + 1
  spells : Spells g first before layout
  ends : Ends g layout f.kind rest

found : (g : Floor) (first : Layout) (count : ℕ) (lines : List (List ℕ)) (f : Fault) → layout_from g first count lines ≡ Err f → Found g first count lines f
unfolding layout_from
found g first count [] f e =
    let w = whole_err count first first.agents f e in
    record { before = []; rest = []; layout = first; parts = refl; place = omega (arith, w.2); spells = refl; ends = (w.0, w.1) }
found g first count (line ∷ lines) f e = elim (bind_err (located (count + 1) (line_of g first line)) (λ next. layout_from g next (count + 1) lines) f e) [
  | inl here ↦ (
      let l = located_err (count + 1) (line_of g first line) f here in
      record { before = []; rest = line ∷ lines; layout = first; parts = refl; place = omega (arith, l.1); spells = refl; ends = (refuses g first line f.kind l.0, line_fault g first line f.kind l.0) })
  | inr after ↦ (
      let r = found g after.0 (count + 1) lines f after.2 in
      let place : f.line ≡ count + 1 + length r.before + 1 = r.place in
      record {
        before = line ∷ r.before;
        rest = r.rest;
        layout = r.layout;
        parts = ap (λ (ls : List (List ℕ)). line ∷ ls) r.parts;
        place = omega arith;
        spells = (after.0, line_says g first after.0 line (located_ok (count + 1) (line_of g first line) after.0 after.1), r.spells);
        ends = r.ends;
      })
]

pub first_fault : (g : Floor) (lines : List (List ℕ)) (f : Fault) → layout_from g empty 0 lines ≡ Err f → IsFirstFault g lines f
first_fault g lines f e =
    let x = found g empty 0 lines f e in
    let place : f.line ≡ 0 + length x.before + 1 = x.place in
    record { before = x.before; rest = x.rest; layout = x.layout; parts = x.parts; place = omega arith; spells = x.spells; ends = x.ends }
