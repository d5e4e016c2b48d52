-- The passable ones of the cells beside a cell.
use Rattle.std.proofs.Common.{◌≡◌, ◌≢◌, ◌↔◌, ◌+◌, ◌≤◌, inl, inr, Option, Some, None, List, [], ◌∷◌, ◌++◌, Contains, sym, ap, ◌∙◌, subst, arith}
use Rattle.std.specs.Prelude.{IfSome, IfNone}
use Rattle.std.proofs.lemmas.List.{append-nil}
use Rattle.std.proofs.lemmas.List.Elements.{Contains-append_left, Contains-append_right, Contains-append_cases, Contains-push, Contains-push_cases, Contains-get_or}
use Rattle.std.proofs.lemmas.List.Quantifiers.{all_pairs_push}
use Rattle.wh_grid.specs.declared.cell.Cell.{Cell}
use Rattle.wh_grid.specs.Grids.{Floor, IsPassable, IsAdjacent}
use Rattle.wh_grid.specs.Candidates.{listed, AreOpen}
use Rattle.wh_grid.proofs.Cells.{same_cell}

nothing : (d : Cell) → Contains {X = Cell} [] d → ⊥
nothing d has = let h = has.1 in absurd (omega arith)

pub none_open : (g : Floor) → AreOpen g [] []
none_open g = record {
  exact = λ d. (λ has. absurd (nothing d has), λ both. both.1);
  apart = λ i j d below within. absurd (omega arith);
}

module _ (g : Floor) (seen items : List Cell) (cell : Cell) (are : AreOpen g seen items) where
  pub one_open : IsPassable g cell → (Contains seen cell → ⊥) → AreOpen g (seen ++ cell ∷ []) (items ++ cell ∷ [])
  one_open passable new = record {
    exact = λ d. (
      λ has. elim (Contains-push_cases items cell d has) [
        | inl old ↦ (let both = (are.exact d).0 old in (both.0, Contains-append_left seen (cell ∷ []) d both.1))
        | inr e ↦ (subst (IsPassable g) e passable, subst (Contains (seen ++ cell ∷ [])) e (Contains-push seen cell))
      ],
      λ both. elim (Contains-push_cases seen cell d both.1) [
        | inl old ↦ Contains-append_left items (cell ∷ []) d ((are.exact d).1 (both.0, old))
        | inr e ↦ subst (Contains (items ++ cell ∷ [])) e (Contains-push items cell)
      ],
    );
    apart = all_pairs_push (λ a b. a ≢ b) items cell are.apart (λ k d below e. new (((are.exact cell).0 (subst (Contains items) e (Contains-get_or items k d below))).1));
  }

  pub none_more : (IsPassable g cell → ⊥) → AreOpen g (seen ++ cell ∷ []) items
  none_more blocked = record {
    exact = λ d. (
      λ has. (let both = (are.exact d).0 has in (both.0, Contains-append_left seen (cell ∷ []) d both.1)),
      λ both. elim (Contains-push_cases seen cell d both.1) [
        | inl old ↦ (are.exact d).1 (both.0, old)
        | inr e ↦ absurd (blocked (subst (IsPassable g) (sym e) both.0))
      ],
    );
    apart = are.apart;
  }

pub same_open : (g : Floor) (seen items : List Cell) → AreOpen g seen items → AreOpen g (seen ++ []) items
same_open g seen items are = rw (append-nil seen) are

-- ---- the cells beside one
pub listed_is : (o : Option Cell) (d : Cell) → Contains (listed o) d → o ≡ Some d
listed_is None d has = absurd (nothing d has)
listed_is (Some c) d has = elim (Contains-push_cases [] c d has) [
  | inl none ↦ absurd (nothing d none)
  | inr e ↦ ap (λ (v : Cell). Some v) e
]

some_beside : (o : Option Cell) (d : Cell) (P : Cell → Type 0) → IfSome o P → Contains (listed o) d → P d
some_beside o d P h has = subst (λ (v : Option Cell). IfSome v P) (listed_is o d has) h

-- a cell that is the one, or there is none
is_listed : (o : Option Cell) (d : Cell) (P : Cell → Type 0) (Q : Type 0) → IfSome o P → IfNone o Q → ((c : Cell) → P c → c ≡ d) → (Q → ⊥) → Contains (listed o) d
is_listed None d P Q some none one not = absurd (not none)
is_listed (Some c) d P Q some none one not = subst (Contains (c ∷ [])) (one c some) (Contains-push [] c)

fresh_from : (o : Option Cell) (P : Cell → Type 0) (cells : List Cell) → IfSome o P → ((d : Cell) → P d → Contains cells d → ⊥) → IfSome o (λ d. Contains cells d → ⊥)
fresh_from None P cells some none = tt
fresh_from (Some c) P cells some none = none c some

module _ (g : Floor) (cell : Cell) (up down left right : Option Cell)
    (up_some : IfSome up (λ d. (d.x ≡ cell.x) × (d.y + 1 ≡ cell.y))) (up_none : IfNone up (cell.y ≡ 0))
    (down_some : IfSome down (λ d. (d.x ≡ cell.x) × (d.y ≡ cell.y + 1))) (down_none : IfNone down (g.height ≤ cell.y))
    (left_some : IfSome left (λ d. (d.y ≡ cell.y) × (d.x + 1 ≡ cell.x))) (left_none : IfNone left (cell.x ≡ 0))
    (right_some : IfSome right (λ d. (d.y ≡ cell.y) × (d.x ≡ cell.x + 1))) (right_none : IfNone right (g.width ≤ cell.x)) where
  not_up : (d : Cell) → (d.y + 1 ≡ cell.y → ⊥) → Contains (listed up) d → ⊥
  not_up d none has = none ((some_beside up d (λ e. (e.x ≡ cell.x) × (e.y + 1 ≡ cell.y)) up_some has).1)

  not_down : (d : Cell) → (d.y ≡ cell.y + 1 → ⊥) → Contains (listed down) d → ⊥
  not_down d none has = none ((some_beside down d (λ e. (e.x ≡ cell.x) × (e.y ≡ cell.y + 1)) down_some has).1)

  pub fresh_up : IfSome up (λ d. Contains {X = Cell} [] d → ⊥)
  fresh_up = fresh_from up (λ e. (e.x ≡ cell.x) × (e.y + 1 ≡ cell.y)) [] up_some (λ d p has. nothing d has)

  pub fresh_down : IfSome down (λ d. Contains (listed up) d → ⊥)
  fresh_down = fresh_from down (λ e. (e.x ≡ cell.x) × (e.y ≡ cell.y + 1)) (listed up) down_some (λ d p has. not_up d (λ e. let h = p.1 in omega arith) has)

  pub fresh_left : IfSome left (λ d. Contains (listed up ++ listed down) d → ⊥)
  fresh_left = fresh_from left (λ e. (e.y ≡ cell.y) × (e.x + 1 ≡ cell.x)) (listed up ++ listed down) left_some (λ d p has. elim (Contains-append_cases (listed up) (listed down) d has) [
    | inl a ↦ not_up d (λ e. let h = p.0 in omega arith) a
    | inr b ↦ not_down d (λ e. let h = p.0 in omega arith) b
  ])

  pub fresh_right : IfSome right (λ d. Contains ((listed up ++ listed down) ++ listed left) d → ⊥)
  fresh_right = fresh_from right (λ e. (e.y ≡ cell.y) × (e.x ≡ cell.x + 1)) ((listed up ++ listed down) ++ listed left) right_some (λ d p has. elim (Contains-append_cases (listed up ++ listed down) (listed left) d has) [
    | inr l ↦ (let s = some_beside left d (λ e. (e.y ≡ cell.y) × (e.x + 1 ≡ cell.x)) left_some l in let h = s.1 in let k = p.1 in absurd (omega arith))
    | inl two ↦ elim (Contains-append_cases (listed up) (listed down) d two) [
      | inl a ↦ not_up d (λ e. let h = p.0 in omega arith) a
      | inr b ↦ not_down d (λ e. let h = p.0 in omega arith) b
    ]
  ])

  pub seen_beside : (d : Cell) → Contains (((listed up ++ listed down) ++ listed left) ++ listed right) d → IsAdjacent cell d
  seen_beside d has = elim (Contains-append_cases ((listed up ++ listed down) ++ listed left) (listed right) d has) [
    | inr r ↦ (let s = some_beside right d (λ e. (e.y ≡ cell.y) × (e.x ≡ cell.x + 1)) right_some r in inl (sym s.0, inl (sym s.1)))
    | inl three ↦ elim (Contains-append_cases (listed up ++ listed down) (listed left) d three) [
      | inr l ↦ (let s = some_beside left d (λ e. (e.y ≡ cell.y) × (e.x + 1 ≡ cell.x)) left_some l in inl (sym s.0, inr s.1))
      | inl two ↦ elim (Contains-append_cases (listed up) (listed down) d two) [
        | inr b ↦ (let s = some_beside down d (λ e. (e.x ≡ cell.x) × (e.y ≡ cell.y + 1)) down_some b in inr (sym s.0, inl (sym s.1)))
        | inl a ↦ (let s = some_beside up d (λ e. (e.x ≡ cell.x) × (e.y + 1 ≡ cell.y)) up_some a in inr (sym s.0, inr s.1))
      ]
    ]
  ]

  pub beside_seen : (d : Cell) → IsPassable g d → IsAdjacent cell d → Contains (((listed up ++ listed down) ++ listed left) ++ listed right) d
  beside_seen d passable (inl (ey, inl ex)) =
      Contains-append_right ((listed up ++ listed down) ++ listed left) (listed right) d
      (is_listed right d (λ e. (e.y ≡ cell.y) × (e.x ≡ cell.x + 1)) (g.width ≤ cell.x) right_some right_none
      (λ c p. same_cell c d (p.1 ∙ ex) (p.0 ∙ ey)) (λ le. (let below = passable.in_width in omega arith)))
  beside_seen d passable (inl (ey, inr ex)) =
      Contains-append_left ((listed up ++ listed down) ++ listed left) (listed right) d (Contains-append_right (listed up ++ listed down) (listed left) d
      (is_listed left d (λ e. (e.y ≡ cell.y) × (e.x + 1 ≡ cell.x)) (cell.x ≡ 0) left_some left_none
      (λ c p. same_cell c d (let h = p.1 in omega arith) (p.0 ∙ ey)) (λ z. omega arith)))
  beside_seen d passable (inr (ex, inl ey)) =
      Contains-append_left ((listed up ++ listed down) ++ listed left) (listed right) d (Contains-append_left (listed up ++ listed down) (listed left) d (Contains-append_right (listed up) (listed down) d
      (is_listed down d (λ e. (e.x ≡ cell.x) × (e.y ≡ cell.y + 1)) (g.height ≤ cell.y) down_some down_none
      (λ c p. same_cell c d (p.0 ∙ ex) (p.1 ∙ ey)) (λ le. (let below = passable.in_height in omega arith)))))
  beside_seen d passable (inr (ex, inr ey)) =
      Contains-append_left ((listed up ++ listed down) ++ listed left) (listed right) d (Contains-append_left (listed up ++ listed down) (listed left) d (Contains-append_left (listed up) (listed down) d
      (is_listed up d (λ e. (e.x ≡ cell.x) × (e.y + 1 ≡ cell.y)) (cell.y ≡ 0) up_some up_none
      (λ c p. same_cell c d (p.0 ∙ ex) (let h = p.1 in omega arith)) (λ z. omega arith))))

  -- the passable ones of these four are the neighbours
  pub neighbours_are : (items : List Cell) → AreOpen g (((listed up ++ listed down) ++ listed left) ++ listed right) items → (d : Cell) → Contains items d ↔ (IsPassable g d × IsAdjacent cell d)
  neighbours_are items are d = (
    λ has. (let both = (are.exact d).0 has in (both.0, seen_beside d both.1)),
    λ both. (are.exact d).1 (both.0, beside_seen d both.0 both.1),
  )
