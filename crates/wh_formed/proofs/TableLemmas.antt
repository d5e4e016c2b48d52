-- lists of marks that have a grid row by row
use Rattle.std.proofs.Common.{◌≡◌, ℕ, ◌+◌, ◌-◌, ◌*◌, ◌/◌, ◌%◌, ◌<◌, inl, inr, ◌∙◌, List, [], ◌∷◌, ◌++◌, length, get_or, set, Bool, true, false, sym, ap, subst, length-set, get_or-set_same, get_or-set_other, min, lit<, Contains, arith}
use Rattle.std.proofs.lemmas.List.Elements.{Contains-append_left, Contains-push, Contains-push_cases}
use Rattle.std.proofs.lemmas.Nat.{mul-add-lt, div-mul-add, mod-mul-add}
use Rattle.wh_grid.specs.declared.cell.Cell.{Cell}
use Rattle.wh_grid.specs.Grids.{Floor, IsAdjacent}
use Rattle.wh_grid.proofs.Cells.{same_cell}
use Rattle.wh_formed.specs.Fills.{IsMarked, IsOpenTable, place}

-- each neighbour is among the four
pub neighbours_complete : (of r : Cell) (a b c d : ℕ) → a ≡ of.y - 1 → b ≡ min (of.y + 1) 65535 → c ≡ of.x - 1 → d ≡ min (of.x + 1) 65535 → r.x < 65536 → r.y < 65536 → IsAdjacent of r
    → Contains (record { x = of.x; y = a } ∷ record { x = of.x; y = b } ∷ record { x = c; y = of.y } ∷ record { x = d; y = of.y } ∷ []) r
neighbours_complete of r a b c d ea eb ec ed hx hy (inr (e, inr f)) = (0, lit< tt, same_cell _ r e (omega arith))
neighbours_complete of r a b c d ea eb ec ed hx hy (inr (e, inl f)) = (1, lit< tt, same_cell _ r e (omega arith))
neighbours_complete of r a b c d ea eb ec ed hx hy (inl (e, inr f)) = (2, lit< tt, same_cell _ r (omega arith) e)
neighbours_complete of r a b c d ea eb ec ed hx hy (inl (e, inl f)) = (3, lit< tt, same_cell _ r (omega arith) e)

-- two cells at one place are one
pub place_apart : (g : Floor) (c d : Cell) → c.x < g.width → d.x < g.width → place g c ≡ place g d → c ≡ d
place_apart g c d p q e =
    same_cell c d
    (sym (mod-mul-add c.y g.width c.x p) ∙ (ap (λ n. n % g.width) e ∙ mod-mul-add d.y g.width d.x q))
    (sym (div-mul-add c.y g.width c.x p) ∙ (ap (λ n. n / g.width) e ∙ div-mul-add d.y g.width d.x q))

-- the place of a cell within the sides
pub place_below : (g : Floor) (c : Cell) → c.x < g.width → c.y < g.height → place g c < g.width * g.height
place_below g c p q = mul-add-lt c.y g.width c.x g.height q p

module _ (g : Floor) (t : List Bool) (c : Cell) (in_width : c.x < g.width) where
  -- a mark stays where another cell is written
  pub other_kept : (b : Bool) (d : Cell) → (d ≡ c → ⊥) → IsMarked g t d → IsMarked g (set t (place g c) b) d
  other_kept b d apart m =
      record {
        in_width = m.in_width;
        in_height = m.in_height;
        marked = get_or-set_other t (place g c) (place g d) b false (λ e. apart (place_apart g d c m.in_width in_width e)) ∙ m.marked;
      }

  -- and no other mark comes
  pub other_was : (b : Bool) (d : Cell) → (d ≡ c → ⊥) → IsMarked g (set t (place g c) b) d → IsMarked g t d
  other_was b d apart m =
      record {
        in_width = m.in_width;
        in_height = m.in_height;
        marked = sym (get_or-set_other t (place g c) (place g d) b false (λ e. apart (place_apart g d c m.in_width in_width e))) ∙ m.marked;
      }

-- a cell that is written is as it was written
pub written : (g : Floor) (t : List Bool) (c : Cell) (b : Bool) → place g c < length t → get_or (set t (place g c) b) (place g c) false ≡ b
written g t c b h = get_or-set_same t (place g c) b false h

module _ (g : Floor) (ps : List Cell) (p : Cell) (t : List Bool) (before : IsOpenTable g ps t) where
  -- one more point, outside the sides
  pub open_past : ((p.x < g.width) × (p.y < g.height) → ⊥) → IsOpenTable g (ps ++ p ∷ []) t
  open_past out =
      record {
        size = before.size;
        exact = λ c. (
          λ m. record {
            passable = ((before.exact c).0 m).passable;
            no_point = λ k.
                elim (Contains-push_cases ps p c k) [
                  | inl h ↦ ((before.exact c).0 m).no_point h
                  | inr e ↦ out (subst (λ (d : Cell). (d.x < g.width) × (d.y < g.height)) (sym e) (m.in_width, m.in_height))
                ];
          },
          λ o. (before.exact c).1 (record { passable = o.passable; no_point = λ k. o.no_point (Contains-append_left ps (p ∷ []) c k) }),
        );
      }

  -- one more point, written as no open cell
  pub open_less : p.x < g.width → p.y < g.height → IsOpenTable g (ps ++ p ∷ []) (set t (place g p) false)
  open_less in_width in_height =
      let below : place g p < length t = (let h = place_below g p in_width in_height in omega (arith, before.size)) in
      record {
        size = length-set t (place g p) false ∙ before.size;
        exact = λ c. (
          λ m.
              (let apart : c ≡ p → ⊥ = λ e.
              (let f : false ≡ true = sym (written g t p false below) ∙ (ap (λ d. get_or (set t (place g p) false) (place g d) false) (sym e) ∙ m.marked) in cc) in
              let was = (before.exact c).0 (other_was g t p in_width false c apart m) in
              record {
                passable = was.passable;
                no_point = λ k. elim (Contains-push_cases ps p c k) [ inl h ↦ was.no_point h | inr e ↦ apart (sym e) ];
              }),
          λ o.
              other_kept g t p in_width false c (λ e. o.no_point (subst (Contains (ps ++ p ∷ [])) (sym e) (Contains-push ps p)))
              ((before.exact c).1 (record { passable = o.passable; no_point = λ k. o.no_point (Contains-append_left ps (p ∷ []) c k) })),
        );
      }
