-- numbers of cells that are linked
use Rattle.std.proofs.Common.{◌≡◌, ℕ, ◌+◌, ◌*◌, ◌/◌, ◌%◌, ◌<◌, ◌⊎◌, inl, inr, ◌↔◌, ◌∙◌, List, Bool, All, Contains, length, get_or, take, eqb, false, zero, suc, refl, sym, ap, subst, arith}
use Rattle.std.proofs.lemmas.Bool.{cases_lt, cases_eq, eq-eqb, eqb-true}
use Rattle.std.proofs.lemmas.List.{get_or-map}
use Rattle.std.proofs.lemmas.List.Elements.{All-contains, All-more, All-weaker}
use Rattle.std.proofs.Math.Nat.{div-add-mod, div-lt_iff_lt-mul, mod-lt, mul_comm, zero-mul}
use Rattle.wh_grid.specs.declared.cell.Cell.{Cell}
use Rattle.wh_grid.specs.Grids.{Floor, IsAdjacent, IsMove, IsPassable}
use Rattle.wh_path.proofs.WalkLemmas.{move_back}
use Rattle.wh_formed.specs.Fills.{IsMarked, IsReached, Reaches, place}
use Rattle.wh_formed.specs.Labels.{AreLabelsBelow, AreLabelsBeside, AreParts, HasNumber, IsNumbered, NumbersMore, cell_at}
use Rattle.wh_formed.specs.Rounds.{Marks, Rounds, marks_of}
use Rattle.wh_formed.proofs.TableLemmas.{place_apart, place_below}

-- Part 1: reaching goes on, and goes back

module _ (g : Floor) (P : Cell → Type 0) (inside : (c : Cell) → P c → IsPassable g c) where
  pub reached_then : (a b c : Cell) → IsReached g P a b → (m : ℕ) → Reaches g P b m c → IsReached g P a c
  reached_then a b c r zero s = subst (IsReached g P a) (sym s.1) r
  reached_then a b c r (suc m) s = let before = reached_then a b s.0 r m s.1 in (suc before.0, (s.0, before.1, s.2, s.3))

  pub reached_has : (a c : Cell) (n : ℕ) → P a → Reaches g P a n c → P c
  reached_has a c zero h r = subst P (sym r.1) h
  reached_has a c (suc n) h r = r.3

  pub one_step : (a c : Cell) → IsPassable g a → IsMove a c → P c → IsReached g P a c
  one_step a c h m p = (1, (a, (h, refl), m, p))

  pub reached_back : (a c : Cell) (n : ℕ) → P a → Reaches g P a n c → IsReached g P c a
  reached_back a c zero h r = (0, (subst (IsPassable g) (sym r.1) r.0, sym r.1))
  reached_back a c (suc n) h r =
      let x = r.0 in
      let back = reached_back a x n h r.1 in
      reached_then c x a (one_step c x (inside c r.3) (move_back x c r.2) (reached_has a x n h r.1)) back.0 back.1

-- Part 2: marks of a round are its number

module _ (g : Floor) (r : Rounds) (size : length r.numbers ≡ g.width * g.height) where
  pub marked_number : (c : Cell) → IsMarked g (marks_of r) c → HasNumber g r.numbers c r.current
  marked_number c m =
      let below = place_below g c m.in_width m.in_height in
      let seen = get_or-map (λ n. eqb n r.current) r.numbers (place g c) 0 false (omega (arith, size)) in
      record { in_width = m.in_width; in_height = m.in_height; number = eqb-true (get_or r.numbers (place g c) 0) r.current (sym seen ∙ m.marked) }

  pub number_marked : (c : Cell) → HasNumber g r.numbers c r.current → IsMarked g (marks_of r) c
  number_marked c h =
      let below = place_below g c h.in_width h.in_height in
      let seen = get_or-map (λ n. eqb n r.current) r.numbers (place g c) 0 false (omega (arith, size)) in
      record { in_width = h.in_width; in_height = h.in_height; marked = seen ∙ eq-eqb (get_or r.numbers (place g c) 0) r.current h.number }

-- Part 3: one part more

module _ (g : Floor) (P : Cell → Type 0) (inside : (c : Cell) → P c → IsPassable g c) (older newer : Rounds) (s : Cell) (parts : AreParts g P older.numbers) (written : Marks older newer)
    (seed : P s) (positive : 0 < older.current) (filled : (c : Cell) → IsMarked g (marks_of newer) c ↔ IsReached g P s c) where
  new_size : length newer.numbers ≡ g.width * g.height
  new_size = written.size ∙ parts.size

  -- a number is an older one, or that of the round
  was_number : (c : Cell) (k : ℕ) → HasNumber g newer.numbers c k → HasNumber g older.numbers c k ⊎ (k ≡ newer.current)
  was_number c k h =
      elim (written.others (place g c)) [
        | inl e ↦ inl (record { in_width = h.in_width; in_height = h.in_height; number = sym e ∙ h.number })
        | inr e ↦ inr (sym h.number ∙ (e ∙ sym written.current))
      ]

  pub still_number : (c : Cell) (k : ℕ) → HasNumber g older.numbers c k → HasNumber g newer.numbers c k ⊎ HasNumber g newer.numbers c newer.current
  still_number c k h =
      elim (written.others (place g c)) [
        | inl e ↦ inl (record { in_width = h.in_width; in_height = h.in_height; number = e ∙ h.number })
        | inr e ↦ inr (record { in_width = h.in_width; in_height = h.in_height; number = e ∙ sym written.current })
      ]

  -- what has the number of the round can be reached from its seed, and the other way round
  reached_from : (c : Cell) (k : ℕ) → k ≡ newer.current → HasNumber g newer.numbers c k → IsReached g P s c
  reached_from c k e h = (filled c).0 (number_marked g newer new_size c (subst (HasNumber g newer.numbers c) e h))

  pub reached_number : (c : Cell) → IsReached g P s c → HasNumber g newer.numbers c newer.current
  reached_number c r = marked_number g newer new_size c ((filled c).1 r)

  pub more_parts : AreParts g P newer.numbers
  more_parts =
      record {
        size = new_size;
        only = λ c k pos h.
            elim (was_number c k h) [
              | inl w ↦ parts.only c k pos w
              | inr e ↦ (let r = reached_from c k e h in reached_has g P inside s c r.0 seed r.1)
            ];
        linked = λ c d k pos h i.
            elim (cases_eq k newer.current) [
              | inl e ↦
                  (let r = reached_from c k e h in
                  let t = reached_from d k e i in
                  reached_then g P inside c s d (reached_back g P inside s c r.0 seed r.1) t.0 t.1)
              | inr n ↦
                  elim (was_number c k h) [
                    | inl w ↦ elim (was_number d k i) [ inl v ↦ parts.linked c d k pos w v | inr e ↦ absurd (n e) ]
                    | inr e ↦ absurd (n e)
                  ]
            ];
        closed = λ c d k pos h r.
            elim (cases_eq k newer.current) [
              | inl e ↦
                  (let t = reached_from c k e h in
                  subst (HasNumber g newer.numbers d) (sym e) (reached_number d (reached_then g P inside s c d t r.0 r.1)))
              | inr n ↦
                  elim (was_number c k h) [
                    | inl w ↦
                        elim (still_number d k (parts.closed c d k pos w r)) [
                          | inl v ↦ v
                          | inr v ↦
                              (let t = reached_from d newer.current refl v in
                              let back = reached_back g P inside c d r.0 (parts.only c k pos w) r.1 in
                              let same = reached_number c (reached_then g P inside s d c t back.0 back.1) in
                              absurd (n (sym h.number ∙ same.number)))
                        ]
                    | inr e ↦ absurd (n e)
                  ]
            ];
      }

  -- what was numbered still is
  pub kept_numbered : (c : Cell) → IsNumbered g older.numbers c → IsNumbered g newer.numbers c
  kept_numbered c h = elim (still_number c h.0 h.2) [ inl w ↦ (h.0, h.1, w) | inr w ↦ (newer.current, omega (arith, written.current), w) ]

  pub more_numbers : (i : ℕ) → place g s ≡ i → s.x < g.width → NumbersMore g P (λ c. place g c ≡ i) older.numbers newer.numbers
  more_numbers i at s_in =
      record {
        parts = more_parts;
        kept = kept_numbered;
        every = λ c h there.
            (let p = inside c h in
            let e : c ≡ s = place_apart g c s p.in_width s_in (there ∙ sym at) in
            (newer.current, omega (arith, written.current), reached_number c (0, (inside s seed, e))));
      }

-- one place more
pub more_labels : (g : Floor) (P : Cell → Type 0) (i : ℕ) (older newer : List ℕ) → AreLabelsBelow g P i older → NumbersMore g P (λ c. place g c ≡ i) older newer → AreLabelsBelow g P (i + 1) newer
more_labels g P i older newer before more =
    record {
      parts = more.parts;
      every = λ c h below. elim (cases_lt (place g c) i) [ inl b ↦ more.kept c (before.every c h b) | inr b ↦ more.every c h (omega arith) ];
    }

-- of cells one after another, one more
pub more_near : (g : Floor) (o : List Bool) (around : List Cell) (i : ℕ) (d : Cell) (older newer : List ℕ) → i < length around → All (λ r. IsMarked g o r → IsNumbered g older r) (take i around)
    → NumbersMore g (IsMarked g o) (λ c. c ≡ get_or around i d) older newer → All (λ r. IsMarked g o r → IsNumbered g newer r) (take (i + 1) around)
more_near g o around i d older newer inside before more =
    All-more (λ r. IsMarked g o r → IsNumbered g newer r) around i d inside
    (All-weaker (λ r. IsMarked g o r → IsNumbered g older r) (λ r. IsMarked g o r → IsNumbered g newer r) (λ r h m. more.kept r (h m)) (take i around) before)
    (λ m. more.every (get_or around i d) m refl)

-- a cell and those around it are all that are one step from it
pub labels_around : (g : Floor) (o : List Bool) (around : List Cell) (cell : Cell) (numbers : List ℕ) → AreParts g (IsMarked g o) numbers → (IsMarked g o cell → IsNumbered g numbers cell)
    → All (λ r. IsMarked g o r → IsNumbered g numbers r) around → ((r : Cell) → r.x < g.width → r.y < g.height → IsAdjacent cell r → Contains around r) → AreLabelsBeside g (IsMarked g o) cell numbers
labels_around g o around cell numbers parts own near complete =
    record {
      parts = parts;
      every = λ c m step. elim step [
        | inl e ↦ subst (λ (r : Cell). IsMarked g o r → IsNumbered g numbers r) e own m
        | inr n ↦ All-contains (λ r. IsMarked g o r → IsNumbered g numbers r) around c near (complete c m.in_width m.in_height n) m
      ];
    }

-- Part 4: the cell of a place

module _ (g : Floor) (i : ℕ) (below : i < g.width * g.height) where
  wide : 0 < g.width
  wide = elim (cases_eq g.width 0) [
    | inl e ↦ absurd (let z : g.width * g.height ≡ 0 = ap (λ w. w * g.height) e ∙ zero-mul g.height in omega arith)
    | inr n ↦ omega arith
  ]

  pub cell_in_width : (cell_at g i).x < g.width
  cell_in_width = mod-lt i wide

  pub cell_in_height : (cell_at g i).y < g.height
  cell_in_height = (div-lt_iff_lt-mul wide).1 (subst (λ n. i < n) (mul_comm g.width g.height) below)

  pub place-cell_at : place g (cell_at g i) ≡ i
  place-cell_at = ap (λ n. n + i % g.width) (mul_comm (i / g.width) g.width) ∙ div-add-mod i g.width
