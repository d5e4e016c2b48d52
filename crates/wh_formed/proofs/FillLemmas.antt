-- fills: one cell entered, several, all
use Rattle.std.proofs.Common.{◌≡◌, ℕ, ◌+◌, ◌*◌, ◌<◌, ◌⊎◌, inl, inr, ◌↔◌, ◌∙◌, List, [], ◌∷◌, ◌++◌, length, get_or, set, take, Bool, true, false, cond, All, zero, suc, refl, sym, ap, subst, length-set, length-append, get_or-set_same, get_or-set_other, eqb, Contains, arith}
use Rattle.std.proofs.lemmas.Bool.{cases_eq}
use Rattle.std.proofs.lemmas.List.{length-map, take_more}
use Rattle.std.proofs.lemmas.List.Elements.{All-contains, Contains-append_left, Contains-push, Contains-push_cases}
use Rattle.std.proofs.lemmas.List.Sums.{sum_by-set}
use Rattle.wh_grid.specs.declared.cell.Cell.{Cell}
use Rattle.wh_grid.specs.Grids.{Floor, IsAdjacent, IsMove, IsPassable}
use Rattle.wh_grid.proofs.Pigeons.{cell_cases}
use Rattle.wh_formed.specs.declared.fill.Fill.{Fill}
use Rattle.wh_formed.specs.Rounds.{Marks, Rounds, marks_of}
use Rattle.wh_formed.specs.Fills.{IsMarked, IsReached, Reaches, Spreads, place, unmarked}
use Rattle.wh_formed.proofs.StampLemmas.{mark_is_set}
use Rattle.wh_formed.proofs.TableLemmas.{other_kept, other_was, written, place_below}

-- a mark is set at a cell
pub is_set : (g : Floor) (t : List Bool) (c : Cell) → c.x < g.width → c.y < g.height → place g c < length t → IsMarked g (set t (place g c) true) c
is_set g t c p q h = record { in_width = p; in_height = q; marked = written g t c true h }

pub set_kept : (g : Floor) (t : List Bool) (c d : Cell) → c.x < g.width → place g c < length t → IsMarked g t d → IsMarked g (set t (place g c) true) d
set_kept g t c d p h m =
    elim (cell_cases d c) [
      | inl e ↦ record { in_width = m.in_width; in_height = m.in_height; marked = ap (λ k. get_or (set t (place g c) true) (place g k) false) e ∙ written g t c true h }
      | inr n ↦ other_kept g t c p true d n m
    ]

pub set_was : (g : Floor) (t : List Bool) (c d : Cell) → c.x < g.width → IsMarked g (set t (place g c) true) d → IsMarked g t d ⊎ (d ≡ c)
set_was g t c d p m = elim (cell_cases d c) [ inl e ↦ inr e | inr n ↦ inl (other_was g t c p true d n m) ]

-- as many marks as numbers
pub length-marks : (r : Rounds) → length (marks_of r) ≡ length r.numbers
length-marks r = length-map r.numbers (λ n. eqb n r.current)

pub marks_none : (r : Rounds) → Marks r r
marks_none r = record { size = refl; current = refl; others = λ i. inl refl }

pub marks_one : (r : Rounds) (place : ℕ) → place < length r.numbers → Marks r (record { numbers = set r.numbers place r.current; current = r.current })
marks_one r place h =
    record {
      size = length-set r.numbers place r.current;
      current = refl;
      others = λ i.
          elim (cases_eq i place) [
            | inl e ↦ inr (ap (λ j. get_or (set r.numbers place r.current) j 0) e ∙ get_or-set_same r.numbers place r.current 0 h)
            | inr n ↦ inl (get_or-set_other r.numbers place i r.current 0 n)
          ];
    }

pub marks_then : (a b c : Rounds) → Marks a b → Marks b c → Marks a c
marks_then a b c s t =
    record {
      size = t.size ∙ s.size;
      current = t.current ∙ s.current;
      others = λ i.
          elim (t.others i) [
            | inl w ↦ elim (s.others i) [ inl v ↦ inl (w ∙ v) | inr v ↦ inr (w ∙ v) ]
            | inr w ↦ inr (w ∙ s.current)
          ];
    }

-- one cell was entered
pub spreads_one : (g : Floor) (o : List Bool) (older newer : Fill) (cell : Cell) → IsMarked g o cell → place g cell < length older.marks.numbers → get_or (marks_of older.marks) (place g cell) false ≡ false
    → newer.marks ≡ record { numbers = set older.marks.numbers (place g cell) older.marks.current; current = older.marks.current } → newer.queue.items ≡ older.queue.items ++ cell ∷ [] → Spreads g o (λ c. c ≡ cell) older newer
spreads_one g o older newer cell m below f is q =
    let e : marks_of newer.marks ≡ set (marks_of older.marks) (place g cell) true = ap marks_of is ∙ mark_is_set older.marks.numbers older.marks.current (place g cell) in
    let h : place g cell < length (marks_of older.marks) = omega (arith, length-marks older.marks) in
    let had : Contains newer.queue.items cell = subst (λ xs. Contains xs cell) (sym q) (Contains-push older.queue.items cell) in
    let here : IsMarked g (marks_of newer.marks) cell = subst (λ t. IsMarked g t cell) (sym e) (is_set g (marks_of older.marks) cell m.in_width m.in_height h) in
    record {
      kept = λ c k. subst (λ t. IsMarked g t c) (sym e) (set_kept g (marks_of older.marks) cell c m.in_width h k);
      waits = λ c k. subst (λ xs. Contains xs c) (sym q) (Contains-append_left older.queue.items (cell ∷ []) c k);
      entered = λ c k.
          elim (set_was g (marks_of older.marks) cell c m.in_width (subst (λ t. IsMarked g t c) e k)) [
            | inl w ↦ inl w
            | inr w ↦ inr (w, subst (IsMarked g o) (sym w) m, subst (Contains newer.queue.items) (sym w) had)
          ];
      queued = λ c k.
          elim (Contains-push_cases older.queue.items cell c (subst (λ xs. Contains xs c) q k)) [
            | inl w ↦ inl w
            | inr w ↦ inr (subst (IsMarked g (marks_of newer.marks)) w here)
          ];
      complete = λ c k w. subst (IsMarked g (marks_of newer.marks)) (sym k) here;
      measure =
          (let cost : Bool → ℕ = λ b. cond b 0 1 in
          let s = sum_by-set cost (marks_of older.marks) (place g cell) true false h in
          let was : cost (get_or (marks_of older.marks) (place g cell) false) ≡ 1 = ap cost f in
          let now : unmarked (marks_of newer.marks) ≡ unmarked (set (marks_of older.marks) (place g cell) true) = ap unmarked e in
          let long : length newer.queue.items ≡ length older.queue.items + 1 = ap length q ∙ length-append older.queue.items (cell ∷ []) in
          omega arith);
      rounds = subst (Marks older.marks) (sym is) (marks_one older.marks (place g cell) below);
    }

-- one after another
pub spreads_then : (g : Floor) (o : List Bool) (P Q R : Cell → Type 0) (a b c : Fill) → ((d : Cell) → P d → R d) → ((d : Cell) → Q d → R d) → ((d : Cell) → R d → P d ⊎ Q d)
    → Spreads g o P a b → Spreads g o Q b c → Spreads g o R a c
spreads_then g o P Q R a b c pr qr rpq s t =
    record {
      kept = λ d m. t.kept d (s.kept d m);
      waits = λ d k. t.waits d (s.waits d k);
      entered = λ d m.
          elim (t.entered d m) [
            | inl w ↦ elim (s.entered d w) [ inl v ↦ inl v | inr v ↦ inr (pr d v.0, v.1, t.waits d v.2) ]
            | inr w ↦ inr (qr d w.0, w.1, w.2)
          ];
      queued = λ d k.
          elim (t.queued d k) [
            | inl w ↦ elim (s.queued d w) [ inl v ↦ inl v | inr v ↦ inr (t.kept d v) ]
            | inr w ↦ inr w
          ];
      complete = λ d r m. elim (rpq d r) [ inl p ↦ t.kept d (s.complete d p m) | inr q ↦ t.complete d q m ];
      measure = t.measure ∙ s.measure;
      rounds = marks_then a.marks b.marks c.marks s.rounds t.rounds;
    }

-- for other cells: those with P have R, and of the open ones with R all were entered
pub spreads_as : (g : Floor) (o : List Bool) (P R : Cell → Type 0) (a b : Fill) → ((d : Cell) → P d → R d) → ((d : Cell) → R d → IsMarked g o d → P d ⊎ IsMarked g (marks_of a.marks) d) → Spreads g o P a b → Spreads g o R a b
spreads_as g o P R a b pr rp s =
    record {
      kept = s.kept;
      waits = s.waits;
      entered = λ d m. elim (s.entered d m) [ inl w ↦ inl w | inr w ↦ inr (pr d w.0, w.1, w.2) ];
      queued = s.queued;
      complete = λ d r m. elim (rp d r m) [ inl p ↦ s.complete d p m | inr k ↦ s.kept d k ];
      measure = s.measure;
      rounds = s.rounds;
    }

-- the first i cells of a list, and one more
pub spreads_more : (g : Floor) (o : List Bool) (cells : List Cell) (i : ℕ) (d : Cell) (a b c : Fill) → i < length cells → Spreads g o (Contains (take i cells)) a b → Spreads g o (λ e. e ≡ get_or cells i d) b c
    → Spreads g o (Contains (take (i + 1) cells)) a c
spreads_more g o cells i d a b c h s t =
    let more = take_more cells i d h in
    let x = get_or cells i d in
    spreads_then g o (Contains (take i cells)) (λ e. e ≡ x) (Contains (take (i + 1) cells)) a b c
    (λ e k. subst (λ xs. Contains xs e) (sym more) (Contains-append_left (take i cells) (x ∷ []) e k))
    (λ e k. subst (λ xs. Contains xs e) (sym more) (subst (Contains (take i cells ++ x ∷ [])) (sym k) (Contains-push (take i cells) x)))
    (λ e k. elim (Contains-push_cases (take i cells) x e (subst (λ xs. Contains xs e) more k)) [ inl w ↦ inl w | inr w ↦ inr (sym w) ])
    s t

-- all neighbours
pub spreads_around : (g : Floor) (o : List Bool) (around : List Cell) (cell : Cell) (a b : Fill) → All (λ r. IsMove cell r) around
    → ((r : Cell) → r.x < g.width → r.y < g.height → IsAdjacent cell r → Contains around r) → IsMarked g (marks_of a.marks) cell → Spreads g o (Contains around) a b → Spreads g o (λ c. IsMove cell c) a b
spreads_around g o around cell a b moves full m s =
    spreads_as g o (Contains around) (λ c. IsMove cell c) a b
    (λ d k. All-contains (λ r. IsMove cell r) around d moves k)
    (λ d k open_d. elim k [
      | inl e ↦ inr (subst (IsMarked g (marks_of a.marks)) e m)
      | inr n ↦ inl (full d open_d.in_width open_d.in_height n)
    ])
    s

-- what is known while the queue is emptied: all that was entered can be reached, and leads to no open cell that was not entered, or waits
pub record IsFilling (g : Floor) (o : List Bool) (start : Rounds) (from : Cell) (fill : Fill) : Type 0 where
  pub rounds : Marks start fill.marks
  pub starts : IsMarked g (marks_of fill.marks) from
  pub sound : (c : Cell) → IsMarked g (marks_of fill.marks) c → IsReached g (IsMarked g o) from c
  pub waiting : (c : Cell) → Contains fill.queue.items c → IsMarked g (marks_of fill.marks) c
  pub closed : (c : Cell) → IsMarked g (marks_of fill.marks) c → Contains fill.queue.items c ⊎ ((d : Cell) → IsMove c d → IsMarked g o d → IsMarked g (marks_of fill.marks) d)

pub none_marked : (g : Floor) (t : List Bool) (c : Cell) → length t ≡ g.width * g.height → All (λ b. b ≡ false) t → IsMarked g t c → ⊥
none_marked g t c s f m =
    let h : place g c < length t = (let k = place_below g c m.in_width m.in_height in omega (arith, s)) in
    let e : false ≡ true = sym (f (place g c) false h) ∙ m.marked in
    cc

pub filling_start : (g : Floor) (o : List Bool) (start : Rounds) (from : Cell) (fill : Fill) → IsPassable g from → length start.numbers ≡ g.width * g.height → All (λ b. b ≡ false) (marks_of start)
    → fill.marks ≡ record { numbers = set start.numbers (place g from) start.current; current = start.current } → fill.queue.items ≡ from ∷ [] → IsFilling g o start from fill
filling_start g o start from fill p size f is q =
    let t = marks_of start in
    let s : length t ≡ g.width * g.height = length-marks start ∙ size in
    let e : marks_of fill.marks ≡ set t (place g from) true = ap marks_of is ∙ mark_is_set start.numbers start.current (place g from) in
    let below : place g from < length t = (let k = place_below g from p.in_width p.in_height in omega (arith, s)) in
    let here : IsMarked g (marks_of fill.marks) from = subst (λ x. IsMarked g x from) (sym e) (is_set g t from p.in_width p.in_height below) in
    let only : (c : Cell) → IsMarked g (marks_of fill.marks) c → c ≡ from = λ c m.
    elim (set_was g t from c p.in_width (subst (λ x. IsMarked g x c) e m)) [ inl w ↦ absurd (none_marked g t c s f w) | inr w ↦ w ] in
    let waits : Contains fill.queue.items from = subst (λ xs. Contains xs from) (sym q) (Contains-push [] from) in
    record {
      rounds = subst (Marks start) (sym is) (marks_one start (place g from) (omega (arith, length-marks start)));
      starts = here;
      sound = λ c m. (0, (p, only c m));
      waiting = λ c k.
          elim (Contains-push_cases [] from c (subst (λ xs. Contains xs c) q k)) [
            | inl w ↦ absurd (let z : w.0 < 0 = w.1 in omega arith)
            | inr w ↦ subst (IsMarked g (marks_of fill.marks)) w here
          ];
      closed = λ c m. inl (subst (Contains fill.queue.items) (sym (only c m)) waits);
    }

-- one cell was taken from the queue, and all around it was entered
pub filling_step : (g : Floor) (o : List Bool) (start : Rounds) (from cell : Cell) (older popped newer : Fill) → popped.marks ≡ older.marks → older.queue.items ≡ popped.queue.items ++ cell ∷ []
    → IsFilling g o start from older → Spreads g o (λ c. IsMove cell c) popped newer → IsFilling g o start from newer
filling_step g o start from cell older popped newer is q f s =
    let e : marks_of popped.marks ≡ marks_of older.marks = ap marks_of is in
    let popped_has : (c : Cell) → IsMarked g (marks_of older.marks) c → IsMarked g (marks_of popped.marks) c = λ c m. subst (λ x. IsMarked g x c) (sym e) m in
    let older_has : (c : Cell) → IsMarked g (marks_of popped.marks) c → IsMarked g (marks_of older.marks) c = λ c m. subst (λ x. IsMarked g x c) e m in
    let cell_in : IsMarked g (marks_of older.marks) cell = f.waiting cell (subst (λ xs. Contains xs cell) (sym q) (Contains-push popped.queue.items cell)) in
    let reach = f.sound cell cell_in in
    record {
      rounds = marks_then start older.marks newer.marks f.rounds (subst (λ r. Marks r newer.marks) is s.rounds);
      starts = s.kept from (popped_has from f.starts);
      sound = λ c m.
          elim (s.entered c m) [
            | inl w ↦ f.sound c (older_has c w)
            | inr w ↦ (suc reach.0, (cell, reach.1, w.0, w.1))
          ];
      waiting = λ c k.
          elim (s.queued c k) [
            | inl w ↦ s.kept c (popped_has c (f.waiting c (subst (λ xs. Contains xs c) (sym q) (Contains-append_left popped.queue.items (cell ∷ []) c w))))
            | inr w ↦ w
          ];
      closed = λ c m.
          elim (s.entered c m) [
            | inl w ↦ elim (f.closed c (older_has c w)) [
              | inl k ↦ elim (Contains-push_cases popped.queue.items cell c (subst (λ xs. Contains xs c) q k)) [
                | inl v ↦ inl (s.waits c v)
                | inr v ↦ inr (λ d go open_d. s.complete d (subst (λ x. IsMove x d) (sym v) go) open_d)
              ]
              | inr k ↦ inr (λ d go open_d. s.kept d (popped_has d (k d go open_d)))
            ]
            | inr w ↦ inl w.2
          ];
    }

-- with an empty queue, exactly what can be reached was entered
pub filling_end : (g : Floor) (o : List Bool) (start : Rounds) (from : Cell) (fill : Fill) → length fill.queue.items ≡ 0 → IsFilling g o start from fill → (c : Cell) → IsMarked g (marks_of fill.marks) c ↔ IsReached g (IsMarked g o) from c
filling_end g o start from fill q f c = (λ m. f.sound c m, λ r. all r.0 c r.1)
  where
    all : (n : ℕ) (c : Cell) → Reaches g (IsMarked g o) from n c → IsMarked g (marks_of fill.marks) c
    all zero c r = subst (IsMarked g (marks_of fill.marks)) (sym r.1) f.starts
    all (suc n) c r =
        elim (f.closed r.0 (all n r.0 r.1)) [
          | inl k ↦ absurd (let z : k.0 < length fill.queue.items = k.1 in omega arith)
          | inr k ↦ k c r.2 r.3
        ]

-- where the start is not passable nothing can be reached
pub unreached : (g : Floor) (P : Cell → Type 0) (from c : Cell) → (IsPassable g from → ⊥) → IsReached g P from c → ⊥
unreached g P from c out r = none r.0 c r.1
  where
    none : (n : ℕ) (c : Cell) → Reaches g P from n c → ⊥
    none zero c r = out r.0
    none (suc n) c r = none n r.0 r.1
