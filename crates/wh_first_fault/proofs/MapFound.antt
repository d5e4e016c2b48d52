-- What reading tells of a map that it refuses is the first fault.
use Rattle.std.proofs.Common.{◌≡◌, ◌≢◌, ℕ, zero, suc, ◌+◌, ◌<◌, Bool, true, false, cond, eqb, ltb, List, [], ◌∷◌, ◌++◌, length, map, take, Some, None, Result, Ok, Err, refl, sym, ap, subst, ◌∙◌, ◌⊎◌, inl, inr, arith, length-append}
use Rattle.std.specs.Prelude.{codes}
use Rattle.std.specs.List.{list_all, flat_map, AllByRecursion}
use Rattle.std.specs.Str.{bytes_eq}
use Rattle.std.proofs.lemmas.Bool.{eqb-true, eqb-false, ltb-true}
use Rattle.std.proofs.lemmas.List.{take_all, append_assoc, append-nil}
use Rattle.std.proofs.lemmas.Slice.Eq.{bytes_eq-Decides}
use Rattle.wh_text.specs.Lines.{Unread}
use Rattle.wh_text.specs.Words.{is_blank, words_of}
use Rattle.wh_text.specs.Numbers.{are_digits, decimal, number_of}
use Rattle.wh_grid.specs.Grids.{Floor}
use Rattle.wh_grid.specs.declared.fault.Fault.{Fault}
use Rattle.wh_grid.specs.declared.fault.MapKind.{MapKind}
use Rattle.wh_grid.specs.declared.fault.MapKind.TheVariants.{Head, Size, RowLength, Letter, RowsMissing, TextAfter, TooLarge}
use Rattle.wh_grid.specs.declared.head.Side.{Side}
use Rattle.wh_grid.specs.declared.head.Side.TheVariants.{Height, Width}
use Rattle.wh_grid.specs.declared.head.Size.{Size as Sides}
use Rattle.wh_grid.specs.Faults.{◌>>=◌, located, next_of, line_by}
use Rattle.wh_grid.specs.MapLines.{is_letter, is_passable, type_by, type_line, map_by, map_line, length_by, side_by, side_line, side_named, some_side, first_side_line, other_side, name_of_side, row_line, blank_line}
use Rattle.wh_grid.specs.Maps.{rows_of, blanks_of, head_of, map_of, sides_by}
use Rattle.wh_grid.specs.Grammar.{IsSide, IsRow, IsBlank, IsMap}
use Rattle.wh_grid.proofs.Steps.{bind_err, located_ok, line_ok}
use Rattle.wh_grid.proofs.HeadLemmas.{type_found, side_found, some_side_ok}
use Rattle.wh_grid.proofs.GrammarLemmas.{HeadRead, head_found, RowsRead, rows_found, map_is_read}
use Rattle.wh_grid.proofs.FirstFault.{fault_is_first}
use Rattle.wh_first_fault.specs.MapFaults.{Begins, IsWrong, TellsSide, WantsSide, IsHead, WantsRow, TellsNoSide, IsFault, IsFirstFault}
use Rattle.wh_first_fault.proofs.Completing.{nothing_begins, start_begins, second_begins, third_begins, completed, whole_begins}

-- ---- one line
pub record Refused {A : Type 0} (read : List ℕ → Result A MapKind) (lines : List (List ℕ)) (kind : MapKind) : Type 0 where
  pub line : List ℕ
  pub rest : List (List ℕ)
  pub lines_are : lines ≡ line ∷ rest
  pub says : read line ≡ Err kind

located_err : {A : Type 0} (after : Unread) (r : Result A MapKind) (f : Fault) → located after r ≡ Err f → (r ≡ Err f.kind) × (f.line ≡ after.count)
located_err {A} after (Ok x) f e = absurd cc
located_err {A} after (Err kind) f e =
    let made : Fault = record { kind = kind; line = after.count } in
    let same : made ≡ f = cc in
    (ap (λ (g : Fault). Err g.kind) same, sym (ap (λ (g : Fault). g.line) same))

-- none is left, or what is there is refused
line_err : {A : Type 0} (missing : MapKind) (read : List ℕ → Result A MapKind) (count : ℕ) (lines : List (List ℕ)) (f : Fault) → next_of missing read count lines ≡ Err f
    → (f.line ≡ count + 1) × (((lines ≡ []) × (f.kind ≡ missing)) ⊎ Refused read lines f.kind)
line_err missing read count [] f e =
    let made : Fault = record { kind = missing; line = count + 1 } in
    let same : made ≡ f = cc in
    (sym (ap (λ (g : Fault). g.line) same), inl (refl, sym (ap (λ (g : Fault). g.kind) same)))
line_err missing read count (line ∷ lines) f e =
    let l = located_err (record { lines = lines; count = count + 1 }) (read line) f e in
    (l.1, inr (record { line = line; rest = lines; lines_are = refl; says = l.0 }))

-- ---- lines of the head
-- a line that says nothing but that it is right
abbrev said : Result Unit MapKind → Result Unit MapKind
said r = r

guard_err : (b : Bool) (k : MapKind) → cond b (said (Ok tt)) (said (Err Head)) ≡ Err k → k ≡ Head
guard_err true k e = absurd cc
guard_err false k e = cc

head_kind : (k : MapKind) → (let r : Result Unit MapKind = Err Head in let s : Result Unit MapKind = Err k in r ≡ s) → k ≡ Head
head_kind k e = cc

type_err : (words : List (List ℕ)) (k : MapKind) → type_by words ≡ Err k → k ≡ Head
type_err [] k e = head_kind k e
type_err (name ∷ []) k e = head_kind k e
type_err (name ∷ kind ∷ []) k e = guard_err (bytes_eq name (codes "type")) k e
type_err (name ∷ kind ∷ more ∷ words) k e = head_kind k e

map_err : (words : List (List ℕ)) (k : MapKind) → map_by words ≡ Err k → k ≡ Head
map_err [] k e = head_kind k e
map_err (name ∷ []) k e = guard_err (bytes_eq name (codes "map")) k e
map_err (name ∷ more ∷ words) k e = head_kind k e

-- a side's fault
abbrev Sized : MapKind → ℕ → Type 0
Sized kind n = ((kind ≡ Size) × (n ≡ 0)) ⊎ ((kind ≡ TooLarge) × (4096 < n))

record Told (side : Side) (words : List (List ℕ)) (kind : MapKind) : Type 0 where
  digits : List ℕ
  words_are : words ≡ name_of_side side ∷ digits ∷ []
  digits_are : are_digits digits ≡ true
  sized : Sized kind (decimal digits)

number_head : (k : MapKind) → (let r : Result ℕ MapKind = Err Head in let s : Result ℕ MapKind = Err k in r ≡ s) → k ≡ Head
number_head k e = cc

sized_err : (n : ℕ) (zeros large : Bool) (k : MapKind) → (zeros ≡ true → n ≡ 0) → (large ≡ true → 4096 < n) → cond zeros (Err Size) (cond large (Err TooLarge) (Ok n)) ≡ Err k → Sized k n
sized_err n true large k z l e = inl ((let h : k ≡ Size = cc in h), z refl)
sized_err n false true k z l e = inr ((let h : k ≡ TooLarge = cc in h), l refl)
sized_err n false false k z l e = absurd cc

length_err : (digits : List ℕ) (b : Bool) (k : MapKind) → length_by (cond b (Some (decimal digits)) None) ≡ Err k → (k ≡ Head) ⊎ ((b ≡ true) × Sized k (decimal digits))
length_err digits false k e = inl (number_head k e)
length_err digits true k e = inr (refl, sized_err (decimal digits) (eqb (decimal digits) 0) (ltb 4096 (decimal digits)) k (eqb-true _ _) (ltb-true _ _) e)

named_err : (side : Side) (name digits : List ℕ) (b : Bool) (k : MapKind) → (b ≡ true → name ≡ name_of_side side) → cond b (length_by (number_of digits)) (Err Head) ≡ Err k → (k ≡ Head) ⊎ Told side (name ∷ digits ∷ []) k
named_err side name digits false k h e = inl (number_head k e)
named_err side name digits true k h e = elim (length_err digits (are_digits digits) k e) [
  | inl a ↦ inl a
  | inr a ↦ inr (record { digits = digits; words_are = ap (λ (w : List ℕ). w ∷ digits ∷ []) (h refl); digits_are = a.0; sized = a.1 })
]

side_err : (side : Side) (words : List (List ℕ)) (k : MapKind) → side_by side words ≡ Err k → (k ≡ Head) ⊎ Told side words k
side_err side [] k e = inl (number_head k e)
side_err side (name ∷ []) k e = inl (number_head k e)
side_err side (name ∷ digits ∷ []) k e = named_err side name digits (bytes_eq name (name_of_side side)) k (bytes_eq-Decides name (name_of_side side)).0 e
side_err side (name ∷ digits ∷ more ∷ words) k e = inl (number_head k e)

-- where a side is told, the fault is one of its size
sized_no_head : (n : ℕ) (zeros large : Bool) → cond zeros (Err Size) (cond large (Err TooLarge) (Ok n)) ≡ Err Head → ⊥
sized_no_head n true large e = absurd cc
sized_no_head n false true e = absurd cc
sized_no_head n false false e = absurd cc

told_no_head : (side : Side) (n : ℕ) (line : List ℕ) → TellsSide (name_of_side side) n line → side_by side (words_of line) ≡ Err Head → ⊥
told_no_head side n line t e =
    let same : bytes_eq (name_of_side side) (name_of_side side) ≡ true = (bytes_eq-Decides (name_of_side side) (name_of_side side)).1 refl in
    let read : side_by side (words_of line) ≡ length_by (Some (decimal t.digits)) = rw (t.words, same, t.are_digits) refl in
    sized_no_head (decimal t.digits) (eqb (decimal t.digits) 0) (ltb 4096 (decimal t.digits)) (sym read ∙ e)

-- A line where this side, and no other that it tells, is to be told.
side_fault : (before : List (List ℕ)) (side : Side) (line : List ℕ) (rest : List (List ℕ)) (k : MapKind) → length before < 4 → WantsSide before (name_of_side side)
    → ((name : List ℕ) (n : ℕ) → WantsSide before name → TellsSide name n line → name ≡ name_of_side side) → side_by side (words_of line) ≡ Err k → IsFault k before (line ∷ rest)
side_fault before side line rest k early wants only e = elim (side_err side (words_of line) k e) [
  | inl head ↦ subst (λ (x : MapKind). IsFault x before (line ∷ rest)) (sym head) (
    early,
    λ name n w t. told_no_head side n line (subst (λ (m : List ℕ). TellsSide m n line) (only name n w t) t) (e ∙ ap (λ (x : MapKind). Err x) head),
  )
  | inr told ↦ elim told.sized [
    | inl zeros ↦ subst (λ (x : MapKind). IsFault x before (line ∷ rest)) (sym zeros.0) (
      name_of_side side,
      wants,
      record { digits = told.digits; words = told.words_are; are_digits = told.digits_are; value = zeros.1 },
    )
    | inr large ↦ subst (λ (x : MapKind). IsFault x before (line ∷ rest)) (sym large.0) (
      name_of_side side,
      decimal told.digits,
      wants,
      record { digits = told.digits; words = told.words_are; are_digits = told.digits_are; value = refl },
      large.1,
    )
  ]
]

-- ---- what is found of a fault, but that no map goes on so
pub record Found (lines : List (List ℕ)) (fault : Fault) : Type 0 where
  pub before : List (List ℕ)
  pub rest : List (List ℕ)
  pub parts : lines ≡ before ++ rest
  pub place : fault.line ≡ length before + 1
  pub begins : Begins before
  pub kind : IsFault fault.kind before rest

-- the second line
either_wanted : (start : List ℕ) (side : Side) → WantsSide (start ∷ []) (name_of_side side)
either_wanted start Height = inl refl
either_wanted start Width = inr refl

either_only : (start : List ℕ) (line name : List ℕ) (n : ℕ) → WantsSide (start ∷ []) name → TellsSide name n line → name ≡ name_of_side (side_named (words_of line))
either_only start line name n (inl h) t = h ∙ sym (ap (λ (words : List (List ℕ)). name_of_side (side_named words)) (t.words ∙ ap (λ (w : List ℕ). w ∷ t.digits ∷ []) h))
either_only start line name n (inr h) t = h ∙ sym (ap (λ (words : List (List ℕ)). name_of_side (side_named words)) (t.words ∙ ap (λ (w : List ℕ). w ∷ t.digits ∷ []) h))

some_side_err : (side : Side) (r : Result ℕ MapKind) (k : MapKind) → some_side side r ≡ Err k → r ≡ Err k
some_side_err side (Ok m) k e = absurd cc
some_side_err side (Err kind) k e = let h : kind ≡ k = cc in ap (λ (x : MapKind). Err x) h

-- the third line
other_wanted : (start second : List ℕ) (side : Side) (n : ℕ) → IsSide (name_of_side side) n second → WantsSide (start ∷ second ∷ []) (name_of_side (other_side side))
other_wanted start second Height n is = inl (n, is, refl)
other_wanted start second Width n is = inr (n, is, refl)

first_word : List (List ℕ) → List ℕ
first_word [] = []
first_word (word ∷ words) = word

two_names : (n m : ℕ) (second : List ℕ) → IsSide (codes "height") n second → IsSide (codes "width") m second → ⊥
unfolding first_word
two_names n m second a b =
    let same : first_word (words_of second) ≡ codes "height" = ap first_word a.words in
    let other : first_word (words_of second) ≡ codes "width" = ap first_word b.words in
    let both : codes "height" ≡ codes "width" = sym same ∙ other in
    absurd cc

other_only : (start second : List ℕ) (side : Side) (m : ℕ) (name : List ℕ) → IsSide (name_of_side side) m second → WantsSide (start ∷ second ∷ []) name → name ≡ name_of_side (other_side side)
other_only start second Height m name is (inl h) = h.2
other_only start second Height m name is (inr h) = absurd (two_names m h.0 second is h.1)
other_only start second Width m name is (inl h) = absurd (two_names h.0 m second h.1 is)
other_only start second Width m name is (inr h) = h.2

-- a line of the head that has one form
form_fault : (before rest : List (List ℕ)) (k : MapKind) → length before < 4 → TellsNoSide before rest → k ≡ Head → IsFault k before rest
form_fault before rest k early none head = subst (λ (x : MapKind). IsFault x before rest) (sym head) (early, none)

first_found : (line : List ℕ) (x : Side × ℕ) → first_side_line line ≡ Ok x → IsSide (name_of_side x.0) x.1 line
first_found line x e =
    let a = some_side_ok (side_named (words_of line)) (side_line (side_named (words_of line)) line) x.0 x.1 e in
    subst (λ (side : Side). IsSide (name_of_side side) x.1 line) a.0 (side_found (side_named (words_of line)) x.1 line a.1)

head_fault : (lines : List (List ℕ)) (f : Fault) → head_of (record { lines = lines; count = 0 }) ≡ Err f → Found lines f
unfolding head_of
head_fault lines f e =
    let u : Unread = record { lines = lines; count = 0 } in
    elim (bind_err (line_by Head type_line u) (λ start. line_by Head first_side_line start.1 >>= λ first. line_by Head (side_line (other_side first.0.0)) first.1 >>= λ second. line_by Head map_line second.1 >>= λ last. Ok (sides_by first.0.0 first.0.1 second.0, last.1)) f e) [
      | inl a ↦ (
          let l = line_err Head type_line 0 lines f a in
          elim l.1 [
            | inl none ↦ record { before = []; rest = []; parts = none.0; place = l.0; begins = nothing_begins; kind = form_fault [] [] f.kind (omega arith) tt none.1 }
            | inr r ↦ record { before = []; rest = r.line ∷ r.rest; parts = r.lines_are; place = l.0; begins = nothing_begins; kind = form_fault [] (r.line ∷ r.rest) f.kind (omega arith) (λ name n w t. w) (type_err (words_of r.line) f.kind r.says) }
          ])
      | inr a ↦ (
          let l1 = line_ok Head type_line 0 lines a.0.0 a.0.1 a.1 in
          let t = type_found (words_of l1.line) l1.says in
          let c1 : a.0.1.count ≡ 0 + 1 = l1.count in
          let p1 : lines ≡ l1.line ∷ a.0.1.lines = l1.lines in
          elim (bind_err (line_by Head first_side_line a.0.1) (λ first. line_by Head (side_line (other_side first.0.0)) first.1 >>= λ second. line_by Head map_line second.1 >>= λ last. Ok (sides_by first.0.0 first.0.1 second.0, last.1)) f a.2) [
            | inl b ↦ (
                let l = line_err Head first_side_line a.0.1.count a.0.1.lines f b in
                let place : f.line ≡ 1 + 1 = omega (arith, l.0, c1) in
                elim l.1 [
                  | inl none ↦ record { before = l1.line ∷ []; rest = []; parts = p1 ∙ ap (λ (ls : List (List ℕ)). l1.line ∷ ls) none.0; place = place; begins = start_begins t.0 l1.line t.1; kind = form_fault (l1.line ∷ []) [] f.kind (omega arith) tt none.1 }
                  | inr r ↦ record {
                    before = l1.line ∷ [];
                    rest = r.line ∷ r.rest;
                    parts = p1 ∙ ap (λ (ls : List (List ℕ)). l1.line ∷ ls) r.lines_are;
                    place = place;
                    begins = start_begins t.0 l1.line t.1;
                    kind = side_fault (l1.line ∷ []) (side_named (words_of r.line)) r.line r.rest f.kind (omega arith) (either_wanted l1.line (side_named (words_of r.line))) (either_only l1.line r.line)
                        (some_side_err (side_named (words_of r.line)) (side_line (side_named (words_of r.line)) r.line) f.kind r.says);
                  }
                ])
            | inr b ↦ (
                let l2 = line_ok Head first_side_line a.0.1.count a.0.1.lines b.0.0 b.0.1 b.1 in
                let s2 = first_found l2.line b.0.0 l2.says in
                let c2 : b.0.1.count ≡ a.0.1.count + 1 = l2.count in
                let p2 : lines ≡ l1.line ∷ l2.line ∷ b.0.1.lines = p1 ∙ ap (λ (ls : List (List ℕ)). l1.line ∷ ls) l2.lines in
                elim (bind_err (line_by Head (side_line (other_side b.0.0.0)) b.0.1) (λ second. line_by Head map_line second.1 >>= λ last. Ok (sides_by b.0.0.0 b.0.0.1 second.0, last.1)) f b.2) [
                  | inl c ↦ (
                      let l = line_err Head (side_line (other_side b.0.0.0)) b.0.1.count b.0.1.lines f c in
                      let place : f.line ≡ 2 + 1 = omega (arith, l.0, c1, c2) in
                      let begins = second_begins b.0.0.0 b.0.0.1 t.0 l1.line l2.line t.1 s2 in
                      elim l.1 [
                        | inl none ↦ record { before = l1.line ∷ l2.line ∷ []; rest = []; parts = p2 ∙ ap (λ (ls : List (List ℕ)). l1.line ∷ l2.line ∷ ls) none.0; place = place; begins = begins; kind = form_fault (l1.line ∷ l2.line ∷ []) [] f.kind (omega arith) tt none.1 }
                        | inr r ↦ record {
                          before = l1.line ∷ l2.line ∷ [];
                          rest = r.line ∷ r.rest;
                          parts = p2 ∙ ap (λ (ls : List (List ℕ)). l1.line ∷ l2.line ∷ ls) r.lines_are;
                          place = place;
                          begins = begins;
                          kind = side_fault (l1.line ∷ l2.line ∷ []) (other_side b.0.0.0) r.line r.rest f.kind (omega arith) (other_wanted l1.line l2.line b.0.0.0 b.0.0.1 s2) (λ name n w told. other_only l1.line l2.line b.0.0.0 b.0.0.1 name s2 w) r.says;
                        }
                      ])
                  | inr c ↦ (
                      let l3 = line_ok Head (side_line (other_side b.0.0.0)) b.0.1.count b.0.1.lines c.0.0 c.0.1 c.1 in
                      let s3 = side_found (other_side b.0.0.0) c.0.0 l3.line l3.says in
                      let c3 : c.0.1.count ≡ b.0.1.count + 1 = l3.count in
                      let p3 : lines ≡ l1.line ∷ l2.line ∷ l3.line ∷ c.0.1.lines = p2 ∙ ap (λ (ls : List (List ℕ)). l1.line ∷ l2.line ∷ ls) l3.lines in
                      elim (bind_err (line_by Head map_line c.0.1) (λ last. Ok (sides_by b.0.0.0 b.0.0.1 c.0.0, last.1)) f c.2) [
                        | inl d ↦ (
                            let l = line_err Head map_line c.0.1.count c.0.1.lines f d in
                            let place : f.line ≡ 3 + 1 = omega (arith, l.0, c1, c2, c3) in
                            let begins = third_begins b.0.0.0 b.0.0.1 c.0.0 t.0 l1.line l2.line l3.line t.1 s2 s3 in
                            elim l.1 [
                              | inl none ↦ record { before = l1.line ∷ l2.line ∷ l3.line ∷ []; rest = []; parts = p3 ∙ ap (λ (ls : List (List ℕ)). l1.line ∷ l2.line ∷ l3.line ∷ ls) none.0; place = place; begins = begins; kind = form_fault (l1.line ∷ l2.line ∷ l3.line ∷ []) [] f.kind (omega arith) tt none.1 }
                              | inr r ↦ record { before = l1.line ∷ l2.line ∷ l3.line ∷ []; rest = r.line ∷ r.rest; parts = p3 ∙ ap (λ (ls : List (List ℕ)). l1.line ∷ l2.line ∷ l3.line ∷ ls) r.lines_are; place = place; begins = begins; kind = form_fault (l1.line ∷ l2.line ∷ l3.line ∷ []) (r.line ∷ r.rest) f.kind (omega arith) (λ name n w t. w) (map_err (words_of r.line) f.kind r.says) }
                            ])
                        | inr d ↦ absurd (let bad : ok_of (sides_by b.0.0.0 b.0.0.1 c.0.0, d.0.1) ≡ Err f = d.2 in cc)
                      ])
                ])
          ])
    ]
  where
    ok_of : Sides × Unread → Result (Sides × Unread) Fault
    ok_of x = Ok x

-- ---- rows
row_found : (width : ℕ) (line : List ℕ) (row : List Bool) → row_line width line ≡ Ok row → IsRow width line
row_found width line row e =
    let a = letters (list_all is_letter (take width line)) (eqb (length line) width) (map is_passable line) row e in
    let columns : length line ≡ width = eqb-true _ _ a.1 in
    let whole : take width line ≡ line = take_all width line (omega arith) in
    record { columns = columns; letters = subst (λ (l : List ℕ). list_all is_letter l ≡ true) whole a.0 }
  where
    letters : (b c : Bool) (x y : List Bool) → cond b (cond c (Ok x) (Err RowLength)) (Err Letter) ≡ Ok y → (b ≡ true) × (c ≡ true)
    letters true true x y e = (refl, refl)
    letters true false x y e = absurd cc
    letters false c x y e = absurd cc

row_err : (width : ℕ) (line : List ℕ) (k : MapKind) → row_line width line ≡ Err k
    → ((k ≡ Letter) × (list_all is_letter (take width line) ≡ false)) ⊎ ((k ≡ RowLength) × (list_all is_letter (take width line) ≡ true) × (length line ≢ width))
row_err width line k e = letters (list_all is_letter (take width line)) (eqb (length line) width) (map is_passable line) (eqb-false _ _) e
  where
    letters : (b c : Bool) (x : List Bool) → (c ≡ false → length line ≢ width) → cond b (cond c (Ok x) (Err RowLength)) (Err Letter) ≡ Err k → ((k ≡ Letter) × (b ≡ false)) ⊎ ((k ≡ RowLength) × (b ≡ true) × (length line ≢ width))
    letters true true x d e = absurd cc
    letters true false x d e = inr ((let h : k ≡ RowLength = cc in h), refl, d refl)
    letters false c x d e = inl ((let h : k ≡ Letter = cc in h), refl)

abbrev RowRefused : ℕ → MapKind → List (List ℕ) → Type 0
RowRefused width kind rest = ((rest ≡ []) × (kind ≡ RowsMissing)) ⊎ Refused (row_line width) rest kind

record RowsFault (height width : ℕ) (count : ℕ) (lines : List (List ℕ)) (f : Fault) : Type 0 where
  rows : List (List ℕ)
  rest : List (List ℕ)
  parts : lines ≡ rows ++ rest
  are_rows : AllByRecursion (IsRow width) rows
  fewer : length rows < height
  place : f.line ≡ count + length rows + 1
  refused : RowRefused width f.kind rest

rows_fault : (height width : ℕ) (u : Unread) (f : Fault) → rows_of height width u ≡ Err f → RowsFault height width u.count u.lines f
unfolding rows_of
rows_fault zero width u f e = absurd cc
rows_fault (suc height) width u f e =
    elim (bind_err (line_by RowsMissing (row_line width) u) (λ row. rows_of height width row.1 >>= λ rest. Ok (row.0 ++ rest.0, rest.1)) f e) [
      | inl a ↦ (let l = line_err RowsMissing (row_line width) u.count u.lines f a in
          record { rows = []; rest = u.lines; parts = refl; are_rows = tt; fewer = omega arith; place = omega (arith, l.0); refused = l.1 })
      | inr a ↦ elim (bind_err (rows_of height width a.0.1) (λ rest. Ok (a.0.0 ++ rest.0, rest.1)) f a.2) [
        | inl b ↦ (
            let l = line_ok RowsMissing (row_line width) u.count u.lines a.0.0 a.0.1 a.1 in
            let c : a.0.1.count ≡ u.count + 1 = l.count in
            let r = rows_fault height width a.0.1 f b in
            let p : f.line ≡ a.0.1.count + length r.rows + 1 = r.place in
            record {
              rows = l.line ∷ r.rows;
              rest = r.rest;
              parts = l.lines ∙ ap (λ (ls : List (List ℕ)). l.line ∷ ls) r.parts;
              are_rows = (row_found width l.line a.0.0 l.says, r.are_rows);
              fewer = (let few : length r.rows < height = r.fewer in omega arith);
              place = omega arith;
              refused = r.refused;
            })
        | inr b ↦ absurd (let bad : ok_of (a.0.0 ++ b.0.0, b.0.1) ≡ Err f = b.2 in cc)
      ]
    ]
  where
    ok_of : List Bool × Unread → Result (List Bool × Unread) Fault
    ok_of x = Ok x

row_kind : (width : ℕ) (before rest : List (List ℕ)) (k : MapKind) → WantsRow width before → RowRefused width k rest → IsFault k before rest
row_kind width before rest k wants (inl none) =
    subst (λ (ls : List (List ℕ)). IsFault k before ls) (sym none.0) (subst (λ (x : MapKind). IsFault x before []) (sym none.1) (width, wants))
row_kind width before rest k wants (inr r) =
    subst (λ (ls : List (List ℕ)). IsFault k before ls) (sym r.lines_are) (elim (row_err width r.line k r.says) [
      | inl a ↦ subst (λ (x : MapKind). IsFault x before (r.line ∷ r.rest)) (sym a.0) (width, wants, a.1)
      | inr a ↦ subst (λ (x : MapKind). IsFault x before (r.line ∷ r.rest)) (sym a.0) (width, wants, a.1, a.2)
    ])

-- ---- blanks
record BlanksFault (count : ℕ) (lines : List (List ℕ)) (f : Fault) : Type 0 where
  front : List (List ℕ)
  line : List ℕ
  rest : List (List ℕ)
  parts : lines ≡ front ++ line ∷ rest
  are_blank : AllByRecursion IsBlank front
  text : list_all is_blank line ≡ false
  place : f.line ≡ count + length front + 1
  kind : f.kind ≡ TextAfter

blank_err : (b : Bool) (k : MapKind) → cond b (said (Ok tt)) (said (Err TextAfter)) ≡ Err k → (b ≡ false) × (k ≡ TextAfter)
blank_err true k e = absurd cc
blank_err false k e = (refl, cc)

blank_ok : (b : Bool) (x : Unit) → cond b (said (Ok tt)) (said (Err TextAfter)) ≡ Ok x → b ≡ true
blank_ok true x e = refl
blank_ok false x e = absurd cc

blanks_fault : (count : ℕ) (lines : List (List ℕ)) (f : Fault) → blanks_of count lines ≡ Err f → BlanksFault count lines f
unfolding blanks_of
blanks_fault count [] f e = absurd cc
blanks_fault count (line ∷ lines) f e =
    elim (bind_err (located (record { lines = lines; count = count + 1 }) (blank_line line)) (λ blank. blanks_of (count + 1) lines) f e) [
      | inl a ↦ (
          let l = located_err (record { lines = lines; count = count + 1 }) (blank_line line) f a in
          let b = blank_err (list_all is_blank line) f.kind l.0 in
          record { front = []; line = line; rest = lines; parts = refl; are_blank = tt; text = b.0; place = omega (arith, l.1); kind = b.1 })
      | inr a ↦ (
          let r = blanks_fault (count + 1) lines f a.2 in
          let s = located_ok (record { lines = lines; count = count + 1 }) a.0.1 (blank_line line) a.0.0 a.1 in
          let p : f.line ≡ count + 1 + length r.front + 1 = r.place in
          record { front = line ∷ r.front; line = r.line; rest = r.rest; parts = ap (λ (ls : List (List ℕ)). line ∷ ls) r.parts; are_blank = (blank_ok (list_all is_blank line) a.0.0 s.0, r.are_blank); text = r.text; place = omega arith; kind = r.kind })
    ]

-- ---- all of it
is_head : (u after : Unread) (size : Sides) → (h : HeadRead u after size) → IsHead size.width size.height h.start h.second h.third h.fourth
is_head u after size h = record { kind = h.kind; is_type = h.is_type; sides = h.sides; is_map = h.is_map }

rows_place : (lines : List (List ℕ)) (f : Fault) (size : Sides) (after : Unread) → HeadRead (record { lines = lines; count = 0 }) after size → RowsFault size.height size.width after.count after.lines f → Found lines f
rows_place lines f size after h r =
    let u : Unread = record { lines = lines; count = 0 } in
    let head = is_head u after size h in
    let few : length r.rows < size.height = r.fewer in
    let c : after.count ≡ 0 + 4 = h.count in
    let p : f.line ≡ after.count + length r.rows + 1 = r.place in
    let before = h.start ∷ h.second ∷ h.third ∷ h.fourth ∷ r.rows in
    record {
      before = before;
      rest = r.rest;
      parts = h.parts ∙ ap (λ (ls : List (List ℕ)). h.start ∷ h.second ∷ h.third ∷ h.fourth ∷ ls) r.parts;
      place = omega arith;
      begins = completed size.width size.height h.start h.second h.third h.fourth r.rows head r.are_rows (omega arith);
      kind = row_kind size.width before r.rest f.kind (record { start = h.start; second = h.second; third = h.third; fourth = h.fourth; rows = r.rows; height = size.height; parts = refl; head = head; are_rows = r.are_rows; fewer = few }) r.refused;
    }

blanks_place : (lines : List (List ℕ)) (f : Fault) (size : Sides) (middle after : Unread) (cells : List Bool) → HeadRead (record { lines = lines; count = 0 }) middle size → RowsRead size.height size.width middle after cells → BlanksFault after.count after.lines f → Found lines f
blanks_place lines f size middle after cells h r b =
    let c : middle.count ≡ 0 + 4 = h.count in
    let d : after.count ≡ middle.count + length r.rows = r.count in
    let p : f.line ≡ after.count + length b.front + 1 = b.place in
    let size_is : length (r.rows ++ b.front) ≡ length r.rows + length b.front = length-append r.rows b.front in
    let before = h.start ∷ h.second ∷ h.third ∷ h.fourth ∷ (r.rows ++ b.front) in
    let floor : Floor = record { width = size.width; height = size.height; walkable = flat_map (map is_passable) r.rows } in
    let is : IsMap before floor = record {
      start = h.start;
      second = h.second;
      third = h.third;
      fourth = h.fourth;
      rows = r.rows;
      rest = b.front;
      parts = refl;
      kind = h.kind;
      is_type = h.is_type;
      sides = h.sides;
      is_map = h.is_map;
      height = r.height_is;
      are_rows = r.are_rows;
      cells = refl;
      are_blank = b.are_blank;
    } in
    record {
      before = before;
      rest = b.line ∷ b.rest;
      parts = h.parts ∙ ap (λ (ls : List (List ℕ)). h.start ∷ h.second ∷ h.third ∷ h.fourth ∷ ls) (r.parts ∙ ap (λ (ls : List (List ℕ)). r.rows ++ ls) b.parts ∙ sym (append_assoc r.rows b.front (b.line ∷ b.rest)));
      place = omega arith;
      begins = whole_begins before floor is;
      kind = subst (λ (x : MapKind). IsFault x before (b.line ∷ b.rest)) (sym b.kind) (floor, is, λ blank. (let no : list_all is_blank b.line ≡ false = b.text in let yes : list_all is_blank b.line ≡ true = blank in absurd cc));
    }

found : (lines : List (List ℕ)) (f : Fault) → map_of (record { lines = lines; count = 0 }) ≡ Err f → Found lines f
unfolding map_of
found lines f e =
    let u : Unread = record { lines = lines; count = 0 } in
    elim (bind_err (head_of u) (λ head. rows_of head.0.height head.0.width head.1 >>= λ rows. blanks_of rows.1.count rows.1.lines >>= λ rest. Ok (record { width = head.0.width; height = head.0.height; walkable = rows.0 })) f e) [
      | inl a ↦ head_fault lines f a
      | inr a ↦ (
          let h = head_found u a.0 a.1 in
          elim (bind_err (rows_of a.0.0.height a.0.0.width a.0.1) (λ rows. blanks_of rows.1.count rows.1.lines >>= λ rest. Ok (record { width = a.0.0.width; height = a.0.0.height; walkable = rows.0 })) f a.2) [
            | inl b ↦ rows_place lines f a.0.0 a.0.1 h (rows_fault a.0.0.height a.0.0.width a.0.1 f b)
            | inr b ↦ elim (bind_err (blanks_of b.0.1.count b.0.1.lines) (λ rest. Ok (record { width = a.0.0.width; height = a.0.0.height; walkable = b.0.0 })) f b.2) [
              | inl c ↦ blanks_place lines f a.0.0 a.0.1 b.0.1 b.0.0 h (rows_found a.0.0.height a.0.0.width a.0.1 b.0 b.1) (blanks_fault b.0.1.count b.0.1.lines f c)
              | inr c ↦ absurd (let bad : ok_of (record { width = a.0.0.width; height = a.0.0.height; walkable = b.0.0 }) ≡ Err f = c.2 in cc)
            ]
          ])
    ]
  where
    ok_of : Floor → Result Floor Fault
    ok_of x = Ok x

-- ---- and no map goes on so
read_twice : (lines : List (List ℕ)) (f : Fault) (floor : Floor) → map_of (record { lines = lines; count = 0 }) ≡ Err f → map_of (record { lines = lines; count = 0 }) ≡ Ok floor → ⊥
read_twice lines f floor e h = let both : err_of f ≡ Ok floor = sym e ∙ h in absurd cc
  where
    err_of : Fault → Result Floor Fault
    err_of x = Err x

wrong_here : (before rest : List (List ℕ)) (f : Fault) → f.line ≡ length before + 1 → map_of (record { lines = before ++ rest; count = 0 }) ≡ Err f → IsWrong before rest
wrong_here before [] f place e = λ floor is. read_twice before f floor (subst (λ (ls : List (List ℕ)). map_of (record { lines = ls; count = 0 }) ≡ Err f) (append-nil before) e) (map_is_read before floor is)
wrong_here before (line ∷ rest) f place e = λ begins.
    let front = before ++ line ∷ [] in
    let size : length front ≡ length before + 1 = length-append before (line ∷ []) in
    let all : before ++ line ∷ rest ≡ front ++ rest = sym (append_assoc before (line ∷ []) rest) in
    let here : map_of (record { lines = front ++ rest; count = 0 }) ≡ Err f = subst (λ (ls : List (List ℕ)). map_of (record { lines = ls; count = 0 }) ≡ Err f) all e in
    read_twice (front ++ begins.more) f begins.floor (fault_is_first front rest begins.more f (omega (arith, place, size)) here) (map_is_read (front ++ begins.more) begins.floor begins.is_map)

pub first_fault : (lines : List (List ℕ)) (f : Fault) → map_of (record { lines = lines; count = 0 }) ≡ Err f → IsFirstFault lines f
first_fault lines f e =
    let x = found lines f e in
    record {
      before = x.before;
      rest = x.rest;
      parts = x.parts;
      place = x.place;
      begins = x.begins;
      wrong = wrong_here x.before x.rest f x.place (subst (λ (ls : List (List ℕ)). map_of (record { lines = ls; count = 0 }) ≡ Err f) x.parts e);
      kind = x.kind;
    }
