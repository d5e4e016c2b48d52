-- the stays at all places
use Rattle.std.proofs.Common.{◌≡◌, ◌≢◌, ℕ, ◌+◌, ◌-◌, ◌<◌, ◌≤◌, ◌↔◌, ◌⊎◌, inl, inr, ◌∙◌, List, [], length, set, get_or, get_or-set_same, get_or-set_other, sym, ap, subst, arith}
use Rattle.std.proofs.lemmas.Bool.{cases_lt, cases_eq}
use Rattle.std.proofs.lemmas.List.{length-set, get_or_default}
use Rattle.wh_grid.specs.declared.cell.Cell.{Cell}
use Rattle.wh_path.specs.Paths.{at, cell_at, last_index}
use Rattle.wh_path.proofs.AtLemmas.{at-within, at-beyond}
use Rattle.wh_timetable.specs.declared.stay.Stay.{Stay}
use Rattle.wh_timetable.specs.Stays.{IsBy, IsThere}
use Rattle.wh_timetable.specs.Places.{place, stays_for, AreSame, IsLeft, IsNoted}

-- what one place's new stays tell of its cells, and the old ones of all others, holds of each cell
pub each_cell : (Q : Cell → List Stay → List Stay → Type 0) (places : List (List Stay)) (p : ℕ) (d new : List Stay) → p < length places →
    ((c : Cell) → place (length places) c ≡ p → Q c (get_or places p d) new) →
    ((c : Cell) (stays : List Stay) → place (length places) c ≢ p → Q c stays stays) →
    (c : Cell) → Q c (stays_for places c) (stays_for (set places p new) c)
each_cell Q places p d new h here else c =
    let size : length (set places p new) ≡ length places = length-set places p new in
    subst (λ n. Q c (stays_for places c) (get_or (set places p new) (place n c) [])) (sym size)
    (elim (cases_eq (place (length places) c) p) [
      | inl e ↦ subst (Q c (stays_for places c)) (sym (ap (λ k. get_or (set places p new) k []) e ∙ get_or-set_same places p new [] h))
          (subst (λ stays. Q c stays new) (get_or_default places p d [] h ∙ sym (ap (λ k. get_or places k []) e)) (here c e))
      | inr ne ↦ subst (Q c (stays_for places c)) (sym (get_or-set_other places p (place (length places) c) new [] ne)) (else c (stays_for places c) ne)
    ])

pub same_same : (now : ℕ) (a b c : List (List Stay)) → AreSame now a b → AreSame now b c → AreSame now a c
same_same now a b c f g i d t late = (
  λ there. (f i d t late).0 ((g i d t late).0 there),
  λ there. (g i d t late).1 ((f i d t late).1 there),
)

pub left_left : (agent now : ℕ) (a b c : List (List Stay)) → IsLeft agent now a b → IsLeft agent now b c → IsLeft agent now a c
left_left agent now a b c f g = record {
  others = λ i d t late ne. (
    λ there. (f.others i d t late ne).0 ((g.others i d t late ne).0 there),
    λ there. (g.others i d t late ne).1 ((f.others i d t late ne).1 there),
  );
  fewer = λ d t late there. f.fewer d t late (g.fewer d t late there);
}

-- where the path is at its k-th time, and from its last one on
pub there_now : (path : List Cell) (now k : ℕ) → k < length path → (t : ℕ) → now + k ≤ t → t < now + k + 1 → at path (t - now) ≡ cell_at path k
there_now path now k h t from until =
    let same : t - now ≡ k = omega arith in
    ap (at path) same ∙ at-within path k h

pub there_last : (path : List Cell) (now k : ℕ) → 1 ≤ length path → k ≡ last_index path → (t : ℕ) → now + k ≤ t → at path (t - now) ≡ cell_at path k
there_last path now k some last t from = at-beyond path (t - now) (omega arith) ∙ ap (at path) (sym last) ∙ at-within path k (omega arith)

-- nothing is noted before a path's first step
pub noted_none : (path : List Cell) (agent now : ℕ) (old : List (List Stay)) → IsNoted path agent now (now + 0) old old
noted_none path agent now old i c t late = (
  λ there. inl there,
  λ was. elim was [ inl there ↦ there | inr p ↦ absurd (let soon = p.soon in omega arith) ],
)

-- one more stay of a path
pub noted_more : (path : List Cell) (agent now until : ℕ) (old mid new : List (List Stay)) (stay : Stay) → now ≤ stay.from → stay.agent ≡ agent → stay.until ≡ until → stay.from ≤ until →
    ((t : ℕ) → stay.from ≤ t → t < until → at path (t - now) ≡ stay.cell) →
    IsNoted path agent now stay.from old mid →
    ((i : ℕ) (c : Cell) (t : ℕ) → IsThere (stays_for new c) i c t ↔ (IsThere (stays_for mid c) i c t ⊎ IsBy stay i c t)) →
    IsNoted path agent now until old new
noted_more path agent now until old mid new stay late_from who end order there noted put i c t late = (
  λ is. elim ((put i c t).0 is) [
    | inl was ↦ elim ((noted i c t late).0 was) [
      | inl before ↦ inl before
      | inr p ↦ inr (record { who = p.who; soon = (let soon = p.soon in omega arith); there = p.there })
    ]
    | inr by ↦ (let soon : t < until = subst (λ n. t < n) end by.still in inr (record { who = sym by.who ∙ who; soon = soon; there = there t by.since soon ∙ by.here }))
  ],
  λ was. elim was [
    | inl before ↦ (put i c t).1 (inl ((noted i c t late).1 (inl before)))
    | inr p ↦ elim (cases_lt t stay.from) [
      | inl b ↦ (put i c t).1 (inl ((noted i c t late).1 (inr (record { who = p.who; soon = b; there = p.there }))))
      | inr b ↦ (put i c t).1 (inr (record { who = who ∙ sym p.who; here = sym (there t b p.soon) ∙ p.there; since = b; still = subst (λ n. t < n) (sym end) p.soon }))
    ]
  ],
)

-- an agent's stays are dropped at one place
pub left_at : (agent now : ℕ) (places : List (List Stay)) (p : ℕ) (d new : List Stay) → p < length places →
    ((i : ℕ) (c : Cell) (t : ℕ) → now ≤ t → i ≢ agent → IsThere new i c t ↔ IsThere (get_or places p d) i c t) →
    ((c : Cell) (t : ℕ) → IsThere new agent c t → ⊥) → IsLeft agent now places (set places p new)
left_at agent now places p d new h others gone = record {
  others = λ i c t late ne. each_cell (λ e old anew. IsThere anew i e t ↔ IsThere old i e t) places p d new h (λ e f. others i e t late ne) (λ e stays ne. (λ x. x, λ x. x)) c;
  fewer = λ c t late. each_cell (λ e old anew. IsThere anew agent e t → IsThere old agent e t) places p d new h (λ e f there. absurd (gone e t there)) (λ e stays ne x. x) c;
}

pub gone_at : (agent : ℕ) (places : List (List Stay)) (p : ℕ) (new : List Stay) → p < length places → (c : Cell) → place (length places) c ≡ p →
    ((t : ℕ) → IsThere new agent c t → ⊥) → (t : ℕ) → IsThere (stays_for (set places p new) c) agent c t → ⊥
gone_at agent places p new h c e gone t there =
    let size : length (set places p new) ≡ length places = length-set places p new in
    let same : stays_for (set places p new) c ≡ new = ap (λ n. get_or (set places p new) (place n c) []) size ∙ ap (λ k. get_or (set places p new) k []) e ∙ get_or-set_same places p new [] h in
    gone t (subst (λ stays. IsThere stays agent c t) same there)

-- the stays that are over are dropped at one place
pub same_at : (now : ℕ) (places : List (List Stay)) (p : ℕ) (d new : List Stay) → p < length places →
    ((i : ℕ) (c : Cell) (t : ℕ) → now ≤ t → IsThere new i c t ↔ IsThere (get_or places p d) i c t) → AreSame now places (set places p new)
same_at now places p d new h same i c t late = each_cell (λ e old anew. IsThere anew i e t ↔ IsThere old i e t) places p d new h (λ e f. same i e t late) (λ e stays ne. (λ x. x, λ x. x)) c

-- a stay is put at its place
pub put_there : (places : List (List Stay)) (p : ℕ) (d new : List Stay) (stay : Stay) → p < length places → place (length places) stay.cell ≡ p →
    ((i : ℕ) (c : Cell) (t : ℕ) → IsThere new i c t ↔ (IsThere (get_or places p d) i c t ⊎ IsBy stay i c t)) →
    (i : ℕ) (c : Cell) (t : ℕ) → IsThere (stays_for (set places p new) c) i c t ↔ (IsThere (stays_for places c) i c t ⊎ IsBy stay i c t)
put_there places p d new stay h here put i c t =
    each_cell (λ e old anew. IsThere anew i e t ↔ (IsThere old i e t ⊎ IsBy stay i e t)) places p d new h (λ e f. put i e t)
    (λ e stays ne. (λ x. inl x, λ was. elim was [ inl x ↦ x | inr by ↦ absurd (ne (ap (place (length places)) (sym by.here) ∙ here)) ])) c
