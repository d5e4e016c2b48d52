-- from the answers of all points to the one verdict
use Rattle.std.proofs.Common.{◌≡◌, ◌≢◌, ℕ, ◌<◌, ◌≤◌, ◌⊎◌, inl, inr, List, Option, Some, None, length, get_or, refl, sym, ap, subst, ◌∙◌, arith}
use Rattle.std.proofs.lemmas.Bool.{cases_lt}
use Rattle.wh_points.specs.Points.{Site, parkings}
use Rattle.wh_points.specs.Layouts.{AreApart}
use Rattle.wh_points.specs.Formed.{IsFormed}
use Rattle.wh_formed.specs.declared.verdict.Verdict.{Verdict}
use Rattle.wh_formed.specs.declared.verdict.Verdict.TheVariants.{Cut, FewParkings, Formed}
use Rattle.wh_formed.specs.Verdicts.{AreJoined, ComesBefore, IsFirstCut, IsVerdict, JoinedBy, cell_of}
use Rattle.wh_formed.specs.Cuts.{AreCuts, IsCutOf}
use Rattle.wh_formed.proofs.JoinLemmas.{has_point, joined_back, number_of_point}

-- the answers before the a-th are none
abbrev pub NoneBefore : List (Option ℕ) → ℕ → Type 0
NoneBefore cuts a = (k : ℕ) (d : Option ℕ) → k < a → get_or cuts k d ≡ None

module _ (site : Site) (cuts : List (Option ℕ)) (all : AreCuts site cuts) where
  joined_before : (a : ℕ) → a ≤ length site.layout.points → NoneBefore cuts a → (k l : ℕ) → k < a → k < l → l < length site.layout.points → AreJoined site k l
  joined_before a inside none k l before order below =
      let cut : IsCutOf site k None = subst (IsCutOf site k) (none k None before) (all.exact k None (omega arith)) in
      cut l order below

  pub first_some : (a b : ℕ) (d : Option ℕ) → a < length cuts → NoneBefore cuts a → get_or cuts a d ≡ Some b → IsFirstCut site a b
  first_some a b d inside none e =
      let within : a < length site.layout.points = omega (arith, all.size) in
      let cut : IsCutOf site a (Some b) = subst (IsCutOf site a) e (all.exact a d within) in
      record {
        in_order = cut.0;
        inside = cut.1;
        cut = cut.2;
        first = λ k l order below earlier.
            elim earlier [
              | inl h ↦ joined_before a (omega arith) none k l h order below
              | inr h ↦ (let same = h.0 in subst (λ i. AreJoined site i l) (sym same) (cut.3 l (omega arith) h.1))
            ];
      }

  -- any two points of different numbers are joined
  all_joined : NoneBefore cuts (length cuts) → (a b : ℕ) → a < length site.layout.points → b < length site.layout.points → a ≢ b → AreJoined site a b
  all_joined none a b a_in b_in apart =
      elim (cases_lt a b) [
        | inl h ↦ joined_before (length cuts) (omega (arith, all.size)) none a b (omega (arith, all.size)) h b_in
        | inr h ↦
            joined_back site (cell_of site.layout b) (cell_of site.layout a)
            (joined_before (length cuts) (omega (arith, all.size)) none b a (omega (arith, all.size)) (omega arith) a_in)
      ]

  pub all_none : length site.layout.agents ≤ parkings site.layout → NoneBefore cuts (length cuts) → IsFormed site
  all_none enough none =
      record {
        enough = enough;
        joined = λ c d c_is d_is differ.
            (let m = number_of_point site.layout c c_is in
            let n = number_of_point site.layout d d_is in
            let apart : m.0 ≢ n.0 = λ e. differ (sym m.2 ∙ (ap (cell_of site.layout) e ∙ n.2)) in
            subst (λ x. JoinedBy site x d) m.2 (subst (λ x. JoinedBy site (cell_of site.layout m.0) x) n.2 (all_joined none m.0 n.0 m.1 n.1 apart)));
      }

-- there is one first cut
pub one_cut : (site : Site) (a b c d : ℕ) → IsFirstCut site a b → IsFirstCut site c d → (a ≡ c) × (b ≡ d)
one_cut site a b c d f h =
    elim (before a b c d) [
      | inl k ↦ absurd (f.cut (h.first a b f.in_order f.inside k))
      | inr (inl k) ↦ absurd (h.cut (f.first c d h.in_order h.inside k))
      | inr (inr e) ↦ e
    ]
  where
    before : (a b c d : ℕ) → ComesBefore a b c d ⊎ (ComesBefore c d a b ⊎ ((a ≡ c) × (b ≡ d)))
    before a b c d =
        elim (cases_lt a c) [
          | inl h ↦ inl (inl h)
          | inr h ↦ elim (cases_lt c a) [
            | inl k ↦ inr (inl (inl k))
            | inr k ↦
                (let e : a ≡ c = omega arith in
                elim (cases_lt b d) [
                  | inl m ↦ inl (inr (e, m))
                  | inr m ↦ elim (cases_lt d b) [ inl n ↦ inr (inl (inr (sym e, n))) | inr n ↦ inr (inr (e, omega arith)) ]
                ])
          ]
        ]

module _ (site : Site) (apart : AreApart site.layout) where
  -- in a well-formed instance no pair is cut
  pub joined_pair : (a b : ℕ) → IsFormed site → a < b → b < length site.layout.points → AreJoined site a b
  joined_pair a b f order below =
      f.joined (cell_of site.layout a) (cell_of site.layout b) (has_point site.layout a (omega arith)) (has_point site.layout b below)
      (apart.cells a b (omega arith) below (λ e. absurd (omega arith)))

  -- and there is one verdict
  pub one_verdict : (v w : Verdict) → IsVerdict site v → IsVerdict site w → v ≡ w
  one_verdict (FewParkings have need) (FewParkings have' need') h k =
      ap (λ n. FewParkings n need) (h.0 ∙ sym k.0) ∙ ap (λ n. FewParkings have' n) (h.1 ∙ sym k.1)
  one_verdict (FewParkings have need) (Cut a b) h k = absurd (let x = h.0 in let y = h.1 in let few = h.2 in let enough = k.0 in omega arith)
  one_verdict (FewParkings have need) Formed h k = absurd (let x = h.0 in let y = h.1 in let few = h.2 in let enough = k.enough in omega arith)
  one_verdict (Cut a b) (FewParkings have need) h k = absurd (let x = k.0 in let y = k.1 in let few = k.2 in let enough = h.0 in omega arith)
  one_verdict (Cut a b) (Cut c d) h k =
      let same = one_cut site a b c d h.1 k.1 in
      ap (λ n. Cut n b) same.0 ∙ ap (λ n. Cut c n) same.1
  one_verdict (Cut a b) Formed h k = absurd (h.1.cut (joined_pair a b k h.1.in_order h.1.inside))
  one_verdict Formed (FewParkings have need) h k = absurd (let x = k.0 in let y = k.1 in let few = k.2 in let enough = h.enough in omega arith)
  one_verdict Formed (Cut a b) h k = absurd (k.1.cut (joined_pair a b h k.1.in_order k.1.inside))
  one_verdict Formed Formed h k = refl
