-- the paths of a whole fleet
use Rattle.std.proofs.Common.{◌≢◌, ℕ, ◌<◌, ◌∙◌, inl, inr, List, [], Bool, length, map, sym}
use Rattle.std.proofs.Math.ListN.{set}
use Rattle.std.specs.Prelude.{All, Contains}
use Rattle.std.proofs.lemmas.List.{get_or-set_same, get_or-set_other, length-set, get_or-map, length-map, get_or_default}
use Rattle.std.proofs.lemmas.Bool.{cases_eq}
use Rattle.wh_grid.specs.declared.cell.Cell.{Cell}
use Rattle.wh_path.specs.Paths.{end, advanced, path_of, others, ends, IsFree, AllFree}
use Rattle.wh_path.proofs.Freedom.{free-sym, free-advanced}
use Rattle.wh_grid.proofs.Removed.{all_removed-at, all_removed-from}

-- a cell that is no other's end
pub no_end-at : (paths : List (List Cell)) (agent : ℕ) (c : Cell) → (Contains (ends (others paths agent)) c → ⊥) →
    (j : ℕ) → j < length paths → j ≢ agent → end (path_of paths j) ≢ c
no_end-at paths agent c none j h ne =
    let P : List Cell → Type 0 = λ p. end p ≢ c in
    let all : All P (others paths agent) = λ k d l e. none (k, rw length-map l, get_or-map end (others paths agent) k d c l ∙ e) in
    all_removed-at P paths agent j [] all h ne

pub no_end-from : (paths : List (List Cell)) (agent : ℕ) (c : Cell) →
    ((j : ℕ) → j < length paths → j ≢ agent → end (path_of paths j) ≢ c) → Contains (ends (others paths agent)) c → ⊥
no_end-from paths agent c each has =
    let P : List Cell → Type 0 = λ p. end p ≢ c in
    let all : All P (others paths agent) = all_removed-from P paths agent (λ j d h ne. rw (get_or_default paths j d [] h) (each j h ne)) in
    let h : has.0 < length (others paths agent) = rw length-map at has.1 in
    all has.0 [] h (sym (get_or-map end (others paths agent) has.0 [] c h) ∙ has.2)

pub all_free-advanced : (nofollow : Bool) (paths : List (List Cell)) → AllFree nofollow paths → AllFree nofollow (map advanced paths)
all_free-advanced nofollow paths free = record {
  pair = λ i j hi hj ne.
      let i_in : i < length paths = rw length-map at hi in
      let j_in : j < length paths = rw length-map at hj in
      rw (get_or-map advanced paths i [] [] i_in, get_or-map advanced paths j [] [] j_in)
      (free-advanced nofollow _ _ (free.pair i j i_in j_in ne));
}

pub all_free-adopted : (nofollow : Bool) (paths : List (List Cell)) (agent : ℕ) (path : List Cell) → agent < length paths →
    All (λ other. IsFree nofollow path other) (others paths agent) → AllFree nofollow paths → AllFree nofollow (set paths agent path)
all_free-adopted nofollow paths agent path known others_free free =
    let each : (j : ℕ) → j < length paths → j ≢ agent → IsFree nofollow path (path_of paths j) = λ j h ne.
    all_removed-at (λ other. IsFree nofollow path other) paths agent j [] others_free h ne in
    record {
      pair = λ i j hi hj ne.
          let i_in : i < length paths = rw length-set at hi in
          let j_in : j < length paths = rw length-set at hj in
          elim (cases_eq i agent) [
            | inl i_is ↦ elim (cases_eq j agent) [
              | inl j_is ↦ absurd (ne (i_is ∙ sym j_is))
              | inr j_not ↦ rw (i_is, get_or-set_same paths agent path [] known, get_or-set_other paths agent j path [] j_not) (each j j_in j_not)
            ]
            | inr i_not ↦ elim (cases_eq j agent) [
              | inl j_is ↦ rw (j_is, get_or-set_same paths agent path [] known, get_or-set_other paths agent i path [] i_not)
                  (free-sym nofollow _ _ (each i i_in i_not))
              | inr j_not ↦ rw (get_or-set_other paths agent i path [] i_not, get_or-set_other paths agent j path [] j_not) (free.pair i j i_in j_in ne)
            ]
          ];
    }
