-- paths that are free of each other stay so one step later
use Rattle.std.proofs.Common.{◌≡◌, ◌+◌, ◌∙◌, inl, inr, List, [], ◌∷◌, Bool, true, false, refl, sym, arith}
use Rattle.wh_grid.specs.declared.cell.Cell.{Cell}
use Rattle.wh_grid.specs.Grids.{Floor}
use Rattle.wh_path.specs.Paths.{end, last_index, advanced, IsFree, IsWalk}
use Rattle.wh_path.proofs.AtLemmas.{at-one, at-advanced, at-beyond, length-advanced}

pub free-sym : (nofollow : Bool) (p q : List Cell) → IsFree nofollow p q → IsFree nofollow q p
free-sym nofollow p q free = record {
  apart = λ k m. free.apart k (sym m);
  no_swap = λ k s. free.no_swap k (sym s.1, sym s.0);
  no_follow = λ rule k f. free.no_follow rule k (elim f [ inl e ↦ inr e | inr e ↦ inl e ]);
}

pub free-advanced : (nofollow : Bool) (p q : List Cell) → IsFree nofollow p q → IsFree nofollow (advanced p) (advanced q)
free-advanced nofollow p q free = record {
  apart = λ k. rw (at-advanced p k, at-advanced q k) (free.apart (k + 1));
  no_swap = λ k. rw (at-advanced p k, at-advanced q (k + 1), at-advanced p (k + 1), at-advanced q k) (free.no_swap (k + 1));
  no_follow = λ rule k. rw (at-advanced p (k + 1), at-advanced q k, at-advanced q (k + 1), at-advanced p k) (free.no_follow rule (k + 1));
}

pub free-unruled : (p q : List Cell) → IsFree true p q → IsFree false p q
free-unruled p q free = record {
  apart = free.apart;
  no_swap = free.no_swap;
  no_follow = λ rule. free.no_follow refl;
}

-- two agents that stay at cells that differ
pub free-resting : (nofollow : Bool) (c d : Cell) → (c ≡ d → ⊥) → IsFree nofollow (c ∷ []) (d ∷ [])
free-resting nofollow c d ne = record {
  apart = λ k e. ne (sym (at-one c k) ∙ e ∙ at-one d k);
  no_swap = λ k s. ne (sym (at-one c k) ∙ s.0 ∙ at-one d (k + 1));
  no_follow = λ rule k f. elim f [
    | inl e ↦ ne (sym (at-one c (k + 1)) ∙ e ∙ at-one d k)
    | inr e ↦ ne (sym (at-one c k) ∙ sym e ∙ at-one d (k + 1))
  ];
}

-- the ends of two free paths differ
pub free-ends : (nofollow : Bool) (p q : List Cell) → IsFree nofollow p q → end p ≡ end q → ⊥
free-ends nofollow p q free same =
    let k = last_index p + last_index q in
    free.apart k (at-beyond p k (omega arith) ∙ same ∙ sym (at-beyond q k (omega arith)))

pub walk-advanced : (g : Floor) (p : List Cell) → IsWalk g p → IsWalk g (advanced p)
walk-advanced g p walk = record {
  non_empty = length-advanced p walk.non_empty;
  passable = λ k. rw (at-advanced p k) (walk.passable (k + 1));
  moves = λ k. rw (at-advanced p k, at-advanced p (k + 1)) (walk.moves (k + 1));
}
