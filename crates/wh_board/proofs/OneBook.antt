-- All who share the copies know one book, before and after each step.
use Rattle.std.proofs.Common.{◌≡◌, ℕ, ◌≢◌, List, set, Option, Some, None, refl, sym, ◌∙◌, subst, ⊎_elim}
use mathlib.Core.Option.{some}
use lib.ListN.{get_elem?}
use Rattle.left_right.specs.Register.{Admits, TurnsAt, Forks, Merges}
use Rattle.atomic_table.proofs.Lists.{at_set, at_snoc}
use Rattle.wh_board.specs.Pasts.{Known}
use Rattle.wh_board.specs.Rules.{MayBeOf, AllOfOneBook, Finds, latter}

-- a new thread knows nothing
pub admits : Admits AllOfOneBook None
admits x views h seat v at = ⊎_elim (h seat v) (λ (e : None ≡ v). subst (MayBeOf x.book) e tt) (at_snoc views None v seat at)

-- what a thread of this book comes to know
pub set_known : (x : Known) (views : List (Option Known)) (seat : ℕ) (v : Option Known) → AllOfOneBook x views → MayBeOf x.book v → AllOfOneBook x (set views seat v)
set_known x views seat v h is j u e = ⊎_elim (λ (t : (j ≡ seat) × (v ≡ u)). subst (MayBeOf x.book) t.1 is) (λ (t : (j ≢ seat) × (get_elem? views j ≡ some u)). h j u t.1) (at_set views seat j v u e)

pub same_book : (a b : Known) (v : Option Known) → b.book ≡ a.book → MayBeOf a.book v → MayBeOf b.book v
same_book a b None e h = tt
same_book a b (Some k) e h = h ∙ sym e

-- the page may change within its book, and is then known
pub meets : (seat : ℕ) (v : Option Known) (x y : Known) → y.book ≡ x.book → TurnsAt AllOfOneBook seat v x y Finds
meets seat v x y same views h at = (
  Some y,
  set_known y views seat (Some y) (λ j u e. same_book x y u same (h j u e)) refl,
  (h seat v at, refl),
)

pub forks : (seat : ℕ) (v : Option Known) → Forks AllOfOneBook seat v v v
forks seat v x views h at j u e = ⊎_elim (set_known x views seat v h (h seat v at) j u) (λ (same : v ≡ u). subst (MayBeOf x.book) same (h seat v at)) (at_snoc (set views seat v) v u j e)

pub merges : (seat : ℕ) (v : Option Known) (other : ℕ) (w : Option Known) → Merges AllOfOneBook seat v other w (latter v w) None
merges seat v other w x views h at apart there =
    let b : MayBeOf x.book w = ⊎_elim (λ (t : (other ≡ seat) × (w ≡ w)). absurd (apart t.0)) (λ (t : (other ≢ seat) × (get_elem? views other ≡ some w)). h other w t.1) (at_set views seat other w w there) in
    set_known x (set views seat w) other None (set_known x views seat w h b) tt
