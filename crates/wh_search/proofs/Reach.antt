-- between states and whole paths
use Rattle.std.proofs.Common.{◌≡◌, ◌≢◌, ℕ, ◌+◌, ◌-◌, ◌≤◌, ◌⊎◌, inl, inr, ◌∙◌, List, length, sym, ap, subst, suc, zero, add-one, arith}
use Rattle.std.proofs.lemmas.Bool.{cases_lt}
use Rattle.wh_grid.specs.declared.cell.Cell.{Cell}
use Rattle.wh_grid.specs.Grids.{Floor, IsPassable}
use Rattle.wh_resv.specs.Others.{Others}
use Rattle.wh_path.specs.Paths.{horizon, at, cell_at}
use Rattle.wh_search.specs.Steps.{Go}
use Rattle.wh_search.proofs.Times.{go_later, may_rest_later}
use Rattle.wh_search.specs.Tours.{IsTour}
use Rattle.wh_search.specs.States.{State, Arrives, Steps, IsEnd, Reaches, IsEstimate}
use Rattle.wh_search.proofs.BestFirst.{IsSpace}

-- a state is passable where the first one is
pub reaches_inside : (g : Floor) (others : Others) (via : List Cell) (start : State) → IsPassable g start.cell → (k : ℕ) (s : State) → Reaches (Steps g others via) start k s → IsPassable g s.cell
reaches_inside g others via start p zero s r = subst (λ (x : State). IsPassable g x.cell) (sym r) p
reaches_inside g others via start p (suc k) s r = r.2.goes.passable

pub reaches_few : (g : Floor) (others : Others) (via : List Cell) (start : State) → start.leg ≤ length via → (k : ℕ) (s : State) → Reaches (Steps g others via) start k s → s.leg ≤ length via
reaches_few g others via start p zero s r = subst (λ (x : State). x.leg ≤ length via) (sym r) p
reaches_few g others via start p (suc k) s r = r.2.arrives.few

-- the estimate is not greater at the cell for who has yet to visit stops there
pub arrives_estimate : (g : Floor) (via : List Cell) (ends : List Cell) (e : ℕ → Cell → ℕ) → IsEstimate g via ends e → (l : ℕ) (c : Cell) (m : ℕ) → IsPassable g c → Arrives via l c m → (d : ℕ) → l + d ≤ m → e l c ≤ e (l + d) c
arrives_estimate g via ends e h l c m i a zero b = let z : l ≡ l + 0 = omega arith in let y : e l c ≡ e (l + 0) c = ap (λ j. e j c) z in omega arith
arrives_estimate g via ends e h l c m i a (suc d) b =
    let before = arrives_estimate g via ends e h l c m i a d (omega arith) in
    let few = a.few in
    let there : cell_at via (l + d) ≡ c = a.visited (l + d) (omega arith) (omega arith) in
    let here : e (l + d) c ≤ e (l + d + 1) c = subst (λ (x : Cell). e (l + d) x ≤ e (l + d + 1) x) there (h.visits (l + d) (omega arith) (subst (IsPassable g) (sym there) i)) in
    let z : e (l + d + 1) c ≡ e (l + suc d) c = ap (λ j. e j c) (let y : l + d + 1 ≡ l + suc d = omega arith in y) in
    omega arith

-- the estimate falls by at most 1 in a step
pub step_falls : (g : Floor) (others : Others) (via : List Cell) (ends : List Cell) (e : ℕ → Cell → ℕ) → IsEstimate g via ends e → (k : ℕ) (s t : State) → s.leg ≤ length via → IsPassable g s.cell → Steps g others via k s t → e s.leg s.cell ≤ e t.leg t.cell + 1
step_falls g others via ends e h k s t few inside step =
    let one = h.falls s.leg s.cell t.cell few inside step.goes.passable step.goes.move in
    let d = t.leg - s.leg in
    let fw = step.arrives.forward in
    let more = arrives_estimate g via ends e h s.leg t.cell t.leg step.goes.passable step.arrives d (omega arith) in
    let z : e (s.leg + d) t.cell ≡ e t.leg t.cell = ap (λ j. e j t.cell) (let y : s.leg + d ≡ t.leg = omega arith in y) in
    omega arith

pub is_space : (g : Floor) (others : Others) (via : List Cell) (ends : List Cell) (e : ℕ → Cell → ℕ) (start : State) → IsEstimate g via ends e → IsPassable g start.cell → start.leg ≤ length via
    → IsSpace (Steps g others via) (IsEnd others via ends) start (horizon others.paths) (λ s. e s.leg s.cell)
is_space g others via ends e start h p few =
    record {
      step_later = λ j k s t a b step. record { goes = go_later g others s.cell t.cell k j b a step.goes; arrives = step.arrives };
      goal_later = λ j k s a b goal. record { all_visited = goal.all_visited; delivered = goal.delivered; rests = may_rest_later others s.cell k j b a goal.rests };
      at_goal = λ k s r goal. ap (λ l. e l s.cell) goal.all_visited ∙ h.at_end s.cell goal.delivered (reaches_inside g others via start p k s r);
      falls = λ k s t r step. step_falls g others via ends e h k s t (reaches_few g others via start few k s r) (reaches_inside g others via start p k s r) step;
    }

-- each step of a tour is one that the search may take
pub tour_go : (g : Floor) (others : Others) (loc : Cell) (via : List Cell) (ends : List Cell) (p : List Cell) → IsTour g others loc via ends p → (k : ℕ) → Go g others k (at p k) (at p (suc k))
tour_go g others loc via ends p d k =
    let e : k + 1 ≡ suc k = add-one k in
    subst (λ (m : ℕ). Go g others k (at p k) (at p m)) e
    (record {
      passable = d.walk.passable (k + 1);
      move = d.walk.moves k;
      may = λ i q h. let f = d.free i q h in
          record {
            start = λ a. f.apart k (sym a);
            target = λ a. f.apart (k + 1) (sym a);
            no_swap = λ a b. f.no_swap k (sym b, sym a);
            no_follow = λ r ne. (λ a. f.no_follow r k (inl (sym a)), λ a. f.no_follow r k (inr a));
          };
    })

-- how many stops an agent has behind it when it comes to a cell: counted on from l, at most n of them
pub arrival : (via : List Cell) (c : Cell) → ((i : ℕ) → (cell_at via i ≡ c) ⊎ (cell_at via i ≢ c)) → (l n : ℕ) → l + n ≡ length via → (m : ℕ) × Arrives via l c m
arrival via c d l zero e = (l, record { forward = omega arith; few = omega arith; visited = λ j a b. absurd (omega arith); stuck = λ a. absurd (omega arith) })
arrival via c d l (suc n) e =
    elim (d l) [
      | inr no_stop ↦ (l, record { forward = omega arith; few = omega arith; visited = λ j a b. absurd (omega arith); stuck = λ a. no_stop })
      | inl here ↦ (let r = arrival via c d (l + 1) n (omega arith) in (
        r.0,
        record {
          forward = (let f = r.1.forward in omega arith);
          few = r.1.few;
          visited = λ j a b. elim (cases_lt l j) [
            | inl x ↦ r.1.visited j (omega arith) b
            | inr x ↦ (let z : l ≡ j = omega arith in subst (λ (i : ℕ). cell_at via i ≡ c) z here)
          ];
          stuck = r.1.stuck;
        },
      ))
    ]
