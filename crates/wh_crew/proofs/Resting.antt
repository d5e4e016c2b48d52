-- What a turn came to, and whether anything is to do behind it.
use Rattle.std.proofs.Common.{◌≡◌, ℕ, ◌+◌, ◌==◌, ◌&&◌, ◌||◌, nat_le, not, Bool, true, false, List, [], ◌∷◌, ◌++◌, length, refl, ap, sym, ◌∙◌, arith}
use Rattle.std.proofs.lemmas.Bool.{and_parts}
use Rattle.std.proofs.lemmas.Bool.Decides.{nat_tests}
use Rattle.std.proofs.lemmas.List.{length_push}
use Rattle.wh_event.specs.declared.entry.Entry.{Entry}
use Rattle.wh_board.specs.declared.board.Board.{Board}
use Rattle.wh_crew.specs.Turns.{IsBusy, IsOutcome, Outcome, Taken, are_in_vain, brings_none, is_in_vain, is_no_path, moves, refuses_path, rests_at, with_receipt}

-- ---- tests

and_true : (a : Bool) → (a && true) ≡ a
and_true true = refl
and_true false = refl

and_assoc : (a b c : Bool) → (a && (b && c)) ≡ ((a && b) && c)
and_assoc true b c = refl
and_assoc false b c = refl

-- a number is tested only where the first test holds
same_place : (v : Bool) (place m n : ℕ) (b : Bool) → (v ≡ true → m ≡ n) → (v && ((place == m) && b)) ≡ (v && ((place == n) && b))
same_place true place m n b same = ap (λ (k : ℕ). (place == k) && b) (same refl)
same_place false place m n b same = refl

same_bound : (v w : Bool) (e m n : ℕ) → v ≡ w → (v ≡ true → m ≡ n) → (v && nat_le e m) ≡ (w && nat_le e n)
same_bound true true e m n p same = ap (λ (k : ℕ). nat_le e k) (same refl)
same_bound true false e m n p same = absurd (cc)
same_bound false true e m n p same = absurd (cc)
same_bound false false e m n p same = refl

-- ---- what a turn came to

vain_push : (place : ℕ) (xs : List (ℕ × Entry)) (x : ℕ × Entry) → are_in_vain place (xs ++ x ∷ []) ≡ (are_in_vain place xs && ((x.0 == place + length xs) && brings_none x.1.reply))
vain_push place [] x =
    let here : place ≡ place + 0 = omega arith in
    and_true ((x.0 == place) && brings_none x.1.reply) ∙ ap (λ (k : ℕ). (x.0 == k) && brings_none x.1.reply) here
vain_push place (y ∷ ys) x =
    let first = (y.0 == place) && brings_none y.1.reply in
    let next : place + 1 + length ys ≡ place + length (y ∷ ys) = omega arith in
    ap (λ (b : Bool). first && b) (vain_push (place + 1) ys x)
    ∙ and_assoc first (are_in_vain (place + 1) ys) ((x.0 == place + 1 + length ys) && brings_none x.1.reply)
    ∙ ap (λ (k : ℕ). (first && are_in_vain (place + 1) ys) && ((x.0 == k) && brings_none x.1.reply)) next

or_assoc : (a b c : Bool) → (a || (b || c)) ≡ ((a || b) || c)
or_assoc true b c = refl
or_assoc false b c = refl

or_false : (a : Bool) → (a || false) ≡ a
or_false true = refl
or_false false = refl

refuses_push : (xs : List (ℕ × Entry)) (x : ℕ × Entry) → refuses_path (xs ++ x ∷ []) ≡ (refuses_path xs || is_no_path x.1.reply)
refuses_push [] x = or_false (is_no_path x.1.reply)
refuses_push (y ∷ ys) x = ap (λ (b : Bool). is_no_path y.1.reply || b) (refuses_push ys x) ∙ or_assoc (is_no_path y.1.reply) (refuses_path ys) (is_no_path x.1.reply)

-- before the first receipt
pub outcome_new : (board : Board) → IsOutcome board [] (record { in_vain = not (moves board.agents.items); entries = board.entries; no_path = false })
outcome_new board = record {
  in_vain = sym (and_true (not (moves board.agents.items)));
  entries = λ _. omega arith;
  no_path = refl;
}

-- one receipt more
pub outcome_more : (board : Board) (received : List (ℕ × Entry)) (old : Outcome) (x : ℕ × Entry) → IsOutcome board received old → IsOutcome board (received ++ x ∷ []) (with_receipt old x.0 x.1.reply)
outcome_more board received old x is =
    let last = λ (k : ℕ). (x.0 == k) && brings_none x.1.reply in
    let stood = not (moves board.agents.items) in
    record {
      in_vain = same_place old.in_vain x.0 old.entries (board.entries + length received) (brings_none x.1.reply) is.entries
          ∙ ap (λ (v : Bool). v && last (board.entries + length received)) is.in_vain
          ∙ sym (and_assoc stood (are_in_vain board.entries received) (last (board.entries + length received)))
          ∙ ap (λ (v : Bool). stood && v) (sym (vain_push board.entries received x));
      entries = λ yes.
          let parts = and_parts old.in_vain (last old.entries) yes in
          let place : (x.0 == old.entries) ≡ true = (and_parts (x.0 == old.entries) (brings_none x.1.reply) parts.1).0 in
          let same : x.0 ≡ old.entries = grind (arith, nat_tests) in
          omega (arith, same, is.entries parts.0, length_push received x);
      no_path = ap (λ (b : Bool). b || is_no_path x.1.reply) is.no_path ∙ sym (refuses_push received x);
    }

-- ---- what follows a turn

-- the last of the turns came to this; where there is none, it was not in vain
abbrev pub Latest : List Taken → Outcome → Type 0
Latest [] o = o.in_vain ≡ false
Latest (t ∷ ts) o = IsOutcome t.board t.received o

-- whether there is nothing to do at a board behind what came to this
abbrev pub rests : Outcome → Board → Bool
rests o board = o.in_vain && nat_le board.entries o.entries

pub rests_same : (t : Taken) (o : Outcome) (board : Board) → IsOutcome t.board t.received o → rests o board ≡ rests_at t board
rests_same t o board is = same_bound o.in_vain (is_in_vain t.board t.received) board.entries o.entries (t.board.entries + length t.received) is.in_vain is.entries

pub busy_behind : (ts : List Taken) (o : Outcome) (board : Board) → Latest ts o → rests o board ≡ false → IsBusy ts board
busy_behind [] o board latest busy = tt
busy_behind (t ∷ ts) o board latest busy = sym (rests_same t o board latest) ∙ busy
