-- Which words `clap` reads as flags.
use Rattle.std.proofs.Common.{◌≡◌, ℕ, List, [], ◌∷◌, length, refl, sym, ap, ◌∙◌, Bool, true, false, None, Some, subst, codes, eqb-true, true≢false, ◌==◌, ◌&&◌}
use Rattle.std.specs.Prelude.{slice_get}
use Rattle.std.specs.Str.{bytes_eq, chars}
use Rattle.clap.specs.Lexer.{long_of, short_of}
use Rattle.clap.specs.Walk.{Held, Rule, Text, bundle_met, bundle_step, plain}
use Rattle.clap.specs.Faults.{bundle_step_fault, flags_fault}
use Rattle.wh_options.specs.Setting.{has_some, is_flag}

-- what a word that is not read as flags is to `clap`
pub record IsUnflagged (v : Text) : Type 0 where
  pub no_end : bytes_eq v (codes "--") ≡ false
  pub no_long : long_of v ≡ None
  pub no_short : (flags : Text) → short_of v ≡ Some flags → chars flags ≡ []

none_there : (t : Text) → has_some t ≡ false → t ≡ []
none_there [] e = refl
none_there (x ∷ xs) e = cc

-- a hyphen is a character
hyphen_counts : (ys : Text) → has_some (chars (45 ∷ ys)) ≡ true
unfolding chars
hyphen_counts [] = refl
hyphen_counts (y ∷ ys) = refl

-- ---- no flag by its bytes

after_hyphen : (y : ℕ) (ys : Text) (b : Bool) → (y == 45) ≡ b → has_some (chars (y ∷ ys)) ≡ false → IsUnflagged (45 ∷ y ∷ ys)
after_hyphen y ys true e f = absurd (true≢false (sym (hyphen_counts ys) ∙ subst (λ k. has_some (chars (k ∷ ys)) ≡ false) (eqb-true y 45 e) f))
after_hyphen y ys false e f = record {
  no_end = rw e refl;
  no_long = rw e refl;
  no_short = λ flags g.
      let same : Some (y ∷ ys) ≡ Some flags = rw e at g in
      let is : y ∷ ys ≡ flags = cc in
      subst (λ t. chars t ≡ []) is (none_there (chars (y ∷ ys)) f);
}

behind_hyphen : (xs : Text) → has_some (chars xs) ≡ false → IsUnflagged (45 ∷ xs)
behind_hyphen [] f = record { no_end = refl; no_long = refl; no_short = λ flags g. cc }
behind_hyphen (y ∷ ys) f = after_hyphen y ys (y == 45) refl f

unflagged_at : (x : ℕ) (xs : Text) (b : Bool) → (x == 45) ≡ b → (b && has_some (chars xs)) ≡ false → IsUnflagged (x ∷ xs)
unflagged_at x xs true e f = subst (λ k. IsUnflagged (k ∷ xs)) (sym (eqb-true x 45 e)) (behind_hyphen xs f)
unflagged_at x xs false e f = record {
  no_end = rw e refl;
  no_long = rw e refl;
  no_short = λ flags g.
      let bad : None ≡ Some flags = rw e at g in
      cc;
}

pub unflagged : (v : Text) → is_flag v ≡ false → IsUnflagged v
unflagged [] e = record { no_end = refl; no_long = refl; no_short = λ flags g. cc }
unflagged (x ∷ xs) e = unflagged_at x xs (x == 45) refl e

-- ---- and the other way

two_hyphens : (ys : Text) → bytes_eq (45 ∷ 45 ∷ ys) (codes "--") ≡ false → long_of (45 ∷ 45 ∷ ys) ≡ None → ⊥
two_hyphens [] e f = cc
two_hyphens (y ∷ ys) e f = cc

no_chars_after : (y : ℕ) (ys : Text) (b : Bool) → (y == 45) ≡ b → IsUnflagged (45 ∷ y ∷ ys) → has_some (chars (y ∷ ys)) ≡ false
no_chars_after y ys true e u =
    let at : IsUnflagged (45 ∷ 45 ∷ ys) = subst (λ k. IsUnflagged (45 ∷ k ∷ ys)) (eqb-true y 45 e) u in
    absurd (two_hyphens ys at.no_end at.no_long)
no_chars_after y ys false e u =
    let short : short_of (45 ∷ y ∷ ys) ≡ Some (y ∷ ys) = rw e refl in
    ap has_some (u.no_short (y ∷ ys) short)

no_chars : (xs : Text) → IsUnflagged (45 ∷ xs) → has_some (chars xs) ≡ false
unfolding chars
no_chars [] u = refl
no_chars (y ∷ ys) u = no_chars_after y ys (y == 45) refl u

flag_at : (x : ℕ) (xs : Text) (b : Bool) → (x == 45) ≡ b → IsUnflagged (x ∷ xs) → (b && has_some (chars xs)) ≡ false
flag_at x xs true e u = no_chars xs (subst (λ k. IsUnflagged (k ∷ xs)) (eqb-true x 45 e) u)
flag_at x xs false e u = refl

pub is_no_flag : (v : Text) → IsUnflagged v → is_flag v ≡ false
is_no_flag [] u = refl
is_no_flag (x ∷ xs) u = flag_at x xs (x == 45) refl u

-- ---- short flags without a character

-- they are none, and are not refused
pub silent : (c : List Rule) (again : Bool) (flags : Text) (h : Held) → chars flags ≡ []
    → (flags_fault c again (length flags) flags 0 h ≡ []) × (bundle_met c (length flags) flags 0 plain h ≡ (h, plain))
unfolding flags_fault bundle_met
silent c again [] h none = (refl, refl)
silent c again (b ∷ bs) h none = go (chars (b ∷ bs)) none
  where
    go : (cs : Text) → cs ≡ [] → (bundle_step_fault c again (slice_get cs 0) (b ∷ bs) 0 h (flags_fault c again (length bs)) ≡ [])
        × (bundle_step c (slice_get cs 0) (b ∷ bs) 0 plain h (bundle_met c (length bs)) ≡ (h, plain))
    go [] e = (refl, refl)
    go (x ∷ xs) e = cc
