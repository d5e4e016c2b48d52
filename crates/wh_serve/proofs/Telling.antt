-- One line of a client's machine.
use Rattle.std.proofs.Common.{◌≡◌, ◌+◌, ◌≤◌, ℕ, List, [], ◌++◌, length, refl, sym, ap, subst, arith, append-nil, Option, Bool, true, false}
use Rattle.std.specs.Prelude.{◌-◌, ◌^◌, min}
use Rattle.wh_grid.specs.Grids.{Floor}
use Rattle.wh_desk.specs.Pasts.{Origin}
use Rattle.wh_replay.specs.Answers.{text_of}
use Rattle.wh_session.specs.Machines.{nothing, ServesOne}
use Rattle.wh_session.specs.declared.machine.Halt.TheVariants as halt
use Rattle.wh_serve.specs.declared.call.Lost.{Lost}
use Rattle.wh_serve.specs.Texts.{InEach, receipt_text}
use Rattle.wh_serve.specs.Beginnings.{is_begin}
use Rattle.wh_serve.specs.Sayings.{asked, said}
use Rattle.wh_serve.specs.Outcomes.{Gives, answers}
use Rattle.wh_serve.specs.Losses.{Loses}
use Rattle.wh_serve.specs.Machines.{Standing, standing, IsSameClient, Hears, ServesSo, HaltsSo}

-- replies are counted as far as a number of 64 bits goes
pub counted_on : (had count has : ℕ) (replies : List (List ℕ)) → count ≡ length replies → has ≡ min (had + count) (2 ^ 64 - 1) → had + length replies ≤ 2 ^ 64 - 1 → has ≡ had + length replies
counted_on had count has replies count_is has_is fit = omega (arith, count_is, has_is, fit)

module _ {X : Type 0} (cells : ℕ) (fits : X → Floor → Bool) (count : X → ℕ) (origin : Origin) (line : Option (List ℕ)) (a b : Standing X) (begun : a.begun ≡ true) (same : IsSameClient a b) where
  -- a line was served by the machine of one client, in which nothing waited
  pub served_from : (waited replies : List (List ℕ)) → waited ≡ []
      → InEach b.pass.known (λ history. Gives a.may cells fits count origin.site.grid (asked (said line)) (answers a.may.rights (receipt_text a.form origin history) (said line)) a.pass a.spares b.pass b.spares replies) → length replies ≤ 1
      → (a.replies + length replies ≤ 2 ^ 64 - 1 → b.replies ≡ a.replies + length replies) → b.begun ≡ true
      → (s : Standing X) → a ≡ s → (x : Standing X) × (b ≡ x) × ServesOne (λ o l t k n. ServesSo cells fits count origin l t o n) line s x (text_of waited) (text_of replies) nothing nothing
  served_from waited replies empty gives few counted still s is = (
    b,
    refl,
    subst (λ (z : Standing X). ServesOne (λ o l t k n. ServesSo cells fits count origin l t o n) line z b (text_of waited) (text_of replies) nothing nothing) is (record {
      told = text_of replies;
      kept = nothing;
      did = λ history begins. subst (λ (at : Bool). Hears at cells fits count origin history line (text_of replies) a b) (sym begun)
          (record { replies = replies; gives = gives history begins; told_is = refl; few = few; counted = counted; still = still; same = same });
      says_are = ap (λ (rs : List (List ℕ)). text_of rs ++ text_of replies) (sym empty);
      comes_are = refl;
    }),
  )

  -- the journal failed at a line
  pub halted_from : (why : Lost) → InEach b.pass.known (λ history. Loses a.may cells fits count origin.site.grid (receipt_text a.form origin history) (said line) a.pass a.spares b.pass b.spares why)
      → (s : Standing X) → a ≡ s → (x : Standing X) × (b ≡ x) × HaltsSo cells fits count origin line halt.Failed s x
  halted_from why loses s is = (
    b,
    refl,
    subst (λ (z : Standing X). HaltsSo cells fits count origin line halt.Failed z b) is (λ history begins. record { why = why; begun = begun; loses = loses history begins; same = same }),
  )

-- a line came before the connection had begun
pub dropped_from : {X : Type 0} (cells : ℕ) (fits : X → Floor → Bool) (count : X → ℕ) (origin : Origin) (line : Option (List ℕ)) (a b : Standing X) → a.begun ≡ false
    → b ≡ standing a.seat a.room a.pass a.spares a.may a.form a.tag (is_begin a.tag line) a.replies → (waited : List ℕ) → (s : Standing X) → a ≡ s
    → (x : Standing X) × (b ≡ x) × ServesOne (λ o l t k n. ServesSo cells fits count origin l t o n) line s x waited waited nothing nothing
dropped_from {X} cells fits count origin line a b begun is waited s same = (
  b,
  refl,
  subst (λ (z : Standing X). ServesOne (λ o l t k n. ServesSo cells fits count origin l t o n) line z b waited waited nothing nothing) same (record {
    told = [];
    kept = nothing;
    did = λ history begins. subst (λ (at : Bool). Hears at cells fits count origin history line [] a b) (sym begun) (record { told_is = refl; new_is = is });
    says_are = sym (append-nil waited);
    comes_are = refl;
  }),
)
