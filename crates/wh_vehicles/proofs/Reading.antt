-- which lines report: the definition by tests says what the grammar says
use Rattle.std.proofs.Common.{◌≡◌, ℕ, ◌≤◌, ◌∙◌, Bool, true, false, ◌&&◌, cond, min, List, [], ◌∷◌, length, Option, Some, None, Err, codes, refl, sym, ap, subst}
use Rattle.std.specs.Prelude.{◌↔◌, IfSome, nat_lt, nat_le, option_map}
use Rattle.std.specs.Str.{bytes_eq}
use Rattle.std.specs.Option.{unwrap_or}
use Rattle.std.proofs.lemmas.Bool.{leb-true, le-leb, ltb-false, le-ltb, and_parts}
use Rattle.std.proofs.lemmas.Slice.Eq.{bytes_eq-Decides}
use Rattle.wh_text.specs.Words.{words_of}
use Rattle.wh_text.specs.Numbers.{are_digits, decimal, small_number_of}
use Rattle.wh_event.specs.Grammar.{Writes}
use Rattle.wh_event.specs.CommandLines.{command_by, command_of}
use Rattle.wh_event.specs.declared.fault.LineFault.TheVariants.{Form}
use Rattle.wh_vehicles.specs.declared.report.Report.{Report}
use Rattle.wh_vehicles.specs.Reports.{Says, step_of, report_from, numbers_of, report_by, report_of}

within : {A : Type 0} (b : Bool) (x y : A) → cond b (Some x) None ≡ Some y → (b ≡ true) × (x ≡ y)
within true x y e = (refl, ap (λ o. unwrap_or o x) e)
within false x y e = absurd cc

without : {A : Type 0} (b : Bool) (x : Option A) (y : A) → cond b None x ≡ Some y → (b ≡ false) × (x ≡ Some y)
without true x y e = absurd cc
without false x y e = (refl, e)

writes : (word : List ℕ) (n : ℕ) → small_number_of word ≡ Some n → Writes n word
writes word n e =
    let g = within (are_digits word && nat_le (length word) 9) (decimal word) n e in
    let b = and_parts (are_digits word) (nat_le (length word) 9) g.0 in
    record { digits = b.0; few = leb-true _ _ b.1; value = g.1 }

written : (word : List ℕ) (n : ℕ) → Writes n word → small_number_of word ≡ Some n
written word n h = rw (h.digits, le-leb (length word) 9 h.few, h.value) refl

-- the step that a word writes
steps : (word : List ℕ) (n : ℕ) → step_of word ≡ Some n → (are_digits word ≡ true) × (n ≡ min (decimal word) 4294967295)
steps word n e = go (are_digits word) refl e
  where
    go : (b : Bool) → are_digits word ≡ b → option_map (λ k. min k 4294967295) (cond b (Some (decimal word)) None) ≡ Some n →
        (are_digits word ≡ true) × (n ≡ min (decimal word) 4294967295)
    go true is e = (is, sym (ap (λ (o : Option ℕ). unwrap_or o n) e))
    go false is e = absurd cc

numbers-found : (rest : List (List ℕ)) (r : Report) → numbers_of rest ≡ Some r → Says r (codes "at" ∷ rest)
numbers-found [] r e = absurd cc
numbers-found (agent ∷ []) r e = absurd cc
numbers-found (agent ∷ step ∷ []) r e = go (small_number_of agent) (step_of step) refl refl e
  where
    go : (a s : Option ℕ) → small_number_of agent ≡ a → step_of step ≡ s → report_from a s ≡ Some r → Says r (codes "at" ∷ agent ∷ step ∷ [])
    go None s p q e = absurd cc
    go (Some n) None p q e = absurd cc
    go (Some n) (Some k) p q e =
        let made : record { agent = n; step = k } ≡ r = ap (λ (o : Option Report). unwrap_or o r) e in
        let both = steps step k q in
        let says : Says (record { agent = n; step = k }) (codes "at" ∷ agent ∷ step ∷ []) = record {
          agent = agent;
          step = step;
          words_are = refl;
          agent_is = writes agent n p;
          digits = both.0;
          value = both.1;
        } in
        subst (λ (x : Report). Says x (codes "at" ∷ agent ∷ step ∷ [])) made says
numbers-found (agent ∷ step ∷ more ∷ rest) r e = absurd cc

words-found : (words : List (List ℕ)) (r : Report) → report_by words ≡ Some r → Says r words
words-found [] r e = absurd cc
words-found (name ∷ rest) r e = go (bytes_eq name (codes "at")) refl e
  where
    go : (b : Bool) → bytes_eq name (codes "at") ≡ b → cond b (numbers_of rest) None ≡ Some r → Says r (name ∷ rest)
    go true is e = subst (λ word. Says r (word ∷ rest)) (sym ((bytes_eq-Decides name (codes "at")).0 is)) (numbers-found rest r e)
    go false is e = absurd cc

found : (line : List ℕ) (r : Report) → report_of line ≡ Some r → (length line ≤ 256) × Says r (words_of line)
found line r e =
    let g = without (nat_lt 256 (length line)) (report_by (words_of line)) r e in
    (ltb-false 256 (length line) g.0, words-found (words_of line) r g.1)

said : (r : Report) (words : List (List ℕ)) → Says r words → report_by words ≡ Some r
said r words h =
    let agent : small_number_of h.agent ≡ Some r.agent = written h.agent r.agent h.agent_is in
    let step : step_of h.step ≡ Some r.step = rw (h.digits, h.value) refl in
    rw (h.words_are, agent, step) refl

asked : (line : List ℕ) (r : Report) → length line ≤ 256 → Says r (words_of line) → report_of line ≡ Some r
asked line r short h = rw (le-ltb 256 (length line) short) (said r (words_of line) h)

pub report_law : (line : List ℕ) (result : Option Report) → result ≡ report_of line → (r : Report) → (result ≡ Some r) ↔ ((length line ≤ 256) × Says r (words_of line))
report_law line result exact r = (λ e. found line r (sym exact ∙ e), λ h. exact ∙ asked line r h.0 h.1)

pub no_command_law : (line : List ℕ) (result : Option Report) → result ≡ report_of line → IfSome result (λ _. command_of line ≡ Err Form)
no_command_law line None exact = tt
no_command_law line (Some r) exact =
    let h = found line r (sym exact) in
    let none : command_by (words_of line) ≡ Err Form = rw (h.1.words_are) refl in
    rw (le-ltb 256 (length line) h.0) none
