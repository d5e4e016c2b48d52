-- Which words ask for which command: the definition by tests says what the grammar says.
use Rattle.std.proofs.Common.{◌≡◌, ℕ, ◌<◌, ◌≤◌, Bool, true, false, ◌&&◌, cond, List, [], ◌∷◌, ◌++◌, length, Option, Some, None, Result, Ok, Err, codes, eqb, refl, sym, ap, arith, ◌∙◌, subst}
use Rattle.std.specs.Prelude.{◌↔◌}
use Rattle.std.proofs.Math.Dec.{leb as nat_le, ltb as nat_lt}
use Rattle.std.proofs.lemmas.Bool.{leb-true, le-leb, ltb-true, lt-ltb, ltb-false, le-ltb, eqb-true, and_parts}
use Rattle.std.proofs.lemmas.Slice.Eq.{bytes_eq-Decides}
use Rattle.std.specs.List.{AllByRecursion, list_all}
use Rattle.std.specs.Str.{bytes_eq}
use Rattle.std.proofs.lemmas.Option.{cond_some}
use Rattle.wh_text.specs.Names.{is_name, name_of}
use Rattle.wh_text.specs.Lines.{HasNone}
use Rattle.wh_text.specs.Words.{begins_comment, is_blank, words_of}
use Rattle.wh_text.proofs.CutLemmas.{words-word, words-last}
use Rattle.wh_text.specs.Numbers.{is_digit, are_digits, decimal, small_number_of}
use Rattle.wh_event.specs.declared.event.Command.{Command}
use Rattle.wh_event.specs.declared.event.Command.TheVariants.{Submit, Token, Tick, Replace, Close}
use Rattle.wh_event.specs.declared.fault.LineFault.{LineFault}
use Rattle.wh_event.specs.declared.fault.LineFault.TheVariants.{Form, TooLong}
use Rattle.wh_event.specs.CommandLines.{stops_of, submit_by, submit_of, token_by, token_of, tick_of, replace_by, replace_of, close_of, named, formed, command_by, command_of}
use Rattle.wh_event.specs.Grammar.{IsName, Writes, AsksAgent, AsksTask, Asks, IsSkipped}

all_names : (names : List (List ℕ)) → list_all is_name names ≡ true → AllByRecursion IsName names
all_names [] h = tt
all_names (name ∷ names) h = let b = and_parts (is_name name) (list_all is_name names) h in (b.0, all_names names b.1)

names_all : (names : List (List ℕ)) → AllByRecursion IsName names → list_all is_name names ≡ true
names_all [] h = refl
names_all (name ∷ names) h = rw (h.0, names_all names h.1) refl

-- a choice by a name: it is the name that was asked for, or the choice went on
by_name : (P : List ℕ → Type 0) (name text : List ℕ) (x other : Option Command) (y : Command) → cond (bytes_eq name text) x other ≡ Some y → (x ≡ Some y → P text) → (other ≡ Some y → P name) → P name
by_name P name text x other y e this on = go (bytes_eq name text) refl e
  where
    go : (v : Bool) → bytes_eq name text ≡ v → cond v x other ≡ Some y → P name
    go true is e = subst P (sym ((bytes_eq-Decides name text).0 is)) (this e)
    go false is e = on e

is_name_of : (word name : List ℕ) → name_of word ≡ Some name → (is_name word ≡ true) × (word ≡ name)
is_name_of word name e = cond_some (is_name word) word name e

submit_found : (rest : List (List ℕ)) (c : Command) → submit_of rest ≡ Some c → Asks c (codes "submit" ∷ rest)
submit_found [] c e = absurd cc
submit_found (client ∷ stops) c e = go (name_of client) (stops_of stops) refl refl e
  where
    go : (a : Option (List ℕ)) (b : Option (List (List ℕ))) → name_of client ≡ a → stops_of stops ≡ b → submit_by a b ≡ Some c → Asks c (codes "submit" ∷ client ∷ stops)
    go None b p q e = absurd cc
    go (Some name) None p q e = absurd cc
    go (Some name) (Some names) p q e =
        let n = is_name_of client name p in
        let g = cond_some (list_all is_name stops && nat_le 2 (length stops) && nat_le (length stops) 8) stops names q in
        let high = and_parts (list_all is_name stops && nat_le 2 (length stops)) (nat_le (length stops) 8) g.0 in
        let low = and_parts (list_all is_name stops) (nat_le 2 (length stops)) high.0 in
        let asks : AsksTask client stops (codes "submit" ∷ client ∷ stops) = record {
          words_are = refl;
          client_is = n.0;
          stops_are = all_names stops low.0;
          two = leb-true _ _ low.1;
          eight = leb-true _ _ high.1;
        } in
        let made : Submit client stops ≡ c = rw (n.1, g.1) (let e : Submit name names ≡ c = cc in e) in
        subst (λ (x : Command). Asks x (codes "submit" ∷ client ∷ stops)) made asks

writes : (word : List ℕ) (n : ℕ) → small_number_of word ≡ Some n → Writes n word
writes word n e =
    let g = cond_some (are_digits word && nat_le (length word) 9) (decimal word) n e in
    let b = and_parts (are_digits word) (nat_le (length word) 9) g.0 in
    record { digits = b.0; few = leb-true _ _ b.1; value = g.1 }

pub written : (word : List ℕ) (n : ℕ) → Writes n word → small_number_of word ≡ Some n
written word n h = rw (h.digits, le-leb (length word) 9 h.few, h.value) refl

token_found : (rest : List (List ℕ)) (c : Command) → token_of rest ≡ Some c → Asks c (codes "token" ∷ rest)
token_found [] c e = absurd cc
token_found (agent ∷ other ∷ rest) c e = absurd cc
token_found (agent ∷ []) c e = go (small_number_of agent) refl e
  where
    go : (a : Option ℕ) → small_number_of agent ≡ a → token_by a ≡ Some c → Asks c (codes "token" ∷ agent ∷ [])
    go None p e = absurd cc
    go (Some n) p e =
        let asks : AsksAgent (codes "token") n (codes "token" ∷ agent ∷ []) = record { number = agent; words_are = refl; writes = writes agent n p } in
        let made : Token n ≡ c = cc in
        subst (λ (x : Command). Asks x (codes "token" ∷ agent ∷ [])) made asks

replace_found : (rest : List (List ℕ)) (c : Command) → replace_of rest ≡ Some c → Asks c (codes "replace" ∷ rest)
replace_found [] c e = absurd cc
replace_found (agent ∷ other ∷ rest) c e = absurd cc
replace_found (agent ∷ []) c e = go (small_number_of agent) refl e
  where
    go : (a : Option ℕ) → small_number_of agent ≡ a → replace_by a ≡ Some c → Asks c (codes "replace" ∷ agent ∷ [])
    go None p e = absurd cc
    go (Some n) p e =
        let asks : AsksAgent (codes "replace") n (codes "replace" ∷ agent ∷ []) = record { number = agent; words_are = refl; writes = writes agent n p } in
        let made : Replace n ≡ c = cc in
        subst (λ (x : Command). Asks x (codes "replace" ∷ agent ∷ [])) made asks

tick_found : (rest : List (List ℕ)) (c : Command) → tick_of rest ≡ Some c → Asks c (codes "tick" ∷ rest)
tick_found [] c e = let made : Tick ≡ c = cc in subst (λ (x : Command). Asks x (codes "tick" ∷ [])) made refl
tick_found (word ∷ rest) c e = absurd cc

close_found : (rest : List (List ℕ)) (c : Command) → close_of rest ≡ Some c → Asks c (codes "close" ∷ rest)
close_found [] c e = let made : Close ≡ c = cc in subst (λ (x : Command). Asks x (codes "close" ∷ [])) made refl
close_found (word ∷ rest) c e = absurd cc

named_found : (name : List ℕ) (rest : List (List ℕ)) (c : Command) → named name rest ≡ Some c → Asks c (name ∷ rest)
named_found name rest c e =
    let P : List ℕ → Type 0 = λ n. Asks c (n ∷ rest) in
    by_name P name (codes "submit") _ _ c e (submit_found rest c) (λ e.
    by_name P name (codes "token") _ _ c e (token_found rest c) (λ e.
    by_name P name (codes "tick") _ _ c e (tick_found rest c) (λ e.
    by_name P name (codes "replace") _ _ c e (replace_found rest c) (λ e.
    by_name P name (codes "close") _ _ c e (close_found rest c) (λ e. absurd cc)))))

formed_some : (x : Option Command) (c : Command) → formed x ≡ Ok (Some c) → x ≡ Some c
formed_some None c e = absurd cc
formed_some (Some command) c e = cc

formed_none : (x : Option Command) → formed x ≡ Ok None → ⊥
formed_none None e = cc
formed_none (Some command) e = cc

formed_long : (x : Option Command) → formed x ≡ Err TooLong → ⊥
formed_long None e = cc
formed_long (Some command) e = cc

found : (words : List (List ℕ)) (c : Command) → command_by words ≡ Ok (Some c) → Asks c words
found [] c e = absurd cc
found (name ∷ rest) c e = go (begins_comment name) e
  where
    go : (v : Bool) → cond v (Ok None) (formed (named name rest)) ≡ Ok (Some c) → Asks c (name ∷ rest)
    go true e = absurd cc
    go false e = named_found name rest c (formed_some (named name rest) c e)

again : (c : Command) (words : List (List ℕ)) → Asks c words → command_by words ≡ Ok (Some c)
again (Submit client stops) words h =
    rw h.words_are (rw (h.client_is, names_all stops h.stops_are, le-leb 2 (length stops) h.two, le-leb (length stops) 8 h.eight) refl)
again (Token agent) words h = rw h.words_are (rw (written h.number agent h.writes) refl)
again Tick words h = rw h refl
again (Replace agent) words h = rw h.words_are (rw (written h.number agent h.writes) refl)
again Close words h = rw h refl

skips : (words : List (List ℕ)) → command_by words ≡ Ok None → IsSkipped words
skips [] e = tt
skips ([] ∷ rest) e = cc
skips ((b ∷ bs) ∷ rest) e = go (eqb b 35) refl e
  where
    go : (v : Bool) → eqb b 35 ≡ v → cond v (Ok None) (formed (named (b ∷ bs) rest)) ≡ Ok None → b ≡ 35
    go true is e = eqb-true _ _ is
    go false is e = absurd (formed_none (named (b ∷ bs) rest) e)

skipped_again : (words : List (List ℕ)) → IsSkipped words → command_by words ≡ Ok None
skipped_again [] h = refl
skipped_again ([] ∷ rest) h = absurd h
skipped_again ((b ∷ bs) ∷ rest) h = rw h refl

not_long : (words : List (List ℕ)) → command_by words ≡ Err TooLong → ⊥
not_long [] e = cc
not_long (name ∷ rest) e = go (begins_comment name) e
  where
    go : (v : Bool) → cond v (Ok None) (formed (named name rest)) ≡ Err TooLong → ⊥
    go true e = cc
    go false e = formed_long (named name rest) e

abbrev NoCommand : List (List ℕ) → Type 0
NoCommand words = (c : Command) → ¬ Asks c words

no_form : (words : List (List ℕ)) → command_by words ≡ Err Form → (¬ IsSkipped words) × NoCommand words
no_form words e = (λ h. let no : Err Form ≡ Ok None = sym e ∙ skipped_again words h in cc, λ c h. let no : Err Form ≡ Ok (Some c) = sym e ∙ again c words h in cc)

form_again : (words : List (List ℕ)) → ¬ IsSkipped words → NoCommand words → command_by words ≡ Err Form
form_again words some none = go (command_by words) refl
  where
    go : (r : Result (Option Command) LineFault) → command_by words ≡ r → command_by words ≡ Err Form
    go (Ok None) e = absurd (some (skips words e))
    go (Ok (Some c)) e = absurd (none c (found words c e))
    go (Err Form) e = e
    go (Err TooLong) e = absurd (not_long words e)

-- ---- and the line's length
by_length : (line : List ℕ) (v : Bool) → nat_lt 256 (length line) ≡ v → command_of line ≡ cond v (Err TooLong) (command_by (words_of line))
by_length line v is = rw is refl

fit : (line : List ℕ) (r t : Result (Option Command) LineFault) → r ≡ command_of line → (t ≡ Err TooLong → ⊥) → r ≡ t → (length line ≤ 256) × (command_by (words_of line) ≡ t)
fit line r t e other is = go (nat_lt 256 (length line)) refl
  where
    go : (v : Bool) → nat_lt 256 (length line) ≡ v → (length line ≤ 256) × (command_by (words_of line) ≡ t)
    go true p = absurd (other (sym is ∙ e ∙ by_length line true p))
    go false p = (ltb-false _ _ p, sym (by_length line false p) ∙ sym e ∙ is)

back : (line : List ℕ) (r t : Result (Option Command) LineFault) → r ≡ command_of line → length line ≤ 256 → command_by (words_of line) ≡ t → r ≡ t
back line r t e short is = e ∙ by_length line false (le-ltb _ _ short) ∙ is

pub command_law : (line : List ℕ) (r : Result (Option Command) LineFault) → r ≡ command_of line → (c : Command) → (r ≡ Ok (Some c)) ↔ ((length line ≤ 256) × Asks c (words_of line))
command_law line r e c =
    (λ is. let f = fit line r (Ok (Some c)) e (λ no. cc) is in (f.0, found (words_of line) c f.1), λ h. back line r (Ok (Some c)) e h.0 (again c (words_of line) h.1))

pub skipped_law : (line : List ℕ) (r : Result (Option Command) LineFault) → r ≡ command_of line → (r ≡ Ok None) ↔ ((length line ≤ 256) × IsSkipped (words_of line))
skipped_law line r e =
    (λ is. let f = fit line r (Ok None) e (λ no. cc) is in (f.0, skips (words_of line) f.1), λ h. back line r (Ok None) e h.0 (skipped_again (words_of line) h.1))

pub form_law : (line : List ℕ) (r : Result (Option Command) LineFault) → r ≡ command_of line
    → (r ≡ Err Form) ↔ ((length line ≤ 256) × ¬ IsSkipped (words_of line) × ((c : Command) → ¬ Asks c (words_of line)))
form_law line r e =
    (λ is. let f = fit line r (Err Form) e (λ no. cc) is in let n = no_form (words_of line) f.1 in (f.0, n.0, n.1), λ h. back line r (Err Form) e h.0 (form_again (words_of line) h.1 h.2))

pub too_long_law : (line : List ℕ) (r : Result (Option Command) LineFault) → r ≡ command_of line → (r ≡ Err TooLong) ↔ (256 < length line)
too_long_law line r e = (λ is. go (nat_lt 256 (length line)) refl is, λ long. e ∙ by_length line true (lt-ltb _ _ long))
  where
    go : (v : Bool) → nat_lt 256 (length line) ≡ v → r ≡ Err TooLong → 256 < length line
    go true p is = ltb-true _ _ p
    go false p is = absurd (not_long (words_of line) (sym (by_length line false p) ∙ sym e ∙ is))

-- a digit is no blank
digit-no-blank : (b : ℕ) → is_digit b ≡ true → is_blank b ≡ false
digit-no-blank b e = go (eqb b 32) (eqb b 9) refl refl
  where
    go : (x y : Bool) → eqb b 32 ≡ x → eqb b 9 ≡ y → is_blank b ≡ false
    go true y p q = absurd (let h = and_parts (nat_le 48 b) (nat_le b 57) e in let low = leb-true 48 b h.0 in let is = eqb-true b 32 p in omega arith)
    go false true p q = absurd (let h = and_parts (nat_le 48 b) (nat_le b 57) e in let low = leb-true 48 b h.0 in let is = eqb-true b 9 q in omega arith)
    go false false p q = rw (p, q) refl

digits-no-blank : (number : List ℕ) → list_all is_digit number ≡ true → HasNone is_blank number
digits-no-blank [] e = tt
digits-no-blank (b ∷ bs) e = let h = and_parts (is_digit b) (list_all is_digit bs) e in (digit-no-blank b h.0, digits-no-blank bs h.1)

command_is : (line : List ℕ) (words : List (List ℕ)) → nat_lt 256 (length line) ≡ false → words_of line ≡ words → command_of line ≡ command_by words
command_is line words short are = rw (short, are) refl

-- the usual form of a request for the token
pub plain_law : (number : List ℕ) (agent : ℕ) → small_number_of number ≡ Some agent → command_of (codes "token" ++ 32 ∷ number) ≡ Ok (Some (Token agent))
plain_law [] agent e = absurd cc
plain_law (b ∷ bs) agent e =
    let g = cond_some (are_digits (b ∷ bs) && nat_le (length (b ∷ bs)) 9) (decimal (b ∷ bs)) agent e in
    let both = and_parts (are_digits (b ∷ bs)) (nat_le (length (b ∷ bs)) 9) g.0 in
    let few = leb-true (length (b ∷ bs)) 9 both.1 in
    let none = digits-no-blank (b ∷ bs) both.0 in
    let words : words_of (codes "token" ++ 32 ∷ (b ∷ bs)) ≡ codes "token" ∷ (b ∷ bs) ∷ [] =
    words-word (codes "token") (b ∷ bs) 32 (refl, (refl, (refl, (refl, (refl, tt))))) (omega arith) refl ∙ ap (λ ws. codes "token" ∷ ws) (words-last (b ∷ bs) none (omega arith)) in
    let short : nat_lt 256 (length (codes "token" ++ 32 ∷ (b ∷ bs))) ≡ false = le-ltb 256 (length (codes "token" ++ 32 ∷ (b ∷ bs))) (omega arith) in
    let said : command_of (codes "token" ++ 32 ∷ (b ∷ bs)) ≡ formed (token_by (small_number_of (b ∷ bs))) = command_is (codes "token" ++ 32 ∷ (b ∷ bs)) (codes "token" ∷ (b ∷ bs) ∷ []) short words in
    let asks : formed (token_by (small_number_of (b ∷ bs))) ≡ Ok (Some (Token agent)) = rw e refl in
    said ∙ asks
