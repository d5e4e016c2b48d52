-- What follows the first word of a line: what is read is so written, and what is so written is read.
use Rattle.std.proofs.Common.{◌≡◌, ℕ, ◌<◌, ◌≤◌, ◌^◌, Bool, true, false, cond, ◌&&◌, ◌||◌, inl, inr, List, [], ◌∷◌, ◌++◌, map, length, Option, Some, None, decimal, codes, eqb, refl, sym, ap, ◌∙◌, subst, arith, lit<, lit≤}
use Rattle.std.proofs.Math.Dec.{leb as nat_le}
use Rattle.std.proofs.lemmas.Bool.{cases_lt, lt-ltb, leb-true, le-leb, eqb-true, eqb-false, ne_eqb, and_parts, and_from}
use Rattle.std.specs.List.{AllByRecursion, list_all}
use Rattle.wh_words.specs.Words.{is_plain, IsPlain}
use Rattle.wh_words.proofs.NumeralLemmas.{numeral_found, plain-decimal, wide_again}
use Rattle.wh_grid.specs.declared.cell.Cell.{Cell}
use Rattle.wh_log.specs.Reading.{◌>>=◌, literal_at, at_end, first_at, small_at, clock_at, wide_at}
use Rattle.wh_log.specs.Ranges.{IsSmall, IsClock}
use Rattle.wh_log.specs.Spelling.{cell_word}
use Rattle.wh_log.proofs.Steps.{bind_some, guard_some, some_is, by_name, literal_found, end_found, small_found, clock_at_found, wide_at_found, small_again, clock_at_again}
use Rattle.wh_front.specs.Sums.{is_sum_digit, is_sum, sum_of}
use Rattle.wh_front.specs.declared.before.Before.{Before}
use Rattle.wh_front.specs.declared.before.Before.TheVariants.{Nothing, Log}
use Rattle.wh_front.specs.declared.rules.Rules.{Rules}
use Rattle.wh_front.specs.declared.rules.Kind.{Kind}
use Rattle.wh_front.specs.declared.rules.Kind.TheVariants.{Whole, Stopped, Edited}
use Rattle.wh_front.specs.declared.front.Seat.{Seat}
use Rattle.wh_front.specs.declared.line.Line.{Line}
use Rattle.wh_front.specs.declared.line.Line.TheVariants as lines
use Rattle.wh_front.specs.Spelling.{before_words, ends_words, rules_words, open_word, kind_word, seat_words, line_words}
use Rattle.wh_front.specs.Ranges.{BeforeFits, RulesFit, SeatFits, IsAgents, LineFits, are_told}
use Rattle.wh_front.specs.Reading.{if_so, log_of, before_of, age_of, homes_of, ends_of, rules_of, closed_of, kind_of, state_of, agents_of, path_of, seat_of, cells_of, slots_of}
use Rattle.wh_front.proofs.WordLaws.{after, first_found, slots_again, slots_at_found, cells_found, cells_again, cells_plain, small_plain, clock_plain}

-- ---- the log before
abbrev IsBefore : List (List ℕ) → Before → Type 0
IsBefore words before = (words ≡ before_words before) × BeforeFits before

log_found : (number : ℕ) (words : List (List ℕ)) (y : Before) → 1 ≤ number → IsSmall number → log_of number words ≡ Some y → IsBefore (decimal number ∷ words) y
unfolding log_of
log_found number words y one small e =
    let a = bind_some (wide_at words) (λ bytes. first_at sum_of bytes.1 >>= λ sum. at_end sum.1 (Log number bytes.0 sum.0)) y e in
    let b = bind_some (first_at sum_of a.0.1) (λ sum. at_end sum.1 (Log number a.0.0 sum.0)) y a.2 in
    let d = end_found b.0.1 (Log number a.0.0 b.0.0) y b.2 in
    let w = wide_at_found words a.0 a.1 in
    let f = first_found sum_of a.0.1 b.0 b.1 in
    let s = guard_some (is_sum f.0) f.0 b.0.0 f.2 in
    let sum : is_sum b.0.0 ≡ true = subst (λ (t : List ℕ). is_sum t ≡ true) s.1 s.0 in
    let last : a.0.1 ≡ b.0.0 ∷ [] = f.1 ∙ ap (λ (t : List ℕ). t ∷ b.0.1) s.1 ∙ after b.0.0 b.0.1 [] d.0 in
    let whole : words ≡ decimal a.0.0 ∷ b.0.0 ∷ [] = w.0 ∙ after (decimal a.0.0) a.0.1 (b.0.0 ∷ []) last in
    subst (IsBefore (decimal number ∷ words)) d.1 (after (decimal number) words (decimal a.0.0 ∷ b.0.0 ∷ []) whole, (one, small, w.1, sum))

pub before_found : (words : List (List ℕ)) (y : Before) → before_of words ≡ Some y → (words ≡ before_words y) × BeforeFits y
unfolding before_of
before_found words y e =
    let a = bind_some (small_at words) (λ number. cond (eqb number.0 0) (at_end number.1 Nothing) (log_of number.0 number.1)) y e in
    let n = small_found words a.0 a.1 in
    subst (λ ws. IsBefore ws y) (sym n.0) (go a.0.0 a.0.1 n.1 (eqb a.0.0 0) refl a.2)
  where
    go : (number : ℕ) (words : List (List ℕ)) → IsSmall number → (v : Bool) → eqb number 0 ≡ v → cond v (at_end words Nothing) (log_of number words) ≡ Some y → IsBefore (decimal number ∷ words) y
    go number words small true is e =
        let d = end_found words Nothing y e in
        let zero : number ≡ 0 = eqb-true _ _ is in
        let digit = numeral_found 9 (codes "0") 0 (lit≤ tt) refl in
        subst (IsBefore (decimal number ∷ words)) d.1 (after (decimal number) words [] d.0 ∙ ap (λ (n : ℕ). decimal n ∷ []) zero ∙ ap (λ (word : List ℕ). word ∷ []) (sym digit.0), tt)
    go number words small false is e = log_found number words y (some (eqb-false _ _ is)) small e
      where
        some : (number ≡ 0 → ⊥) → 1 ≤ number
        some other = elim (cases_lt 0 number) [
          | inl lt ↦ omega (arith, lt)
          | inr le ↦ absurd (other (omega (arith, le)))
        ]

pub before_again : (before : Before) → BeforeFits before → before_of (before_words before) ≡ Some before
unfolding before_of log_of
before_again Nothing h = refl
before_again (Log number bytes sum) h =
    let some : eqb number 0 ≡ false = ne_eqb number 0 (λ e. absurd (omega (arith, h.0))) in
    rw (small_again number h.1, some, wide_again bytes h.2, h.3) refl

-- ---- the rules
abbrev AreRules : List (List ℕ) → Rules → Type 0
AreRules words rules = (words ≡ rules_words rules) × RulesFit rules × (are_told rules.homes rules.age ≡ true)

told_age : (homes : Bool) (age : ℕ) → are_told homes (Some age) ≡ true
told_age true age = refl
told_age false age = refl

age_found : (homes : Bool) (words : List (List ℕ)) (y : Rules) → age_of homes words ≡ Some y → AreRules (ends_words homes ++ codes "age" ∷ words) y
unfolding age_of
age_found homes words y e =
    let a = bind_some (clock_at words) (λ age. if_so (nat_le 1 age.0) age.0 >>= λ some. at_end age.1 (record { homes = homes; age = Some some })) y e in
    let b = bind_some (if_so (nat_le 1 a.0.0) a.0.0) (λ some. at_end a.0.1 (record { homes = homes; age = Some some })) y a.2 in
    let g = guard_some (nat_le 1 a.0.0) a.0.0 b.0 b.1 in
    let made : Rules = record { homes = homes; age = Some b.0 } in
    let d = end_found a.0.1 made y b.2 in
    let c = clock_at_found words a.0 a.1 in
    let one : 1 ≤ b.0 = subst (λ (n : ℕ). 1 ≤ n) g.1 (leb-true _ _ g.0) in
    let last : IsClock b.0 = subst IsClock g.1 c.1 in
    let whole : words ≡ decimal b.0 ∷ [] = c.0 ∙ after (decimal a.0.0) a.0.1 [] d.0 ∙ ap (λ (n : ℕ). decimal n ∷ []) g.1 in
    let all : ends_words homes ++ codes "age" ∷ words ≡ rules_words made = ap (λ (ws : List (List ℕ)). ends_words homes ++ codes "age" ∷ ws) whole in
    subst (AreRules (ends_words homes ++ codes "age" ∷ words)) d.1 (all, (one, last), told_age homes b.0)

homes_found : (words : List (List ℕ)) (y : Rules) → homes_of words ≡ Some y → AreRules (codes "ends" ∷ codes "homes" ∷ words) y
unfolding homes_of
homes_found [] y e =
    let made : Rules = record { homes = true; age = None } in
    subst (AreRules (codes "ends" ∷ codes "homes" ∷ [])) (some_is made y e) (refl, tt, refl)
homes_found (word ∷ words) y e =
    let P : List ℕ → Type 0 = λ n. AreRules (codes "ends" ∷ codes "homes" ∷ n ∷ words) y in
    by_name P word (codes "age") _ _ y e (age_found true words y) (λ e. absurd cc)

pub rules_found : (words : List (List ℕ)) (y : Rules) → rules_of words ≡ Some y → (words ≡ rules_words y) × RulesFit y × (are_told y.homes y.age ≡ true)
unfolding rules_of ends_of
rules_found [] y e = absurd cc
rules_found (word ∷ words) y e =
    let P : List ℕ → Type 0 = λ n. AreRules (n ∷ words) y in
    by_name P word (codes "ends") _ _ y e (λ e.
    let a = bind_some (literal_at (codes "homes") words) homes_of y e in
    let l = literal_found (codes "homes") words a.0 a.1 in
    subst (λ ws. AreRules (codes "ends" ∷ ws) y) (sym l) (homes_found a.0 y a.2)) (λ e.
    by_name P word (codes "age") _ _ y e (age_found false words y) (λ e. absurd cc))

pub rules_again : (rules : Rules) → RulesFit rules → are_told rules.homes rules.age ≡ true → rules_of (rules_words rules) ≡ Some rules
unfolding rules_of ends_of homes_of age_of
rules_again rules h told = go rules.homes rules.age h told
  where
    go : (homes : Bool) (age : Option ℕ) → let r : Rules = record { homes = homes; age = age } in RulesFit r → are_told homes age ≡ true → rules_of (rules_words r) ≡ Some r
    go true None h told = refl
    go true (Some age) h told = let one : nat_le 1 age ≡ true = le-leb _ _ h.0 in rw (clock_at_again age [] h.1, one) refl
    go false None h told = absurd cc
    go false (Some age) h told = let one : nat_le 1 age ≡ true = le-leb _ _ h.0 in rw (clock_at_again age [] h.1, one) refl

-- ---- the state
closed_found : (word : List ℕ) (y : Bool) → closed_of word ≡ Some y → word ≡ open_word y
closed_found word y e =
    by_name (λ w. w ≡ open_word y) word (codes "open") _ _ y e (λ e. ap open_word (some_is false y e)) (λ e.
    by_name (λ w. w ≡ open_word y) word (codes "closed") _ _ y e (λ e. ap open_word (some_is true y e)) (λ e. absurd cc))

kind_found : (word : List ℕ) (y : Kind) → kind_of word ≡ Some y → word ≡ kind_word y
kind_found word y e =
    by_name (λ w. w ≡ kind_word y) word (codes "whole") _ _ y e (λ e. ap kind_word (some_is Whole y e)) (λ e.
    by_name (λ w. w ≡ kind_word y) word (codes "stopped") _ _ y e (λ e. ap kind_word (some_is Stopped y e)) (λ e.
    by_name (λ w. w ≡ kind_word y) word (codes "edited") _ _ y e (λ e. ap kind_word (some_is Edited y e)) (λ e. absurd cc)))

closed_again : (closed : Bool) → closed_of (open_word closed) ≡ Some closed
closed_again true = refl
closed_again false = refl

kind_again : (kind : Kind) → kind_of (kind_word kind) ≡ Some kind
kind_again Whole = refl
kind_again Stopped = refl
kind_again Edited = refl

pub state_found : (words : List (List ℕ)) (y : Line) → state_of words ≡ Some y → (codes "state" ∷ words ≡ line_words y) × LineFits y
unfolding state_of
state_found words y e =
    let a = bind_some (clock_at words) (λ clock. first_at closed_of clock.1 >>= λ closed. first_at kind_of closed.1 >>= λ kind. at_end kind.1 (lines.State clock.0 closed.0 kind.0)) y e in
    let b = bind_some (first_at closed_of a.0.1) (λ closed. first_at kind_of closed.1 >>= λ kind. at_end kind.1 (lines.State a.0.0 closed.0 kind.0)) y a.2 in
    let c = bind_some (first_at kind_of b.0.1) (λ kind. at_end kind.1 (lines.State a.0.0 b.0.0 kind.0)) y b.2 in
    let d = end_found c.0.1 (lines.State a.0.0 b.0.0 c.0.0) y c.2 in
    let clock = clock_at_found words a.0 a.1 in
    let f = first_found closed_of a.0.1 b.0 b.1 in
    let g = first_found kind_of b.0.1 c.0 c.1 in
    let kind : b.0.1 ≡ kind_word c.0.0 ∷ [] = g.1 ∙ ap (λ (t : List ℕ). t ∷ c.0.1) (kind_found g.0 c.0.0 g.2) ∙ after (kind_word c.0.0) c.0.1 [] d.0 in
    let closed : a.0.1 ≡ open_word b.0.0 ∷ kind_word c.0.0 ∷ [] = f.1 ∙ ap (λ (t : List ℕ). t ∷ b.0.1) (closed_found f.0 b.0.0 f.2) ∙ after (open_word b.0.0) b.0.1 (kind_word c.0.0 ∷ []) kind in
    let whole : words ≡ decimal a.0.0 ∷ open_word b.0.0 ∷ kind_word c.0.0 ∷ [] = clock.0 ∙ after (decimal a.0.0) a.0.1 (open_word b.0.0 ∷ kind_word c.0.0 ∷ []) closed in
    subst (λ (l : Line). (codes "state" ∷ words ≡ line_words l) × LineFits l) d.1 (after (codes "state") words (decimal a.0.0 ∷ open_word b.0.0 ∷ kind_word c.0.0 ∷ []) whole, clock.1)

pub state_again : (clock : ℕ) (closed : Bool) (kind : Kind) → IsClock clock → state_of (decimal clock ∷ open_word closed ∷ kind_word kind ∷ []) ≡ Some (lines.State clock closed kind)
unfolding state_of
state_again clock closed kind h = rw (clock_at_again clock (open_word closed ∷ kind_word kind ∷ []) h, closed_again closed, kind_again kind) refl

-- ---- agents
pub agents_found : (words : List (List ℕ)) (y : ℕ) → agents_of words ≡ Some y → (words ≡ decimal y ∷ []) × IsAgents y
unfolding agents_of
agents_found words y e =
    let a = bind_some (small_at words) (λ count. if_so (nat_le 1 count.0 && nat_le count.0 256) count.0 >>= λ agents. at_end count.1 agents) y e in
    let b = bind_some (if_so (nat_le 1 a.0.0 && nat_le a.0.0 256) a.0.0) (λ agents. at_end a.0.1 agents) y a.2 in
    let g = guard_some (nat_le 1 a.0.0 && nat_le a.0.0 256) a.0.0 b.0 b.1 in
    let both = and_parts (nat_le 1 a.0.0) (nat_le a.0.0 256) g.0 in
    let d = end_found a.0.1 b.0 y b.2 in
    let n = small_found words a.0 a.1 in
    let whole : words ≡ decimal a.0.0 ∷ [] = n.0 ∙ after (decimal a.0.0) a.0.1 [] d.0 in
    subst (λ (k : ℕ). (words ≡ decimal k ∷ []) × IsAgents k) (g.1 ∙ d.1) (whole, (leb-true _ _ both.0, leb-true _ _ both.1))

pub agents_again : (count : ℕ) → IsAgents count → agents_of (decimal count ∷ []) ≡ Some count
unfolding agents_of
agents_again count h =
    let limit : 256 < 10 ^ 9 = lit< tt in
    let low : nat_le 1 count ≡ true = le-leb _ _ h.0 in
    let high : nat_le count 256 ≡ true = le-leb _ _ h.1 in
    rw (small_again count (omega (arith, h.1)), low, high) refl

pub seat_found : (words : List (List ℕ)) (y : Seat) → seat_of words ≡ Some y → (words ≡ seat_words y) × SeatFits y
unfolding seat_of path_of
seat_found words y e =
    let a = bind_some (literal_at (codes "slots") words) (λ r. first_at slots_of r >>= λ slots. literal_at (codes "path") slots.1 >>= λ s. path_of s >>= λ path. Some (record { slots = slots.0; path = path })) y e in
    let b = bind_some (first_at slots_of a.0) (λ slots. literal_at (codes "path") slots.1 >>= λ s. path_of s >>= λ path. Some (record { slots = slots.0; path = path })) y a.2 in
    let c = bind_some (literal_at (codes "path") b.0.1) (λ s. path_of s >>= λ path. Some (record { slots = b.0.0; path = path })) y b.2 in
    let d = bind_some (path_of c.0) (λ path. Some (record { slots = b.0.0; path = path })) y c.2 in
    let f = bind_some (cells_of c.0) (λ cells. if_so (nat_le 1 (length cells)) cells) d.0 d.1 in
    let g = guard_some (nat_le 1 (length f.0)) f.0 d.0 f.2 in
    let cells = cells_found c.0 f.0 f.1 in
    let slots = slots_at_found a.0 b.0 b.1 in
    let made : Seat = record { slots = b.0.0; path = f.0 } in
    let path : b.0.1 ≡ codes "path" ∷ map cell_word f.0 = literal_found (codes "path") b.0.1 c.0 c.1 ∙ after (codes "path") c.0 (map cell_word f.0) cells.0 in
    let whole : words ≡ seat_words made =
    literal_found (codes "slots") words a.0 a.1 ∙ after (codes "slots") a.0 (decimal b.0.0 ∷ codes "path" ∷ map cell_word f.0) (slots.0 ∙ after (decimal b.0.0) b.0.1 (codes "path" ∷ map cell_word f.0) path) in
    let fits : SeatFits made = record { slots = slots.1; some = leb-true _ _ g.0; cells = cells.1 } in
    let same : made ≡ y = ap (λ (p : List Cell). let s : Seat = record { slots = b.0.0; path = p } in s) g.1 ∙ some_is (record { slots = b.0.0; path = d.0 }) y d.2 in
    subst (λ (s : Seat). (words ≡ seat_words s) × SeatFits s) same (whole, fits)

pub seat_again : (seat : Seat) → SeatFits seat → seat_of (seat_words seat) ≡ Some seat
unfolding seat_of path_of
seat_again seat h =
    let some : nat_le 1 (length seat.path) ≡ true = le-leb _ _ h.some in
    rw (slots_again seat.slots h.slots, cells_again seat.path h.cells, some) refl

-- ---- no space and no line feed stands in them
sum_plain : (sum : List ℕ) → is_sum sum ≡ true → IsPlain sum
sum_plain sum h = go sum ((and_parts (eqb (length sum) 64) (list_all is_sum_digit sum) h).1)
  where
    low : (b : ℕ) → is_sum_digit b ≡ true → is_plain b ≡ true
    low b h = digit (nat_le 48 b && nat_le b 57) refl h
      where
        digit : (v : Bool) → (nat_le 48 b && nat_le b 57) ≡ v → (v || (nat_le 97 b && nat_le b 102)) ≡ true → is_plain b ≡ true
        digit true is h = let low : 48 ≤ b = leb-true _ _ ((and_parts (nat_le 48 b) (nat_le b 57) is).0) in lt-ltb _ _ (omega arith)
        digit false is h = let low : 97 ≤ b = leb-true _ _ ((and_parts (nat_le 97 b) (nat_le b 102) h).0) in lt-ltb _ _ (omega arith)

    go : (ds : List ℕ) → list_all is_sum_digit ds ≡ true → IsPlain ds
    go [] h = refl
    go (d ∷ ds) h = let b = and_parts (is_sum_digit d) (list_all is_sum_digit ds) h in and_from (is_plain d) (list_all is_plain ds) (low d b.0) (go ds b.1)

pub before_plain : (before : Before) → BeforeFits before → AllByRecursion IsPlain (before_words before)
before_plain Nothing h = (refl, tt)
before_plain (Log number bytes sum) h = (small_plain number h.1, (plain-decimal bytes h.2, (sum_plain sum h.3, tt)))

pub rules_plain : (rules : Rules) → RulesFit rules → AllByRecursion IsPlain (rules_words rules)
rules_plain rules h = go rules.homes rules.age h
  where
    go : (homes : Bool) (age : Option ℕ) → let r : Rules = record { homes = homes; age = age } in RulesFit r → AllByRecursion IsPlain (rules_words r)
    go true None h = (refl, (refl, tt))
    go true (Some age) h = (refl, (refl, (refl, (clock_plain age h.1, tt))))
    go false None h = tt
    go false (Some age) h = (refl, (clock_plain age h.1, tt))

pub state_plain : (clock : ℕ) (closed : Bool) (kind : Kind) → IsClock clock → AllByRecursion IsPlain (decimal clock ∷ open_word closed ∷ kind_word kind ∷ [])
state_plain clock closed kind h = (clock_plain clock h, (closed_plain closed, (kind_plain kind, tt)))
  where
    closed_plain : (closed : Bool) → IsPlain (open_word closed)
    closed_plain true = refl
    closed_plain false = refl

    kind_plain : (kind : Kind) → IsPlain (kind_word kind)
    kind_plain Whole = refl
    kind_plain Stopped = refl
    kind_plain Edited = refl

pub seat_plain : (seat : Seat) → SeatFits seat → AllByRecursion IsPlain (seat_words seat)
seat_plain seat h = let limit : 2 ^ 32 < 2 ^ 64 = lit< tt in (refl, (plain-decimal seat.slots (omega (arith, h.slots)), (refl, cells_plain seat.path h.cells)))
