-- The other way: settings that a command's options and switches take are not refused.
use Rattle.std.proofs.Common.{◌≡◌, ℕ, List, [], ◌∷◌, ◌++◌, take, drop, refl, sym, ap, ap₂, ◌∙◌, Bool, true, false, cond, None, Some, Option, subst, inl, inr, codes, suc, arith, ◌==◌, ◌||◌, not, ◌+◌, append_assoc}
use Rattle.std.specs.List.{after_first, before_first, flat_map, position_or_len}
use Rattle.std.specs.Option.{option_map_or}
use Rattle.std.specs.Str.{bytes_eq, chars}
use Rattle.clap.specs.Lexer.{has_byte, long_of, name_and_value, short_of}
use Rattle.clap.specs.Kinds.{Kinds, or_else}
use Rattle.clap.specs.Walk.{Held, Outcome, Row, Rule, Step, Text, Walk, after_flag, after_step, arg_by_id, arg_by_long, bundle, idle, long_met, long_or_other, option, plain_word, settled, short_or_plain, trailing, used, walked}
use Rattle.clap.specs.Faults.{bundle_fault, flag_word_fault, long_fault, settle_fault, step_fault, turn_fault, use_fault, walk_fault}
use Rattle.clap.specs.Simple.{Shape}
use Rattle.wh_options.specs.Setting.{Closes, IsInPlace, Setting, Spelling, alone, apart, is_flag, joined, spelled}
use Rattle.wh_options.proofs.Flags.{silent, unflagged}
use Rattle.wh_options.proofs.Shapes.{before_whole, is_equals}
use Rattle.wh_options.proofs.Leaf.{ArePlain, IsOption, IsSwitch, Suits, held_by}
use Rattle.wh_options.proofs.Turns.{given_after, held, idle_at, option_at, option_takes, switch_takes_none}
use Rattle.wh_options.proofs.Words.{IsFine, by_id, self_same}
use Rattle.wh_options.proofs.Rows.{either_false}

or_true : (a b : Bool) → b ≡ true → (a || b) ≡ true
or_true true b e = refl
or_true false b e = e

-- ---- words

equals_cons : (x : ℕ) (ws v : List ℕ) (n : ℕ) (b : Bool) → is_equals x ≡ b → b ≡ false
    → (cut : List ℕ) → take n cut ≡ ws → drop (n + 1) cut ≡ v
    → (take (cond (not b) (1 + n) 0) (x ∷ cut) ≡ x ∷ ws) × (drop (cond (not b) (1 + n) 0 + 1) (x ∷ cut) ≡ v)
equals_cons x ws v n true e never cut front back = cc
equals_cons x ws v n false e never cut front back =
    let one : suc n ≡ 1 + n = omega arith in
    let two : suc (n + 1) ≡ 1 + n + 1 = omega arith in
    (subst (λ k. take k (x ∷ cut) ≡ x ∷ ws) one (ap (λ l. x ∷ l) front), subst (λ k. drop k (x ∷ cut) ≡ v) two back)

-- a name without `=`, an `=` and a value are cut there
pub cut_at_equals : (name v : List ℕ) → has_byte 61 name ≡ false → (before_first is_equals (name ++ 61 ∷ v) ≡ name) × (after_first is_equals (name ++ 61 ∷ v) ≡ v)
cut_at_equals [] v e = (refl, refl)
cut_at_equals (x ∷ xs) v e =
    let both = either_false (is_equals x) (has_byte 61 xs) e in
    let rest = cut_at_equals xs v both.1 in
    equals_cons x xs v (position_or_len is_equals (xs ++ 61 ∷ v)) (is_equals x) refl both.0 (xs ++ 61 ∷ v) rest.0 rest.1

pub has_equals : (name v : List ℕ) → has_byte 61 (name ++ 61 ∷ v) ≡ true
has_equals [] v = refl
has_equals (x ∷ xs) v = or_true (x == 61) _ (has_equals xs v)

-- a word `--name=value`
joined_word : (name v : List ℕ) → has_byte 61 name ≡ false → long_of (codes "--" ++ (name ++ (codes "=" ++ v))) ≡ Some (name, Some v)
joined_word name v e = go name v e
  where
    pair : (name v : List ℕ) → has_byte 61 name ≡ false → ◌≡◌ {A = List ℕ × Option (List ℕ)} (name_and_value (name ++ 61 ∷ v)) (name, Some v)
    pair name v e =
        let c = cut_at_equals name v e in
        rw (has_equals name v) (ap₂ (λ a b. (a, Some b)) c.0 c.1)

    go : (name v : List ℕ) → has_byte 61 name ≡ false → long_of (codes "--" ++ (name ++ (codes "=" ++ v))) ≡ Some (name, Some v)
    go [] v e = ap (λ p. Some p) (pair [] v e)
    go (x ∷ xs) v e = ap (λ p. Some p) (pair (x ∷ xs) v e)

joined_is_no_end : (name v : List ℕ) → bytes_eq (codes "--" ++ (name ++ (codes "=" ++ v))) (codes "--") ≡ false
joined_is_no_end [] v = refl
joined_is_no_end (x ∷ xs) v = refl

-- a word `--name`
apart_word : (x : ℕ) (xs : List ℕ) → has_byte 61 (x ∷ xs) ≡ false → long_of (codes "--" ++ x ∷ xs) ≡ Some (x ∷ xs, None)
apart_word x xs e =
    let pair : ◌≡◌ {A = List ℕ × Option (List ℕ)} (name_and_value (x ∷ xs)) (x ∷ xs, None) = rw e (ap (λ a. (a, None)) (before_whole (x ∷ xs) e)) in
    ap (λ p. Some p) pair

-- ---- turns

pub none_both : (a b : Kinds) → a ≡ [] → b ≡ [] → or_else a b ≡ []
none_both a b p q = rw p q

abbrev idle_step : Shape → List Row → Option (Text × List Text) → ℕ → Text → Bool → Option (Text × Option Text) → Held × Step
idle_step s rows pending pos w d l = cond d (held rows pending, trailing pos) (long_or_other s.rules idle w l (held rows pending))

abbrev IdleGoes : Shape → List Row → Option (Text × List Text) → ℕ → Text → Walk → Bool → Option (Text × Option Text) → Type 0
IdleGoes s rows pending pos w after d l =
    (or_else (cond d [] (flag_word_fault s.rules s.args_override_self l w (held rows pending))) (step_fault s pos (idle_step s rows pending pos w d l).0 (idle_step s rows pending pos w d l).1) ≡ [])
    × (after_step s.rules w (idle_at rows pending pos) (idle_step s rows pending pos w d l).0 (idle_step s rows pending pos w d l).1 ≡ after)

idle_goes : (s : Shape) (rows : List Row) (pending : Option (Text × List Text)) (pos : ℕ) (w : Text) (after : Walk) (l : Option (Text × Option Text))
    → bytes_eq w (codes "--") ≡ false → long_of w ≡ l → IdleGoes s rows pending pos w after false l
    → (turn_fault s [] (idle_at rows pending pos) w ≡ []) × (walked s.rules [] (idle_at rows pending pos) w ≡ after)
unfolding walked
idle_goes s rows pending pos w after l d e goes =
    subst (λ b. IdleGoes s rows pending pos w after b (long_of w)) (sym d) (subst (λ k. IdleGoes s rows pending pos w after false k) (sym e) goes)

abbrev LongGoes : Shape → List Row → Option (Text × List Text) → ℕ → Text → Option Text → Walk → Option Rule → Type 0
LongGoes s rows pending pos w v after o =
    let met = long_met s.rules o v (held rows pending) in
    let stepped = after_flag s.rules idle w met.0 met.1 in
    (or_else (long_fault s.rules s.args_override_self o v (held rows pending)) (step_fault s pos stepped.0 stepped.1) ≡ [])
    × (after_step s.rules w (idle_at rows pending pos) stepped.0 stepped.1 ≡ after)

joined_goes : (s : Shape) (rows : List Row) (pending : Option (Text × List Text)) (pos : ℕ) (w v : Text) (a : Rule) → IsOption a
    → settle_fault s.rules s.args_override_self (held rows pending) ≡ [] → use_fault s.args_override_self a (v ∷ []) (settled s.rules (held rows pending)).rows ≡ []
    → LongGoes s rows pending pos w (Some v) (idle_at (used a (v ∷ []) (settled s.rules (held rows pending)).rows) None pos) (Some a)
joined_goes s rows pending pos w v a opt settles passes = rw (option_takes a opt) (none_both _ _ (none_both _ _ settles passes) refl, refl)

opens_goes : (s : Shape) (rows : List Row) (pending : Option (Text × List Text)) (pos : ℕ) (w : Text) (a : Rule) → IsOption a
    → settle_fault s.rules s.args_override_self (held rows pending) ≡ []
    → LongGoes s rows pending pos w None (option_at (settled s.rules (held rows pending)).rows a.id pos) (Some a)
opens_goes s rows pending pos w a opt settles = rw (option_takes a opt) (none_both _ _ settles refl, refl)

alone_goes : (s : Shape) (rows : List Row) (pending : Option (Text × List Text)) (pos : ℕ) (w : Text) (a : Rule) → IsSwitch a
    → settle_fault s.rules s.args_override_self (held rows pending) ≡ [] → use_fault s.args_override_self a [] (settled s.rules (held rows pending)).rows ≡ []
    → LongGoes s rows pending pos w None (idle_at (used a [] (settled s.rules (held rows pending)).rows) None pos) (Some a)
alone_goes s rows pending pos w a switch settles passes = rw (switch_takes_none a switch) (none_both _ _ (none_both _ _ settles passes) refl, refl)

joined_turn : (s : Shape) (rows : List Row) (pending : Option (Text × List Text)) (pos : ℕ) (name v : Text) (a : Rule) → has_byte 61 name ≡ false → arg_by_long s.rules name ≡ Some a → IsOption a
    → settle_fault s.rules s.args_override_self (held rows pending) ≡ [] → use_fault s.args_override_self a (v ∷ []) (settled s.rules (held rows pending)).rows ≡ []
    → (let w = codes "--" ++ (name ++ (codes "=" ++ v)) in (turn_fault s [] (idle_at rows pending pos) w ≡ [])
    × (walked s.rules [] (idle_at rows pending pos) w ≡ idle_at (used a (v ∷ []) (settled s.rules (held rows pending)).rows) None pos))
joined_turn s rows pending pos name v a plain found opt settles passes =
    let w = codes "--" ++ (name ++ (codes "=" ++ v)) in
    let after = idle_at (used a (v ∷ []) (settled s.rules (held rows pending)).rows) None pos in
    idle_goes s rows pending pos w after (Some (name, Some v)) (joined_is_no_end name v) (joined_word name v plain)
    (subst (λ o. LongGoes s rows pending pos w (Some v) after o) (sym found) (joined_goes s rows pending pos w v a opt settles passes))

opens_turn : (s : Shape) (rows : List Row) (pending : Option (Text × List Text)) (pos x : ℕ) (xs : Text) (a : Rule) → has_byte 61 (x ∷ xs) ≡ false → arg_by_long s.rules (x ∷ xs) ≡ Some a → IsOption a
    → settle_fault s.rules s.args_override_self (held rows pending) ≡ []
    → (turn_fault s [] (idle_at rows pending pos) (codes "--" ++ x ∷ xs) ≡ [])
    × (walked s.rules [] (idle_at rows pending pos) (codes "--" ++ x ∷ xs) ≡ option_at (settled s.rules (held rows pending)).rows a.id pos)
opens_turn s rows pending pos x xs a plain found opt settles =
    let w = codes "--" ++ x ∷ xs in
    let after = option_at (settled s.rules (held rows pending)).rows a.id pos in
    idle_goes s rows pending pos w after (Some (x ∷ xs, None)) refl (apart_word x xs plain)
    (subst (λ o. LongGoes s rows pending pos w None after o) (sym found) (opens_goes s rows pending pos w a opt settles))

alone_turn : (s : Shape) (rows : List Row) (pending : Option (Text × List Text)) (pos x : ℕ) (xs : Text) (a : Rule) → has_byte 61 (x ∷ xs) ≡ false → arg_by_long s.rules (x ∷ xs) ≡ Some a → IsSwitch a
    → settle_fault s.rules s.args_override_self (held rows pending) ≡ [] → use_fault s.args_override_self a [] (settled s.rules (held rows pending)).rows ≡ []
    → (turn_fault s [] (idle_at rows pending pos) (codes "--" ++ x ∷ xs) ≡ [])
    × (walked s.rules [] (idle_at rows pending pos) (codes "--" ++ x ∷ xs) ≡ idle_at (used a [] (settled s.rules (held rows pending)).rows) None pos)
alone_turn s rows pending pos x xs a plain found switch settles passes =
    let w = codes "--" ++ x ∷ xs in
    let after = idle_at (used a [] (settled s.rules (held rows pending)).rows) None pos in
    idle_goes s rows pending pos w after (Some (x ∷ xs, None)) refl (apart_word x xs plain)
    (subst (λ o. LongGoes s rows pending pos w None after o) (sym found) (alone_goes s rows pending pos w a switch settles passes))

abbrev ShortGoes : Shape → List Row → Text → ℕ → Text → Walk → Option Text → Type 0
ShortGoes s rows id pos v after sh =
    let h = held rows (Some (id, [])) in
    let stepped = short_or_plain s.rules (option id) v sh h in
    (or_else (option_map_or (λ flags. bundle_fault s.rules s.args_override_self flags h) sh []) (step_fault s pos stepped.0 stepped.1) ≡ [])
    × (after_step s.rules v (option_at rows id pos) stepped.0 stepped.1 ≡ after)

abbrev OptionGoes : Shape → List Row → Text → ℕ → Text → Walk → Bool → Option (Text × Option Text) → Type 0
OptionGoes s rows id pos v after d l =
    let h = held rows (Some (id, [])) in
    let stepped : Held × Step = cond d (h, trailing pos) (long_or_other s.rules (option id) v l h) in
    (or_else (cond d [] (flag_word_fault s.rules s.args_override_self l v h)) (step_fault s pos stepped.0 stepped.1) ≡ [])
    × (after_step s.rules v (option_at rows id pos) stepped.0 stepped.1 ≡ after)

-- short flags without a character are a value as any
short_goes : (s : Shape) (rows : List Row) (pos : ℕ) (v : Text) (a : Rule) (sh : Option Text) → ((flags : Text) → sh ≡ Some flags → chars flags ≡ []) → arg_by_id s.rules a.id ≡ Some a → IsOption a
    → ShortGoes s rows a.id pos v (idle_at rows (Some (a.id, v ∷ [])) pos) sh
short_goes s rows pos v a None none found opt = (refl, given_after s rows a.id pos v a opt (self_same a.id) found)
short_goes s rows pos v a (Some flags) none found opt =
    let h = held rows (Some (a.id, [])) in
    let quiet = silent s.rules s.args_override_self flags h (none flags refl) in
    let same : after_flag s.rules (option a.id) v (bundle s.rules flags h).0 (bundle s.rules flags h).1 ≡ plain_word s.rules (option a.id) v h =
    ap (λ (p : Held × Outcome). after_flag s.rules (option a.id) v p.0 p.1) quiet.1 in (
      none_both _ _ quiet.0 (subst (λ (p : Held × Step). step_fault s pos p.0 p.1 ≡ []) (sym same) refl),
      ap (λ (p : Held × Step). after_step s.rules v (option_at rows a.id pos) p.0 p.1) same ∙ given_after s rows a.id pos v a opt (self_same a.id) found,
    )

value_turn : (s : Shape) (rows : List Row) (pos : ℕ) (v : Text) (a : Rule) → is_flag v ≡ false → arg_by_id s.rules a.id ≡ Some a → IsOption a
    → (turn_fault s [] (option_at rows a.id pos) v ≡ []) × (walked s.rules [] (option_at rows a.id pos) v ≡ idle_at rows (Some (a.id, v ∷ [])) pos)
unfolding walked
value_turn s rows pos v a plain found opt =
    let after = idle_at rows (Some (a.id, v ∷ [])) pos in
    let u = unflagged v plain in
    let none : OptionGoes s rows a.id pos v after false None = short_goes s rows pos v a (short_of v) u.no_short found opt in
    subst (λ b. OptionGoes s rows a.id pos v after b (long_of v)) (sym u.no_end)
    (subst (λ l. OptionGoes s rows a.id pos v after false l) (sym u.no_long) none)

-- ---- many settings

-- the setting is of an option or switch, which takes its value after these rows
pub record CanTake (s : Shape) (x : Setting) (rows : List Row) : Type 0 where
  pub rule : Rule
  pub found : arg_by_long s.rules x.name ≡ Some rule
  pub suits : Suits x.way rule
  pub passes : use_fault s.args_override_self rule (held_by x.way x.value) rows ≡ []
  pub first : ℕ
  pub others : Text
  pub named : x.name ≡ first ∷ others
  pub no_equals : has_byte 61 x.name ≡ false
  pub in_place : IsInPlace x

pub record TakesAll (s : Shape) (x : Setting) (rows : List Row) (Rest : List Row → Type 0) : Type 0 where
  pub now : CanTake s x rows
  pub later : Rest (used now.rule (held_by x.way x.value) rows)

abbrev pub AllTaken : Shape → List Setting → List Row → Type 0
AllTaken s [] rows = Unit {0}
AllTaken s (x ∷ xs) rows = TakesAll s x rows (AllTaken s xs)

fine_cons : (s : Shape) (w after : Walk) (word : Text) (rest : List Text) → turn_fault s [] w word ≡ [] → walked s.rules [] w word ≡ after → IsFine s after rest → IsFine s w (word ∷ rest)
unfolding walk_fault
fine_cons s w after word rest turn is f =
    let here : IsFine s (walked s.rules [] w word) rest = subst (λ (x : Walk). IsFine s x rest) (sym is) f in
    record { walks = none_both _ _ turn here.walks; ends = here.ends }

end_fine : (s : Shape) (rows : List Row) (pending : Option (Text × List Text)) (pos : ℕ) (rest : List Text) → Closes rest → settle_fault s.rules s.args_override_self (held rows pending) ≡ []
    → IsFine s (idle_at rows pending pos) rest
unfolding walk_fault walked
end_fine s rows pending pos rest (inl none) settles = subst (λ l. IsFine s (idle_at rows pending pos) l) (sym none) (record { walks = refl; ends = settles })
end_fine s rows pending pos rest (inr one) settles = subst (λ l. IsFine s (idle_at rows pending pos) l) (sym one) (record { walks = refl; ends = settles })

abbrev Fine : Shape → List Text → List Setting → Type 0
Fine s rest xs = (rows : List Row) (pending : Option (Text × List Text)) (pos : ℕ) → settle_fault s.rules s.args_override_self (held rows pending) ≡ []
    → AllTaken s xs (settled s.rules (held rows pending)).rows → IsFine s (idle_at rows pending pos) (flat_map spelled xs ++ rest)

setting_fine : (s : Shape) (rest : List Text) (name value : Text) (way : Spelling) (xs : List Setting) → ArePlain s.rules → Fine s rest xs
    → (rows : List Row) (pending : Option (Text × List Text)) (pos : ℕ) → settle_fault s.rules s.args_override_self (held rows pending) ≡ []
    → (t : CanTake s (record { name = name; value = value; way = way }) (settled s.rules (held rows pending)).rows)
    → AllTaken s xs (used t.rule (held_by way value) (settled s.rules (held rows pending)).rows)
    → IsFine s (idle_at rows pending pos) (spelled (record { name = name; value = value; way = way }) ++ (flat_map spelled xs ++ rest))
setting_fine s rest name value joined xs all ih rows pending pos settles t later =
    let turn = joined_turn s rows pending pos name value t.rule t.no_equals t.found t.suits settles t.passes in
    fine_cons s (idle_at rows pending pos) _ _ _ turn.0 turn.1 (ih (used t.rule (value ∷ []) (settled s.rules (held rows pending)).rows) None pos refl later)
setting_fine s rest name value apart xs all ih rows pending pos settles t later =
    let now = (settled s.rules (held rows pending)).rows in
    let spelled_so : codes "--" ++ name ≡ codes "--" ++ t.first ∷ t.others = ap (λ n. codes "--" ++ n) t.named in
    let plain : has_byte 61 (t.first ∷ t.others) ≡ false = subst (λ n. has_byte 61 n ≡ false) t.named t.no_equals in
    let found : arg_by_long s.rules (t.first ∷ t.others) ≡ Some t.rule = subst (λ n. arg_by_long s.rules n ≡ Some t.rule) t.named t.found in
    let opens = opens_turn s rows pending pos t.first t.others t.rule plain found t.suits settles in
    let at = by_id s t.rule name all t.found in
    let gives = value_turn s now pos value t.rule t.in_place.1 at t.suits in
    let pends : settle_fault s.rules s.args_override_self (held now (Some (t.rule.id, value ∷ []))) ≡ [] = rw at t.passes in
    let rows_are : (settled s.rules (held now (Some (t.rule.id, value ∷ [])))).rows ≡ used t.rule (value ∷ []) now = rw at refl in
    let told : AllTaken s xs (settled s.rules (held now (Some (t.rule.id, value ∷ [])))).rows = subst (AllTaken s xs) (sym rows_are) later in
    let rest_fine = ih now (Some (t.rule.id, value ∷ [])) pos pends told in
    let second = fine_cons s (option_at now t.rule.id pos) _ value _ gives.0 gives.1 rest_fine in
    let first = fine_cons s (idle_at rows pending pos) _ _ _ opens.0 opens.1 second in
    subst (λ w. IsFine s (idle_at rows pending pos) (w ∷ value ∷ (flat_map spelled xs ++ rest))) (sym spelled_so) first
setting_fine s rest name value alone xs all ih rows pending pos settles t later =
    let now = (settled s.rules (held rows pending)).rows in
    let spelled_so : codes "--" ++ name ≡ codes "--" ++ t.first ∷ t.others = ap (λ n. codes "--" ++ n) t.named in
    let plain : has_byte 61 (t.first ∷ t.others) ≡ false = subst (λ n. has_byte 61 n ≡ false) t.named t.no_equals in
    let found : arg_by_long s.rules (t.first ∷ t.others) ≡ Some t.rule = subst (λ n. arg_by_long s.rules n ≡ Some t.rule) t.named t.found in
    let turn = alone_turn s rows pending pos t.first t.others t.rule plain found t.suits settles t.passes in
    let whole = fine_cons s (idle_at rows pending pos) _ _ _ turn.0 turn.1 (ih (used t.rule [] now) None pos refl later) in
    subst (λ w. IsFine s (idle_at rows pending pos) (w ∷ (flat_map spelled xs ++ rest))) (sym spelled_so) whole

all_fine : (s : Shape) (rest : List Text) (settings : List Setting) → ArePlain s.rules → Closes rest → Fine s rest settings
all_fine s rest [] all closes rows pending pos settles taken = end_fine s rows pending pos rest closes settles
all_fine s rest (x ∷ xs) all closes rows pending pos settles taken =
    subst (λ l. IsFine s (idle_at rows pending pos) l) (sym (append_assoc (spelled x) (flat_map spelled xs) rest))
    (setting_fine s rest x.name x.value x.way xs all (all_fine s rest xs all closes) rows pending pos settles taken.now taken.later)

-- settings that the options take, behind a subcommand's name, are not refused
pub settings_fine : (s : Shape) (settings : List Setting) (rest : List Text) → ArePlain s.rules → Closes rest → AllTaken s settings [] → IsFine s (idle_at [] None 1) (flat_map spelled settings ++ rest)
settings_fine s settings rest all closes taken = all_fine s rest settings all closes [] None 1 refl taken
