-- The words after a subcommand are settings, where `clap` refuses none.
use Rattle.std.proofs.Common.{◌≡◌, ◌≤◌, ℕ, List, [], ◌∷◌, length, refl, sym, ap, ap₂, ◌∙◌, arith, true, false, None, Some, Option, subst, zero, suc, codes, inl, inr}
use Rattle.std.specs.Prelude.{fold}
use Rattle.std.specs.Str.{bytes_eq}
use Rattle.std.proofs.lemmas.Slice.Eq.{bytes_eq-Decides}
use Rattle.clap.specs.Walk.{Held, Row, Rule, Text, Waiting, Walk, arg_by_id, arg_by_long, idle, option, settled, used, walked}
use Rattle.clap.specs.Faults.{settle_fault, turn_fault, use_fault, walk_fault}
use Rattle.clap.specs.Simple.{Shape}
use Rattle.wh_options.specs.Setting.{IsInPlace, IsSpelled, Setting, alone, apart, is_flag, is_switch, joined}
use Rattle.wh_options.proofs.Shapes.{IsLong}
use Rattle.wh_options.proofs.Leaf.{ArePlain, IsOption, IsSwitch, Suits, both_empty, by_name, held_by, long_plain}
use Rattle.wh_options.proofs.Turns.{Joins, Switches, empty_fails, held, idle_at, idle_turn, option_at, option_turn, trail_at, value_fails}

-- the walk over the words from here on is not refused, nor is what is pending at its end
pub record IsFine (s : Shape) (w : Walk) (words : List Text) : Type 0 where
  pub walks : walk_fault s [] w words ≡ []
  pub ends : settle_fault s.rules s.args_override_self (fold (walked s.rules []) w words).held ≡ []

-- the rows at the end of the walk
abbrev pub last_rows : Shape → Walk → List Text → List Row
last_rows s w words = (settled s.rules (fold (walked s.rules []) w words).held).rows

-- the setting is of this option or switch, and is no second one
pub record Fits (s : Shape) (x : Setting) (a : Rule) (rows : List Row) : Type 0 where
  pub found : arg_by_long s.rules x.name ≡ Some a
  pub suits : Suits x.way a
  pub id : a.id ≡ x.name
  pub in_place : IsInPlace x
  pub passes : use_fault s.args_override_self a (held_by x.way x.value) rows ≡ []

abbrev pub Applied : Shape → List Setting → List Row → List Row → Type 0
Applied s [] rows last = last ≡ rows
Applied s (x ∷ xs) rows last = (a : Rule) × Fits s x a rows × Applied s xs (used a (held_by x.way x.value) rows) last

-- the words are settings, which take the rows to the last ones
pub record Says (s : Shape) (words : List Text) (rows last : List Row) : Type 0 where
  pub settings : List Setting
  pub spelling : IsSpelled words settings
  pub applied : Applied s settings rows last

-- one word further
turned : (s : Shape) (w : Walk) (word : Text) (rest : List Text) → IsFine s w (word ∷ rest) → (turn_fault s [] w word ≡ []) × IsFine s (walked s.rules [] w word) rest
unfolding walk_fault
turned s w word rest f =
    let both = both_empty _ _ f.walks in
    (both.0, record { walks = both.1; ends = f.ends })

-- after `--` no word stands
trail_ends : (s : Shape) (h : Held) (waiting : Waiting) (pos : ℕ) (words : List Text) → ArePlain s.rules → IsFine s (trail_at h waiting pos) words
    → (words ≡ []) × (settle_fault s.rules s.args_override_self h ≡ [])
trail_ends s h waiting pos [] all f = (refl, f.ends)
trail_ends s h waiting pos (word ∷ rest) all f = absurd (value_fails s pos h all (turned s (trail_at h waiting pos) word rest f).0)

nothing_said : (s : Shape) (rows : List Row) → Says s [] rows rows
nothing_said s rows = record { settings = []; spelling = record { rest = []; closes = inl refl; words_are = refl; in_place = tt }; applied = refl }

-- one setting more in front
said_joined : (s : Shape) (word name given : Text) (a : Rule) (rest : List Text) (rows last : List Row) → IsLong word name (Some given) → is_switch name ≡ false
    → arg_by_long s.rules name ≡ Some a → IsOption a → a.id ≡ name → use_fault s.args_override_self a (given ∷ []) rows ≡ []
    → Says s rest (used a (given ∷ []) rows) last → Says s (word ∷ rest) rows last
said_joined s word name given a rest rows last word_is no_switch found opt id passes more =
    record {
      settings = record { name = name; value = given; way = joined } ∷ more.settings;
      spelling = record {
        rest = more.spelling.rest;
        closes = more.spelling.closes;
        words_are = ap₂ (λ w ws. w ∷ ws) word_is more.spelling.words_are;
        in_place = (no_switch, more.spelling.in_place);
      };
      applied = (a, record { found = found; suits = opt; id = id; in_place = no_switch; passes = passes }, more.applied);
    }

said_apart : (s : Shape) (word name given : Text) (a : Rule) (rest : List Text) (rows last : List Row) → IsLong word name None → is_switch name ≡ false → is_flag given ≡ false
    → arg_by_long s.rules name ≡ Some a → IsOption a → a.id ≡ name → use_fault s.args_override_self a (given ∷ []) rows ≡ []
    → Says s rest (used a (given ∷ []) rows) last → Says s (word ∷ given ∷ rest) rows last
said_apart s word name given a rest rows last word_is no_switch no_flag found opt id passes more =
    record {
      settings = record { name = name; value = given; way = apart } ∷ more.settings;
      spelling = record {
        rest = more.spelling.rest;
        closes = more.spelling.closes;
        words_are = ap₂ (λ w ws. w ∷ given ∷ ws) word_is more.spelling.words_are;
        in_place = ((no_switch, no_flag), more.spelling.in_place);
      };
      applied = (a, record { found = found; suits = opt; id = id; in_place = (no_switch, no_flag); passes = passes }, more.applied);
    }

said_alone : (s : Shape) (word name : Text) (a : Rule) (rest : List Text) (rows last : List Row) → IsLong word name None → is_switch name ≡ true
    → arg_by_long s.rules name ≡ Some a → IsSwitch a → a.id ≡ name → use_fault s.args_override_self a [] rows ≡ []
    → Says s rest (used a [] rows) last → Says s (word ∷ rest) rows last
said_alone s word name a rest rows last word_is is_one found switch id passes more =
    record {
      settings = record { name = name; value = codes "true"; way = alone } ∷ more.settings;
      spelling = record {
        rest = more.spelling.rest;
        closes = more.spelling.closes;
        words_are = ap₂ (λ w ws. w ∷ ws) word_is more.spelling.words_are;
        in_place = ((is_one, refl), more.spelling.in_place);
      };
      applied = (a, record { found = found; suits = switch; id = id; in_place = (is_one, refl); passes = passes }, more.applied);
    }

-- the claim at a place between two settings
abbrev Claim : Shape → List Text → Type 0
Claim s words = (rows : List Row) (pending : Option (Text × List Text)) (pos : ℕ) → IsFine s (idle_at rows pending pos) words
    → (settle_fault s.rules s.args_override_self (held rows pending) ≡ []) × Says s words (settled s.rules (held rows pending)).rows (last_rows s (idle_at rows pending pos) words)

fine_at : (s : Shape) (v w : Walk) (words : List Text) → v ≡ w → IsFine s v words → IsFine s w words
fine_at s v w words e f = subst (λ (x : Walk). IsFine s x words) e f

dashes_said : (s : Shape) (rows : List Row) (pending : Option (Text × List Text)) (pos : ℕ) (word : Text) (rest : List Text) → ArePlain s.rules → word ≡ codes "--"
    → IsFine s (trail_at (held rows pending) idle pos) rest
    → (settle_fault s.rules s.args_override_self (held rows pending) ≡ []) × Says s (word ∷ rest) (settled s.rules (held rows pending)).rows (last_rows s (trail_at (held rows pending) idle pos) rest)
dashes_said s rows pending pos word rest all is f =
    let t = trail_ends s (held rows pending) idle pos rest all f in (
      t.1,
      record {
        settings = [];
        spelling = record { rest = word ∷ rest; closes = inr (ap₂ (λ w ws. w ∷ ws) is t.0); words_are = refl; in_place = tt };
        applied = ap (λ ws. last_rows s (trail_at (held rows pending) idle pos) ws) t.0;
      },
    )

abbrev Below : Shape → List Text → Type 0
Below s ws = (xs : List Text) → length xs ≤ length ws → Claim s xs

abbrev Reached : Shape → List Row → Option (Text × List Text) → List Text → Walk → List Text → Type 0
Reached s rows pending words w rest = (settle_fault s.rules s.args_override_self (held rows pending) ≡ [])
    × Says s words (settled s.rules (held rows pending)).rows (last_rows s w rest)

pub by_id : (s : Shape) (a : Rule) (name : Text) → ArePlain s.rules → arg_by_long s.rules name ≡ Some a → arg_by_id s.rules a.id ≡ Some a
by_id s a name all found = by_name s.rules a.id all ∙ ap (arg_by_long s.rules) (long_plain s.rules name a all found).1 ∙ found

pub self_same : (t : Text) → bytes_eq t t ≡ true
self_same t = (bytes_eq-Decides t t).1 refl

joined_said : (s : Shape) (rows : List Row) (pending : Option (Text × List Text)) (pos : ℕ) (word : Text) (ws : List Text) (after : Walk) → ArePlain s.rules → Below s ws
    → Joins s (held rows pending) pos word after → IsFine s after ws → Reached s rows pending (word ∷ ws) after ws
joined_said s rows pending pos word ws after all ih j f =
    let now = used j.rule (j.given ∷ []) (settled s.rules (held rows pending)).rows in
    let more = ih ws (omega arith) now None pos (fine_at s after (idle_at now None pos) ws j.after_is f) in
    let id = (long_plain s.rules j.name j.rule all j.found).1 in
    let no_switch : is_switch j.name ≡ false = ap is_switch (sym id) ∙ j.no_switch in
    let said = said_joined s word j.name j.given j.rule ws (settled s.rules (held rows pending)).rows _ j.spelled no_switch j.found j.option
    id j.passes more.1 in
    (j.settles, subst (λ (x : Walk). Says s (word ∷ ws) (settled s.rules (held rows pending)).rows (last_rows s x ws)) (sym j.after_is) said)

alone_said : (s : Shape) (rows : List Row) (pending : Option (Text × List Text)) (pos : ℕ) (word : Text) (ws : List Text) (after : Walk) → ArePlain s.rules → Below s ws
    → Switches s (held rows pending) pos word after → IsFine s after ws → Reached s rows pending (word ∷ ws) after ws
alone_said s rows pending pos word ws after all ih w f =
    let now = used w.rule [] (settled s.rules (held rows pending)).rows in
    let more = ih ws (omega arith) now None pos (fine_at s after (idle_at now None pos) ws w.after_is f) in
    let id = (long_plain s.rules w.name w.rule all w.found).1 in
    let is_one : is_switch w.name ≡ true = ap is_switch (sym id) ∙ w.is_one in
    let said = said_alone s word w.name w.rule ws (settled s.rules (held rows pending)).rows _ w.spelled is_one w.found w.switch id w.passes more.1 in
    (w.settles, subst (λ (x : Walk). Says s (word ∷ ws) (settled s.rules (held rows pending)).rows (last_rows s x ws)) (sym w.after_is) said)

-- the value after `--name`
value_said : (s : Shape) (rows : List Row) (pos : ℕ) (word name given : Text) (a : Rule) (rest : List Text) (after : Walk) → ArePlain s.rules → Below s rest
    → IsLong word name None → is_switch name ≡ false → is_flag given ≡ false → arg_by_long s.rules name ≡ Some a → IsOption a → after ≡ idle_at rows (Some (a.id, given ∷ [])) pos → IsFine s after rest
    → Says s (word ∷ given ∷ rest) rows (last_rows s after rest)
value_said s rows pos word name given a rest after all ih word_is no_switch no_flag found opt is f =
    let at = by_id s a name all found in
    let more = ih rest (omega arith) rows (Some (a.id, given ∷ [])) pos (fine_at s after _ rest is f) in
    let passes : use_fault s.args_override_self a (given ∷ []) rows ≡ [] = rw at at more.0 in
    let rows_are : (settled s.rules (held rows (Some (a.id, given ∷ [])))).rows ≡ used a (given ∷ []) rows = rw at refl in
    let told : Says s rest (used a (given ∷ []) rows) (last_rows s (idle_at rows (Some (a.id, given ∷ [])) pos) rest) =
    subst (λ r. Says s rest r (last_rows s (idle_at rows (Some (a.id, given ∷ [])) pos) rest)) rows_are more.1 in
    let said = said_apart s word name given a rest rows _ word_is no_switch no_flag found opt (long_plain s.rules name a all found).1 passes told in
    subst (λ (x : Walk). Says s (word ∷ given ∷ rest) rows (last_rows s x rest)) (sym is) said

opened_said : (s : Shape) (rows : List Row) (pos : ℕ) (word name : Text) (a : Rule) (ws : List Text) → ArePlain s.rules → Below s ws
    → IsLong word name None → is_switch name ≡ false → arg_by_long s.rules name ≡ Some a → IsOption a → IsFine s (option_at rows a.id pos) ws
    → Says s (word ∷ ws) rows (last_rows s (option_at rows a.id pos) ws)
opened_said s rows pos word name a [] all ih word_is no_switch found opt f = absurd (empty_fails s rows a.id a opt (by_id s a name all found) f.ends)
opened_said s rows pos word name a (given ∷ rest) all ih word_is no_switch found opt f =
    let at = by_id s a name all found in
    let t = turned s (option_at rows a.id pos) given rest f in
    elim (option_turn s rows a.id pos given a all opt (self_same a.id) at t.0) [
      | inl g ↦ value_said s rows pos word name given a rest _ all (λ xs le. ih xs (omega arith)) word_is no_switch g.no_flag found opt g.after_is t.1
      | inr e ↦ absurd (empty_fails s rows a.id a opt at (trail_ends s (held rows (Some (a.id, []))) (option a.id) pos rest all (fine_at s _ _ rest e.after_is t.1)).1)
    ]

claim_step : (s : Shape) (rows : List Row) (pending : Option (Text × List Text)) (pos : ℕ) (word : Text) (ws : List Text) → ArePlain s.rules → Below s ws
    → IsFine s (idle_at rows pending pos) (word ∷ ws) → Reached s rows pending (word ∷ ws) (walked s.rules [] (idle_at rows pending pos) word) ws
claim_step s rows pending pos word ws all ih f =
    let t = turned s (idle_at rows pending pos) word ws f in
    elim (idle_turn s rows pending pos word all t.0) [
      | inl d ↦
          let said = dashes_said s rows pending pos word ws all d.word_is (fine_at s _ _ ws d.after_is t.1) in
          subst (λ (x : Walk). Reached s rows pending (word ∷ ws) x ws) (sym d.after_is) said
      | inr r ↦ elim r [
        | inl j ↦ joined_said s rows pending pos word ws _ all ih j t.1
        | inr q ↦ elim q [
          | inl o ↦
              let no_switch : is_switch o.name ≡ false = ap is_switch (sym (long_plain s.rules o.name o.rule all o.found).1) ∙ o.no_switch in
              let said = opened_said s (settled s.rules (held rows pending)).rows pos word o.name o.rule ws all ih o.spelled no_switch o.found o.option (fine_at s _ _ ws o.after_is t.1) in
              subst (λ (x : Walk). Reached s rows pending (word ∷ ws) x ws) (sym o.after_is) (o.settles, said)
          | inr w ↦ alone_said s rows pending pos word ws _ all ih w t.1
        ]
      ]
    ]

claim : (s : Shape) (n : ℕ) (words : List Text) → ArePlain s.rules → length words ≤ n → Claim s words
claim s n [] all le rows pending pos f = (f.ends, nothing_said s _)
claim s zero (word ∷ ws) all le rows pending pos f = absurd (omega arith)
claim s (suc n) (word ∷ ws) all le rows pending pos f =
    claim_step s rows pending pos word ws all (λ xs below. claim s n xs all (omega arith)) f

-- words that are not refused are settings
pub words_said : (s : Shape) (words : List Text) → ArePlain s.rules → IsFine s (idle_at [] None 1) words → Says s words [] (last_rows s (idle_at [] None 1) words)
words_said s words all f = (claim s (length words) words all (omega arith) [] None 1 f).1
