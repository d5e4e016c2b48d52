-- One word, where all the arguments are options of one value, switches, and flags that ask for help or the version.
use Rattle.std.proofs.Common.{◌≡◌, ◌⊎◌, ℕ, List, [], ◌∷◌, length, refl, ap, ◌∙◌, Bool, true, false, cond, None, Some, Option, subst, codes, inl, inr}
use Rattle.std.specs.Prelude.{slice_get}
use Rattle.std.specs.Option.{option_map_or}
use Rattle.std.specs.Str.{bytes_eq, chars}
use Rattle.clap.specs.Lexer.{long_of, short_of}
use Rattle.clap.specs.Facts.{unwrap_or_range}
use Rattle.clap.specs.Kinds.{Kinds, or_else, range_kinds}
use Rattle.clap.specs.Walk.{Held, Row, Rule, Step, Text, Waiting, Walk, action_of, after_flag, after_step, arg_by_id, arg_by_long, arg_by_short, bundle, bundle_met, bundle_step, idle, long_met, long_or_other, most_values, option, plain, plain_word, settled, short_or_plain, takes_values, trailing, used, value, values_or_missing, walked}
use Rattle.clap.specs.Faults.{bundle_fault, bundle_step_fault, flag_word_fault, flags_fault, long_fault, action_fault, option_fault, react_fault, settle_fault, short_fault, step_fault, stray_fault, turn_fault, use_fault}
use Rattle.clap.specs.Simple.{Shape}
use Rattle.wh_options.specs.Setting.{is_flag, is_switch}
use Rattle.wh_options.proofs.Flags.{is_no_flag}
use Rattle.wh_options.proofs.Shapes.{IsLong, bytes_same, long_is}
use Rattle.wh_options.proofs.Leaf.{ArePlain, IsAsking, IsNamedOption, IsNamedSwitch, IsOption, IsPlainRule, IsSwitch, both_empty, long_plain, no_position, short_help}

abbrev pub held : List Row → Option (Text × List Text) → Held
held rows pending = record { rows = rows; pending = pending; skip = 0 }

-- between two settings
abbrev pub idle_at : List Row → Option (Text × List Text) → ℕ → Walk
idle_at rows pending pos = record { held = held rows pending; waiting = idle; position = pos; is_trailing = false; stopped = None }

-- after `--name`
abbrev pub option_at : List Row → Text → ℕ → Walk
option_at rows id pos = record { held = held rows (Some (id, [])); waiting = option id; position = pos; is_trailing = false; stopped = None }

-- after `--`
abbrev pub trail_at : Held → Waiting → ℕ → Walk
trail_at h waiting pos = record { held = h; waiting = waiting; position = pos; is_trailing = true; stopped = None }

-- ---- what is refused

pub help_fails : (again : Bool) (a : Rule) (rows : List Row) → IsAsking a → use_fault again a [] rows ≡ [] → ⊥
help_fails again a rows p e =
    let fault : action_fault (action_of a) again a (values_or_missing a []) rows ≡ [] = (both_empty _ _ e).1 in
    elim p.action [
      | inl help ↦
          let asked = rw help at fault in
          cc
      | inr version ↦
          let asked = rw version at fault in
          cc
    ]

help_reacts : (c : List Rule) (again : Bool) (a : Rule) (h : Held) → IsAsking a → react_fault c again a [] h ≡ [] → ⊥
help_reacts c again a h p e = help_fails again a (settled c h).rows p (both_empty _ _ e).1

pub stray_fails : (s : Shape) → stray_fault s ≡ [] → ⊥
stray_fails s = go s.is_leaf
  where
    go : (b : Bool) → (let k : Kinds = stray_fault (record s { is_leaf = b }) in k ≡ []) → ⊥
    go true e = cc
    go false e = cc

-- a word that no option takes
pub value_fails : (s : Shape) (pos : ℕ) (h : Held) → ArePlain s.rules → step_fault s pos h value ≡ [] → ⊥
value_fails s pos h all e = stray_fails s (rw (no_position s.rules pos all) at e)

help_takes_none : (a : Rule) → IsAsking a → takes_values a ≡ false
help_takes_none a p = rw p.most refl

pub switch_takes_none : (a : Rule) → IsSwitch a → takes_values a ≡ false
switch_takes_none a p = rw p.most refl

pub option_takes : (a : Rule) → IsOption a → takes_values a ≡ true
option_takes a p = rw p.most refl

short_fails : (c : List Rule) (again : Bool) (found : Option Rule) (rest : Text) (h : Held) (more : Held → Kinds)
    → ((a : Rule) → found ≡ Some a → IsAsking a) → short_fault c again found rest h more ≡ [] → ⊥
short_fails c again None rest h more all e = cc
short_fails c again (Some a) rest h more all e =
    let help = all a refl in
    let asks = rw (help_takes_none a help) at e in
    help_reacts c again a h help (both_empty _ _ asks).0

-- a word of short flags that is not refused is no flag at all
bundle_plain : (c : List Rule) (again : Bool) (flags : Text) (h : Held) → ArePlain c → flags_fault c again (length flags) flags 0 h ≡ []
    → bundle_met c (length flags) flags 0 plain h ≡ (h, plain)
unfolding flags_fault bundle_met
bundle_plain c again [] h all e = refl
bundle_plain c again (b ∷ bs) h all e = go (slice_get (chars (b ∷ bs)) 0) e
  where
    go : (o : Option ℕ) → bundle_step_fault c again o (b ∷ bs) 0 h (flags_fault c again (length bs)) ≡ []
        → bundle_step c o (b ∷ bs) 0 plain h (bundle_met c (length bs)) ≡ (h, plain)
    go None f = refl
    go (Some x) f = absurd (short_fails c again (arg_by_short c x) _ h _ (λ a found. short_help c x a all found) f)

-- nor has it a character
no_characters : (c : List Rule) (again : Bool) (flags : Text) (h : Held) → ArePlain c → flags_fault c again (length flags) flags 0 h ≡ [] → chars flags ≡ []
unfolding flags_fault chars
no_characters c again [] h all e = refl
no_characters c again (b ∷ bs) h all e = go (chars (b ∷ bs)) e
  where
    go : (cs : Text) → bundle_step_fault c again (slice_get cs 0) (b ∷ bs) 0 h (flags_fault c again (length bs)) ≡ [] → cs ≡ []
    go [] f = refl
    go (x ∷ xs) f = absurd (short_fails c again (arg_by_short c x) _ h _ (λ a found. short_help c x a all found) f)

-- ---- what is taken

flag_fails : (c : List Rule) (again : Bool) (a : Rule) (v : Option Text) (h : Held) → IsAsking a → long_fault c again (Some a) v h ≡ [] → ⊥
flag_fails c again a None h f e = help_reacts c again a h f (rw (help_takes_none a f) at e)
flag_fails c again a (Some x) h f e =
    let bad = rw (help_takes_none a f) at e in
    cc

-- a switch with a value is refused
switch_alone : (c : List Rule) (again : Bool) (a : Rule) (v : Option Text) (h : Held) → IsSwitch a → long_fault c again (Some a) v h ≡ []
    → (v ≡ None) × (react_fault c again a [] h ≡ [])
switch_alone c again a None h p e = (refl, rw (switch_takes_none a p) at e)
switch_alone c again a (Some x) h p e =
    let bad = rw (switch_takes_none a p) at e in
    cc

-- a long flag that is not refused is an option, or a switch without a value
long_setting : (c : List Rule) (again : Bool) (a : Rule) (v : Option Text) (h : Held) → IsPlainRule a → long_fault c again (Some a) v h ≡ []
    → (IsNamedOption a × (option_fault c again a v h ≡ [])) ⊎ (IsNamedSwitch a × (v ≡ None) × (react_fault c again a [] h ≡ []))
long_setting c again a v h p e = elim p.kind [
  | inl o ↦ inl (o, rw (option_takes a o.0) at e)
  | inr k ↦ elim k [
    | inl w ↦
        let none = switch_alone c again a v h w.0 e in
        inr (w, none.0, none.1)
    | inr f ↦ absurd (flag_fails c again a v h f e)
  ]
]

-- what a word between two settings does
pub record Dashes (h : Held) (pos : ℕ) (word : Text) (after : Walk) : Type 0 where
  pub word_is : word ≡ codes "--"
  pub after_is : after ≡ trail_at h idle pos

pub record Joins (s : Shape) (h : Held) (pos : ℕ) (word : Text) (after : Walk) : Type 0 where
  pub rule : Rule
  pub name : Text
  pub given : Text
  pub spelled : IsLong word name (Some given)
  pub found : arg_by_long s.rules name ≡ Some rule
  pub option : IsOption rule
  pub no_switch : is_switch rule.id ≡ false
  pub settles : settle_fault s.rules s.args_override_self h ≡ []
  pub passes : use_fault s.args_override_self rule (given ∷ []) (settled s.rules h).rows ≡ []
  pub after_is : after ≡ idle_at (used rule (given ∷ []) (settled s.rules h).rows) None pos

pub record Opens (s : Shape) (h : Held) (pos : ℕ) (word : Text) (after : Walk) : Type 0 where
  pub rule : Rule
  pub name : Text
  pub spelled : IsLong word name None
  pub found : arg_by_long s.rules name ≡ Some rule
  pub option : IsOption rule
  pub no_switch : is_switch rule.id ≡ false
  pub settles : settle_fault s.rules s.args_override_self h ≡ []
  pub after_is : after ≡ option_at (settled s.rules h).rows rule.id pos

pub record Switches (s : Shape) (h : Held) (pos : ℕ) (word : Text) (after : Walk) : Type 0 where
  pub rule : Rule
  pub name : Text
  pub spelled : IsLong word name None
  pub found : arg_by_long s.rules name ≡ Some rule
  pub switch : IsSwitch rule
  pub is_one : is_switch rule.id ≡ true
  pub settles : settle_fault s.rules s.args_override_self h ≡ []
  pub passes : use_fault s.args_override_self rule [] (settled s.rules h).rows ≡ []
  pub after_is : after ≡ idle_at (used rule [] (settled s.rules h).rows) None pos

abbrev pub Turns : Shape → Held → ℕ → Text → Walk → Type 0
Turns s h pos word after = Dashes h pos word after ⊎ (Joins s h pos word after ⊎ (Opens s h pos word after ⊎ Switches s h pos word after))

-- a long option
long_turn : (s : Shape) (rows : List Row) (pending : Option (Text × List Text)) (pos : ℕ) (word name : Text) (v : Option Text) (o : Option Rule)
    → ArePlain s.rules → IsLong word name v → arg_by_long s.rules name ≡ o → long_fault s.rules s.args_override_self o v (held rows pending) ≡ []
    → Turns s (held rows pending) pos word
    (after_step s.rules word (idle_at rows pending pos) (after_flag s.rules idle word (long_met s.rules o v (held rows pending)).0 (long_met s.rules o v (held rows pending)).1).0
    (after_flag s.rules idle word (long_met s.rules o v (held rows pending)).0 (long_met s.rules o v (held rows pending)).1).1)
long_turn s rows pending pos word name v None all spelled found e = cc
long_turn s rows pending pos word name (Some x) (Some a) all spelled found e =
    let p = long_plain s.rules name a all found in
    elim (long_setting s.rules s.args_override_self a (Some x) (held rows pending) p.0 e) [
      | inl got ↦
          let fine = both_empty _ _ got.1 in
          inr (inl (record {
            rule = a;
            name = name;
            given = x;
            spelled = spelled;
            found = found;
            option = got.0.0;
            no_switch = got.0.1;
            settles = fine.0;
            passes = fine.1;
            after_is = rw (option_takes a got.0.0) refl;
          }))
      | inr w ↦
          let bad : Some x ≡ None = w.1 in
          cc
    ]
long_turn s rows pending pos word name None (Some a) all spelled found e =
    let p = long_plain s.rules name a all found in
    elim (long_setting s.rules s.args_override_self a None (held rows pending) p.0 e) [
      | inl got ↦ inr (inr (inl (record {
        rule = a;
        name = name;
        spelled = spelled;
        found = found;
        option = got.0.0;
        no_switch = got.0.1;
        settles = got.1;
        after_is = rw (option_takes a got.0.0) refl;
      })))
      | inr w ↦
          let fine = both_empty _ _ w.2 in
          inr (inr (inr (record {
            rule = a;
            name = name;
            spelled = spelled;
            found = found;
            switch = w.0.0;
            is_one = w.0.1;
            settles = fine.0;
            passes = fine.1;
            after_is = rw (switch_takes_none a w.0.0) refl;
          })))
    ]

-- a word that is no long option, and is not refused, is no flag
no_flag : (s : Shape) (waiting : Waiting) (word : Text) (h : Held) (sh : Option Text) → ArePlain s.rules → h.skip ≡ 0
    → option_map_or (λ flags. bundle_fault s.rules s.args_override_self flags h) sh [] ≡ []
    → short_or_plain s.rules waiting word sh h ≡ plain_word s.rules waiting word (record h { skip = 0 })
no_flag s waiting word h None all e f = ap (λ k. plain_word s.rules waiting word (record h { skip = k })) e
no_flag s waiting word h (Some flags) all e f =
    let g : flags_fault s.rules s.args_override_self (length flags) flags 0 (record h { skip = 0 }) ≡ [] = rw e at f in
    let b : bundle s.rules flags h ≡ (record h { skip = 0 }, plain) =
    ap (λ k. bundle_met s.rules (length flags) flags k plain (record h { skip = 0 })) e ∙ bundle_plain s.rules s.args_override_self flags (record h { skip = 0 }) all g in
    ap (λ p. after_flag s.rules waiting word p.0 p.1) b

idle_other : (s : Shape) (rows : List Row) (pending : Option (Text × List Text)) (pos : ℕ) (word : Text) (l : Option (Text × Option Text))
    → ArePlain s.rules → long_of word ≡ l
    → or_else (flag_word_fault s.rules s.args_override_self l word (held rows pending))
    (step_fault s pos (long_or_other s.rules idle word l (held rows pending)).0 (long_or_other s.rules idle word l (held rows pending)).1) ≡ []
    → Turns s (held rows pending) pos word (after_step s.rules word (idle_at rows pending pos) (long_or_other s.rules idle word l (held rows pending)).0 (long_or_other s.rules idle word l (held rows pending)).1)
idle_other s rows pending pos word (Some p) all is e =
    long_turn s rows pending pos word p.0 p.1 (arg_by_long s.rules p.0) all (long_is word p.0 p.1 is) refl (both_empty _ _ e).0
idle_other s rows pending pos word None all is e =
    let fine = both_empty _ _ e in
    let same = no_flag s idle word (held rows pending) (short_of word) all refl fine.0 in
    let stray : step_fault s pos (held rows pending) value ≡ [] = subst (λ (q : Held × Step). step_fault s pos q.0 q.1 ≡ []) same fine.1 in
    absurd (value_fails s pos (held rows pending) all stray)

pub idle_dashes : (s : Shape) (rows : List Row) (pending : Option (Text × List Text)) (pos : ℕ) (word : Text) (d : Bool)
    → ArePlain s.rules → bytes_eq word (codes "--") ≡ d
    → (let m = cond d (held rows pending, trailing pos) (long_or_other s.rules idle word (long_of word) (held rows pending)) in
    or_else (cond d [] (flag_word_fault s.rules s.args_override_self (long_of word) word (held rows pending))) (step_fault s pos m.0 m.1) ≡ [])
    → (let m = cond d (held rows pending, trailing pos) (long_or_other s.rules idle word (long_of word) (held rows pending)) in
    Turns s (held rows pending) pos word (after_step s.rules word (idle_at rows pending pos) m.0 m.1))
idle_dashes s rows pending pos word true all is e = inl (record { word_is = bytes_same _ _ is; after_is = refl })
idle_dashes s rows pending pos word false all is e = idle_other s rows pending pos word (long_of word) all refl e

-- what a word between two settings does, where it is not refused
pub idle_turn : (s : Shape) (rows : List Row) (pending : Option (Text × List Text)) (pos : ℕ) (word : Text) → ArePlain s.rules
    → turn_fault s [] (idle_at rows pending pos) word ≡ [] → Turns s (held rows pending) pos word (walked s.rules [] (idle_at rows pending pos) word)
unfolding walked
idle_turn s rows pending pos word all e = idle_dashes s rows pending pos word (bytes_eq word (codes "--")) all refl e

-- ---- a word after `--name`

empty_kinds : (least most : ℕ) → least ≡ 1 → range_kinds least most 0 ≡ [] → ⊥
empty_kinds least most is e =
    let bad : range_kinds 1 most 0 ≡ [] = subst (λ k. range_kinds k most 0 ≡ []) is e in
    cc

-- an option without a value is refused
pub empty_fails : (s : Shape) (rows : List Row) (id : Text) (a : Rule) → IsOption a → arg_by_id s.rules id ≡ Some a
    → settle_fault s.rules s.args_override_self (held rows (Some (id, []))) ≡ [] → ⊥
empty_fails s rows id a o found e =
    let used_so : use_fault s.args_override_self a [] rows ≡ [] = rw found at e in
    let fault : range_kinds (unwrap_or_range a.range).start_inclusive (most_values a) 0 ≡ [] = (both_empty _ _ used_so).0 in
    empty_kinds _ _ o.least fault

-- the word is the option's value
pub record Gives (rows : List Row) (id : Text) (pos : ℕ) (word : Text) (after : Walk) : Type 0 where
  pub after_is : after ≡ idle_at rows (Some (id, word ∷ [])) pos
  pub no_flag : is_flag word ≡ false

pub record Ends (rows : List Row) (id : Text) (pos : ℕ) (after : Walk) : Type 0 where
  pub after_is : after ≡ trail_at (held rows (Some (id, []))) (option id) pos

long_after_fails : (s : Shape) (rows : List Row) (id name : Text) (v : Option Text) (a : Rule) (o : Option Rule) → ArePlain s.rules → IsOption a → arg_by_id s.rules id ≡ Some a
    → arg_by_long s.rules name ≡ o → long_fault s.rules s.args_override_self o v (held rows (Some (id, []))) ≡ [] → ⊥
long_after_fails s rows id name v a None all opt found is e = cc
long_after_fails s rows id name v a (Some b) all opt found is e =
    let p = long_plain s.rules name b all is in
    elim (long_setting s.rules s.args_override_self b v (held rows (Some (id, []))) p.0 e) [
      | inl got ↦ empty_fails s rows id a opt found (settles v got.1)
      | inr w ↦ empty_fails s rows id a opt found (both_empty _ _ w.2).0
    ]
  where
    settles : (v : Option Text) → option_fault s.rules s.args_override_self b v (held rows (Some (id, []))) ≡ [] → settle_fault s.rules s.args_override_self (held rows (Some (id, []))) ≡ []
    settles None f = f
    settles (Some x) f = (both_empty _ _ f).0

pub given_after : (s : Shape) (rows : List Row) (id : Text) (pos : ℕ) (word : Text) (a : Rule) → IsOption a → bytes_eq id a.id ≡ true → arg_by_id s.rules id ≡ Some a
    → after_step s.rules word (option_at rows id pos) (plain_word s.rules (option id) word (held rows (Some (id, [])))).0 (plain_word s.rules (option id) word (held rows (Some (id, [])))).1
    ≡ idle_at rows (Some (id, word ∷ [])) pos
given_after s rows id pos word a o is found = rw (found, is, o.most) refl

-- a word that is not refused has no short flag
flag_has_none : (s : Shape) (rows : List Row) (pending : Option (Text × List Text)) (word : Text) → ArePlain s.rules
    → flag_word_fault s.rules s.args_override_self None word (held rows pending) ≡ [] → (flags : Text) → short_of word ≡ Some flags → chars flags ≡ []
flag_has_none s rows pending word all e flags is =
    let f : bundle_fault s.rules s.args_override_self flags (held rows pending) ≡ [] =
    subst (λ o. option_map_or (λ fs. bundle_fault s.rules s.args_override_self fs (held rows pending)) o [] ≡ []) is e in
    no_characters s.rules s.args_override_self flags (held rows pending) all f

option_other : (s : Shape) (rows : List Row) (id : Text) (pos : ℕ) (word : Text) (a : Rule) (l : Option (Text × Option Text))
    → ArePlain s.rules → IsOption a → bytes_eq id a.id ≡ true → arg_by_id s.rules id ≡ Some a → bytes_eq word (codes "--") ≡ false → long_of word ≡ l
    → flag_word_fault s.rules s.args_override_self l word (held rows (Some (id, []))) ≡ []
    → Gives rows id pos word (after_step s.rules word (option_at rows id pos) (long_or_other s.rules (option id) word l (held rows (Some (id, [])))).0
    (long_or_other s.rules (option id) word l (held rows (Some (id, [])))).1)
option_other s rows id pos word a (Some p) all opt same_id found other is e = absurd (long_after_fails s rows id p.0 p.1 a (arg_by_long s.rules p.0) all opt found refl e)
option_other s rows id pos word a None all opt same_id found other is e =
    let same = no_flag s (option id) word (held rows (Some (id, []))) (short_of word) all refl e in
    record {
      after_is = ap (λ (q : Held × Step). after_step s.rules word (option_at rows id pos) q.0 q.1) same ∙ given_after s rows id pos word a opt same_id found;
      no_flag = is_no_flag word (record { no_end = other; no_long = is; no_short = flag_has_none s rows (Some (id, [])) word all e });
    }

option_dashes : (s : Shape) (rows : List Row) (id : Text) (pos : ℕ) (word : Text) (a : Rule) (d : Bool)
    → ArePlain s.rules → IsOption a → bytes_eq id a.id ≡ true → arg_by_id s.rules id ≡ Some a → bytes_eq word (codes "--") ≡ d
    → (let h = held rows (Some (id, [])) in let m = cond d (h, trailing pos) (long_or_other s.rules (option id) word (long_of word) h) in
    or_else (cond d [] (flag_word_fault s.rules s.args_override_self (long_of word) word h)) (step_fault s pos m.0 m.1) ≡ [])
    → (let h = held rows (Some (id, [])) in let m = cond d (h, trailing pos) (long_or_other s.rules (option id) word (long_of word) h) in
    let after = after_step s.rules word (option_at rows id pos) m.0 m.1 in Gives rows id pos word after ⊎ Ends rows id pos after)
option_dashes s rows id pos word a true all opt same_id found is e = inr (record { after_is = refl })
option_dashes s rows id pos word a false all opt same_id found is e = inl (option_other s rows id pos word a (long_of word) all opt same_id found is refl (both_empty _ _ e).0)

-- what a word after `--name` does, where it is not refused
pub option_turn : (s : Shape) (rows : List Row) (id : Text) (pos : ℕ) (word : Text) (a : Rule) → ArePlain s.rules → IsOption a → bytes_eq id a.id ≡ true → arg_by_id s.rules id ≡ Some a
    → turn_fault s [] (option_at rows id pos) word ≡ []
    → Gives rows id pos word (walked s.rules [] (option_at rows id pos) word) ⊎ Ends rows id pos (walked s.rules [] (option_at rows id pos) word)
unfolding walked
option_turn s rows id pos word a all opt same_id found e = option_dashes s rows id pos word a (bytes_eq word (codes "--")) all opt same_id found refl e
