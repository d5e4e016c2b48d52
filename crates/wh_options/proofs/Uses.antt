-- Settings that may be given are not refused, one by one and many, and neither is the subcommand's name.
use Rattle.std.proofs.Common.{◌≡◌, ℕ, List, [], ◌∷◌, ◌++◌, length, refl, sym, ap, ◌∙◌, Bool, true, false, cond, None, Some, subst, codes, ◌==◌, ◌||◌, true≢false, is_some, not}
use Rattle.std.specs.Prelude.{find, fold}
use Rattle.std.specs.List.{AllByRecursion, IsDistinct}
use Rattle.std.specs.Str.{bytes_eq}
use Rattle.clap.proofs.FaultLemmas.{stopped_fault}
use Rattle.clap.specs.Facts.{parser_of_value}
use Rattle.clap.specs.Lexer.{has_byte}
use Rattle.clap.specs.Kinds.{Kinds, or_else, range_kinds}
use Rattle.clap.specs.Values.{refused_kind}
use Rattle.clap.specs.ValueTests.{accepts}
use Rattle.clap.specs.Walk.{Held, Names, Row, Rule, Text, Walk, action_of, answers_to, arg_by_long, finished, has_row, nothing_held, reading_by, settled, stop_after, used, walk, walk_from, walked, with_default}
use Rattle.clap.specs.Faults.{action_fault, built_fault, check_fault, default_fault, defaults_fault, entered_fault, level_fault, repeat_fault, set_fault, settle_fault, turn_fault, use_fault, values_fault, walk_fault}
use Rattle.clap.specs.Simple.{App, Shape, built, entered, label_of, names_of}
use Rattle.clap.specs.declared.builder.action.ArgAction.TheVariants.{Append, Set}
use Rattle.wh_options.specs.Setting.{IsInPlace, Setting, Spelling, StandsBy, alone, apart, joined, may_repeat, single_names}
use Rattle.wh_options.specs.Menu.{Choices, OtherChoices, menu}
use Rattle.wh_options.proofs.Shapes.{bytes_same}
use Rattle.wh_options.proofs.Leaf.{ArePlain, IsOption, IsSwitch, Suits, held_by, long_plain}
use Rattle.wh_options.proofs.Turns.{idle_at}
use Rattle.wh_options.proofs.Words.{IsFine}
use Rattle.wh_options.proofs.Rows.{rows_more, use_is, with_value_of}
use Rattle.wh_options.proofs.Spells.{AllTaken, none_both}
use Rattle.wh_options.proofs.Top.{stopped_walk}
use Rattle.wh_options.proofs.Menus.{leaf_at}

-- ---- one use

range_fine : (least most : ℕ) → least ≡ 1 → most ≡ 1 → range_kinds least most 1 ≡ []
range_fine least most one once = subst (λ k. range_kinds k most 1 ≡ []) (sym one) (subst (λ k. range_kinds 1 k 1 ≡ []) (sym once) refl)

value_fine : (a : Rule) (v : Text) → accepts a.ignore_case (parser_of_value a.parser) v ≡ true → values_fault a (v ∷ []) ≡ []
value_fine a v e = go (accepts a.ignore_case (parser_of_value a.parser) v) e
  where
    go : (b : Bool) → b ≡ true → or_else (cond b [] (refused_kind (parser_of_value a.parser) ∷ [])) [] ≡ []
    go true e = refl
    go false e = cc

once_fine : (again : Bool) (id : Text) (rows : List Row) → has_row id rows ≡ false → repeat_fault again id rows ≡ []
once_fine again id rows e = rw e refl

option_passes : (again : Bool) (a : Rule) (v : Text) (rows : List Row) → IsOption a → (may_repeat a.id ≡ false → has_row a.id rows ≡ false) → accepts a.ignore_case (parser_of_value a.parser) v ≡ true
    → use_fault again a (v ∷ []) rows ≡ []
option_passes again a v rows opt new taken = none_both _ _ (range_fine _ _ opt.least opt.most) (go (may_repeat a.id) refl opt.action)
  where
    go : (b : Bool) → may_repeat a.id ≡ b → action_of a ≡ cond b Append Set → action_fault (action_of a) again a (v ∷ []) rows ≡ []
    go true many action = subst (λ x. action_fault x again a (v ∷ []) rows ≡ []) (sym action) (value_fine a v taken)
    go false once action =
        let setting : set_fault again a (v ∷ []) rows ≡ [] = none_both _ _ (once_fine again a.id rows (new once)) (value_fine a v taken) in
        subst (λ x. action_fault x again a (v ∷ []) rows ≡ []) (sym action) setting

no_range : (least most : ℕ) → least ≡ 0 → most ≡ 0 → range_kinds least most 0 ≡ []
no_range least most low high = subst (λ k. range_kinds k most 0 ≡ []) (sym low) (subst (λ k. range_kinds 0 k 0 ≡ []) (sym high) refl)

switch_passes : (again : Bool) (a : Rule) (v : Text) (rows : List Row) → IsSwitch a → v ≡ codes "true" → has_row a.id rows ≡ false → accepts a.ignore_case (parser_of_value a.parser) v ≡ true
    → use_fault again a [] rows ≡ []
switch_passes again a v rows switch is new taken =
    let setting : set_fault again a (v ∷ []) rows ≡ [] = none_both _ _ (once_fine again a.id rows new) (value_fine a v taken) in
    let given : a.missing ≡ v ∷ [] = switch.missing ∙ ap (λ t. t ∷ []) (sym is) in
    let missing : set_fault again a a.missing rows ≡ [] = subst (λ vs. set_fault again a vs rows ≡ []) (sym given) setting in
    let acted : action_fault (action_of a) again a a.missing rows ≡ [] = subst (λ x. action_fault x again a a.missing rows ≡ []) (sym switch.action) missing in
    none_both _ _ (no_range _ _ switch.least switch.most) acted

pub use_passes : (again : Bool) (a : Rule) (way : Spelling) (name v : Text) (rows : List Row) → Suits way a → StandsBy way name v → (may_repeat a.id ≡ false → has_row a.id rows ≡ false)
    → accepts a.ignore_case (parser_of_value a.parser) v ≡ true → use_fault again a (held_by way v) rows ≡ []
use_passes again a joined name v rows suits stands new taken = option_passes again a v rows suits new taken
use_passes again a apart name v rows suits stands new taken = option_passes again a v rows suits new taken
use_passes again a alone name v rows suits stands new taken = switch_passes again a v rows suits stands.1 (new suits.once) taken

-- ---- many uses

pub record IsValid (s : Shape) (x : Setting) : Type 0 where
  pub rule : Rule
  pub found : arg_by_long s.rules x.name ≡ Some rule
  pub suits : Suits x.way rule
  pub accepted : accepts rule.ignore_case (parser_of_value rule.parser) x.value ≡ true
  pub first : ℕ
  pub others : Text
  pub named : x.name ≡ first ∷ others
  pub no_equals : has_byte 61 x.name ≡ false
  pub in_place : IsInPlace x

abbrev pub Fresh : List Row → List Setting → Type 0
Fresh rows = AllByRecursion (λ (x : Setting). may_repeat x.name ≡ false → has_row x.name rows ≡ false)

neither : (a b : Bool) → a ≡ false → b ≡ false → (a || b) ≡ false
neither a b p q = rw (p, q) refl

-- a setting that may be given once at most has another name than those before it
apart_from : (n m : Text) → (may_repeat n ≡ false → bytes_eq n m ≡ false) → may_repeat m ≡ false → bytes_eq n m ≡ false
apart_from n m differs once = go (bytes_eq n m) refl
  where
    go : (b : Bool) → bytes_eq n m ≡ b → bytes_eq n m ≡ false
    go true is = differs (ap may_repeat (bytes_same n m is) ∙ once)
    go false is = is

-- what the names of many settings say of the first of them, and of the others
away_step : (n m : Text) (xs : List Setting) (b : Bool) → may_repeat m ≡ b → AllByRecursion (λ y. bytes_eq n y ≡ false) (cond (not b) (m ∷ single_names xs) (single_names xs))
    → (may_repeat m ≡ false → bytes_eq n m ≡ false) × AllByRecursion (λ y. bytes_eq n y ≡ false) (single_names xs)
away_step n m xs true is rest = ((λ once. absurd (true≢false (sym is ∙ once))), rest)
away_step n m xs false is rest = ((λ once. rest.0), rest.1)

pub once_parts : (x : Setting) (xs : List Setting) → IsDistinct bytes_eq (single_names (x ∷ xs))
    → (may_repeat x.name ≡ false → AllByRecursion (λ y. bytes_eq x.name y ≡ false) (single_names xs)) × IsDistinct bytes_eq (single_names xs)
unfolding IsDistinct
once_parts x xs once = go (may_repeat x.name) refl once
  where
    go : (b : Bool) → may_repeat x.name ≡ b → IsDistinct bytes_eq (cond (not b) (x.name ∷ single_names xs) (single_names xs))
        → (may_repeat x.name ≡ false → AllByRecursion (λ y. bytes_eq x.name y ≡ false) (single_names xs)) × IsDistinct bytes_eq (single_names xs)
    go true is rest = ((λ single. absurd (true≢false (sym is ∙ single))), rest)
    go false is rest = ((λ single. rest.0), rest.1)

fresh_more : (a : Rule) (v : Text) (rows : List Row) (xs : List Setting) → Fresh rows xs → AllByRecursion (λ (y : Setting). may_repeat y.name ≡ false → bytes_eq a.id y.name ≡ false) xs → Fresh (with_value_of a v rows) xs
fresh_more a v rows [] all away = tt
fresh_more a v rows (x ∷ xs) all away =
    ((λ once. rows_more a.id x.name v (reading_by a) rows ∙ neither (has_row x.name rows) (bytes_eq a.id x.name) (all.0 once) (away.0 once)), fresh_more a v rows xs all.1 away.1)

-- the names of the others are apart from the first one's
pub all_apart : (n : Text) (xs : List Setting) → (may_repeat n ≡ false → AllByRecursion (λ y. bytes_eq n y ≡ false) (single_names xs)) → AllByRecursion (λ (y : Setting). may_repeat y.name ≡ false → bytes_eq n y.name ≡ false) xs
all_apart n [] all = tt
all_apart n (x ∷ xs) all = (
  (λ once. apart_from n x.name (λ single. (away_step n x.name xs (may_repeat x.name) refl (all single)).0 once) once),
  all_apart n xs (λ single. (away_step n x.name xs (may_repeat x.name) refl (all single)).1),
)

pub valid_taken : (s : Shape) (settings : List Setting) (rows : List Row) → ArePlain s.rules → s.args_override_self ≡ false → AllByRecursion (IsValid s) settings → Fresh rows settings
    → IsDistinct bytes_eq (single_names settings) → AllTaken s settings rows
valid_taken s [] rows all never valid fresh once = tt
valid_taken s (x ∷ xs) rows all never valid fresh once =
    let v = valid.0 in
    let parts = once_parts x xs once in
    let id = (long_plain s.rules x.name v.rule all v.found).1 in
    let new : may_repeat v.rule.id ≡ false → has_row v.rule.id rows ≡ false = subst (λ n. may_repeat n ≡ false → has_row n rows ≡ false) (sym id) fresh.0 in
    let passes = use_passes s.args_override_self v.rule x.way x.name x.value rows v.suits v.in_place new v.accepted in
    let makes : used v.rule (held_by x.way x.value) rows ≡ with_value_of v.rule x.value rows = (use_is s.args_override_self v.rule x.way x.name x.value rows never v.suits v.in_place passes).makes in
    let away : AllByRecursion (λ (y : Setting). may_repeat y.name ≡ false → bytes_eq v.rule.id y.name ≡ false) xs =
    subst (λ n. AllByRecursion (λ (y : Setting). may_repeat y.name ≡ false → bytes_eq n y.name ≡ false) xs) (sym id) (all_apart x.name xs parts.0) in
    let more : AllTaken s xs (with_value_of v.rule x.value rows) = valid_taken s xs (with_value_of v.rule x.value rows) all never valid.1 (fresh_more v.rule x.value rows xs fresh.1 away) parts.1 in
    record {
      now = record { rule = v.rule; found = v.found; suits = v.suits; passes = passes; first = v.first; others = v.others; named = v.named; no_equals = v.no_equals; in_place = v.in_place };
      later = subst (AllTaken s xs) (sym makes) more;
    }

pub none_fresh : (xs : List Setting) → Fresh [] xs
none_fresh [] = tt
none_fresh (x ∷ xs) = ((λ once. refl), none_fresh xs)

-- ---- levels

either_way : (b c : Bool) (k : Kinds) → c ≡ true → cond (b || c) [] k ≡ []
either_way true c k e = refl
either_way false c k e = rw e refl

one_default : (rows : List Row) (a : Rule) → a.defaults ≡ [] → default_fault rows a ≡ []
one_default rows a e = either_way (has_row a.id rows) (length a.defaults == 0) _ (ap (λ l. length l == 0) e)

no_default_fault : (rows : List Row) (c : List Rule) → ArePlain c → defaults_fault rows c ≡ []
unfolding defaults_fault
no_default_fault rows [] all = refl
no_default_fault rows (a ∷ rest) all = none_both _ _ (one_default rows a all.0.defaults) (no_default_fault (with_default rows a) rest all.1)

pub level_fine : (s : Shape) (after : List Text) → ArePlain s.rules → ((rows : List Row) → check_fault s rows false ≡ []) → IsFine s (idle_at [] None 1) after → level_fault s [] nothing_held after false [] ≡ []
level_fine s after all checks f =
    none_both _ _ f.walks (none_both _ _ f.ends (none_both _ _ (no_default_fault _ s.rules all) (checks (finished s.rules (walk s.rules [] nothing_held after).held))))

stopped_held : (c : List Rule) (names : Names) (w : Walk) (p : Text × List Text) (rest : List Text) → (fold (walked c names) (record w { stopped = Some p }) rest).held ≡ w.held
unfolding walked
stopped_held c names w p [] = refl
stopped_held c names w p (x ∷ rest) = stopped_held c names w (p.0, p.1 ++ x ∷ []) rest

-- a first word that names a subcommand whose words are fine
pub record Enters (b : App) (name : Text) (leaf : Shape) : Type 0 where
  pub turns : turn_fault b.top (names_of b) (walk_from nothing_held) name ≡ []
  pub stops : walked b.top.rules (names_of b) (walk_from nothing_held) name ≡ record (walk_from nothing_held) { stopped = Some (name, []) }
  pub found : find (λ s. answers_to name (label_of s)) b.subs ≡ Some leaf
  pub defaults : defaults_fault [] b.top.rules ≡ []
  pub checks : (rows : List Row) → check_fault b.top rows true ≡ []

pub top_fine : (b : App) (name : Text) (leaf : Shape) (after : List Text) → Enters b name leaf → level_fault leaf [] nothing_held after false [] ≡ [] → built_fault b nothing_held (name ∷ after) ≡ []
unfolding walk_fault
top_fine b name leaf after e f =
    let w : Walk = record (walk_from nothing_held) { stopped = Some (name, []) } in
    let rest : walk_fault b.top (names_of b) (walked b.top.rules (names_of b) (walk_from nothing_held) name) after ≡ [] =
    subst (λ (x : Walk). walk_fault b.top (names_of b) x after ≡ []) (sym e.stops) (stopped_fault b.top (names_of b) (walk_from nothing_held) (name, []) after) in
    let walks : walk_fault b.top (names_of b) (walk_from nothing_held) (name ∷ after) ≡ [] = none_both _ _ e.turns rest in
    let ends : walk b.top.rules (names_of b) nothing_held (name ∷ after) ≡ fold (walked b.top.rules (names_of b)) w after = ap (λ (x : Walk). fold (walked b.top.rules (names_of b)) x after) e.stops in
    let stop : stop_after b.top.rules (names_of b) (name ∷ after) ≡ Some (name, after) = ap (λ (x : Walk). x.stopped) ends ∙ stopped_walk b.top.rules (names_of b) (walk_from nothing_held) name [] after in
    let held_is : (walk b.top.rules (names_of b) nothing_held (name ∷ after)).held ≡ nothing_held = ap (λ (x : Walk). x.held) ends ∙ stopped_held b.top.rules (names_of b) (walk_from nothing_held) (name, []) after in
    let below : entered_fault b (Some (name, after)) ≡ [] = rw e.found f in
    let has : is_some (entered b (Some (name, after))) ≡ true = rw e.found refl in
    let lower : entered_fault b (stop_after b.top.rules (names_of b) (name ∷ after)) ≡ [] = subst (λ o. entered_fault b o ≡ []) (sym stop) below in
    let is_in : is_some (entered b (stop_after b.top.rules (names_of b) (name ∷ after))) ≡ true = subst (λ o. is_some (entered b o) ≡ true) (sym stop) has in
    let settles : settle_fault b.top.rules b.top.args_override_self (walk b.top.rules (names_of b) nothing_held (name ∷ after)).held ≡ [] = subst (λ (h : Held). settle_fault b.top.rules b.top.args_override_self h ≡ []) (sym held_is) refl in
    let defaults : defaults_fault (settled b.top.rules (walk b.top.rules (names_of b) nothing_held (name ∷ after)).held).rows b.top.rules ≡ [] = subst (λ (h : Held). defaults_fault (settled b.top.rules h).rows b.top.rules ≡ []) (sym held_is) e.defaults in
    let checked : (rows : List Row) → check_fault b.top rows (is_some (entered b (stop_after b.top.rules (names_of b) (name ∷ after)))) ≡ [] = λ rows. subst (λ k. check_fault b.top rows k ≡ []) (sym is_in) (e.checks rows) in
    none_both _ _ walks (none_both _ _ lower (none_both _ _ settles (none_both _ _ defaults (checked (finished b.top.rules (walk b.top.rules (names_of b) nothing_held (name ∷ after)).held)))))

-- ---- the program's command

pub check_enters : (p t r : Choices) (q : OtherChoices) → Enters (built (menu p t r q)) (codes "check") (leaf_at 0 p t r q)
unfolding walked defaults_fault
check_enters p t r q = record { turns = refl; stops = refl; found = refl; defaults = refl; checks = λ rows. refl }

pub replay_enters : (p t r : Choices) (q : OtherChoices) → Enters (built (menu p t r q)) (codes "replay") (leaf_at 1 p t r q)
unfolding walked defaults_fault
replay_enters p t r q = record { turns = refl; stops = refl; found = refl; defaults = refl; checks = λ rows. refl }

pub verify_enters : (p t r : Choices) (q : OtherChoices) → Enters (built (menu p t r q)) (codes "verify") (leaf_at 2 p t r q)
unfolding walked defaults_fault
verify_enters p t r q = record { turns = refl; stops = refl; found = refl; defaults = refl; checks = λ rows. refl }

pub live_enters : (p t r : Choices) (q : OtherChoices) → Enters (built (menu p t r q)) (codes "live") (leaf_at 3 p t r q)
unfolding walked defaults_fault
live_enters p t r q = record { turns = refl; stops = refl; found = refl; defaults = refl; checks = λ rows. refl }

pub serve_enters : (p t r : Choices) (q : OtherChoices) → Enters (built (menu p t r q)) (codes "serve") (leaf_at 4 p t r q)
unfolding walked defaults_fault
serve_enters p t r q = record { turns = refl; stops = refl; found = refl; defaults = refl; checks = λ rows. refl }

pub state_enters : (p t r : Choices) (q : OtherChoices) → Enters (built (menu p t r q)) (codes "state") (leaf_at 5 p t r q)
unfolding walked defaults_fault
state_enters p t r q = record { turns = refl; stops = refl; found = refl; defaults = refl; checks = λ rows. refl }
