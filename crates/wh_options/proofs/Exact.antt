-- Words that give options are not refused.
use Rattle.std.proofs.Common.{◌≡◌, ◌⊎◌, ◌≤◌, ◌<◌, ◌^◌, ℕ, List, [], ◌∷◌, ◌++◌, drop, length, refl, sym, ap, ◌∙◌, Bool, true, false, cond, None, Some, Option, subst, inl, inr, codes, arith, ◌||◌, ◌&&◌, nat_lt, lt-ltb, le-leb, lit<, true≢false, option_map}
use Rattle.std.specs.Prelude.{◌≢◌, MatchOption, find}
use Rattle.std.specs.List.{AllByRecursion, IsDistinct, flat_map, list_all, list_any}
use Rattle.std.specs.Char.{digit_value}
use Rattle.std.specs.Str.{bytes_eq}
use Rattle.std.specs.Str.Parse.{AllDigits, digits_value, without_leading_plus}
use Rattle.clap.proofs.WalkLemmas.{list_any-map}
use Rattle.clap.specs.Facts.{parser_of_value}
use Rattle.clap.specs.Lexer.{has_byte}
use Rattle.clap.specs.ValueTests.{accepts}
use Rattle.clap.specs.Walk.{Row, Rule, Text, arg_by_long, texts}
use Rattle.clap.specs.Faults.{check_fault, fault_of}
use Rattle.clap.specs.Simple.{App, Shape, built, filled}
use Rattle.clap.specs.declared.builder.value_parser.ValueParser.TheVariants as vp
use Rattle.wh_options.specs.Setting.{IsInPlace, IsLine, Setting, has_some, is_switch, may_repeat, single_names, spelled, value_of}
use Rattle.wh_options.specs.Options.{EachGives, EachSays, GivesFleet, GivesFile, GivesHomes, GivesNumber, GivesPlanner, GivesReplay, GivesReplies, GivesRule, GivesTail, GivesLive, GivesVerify, MayGive, IsWritten, SaysServe, SaysState, WordsGive, ends_text, live_names, log_of, planner_text, replay_names, replies_text, rule_names, serve_names, state_names, tail_text, verify_names}
use Rattle.wh_options.specs.Menu.{Choices, IsMenu, OtherChoices, choice_rule, ends_words, file_rule, many_rule, menu, number_rule, planner_words, replies_words, switch_rule, tail_words}
use Rattle.wh_options.specs.declared.chosen.Options.{Options}
use Rattle.wh_options.specs.declared.chosen.Options.TheVariants.{Check, Replay, Verify, Live, Serve, State}
use Rattle.wh_options.specs.declared.chosen.VerifyOptions.{VerifyOptions}
use Rattle.wh_options.specs.declared.chosen.Fleet.{Fleet}
use Rattle.wh_options.specs.declared.chosen.LiveOptions.{LiveOptions}
use Rattle.wh_options.specs.declared.chosen.ReplayOptions.{ReplayOptions}
use Rattle.wh_options.specs.declared.chosen.PlannerKind.{PlannerKind}
use Rattle.wh_options.specs.declared.chosen.PlannerKind.TheVariants.{Near, Patient}
use Rattle.wh_options.specs.declared.chosen.Tail.{Tail}
use Rattle.wh_options.specs.declared.chosen.Tail.TheVariants.{Nothing, Log, Ledger}
use Rattle.wh_options.specs.declared.chosen.Replies.{Replies}
use Rattle.wh_options.specs.declared.chosen.Replies.TheVariants.{Short, Full, Placed}
use Rattle.wh_options.proofs.Shapes.{bytes_same}
use Rattle.wh_options.proofs.Leaf.{ArePlain, IsOption, Suits, option_suits, switch_suits}
use Rattle.wh_options.proofs.Turns.{idle_at}
use Rattle.wh_options.proofs.Words.{IsFine, self_same}
use Rattle.wh_options.proofs.Singles.{choice_option, file_option, is_single, many_option, number_option, single_parts, switch_is}
use Rattle.wh_options.proofs.Spells.{AllTaken, settings_fine}
use Rattle.wh_options.proofs.Serving.{says_of_serve, says_of_state}
use Rattle.wh_options.proofs.Fleets.{live_plain, replay_plain, serve_plain}
use Rattle.wh_options.proofs.Menus.{MenuTexts, leaf_at, menu_texts}
use Rattle.wh_options.proofs.Ruled.{check_ruled, state_plain, verify_plain}
use Rattle.wh_options.proofs.Uses.{IsValid, once_parts, all_apart, valid_taken, none_fresh, level_fine, Enters, top_fine, check_enters, replay_enters, verify_enters, live_enters, serve_enters, state_enters}

-- ---- the value of each setting

cond_skip : (b : Bool) (x : Setting) (o : Option Setting) → b ≡ false → cond b (Some x) o ≡ o
cond_skip true x o e = cc
cond_skip false x o e = refl

-- what may be given once at most has the value that its name gives
abbrev IsValueOf : List Setting → Setting → Type 0
IsValueOf settings x = may_repeat x.name ≡ false → value_of x.name settings ≡ Some x.value

later_value : (x : Setting) (xs ys : List Setting) → AllByRecursion (λ (y : Setting). may_repeat y.name ≡ false → bytes_eq x.name y.name ≡ false) ys
    → AllByRecursion (IsValueOf xs) ys → AllByRecursion (IsValueOf (x ∷ xs)) ys
later_value x xs [] away all = tt
later_value x xs (y ∷ ys) away all =
    ((λ once. ap (option_map (λ (s : Setting). s.value)) (cond_skip (bytes_eq x.name y.name) x (find (λ (s : Setting). bytes_eq s.name y.name) xs) (away.0 once)) ∙ all.0 once), later_value x xs ys away.1 all.1)

own_value : (x : Setting) (xs : List Setting) → value_of x.name (x ∷ xs) ≡ Some x.value
own_value x xs = ap (λ b. option_map (λ (s : Setting). s.value) (cond b (Some x) (find (λ (s : Setting). bytes_eq s.name x.name) xs))) (self_same x.name)

each_value : (settings : List Setting) → IsDistinct bytes_eq (single_names settings) → AllByRecursion (IsValueOf settings) settings
each_value [] once = tt
each_value (x ∷ xs) once =
    let parts = once_parts x xs once in
    ((λ single. own_value x xs), later_value x xs xs (all_apart x.name xs parts.0) (each_value xs parts.1))

all_zip : (P Q R : Setting → Type 0) → ((x : Setting) → P x → Q x → R x) → (xs : List Setting) → AllByRecursion P xs → AllByRecursion Q xs → AllByRecursion R xs
all_zip P Q R f [] p q = tt
all_zip P Q R f (x ∷ xs) p q = (f x p.0 q.0, all_zip P Q R f xs p.1 q.1)

-- ---- what an option takes

digits_pass : (ds : List ℕ) → AllDigits 10 ds → list_all (λ d. nat_lt (digit_value d) 10) ds ≡ true
digits_pass [] e = refl
digits_pass (d ∷ ds) e = rw (lt-ltb (digit_value d) 10 e.0, digits_pass ds e.1) refl

both_true : (a b : Bool) → a ≡ true → b ≡ true → (a && b) ≡ true
both_true true b p q = q
both_true false b p q = cc

number_taken : (text : Text) (least most n : ℕ) → most < 2 ^ 32 → IsWritten n text → least ≤ n → n ≤ most → accepts false (vp.Unsigned least most) text ≡ true
number_taken text least most n fits is low high =
    let ds = without_leading_plus text in
    let value : n ≡ digits_value 10 ds = is.1 in
    let from : least ≤ digits_value 10 ds = rw (← value) low in
    let upto : digits_value 10 ds ≤ most = rw (← value) high in
    let small : digits_value 10 ds < 2 ^ 64 = omega arith in
    both_true _ _ (both_true _ _ (lt-ltb 0 (length ds) is.0.0) (digits_pass ds is.0.1))
    (both_true _ _ (lt-ltb (digits_value 10 ds) (2 ^ 64) small) (both_true _ _ (le-leb least (digits_value 10 ds) from) (le-leb (digits_value 10 ds) most upto)))

word_taken : (choices : Choices) (words : List Text) (text : Text) → texts choices.now ≡ words → list_any (λ w. bytes_eq w text) words ≡ true → accepts false (vp.Names choices) text ≡ true
word_taken choices words text is e = list_any-map (λ w. bytes_eq w text) (λ s. s.now) choices.now ∙ subst (λ ws. list_any (λ w. bytes_eq w text) ws ≡ true) (sym is) e

planner_listed : (planner : PlannerKind) → list_any (λ w. bytes_eq w (planner_text planner)) planner_words ≡ true
planner_listed Near = refl
planner_listed Patient = refl

ends_listed : (homes : Bool) → list_any (λ w. bytes_eq w (ends_text homes)) ends_words ≡ true
ends_listed true = refl
ends_listed false = refl

tail_listed : (tail : Tail) → list_any (λ w. bytes_eq w (tail_text tail)) tail_words ≡ true
tail_listed Nothing = refl
tail_listed Log = refl
tail_listed Ledger = refl

replies_listed : (replies : Replies) → list_any (λ w. bytes_eq w (replies_text replies)) replies_words ≡ true
replies_listed Short = refl
replies_listed Full = refl
replies_listed Placed = refl

-- a file's name
name_taken : (text : Text) → Some text ≢ Some [] → accepts false vp.NonEmptyString text ≡ true
name_taken [] named = absurd (named refl)
name_taken (b ∷ bs) named = lt-ltb 0 (length (b ∷ bs)) (omega arith)

parts_of : (t : Text) → has_some t ≡ true → (b : ℕ) × (bs : Text) × (t ≡ b ∷ bs)
parts_of [] e = cc
parts_of (b ∷ bs) e = (b, bs, refl)

-- a setting of a known argument that takes its value
valid_argument : (s : Shape) (x : Setting) (name : Text) (r : Rule) → x.name ≡ name → arg_by_long s.rules name ≡ Some r → Suits x.way r → has_some name ≡ true → has_byte 61 name ≡ false
    → accepts r.ignore_case (parser_of_value r.parser) x.value ≡ true → IsInPlace x → IsValid s x
valid_argument s x name r is found suits some plain taken stands =
    let cut = parts_of name some in
    record {
      rule = r;
      found = ap (arg_by_long s.rules) is ∙ found;
      suits = suits;
      accepted = taken;
      first = cut.0;
      others = cut.1;
      named = is ∙ cut.2;
      no_equals = ap (has_byte 61) is ∙ plain;
      in_place = stands;
    }

-- a setting of a known option whose value the option takes
valid_setting : (s : Shape) (x : Setting) (name : Text) (r : Rule) → x.name ≡ name → arg_by_long s.rules name ≡ Some r → IsOption r → has_some name ≡ true → has_byte 61 name ≡ false → is_switch name ≡ false
    → accepts r.ignore_case (parser_of_value r.parser) x.value ≡ true → IsInPlace x → IsValid s x
valid_setting s x name r is found opt some plain no_switch taken stands =
    valid_argument s x name r is found (option_suits x.way x.name x.value r stands (ap is_switch is ∙ no_switch) opt) some plain taken stands

-- a setting of a known switch
valid_switch : (s : Shape) (x : Setting) (name : Text) → x.name ≡ name → arg_by_long s.rules name ≡ Some (filled (switch_rule name)) → has_some name ≡ true → has_byte 61 name ≡ false → is_switch name ≡ true → may_repeat name ≡ false
    → IsInPlace x → IsValid s x
valid_switch s x name is found some plain is_one once stands =
    valid_argument s x name (filled (switch_rule name)) is found (switch_suits x.way x.name x.value (filled (switch_rule name)) stands (ap is_switch is ∙ is_one) (switch_is name once)) some plain refl stands

-- the setting is the one that its name gives
abbrev IsGiven : List Setting → Setting → Type 0
IsGiven settings x = IsValueOf settings x × IsInPlace x

each_given : (settings : List Setting) → IsDistinct bytes_eq (single_names settings) → AllByRecursion IsInPlace settings → AllByRecursion (IsGiven settings) settings
each_given settings once free = all_zip _ _ _ (λ x value stands. (value, stands)) settings (each_value settings once) free

value_at : (settings : List Setting) (x : Setting) (name : Text) → is_single name ≡ true → x.name ≡ name → IsValueOf settings x → value_of name settings ≡ Some x.value
value_at settings x name single is value = ap (λ n. value_of n settings) (sym is) ∙ value (ap may_repeat is ∙ (single_parts name single).1)

valid_number : (s : Shape) (settings : List Setting) (x : Setting) (name : Text) (least most default n : ℕ) → x.name ≡ name → IsGiven settings x
    → arg_by_long s.rules name ≡ Some (filled (number_rule name least most)) → has_some name ≡ true → has_byte 61 name ≡ false → is_single name ≡ true → most < 2 ^ 32
    → GivesNumber settings name default least most n → IsValid s x
valid_number s settings x name least most default n is value found some plain single fits gives =
    let given : IsWritten n x.value × (least ≤ n) × (n ≤ most) = subst (λ o. MatchOption o (n ≡ default) (λ text. IsWritten n text × (least ≤ n) × (n ≤ most))) (value_at settings x name single is value.0) gives in
    valid_setting s x name (filled (number_rule name least most)) is found (number_option name least most single) some plain (single_parts name single).0
    (number_taken x.value least most n fits given.0 given.1 given.2) value.1

valid_planner : (s : Shape) (settings : List Setting) (x : Setting) (choices : Choices) (planner : PlannerKind) → x.name ≡ codes "planner" → IsGiven settings x
    → arg_by_long s.rules (codes "planner") ≡ Some (filled (choice_rule (codes "planner") choices)) → texts choices.now ≡ planner_words → GivesPlanner settings planner → IsValid s x
valid_planner s settings x choices planner is value found words gives =
    let given : x.value ≡ planner_text planner = subst (λ o. MatchOption o (planner ≡ Near) (λ text. text ≡ planner_text planner)) (value_at settings x (codes "planner") refl is value.0) gives in
    valid_setting s x (codes "planner") (filled (choice_rule (codes "planner") choices)) is found (choice_option (codes "planner") choices refl) refl refl refl
    (word_taken choices planner_words x.value words (subst (λ t. list_any (λ w. bytes_eq w t) planner_words ≡ true) (sym given) (planner_listed planner)))
    value.1

valid_ends : (s : Shape) (settings : List Setting) (x : Setting) (choices : Choices) (homes : Bool) → x.name ≡ codes "ends" → IsGiven settings x
    → arg_by_long s.rules (codes "ends") ≡ Some (filled (choice_rule (codes "ends") choices)) → texts choices.now ≡ ends_words → GivesHomes settings homes → IsValid s x
valid_ends s settings x choices homes is value found words gives =
    let given : x.value ≡ ends_text homes = subst (λ o. MatchOption o (homes ≡ false) (λ text. text ≡ ends_text homes)) (value_at settings x (codes "ends") refl is value.0) gives in
    valid_setting s x (codes "ends") (filled (choice_rule (codes "ends") choices)) is found (choice_option (codes "ends") choices refl) refl refl refl
    (word_taken choices ends_words x.value words (subst (λ t. list_any (λ w. bytes_eq w t) ends_words ≡ true) (sym given) (ends_listed homes)))
    value.1

valid_tail : (s : Shape) (settings : List Setting) (x : Setting) (choices : Choices) (tail : Tail) → x.name ≡ codes "tail" → IsGiven settings x
    → arg_by_long s.rules (codes "tail") ≡ Some (filled (choice_rule (codes "tail") choices)) → texts choices.now ≡ tail_words → GivesTail settings tail → IsValid s x
valid_tail s settings x choices tail is value found words gives =
    let given : x.value ≡ tail_text tail = subst (λ o. MatchOption o (tail ≡ Nothing) (λ text. text ≡ tail_text tail)) (value_at settings x (codes "tail") refl is value.0) gives in
    valid_setting s x (codes "tail") (filled (choice_rule (codes "tail") choices)) is found (choice_option (codes "tail") choices refl) refl refl refl
    (word_taken choices tail_words x.value words (subst (λ t. list_any (λ w. bytes_eq w t) tail_words ≡ true) (sym given) (tail_listed tail)))
    value.1

valid_replies : (s : Shape) (settings : List Setting) (x : Setting) (choices : Choices) (replies : Replies) → x.name ≡ codes "replies" → IsGiven settings x
    → arg_by_long s.rules (codes "replies") ≡ Some (filled (choice_rule (codes "replies") choices)) → texts choices.now ≡ replies_words → GivesReplies settings replies → IsValid s x
valid_replies s settings x choices replies is value found words gives =
    let given : x.value ≡ replies_text replies = subst (λ o. MatchOption o (replies ≡ Short) (λ text. text ≡ replies_text replies)) (value_at settings x (codes "replies") refl is value.0) gives in
    valid_setting s x (codes "replies") (filled (choice_rule (codes "replies") choices)) is found (choice_option (codes "replies") choices refl) refl refl refl
    (word_taken choices replies_words x.value words (subst (λ t. list_any (λ w. bytes_eq w t) replies_words ≡ true) (sym given) (replies_listed replies)))
    value.1

valid_file : (s : Shape) (settings : List Setting) (x : Setting) (name : Text) (file : Option Text) → x.name ≡ name → IsGiven settings x
    → arg_by_long s.rules name ≡ Some (filled (file_rule name)) → has_some name ≡ true → has_byte 61 name ≡ false → is_single name ≡ true → GivesFile settings name file → IsValid s x
valid_file s settings x name file is value found some plain single gives =
    let given : file ≡ Some x.value = gives.is ∙ value_at settings x name single is value.0 in
    valid_setting s x name (filled (file_rule name)) is found (file_option name single) some plain (single_parts name single).0
    (name_taken x.value (λ empty. gives.named (given ∙ empty))) value.1

valid_may : (s : Shape) (settings : List Setting) (x : Setting) (name : Text) (least most : ℕ) (read : Option ℕ) → x.name ≡ name → IsGiven settings x
    → arg_by_long s.rules name ≡ Some (filled (number_rule name least most)) → has_some name ≡ true → has_byte 61 name ≡ false → is_single name ≡ true → most < 2 ^ 32
    → MayGive settings name least most read → IsValid s x
valid_may s settings x name least most read is value found some plain single fits gives =
    let given : (n : ℕ) × (read ≡ Some n) × IsWritten n x.value × (least ≤ n) × (n ≤ most) =
    subst (λ o. MatchOption o (read ≡ None) (λ text. (n : ℕ) × (read ≡ Some n) × IsWritten n text × (least ≤ n) × (n ≤ most))) (value_at settings x name single is value.0) gives in
    valid_setting s x name (filled (number_rule name least most)) is found (number_option name least most single) some plain (single_parts name single).0
    (number_taken x.value least most given.0 fits given.2 given.3 given.4) value.1

-- ---- the settings of a subcommand

pub either_true : (a b : Bool) → (a || b) ≡ true → (a ≡ true) ⊎ (b ≡ true)
either_true true b e = inl refl
either_true false b e = inr e

abbrev Found : Shape → Text → ℕ → ℕ → Type 0
Found s name least most = arg_by_long s.rules name ≡ Some (filled (number_rule name least most))

fleet_valid : (s : Shape) (settings : List Setting) (choices ends : Choices) (fleet : Fleet) (others : List Text) → texts choices.now ≡ planner_words → texts ends.now ≡ ends_words → GivesFleet settings fleet
    → arg_by_long s.rules (codes "planner") ≡ Some (filled (choice_rule (codes "planner") choices)) → Found s (codes "slack") 0 1000 → Found s (codes "effort") 1000 1000000000 → Found s (codes "slots") 2 64 → Found s (codes "bank") 2 65536 → Found s (codes "spares") 0 16
    → arg_by_long s.rules (codes "ends") ≡ Some (filled (choice_rule (codes "ends") ends))
    → (x : Setting) → IsGiven settings x → (list_any (bytes_eq x.name) others ≡ true → IsValid s x)
    → list_any (bytes_eq x.name) (codes "planner" ∷ codes "slack" ∷ codes "effort" ∷ codes "slots" ∷ codes "bank" ∷ codes "spares" ∷ codes "ends" ∷ others) ≡ true → IsValid s x
fleet_valid s settings choices ends fleet others words ends_are gives planner slack effort slots bank spares found x value rest e = elim (either_true _ _ e) [
  | inl is ↦ valid_planner s settings x choices fleet.planner (bytes_same _ _ is) value planner words gives.planner
  | inr a ↦ elim (either_true _ _ a) [
    | inl is ↦ valid_number s settings x (codes "slack") 0 1000 0 fleet.slack (bytes_same _ _ is) value slack refl refl refl (lit< tt) gives.slack
    | inr b ↦ elim (either_true _ _ b) [
      | inl is ↦ valid_may s settings x (codes "effort") 1000 1000000000 fleet.effort (bytes_same _ _ is) value effort refl refl refl (lit< tt) gives.effort
      | inr f ↦ elim (either_true _ _ f) [
        | inl is ↦ valid_number s settings x (codes "slots") 2 64 4 fleet.slots (bytes_same _ _ is) value slots refl refl refl (lit< tt) gives.slots
        | inr g ↦ elim (either_true _ _ g) [
          | inl is ↦ valid_number s settings x (codes "bank") 2 65536 1024 fleet.bank (bytes_same _ _ is) value bank refl refl refl (lit< tt) gives.bank
          | inr h ↦ elim (either_true _ _ h) [
            | inl is ↦ valid_number s settings x (codes "spares") 0 16 0 fleet.spares (bytes_same _ _ is) value spares refl refl refl (lit< tt) gives.spares
            | inr i ↦ elim (either_true _ _ i) [
              | inl is ↦ valid_ends s settings x ends fleet.homes (bytes_same _ _ is) value found ends_are gives.ends
              | inr j ↦ rest j
            ]
          ]
        ]
      ]
    ]
  ]
]

vehicles_valid : (p t r : Choices) (q : OtherChoices) (settings : List Setting) (o : ReplayOptions) → GivesReplay settings o
    → (x : Setting) → IsGiven settings x → list_any (bytes_eq x.name) (drop 12 replay_names) ≡ true → IsValid (leaf_at 1 p t r q) x
vehicles_valid p t r q settings o gives x value e = elim (either_true _ _ e) [
  | inl is ↦ valid_switch (leaf_at 1 p t r q) x (codes "vehicles") (bytes_same _ _ is) refl refl refl refl refl value.1
  | inr f ↦ elim (either_true _ _ f) [
    | inl is ↦ valid_number (leaf_at 1 p t r q) settings x (codes "behind") 1 1000 8 gives.vehicles.pace.behind (bytes_same _ _ is) value refl refl refl refl (lit< tt) gives.vehicles.behind
    | inr g ↦ elim (either_true _ _ g) [
      | inl is ↦ valid_number (leaf_at 1 p t r q) settings x (codes "ahead") 1 1000 1 gives.vehicles.pace.ahead (bytes_same _ _ is) value refl refl refl refl (lit< tt) gives.vehicles.ahead
      | inr h ↦ elim (either_true _ _ h) [
        | inl is ↦ valid_switch (leaf_at 1 p t r q) x (codes "deliver") (bytes_same _ _ is) refl refl refl refl refl value.1
        | inr none ↦ absurd (true≢false (sym none))
      ]
    ]
  ]
]

replay_valid : (p t r : Choices) (q : OtherChoices) (settings : List Setting) (o : ReplayOptions) → texts p.now ≡ planner_words → texts t.now ≡ tail_words → texts r.now ≡ replies_words → texts q.replay_ends.now ≡ ends_words → GivesReplay settings o
    → (x : Setting) → list_any (bytes_eq x.name) replay_names ≡ true → IsGiven settings x → IsValid (leaf_at 1 p t r q) x
replay_valid p t r q settings o planners tails words ends gives x listed value =
    fleet_valid (leaf_at 1 p t r q) settings p q.replay_ends o.fleet (drop 7 replay_names) planners ends gives.fleet refl refl refl refl refl refl refl x value
    (λ e. elim (either_true _ _ e) [
      | inl is ↦ valid_tail (leaf_at 1 p t r q) settings x t o.tail (bytes_same _ _ is) value refl tails gives.tail
      | inr f ↦ elim (either_true _ _ f) [
        | inl is ↦ valid_replies (leaf_at 1 p t r q) settings x r o.replies (bytes_same _ _ is) value refl words gives.replies
        | inr g ↦ elim (either_true _ _ g) [
          | inl is ↦ valid_file (leaf_at 1 p t r q) settings x (codes "log") (log_of o) (bytes_same _ _ is) value refl refl refl refl gives.log
          | inr h ↦ elim (either_true _ _ h) [
            | inl is ↦ valid_may (leaf_at 1 p t r q) settings x (codes "told") 0 999999999 o.told (bytes_same _ _ is) value refl refl refl refl (lit< tt) gives.told
            | inr i ↦ elim (either_true _ _ i) [
              | inl is ↦ valid_switch (leaf_at 1 p t r q) x (codes "new") (bytes_same _ _ is) refl refl refl refl refl value.1
              | inr j ↦ vehicles_valid p t r q settings o gives x value j
            ]
          ]
        ]
      ]
    ]) listed

valid_many : (s : Shape) (x : Setting) (name : Text) → x.name ≡ name → IsInPlace x → arg_by_long s.rules name ≡ Some (filled (many_rule name)) → has_some name ≡ true → has_byte 61 name ≡ false → is_switch name ≡ false → may_repeat name ≡ true
    → IsValid s x
valid_many s x name is stands found some plain no_switch many = valid_setting s x name (filled (many_rule name)) is found (many_option name many) some plain no_switch refl stands

clients_valid : (p t r : Choices) (q : OtherChoices) (settings : List Setting) → texts q.replies.now ≡ replies_words → (says : SaysServe settings)
    → (x : Setting) → IsGiven settings x → list_any (bytes_eq x.name) (drop 11 serve_names) ≡ true → IsValid (leaf_at 4 p t r q) x
clients_valid p t r q settings words says x value e = elim (either_true _ _ e) [
  | inl is ↦ valid_file (leaf_at 4 p t r q) settings x (codes "log") says.kept (bytes_same _ _ is) value refl refl refl refl says.log
  | inr s ↦ elim (either_true _ _ s) [
    | inl is ↦ valid_switch (leaf_at 4 p t r q) x (codes "new") (bytes_same _ _ is) refl refl refl refl refl value.1
    | inr f ↦ elim (either_true _ _ f) [
      | inl is ↦ valid_replies (leaf_at 4 p t r q) settings x q.replies says.form (bytes_same _ _ is) value refl words says.replies
      | inr g ↦ elim (either_true _ _ g) [
        | inl is ↦ valid_may (leaf_at 4 p t r q) settings x (codes "share") 1 1000000 says.part (bytes_same _ _ is) value refl refl refl refl (lit< tt) says.share
        | inr h ↦ elim (either_true _ _ h) [
          | inl is ↦ valid_many (leaf_at 4 p t r q) x (codes "client") (bytes_same _ _ is) value.1 refl refl refl refl refl
          | inr none ↦ absurd (true≢false (sym none))
        ]
      ]
    ]
  ]
]

board_valid : (p t r : Choices) (q : OtherChoices) (settings : List Setting) → texts q.replies.now ≡ replies_words → (says : SaysServe settings)
    → (x : Setting) → IsGiven settings x → list_any (bytes_eq x.name) (drop 9 serve_names) ≡ true → IsValid (leaf_at 4 p t r q) x
board_valid p t r q settings words says x value e = elim (either_true _ _ e) [
  | inl is ↦ valid_file (leaf_at 4 p t r q) settings x (codes "board") says.shown (bytes_same _ _ is) value refl refl refl refl says.board
  | inr f ↦ elim (either_true _ _ f) [
    | inl is ↦ valid_number (leaf_at 4 p t r q) settings x (codes "board-every") 1 60000 100 says.looks (bytes_same _ _ is) value refl refl refl refl (lit< tt) says.board_every
    | inr g ↦ clients_valid p t r q settings words says x value g
  ]
]

live_valid : (p t r : Choices) (q : OtherChoices) (settings : List Setting) (o : LiveOptions) → texts q.live.now ≡ planner_words → texts q.live_ends.now ≡ ends_words → GivesLive settings o
    → (x : Setting) → list_any (bytes_eq x.name) live_names ≡ true → IsGiven settings x → IsValid (leaf_at 3 p t r q) x
live_valid p t r q settings o planners ends gives x listed value =
    fleet_valid (leaf_at 3 p t r q) settings q.live q.live_ends o.fleet (drop 7 live_names) planners ends gives.fleet refl refl refl refl refl refl refl x value
    (λ e. elim (either_true _ _ e) [
      | inl is ↦ valid_number (leaf_at 3 p t r q) settings x (codes "turns") 1 100000 64 o.turns (bytes_same _ _ is) value refl refl refl refl (lit< tt) gives.turns
      | inr f ↦ elim (either_true _ _ f) [
        | inl is ↦ valid_number (leaf_at 3 p t r q) settings x (codes "journal") 1 1000000 10000 o.journal (bytes_same _ _ is) value refl refl refl refl (lit< tt) gives.journal
        | inr none ↦ absurd (true≢false (sym none))
      ]
    ]) listed

serve_valid : (p t r : Choices) (q : OtherChoices) (settings : List Setting) → texts q.planners.now ≡ planner_words → texts q.replies.now ≡ replies_words → texts q.serve_ends.now ≡ ends_words → (says : SaysServe settings)
    → (x : Setting) → list_any (bytes_eq x.name) serve_names ≡ true → IsGiven settings x → IsValid (leaf_at 4 p t r q) x
serve_valid p t r q settings planners words ends says x listed value =
    fleet_valid (leaf_at 4 p t r q) settings q.planners q.serve_ends says.planners (drop 7 serve_names) planners ends says.fleet refl refl refl refl refl refl refl x value
    (λ e. elim (either_true _ _ e) [
      | inl is ↦ valid_number (leaf_at 4 p t r q) settings x (codes "journal") 1 1000000 1000000 says.entries (bytes_same _ _ is) value refl refl refl refl (lit< tt) says.journal
      | inr f ↦ elim (either_true _ _ f) [
        | inl is ↦ valid_may (leaf_at 4 p t r q) settings x (codes "every") 1 60000 says.pace (bytes_same _ _ is) value refl refl refl refl (lit< tt) says.every
        | inr g ↦ board_valid p t r q settings words says x value g
      ]
    ]) listed

-- of a subcommand that is told where paths end, and nothing else
ruled_valid : (s : Shape) (settings : List Setting) (ends : Choices) (homes : Bool) → texts ends.now ≡ ends_words → arg_by_long s.rules (codes "ends") ≡ Some (filled (choice_rule (codes "ends") ends))
    → GivesRule settings homes → (x : Setting) → list_any (bytes_eq x.name) rule_names ≡ true → IsGiven settings x → IsValid s x
ruled_valid s settings ends homes words found gives x listed value = elim (either_true _ _ listed) [
  | inl is ↦ valid_ends s settings x ends homes (bytes_same _ _ is) value found words gives.ends
  | inr none ↦ absurd (true≢false (sym none))
]

verify_valid : (p t r : Choices) (q : OtherChoices) (settings : List Setting) (o : VerifyOptions) → texts q.verify_ends.now ≡ ends_words → GivesVerify settings o
    → (x : Setting) → list_any (bytes_eq x.name) verify_names ≡ true → IsGiven settings x → IsValid (leaf_at 2 p t r q) x
verify_valid p t r q settings o words gives x listed value = elim (either_true _ _ listed) [
  | inl is ↦ valid_ends (leaf_at 2 p t r q) settings x q.verify_ends o.homes (bytes_same _ _ is) value refl words gives.ends
  | inr e ↦ elim (either_true _ _ e) [
    | inl is ↦ valid_switch (leaf_at 2 p t r q) x (codes "unended") (bytes_same _ _ is) refl refl refl refl refl value.1
    | inr f ↦ elim (either_true _ _ f) [
      | inl is ↦ valid_may (leaf_at 2 p t r q) settings x (codes "wlog") 3 3 o.wlog (bytes_same _ _ is) value refl refl refl refl (lit< tt) gives.wlog
      | inr g ↦ elim (either_true _ _ g) [
        | inl is ↦ valid_switch (leaf_at 2 p t r q) x (codes "chain") (bytes_same _ _ is) refl refl refl refl refl value.1
        | inr none ↦ absurd (true≢false (sym none))
      ]
    ]
  ]
]

state_valid : (p t r : Choices) (q : OtherChoices) (settings : List Setting) → texts q.state_ends.now ≡ ends_words → (says : SaysState settings)
    → (x : Setting) → list_any (bytes_eq x.name) state_names ≡ true → IsGiven settings x → IsValid (leaf_at 5 p t r q) x
state_valid p t r q settings words says x listed value = elim (either_true _ _ listed) [
  | inl is ↦ valid_ends (leaf_at 5 p t r q) settings x q.state_ends says.homes (bytes_same _ _ is) value refl words says.ends
  | inr e ↦ elim (either_true _ _ e) [
    | inl is ↦ valid_file (leaf_at 5 p t r q) settings x (codes "log") says.kept (bytes_same _ _ is) value refl refl refl refl says.log
    | inr f ↦ elim (either_true _ _ f) [
      | inl is ↦ valid_may (leaf_at 5 p t r q) settings x (codes "after") 0 999999999 says.count (bytes_same _ _ is) value refl refl refl refl (lit< tt) says.after
      | inr g ↦ elim (either_true _ _ g) [
        | inl is ↦ valid_switch (leaf_at 5 p t r q) x (codes "stand") (bytes_same _ _ is) refl refl refl refl refl value.1
        | inr none ↦ absurd (true≢false (sym none))
      ]
    ]
  ]
]

-- ---- the whole line

line_fine : (p t r : Choices) (q : OtherChoices) (words : List Text) (name told : Text) (settings : List Setting) (leaf : Shape) → told ≡ name → Enters (built (menu p t r q)) name leaf → ArePlain leaf.rules
    → ((rows : List Row) → check_fault leaf rows false ≡ []) → AllTaken leaf settings [] → IsLine words told settings → fault_of (menu p t r q) words ≡ []
line_fine p t r q words name told settings leaf is enters all checks taken line =
    let after : line.after ≡ flat_map spelled settings ++ line.spelling.rest = line.spelling.words_are in
    let fine = settings_fine leaf settings line.spelling.rest all line.spelling.closes taken in
    let fine_after : IsFine leaf (idle_at [] None 1) line.after = subst (λ ws. IsFine leaf (idle_at [] None 1) ws) (sym after) fine in
    let whole : words ≡ line.program ∷ name ∷ line.after = line.words_are ∙ ap (λ n. line.program ∷ n ∷ line.after) is in
    let built_fine : fault_of (menu p t r q) (line.program ∷ name ∷ line.after) ≡ [] = top_fine (built (menu p t r q)) name leaf line.after enters (level_fine leaf line.after all checks fine_after) in
    subst (λ ws. fault_of (menu p t r q) ws ≡ []) (sym whole) built_fine

replay_fine : (p t r : Choices) (q : OtherChoices) (words : List Text) (name : Text) (settings : List Setting) (o : ReplayOptions) → texts p.now ≡ planner_words → texts t.now ≡ tail_words → texts r.now ≡ replies_words → texts q.replay_ends.now ≡ ends_words
    → name ≡ codes "replay" → IsLine words name settings → GivesReplay settings o → fault_of (menu p t r q) words ≡ []
replay_fine p t r q words name settings o planners tails replies ends is line gives =
    let valid = all_zip _ _ _ (replay_valid p t r q settings o planners tails replies ends gives) settings gives.only (each_given settings line.once line.spelling.in_place) in
    line_fine p t r q words (codes "replay") name settings (leaf_at 1 p t r q) is (replay_enters p t r q) (replay_plain p t r q) (λ rows. refl)
    (valid_taken (leaf_at 1 p t r q) settings [] (replay_plain p t r q) refl valid (none_fresh settings) line.once) line

live_fine : (p t r : Choices) (q : OtherChoices) (words : List Text) (name : Text) (settings : List Setting) (o : LiveOptions) → texts q.live.now ≡ planner_words → texts q.live_ends.now ≡ ends_words
    → name ≡ codes "live" → IsLine words name settings → GivesLive settings o → fault_of (menu p t r q) words ≡ []
live_fine p t r q words name settings o planners ends is line gives =
    let valid = all_zip _ _ _ (live_valid p t r q settings o planners ends gives) settings gives.only (each_given settings line.once line.spelling.in_place) in
    line_fine p t r q words (codes "live") name settings (leaf_at 3 p t r q) is (live_enters p t r q) (live_plain p t r q) (λ rows. refl)
    (valid_taken (leaf_at 3 p t r q) settings [] (live_plain p t r q) refl valid (none_fresh settings) line.once) line

serve_fine : (p t r : Choices) (q : OtherChoices) (words : List Text) (name : Text) (settings : List Setting) → texts q.planners.now ≡ planner_words → texts q.replies.now ≡ replies_words → texts q.serve_ends.now ≡ ends_words
    → name ≡ codes "serve" → IsLine words name settings → SaysServe settings → fault_of (menu p t r q) words ≡ []
serve_fine p t r q words name settings planners replies ends is line says =
    let valid = all_zip _ _ _ (serve_valid p t r q settings planners replies ends says) settings says.only (each_given settings line.once line.spelling.in_place) in
    line_fine p t r q words (codes "serve") name settings (leaf_at 4 p t r q) is (serve_enters p t r q) (serve_plain p t r q) (λ rows. refl)
    (valid_taken (leaf_at 4 p t r q) settings [] (serve_plain p t r q) refl valid (none_fresh settings) line.once) line

state_fine : (p t r : Choices) (q : OtherChoices) (words : List Text) (name : Text) (settings : List Setting) → texts q.state_ends.now ≡ ends_words
    → name ≡ codes "state" → IsLine words name settings → SaysState settings → fault_of (menu p t r q) words ≡ []
state_fine p t r q words name settings ends is line says =
    let valid = all_zip _ _ _ (state_valid p t r q settings ends says) settings says.only (each_given settings line.once line.spelling.in_place) in
    line_fine p t r q words (codes "state") name settings (leaf_at 5 p t r q) is (state_enters p t r q) (state_plain p t r q) (λ rows. refl)
    (valid_taken (leaf_at 5 p t r q) settings [] (state_plain p t r q) refl valid (none_fresh settings) line.once) line

menu_fine : (p t r : Choices) (q : OtherChoices) (words : List Text) (name : Text) (settings : List Setting) (o : Options) → MenuTexts p t r q
    → IsLine words name settings → EachGives name settings o → fault_of (menu p t r q) words ≡ []
menu_fine p t r q words name settings (Check o) are line gives =
    let valid = all_zip _ _ _ (ruled_valid (leaf_at 0 p t r q) settings q.check_ends o.homes are.check_ends refl gives.1) settings gives.1.only (each_given settings line.once line.spelling.in_place) in
    line_fine p t r q words (codes "check") name settings (leaf_at 0 p t r q) gives.0 (check_enters p t r q) (check_ruled p t r q).0 (λ rows. refl)
    (valid_taken (leaf_at 0 p t r q) settings [] (check_ruled p t r q).0 refl valid (none_fresh settings) line.once) line
menu_fine p t r q words name settings (Verify o) are line gives =
    let valid = all_zip _ _ _ (verify_valid p t r q settings o are.verify_ends gives.1) settings gives.1.only (each_given settings line.once line.spelling.in_place) in
    line_fine p t r q words (codes "verify") name settings (leaf_at 2 p t r q) gives.0 (verify_enters p t r q) (verify_plain p t r q) (λ rows. refl)
    (valid_taken (leaf_at 2 p t r q) settings [] (verify_plain p t r q) refl valid (none_fresh settings) line.once) line
menu_fine p t r q words name settings (Replay o) are line gives =
    replay_fine p t r q words name settings o are.planners are.tails are.replies are.replay_ends gives.0 line gives.1
menu_fine p t r q words name settings (Live o) are line gives =
    live_fine p t r q words name settings o are.live are.live_ends gives.0 line gives.1
menu_fine p t r q words name settings (Serve o) are line gives =
    serve_fine p t r q words name settings are.serve are.told are.serve_ends gives.0 line (says_of_serve settings o gives.1)
menu_fine p t r q words name settings (State o) are line gives =
    state_fine p t r q words name settings are.state_ends gives.0 line (says_of_state settings o gives.1)

-- also where the options do not go together
menu_said : (p t r : Choices) (q : OtherChoices) (words : List Text) (name : Text) (settings : List Setting) → MenuTexts p t r q
    → IsLine words name settings → EachSays name settings → fault_of (menu p t r q) words ≡ []
menu_said p t r q words name settings are line (inl said) = replay_fine p t r q words name settings said.1 are.planners are.tails are.replies are.replay_ends said.0 line said.2
menu_said p t r q words name settings are line (inr (inl said)) = serve_fine p t r q words name settings are.serve are.told are.serve_ends said.0 line said.1
menu_said p t r q words name settings are line (inr (inr (inr said))) = state_fine p t r q words name settings are.state_ends said.0 line said.1
menu_said p t r q words name settings are line (inr (inr (inl said))) = live_fine p t r q words name settings said.1 are.live are.live_ends said.0 line said.2

-- words whose options each say something are not refused
pub said_is_taken : (a : App) (words : List Text) (name : Text) (settings : List Setting) → IsMenu a → IsLine words name settings → EachSays name settings → fault_of a words ≡ []
said_is_taken a words name settings m line says =
    subst (λ (x : App). fault_of x words ≡ []) (sym m.is)
    (menu_said m.planners m.tails m.replies m.others words name settings (menu_texts a m) line says)

-- words that give options are not refused
pub given_is_taken : (a : App) (words : List Text) (o : Options) → IsMenu a → WordsGive words o → fault_of a words ≡ []
given_is_taken a words o m gives =
    subst (λ (x : App). fault_of x words ≡ []) (sym m.is)
    (menu_fine m.planners m.tails m.replies m.others words gives.0 gives.1 o (menu_texts a m) gives.2 gives.3.0)
