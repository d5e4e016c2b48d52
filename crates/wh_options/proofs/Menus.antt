-- The menu of the program's command, and what the settings of any subcommand say.
use Rattle.std.proofs.Common.{◌≡◌, ◌⊎◌, ℕ, List, [], ◌∷◌, refl, sym, ap, ◌∙◌, Bool, true, false, cond, None, Some, Option, subst, inl, inr, codes, not, is_some, ◌&&◌, true≢false}
use Rattle.std.specs.Prelude.{drop, find, slice_get, unwrap_or}
use Rattle.std.specs.List.{AllByRecursion, IsDistinct}
use Rattle.std.specs.Str.{bytes_eq}
use Rattle.clap.specs.Faults.{is_simple_and_free, level_fault}
use Rattle.clap.specs.Simple.{App, Shape, built, filled, help_rule, is_simple, new_shape, version_rule}
use Rattle.clap.specs.Walk.{Rule, Text, action_of, arg_by_long, first_of, nothing_held, rows_after, settled, texts, walk, has_long}
use Rattle.wh_options.specs.Setting.{IsSpelled, Setting, is_switch, may_repeat, single_names, value_of, values_of}
use Rattle.wh_options.specs.Options.{LacksAny}
use Rattle.wh_options.specs.Reads.{IsTold, clients_in}
use Rattle.wh_options.specs.Menu.{Choices, IsMenu, OtherChoices, choice_rule, ends_words, file_rule, many_rule, menu, number_rule, planner_words, replies_words, switch_rule, tail_words}
use Rattle.clap.specs.declared.error.kind.ErrorKind.{ErrorKind}
use Rattle.clap.specs.declared.builder.value_parser.ValueParser.TheVariants as vp
use Rattle.wh_options.proofs.Shapes.{find_in}
use Rattle.wh_options.proofs.Leaf.{ArePlain, is_set, option_set, IsAsking, IsOption, IsPlainRule, IsSetting}
use Rattle.wh_options.proofs.Words.{words_said}
use Rattle.wh_options.proofs.Rows.{IsTaken, first_in, first_value, no_defaults, results, values_in}
use Rattle.wh_options.proofs.Top.{IsMenuApp, level_parts}
use Rattle.wh_options.proofs.Singles.{choice_option, file_option, is_single, many_option, number_option, single_parts, switch_is}
use Rattle.wh_options.proofs.Names.{other_word}
use Rattle.wh_options.proofs.Serving.{all_in}
use Rattle.wh_options.proofs.Values.{some_same}

-- ---- any subcommand

-- what the words after a subcommand say
pub record LeafSays (s : Shape) (rest : List Text) : Type 0 where
  pub settings : List Setting
  pub spelling : IsSpelled rest settings
  pub once : IsDistinct bytes_eq (single_names settings)
  pub taken : AllByRecursion (IsTaken s.rules) settings
  pub values : (id : Text) → values_in id (rows_after s.rules [] rest) ≡ values_of id settings
  pub first : (id : Text) → first_of id (rows_after s.rules [] rest) ≡ value_of id settings

pub leaf_says : (s : Shape) (rest : List Text) → ArePlain s.rules → s.args_override_self ≡ false → level_fault s [] nothing_held rest false [] ≡ [] → LeafSays s rest
leaf_says s rest all never f =
    let p = level_parts s [] nothing_held rest false [] f in
    let said = words_said s rest all (record { walks = p.walks; ends = p.settles }) in
    let r = results s said.settings [] _ never said.applied in
    let rows_are = no_defaults s.rules (settled s.rules (walk s.rules [] nothing_held rest).held).rows all in
    let values : (id : Text) → values_in id (rows_after s.rules [] rest) ≡ values_of id said.settings = λ id. ap (values_in id) rows_are ∙ r.values id in
    record {
      settings = said.settings;
      spelling = said.spelling;
      once = r.once;
      taken = r.taken;
      values = values;
      first = λ id. first_in id (rows_after s.rules [] rest) ∙ ap (λ vs. slice_get vs 0) (values id) ∙ first_value id said.settings;
    }

-- ---- the program's command

not_set : (a : Rule) → IsAsking a → is_set (action_of a) ≡ true → ⊥
not_set a h set = elim h.action [
  | inl help ↦ true≢false (sym set ∙ ap is_set help)
  | inr version ↦ true≢false (sym set ∙ ap is_set version)
]

is_asking : (c : List Rule) → AllByRecursion IsAsking c → (name : Text) (a : Rule) → arg_by_long c name ≡ Some a → IsSetting a → ⊥
is_asking c all name a found setting =
    let h = find_in IsAsking (λ r. not (is_some r.index) && has_long r name) c a all found in
    elim setting [
      | inl o ↦ not_set a h.0 (option_set a o)
      | inr w ↦ not_set a h.0 (ap is_set w.action)
    ]

-- the flags that each command is given beside its own
abbrev pub Flags : List Rule
Flags = filled help_rule ∷ filled version_rule ∷ []

asking : AllByRecursion IsAsking Flags
asking = (record { action = inl refl; least = refl; most = refl }, (record { action = inr refl; least = refl; most = refl }, tt))

pub asking_plain : ArePlain Flags
asking_plain = (
  record { long = refl; aliases = refl; index = refl; defaults = refl; kind = inr (inr asking.0) },
  (record { long = refl; aliases = refl; index = refl; defaults = refl; kind = inr (inr asking.1.0) }, tt),
)

pub the_menu : (p t r : Choices) (q : OtherChoices) → IsMenuApp (built (menu p t r q))
the_menu p t r q = record {
  plain = asking_plain;
  no_settings = is_asking (built (menu p t r q)).top.rules asking;
  required = refl;
  helps = refl;
  no_aliases = (refl, (refl, (refl, (refl, (refl, (refl, (refl, tt)))))));
}

pub menu_is_simple : (a : App) → IsMenu a → (is_simple_and_free a ≡ true) × (is_simple a ≡ true)
menu_is_simple a m = (ap is_simple_and_free m.is ∙ refl, ap is_simple m.is ∙ refl)

-- ---- which subcommand

find_head : {X : Type 0} (p : X → Bool) (x : X) (xs : List X) (a : X) → find p (x ∷ xs) ≡ Some a → (x ≡ a) ⊎ (find p xs ≡ Some a)
find_head p x xs a e = go (p x) e
  where
    go : (b : Bool) → cond b (Some x) (find p xs) ≡ Some a → (x ≡ a) ⊎ (find p xs ≡ Some a)
    go true f = inl (some_same x a f)
    go false f = inr f

abbrev pub leaf_at : ℕ → Choices → Choices → Choices → OtherChoices → Shape
leaf_at k p t r q = unwrap_or (slice_get (built (menu p t r q)).subs k) (new_shape [])

-- the shape is one of those of the six subcommands
abbrev pub IsLeaf : Choices → Choices → Choices → OtherChoices → Shape → Type 0
IsLeaf p t r q leaf = (leaf_at 0 p t r q ≡ leaf) ⊎ ((leaf_at 1 p t r q ≡ leaf) ⊎ ((leaf_at 2 p t r q ≡ leaf) ⊎ ((leaf_at 3 p t r q ≡ leaf) ⊎ ((leaf_at 4 p t r q ≡ leaf) ⊎ (leaf_at 5 p t r q ≡ leaf)))))

pub which_leaf : (p t r : Choices) (q : OtherChoices) (test : Shape → Bool) (leaf : Shape) → find test (built (menu p t r q)).subs ≡ Some leaf → bytes_eq leaf.name (codes "help") ≡ false → IsLeaf p t r q leaf
which_leaf p t r q test leaf e not_help = elim (find_head test (leaf_at 0 p t r q) (drop 1 (built (menu p t r q)).subs) leaf e) [
  | inl a ↦ inl a
  | inr f ↦ elim (find_head test (leaf_at 1 p t r q) (drop 2 (built (menu p t r q)).subs) leaf f) [
    | inl a ↦ inr (inl a)
    | inr g ↦ elim (find_head test (leaf_at 2 p t r q) (drop 3 (built (menu p t r q)).subs) leaf g) [
      | inl a ↦ inr (inr (inl a))
      | inr h ↦ elim (find_head test (leaf_at 3 p t r q) (drop 4 (built (menu p t r q)).subs) leaf h) [
        | inl a ↦ inr (inr (inr (inl a)))
        | inr i ↦ elim (find_head test (leaf_at 4 p t r q) (drop 5 (built (menu p t r q)).subs) leaf i) [
          | inl a ↦ inr (inr (inr (inr (inl a))))
          | inr j ↦ elim (find_head test (leaf_at 5 p t r q) (drop 6 (built (menu p t r q)).subs) leaf j) [
            | inl a ↦ inr (inr (inr (inr (inr a))))
            | inr k ↦ elim (find_head test (leaf_at 6 p t r q) [] leaf k) [
              | inl a ↦
                  let bad : true ≡ false = ap (λ (s : Shape). bytes_eq s.name (codes "help")) a ∙ not_help in
                  cc
              | inr none ↦ cc
            ]
          ]
        ]
      ]
    ]
  ]
]

-- the words that each option with a choice takes
pub record MenuTexts (p t r : Choices) (q : OtherChoices) : Type 0 where
  pub planners : texts p.now ≡ planner_words
  pub tails : texts t.now ≡ tail_words
  pub replies : texts r.now ≡ replies_words
  pub live : texts q.live.now ≡ planner_words
  pub serve : texts q.planners.now ≡ planner_words
  pub told : texts q.replies.now ≡ replies_words
  pub check_ends : texts q.check_ends.now ≡ ends_words
  pub replay_ends : texts q.replay_ends.now ≡ ends_words
  pub verify_ends : texts q.verify_ends.now ≡ ends_words
  pub live_ends : texts q.live_ends.now ≡ ends_words
  pub serve_ends : texts q.serve_ends.now ≡ ends_words
  pub state_ends : texts q.state_ends.now ≡ ends_words

pub menu_texts : (a : App) (m : IsMenu a) → MenuTexts m.planners m.tails m.replies m.others
menu_texts a m = record {
  planners = m.planner_texts;
  tails = m.tail_texts;
  replies = m.replies_texts;
  live = m.live_texts;
  serve = m.other_texts;
  told = m.other_replies;
  check_ends = m.check_ends;
  replay_ends = m.replay_ends;
  verify_ends = m.verify_ends;
  live_ends = m.live_ends;
  serve_ends = m.serve_ends;
  state_ends = m.state_ends;
}

-- ---- what the settings mean

abbrev pub HasNumber : List Rule → Text → ℕ → ℕ → Type 0
HasNumber c name least most = (r : Rule) × (arg_by_long c name ≡ Some r) × (r.ignore_case ≡ false) × (r.parser ≡ Some (vp.Unsigned least most))

abbrev pub HasChoice : List Rule → Text → Choices → Type 0
HasChoice c name choices = (r : Rule) × (arg_by_long c name ≡ Some r) × (r.ignore_case ≡ false) × (r.parser ≡ Some (vp.Names choices))

-- what is found and what the settings give are amiss alike
pub lacks_as : (Lack : (Text → Option Text) → Type 0) (f g : Text → Option Text) → ((id : Text) → f id ≡ g id) → Lack f → Lack g
lacks_as Lack f g same lacks = subst Lack (λ i id. same id i) lacks

pub none_lacks : (name : Text) (given : Text → Option Text) → bytes_eq name (codes "replay") ≡ false → bytes_eq name (codes "serve") ≡ false → bytes_eq name (codes "state") ≡ false → LacksAny name given → ⊥
none_lacks name given no_replay no_serve no_state (inl lacks) = other_word name (codes "replay") no_replay lacks.0
none_lacks name given no_replay no_serve no_state (inr (inl lacks)) = other_word name (codes "serve") no_serve lacks.0
none_lacks name given no_replay no_serve no_state (inr (inr lacks)) = other_word name (codes "state") no_state lacks.0

option_plain : (r : Rule) → r.long ≡ Some r.id → r.aliases ≡ [] → r.index ≡ None → r.defaults ≡ [] → IsOption r → is_switch r.id ≡ false → IsPlainRule r
option_plain r long aliases index defaults opt no_switch = record { long = long; aliases = aliases; index = index; defaults = defaults; kind = inl (opt, no_switch) }

pub number_plain : (name : Text) (least most : ℕ) → is_single name ≡ true → IsPlainRule (filled (number_rule name least most))
number_plain name least most single = option_plain _ refl refl refl refl (number_option name least most single) (single_parts name single).0

pub choice_plain : (name : Text) (choices : Choices) → is_single name ≡ true → IsPlainRule (filled (choice_rule name choices))
choice_plain name choices single = option_plain _ refl refl refl refl (choice_option name choices single) (single_parts name single).0

pub file_plain : (name : Text) → is_single name ≡ true → IsPlainRule (filled (file_rule name))
file_plain name single = option_plain _ refl refl refl refl (file_option name single) (single_parts name single).0

pub many_plain : (name : Text) → may_repeat name ≡ true → is_switch name ≡ false → IsPlainRule (filled (many_rule name))
many_plain name many no_switch = option_plain _ refl refl refl refl (many_option name many) no_switch

pub switch_plain : (name : Text) → is_switch name ≡ true → may_repeat name ≡ false → IsPlainRule (filled (switch_rule name))
switch_plain name is_one once = record { long = refl; aliases = refl; index = refl; defaults = refl; kind = inr (inl (switch_is name once, is_one)) }

-- all that was found for clients is all that the settings give
pub clients_said : (s : Shape) (rest : List Text) (says : LeafSays s rest) → clients_in (rows_after s.rules [] rest) ≡ values_of (codes "client") says.settings
clients_said s rest says = all_in (codes "client") (rows_after s.rules [] rest) ∙ says.values (codes "client")

pub told_as : (kind : ErrorKind) (name : Text) (f g : Text → Option Text) (xs ys : List Text) → ((id : Text) → f id ≡ g id) → xs ≡ ys → IsTold kind name f xs → IsTold kind name g ys
told_as kind name f g xs ys same clients told =
    subst (λ zs. IsTold kind name g zs) clients (subst (λ (h : Text → Option Text). IsTold kind name h xs) (λ i id. same id i) told)
