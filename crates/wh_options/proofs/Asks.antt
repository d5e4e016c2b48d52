-- Words that ask for help or the version are answered with it.
use Rattle.std.proofs.Common.{◌≡◌, List, [], ◌∷◌, ◌++◌, refl, sym, ap, ◌∙◌, true, false, Some, subst, inl, inr, codes, true≢false}
use Rattle.std.specs.Prelude.{fold}
use Rattle.std.specs.List.{list_any}
use Rattle.std.specs.Str.{bytes_eq}
use Rattle.clap.proofs.FaultLemmas.{stopped_fault}
use Rattle.clap.proofs.OnLiterals.{clap_on_literals}
use Rattle.clap.specs.Kinds.{Kinds, or_else}
use Rattle.clap.specs.Walk.{Walk, nothing_held, stop_after, walk_from, walked}
use Rattle.clap.specs.Faults.{built_fault, entered_fault, fault_of, level_fault, walk_fault}
use Rattle.clap.specs.Simple.{App, Shape, built, names_of}
use Rattle.clap.specs.declared.error.kind.ErrorKind.{ErrorKind}
use Rattle.clap.specs.declared.error.kind.ErrorKind.TheVariants.{DisplayHelp, DisplayVersion}
use Rattle.wh_options.specs.Menu.{Choices, IsMenu, OtherChoices, menu}
use Rattle.wh_options.specs.Requests.{AsksBy, IsFront, help_flags, subcommand_names, version_flags}
use Rattle.wh_options.specs.Setting.{Text}
use Rattle.wh_options.proofs.Shapes.{bytes_same}
use Rattle.wh_options.proofs.Top.{stopped_walk}
use Rattle.wh_options.proofs.Menus.{leaf_at}
use Rattle.wh_options.proofs.Uses.{Enters, check_enters, live_enters, replay_enters, serve_enters, state_enters, verify_enters}
use Rattle.wh_options.proofs.Exact.{either_true}

-- ---- one of some words

one_of_two : (P : Text → Type 0) (a b word : Text) → list_any (bytes_eq word) (a ∷ b ∷ []) ≡ true → P a → P b → P word
one_of_two P a b word e p q = elim (either_true _ _ e) [
  | inl is ↦ subst P (sym (bytes_same _ _ is)) p
  | inr f ↦ elim (either_true _ _ f) [
    | inl is ↦ subst P (sym (bytes_same _ _ is)) q
    | inr none ↦ absurd (true≢false (sym none))
  ]
]

one_of_six : (P : Text → Type 0) (a b c d e f word : Text) → list_any (bytes_eq word) (a ∷ b ∷ c ∷ d ∷ e ∷ f ∷ []) ≡ true → P a → P b → P c → P d → P e → P f → P word
one_of_six P a b c d e f word is p q r s t u = elim (either_true _ _ is) [
  | inl at ↦ subst P (sym (bytes_same _ _ at)) p
  | inr g ↦ elim (either_true _ _ g) [
    | inl at ↦ subst P (sym (bytes_same _ _ at)) q
    | inr h ↦ elim (either_true _ _ h) [
      | inl at ↦ subst P (sym (bytes_same _ _ at)) r
      | inr i ↦ elim (either_true _ _ i) [
        | inl at ↦ subst P (sym (bytes_same _ _ at)) s
        | inr j ↦ one_of_two P e f word j t u
      ]
    ]
  ]
]

-- ---- levels

second_fails : (a b more : Kinds) (k : ErrorKind) → a ≡ [] → b ≡ k ∷ [] → or_else a (or_else b more) ≡ k ∷ []
second_fails a b more k e f = rw (e, f) refl

-- where the subcommand's words fail, so do all
below_fails : (b : App) (name : Text) (leaf : Shape) (after : List Text) (k : ErrorKind) → Enters b name leaf → level_fault leaf [] nothing_held after false [] ≡ k ∷ [] → built_fault b nothing_held (name ∷ after) ≡ k ∷ []
unfolding walk_fault
below_fails b name leaf after k e f =
    let w : Walk = record (walk_from nothing_held) { stopped = Some (name, []) } in
    let rest : walk_fault b.top (names_of b) (walked b.top.rules (names_of b) (walk_from nothing_held) name) after ≡ [] =
    subst (λ (x : Walk). walk_fault b.top (names_of b) x after ≡ []) (sym e.stops) (stopped_fault b.top (names_of b) (walk_from nothing_held) (name, []) after) in
    let walks : walk_fault b.top (names_of b) (walk_from nothing_held) (name ∷ after) ≡ [] = rw (e.turns, rest) refl in
    let stop : stop_after b.top.rules (names_of b) (name ∷ after) ≡ Some (name, after) =
    ap (λ (x : Walk). (fold (walked b.top.rules (names_of b)) x after).stopped) e.stops ∙ stopped_walk b.top.rules (names_of b) (walk_from nothing_held) name [] after in
    let below : entered_fault b (Some (name, after)) ≡ k ∷ [] = rw e.found f in
    let lower : entered_fault b (stop_after b.top.rules (names_of b) (name ∷ after)) ≡ k ∷ [] = subst (λ o. entered_fault b o ≡ k ∷ []) (sym stop) below in
    second_fails _ _ _ k walks lower

-- ---- the program's command

abbrev Answers : ErrorKind → Choices → Choices → Choices → OtherChoices → Text → List Text → List Text → Text → Type 0
Answers k p t r q program front after flag = fault_of (menu p t r q) (program ∷ front ++ flag ∷ after) ≡ k ∷ []

abbrev LeafAnswers : ErrorKind → Shape → List Text → Text → Type 0
LeafAnswers k leaf after flag = level_fault leaf [] nothing_held (flag ∷ after) false [] ≡ k ∷ []

top_help : (p t r : Choices) (q : OtherChoices) (program : Text) (after : List Text) → Answers DisplayHelp p t r q program [] after (codes "--help") × Answers DisplayHelp p t r q program [] after (codes "-h")
unfolding clap_on_literals
top_help p t r q program after = (refl, refl)

top_version : (p t r : Choices) (q : OtherChoices) (program : Text) (after : List Text) → Answers DisplayVersion p t r q program [] after (codes "--version") × Answers DisplayVersion p t r q program [] after (codes "-V")
unfolding clap_on_literals
top_version p t r q program after = (refl, refl)

-- a leaf's answers to the four flags
pub record AnswersAll (leaf : Shape) (after : List Text) : Type 0 where
  pub help : LeafAnswers DisplayHelp leaf after (codes "--help")
  pub short_help : LeafAnswers DisplayHelp leaf after (codes "-h")
  pub version : LeafAnswers DisplayVersion leaf after (codes "--version")
  pub short_version : LeafAnswers DisplayVersion leaf after (codes "-V")

check_answers : (p t r : Choices) (q : OtherChoices) (after : List Text) → AnswersAll (leaf_at 0 p t r q) after
unfolding clap_on_literals
check_answers p t r q after = record { help = refl; short_help = refl; version = refl; short_version = refl }

replay_answers : (p t r : Choices) (q : OtherChoices) (after : List Text) → AnswersAll (leaf_at 1 p t r q) after
unfolding clap_on_literals
replay_answers p t r q after = record { help = refl; short_help = refl; version = refl; short_version = refl }

verify_answers : (p t r : Choices) (q : OtherChoices) (after : List Text) → AnswersAll (leaf_at 2 p t r q) after
unfolding clap_on_literals
verify_answers p t r q after = record { help = refl; short_help = refl; version = refl; short_version = refl }

live_answers : (p t r : Choices) (q : OtherChoices) (after : List Text) → AnswersAll (leaf_at 3 p t r q) after
unfolding clap_on_literals
live_answers p t r q after = record { help = refl; short_help = refl; version = refl; short_version = refl }

serve_answers : (p t r : Choices) (q : OtherChoices) (after : List Text) → AnswersAll (leaf_at 4 p t r q) after
unfolding clap_on_literals
serve_answers p t r q after = record { help = refl; short_help = refl; version = refl; short_version = refl }

state_answers : (p t r : Choices) (q : OtherChoices) (after : List Text) → AnswersAll (leaf_at 5 p t r q) after
unfolding clap_on_literals
state_answers p t r q after = record { help = refl; short_help = refl; version = refl; short_version = refl }

-- ---- any front

-- one answer to a flag, at the top and at each subcommand
pub record AnswersAt (k : ErrorKind) (p t r : Choices) (q : OtherChoices) (program : Text) (after : List Text) (flag : Text) : Type 0 where
  pub top : Answers k p t r q program [] after flag
  pub check : LeafAnswers k (leaf_at 0 p t r q) after flag
  pub replay : LeafAnswers k (leaf_at 1 p t r q) after flag
  pub verify : LeafAnswers k (leaf_at 2 p t r q) after flag
  pub live : LeafAnswers k (leaf_at 3 p t r q) after flag
  pub serve : LeafAnswers k (leaf_at 4 p t r q) after flag
  pub state : LeafAnswers k (leaf_at 5 p t r q) after flag

named_answers : (k : ErrorKind) (p t r : Choices) (q : OtherChoices) (program : Text) (after : List Text) (flag name : Text) → AnswersAt k p t r q program after flag → list_any (bytes_eq name) subcommand_names ≡ true
    → Answers k p t r q program (name ∷ []) after flag
named_answers k p t r q program after flag name a e =
    one_of_six (λ n. Answers k p t r q program (n ∷ []) after flag) (codes "check") (codes "replay") (codes "verify") (codes "live") (codes "serve") (codes "state") name e
    (below_fails (built (menu p t r q)) (codes "check") (leaf_at 0 p t r q) (flag ∷ after) k (check_enters p t r q) a.check)
    (below_fails (built (menu p t r q)) (codes "replay") (leaf_at 1 p t r q) (flag ∷ after) k (replay_enters p t r q) a.replay)
    (below_fails (built (menu p t r q)) (codes "verify") (leaf_at 2 p t r q) (flag ∷ after) k (verify_enters p t r q) a.verify)
    (below_fails (built (menu p t r q)) (codes "live") (leaf_at 3 p t r q) (flag ∷ after) k (live_enters p t r q) a.live)
    (below_fails (built (menu p t r q)) (codes "serve") (leaf_at 4 p t r q) (flag ∷ after) k (serve_enters p t r q) a.serve)
    (below_fails (built (menu p t r q)) (codes "state") (leaf_at 5 p t r q) (flag ∷ after) k (state_enters p t r q) a.state)

front_answers : (k : ErrorKind) (p t r : Choices) (q : OtherChoices) (program : Text) (after : List Text) (flag : Text) (front : List Text) → AnswersAt k p t r q program after flag → IsFront front → Answers k p t r q program front after flag
front_answers k p t r q program after flag front a (inl none) = subst (λ f. Answers k p t r q program f after flag) (sym none) a.top
front_answers k p t r q program after flag front a (inr some) = subst (λ f. Answers k p t r q program f after flag) (sym some.1) (named_answers k p t r q program after flag some.0 a some.2)

flag_answers : (k : ErrorKind) (p t r : Choices) (q : OtherChoices) (program : Text) (after : List Text) (one other flag : Text) (front : List Text) → AnswersAt k p t r q program after one → AnswersAt k p t r q program after other
    → list_any (bytes_eq flag) (one ∷ other ∷ []) ≡ true → IsFront front → Answers k p t r q program front after flag
flag_answers k p t r q program after one other flag front a b is at =
    one_of_two (λ f. Answers k p t r q program front after f) one other flag is (front_answers k p t r q program after one front a at) (front_answers k p t r q program after other front b at)

menu_helps : (p t r : Choices) (q : OtherChoices) (words : List Text) → AsksBy help_flags words → fault_of (menu p t r q) words ≡ DisplayHelp ∷ []
menu_helps p t r q words asks =
    let top = top_help p t r q asks.program asks.after in
    let check = check_answers p t r q asks.after in
    let replay = replay_answers p t r q asks.after in
    let verify = verify_answers p t r q asks.after in
    let live = live_answers p t r q asks.after in
    let serve = serve_answers p t r q asks.after in
    let state = state_answers p t r q asks.after in
    subst (λ ws. fault_of (menu p t r q) ws ≡ DisplayHelp ∷ []) (sym asks.words_are)
    (flag_answers DisplayHelp p t r q asks.program asks.after (codes "--help") (codes "-h") asks.flag asks.front
    (record { top = top.0; check = check.help; replay = replay.help; verify = verify.help; live = live.help; serve = serve.help; state = state.help })
    (record { top = top.1; check = check.short_help; replay = replay.short_help; verify = verify.short_help; live = live.short_help; serve = serve.short_help; state = state.short_help })
    asks.is_flag asks.is_front)

menu_tells_version : (p t r : Choices) (q : OtherChoices) (words : List Text) → AsksBy version_flags words → fault_of (menu p t r q) words ≡ DisplayVersion ∷ []
menu_tells_version p t r q words asks =
    let top = top_version p t r q asks.program asks.after in
    let check = check_answers p t r q asks.after in
    let replay = replay_answers p t r q asks.after in
    let verify = verify_answers p t r q asks.after in
    let live = live_answers p t r q asks.after in
    let serve = serve_answers p t r q asks.after in
    let state = state_answers p t r q asks.after in
    subst (λ ws. fault_of (menu p t r q) ws ≡ DisplayVersion ∷ []) (sym asks.words_are)
    (flag_answers DisplayVersion p t r q asks.program asks.after (codes "--version") (codes "-V") asks.flag asks.front
    (record { top = top.0; check = check.version; replay = replay.version; verify = verify.version; live = live.version; serve = serve.version; state = state.version })
    (record { top = top.1; check = check.short_version; replay = replay.short_version; verify = verify.short_version; live = live.short_version; serve = serve.short_version; state = state.short_version })
    asks.is_flag asks.is_front)

-- words that ask for help are answered with it
pub help_is_given : (a : App) (words : List Text) → IsMenu a → AsksBy help_flags words → fault_of a words ≡ DisplayHelp ∷ []
help_is_given a words m asks = subst (λ (x : App). fault_of x words ≡ DisplayHelp ∷ []) (sym m.is) (menu_helps m.planners m.tails m.replies m.others words asks)

-- words that ask for the version are answered with it
pub version_is_given : (a : App) (words : List Text) → IsMenu a → AsksBy version_flags words → fault_of a words ≡ DisplayVersion ∷ []
version_is_given a words m asks = subst (λ (x : App). fault_of x words ≡ DisplayVersion ∷ []) (sym m.is) (menu_tells_version m.planners m.tails m.replies m.others words asks)
