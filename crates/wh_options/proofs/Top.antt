-- The first word after the program's name is a subcommand, where `clap` refuses no word.
use Rattle.std.proofs.Common.{◌≡◌, ◌⊎◌, List, [], ◌∷◌, ◌++◌, refl, sym, ap, ◌∙◌, Bool, true, false, cond, None, Some, Option, subst, inl, inr, is_some, codes, append_assoc, append-nil, ◌&&◌, ◌||◌, not, option_map}
use Rattle.std.specs.Prelude.{find, fold}
use Rattle.std.specs.List.{AllByRecursion}
use Rattle.std.specs.Str.{bytes_eq}
use Rattle.clap.proofs.WalkLemmas.{find-map}
use Rattle.clap.specs.Kinds.{Kinds, check_kinds, or_else}
use Rattle.clap.specs.Walk.{Held, Names, Row, Rule, Text, Walk, after_step, answers_to, arg_by_long, finished, idle, nothing_held, stop_after, subcommand_or_other, walk, walk_from, walked}
use Rattle.clap.specs.Faults.{built_fault, check_fault, entered_fault, level_fault, other_fault, settle_fault, step_fault, walk_fault}
use Rattle.clap.specs.declared.error.kind.ErrorKind.TheVariants.{DisplayHelp, InvalidSubcommand}
use Rattle.clap.specs.Simple.{App, Shape, entered, label_of, names_of, rows_at}
use Rattle.wh_options.proofs.Shapes.{bytes_same, find_in}
use Rattle.wh_options.proofs.Leaf.{ArePlain, IsSetting, both_empty}
use Rattle.wh_options.proofs.Turns.{idle_dashes, trail_at, value_fails}

-- a command of subcommands alone
pub record IsMenuApp (b : App) : Type 0 where
  pub plain : ArePlain b.top.rules
  pub no_settings : (name : Text) (a : Rule) → arg_by_long b.top.rules name ≡ Some a → IsSetting a → ⊥
  pub required : b.top.subcommand_required ≡ true
  pub helps : b.top.disable_help_subcommand ≡ false
  pub no_aliases : AllByRecursion (λ (s : Shape). s.aliases ≡ []) b.subs

-- the words are a subcommand's name, and words that the subcommand takes
pub record Entered (b : App) (words : List Text) : Type 0 where
  pub leaf : Shape
  pub rest : List Text
  pub words_are : words ≡ leaf.name ∷ rest
  pub found : find (λ s. answers_to leaf.name (label_of s)) b.subs ≡ Some leaf
  pub not_help : bytes_eq leaf.name (codes "help") ≡ false
  pub fine : level_fault leaf [] nothing_held rest false [] ≡ []
  pub enters : entered b (stop_after b.top.rules (names_of b) words) ≡ Some (rows_at leaf rest)

check_fails : (x y z : Bool) → y ≡ true → check_kinds x y z ≡ [] → ⊥
check_fails true true z e h = cc
check_fails false true z e h = cc
check_fails x false z e h = cc

-- the parts of a level that is not refused
pub record LevelIsFine (s : Shape) (names : Names) (h : Held) (words : List Text) (has : Bool) (below : Kinds) : Type 0 where
  pub walks : walk_fault s names (walk_from h) words ≡ []
  pub lower : below ≡ []
  pub settles : settle_fault s.rules s.args_override_self (walk s.rules names h words).held ≡ []
  pub checks : check_fault s (finished s.rules (walk s.rules names h words).held) has ≡ []

pub level_parts : (s : Shape) (names : Names) (h : Held) (words : List Text) (has : Bool) (below : Kinds) → level_fault s names h words has below ≡ []
    → LevelIsFine s names h words has below
level_parts s names h words has below e =
    let a = both_empty _ _ e in
    let b = both_empty _ _ a.1 in
    let c = both_empty _ _ b.1 in
    let d = both_empty _ _ c.1 in
    record { walks = a.0; lower = b.0; settles = c.0; checks = d.1 }

-- without a subcommand the words are refused
missing_fails : (s : Shape) (rows : List Row) → s.subcommand_required ≡ true → check_fault s rows false ≡ [] → ⊥
missing_fails s rows is e = check_fails _ _ _ is e

-- the words after a subcommand's name are its own
pub stopped_walk : (c : List Rule) (names : Names) (w : Walk) (name : Text) (front rest : List Text)
    → (fold (walked c names) (record w { stopped = Some (name, front) }) rest).stopped ≡ Some (name, front ++ rest)
unfolding walked
stopped_walk c names w name front [] = ap (λ l. Some (name, l)) (sym (append-nil front))
stopped_walk c names w name front (x ∷ rest) = stopped_walk c names w name (front ++ x ∷ []) rest ∙ ap (λ l. Some (name, l)) (append_assoc front (x ∷ []) rest)

with_label : {X Y : Type 0} (f : X → Y) (o : Option X) (y : Y) → option_map f o ≡ Some y → (x : X) × (o ≡ Some x) × (f x ≡ y)
with_label f None y e = cc
with_label f (Some x) y e = (x, refl, cc)

not_help_name : (name : Text) (off : Bool) (b : Bool) → bytes_eq name (codes "help") ≡ b → off ≡ false → (let k : Kinds = cond (b && not off) (DisplayHelp ∷ InvalidSubcommand ∷ []) [] in k ≡ []) → b ≡ false
not_help_name name off true is never e =
    let bad = rw never at e in
    cc
not_help_name name off false is never e = refl

-- a first word that names no subcommand
no_name_fails : (b : App) (w : Text) (rest : List Text) → IsMenuApp b
    → (let m = subcommand_or_other b.top.rules None idle 1 w nothing_held in
    or_else (other_fault b.top None w nothing_held) (step_fault b.top 1 m.0 m.1) ≡ [])
    → (let m = subcommand_or_other b.top.rules None idle 1 w nothing_held in after_step b.top.rules w (walk_from nothing_held) m.0 m.1 ≡ trail_at nothing_held idle 1)
no_name_fails b w rest menu e = elim (idle_dashes b.top [] None 1 w (bytes_eq w (codes "--")) menu.plain refl e) [
  | inl d ↦ d.after_is
  | inr r ↦ elim r [
    | inl j ↦ absurd (menu.no_settings j.name j.rule j.found (inl j.option))
    | inr q ↦ elim q [
      | inl o ↦ absurd (menu.no_settings o.name o.rule o.found (inl o.option))
      | inr w ↦ absurd (menu.no_settings w.name w.rule w.found (inr w.switch))
    ]
  ]
]

trail_fails : (b : App) (rest : List Text) → IsMenuApp b → walk_fault b.top (names_of b) (trail_at nothing_held idle 1) rest ≡ [] → rest ≡ []
unfolding walk_fault
trail_fails b [] menu e = refl
trail_fails b (x ∷ rest) menu e = absurd (value_fails b.top 1 nothing_held menu.plain (both_empty _ _ e).0)

abbrev WordsFine : App → List Text → Type 0
WordsFine b words = built_fault b nothing_held words ≡ []

abbrev stop_at : App → List Text → Option (Text × List Text)
stop_at b words = stop_after b.top.rules (names_of b) words

parts : (b : App) (words : List Text) → WordsFine b words → LevelIsFine b.top (names_of b) nothing_held words (is_some (entered b (stop_at b words))) (entered_fault b (stop_at b words))
parts b words f = level_parts b.top (names_of b) nothing_held words _ _ f

-- no subcommand was met, so the words are refused
unstopped_fails : (b : App) (words : List Text) → IsMenuApp b → stop_at b words ≡ None → WordsFine b words → ⊥
unstopped_fails b words menu none f =
    let p = parts b words f in
    let has : is_some (entered b (stop_at b words)) ≡ false = rw none refl in
    let checked : check_fault b.top (finished b.top.rules (walk b.top.rules (names_of b) nothing_held words).held) false ≡ [] =
    subst (λ k. check_fault b.top (finished b.top.rules (walk b.top.rules (names_of b) nothing_held words).held) k ≡ []) has p.checks in
    missing_fails b.top (finished b.top.rules (walk b.top.rules (names_of b) nothing_held words).held) menu.required checked

-- the first word, by the subcommand that it names
first_word : (b : App) (w : Text) (rest : List Text) (o : Option (Text × List Text)) → IsMenuApp b → find (answers_to w) (names_of b) ≡ o
    → (let m = subcommand_or_other b.top.rules (option_map (λ s. s.0) o) idle 1 w nothing_held in
    (or_else (other_fault b.top (option_map (λ s. s.0) o) w nothing_held) (step_fault b.top 1 m.0 m.1) ≡ [])
    → (let next = after_step b.top.rules w (walk_from nothing_held) m.0 m.1 in
    (walk_fault b.top (names_of b) next rest ≡ [])
    → ((rest ≡ []) × ((fold (walked b.top.rules (names_of b)) next rest).stopped ≡ None))
    ⊎ ((label : Text × List Text) × (o ≡ Some label) × (bytes_eq label.0 (codes "help") ≡ false)
    × ((fold (walked b.top.rules (names_of b)) next rest).stopped ≡ Some (label.0, rest)))))
first_word b w rest None menu is e f =
    let here = no_name_fails b w rest menu e in
    let none = trail_fails b rest menu (subst (λ (x : Walk). walk_fault b.top (names_of b) x rest ≡ []) here f) in
    inl (none, rw (here, none) refl)
first_word b w rest (Some label) menu is e f =
    let told = (both_empty _ _ e).0 in
    inr (
      label,
      refl,
      not_help_name label.0 b.top.disable_help_subcommand (bytes_eq label.0 (codes "help")) refl menu.helps told,
      stopped_walk b.top.rules (names_of b) (walk_from nothing_held) label.0 [] rest,
    )

-- what a search for a name finds
same_name : (w : Text) (s : Shape) → s.aliases ≡ [] → answers_to w (label_of s) ≡ true → w ≡ s.name
same_name w s none e = sym (bytes_same s.name w (go (bytes_eq s.name w) (rw none at e)))
  where
    go : (b : Bool) → (b || false) ≡ true → b ≡ true
    go true f = refl
    go false f = f

entered_at : (b : App) (w : Text) (rest : List Text) (label : Text × List Text) → IsMenuApp b → WordsFine b (w ∷ rest) → find (answers_to w) (names_of b) ≡ Some label
    → bytes_eq label.0 (codes "help") ≡ false → stop_at b (w ∷ rest) ≡ Some (label.0, rest) → Entered b (w ∷ rest)
entered_at b w rest label menu f is not_help stop =
    let p = parts b (w ∷ rest) f in
    let leaf = with_label label_of (find (λ s. answers_to w (label_of s)) b.subs) label (find-map (answers_to w) label_of b.subs ∙ is) in
    let facts = find_in (λ (s : Shape). s.aliases ≡ []) (λ s. answers_to w (label_of s)) b.subs leaf.0 menu.no_aliases leaf.1 in
    let name : w ≡ leaf.0.name = same_name w leaf.0 facts.0 facts.1 in
    let label_name : leaf.0.name ≡ label.0 = ap (λ (l : Text × List Text). l.0) leaf.2 in
    let found : find (λ s. answers_to leaf.0.name (label_of s)) b.subs ≡ Some leaf.0 = subst (λ n. find (λ s. answers_to n (label_of s)) b.subs ≡ Some leaf.0) name leaf.1 in
    let stopped : stop_at b (w ∷ rest) ≡ Some (leaf.0.name, rest) = stop ∙ ap (λ n. Some (n, rest)) (sym label_name) in
    let below : entered_fault b (Some (leaf.0.name, rest)) ≡ [] = subst (λ o. entered_fault b o ≡ []) stopped p.lower in
    record {
      leaf = leaf.0;
      rest = rest;
      words_are = ap (λ n. n ∷ rest) name;
      found = found;
      not_help = rw label_name not_help;
      fine = rw found at below;
      enters = rw (stopped, found) refl;
    }

-- the words after the program's name are a subcommand's name and words of its own
pub menu_entered : (b : App) (words : List Text) → IsMenuApp b → built_fault b nothing_held words ≡ [] → Entered b words
unfolding walk_fault walked
menu_entered b [] menu f = absurd (unstopped_fails b [] menu refl f)
menu_entered b (w ∷ rest) menu f =
    let p = parts b (w ∷ rest) f in
    let turn = both_empty _ _ p.walks in
    elim (first_word b w rest (find (answers_to w) (names_of b)) menu refl turn.0 turn.1) [
      | inl none ↦ absurd (unstopped_fails b (w ∷ rest) menu none.1 f)
      | inr met ↦ entered_at b w rest met.0 menu f met.1 met.2 met.3
    ]
