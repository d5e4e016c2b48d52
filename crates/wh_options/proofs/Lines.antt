-- What a whole command line means, and what in it does not go together.
use Rattle.std.proofs.Common.{◌≡◌, List, [], ◌∷◌, refl, sym, ap, ◌∙◌, false, Some, Option, subst, inl, inr, codes}
use Rattle.std.specs.Str.{bytes_eq}
use Rattle.clap.specs.Faults.{fault_of, level_fault}
use Rattle.clap.specs.Simple.{App, Shape, built, label_of, subcommand_of}
use Rattle.clap.specs.Walk.{Row, Text, answers_to, first_of, nothing_held, rows_after}
use Rattle.wh_options.specs.Setting.{IsLine, Setting, value_of, values_of}
use Rattle.wh_options.specs.Options.{WordsGive, live_names, replay_names, serve_names, state_names}
use Rattle.wh_options.specs.Reads.{IsTold, Reads, clients_in}
use Rattle.wh_options.specs.Menu.{Choices, IsMenu, OtherChoices, menu}
use Rattle.clap.specs.declared.error.kind.ErrorKind.{ErrorKind}
use Rattle.wh_options.specs.declared.chosen.Options.{Options}
use Rattle.wh_options.proofs.Leaf.{ArePlain}
use Rattle.wh_options.proofs.Top.{menu_entered}
use Rattle.wh_options.proofs.Names.{Named, only_named, other_word}
use Rattle.wh_options.proofs.Values.{only_names}
use Rattle.wh_options.proofs.Menus.{IsLeaf, LeafSays, MenuTexts, clients_said, leaf_at, leaf_says, menu_texts, none_lacks, the_menu, told_as, which_leaf}
use Rattle.wh_options.proofs.Ruled.{check_means, check_ruled, state_means, state_plain, verify_means, verify_plain}
use Rattle.wh_options.proofs.Fleets.{live_means, live_plain, replay_means, replay_plain, serve_means, serve_plain}

line_of : (words rest : List Text) (program name : Text) (after : List Text) (s : Shape) (says : LeafSays s rest) → words ≡ program ∷ after → after ≡ name ∷ rest → IsLine words name says.settings
line_of words rest program name after s says whole first = record {
  program = program;
  after = rest;
  words_are = whole ∙ ap (λ l. program ∷ l) first;
  spelling = says.spelling;
  once = says.once;
}

abbrev ReadsFrom : Text → Shape → List Text → Options → Type 0
ReadsFrom name s rest o = Reads name (λ id. first_of id (rows_after s.rules [] rest)) (clients_in (rows_after s.rules [] rest)) o

given_by : (p t r : Choices) (q : OtherChoices) (words after rest : List Text) (program : Text) (o : Options) (leaf : Shape) → MenuTexts p t r q
    → words ≡ program ∷ after → after ≡ leaf.name ∷ rest → level_fault leaf [] nothing_held rest false [] ≡ [] → ReadsFrom leaf.name leaf rest o → IsLeaf p t r q leaf → WordsGive words o
given_by p t r q words after rest program o leaf are whole first fine reads (inl is) =
    let says = leaf_says (leaf_at 0 p t r q) rest (check_ruled p t r q).0 refl (subst (λ (s : Shape). level_fault s [] nothing_held rest false [] ≡ []) (sym is) fine) in
    let read : ReadsFrom (codes "check") (leaf_at 0 p t r q) rest o = subst (λ (s : Shape). ReadsFrom s.name s rest o) (sym is) reads in
    let named : after ≡ codes "check" ∷ rest = subst (λ (s : Shape). after ≡ s.name ∷ rest) (sym is) first in
    (codes "check", says.settings, line_of words rest program (codes "check") after (leaf_at 0 p t r q) says whole named, check_means p t r q rest o says are.check_ends read)
given_by p t r q words after rest program o leaf are whole first fine reads (inr (inl is)) =
    let says = leaf_says (leaf_at 1 p t r q) rest (replay_plain p t r q) refl (subst (λ (s : Shape). level_fault s [] nothing_held rest false [] ≡ []) (sym is) fine) in
    let read : ReadsFrom (codes "replay") (leaf_at 1 p t r q) rest o = subst (λ (s : Shape). ReadsFrom s.name s rest o) (sym is) reads in
    let named : after ≡ codes "replay" ∷ rest = subst (λ (s : Shape). after ≡ s.name ∷ rest) (sym is) first in
    (codes "replay", says.settings, line_of words rest program (codes "replay") after (leaf_at 1 p t r q) says whole named, replay_means p t r q rest o says are.planners are.tails are.replies are.replay_ends read)
given_by p t r q words after rest program o leaf are whole first fine reads (inr (inr (inl is))) =
    let says = leaf_says (leaf_at 2 p t r q) rest (verify_plain p t r q) refl (subst (λ (s : Shape). level_fault s [] nothing_held rest false [] ≡ []) (sym is) fine) in
    let read : ReadsFrom (codes "verify") (leaf_at 2 p t r q) rest o = subst (λ (s : Shape). ReadsFrom s.name s rest o) (sym is) reads in
    let named : after ≡ codes "verify" ∷ rest = subst (λ (s : Shape). after ≡ s.name ∷ rest) (sym is) first in
    (codes "verify", says.settings, line_of words rest program (codes "verify") after (leaf_at 2 p t r q) says whole named, verify_means p t r q rest o says are.verify_ends read)
given_by p t r q words after rest program o leaf are whole first fine reads (inr (inr (inr (inl is)))) =
    let says = leaf_says (leaf_at 3 p t r q) rest (live_plain p t r q) refl (subst (λ (s : Shape). level_fault s [] nothing_held rest false [] ≡ []) (sym is) fine) in
    let read : ReadsFrom (codes "live") (leaf_at 3 p t r q) rest o = subst (λ (s : Shape). ReadsFrom s.name s rest o) (sym is) reads in
    let named : after ≡ codes "live" ∷ rest = subst (λ (s : Shape). after ≡ s.name ∷ rest) (sym is) first in
    (codes "live", says.settings, line_of words rest program (codes "live") after (leaf_at 3 p t r q) says whole named, live_means p t r q rest o says are.live are.live_ends read)
given_by p t r q words after rest program o leaf are whole first fine reads (inr (inr (inr (inr (inr is))))) =
    let says = leaf_says (leaf_at 5 p t r q) rest (state_plain p t r q) refl (subst (λ (s : Shape). level_fault s [] nothing_held rest false [] ≡ []) (sym is) fine) in
    let read : ReadsFrom (codes "state") (leaf_at 5 p t r q) rest o = subst (λ (s : Shape). ReadsFrom s.name s rest o) (sym is) reads in
    let named : after ≡ codes "state" ∷ rest = subst (λ (s : Shape). after ≡ s.name ∷ rest) (sym is) first in
    (codes "state", says.settings, line_of words rest program (codes "state") after (leaf_at 5 p t r q) says whole named, state_means p t r q rest o says are.state_ends read)
given_by p t r q words after rest program o leaf are whole first fine reads (inr (inr (inr (inr (inl is))))) =
    let says = leaf_says (leaf_at 4 p t r q) rest (serve_plain p t r q) refl (subst (λ (s : Shape). level_fault s [] nothing_held rest false [] ≡ []) (sym is) fine) in
    let read : ReadsFrom (codes "serve") (leaf_at 4 p t r q) rest o = subst (λ (s : Shape). ReadsFrom s.name s rest o) (sym is) reads in
    let named : after ≡ codes "serve" ∷ rest = subst (λ (s : Shape). after ≡ s.name ∷ rest) (sym is) first in
    (codes "serve", says.settings, line_of words rest program (codes "serve") after (leaf_at 4 p t r q) says whole named, serve_means p t r q rest o says are.serve are.told are.serve_ends read)

-- words whose options do not go together, so that an error of this kind tells
pub record Mistaken (kind : ErrorKind) (words : List Text) : Type 0 where
  pub name : Text
  pub settings : List Setting
  pub line : IsLine words name settings
  pub named : Named settings
  pub wrong : IsTold kind name (λ id. value_of id settings) (values_of (codes "client") settings)

abbrev FindsWrong : ErrorKind → Shape → List Text → Type 0
FindsWrong kind s rest = IsTold kind s.name (λ id. first_of id (rows_after s.rules [] rest)) (clients_in (rows_after s.rules [] rest))

none_told : (kind : ErrorKind) (word : Text) (given : Text → Option Text) (clients : List Text) → bytes_eq word (codes "replay") ≡ false → bytes_eq word (codes "serve") ≡ false → bytes_eq word (codes "live") ≡ false → bytes_eq word (codes "state") ≡ false → IsTold kind word given clients → ⊥
none_told kind word given clients no_replay no_serve no_live no_state (inl lacks) = none_lacks word given no_replay no_serve no_state lacks.0
none_told kind word given clients no_replay no_serve no_live no_state (inr (inl (inl clash, kind_is))) = other_word word (codes "serve") no_serve clash.0
none_told kind word given clients no_replay no_serve no_live no_state (inr (inl (inr (inl clash), kind_is))) = other_word word (codes "replay") no_replay clash.0
none_told kind word given clients no_replay no_serve no_live no_state (inr (inl (inr (inr (inl clash)), kind_is))) = other_word word (codes "live") no_live clash.0
none_told kind word given clients no_replay no_serve no_live no_state (inr (inl (inr (inr (inr clash)), kind_is))) = other_word word (codes "state") no_state clash.0
none_told kind word given clients no_replay no_serve no_live no_state (inr (inr none)) = other_word word (codes "serve") no_serve none.0.0

-- a subcommand that is told where paths end alone has no options that do not go together
never_wrong : (kind : ErrorKind) (s leaf : Shape) (rest : List Text) (word : Text) → s ≡ leaf → s.name ≡ word → bytes_eq word (codes "replay") ≡ false → bytes_eq word (codes "serve") ≡ false → bytes_eq word (codes "live") ≡ false → bytes_eq word (codes "state") ≡ false → FindsWrong kind leaf rest → ⊥
never_wrong kind s leaf rest word is name no_replay no_serve no_live no_state wrong =
    let at : FindsWrong kind s rest = subst (λ (x : Shape). FindsWrong kind x rest) (sym is) wrong in
    none_told kind word (λ id. first_of id (rows_after s.rules [] rest)) (clients_in (rows_after s.rules [] rest)) no_replay no_serve no_live no_state
    (subst (λ n. IsTold kind n (λ id. first_of id (rows_after s.rules [] rest)) (clients_in (rows_after s.rules [] rest))) name at)

mistaken_at : (kind : ErrorKind) (words after rest : List Text) (program : Text) (s leaf : Shape) → s ≡ leaf → ArePlain s.rules → s.args_override_self ≡ false
    → ((says : LeafSays s rest) → Named says.settings)
    → words ≡ program ∷ after → after ≡ leaf.name ∷ rest → level_fault leaf [] nothing_held rest false [] ≡ [] → FindsWrong kind leaf rest → Mistaken kind words
mistaken_at kind words after rest program s leaf is plain never named whole first fine wrong =
    let says = leaf_says s rest plain never (subst (λ (x : Shape). level_fault x [] nothing_held rest false [] ≡ []) (sym is) fine) in
    let named_so : after ≡ s.name ∷ rest = subst (λ (x : Shape). after ≡ x.name ∷ rest) (sym is) first in
    let at : FindsWrong kind s rest = subst (λ (x : Shape). FindsWrong kind x rest) (sym is) wrong in
    record {
      name = s.name;
      settings = says.settings;
      line = line_of words rest program s.name after s says whole named_so;
      named = named says;
      wrong = told_as kind s.name (λ id. first_of id (rows_after s.rules [] rest)) (λ id. value_of id says.settings) (clients_in (rows_after s.rules [] rest)) (values_of (codes "client") says.settings)
          says.first (clients_said s rest says) at;
    }

mistaken_by : (kind : ErrorKind) (p t r : Choices) (q : OtherChoices) (words after rest : List Text) (program : Text) (leaf : Shape) → words ≡ program ∷ after → after ≡ leaf.name ∷ rest → level_fault leaf [] nothing_held rest false [] ≡ [] → FindsWrong kind leaf rest
    → IsLeaf p t r q leaf → Mistaken kind words
mistaken_by kind p t r q words after rest program leaf whole first fine wrong (inl is) = absurd (never_wrong kind (leaf_at 0 p t r q) leaf rest (codes "check") is refl refl refl refl refl wrong)
mistaken_by kind p t r q words after rest program leaf whole first fine wrong (inr (inr (inl is))) = absurd (never_wrong kind (leaf_at 2 p t r q) leaf rest (codes "verify") is refl refl refl refl refl wrong)
mistaken_by kind p t r q words after rest program leaf whole first fine wrong (inr (inr (inr (inl is)))) =
    mistaken_at kind words after rest program (leaf_at 3 p t r q) leaf is (live_plain p t r q) refl
    (λ says. only_named live_names says.settings refl (only_names (leaf_at 3 p t r q).rules says.settings (live_plain p t r q) says.taken)) whole first fine wrong
mistaken_by kind p t r q words after rest program leaf whole first fine wrong (inr (inl is)) =
    mistaken_at kind words after rest program (leaf_at 1 p t r q) leaf is (replay_plain p t r q) refl
    (λ says. only_named replay_names says.settings refl (only_names (leaf_at 1 p t r q).rules says.settings (replay_plain p t r q) says.taken)) whole first fine wrong
mistaken_by kind p t r q words after rest program leaf whole first fine wrong (inr (inr (inr (inr (inr is))))) =
    mistaken_at kind words after rest program (leaf_at 5 p t r q) leaf is (state_plain p t r q) refl
    (λ says. only_named state_names says.settings refl (only_names (leaf_at 5 p t r q).rules says.settings (state_plain p t r q) says.taken)) whole first fine wrong
mistaken_by kind p t r q words after rest program leaf whole first fine wrong (inr (inr (inr (inr (inl is))))) =
    mistaken_at kind words after rest program (leaf_at 4 p t r q) leaf is (serve_plain p t r q) refl
    (λ says. only_named serve_names says.settings refl (only_names (leaf_at 4 p t r q).rules says.settings (serve_plain p t r q) says.taken)) whole first fine wrong

abbrev ReadsWords : App → List Text → Options → Type 0
ReadsWords a words o = (name : Text) (rows : List Row) → subcommand_of a words ≡ Some (name, rows) → Reads name (λ id. first_of id rows) (clients_in rows) o

no_words : (p t r : Choices) (q : OtherChoices) (o : Options) → fault_of (menu p t r q) [] ≡ [] → WordsGive [] o
no_words p t r q o f =
    let e = menu_entered (built (menu p t r q)) [] (the_menu p t r q) f in
    let bad : ◌≡◌ {A = List Text} [] (e.leaf.name ∷ e.rest) = e.words_are in
    cc

menu_given : (p t r : Choices) (q : OtherChoices) (words : List Text) (o : Options) → MenuTexts p t r q
    → fault_of (menu p t r q) words ≡ [] → ReadsWords (menu p t r q) words o → WordsGive words o
menu_given p t r q [] o are f reads = no_words p t r q o f
menu_given p t r q (program ∷ after) o are f reads =
    let e = menu_entered (built (menu p t r q)) after (the_menu p t r q) f in
    let which = which_leaf p t r q (λ s. answers_to e.leaf.name (label_of s)) e.leaf e.found e.not_help in
    given_by p t r q (program ∷ after) after e.rest program o e.leaf are refl e.words_are e.fine (reads e.leaf.name (rows_after e.leaf.rules [] e.rest) e.enters) which

-- words that are not refused give the options that are read from them
pub words_give : (a : App) (words : List Text) (o : Options) → IsMenu a → fault_of a words ≡ [] → ReadsWords a words o → WordsGive words o
words_give a words o m f reads =
    menu_given m.planners m.tails m.replies m.others words o (menu_texts a m)
    (subst (λ (x : App). fault_of x words ≡ []) m.is f)
    (subst (λ (x : App). ReadsWords x words o) m.is reads)

-- what is found of the words does not go together
abbrev pub FindsMistake : ErrorKind → App → List Text → Type 0
FindsMistake kind a words = (name : Text) (rows : List Row) → subcommand_of a words ≡ Some (name, rows) → IsTold kind name (λ id. first_of id rows) (clients_in rows)

menu_mistaken : (kind : ErrorKind) (p t r : Choices) (q : OtherChoices) (words : List Text) → fault_of (menu p t r q) words ≡ [] → FindsMistake kind (menu p t r q) words → Mistaken kind words
menu_mistaken kind p t r q [] f finds =
    let e = menu_entered (built (menu p t r q)) [] (the_menu p t r q) f in
    let bad : ◌≡◌ {A = List Text} [] (e.leaf.name ∷ e.rest) = e.words_are in
    cc
menu_mistaken kind p t r q (program ∷ after) f finds =
    let e = menu_entered (built (menu p t r q)) after (the_menu p t r q) f in
    let which = which_leaf p t r q (λ s. answers_to e.leaf.name (label_of s)) e.leaf e.found e.not_help in
    mistaken_by kind p t r q (program ∷ after) after e.rest program e.leaf refl e.words_are e.fine (finds e.leaf.name (rows_after e.leaf.rules [] e.rest) e.enters) which

-- words that are not refused, and in which a mistake is found
pub words_mistaken : (kind : ErrorKind) (a : App) (words : List Text) → IsMenu a → fault_of a words ≡ [] → FindsMistake kind a words → Mistaken kind words
words_mistaken kind a words m f finds =
    menu_mistaken kind m.planners m.tails m.replies m.others words (subst (λ (x : App). fault_of x words ≡ []) m.is f) (subst (λ (x : App). FindsMistake kind x words) m.is finds)
