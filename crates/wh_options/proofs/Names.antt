-- Names of options, as the words of a command line can tell them.
use Rattle.std.proofs.Common.{◌≡◌, List, [], ◌∷◌, refl, sym, ap, ◌∙◌, inl, inr, Bool, true, false, ◌||◌, not, true≢false, subst}
use Rattle.std.specs.List.{AllByRecursion, list_all, list_any}
use Rattle.std.specs.Str.{bytes_eq}
use Rattle.clap.proofs.WalkLemmas.{both}
use Rattle.clap.specs.Lexer.{has_byte}
use Rattle.wh_options.specs.Setting.{Setting, Text}
use Rattle.wh_options.specs.Options.{EachGives, EachSays, HasOnly, live_names, replay_names, rule_names, serve_names, state_names, verify_names}
use Rattle.wh_options.specs.declared.chosen.Options.{Options}
use Rattle.wh_options.specs.declared.chosen.Options.TheVariants.{Check, Replay, Verify, Live, Serve, State}
use Rattle.wh_options.proofs.Shapes.{bytes_same}
use Rattle.wh_options.proofs.Words.{self_same}

pub other_word : (a b : Text) → bytes_eq a b ≡ false → a ≡ b → ⊥
other_word a b differ e =
    let same : bytes_eq a b ≡ true = subst (λ c. bytes_eq a c ≡ true) e (self_same a) in
    true≢false (sym same ∙ differ)

-- a name of an option: not empty, and without `=`
abbrev pub plain_name : Text → Bool
plain_name [] = false
plain_name (b ∷ bs) = not (has_byte 61 (b ∷ bs))

abbrev pub Named : List Setting → Type 0
Named = AllByRecursion (λ (x : Setting). plain_name x.name ≡ true)

listed_step : (test : Text → Bool) (n m : Text) (ms : List Text) (b : Bool) → bytes_eq n m ≡ b → test m ≡ true → (b || list_any (bytes_eq n) ms) ≡ true
    → (list_any (bytes_eq n) ms ≡ true → test n ≡ true) → test n ≡ true
listed_step test n m ms true e here f rest = ap test (bytes_same n m e) ∙ here
listed_step test n m ms false e here f rest = rest f

pub listed_passes : (test : Text → Bool) (n : Text) (names : List Text) → list_all test names ≡ true → list_any (bytes_eq n) names ≡ true → test n ≡ true
listed_passes test n [] all any = cc
listed_passes test n (m ∷ ms) all any = listed_step test n m ms (bytes_eq n m) refl (both _ _ all).0 any (listed_passes test n ms (both _ _ all).1)

pub only_named : (names : List Text) (xs : List Setting) → list_all plain_name names ≡ true → HasOnly names xs → Named xs
only_named names [] all only = tt
only_named names (x ∷ xs) all only = (listed_passes plain_name x.name names all only.0, only_named names xs all only.1)

-- settings that each say something have names of options
pub gives_named : (name : Text) (xs : List Setting) (o : Options) → EachGives name xs o → Named xs
gives_named name xs (Check o) m = only_named rule_names xs refl m.1.only
gives_named name xs (Verify o) m = only_named verify_names xs refl m.1.only
gives_named name xs (Replay o) m = only_named replay_names xs refl m.1.only
gives_named name xs (Live o) m = only_named live_names xs refl m.1.only
gives_named name xs (Serve o) m = only_named serve_names xs refl m.1.only
gives_named name xs (State o) m = only_named state_names xs refl m.1.only

pub says_named : (name : Text) (xs : List Setting) → EachSays name xs → Named xs
says_named name xs (inl said) = only_named replay_names xs refl said.2.only
says_named name xs (inr (inl said)) = only_named serve_names xs refl said.1.only
says_named name xs (inr (inr (inl said))) = only_named live_names xs refl said.2.only
says_named name xs (inr (inr (inr said))) = only_named state_names xs refl said.1.only
