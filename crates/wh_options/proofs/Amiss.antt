-- Words whose options do not go together.
use Rattle.std.proofs.Common.{◌≡◌, List, Option, sym, ◌∙◌, refl, false, inl, inr, subst, codes}
use Rattle.std.specs.Str.{bytes_eq}
use Rattle.clap.specs.declared.error.kind.ErrorKind.{ErrorKind}
use Rattle.clap.specs.declared.error.kind.ErrorKind.TheVariants.{ArgumentConflict, MissingRequiredArgument, ValueValidation}
use Rattle.wh_options.specs.Setting.{IsLine, Setting, Text, value_of, values_of}
use Rattle.wh_options.specs.Options.{EachGives, IsAmiss, IsClashing, IsClientless, IsLacking, LacksAny, ServeLacks, Way, WordsGive}
use Rattle.wh_options.specs.Reads.{IsTold}
use Rattle.wh_options.specs.declared.chosen.Options.{Options}
use Rattle.wh_options.specs.declared.chosen.Options.TheVariants.{Check, Replay, Verify, Live, Serve, State}
use Rattle.wh_options.proofs.Names.{Named, gives_named, other_word, says_named}
use Rattle.wh_options.proofs.Lines.{Mistaken}
use Rattle.wh_options.proofs.Menus.{told_as}
use Rattle.wh_options.proofs.Once.{all_agree, one_line}

-- what some settings are told of is told of others that give the same
same_told : (kind : ErrorKind) (words : List Text) (name told : Text) (xs ys : List Setting) → Named xs → Named ys → IsLine words name xs → IsLine words told ys
    → IsTold kind name (λ id. value_of id xs) (values_of (codes "client") xs) → IsTold kind told (λ id. value_of id ys) (values_of (codes "client") ys)
same_told kind words name told xs ys p q a b is =
    let same = one_line words name told xs ys p q a b in
    let here = told_as kind name (λ id. value_of id xs) (λ id. value_of id ys) (values_of (codes "client") xs) (values_of (codes "client") ys) (all_agree xs ys same.1) (same.1 (codes "client")) is in
    subst (λ n. IsTold kind n (λ id. value_of id ys) (values_of (codes "client") ys)) same.0 here

-- ---- they give no options

other_than : (name one other : Text) → bytes_eq one other ≡ false → name ≡ one → name ≡ other → ⊥
other_than name one other differs m n = other_word one other differs (sym m ∙ n)

-- what does not go together gives no options
clash_never : (name : Text) (xs : List Setting) (o : Options) → EachGives name xs o → IsClashing name (λ id. value_of id xs) (values_of (codes "client") xs) → ⊥
clash_never name xs (Check o) gives (inl clash) = other_than name (codes "check") (codes "serve") refl gives.0 clash.0
clash_never name xs (Check o) gives (inr (inl clash)) = other_than name (codes "check") (codes "replay") refl gives.0 clash.0
clash_never name xs (Check o) gives (inr (inr (inl clash))) = other_than name (codes "check") (codes "live") refl gives.0 clash.0
clash_never name xs (Check o) gives (inr (inr (inr clash))) = other_than name (codes "check") (codes "state") refl gives.0 clash.0
clash_never name xs (Replay o) gives (inl clash) = other_than name (codes "replay") (codes "serve") refl gives.0 clash.0
clash_never name xs (Replay o) gives (inr (inl clash)) = gives.2 clash.2
clash_never name xs (Replay o) gives (inr (inr (inl clash))) = other_than name (codes "replay") (codes "live") refl gives.0 clash.0
clash_never name xs (Replay o) gives (inr (inr (inr clash))) = other_than name (codes "replay") (codes "state") refl gives.0 clash.0
clash_never name xs (Verify o) gives (inl clash) = other_than name (codes "verify") (codes "serve") refl gives.0 clash.0
clash_never name xs (Verify o) gives (inr (inl clash)) = other_than name (codes "verify") (codes "replay") refl gives.0 clash.0
clash_never name xs (Verify o) gives (inr (inr (inl clash))) = other_than name (codes "verify") (codes "live") refl gives.0 clash.0
clash_never name xs (Verify o) gives (inr (inr (inr clash))) = other_than name (codes "verify") (codes "state") refl gives.0 clash.0
clash_never name xs (Live o) gives (inl clash) = other_than name (codes "live") (codes "serve") refl gives.0 clash.0
clash_never name xs (Live o) gives (inr (inl clash)) = other_than name (codes "live") (codes "replay") refl gives.0 clash.0
clash_never name xs (Live o) gives (inr (inr (inl clash))) = gives.2 clash.1
clash_never name xs (Live o) gives (inr (inr (inr clash))) = other_than name (codes "live") (codes "state") refl gives.0 clash.0
clash_never name xs (Serve o) gives (inl clash) = gives.1.agree clash.2
clash_never name xs (Serve o) gives (inr (inl clash)) = other_than name (codes "serve") (codes "replay") refl gives.0 clash.0
clash_never name xs (Serve o) gives (inr (inr (inl clash))) = other_than name (codes "serve") (codes "live") refl gives.0 clash.0
clash_never name xs (Serve o) gives (inr (inr (inr clash))) = other_than name (codes "serve") (codes "state") refl gives.0 clash.0
clash_never name xs (State o) gives (inl clash) = other_than name (codes "state") (codes "serve") refl gives.0 clash.0
clash_never name xs (State o) gives (inr (inl clash)) = other_than name (codes "state") (codes "replay") refl gives.0 clash.0
clash_never name xs (State o) gives (inr (inr (inl clash))) = other_than name (codes "state") (codes "live") refl gives.0 clash.0
clash_never name xs (State o) gives (inr (inr (inr clash))) = gives.2 clash.2

none_never : (name : Text) (xs : List Setting) (o : Options) → EachGives name xs o → IsClientless name (λ id. value_of id xs) (values_of (codes "client") xs) → ⊥
none_never name xs (Check o) gives none = other_than name (codes "check") (codes "serve") refl gives.0 none.0
none_never name xs (Replay o) gives none = other_than name (codes "replay") (codes "serve") refl gives.0 none.0
none_never name xs (Verify o) gives none = other_than name (codes "verify") (codes "serve") refl gives.0 none.0
none_never name xs (Live o) gives none = other_than name (codes "live") (codes "serve") refl gives.0 none.0
none_never name xs (Serve o) gives none = none.3 o.clients.items gives.1.clients
none_never name xs (State o) gives none = other_than name (codes "state") (codes "serve") refl gives.0 none.0

told_never : (kind : ErrorKind) (name : Text) (xs : List Setting) (o : Options) → EachGives name xs o → (LacksAny name (λ id. value_of id xs) → ⊥) → IsTold kind name (λ id. value_of id xs) (values_of (codes "client") xs) → ⊥
told_never kind name xs o gives never (inl lacks) = never lacks.0
told_never kind name xs o gives never (inr (inl clash)) = clash_never name xs o gives clash.0
told_never kind name xs o gives never (inr (inr none)) = none_never name xs o gives none.0

pub mistaken_never : (kind : ErrorKind) (words : List Text) → Mistaken kind words → (o : Options) → WordsGive words o → ⊥
mistaken_never kind words a o gives =
    told_never kind gives.0 gives.1 o gives.3.0 gives.3.1
    (same_told kind words a.name gives.0 a.settings gives.1 a.named (gives_named gives.0 gives.1 o gives.3.0) a.line gives.2 a.wrong)

-- ---- they are told in one way

lacks_other : (name : Text) (given : Text → Option Text) → name ≡ codes "serve" → (ServeLacks given → ⊥) → LacksAny name given → ⊥
lacks_other name given is never (inl lacks) = other_than name (codes "serve") (codes "replay") refl is lacks.0
lacks_other name given is never (inr (inl lacks)) = never lacks.1
lacks_other name given is never (inr (inr lacks)) = other_than name (codes "serve") (codes "state") refl is lacks.0

-- what lacks and what clashes are told apart, and so are clashes and texts that name no clients
lacks_or_clashes : (name : Text) (given : Text → Option Text) (clients : List Text) → IsClashing name given clients → LacksAny name given → ⊥
lacks_or_clashes name given clients (inl clash) lacks = lacks_other name given clash.0 clash.1 lacks
lacks_or_clashes name given clients (inr (inl clash)) (inl lacks) = clash.1 lacks.1
lacks_or_clashes name given clients (inr (inl clash)) (inr (inl lacks)) = other_than name (codes "replay") (codes "serve") refl clash.0 lacks.0
lacks_or_clashes name given clients (inr (inl clash)) (inr (inr lacks)) = other_than name (codes "replay") (codes "state") refl clash.0 lacks.0
lacks_or_clashes name given clients (inr (inr (inl clash))) (inl lacks) = other_than name (codes "live") (codes "replay") refl clash.0 lacks.0
lacks_or_clashes name given clients (inr (inr (inl clash))) (inr (inl lacks)) = other_than name (codes "live") (codes "serve") refl clash.0 lacks.0
lacks_or_clashes name given clients (inr (inr (inl clash))) (inr (inr lacks)) = other_than name (codes "live") (codes "state") refl clash.0 lacks.0
lacks_or_clashes name given clients (inr (inr (inr clash))) (inl lacks) = other_than name (codes "state") (codes "replay") refl clash.0 lacks.0
lacks_or_clashes name given clients (inr (inr (inr clash))) (inr (inl lacks)) = other_than name (codes "state") (codes "serve") refl clash.0 lacks.0
lacks_or_clashes name given clients (inr (inr (inr clash))) (inr (inr lacks)) = clash.1 lacks.1

clashes_or_none : (name : Text) (given : Text → Option Text) (clients : List Text) → IsClashing name given clients → IsClientless name given clients → ⊥
clashes_or_none name given clients (inl clash) none = none.2 clash.2
clashes_or_none name given clients (inr (inl clash)) none = other_than name (codes "replay") (codes "serve") refl clash.0 none.0
clashes_or_none name given clients (inr (inr (inl clash))) none = other_than name (codes "live") (codes "serve") refl clash.0 none.0
clashes_or_none name given clients (inr (inr (inr clash))) none = other_than name (codes "state") (codes "serve") refl clash.0 none.0

one_kind : (j k : ErrorKind) (name : Text) (given : Text → Option Text) (clients : List Text) → IsTold j name given clients → IsTold k name given clients → j ≡ k
one_kind j k name given clients (inl a) (inl b) = a.1 ∙ sym b.1
one_kind j k name given clients (inl a) (inr (inl b)) = absurd (lacks_or_clashes name given clients b.0 a.0)
one_kind j k name given clients (inl a) (inr (inr b)) = absurd (lacks_other name given b.0.0 b.0.1 a.0)
one_kind j k name given clients (inr (inl a)) (inl b) = absurd (lacks_or_clashes name given clients a.0 b.0)
one_kind j k name given clients (inr (inl a)) (inr (inl b)) = a.1 ∙ sym b.1
one_kind j k name given clients (inr (inl a)) (inr (inr b)) = absurd (clashes_or_none name given clients a.0 b.0)
one_kind j k name given clients (inr (inr a)) (inl b) = absurd (lacks_other name given a.0.0 a.0.1 b.0)
one_kind j k name given clients (inr (inr a)) (inr (inl b)) = absurd (clashes_or_none name given clients b.0 a.0)
one_kind j k name given clients (inr (inr a)) (inr (inr b)) = a.1 ∙ sym b.1

pub mistaken_once : (j k : ErrorKind) (words : List Text) → Mistaken j words → Mistaken k words → j ≡ k
mistaken_once j k words a b =
    one_kind j k b.name (λ id. value_of id b.settings) (values_of (codes "client") b.settings)
    (same_told j words a.name b.name a.settings b.settings a.named b.named a.line b.line a.wrong) b.wrong

-- ---- each way

mistaken_so : (kind : ErrorKind) (Goes : Way) (words : List Text) → ((name : Text) (given : Text → Option Text) (clients : List Text) → Goes name given clients → IsTold kind name given clients) → IsAmiss Goes words → Mistaken kind words
mistaken_so kind Goes words tells a = record {
  name = a.name;
  settings = a.settings;
  line = a.line;
  named = says_named a.name a.settings a.each;
  wrong = tells a.name (λ id. value_of id a.settings) (values_of (codes "client") a.settings) a.amiss;
}

pub lacking : (words : List Text) → IsAmiss IsLacking words → Mistaken MissingRequiredArgument words
lacking words a = mistaken_so MissingRequiredArgument IsLacking words (λ name given clients goes. inl (goes, refl)) a

pub clashing : (words : List Text) → IsAmiss IsClashing words → Mistaken ArgumentConflict words
clashing words a = mistaken_so ArgumentConflict IsClashing words (λ name given clients goes. inr (inl (goes, refl))) a

pub clientless : (words : List Text) → IsAmiss IsClientless words → Mistaken ValueValidation words
clientless words a = mistaken_so ValueValidation IsClientless words (λ name given clients goes. inr (inr (goes, refl))) a
