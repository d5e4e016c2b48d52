-- What the settings of `replay`, `live` and `serve` mean.
use Rattle.std.proofs.Common.{◌≡◌, List, [], ◌∷◌, refl, sym, ap, ◌∙◌, None, Some, Option, subst, inl, inr, codes, lit<, is_some}
use Rattle.std.specs.Prelude.{◌≢◌}
use Rattle.clap.specs.Simple.{Shape, filled}
use Rattle.clap.specs.Walk.{Rule, Text, first_of, rows_after, texts}
use Rattle.wh_options.specs.Setting.{value_of, values_of}
use Rattle.wh_options.specs.Options.{BoundsPatient, GivesFleet, GivesLive, GivesServe, LacksAny, Means, ReplayClashes, ReplayLacks, ServeClashes, ServeLacks, board_of, log_of}
use Rattle.wh_options.specs.Reads.{Reads, ReadsFleet, ReadsLive, ReadsServe, clients_in}
use Rattle.wh_options.specs.Menu.{Choices, OtherChoices, choice_rule, ends_words, file_rule, many_rule, number_rule, planner_words, replies_words, switch_rule, tail_words}
use Rattle.wh_options.specs.declared.chosen.Options.{Options}
use Rattle.wh_options.specs.declared.chosen.Options.TheVariants.{Check, Replay, Verify, Live, Serve, State}
use Rattle.wh_options.specs.declared.chosen.LiveOptions.{LiveOptions}
use Rattle.wh_options.specs.declared.chosen.ServeOptions.{ServeOptions}
use Rattle.wh_client.specs.Clients.{GiveClients}
use Rattle.wh_options.specs.declared.chosen.Fleet.{Fleet}
use Rattle.wh_options.proofs.Leaf.{ArePlain}
use Rattle.wh_options.proofs.Names.{other_word}
use Rattle.wh_options.proofs.Given.{some_values}
use Rattle.wh_options.proofs.Serving.{has_client, some_clients}
use Rattle.wh_options.proofs.Values.{ends_given, file_given, number_given, only_names, planner_given, replies_given, tail_given, may_given, vehicles_given}
use Rattle.wh_options.proofs.Menus.{Flags, HasChoice, HasNumber, LeafSays, asking_plain, choice_plain, clients_said, file_plain, lacks_as, leaf_at, many_plain, none_lacks, number_plain, switch_plain}

pub record HasFleet (c : List Rule) (choices endings : Choices) : Type 0 where
  pub planner : HasChoice c (codes "planner") choices
  pub slack : HasNumber c (codes "slack") 0 1000
  pub effort : HasNumber c (codes "effort") 1000 1000000000
  pub slots : HasNumber c (codes "slots") 2 64
  pub bank : HasNumber c (codes "bank") 2 65536
  pub spares : HasNumber c (codes "spares") 0 16
  pub ends : HasChoice c (codes "ends") endings

fleet_given : (s : Shape) (rest : List Text) (choices ends : Choices) (fleet : Fleet) → HasFleet s.rules choices ends → texts choices.now ≡ planner_words → texts ends.now ≡ ends_words → (says : LeafSays s rest)
    → ReadsFleet (λ id. first_of id (rows_after s.rules [] rest)) fleet → GivesFleet says.settings fleet
fleet_given s rest choices ends fleet has words ends_are says reads = record {
  planner = planner_given s.rules says.settings fleet.planner says.taken choices words has.planner.0 has.planner.1 has.planner.2 has.planner.3 _ (says.first (codes "planner")) reads.planner;
  slack = number_given s.rules says.settings (codes "slack") 0 1000 0 fleet.slack (lit< tt) says.taken has.slack.0 has.slack.1 has.slack.2 has.slack.3 _ (says.first (codes "slack")) reads.slack;
  effort = may_given s.rules says.settings (codes "effort") 1000 1000000000 fleet.effort (lit< tt) says.taken has.effort.0 has.effort.1 has.effort.2 has.effort.3 _ (says.first (codes "effort")) reads.effort;
  slots = number_given s.rules says.settings (codes "slots") 2 64 4 fleet.slots (lit< tt) says.taken has.slots.0 has.slots.1 has.slots.2 has.slots.3 _ (says.first (codes "slots")) reads.slots;
  bank = number_given s.rules says.settings (codes "bank") 2 65536 1024 fleet.bank (lit< tt) says.taken has.bank.0 has.bank.1 has.bank.2 has.bank.3 _ (says.first (codes "bank")) reads.bank;
  spares = number_given s.rules says.settings (codes "spares") 0 16 0 fleet.spares (lit< tt) says.taken has.spares.0 has.spares.1 has.spares.2 has.spares.3 _ (says.first (codes "spares")) reads.spares;
  ends = ends_given s.rules says.settings fleet.homes says.taken ends ends_are has.ends.0 has.ends.1 has.ends.2 has.ends.3 _ (says.first (codes "ends")) reads.ends;
}

replay_fleet : (p t r : Choices) (q : OtherChoices) → HasFleet (leaf_at 1 p t r q).rules p q.replay_ends
replay_fleet p t r q = record {
  planner = (filled (choice_rule (codes "planner") p), refl, refl, refl);
  slack = (filled (number_rule (codes "slack") 0 1000), refl, refl, refl);
  effort = (filled (number_rule (codes "effort") 1000 1000000000), refl, refl, refl);
  slots = (filled (number_rule (codes "slots") 2 64), refl, refl, refl);
  bank = (filled (number_rule (codes "bank") 2 65536), refl, refl, refl);
  spares = (filled (number_rule (codes "spares") 0 16), refl, refl, refl);
  ends = (filled (choice_rule (codes "ends") q.replay_ends), refl, refl, refl);
}

live_fleet : (p t r : Choices) (q : OtherChoices) → HasFleet (leaf_at 3 p t r q).rules q.live q.live_ends
live_fleet p t r q = record {
  planner = (filled (choice_rule (codes "planner") q.live), refl, refl, refl);
  slack = (filled (number_rule (codes "slack") 0 1000), refl, refl, refl);
  effort = (filled (number_rule (codes "effort") 1000 1000000000), refl, refl, refl);
  slots = (filled (number_rule (codes "slots") 2 64), refl, refl, refl);
  bank = (filled (number_rule (codes "bank") 2 65536), refl, refl, refl);
  spares = (filled (number_rule (codes "spares") 0 16), refl, refl, refl);
  ends = (filled (choice_rule (codes "ends") q.live_ends), refl, refl, refl);
}

serve_fleet : (p t r : Choices) (q : OtherChoices) → HasFleet (leaf_at 4 p t r q).rules q.planners q.serve_ends
serve_fleet p t r q = record {
  planner = (filled (choice_rule (codes "planner") q.planners), refl, refl, refl);
  slack = (filled (number_rule (codes "slack") 0 1000), refl, refl, refl);
  effort = (filled (number_rule (codes "effort") 1000 1000000000), refl, refl, refl);
  slots = (filled (number_rule (codes "slots") 2 64), refl, refl, refl);
  bank = (filled (number_rule (codes "bank") 2 65536), refl, refl, refl);
  spares = (filled (number_rule (codes "spares") 0 16), refl, refl, refl);
  ends = (filled (choice_rule (codes "ends") q.serve_ends), refl, refl, refl);
}

replay_lacks : (given found : Text → Option Text) → ((id : Text) → found id ≡ given id) → (ReplayLacks found → ⊥) → LacksAny (codes "replay") given → ⊥
replay_lacks given found same never (inl lacks) = never (lacks_as ReplayLacks given found (λ id. sym (same id)) lacks.1)
replay_lacks given found same never (inr (inl lacks)) = other_word (codes "replay") (codes "serve") refl lacks.0
replay_lacks given found same never (inr (inr lacks)) = other_word (codes "replay") (codes "state") refl lacks.0

serve_lacks : (given found : Text → Option Text) → ((id : Text) → found id ≡ given id) → (ServeLacks found → ⊥) → LacksAny (codes "serve") given → ⊥
serve_lacks given found same never (inl lacks) = other_word (codes "serve") (codes "replay") refl lacks.0
serve_lacks given found same never (inr (inl lacks)) = never (lacks_as ServeLacks given found (λ id. sym (same id)) lacks.1)
serve_lacks given found same never (inr (inr lacks)) = other_word (codes "serve") (codes "state") refl lacks.0

clients_plain : (q : OtherChoices) → ArePlain (filled (file_rule (codes "log")) ∷ filled (switch_rule (codes "new")) ∷ filled (choice_rule (codes "replies") q.replies) ∷ filled (number_rule (codes "share") 1 1000000) ∷ filled (many_rule (codes "client")) ∷ Flags)
clients_plain q = (file_plain (codes "log") refl, (switch_plain (codes "new") refl refl, (choice_plain (codes "replies") q.replies refl, (number_plain (codes "share") 1 1000000 refl, (many_plain (codes "client") refl refl, asking_plain)))))

vehicles_plain : (r : List Rule) → ArePlain r → ArePlain (filled (switch_rule (codes "vehicles")) ∷ filled (number_rule (codes "behind") 1 1000) ∷ filled (number_rule (codes "ahead") 1 1000) ∷ r)
vehicles_plain r rest = (switch_plain (codes "vehicles") refl refl, (number_plain (codes "behind") 1 1000 refl, (number_plain (codes "ahead") 1 1000 refl, rest)))

pub replay_plain : (p t r : Choices) (q : OtherChoices) → ArePlain (leaf_at 1 p t r q).rules
replay_plain p t r q = (choice_plain (codes "planner") p refl, (number_plain (codes "slack") 0 1000 refl, (number_plain (codes "effort") 1000 1000000000 refl, (number_plain (codes "slots") 2 64 refl, (number_plain (codes "bank") 2 65536 refl, (number_plain (codes "spares") 0 16 refl, (choice_plain (codes "ends") q.replay_ends refl, (choice_plain (codes "tail") t refl, (choice_plain (codes "replies") r refl, (file_plain (codes "log") refl, (number_plain (codes "told") 0 999999999 refl, (switch_plain (codes "new") refl refl, vehicles_plain (filled (switch_rule (codes "deliver")) ∷ Flags) (switch_plain (codes "deliver") refl refl, asking_plain)))))))))))))

pub live_plain : (p t r : Choices) (q : OtherChoices) → ArePlain (leaf_at 3 p t r q).rules
live_plain p t r q = (choice_plain (codes "planner") q.live refl, (number_plain (codes "slack") 0 1000 refl, (number_plain (codes "effort") 1000 1000000000 refl, (number_plain (codes "slots") 2 64 refl, (number_plain (codes "bank") 2 65536 refl, (number_plain (codes "spares") 0 16 refl, (choice_plain (codes "ends") q.live_ends refl, (number_plain (codes "turns") 1 100000 refl, (number_plain (codes "journal") 1 1000000 refl, asking_plain)))))))))

pub serve_plain : (p t r : Choices) (q : OtherChoices) → ArePlain (leaf_at 4 p t r q).rules
serve_plain p t r q = (choice_plain (codes "planner") q.planners refl, (number_plain (codes "slack") 0 1000 refl, (number_plain (codes "effort") 1000 1000000000 refl, (number_plain (codes "slots") 2 64 refl, (number_plain (codes "bank") 2 65536 refl, (number_plain (codes "spares") 0 16 refl, (choice_plain (codes "ends") q.serve_ends refl, (number_plain (codes "journal") 1 1000000 refl, (number_plain (codes "every") 1 60000 refl, (file_plain (codes "board") refl, (number_plain (codes "board-every") 1 60000 refl, clients_plain q)))))))))))

pub replay_means : (p t r : Choices) (q : OtherChoices) (rest : List Text) (o : Options) (says : LeafSays (leaf_at 1 p t r q) rest) → texts p.now ≡ planner_words → texts t.now ≡ tail_words → texts r.now ≡ replies_words → texts q.replay_ends.now ≡ ends_words
    → Reads (codes "replay") (λ id. first_of id (rows_after (leaf_at 1 p t r q).rules [] rest)) (clients_in (rows_after (leaf_at 1 p t r q).rules [] rest)) o → Means (codes "replay") says.settings o
replay_means p t r q rest (Check o) says planners tails replies ends reads = absurd (reads.0 refl)
replay_means p t r q rest (Replay o) says planners tails replies ends reads = (
  (
    refl,
    record {
      only = only_names (leaf_at 1 p t r q).rules says.settings (replay_plain p t r q) says.taken;
      fleet = fleet_given (leaf_at 1 p t r q) rest p q.replay_ends o.fleet (replay_fleet p t r q) planners ends says reads.1.fleet;
      tail = tail_given (leaf_at 1 p t r q).rules says.settings o.tail says.taken t tails (filled (choice_rule (codes "tail") t)) refl refl refl
          (first_of (codes "tail") (rows_after (leaf_at 1 p t r q).rules [] rest)) (says.first (codes "tail")) reads.1.tail;
      replies = replies_given (leaf_at 1 p t r q).rules says.settings o.replies says.taken r replies (filled (choice_rule (codes "replies") r)) refl refl refl
          (first_of (codes "replies") (rows_after (leaf_at 1 p t r q).rules [] rest)) (says.first (codes "replies")) reads.1.replies;
      log = file_given (leaf_at 1 p t r q).rules says.settings (codes "log") (log_of o) says.taken (filled (file_rule (codes "log"))) refl refl
          (first_of (codes "log") (rows_after (leaf_at 1 p t r q).rules [] rest)) (says.first (codes "log")) reads.1.log;
      told = may_given (leaf_at 1 p t r q).rules says.settings (codes "told") 0 999999999 o.told (lit< tt) says.taken (filled (number_rule (codes "told") 0 999999999)) refl refl refl
          (first_of (codes "told") (rows_after (leaf_at 1 p t r q).rules [] rest)) (says.first (codes "told")) reads.1.told;
      anew = reads.1.anew ∙ ap is_some (says.first (codes "new"));
      vehicles = vehicles_given (leaf_at 1 p t r q).rules says.settings o.vehicles says.taken
          (filled (number_rule (codes "behind") 1 1000)) refl refl refl (filled (number_rule (codes "ahead") 1 1000)) refl refl refl
          (λ id. first_of id (rows_after (leaf_at 1 p t r q).rules [] rest)) says.first reads.1.vehicles;
      deliver = reads.1.deliver ∙ ap is_some (says.first (codes "deliver"));
    },
    λ both. reads.3 (lacks_as ReplayClashes (λ id. value_of id says.settings) (λ id. first_of id (rows_after (leaf_at 1 p t r q).rules [] rest)) (λ id. sym (says.first id)) both),
  ),
  replay_lacks (λ id. value_of id says.settings) (λ id. first_of id (rows_after (leaf_at 1 p t r q).rules [] rest)) says.first reads.2,
)
replay_means p t r q rest (Verify o) says planners tails replies ends reads = absurd (other_word (codes "replay") (codes "verify") refl reads.0)
replay_means p t r q rest (Live o) says planners tails replies ends reads = absurd (other_word (codes "replay") (codes "live") refl reads.0)
replay_means p t r q rest (Serve o) says planners tails replies ends reads = absurd (other_word (codes "replay") (codes "serve") refl reads.0)
replay_means p t r q rest (State o) says planners tails replies ends reads = absurd (other_word (codes "replay") (codes "state") refl reads.0)

live_given : (p t r : Choices) (q : OtherChoices) (rest : List Text) (o : LiveOptions) (says : LeafSays (leaf_at 3 p t r q) rest) → texts q.live.now ≡ planner_words → texts q.live_ends.now ≡ ends_words
    → ReadsLive (λ id. first_of id (rows_after (leaf_at 3 p t r q).rules [] rest)) o → GivesLive says.settings o
live_given p t r q rest o says planners ends reads = record {
  only = only_names (leaf_at 3 p t r q).rules says.settings (live_plain p t r q) says.taken;
  fleet = fleet_given (leaf_at 3 p t r q) rest q.live q.live_ends o.fleet (live_fleet p t r q) planners ends says reads.fleet;
  turns = number_given (leaf_at 3 p t r q).rules says.settings (codes "turns") 1 100000 64 o.turns (lit< tt) says.taken (filled (number_rule (codes "turns") 1 100000)) refl refl refl
      (first_of (codes "turns") (rows_after (leaf_at 3 p t r q).rules [] rest)) (says.first (codes "turns")) reads.turns;
  journal = number_given (leaf_at 3 p t r q).rules says.settings (codes "journal") 1 1000000 10000 o.journal (lit< tt) says.taken (filled (number_rule (codes "journal") 1 1000000)) refl refl refl
      (first_of (codes "journal") (rows_after (leaf_at 3 p t r q).rules [] rest)) (says.first (codes "journal")) reads.journal;
}

pub live_means : (p t r : Choices) (q : OtherChoices) (rest : List Text) (o : Options) (says : LeafSays (leaf_at 3 p t r q) rest) → texts q.live.now ≡ planner_words → texts q.live_ends.now ≡ ends_words
    → Reads (codes "live") (λ id. first_of id (rows_after (leaf_at 3 p t r q).rules [] rest)) (clients_in (rows_after (leaf_at 3 p t r q).rules [] rest)) o → Means (codes "live") says.settings o
live_means p t r q rest (Check o) says planners ends reads = absurd (reads.1 refl)
live_means p t r q rest (Replay o) says planners ends reads = absurd (other_word (codes "live") (codes "replay") refl reads.0)
live_means p t r q rest (Verify o) says planners ends reads = absurd (other_word (codes "live") (codes "verify") refl reads.0)
live_means p t r q rest (Live o) says planners ends reads = (
  (
    refl,
    live_given p t r q rest o says planners ends reads.1,
    λ both. reads.2 (lacks_as BoundsPatient (λ id. value_of id says.settings) (λ id. first_of id (rows_after (leaf_at 3 p t r q).rules [] rest)) (λ id. sym (says.first id)) both),
  ),
  none_lacks (codes "live") (λ id. value_of id says.settings) refl refl refl,
)
live_means p t r q rest (Serve o) says planners ends reads = absurd (other_word (codes "live") (codes "serve") refl reads.0)
live_means p t r q rest (State o) says planners ends reads = absurd (other_word (codes "live") (codes "state") refl reads.0)

serve_given : (p t r : Choices) (q : OtherChoices) (rest : List Text) (o : ServeOptions) (says : LeafSays (leaf_at 4 p t r q) rest) → texts q.planners.now ≡ planner_words → texts q.replies.now ≡ replies_words → texts q.serve_ends.now ≡ ends_words
    → ReadsServe (λ id. first_of id (rows_after (leaf_at 4 p t r q).rules [] rest)) (clients_in (rows_after (leaf_at 4 p t r q).rules [] rest)) o → value_of (codes "client") says.settings ≢ None → (ServeClashes (λ id. value_of id says.settings) → ⊥) → GivesServe says.settings o
serve_given p t r q rest o says planners replies ends reads client agree =
    let clients : GiveClients (values_of (codes "client") says.settings) o.clients.items = subst (λ ts. GiveClients ts o.clients.items) (clients_said (leaf_at 4 p t r q) rest says) reads.clients_are in
    record {
      only = only_names (leaf_at 4 p t r q).rules says.settings (serve_plain p t r q) says.taken;
      fleet = fleet_given (leaf_at 4 p t r q) rest q.planners q.serve_ends o.fleet (serve_fleet p t r q) planners ends says reads.fleet;
      journal = number_given (leaf_at 4 p t r q).rules says.settings (codes "journal") 1 1000000 1000000 o.journal (lit< tt) says.taken (filled (number_rule (codes "journal") 1 1000000)) refl refl refl
          (first_of (codes "journal") (rows_after (leaf_at 4 p t r q).rules [] rest)) (says.first (codes "journal")) reads.journal;
      share = may_given (leaf_at 4 p t r q).rules says.settings (codes "share") 1 1000000 o.share (lit< tt) says.taken (filled (number_rule (codes "share") 1 1000000)) refl refl refl
          (first_of (codes "share") (rows_after (leaf_at 4 p t r q).rules [] rest)) (says.first (codes "share")) reads.share;
      replies = replies_given (leaf_at 4 p t r q).rules says.settings o.replies says.taken q.replies replies (filled (choice_rule (codes "replies") q.replies)) refl refl refl
          (first_of (codes "replies") (rows_after (leaf_at 4 p t r q).rules [] rest)) (says.first (codes "replies")) reads.replies;
      log = file_given (leaf_at 4 p t r q).rules says.settings (codes "log") (Some o.log.now) says.taken (filled (file_rule (codes "log"))) refl refl
          (first_of (codes "log") (rows_after (leaf_at 4 p t r q).rules [] rest)) (says.first (codes "log")) reads.log;
      anew = reads.anew ∙ ap is_some (says.first (codes "new"));
      every = may_given (leaf_at 4 p t r q).rules says.settings (codes "every") 1 60000 o.every (lit< tt) says.taken (filled (number_rule (codes "every") 1 60000)) refl refl refl
          (first_of (codes "every") (rows_after (leaf_at 4 p t r q).rules [] rest)) (says.first (codes "every")) reads.every;
      board = file_given (leaf_at 4 p t r q).rules says.settings (codes "board") (board_of o) says.taken (filled (file_rule (codes "board"))) refl refl
          (first_of (codes "board") (rows_after (leaf_at 4 p t r q).rules [] rest)) (says.first (codes "board")) reads.board;
      board_every = number_given (leaf_at 4 p t r q).rules says.settings (codes "board-every") 1 60000 100 o.board_every (lit< tt) says.taken (filled (number_rule (codes "board-every") 1 60000)) refl refl refl
          (first_of (codes "board-every") (rows_after (leaf_at 4 p t r q).rules [] rest)) (says.first (codes "board-every")) reads.board_every;
      clients = clients;
      some = some_clients (values_of (codes "client") says.settings) o.clients.items clients.each (some_values (codes "client") says.settings client);
      agree = agree;
    }

pub serve_means : (p t r : Choices) (q : OtherChoices) (rest : List Text) (o : Options) (says : LeafSays (leaf_at 4 p t r q) rest) → texts q.planners.now ≡ planner_words → texts q.replies.now ≡ replies_words → texts q.serve_ends.now ≡ ends_words
    → Reads (codes "serve") (λ id. first_of id (rows_after (leaf_at 4 p t r q).rules [] rest)) (clients_in (rows_after (leaf_at 4 p t r q).rules [] rest)) o → Means (codes "serve") says.settings o
serve_means p t r q rest (Check o) says planners replies ends reads = absurd (reads.2 refl)
serve_means p t r q rest (Replay o) says planners replies ends reads = absurd (other_word (codes "serve") (codes "replay") refl reads.0)
serve_means p t r q rest (Verify o) says planners replies ends reads = absurd (other_word (codes "serve") (codes "verify") refl reads.0)
serve_means p t r q rest (Live o) says planners replies ends reads = absurd (other_word (codes "serve") (codes "live") refl reads.0)
serve_means p t r q rest (State o) says planners replies ends reads = absurd (other_word (codes "serve") (codes "state") refl reads.0)
serve_means p t r q rest (Serve o) says planners replies ends reads =
    let given : Text → Option Text = λ id. value_of id says.settings in
    let found : Text → Option Text = (λ id. first_of id (rows_after (leaf_at 4 p t r q).rules [] rest)) in
    let never : ServeLacks given → ⊥ = λ lacks. reads.2 (lacks_as ServeLacks given found (λ id. sym (says.first id)) lacks) in
    let apart : ServeClashes given → ⊥ = λ clash. reads.3 (lacks_as ServeClashes given found (λ id. sym (says.first id)) clash) in (
      (refl, serve_given p t r q rest o says planners replies ends reads.1 (has_client given never) apart),
      serve_lacks given found says.first reads.2,
    )
