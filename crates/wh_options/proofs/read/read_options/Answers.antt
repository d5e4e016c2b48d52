-- What the entered subcommand's rows say is what its reader reads.
use Rattle.std.proofs.Common.{◌≡◌, ◌∙◌, List, Option, Some, Result, Ok, Err, sym, ap, refl, subst, codes, option_map, inl, inr}
use Rattle.std.specs.Prelude.{IfErr, IfOk, is_some}
use Rattle.std.proofs.lemmas.Result.{IfOk-weaker}
use Rattle.clap.specs.Words.{Row, Text, first_of, first_value, found_of, rows_of, subcommand_name_of, subcommand_rows_of}
use Rattle.clap.specs.declared.parser.matches.ArgMatches.{ArgMatches}
use Rattle.wh_options.specs.Options.{BoundsPatient, ReplayClashes, ReplayLacks, StateClashes, StateLacks}
use Rattle.wh_options.specs.Reads.{IsTold, MayRead, Reads, ReadsLine, ReadsLive, ReadsReplay, ReadsState, clients_in, homes_of, kind_of_mistake}
use Rattle.wh_options.specs.declared.chosen.Options.{Options}
use Rattle.wh_options.specs.declared.mistake.Mistake.{Mistake}
use Rattle.wh_options.proofs.Entered.{clients_are, given_are, is_named}
use Rattle.wh_options.proofs.Menus.{lacks_as, told_as}
use Rattle.wh_options.proofs.read.read_options.Goals as goal

-- what is read of `serve`, by the rows of the subcommand
serve_read : (m inner : ArgMatches) (read : Result Options Mistake) → subcommand_name_of m ≡ Some (codes "serve") → option_map (λ (p : Text × List Row). p.1) (subcommand_rows_of m) ≡ Some (rows_of (found_of inner))
    → ReadsLine (first_value (found_of inner)) (clients_in (rows_of (found_of inner))) read
    → IfOk read (λ o. (name : Text) (rows : List Row) → subcommand_rows_of m ≡ Some (name, rows) → Reads name (λ id. first_of id rows) (clients_in rows) o)
serve_read m inner (Err mistake) entered found line = tt
serve_read m inner (Ok o) entered found line = λ name rows e.
    let same = given_are m inner name rows e found in
    let here = subst (λ (f : Text → Option Text). Reads (codes "serve") f (clients_in (rows_of (found_of inner))) o) (λ i id. same id i) line in
    let there = subst (λ ts. Reads (codes "serve") (λ id. first_of id rows) ts o) (clients_are m inner name rows e found) here in
    subst (λ n. Reads n (λ id. first_of id rows) (clients_in rows) o) (sym (is_named m name (codes "serve") rows e entered)) there

serve_mistaken : (m inner : ArgMatches) (read : Result Options Mistake) → subcommand_name_of m ≡ Some (codes "serve") → option_map (λ (p : Text × List Row). p.1) (subcommand_rows_of m) ≡ Some (rows_of (found_of inner))
    → ReadsLine (first_value (found_of inner)) (clients_in (rows_of (found_of inner))) read
    → IfErr read (λ mistake. (name : Text) (rows : List Row) → subcommand_rows_of m ≡ Some (name, rows) → IsTold (kind_of_mistake mistake) name (λ id. first_of id rows) (clients_in rows))
serve_mistaken m inner (Ok o) entered found line = tt
serve_mistaken m inner (Err mistake) entered found line = λ name rows e.
    let kind = kind_of_mistake mistake in
    let here = told_as kind (codes "serve") (first_value (found_of inner)) (λ id. first_of id rows) (clients_in (rows_of (found_of inner))) (clients_in rows) (given_are m inner name rows e found) (clients_are m inner name rows e found) line in
    subst (λ n. IsTold kind n (λ id. first_of id rows) (clients_in rows)) (sym (is_named m name (codes "serve") rows e entered)) here

-- what is read of `state`, by the rows of the subcommand
state_read : (m inner : ArgMatches) (read : Result Options Mistake) → subcommand_name_of m ≡ Some (codes "state") → option_map (λ (p : Text × List Row). p.1) (subcommand_rows_of m) ≡ Some (rows_of (found_of inner))
    → ReadsState (first_value (found_of inner)) read
    → IfOk read (λ o. (name : Text) (rows : List Row) → subcommand_rows_of m ≡ Some (name, rows) → Reads name (λ id. first_of id rows) (clients_in rows) o)
state_read m inner (Err mistake) entered found line = tt
state_read m inner (Ok o) entered found line = λ name rows e.
    let same = given_are m inner name rows e found in
    let here = subst (λ (f : Text → Option Text). Reads (codes "state") f (clients_in rows) o) (λ i id. same id i) (line (clients_in rows)) in
    subst (λ n. Reads n (λ id. first_of id rows) (clients_in rows) o) (sym (is_named m name (codes "state") rows e entered)) here

state_mistaken : (m inner : ArgMatches) (read : Result Options Mistake) → subcommand_name_of m ≡ Some (codes "state") → option_map (λ (p : Text × List Row). p.1) (subcommand_rows_of m) ≡ Some (rows_of (found_of inner))
    → ReadsState (first_value (found_of inner)) read
    → IfErr read (λ mistake. (name : Text) (rows : List Row) → subcommand_rows_of m ≡ Some (name, rows) → IsTold (kind_of_mistake mistake) name (λ id. first_of id rows) (clients_in rows))
state_mistaken m inner (Ok o) entered found line = tt
state_mistaken m inner (Err mistake) entered found line = λ name rows e.
    let same = given_are m inner name rows e found in
    let named = is_named m name (codes "state") rows e entered in
    elim line [
      | inl lacks ↦ inl (inr (inr (named, lacks_as StateLacks (first_value (found_of inner)) (λ id. first_of id rows) same lacks.0)), lacks.1)
      | inr clash ↦ inr (inl (
        inr (inr (inr (
          named,
          subst (λ (f : Text → Option Text). StateLacks f → ⊥) (λ i id. same id i) clash.0,
          lacks_as StateClashes (first_value (found_of inner)) (λ id. first_of id rows) same clash.1,
        ))),
        clash.2,
      ))
    ]

pub returns-in-Some-mistake_of_replay-clause-mistaken : goal.returns-in-Some-mistake_of_replay-clause-mistaken
returns-in-Some-mistake_of_replay-clause-mistaken c = λ name rows e.
    let same = given_are c.args.matches.now c.in-Some.replay.now name rows e c.in-Some.ensures.rows in
    let named = is_named c.args.matches.now name (codes "replay") rows e (c.in-Some.ensures.found.0 refl) in
    elim c.in-Some-mistake_of_replay.ensures [
      | inl lacks ↦ inl (inl (named, subst (λ (f : Text → Option Text). ReplayLacks f) (λ i id. same id i) lacks.0), lacks.1)
      | inr clash ↦ inr (inl (
        inr (inl (
          named,
          subst (λ (f : Text → Option Text). ReplayLacks f → ⊥) (λ i id. same id i) clash.0,
          subst (λ (f : Text → Option Text). ReplayClashes f) (λ i id. same id i) clash.1,
        )),
        clash.2,
      ))
    ]

pub returns-in-None-clause-read : goal.returns-in-None-clause-read
returns-in-None-clause-read c = λ name rows e.
    let same = given_are c.args.matches.now c.in-Some.replay.now name rows e c.in-Some.ensures.rows in (
      is_named c.args.matches.now name (codes "replay") rows e (c.in-Some.ensures.found.0 refl),
      subst (λ (f : Text → Option Text). ReadsReplay f c.replay_options.result) (λ i id. same id i) c.replay_options.ensures,
      subst (λ (f : Text → Option Text). ReplayLacks f → ⊥) (λ i id. same id i) c.in-None.ensures.0,
      subst (λ (f : Text → Option Text). ReplayClashes f → ⊥) (λ i id. same id i) c.in-None.ensures.1,
    )

pub returns-in-Some-mistake_of_live-clause-mistaken : goal.returns-in-Some-mistake_of_live-clause-mistaken
returns-in-Some-mistake_of_live-clause-mistaken c = λ name rows e.
    let live = c.in-Some-subcommand_matches in
    let same = given_are c.args.matches.now live.live.now name rows e live.ensures.rows in
    let named = is_named c.args.matches.now name (codes "live") rows e (live.ensures.found.0 refl) in
    let clash = c.in-Some-mistake_of_live.ensures in
    inr (inl (inr (inr (inl (named, subst (λ (f : Text → Option Text). BoundsPatient f) (λ i id. same id i) clash.0))), clash.1))

pub returns-in-None-mistake_of_live-clause-read : goal.returns-in-None-mistake_of_live-clause-read
returns-in-None-mistake_of_live-clause-read c = λ name rows e.
    let live = c.in-Some-subcommand_matches in
    let same = given_are c.args.matches.now live.live.now name rows e live.ensures.rows in (
      is_named c.args.matches.now name (codes "live") rows e (live.ensures.found.0 refl),
      subst (λ (f : Text → Option Text). ReadsLive f c.live_options.result) (λ i id. same id i) c.live_options.ensures,
      subst (λ (f : Text → Option Text). BoundsPatient f → ⊥) (λ i id. same id i) c.in-None-mistake_of_live.ensures,
    )

pub returns-in-Some-subcommand_matches-2-clause-read : goal.returns-in-Some-subcommand_matches-2-clause-read
returns-in-Some-subcommand_matches-2-clause-read c =
    let serve = c.in-Some-subcommand_matches-2 in
    IfOk-weaker c.read_serve.result _ _ (λ read line. serve_read c.args.matches.now serve.serve.now read (serve.ensures.found.0 refl) serve.ensures.rows line) c.read_serve.ensures

pub returns-in-Some-subcommand_matches-2-clause-mistaken : goal.returns-in-Some-subcommand_matches-2-clause-mistaken
returns-in-Some-subcommand_matches-2-clause-mistaken c =
    let serve = c.in-Some-subcommand_matches-2 in
    IfOk-weaker c.read_serve.result _ _ (λ read line. serve_mistaken c.args.matches.now serve.serve.now read (serve.ensures.found.0 refl) serve.ensures.rows line) c.read_serve.ensures

pub returns-in-Some-subcommand_matches-3-clause-read : goal.returns-in-Some-subcommand_matches-3-clause-read
returns-in-Some-subcommand_matches-3-clause-read c = λ name rows e.
    let verify = c.in-Some-subcommand_matches-3 in
    let same = given_are c.args.matches.now verify.verify.now name rows e verify.ensures.rows in (
      is_named c.args.matches.now name (codes "verify") rows e (verify.ensures.found.0 refl),
      c.homes.ensures ∙ ap homes_of (same (codes "ends")),
      c.is_given.ensures ∙ ap is_some (same (codes "unended")),
      subst (λ text. MayRead text c.number_if_given.result) (same (codes "wlog")) c.number_if_given.ensures,
      c.is_given-in-Some-subcommand_matches-3.ensures ∙ ap is_some (same (codes "chain")),
    )

pub returns-in-Some-subcommand_matches-4-clause-read : goal.returns-in-Some-subcommand_matches-4-clause-read
returns-in-Some-subcommand_matches-4-clause-read c =
    let state = c.in-Some-subcommand_matches-4 in
    state_read c.args.matches.now state.state.now c.read_state.result (state.ensures.found.0 refl) state.ensures.rows c.read_state.ensures

pub returns-in-Some-subcommand_matches-4-clause-mistaken : goal.returns-in-Some-subcommand_matches-4-clause-mistaken
returns-in-Some-subcommand_matches-4-clause-mistaken c =
    let state = c.in-Some-subcommand_matches-4 in
    state_mistaken c.args.matches.now state.state.now c.read_state.result (state.ensures.found.0 refl) state.ensures.rows c.read_state.ensures
