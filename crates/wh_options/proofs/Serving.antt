-- Running clients: what is found for them, and what settings say of them.
use Rattle.std.proofs.Common.{◌≡◌, List, [], ◌∷◌, refl, Bool, true, false, cond, None, Some, Option, inl, inr, codes}
use Rattle.std.specs.Prelude.{◌≢◌, find, option_map, unwrap_or}
use Rattle.std.specs.List.{AllZip}
use Rattle.std.specs.Str.{bytes_eq}
use Rattle.clap.specs.Walk.{Row, all_of}
use Rattle.wh_client.specs.Clients.{GivesClient, Text}
use Rattle.wh_client.specs.declared.client.ClientOptions.{ClientOptions}
use Rattle.wh_options.specs.Setting.{Setting}
use Rattle.wh_options.specs.Options.{GivesServe, GivesState, SaysServe, SaysState, ServeLacks}
use Rattle.wh_options.specs.declared.chosen.ServeOptions.{ServeOptions}
use Rattle.wh_options.specs.declared.chosen.StateOptions.{StateOptions}
use Rattle.wh_options.proofs.Rows.{values_in}

all_step : (id : Text) (r : Row) (rs : List Row) (b : Bool) → unwrap_or (option_map (λ (q : Row). q.values) (find (λ (q : Row). bytes_eq q.id id) rs)) [] ≡ values_in id rs
    → unwrap_or (option_map (λ (q : Row). q.values) (cond b (Some r) (find (λ (q : Row). bytes_eq q.id id) rs))) [] ≡ cond b r.values (values_in id rs)
all_step id r rs true ih = refl
all_step id r rs false ih = ih

-- all that was found for a name
pub all_in : (id : Text) (rows : List Row) → unwrap_or (all_of id rows) [] ≡ values_in id rows
all_in id [] = refl
all_in id (r ∷ rs) = all_step id r rs (bytes_eq r.id id) (all_in id rs)

-- ---- no text, no client

pub some_clients : (texts : List Text) (cs : List ClientOptions) → AllZip GivesClient texts cs → texts ≢ [] → cs ≢ []
some_clients [] cs each some = λ e. some refl
some_clients (t ∷ ts) [] each some = absurd each
some_clients (t ∷ ts) (c ∷ cs) each some = λ e. cc

-- ---- what each says by itself

pub says_of_serve : (settings : List Setting) (o : ServeOptions) → GivesServe settings o → SaysServe settings
says_of_serve settings o gives = record {
  planners = o.fleet;
  entries = o.journal;
  part = o.share;
  form = o.replies;
  kept = Some o.log.now;
  pace = o.every;
  shown = option_map (λ s. s.now) o.board;
  looks = o.board_every;
  only = gives.only;
  fleet = gives.fleet;
  journal = gives.journal;
  share = gives.share;
  replies = gives.replies;
  log = gives.log;
  every = gives.every;
  board = gives.board;
  board_every = gives.board_every;
}

pub says_of_state : (settings : List Setting) (o : StateOptions) → GivesState settings o → SaysState settings
says_of_state settings o gives = record {
  homes = o.homes;
  kept = Some o.log.now;
  count = o.after;
  only = gives.only;
  ends = gives.ends;
  log = gives.log;
  after = gives.after;
}

-- ---- what is needed

pub has_client : (given : Text → Option Text) → (ServeLacks given → ⊥) → given (codes "client") ≢ None
has_client given never = λ none. never (inr (inl none))
