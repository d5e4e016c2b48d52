-- What is so at a place of a history is so there in each that goes on from it.
use Rattle.std.proofs.Common.{◌≡◌, ℕ, Bool, List, length, take, ap, sym, subst, ◌∙◌, arith, inl, inr}
use Rattle.std.proofs.lemmas.List.{take-append-le, take_all}
use mathlib.Core.List.{IsPrefix}
use Rattle.wh_points.specs.Points.{Site}
use Rattle.wh_event.specs.declared.entry.Entry.{Entry}
use Rattle.wh_core.specs.States.{State}
use Rattle.wh_core.specs.Laws.{IsBeginning}
use Rattle.wh_core.specs.Steps.{Run}
use Rattle.wh_core.proofs.Sound.{sound-reached}
use Rattle.wh_token.specs.Asking.{IsNextToAsk, MayBeAsked}
use Rattle.wh_board.specs.Pasts.{Origin}
use Rattle.wh_board.proofs.Fronts.{prefix_length}
use Rattle.wh_desk.specs.Calls.{AllRestAt, IsNextAt, IsStateAt}

pub state_later : {origin : Origin} (h g : List Entry) (place : ℕ) (s : State) → IsPrefix h g → IsStateAt origin h place s → IsStateAt origin g place s
state_later {origin} h g place s p is = record {
  within = omega (arith, is.within, prefix_length h g p);
  run = subst (λ (l : List Entry). Run origin.site origin.opening l s) (sym (take-append-le place h p.0 is.within) ∙ ap (λ (l : List Entry). take place l) p.1) is.run;
}

pub next_later : {origin : Origin} (h g : List Entry) (place : ℕ) (asked : List Bool) (agent : ℕ) → IsPrefix h g → IsNextAt origin h place asked agent → IsNextAt origin g place asked agent
next_later h g place asked agent p n = (n.0, state_later h g place n.0 p n.1, n.2)

pub rest_later : {origin : Origin} (h g : List Entry) (place : ℕ) (asked : List Bool) → IsPrefix h g → AllRestAt origin h place asked → AllRestAt origin g place asked
rest_later h g place asked p n = (n.0, state_later h g place n.0 p n.1, n.2)

-- the state to which a whole history leads
pub state_behind : {origin : Origin} (h : List Entry) (s : State) → Run origin.site origin.opening h s → IsStateAt origin h (length h) s
state_behind {origin} h s run = record {
  within = omega arith;
  run = subst (λ (l : List Entry). Run origin.site origin.opening l s) (sym (take_all (length h) h (omega arith))) run;
}

-- who is next to ask was not asked
pub next_may : (site : Site) (s : State) (asked : List Bool) (agent : ℕ) → IsNextToAsk site s (MayBeAsked asked) agent → MayBeAsked asked agent
next_may site s asked agent next = elim next [ inl takes ↦ takes.1.one | inr way ↦ way.one ]

-- there are as many paths as agents in each state that is reached
pub seats_run : (site : Site) (opening : State) (history : List Entry) (s : State) → IsBeginning site opening → Run site opening history s → length s.paths ≡ length site.layout.agents
seats_run site opening history s begun run = (sound-reached site history s (record { opening = opening; is_beginning = begun; run = run })).seats.paths
