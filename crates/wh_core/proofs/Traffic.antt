-- what free paths mean for the cells that the agents are in
use Rattle.std.proofs.Common.{◌≡◌, ◌≢◌, ℕ, ◌<◌, ◌∙◌, ◌⊎◌, inl, inr, List, [], true, length, refl, subst, sym, ap}
use Rattle.std.proofs.Math.ListN.{set}
use Rattle.std.proofs.lemmas.Bool.{cases_eq}
use Rattle.std.proofs.lemmas.List.{get_or-set_same, get_or-set_other, get_or-map}
use Rattle.wh_grid.specs.declared.cell.Cell.{Cell}
use Rattle.wh_path.specs.Paths.{at, end, path_of, place_of, advanced}
use Rattle.wh_points.specs.Points.{Site, IsPointCell}
use Rattle.wh_path.proofs.AtLemmas.{at-advanced}
use Rattle.wh_path.proofs.Freedom.{free-ends}
use Rattle.wh_core.specs.States.{State}
use Rattle.wh_core.specs.Steps.{Step, Answers}
use Rattle.wh_core.specs.Laws.{IsReached, IsReachedOnTheirWays, AreTwo}
use Rattle.wh_grid.specs.Grids.{IsMove, IsPassable}
use Rattle.wh_event.specs.declared.entry.Entry.{Entry}
use Rattle.wh_event.specs.declared.event.Event.{Event}
use Rattle.wh_event.specs.declared.event.Spare.{Spare}
use Rattle.wh_event.specs.declared.reply.Reply.{Reply}
use Rattle.wh_core.proofs.StepKinds.{Moves, stays, adds, takes, continues, parks, ticks, step-moves}
use Rattle.wh_core.proofs.Sound.{orderly-reached, ways-reached}

-- each agent is where it was
abbrev AllStand : State → State → Type 0
AllStand old new = (i : ℕ) → i < length old.paths → place_of new.paths i ≡ place_of old.paths i

-- each agent is where its path was to lead it at time 1
abbrev AllGo : State → State → Type 0
AllGo old new = (i : ℕ) → i < length old.paths → place_of new.paths i ≡ at (path_of old.paths i) 1

place-set : (paths : List (List Cell)) (agent : ℕ) (path : List Cell) → agent < length paths → at path 0 ≡ place_of paths agent →
    (i : ℕ) → i < length paths → place_of (set paths agent path) i ≡ place_of paths i
place-set paths agent path known starts i h = elim (cases_eq i agent) [
  | inl e ↦ rw (e, get_or-set_same paths agent path [] known) starts
  | inr ne ↦ ap (λ p. at p 0) (get_or-set_other paths agent i path [] ne)
]

stand-or-go : (site : Site) (old new : State) → Moves site old new → AllStand old new ⊎ AllGo old new
stand-or-go site old new m = elim m [
  | stays c p l t z ↦ inl (λ i h. ap (λ ps. place_of ps i) p)
  | adds client names cells room count few stations e ↦ inl (λ i h. ap (λ s. place_of s.paths i) e)
  | continues agent n task path due own lawful e ↦
      inl (λ i h. ap (λ s. place_of s.paths i) e ∙ place-set old.paths agent path due.known.known lawful.starts_here i h)
  | takes agent n task path due none next lawful e ↦
      inl (λ i h. ap (λ s. place_of s.paths i) e ∙ place-set old.paths agent path due.known.known lawful.starts_here i h)
  | parks agent path due way lawful e ↦
      inl (λ i h. ap (λ s. place_of s.paths i) e ∙ place-set old.paths agent path due.known.known lawful.starts_here i h)
  | ticks fits e ↦
      inr (λ i h. ap (λ s. place_of s.paths i) e ∙ ap (λ p. at p 0) (get_or-map advanced old.paths i [] [] h) ∙ at-advanced (path_of old.paths i) 0)
]

pub none_share : (site : Site) (entries : List Entry) (s : State) (i j : ℕ) → IsReached site entries s → AreTwo s i j →
    place_of s.paths i ≢ place_of s.paths j
none_share site entries s i j r two = ((orderly-reached site entries s r).free.pair i j two.first two.second two.differ).apart 0

pub none_exchange : (site : Site) (entries : List Entry) (old : State) (entry : Entry) (new : State) (i j : ℕ) →
    IsReached site entries old → Step site old entry new → AreTwo old i j →
    ¬ ((place_of new.paths i ≡ place_of old.paths j) × (place_of new.paths j ≡ place_of old.paths i))
none_exchange site entries old entry new i j r step two both =
    let free = (orderly-reached site entries old r).free.pair i j two.first two.second two.differ in
    elim (stand-or-go site old new (step-moves site old entry new step)) [
      | inl stand ↦ free.apart 0 (sym (stand i two.first) ∙ both.0)
      | inr go ↦ free.no_swap 0 (sym both.1 ∙ go j two.second, sym (go i two.first) ∙ both.0)
    ]

pub none_follow : (site : Site) (entries : List Entry) (old : State) (entry : Entry) (new : State) (i j : ℕ) → site.layout.nofollow ≡ true →
    IsReached site entries old → Step site old entry new → AreTwo old i j → place_of new.paths i ≢ place_of old.paths j
none_follow site entries old entry new i j rule r step two same =
    let free = (orderly-reached site entries old r).free.pair i j two.first two.second two.differ in
    elim (stand-or-go site old new (step-moves site old entry new step)) [
      | inl stand ↦ free.apart 0 (sym (stand i two.first) ∙ same)
      | inr go ↦ free.no_follow rule 0 (inl (sym (go i two.first) ∙ same))
    ]

-- an agent goes by its path, which is a walk
pub each_step_moves : (site : Site) (entries : List Entry) (old : State) (entry : Entry) (new : State) (i : ℕ) →
    IsReached site entries old → Step site old entry new → i < length old.paths →
    IsMove (place_of old.paths i) (place_of new.paths i) × IsPassable site.grid (place_of new.paths i)
each_step_moves site entries old entry new i r step h =
    let walk = (orderly-reached site entries old r).walks i h in
    let here = place_of old.paths i in
    elim (stand-or-go site old new (step-moves site old entry new step)) [
      | inl stand ↦ subst (λ c. IsMove here c × IsPassable site.grid c) (sym (stand i h)) (inl refl, walk.passable 0)
      | inr go ↦ subst (λ c. IsMove here c × IsPassable site.grid c) (sym (go i h)) (walk.moves 0, walk.passable 1)
    ]

-- what is no tick moves nobody
stand : (site : Site) (old : State) (reply : Reply) (event : Event) (new : State) → Answers site old reply event new → event ≢ Event.Tick → AllStand old new
stand site old (Reply.Refused refusal) event new step differs i h = ap (λ s. place_of s.paths i) step.1
stand site old (Reply.Accepted n) (Event.Submit client stops) new step differs i h = ap (λ s. place_of s.paths i) step.5.2
stand site old (Reply.Took n path) (Event.Request agent) new step differs i h =
    ap (λ s. place_of s.paths i) step.1.3 ∙ place-set old.paths agent path step.0.known.known step.1.2.starts_here i h
stand site old Reply.Rested (Event.Request agent) new step differs i h = ap (λ s. place_of s.paths i) step.3
stand site old (Reply.Parked point path) (Event.Request agent) new step differs i h =
    ap (λ s. place_of s.paths i) step.4 ∙ place-set old.paths agent path step.0.known.known step.2.starts_here i h
stand site old (Reply.Clock now first last) Event.Tick new step differs i h = absurd (differs refl)
stand site old (Reply.Replaced slots) (Event.Replace agent (Spare.Fits count)) new step differs i h = ap (λ s. place_of s.paths i) step.2
stand site old Reply.Closed Event.Close new step differs i h = ap (λ s. place_of s.paths i) step.1
stand site old reply event new step differs i h = absurd step

pub only_ticks_move : (site : Site) (old : State) (entry : Entry) (new : State) (i : ℕ) → Step site old entry new → entry.event ≢ Event.Tick →
    i < length old.paths → place_of new.paths i ≡ place_of old.paths i
only_ticks_move site old entry new i step differs h = stand site old entry.reply entry.event new step differs i h

pub ends_are_points : (site : Site) (entries : List Entry) (s : State) (i : ℕ) → IsReachedOnTheirWays site entries s → i < length s.paths →
    IsPointCell site.layout (end (path_of s.paths i))
ends_are_points site entries s i r h = (ways-reached site entries s r i h).berth.point

pub ends_differ : (site : Site) (entries : List Entry) (s : State) (i j : ℕ) → IsReached site entries s → AreTwo s i j →
    end (path_of s.paths i) ≢ end (path_of s.paths j)
ends_differ site entries s i j r two =
    free-ends site.layout.nofollow _ _ ((orderly-reached site entries s r).free.pair i j two.first two.second two.differ)
