-- what a warehouse keeps, after each change
use Rattle.std.proofs.Common.{◌≡◌, ℕ, ◌<◌, ◌∙◌, List, length, ap, sym, refl, get_or, set}
use Rattle.std.specs.Prelude.{Bool}
use Rattle.std.proofs.lemmas.List.{length-map, length-set}
use Rattle.wh_grid.specs.Grids.{Floor}
use Rattle.wh_path.specs.Paths.{advanced}
use Rattle.wh_points.specs.Points.{Site}
use Rattle.wh_core.specs.States.{State, arrived, moved}
use Rattle.wh_field.specs.Fields.{Seeking}
use Rattle.wh_book.specs.Drafts.{Seen, IsSame}
use Rattle.wh_token.specs.Houses.{IsFurnished}
use Rattle.wh_token.proofs.Fleet.{tied-slots, tied-same}

-- where the book has the same state
pub furnished-still : {X : Type 0} (fits : X → Floor → Bool) (count : X → ℕ) (old new : Seen) (planners : List X) (near : Seeking) (stored : Floor) → new.state ≡ old.state → new.site ≡ old.site →
    IsFurnished fits count old planners near stored → IsFurnished fits count new planners near stored
furnished-still fits count old new planners near stored state site is = record {
  seats = is.seats ∙ ap (λ (s : State). length s.paths) (sym state);
  tied = tied-slots fits count old.site.grid new.site.grid planners planners old.state.slots new.state.slots (ap (λ (s : Site). s.grid) (sym site)) refl
      (ap (λ (s : State). s.slots) (sym state)) is.tied;
  over = is.over ∙ ap (λ (s : Site). s.grid) (sym site);
  lent = is.lent ∙ ap (λ (s : Site). s.grid) (sym site);
}

pub furnished-same : {X : Type 0} (fits : X → Floor → Bool) (count : X → ℕ) (old new : Seen) (planners : List X) (near : Seeking) (stored : Floor) → IsSame old new → IsFurnished fits count old planners near stored →
    IsFurnished fits count new planners near stored
furnished-same fits count old new planners near stored same is = furnished-still fits count old new planners near stored same.state same.site is

-- where an agent's planner was asked
pub furnished-asked : {X : Type 0} (fits : X → Floor → Bool) (count : X → ℕ) (book : Seen) (planners : List X) (near : Seeking) (before after : Floor) (agent : ℕ) (old new : X) →
    agent < length book.state.paths → old ≡ get_or planners agent old → ((g : Floor) → fits new g ≡ fits old g) → count new ≡ count old → after ≡ before →
    IsFurnished fits count book planners near before → IsFurnished fits count book (set planners agent new) near after
furnished-asked fits count book planners near before after agent old new known read same_fits same_count same_grid is = record {
  seats = length-set planners agent new ∙ is.seats;
  tied = tied-same fits count book.site.grid planners book.state.slots agent old new (rw is.seats known) read (same_fits book.site.grid) same_count is.tied;
  over = is.over;
  lent = same_grid ∙ is.lent;
}

-- over a tick
pub furnished-ticked : {X : Type 0} (fits : X → Floor → Bool) (count : X → ℕ) (old new : Seen) (planners : List X) (near : Seeking) (stored : Floor) →
    new.state ≡ arrived (moved old.state) → new.site ≡ old.site →
    IsFurnished fits count old planners near stored → IsFurnished fits count new planners near stored
furnished-ticked fits count old new planners near stored state site is = record {
  seats = is.seats ∙ sym (ap (λ (s : State). length s.paths) state ∙ length-map old.state.paths advanced);
  tied = tied-slots fits count old.site.grid new.site.grid planners planners old.state.slots new.state.slots (ap (λ (s : Site). s.grid) (sym site)) refl
      (ap (λ (s : State). s.slots) (sym state)) is.tied;
  over = is.over ∙ ap (λ (s : Site). s.grid) (sym site);
  lent = is.lent ∙ ap (λ (s : Site). s.grid) (sym site);
}
