-- what every state of a run keeps about its paths and the stops of its tasks
use Rattle.std.proofs.Common.{◌≡◌, ℕ, ◌<◌, ◌≤◌, ◌∙◌, inl, inr, List, [], ◌∷◌, None, Some, length, map, sym, subst, refl, ap, arith, length-append}
use Prim.Native.Nat.{zero, suc}
use Rattle.std.specs.Prelude.{replicate, slice_get}
use Rattle.std.specs.List.{AllZip}
use Rattle.std.proofs.Math.ListN.{set}
use Rattle.std.proofs.lemmas.Bool.{cases_eq}
use Rattle.std.proofs.lemmas.Option.{slice_get_within, same_Some}
use Rattle.std.proofs.lemmas.List.{length-set, length-map, get_or-set_same, get_or-set_other, get_or-map}
use Rattle.wh_grid.specs.declared.cell.Cell.{Cell}
use Rattle.wh_points.specs.declared.points.Kind.{Kind}
use Rattle.wh_path.specs.Paths.{cell_at, path_of, advanced, IsWalk, AllFree}
use Rattle.wh_points.specs.Points.{Layout, Site, IsStation, IsPointCell}
use Rattle.wh_path.proofs.Freedom.{walk-advanced}
use Rattle.wh_path.proofs.Fleet.{all_free-advanced, all_free-adopted}
use Rattle.wh_tasks.specs.declared.task.Task.{Task}
use Rattle.wh_tasks.specs.Tasks.{IsTask}
use Rattle.wh_tasks.specs.Arrivals.{arrived_task, arrived_tasks}
use Rattle.wh_tasks.proofs.Visiting.{arrived-adds}
use Rattle.wh_core.specs.States.{State}
use Rattle.wh_core.specs.Laws.{IsStationCell, HasStops}
use Rattle.wh_core.proofs.StepKinds.{Moves, stays, adds, takes, continues, parks, ticks}
use Rattle.wh_core.proofs.Lists.{slice_get_push, slice_get-set_same, slice_get-set_other, map_from}

pub station-point : (layout : Layout) (cell : Cell) → IsStationCell layout cell → IsPointCell layout cell
station-point layout cell s = (s.0, (Kind.Station, s.1))

pub record IsOrderly (site : Site) (s : State) : Type 0 where
  pub free : AllFree site.layout.nofollow s.paths
  pub walks : (i : ℕ) → i < length s.paths → IsWalk site.grid (path_of s.paths i)
  pub stops : (n : ℕ) (task : Task) → IsTask s.tasks n task → HasStops site.layout task

-- from the parts of a state
orderly-same : (site : Site) (old new : State) → new.paths ≡ old.paths → new.tasks ≡ old.tasks → IsOrderly site old → IsOrderly site new
orderly-same site old new p t sound = record {
  free = subst (λ ps. AllFree site.layout.nofollow ps) (sym p) sound.free;
  walks = subst (λ (ps : List (List Cell)). (i : ℕ) → i < length ps → IsWalk site.grid (path_of ps i)) (sym p) sound.walks;
  stops = subst (λ (ts : List Task). (n : ℕ) (task : Task) → IsTask ts n task → HasStops site.layout task) (sym t) sound.stops;
}

zip-length : {A B : Type 0} (R : A → B → Type 0) (xs : List A) (ys : List B) → AllZip R xs ys → length xs ≡ length ys
zip-length R [] [] all = refl
zip-length R [] (y ∷ ys) all = absurd all
zip-length R (x ∷ xs) [] all = absurd all
zip-length R (x ∷ xs) (y ∷ ys) all = ap suc (zip-length R xs ys all.1)

zip-stations : (layout : Layout) (names : List (List ℕ)) (cells : List Cell) → AllZip (IsStation layout) names cells →
    (i : ℕ) → i < length cells → IsStationCell layout (cell_at cells i)
zip-stations layout [] [] all i h = absurd (omega arith)
zip-stations layout [] (c ∷ cells) all i h = absurd all
zip-stations layout (n ∷ names) [] all i h = absurd all
zip-stations layout (n ∷ names) (c ∷ cells) all zero h = (n, all.0)
zip-stations layout (n ∷ names) (c ∷ cells) all (suc i) h = zip-stations layout names cells all.1 i (omega arith)

stops-added : (site : Site) (old : State) (client : List ℕ) (names : List (List ℕ)) (cells : List Cell) → 2 ≤ length names → length names ≤ 8 →
    AllZip (IsStation site.layout) names cells → HasStops site.layout (record { client = client; stops = cells; submitted = old.clock; agent = None; visits = [] })
stops-added site old client names cells count few all =
    let e = zip-length (IsStation site.layout) names cells all in
    record { count = omega arith; few = omega arith; stations = λ more i h. zip-stations site.layout names cells all i h }

stops-set : (layout : Layout) (tasks : List Task) (n agent : ℕ) (task : Task) → IsTask tasks n task →
    ((k : ℕ) (t : Task) → IsTask tasks k t → HasStops layout t) →
    (k : ℕ) (t : Task) → IsTask (set tasks n (record task { agent = Some agent })) k t → HasStops layout t
stops-set layout tasks n agent task there each k t is = elim (cases_eq k n) [
  | inl e ↦
      let same : record task { agent = Some agent } ≡ t = same_Some _ _
      (sym (slice_get-set_same tasks n (record task { agent = Some agent }) (slice_get_within tasks n task there))
      ∙ subst (λ i. slice_get (set tasks n (record task { agent = Some agent })) i ≡ Some t) e is) in
      let has = each n task there in
      subst (λ (u : Task). HasStops layout u) same (record { count = has.count; few = has.few; stations = has.stations })
  | inr ne ↦ each k t (sym (slice_get-set_other tasks n k (record task { agent = Some agent }) ne) ∙ is)
]

stops-arrived : (layout : Layout) (clock : ℕ) (place : ℕ → Cell) (tasks : List Task) →
    ((k : ℕ) (t : Task) → IsTask tasks k t → HasStops layout t) →
    (k : ℕ) (t : Task) → IsTask (arrived_tasks clock place tasks) k t → HasStops layout t
stops-arrived layout clock place tasks each k t is =
    let from = map_from (arrived_task clock place) tasks k t is in
    let has = each k from.0 from.1 in
    let added = arrived-adds clock place from.0 in
    let size = length-append from.0.visits (replicate added.0 clock) in
    subst (λ u. HasStops layout u) (sym added.1 ∙ from.2) (record { count = has.count; few = has.few; stations = λ more i h. has.stations (omega arith) i h })

-- what holds of each path holds after one more is given that it holds of, and after a step of time that keeps it
pub each-set : (P : List Cell → Type 0) (paths : List (List Cell)) (agent : ℕ) (path : List Cell) → agent < length paths → P path →
    ((i : ℕ) → i < length paths → P (path_of paths i)) →
    (i : ℕ) → i < length (set paths agent path) → P (path_of (set paths agent path) i)
each-set P paths agent path known new each i h = elim (cases_eq i agent) [
  | inl e ↦ subst P (sym (ap (λ k. path_of (set paths agent path) k) e ∙ get_or-set_same paths agent path [] known)) new
  | inr ne ↦ subst P (sym (get_or-set_other paths agent i path [] ne)) (each i (let e = length-set paths agent path in omega arith))
]

pub each-advanced : (P : List Cell → Type 0) (paths : List (List Cell)) → ((p : List Cell) → P p → P (advanced p)) →
    ((i : ℕ) → i < length paths → P (path_of paths i)) →
    (i : ℕ) → i < length (map advanced paths) → P (path_of (map advanced paths) i)
each-advanced P paths keep each i h =
    let l : i < length paths = (let e = length-map paths advanced in omega arith) in
    subst P (sym (get_or-map advanced paths i [] [] l)) (keep (path_of paths i) (each i l))

pub orderly-moves : (site : Site) (old new : State) → IsOrderly site old → Moves site old new → IsOrderly site new
orderly-moves site old new sound m = elim m [
  | stays c p l t z ↦ orderly-same site old new p t sound
  | adds client names cells room count few stations e ↦
      subst (λ s. IsOrderly site s) (sym e) (record {
        free = sound.free;
        walks = sound.walks;
        stops = λ n task is. elim (slice_get_push old.tasks _ n task is) [
          | inl there ↦ sound.stops n task there
          | inr last ↦ subst (λ (t : Task). HasStops site.layout t) last.1 (stops-added site old client names cells count few stations)
        ];
      })
  | takes agent n task path due none next lawful e ↦
      subst (λ s. IsOrderly site s) (sym e) (record {
        free = all_free-adopted site.layout.nofollow old.paths agent path due.known.known lawful.free sound.free;
        walks = each-set (λ p. IsWalk site.grid p) old.paths agent path due.known.known lawful.walk sound.walks;
        stops = stops-arrived site.layout _ _ _ (stops-set site.layout old.tasks n agent task next.eligible.there sound.stops);
      })
  | continues agent n task path due own lawful e ↦
      subst (λ s. IsOrderly site s) (sym e) (record {
        free = all_free-adopted site.layout.nofollow old.paths agent path due.known.known lawful.free sound.free;
        walks = each-set (λ p. IsWalk site.grid p) old.paths agent path due.known.known lawful.walk sound.walks;
        stops = stops-arrived site.layout _ _ _ sound.stops;
      })
  | parks agent path due way lawful e ↦
      subst (λ s. IsOrderly site s) (sym e) (record {
        free = all_free-adopted site.layout.nofollow old.paths agent path due.known.known lawful.free sound.free;
        walks = each-set (λ p. IsWalk site.grid p) old.paths agent path due.known.known lawful.walk sound.walks;
        stops = sound.stops;
      })
  | ticks fits e ↦
      subst (λ s. IsOrderly site s) (sym e) (record {
        free = all_free-advanced site.layout.nofollow old.paths sound.free;
        walks = each-advanced (λ p. IsWalk site.grid p) old.paths (λ p w. walk-advanced site.grid p w) sound.walks;
        stops = stops-arrived site.layout _ _ _ sound.stops;
      })
]
