-- vehicles that carry out one run have one plan
use Rattle.std.proofs.Common.{◌≡◌, ℕ, ◌<◌, ◌∙◌, List, [], ◌∷◌, ◌++◌, length, sym, subst, refl, ap, arith}
use Rattle.std.proofs.lemmas.List.{append-nil, append_assoc, get_or_append_left}
use Rattle.wh_grid.specs.declared.cell.Cell.{Cell}
use Rattle.wh_path.specs.Paths.{cell_at}
use Rattle.wh_points.specs.Points.{Site, IsLayout}
use Rattle.wh_event.specs.declared.entry.Entry.{Entry}
use Rattle.wh_core.specs.States.{State}
use Rattle.wh_core.specs.Steps.{Step, Run}
use Rattle.wh_core.specs.Laws.{IsBeginning}
use Rattle.wh_core.proofs.Determined.{run-one}
use Rattle.wh_book.specs.Drafts.{Seen}
use Rattle.wh_drive.specs.Drives.{cell_in}
use Rattle.wh_order.proofs.Brought.{none_is_too_early}
use Rattle.wh_vehicles.specs.Plans.{places, row_of, Happening, Done, Goes, Comes, Fleet, AllHappen, entries_of}
use Rattle.wh_vehicles.proofs.Planning.{rows_are_the_ticks}
use Rattle.wh_arrivals.specs.Standing.{MayHaveHappened, TooEarlyIsNever}
use Rattle.wh_arrivals.proofs.Walks.{carried-out}

-- the rows of a run's ticks
abbrev rows-by : (site : Site) (old : State) (entries : List Entry) (new : State) → Run site old entries new → List (List Cell)
rows-by site old [] new run = []
rows-by site old (entry ∷ entries) new run = row_of entry.reply run.0 ++ rows-by site run.0 entries new run.2

-- what happens is a run of the warehouse, and its rows are the plan's
record IsPlanned (site : Site) (old : State) (rows : List (List Cell)) (entries : List Entry) (new : Fleet) : Type 0 where
  run : Run site old entries new.state
  rows_are : new.drive.rows ≡ rows ++ rows-by site old entries new.state run

plan-of : (site : Site) (old : Fleet) (happenings : List Happening) (new : Fleet) → AllHappen site old happenings new → IsPlanned site old.state old.drive.rows (entries_of happenings) new
plan-of site old [] new all = record { run = ap (λ (f : Fleet). f.state) all; rows_are = ap (λ (f : Fleet). f.drive.rows) all ∙ sym (append-nil old.drive.rows) }
plan-of site old (Done entry ∷ happenings) new all =
    let mid = all.0 in
    let rest = plan-of site mid happenings new all.2 in
    let row = row_of entry.reply mid.state in
    let first : mid.drive.rows ≡ old.drive.rows ++ (row ++ []) = rows_are_the_ticks site old (Done entry ∷ []) mid (mid, all.1, refl) in
    let more = rows-by site mid.state (entries_of happenings) new.state rest.run in
    record {
      run = (mid.state, all.1.0, rest.run);
      rows_are = rest.rows_are ∙ ap (λ (rows : List (List Cell)). rows ++ more) (first ∙ ap (λ (rows : List (List Cell)). old.drive.rows ++ rows) (append-nil row))
          ∙ append_assoc old.drive.rows row more;
    }
plan-of site old (Goes agent ∷ happenings) new all =
    let here : Fleet → Type 0 = λ f. IsPlanned site f.state f.drive.rows (entries_of happenings) new in
    subst here all.1.1 (plan-of site all.0 happenings new all.2)
plan-of site old (Comes agent step ∷ happenings) new all =
    let here : Fleet → Type 0 = λ f. IsPlanned site f.state f.drive.rows (entries_of happenings) new in
    subst here all.1.1 (plan-of site all.0 happenings new all.2)

-- a longer run goes on with the rows of a shorter one
rows-front : (site : Site) → IsLayout site.grid site.layout → (old same : State) → old ≡ same → (before after : List Entry) (mid new : State) (short : Run site same before mid) (long : Run site old (before ++ after) new) →
    (more : List (List Cell)) × (rows-by site old (before ++ after) new long ≡ rows-by site same before mid short ++ more)
rows-front site layout old same e [] after mid new short long = (rows-by site old after new long, refl)
rows-front site layout old same e (entry ∷ before) after mid new short long =
    let next : long.0 ≡ short.0 =
    run-one site old (entry ∷ []) long.0 short.0 layout (long.0, long.1, refl) (short.0, subst (λ (s : State). Step site s entry short.0) (sym e) short.1, refl) in
    let rest = rows-front site layout long.0 short.0 next before after mid new short.2 long.2 in
    let row = row_of entry.reply short.0 in
    let tail = rows-by site short.0 before mid short.2 in (
      rest.0,
      ap (λ (s : State). row_of entry.reply s ++ rows-by site long.0 (before ++ after) new long.2) next ∙ ap (λ (rows : List (List Cell)). row ++ rows) rest.1
          ∙ sym (append_assoc row tail rest.0),
    )

-- the plan that was made by a part of the history stays
stays : (book : Seen) (ahead other : ℕ) (before after : List Entry) (early late : Fleet) → IsBeginning book.site book.opening → book.history ≡ before ++ after →
    MayHaveHappened book ahead before early → MayHaveHappened book other book.history late → (more : List (List Cell)) × (late.drive.rows ≡ early.drive.rows ++ more)
stays book ahead other before after early late o parts h k =
    let site = book.site in
    let start = places book.opening ∷ [] in
    let one = subst (λ (es : List Entry). IsPlanned site book.opening start es early) h.entries_are (plan-of site _ h.happenings early h.all) in
    let two = subst (λ (es : List Entry). IsPlanned site book.opening start es late) (k.entries_are ∙ parts) (plan-of site _ k.happenings late k.all) in
    let front = rows-front site o.layout book.opening book.opening refl before after early.state late.state one.run two.run in
    let rows = rows-by site book.opening before early.state one.run in
    (front.0, two.rows_are ∙ ap (λ (rs : List (List Cell)). start ++ rs) front.1 ∙ sym (append_assoc start rows front.0) ∙ ap (λ (rs : List (List Cell)). rs ++ front.0) (sym one.rows_are))

pub too_early_is_never : TooEarlyIsNever
too_early_is_never book ahead other steps agent fleet o some early h size =
    let d = early.fleet.drive in
    let e = fleet.drive in
    let front = stays book ahead other early.before early.after early.fleet fleet o early.parts early.happened h in
    let carried = carried-out book other book.history fleet o some h in
    let known = early.early.earlier in
    none_is_too_early d steps agent carried.events e early.early carried.drive
    (λ i time le.
    let within : time < length d.rows = omega arith in
    ap (λ (rows : List (List Cell)). cell_in rows i time) front.1 ∙ ap (λ (row : List Cell). cell_at row i) (get_or_append_left d.rows front.0 [] time within))
    size
