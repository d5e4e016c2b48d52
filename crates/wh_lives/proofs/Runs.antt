-- What a life did, as a run.
use Rattle.std.proofs.Common.{◌≡◌, ◌<◌, ◌≤◌, ◌^◌, ℕ, Bool, List, [], ◌∷◌, ◌++◌, refl, sym, ◌∙◌, subst, arith, append-nil, Option, None, Some}
use Rattle.std.specs.Prelude.{All, IfSome}
use Rattle.std.specs.List.{AllByRecursion}
use Rattle.std.proofs.lemmas.List.Elements.{All-weaker, recursion_from_All}
use Rattle.wh_text.specs.Lines.{lines_of}
use Rattle.wh_grid.specs.Grids.{Floor}
use Rattle.wh_path.specs.Paths.{last_index}
use Rattle.wh_points.specs.Points.{Site, starts}
use Rattle.wh_event.specs.declared.entry.Entry.{Entry}
use Rattle.wh_core.specs.States.{State, opened}
use Rattle.wh_core.specs.Steps.{Run}
use Rattle.wh_core.specs.Laws.{IsBeginning}
use Rattle.wh_core.proofs.StepKinds.{run-join}
use Rattle.wh_log.specs.Logs.{IsSlots, most_stops}
use Rattle.wh_log.specs.Ranges.{Keeps}
use Rattle.wh_log.specs.declared.version.Version.{Version}
use Rattle.wh_log.proofs.Fronts.{kept_by_all}
use Rattle.wh_judge.specs.Written.{IsAskedInRange}
use Rattle.wh_judge.proofs.Paths.{short_first}
use Rattle.wh_resume.specs.Drafts.{Seen}
use Rattle.wh_replay.specs.Runs.{entries_of}
use Rattle.wh_replay.specs.declared.asker.Asker.{Asker}
use Rattle.wh_replay.proofs.Giving.{gives_nothing}
use Rattle.wh_journal.specs.Journals.{ServesLines}
use Rattle.wh_log.specs.declared.version.Version.TheVariants.{Two}
use Rattle.wh_resume.specs.declared.recovery.Preface.{Preface}
use Rattle.wh_continue.specs.Starting.{StartsAt}
use Rattle.wh_lives.proofs.Asked.{all_both, asked_keep}

same_entries : (x a b : List Entry) → x ++ a ≡ x ++ b → a ≡ b
same_entries [] a b e = e
same_entries (c ∷ x) a b e = same_entries x a b (let tail : x ++ a ≡ x ++ b = cc in tail)

-- the book's history is a run of the site, from a state in which all are on their ways
pub record IsRunOn (site : Site) (book : Seen) : Type 0 where
  pub site_is : book.site ≡ site
  pub is_beginning : IsBeginning site book.opening
  pub run : Run site book.opening book.history book.state

module _ {X : Type 0} (fits : X → Floor → Bool) (count : X → ℕ) (asker : Asker) where
  pub serves_nothing : (book : Seen) (spares : List X) → ServesLines fits count asker book spares book spares [] [] []
  serves_nothing book spares = record { whole = λ more. refl; output = gives_nothing fits count asker.caller (λ outcomes. []) book spares; added_are = sym (append-nil book.history) }

  module _ (old new : Seen) (spares rest : List X) (read : List ℕ) (replies : List (List ℕ)) (added : List Entry) (s : ServesLines fits count asker old spares new rest read replies added) where
    added_are : entries_of s.output.outcomes ≡ added
    added_are = same_entries old.history (entries_of s.output.outcomes) added (sym s.output.history ∙ s.added_are)

    pub opening_is : new.opening ≡ old.opening
    opening_is = s.output.opening

    -- the run goes on
    pub runs_on : (site : Site) → IsRunOn site old → IsRunOn site new
    runs_on site r =
        let more : Run site old.state added new.state =
        subst (λ (at : Site). Run at old.state added new.state) r.site_is (subst (λ (es : List Entry). Run old.site old.state es new.state) added_are s.output.run) in
        let whole : Run site old.opening (old.history ++ added) new.state = run-join site old.opening old.history old.state added new.state r.run more in
        record {
          site_is = s.output.site ∙ r.site_is;
          is_beginning = subst (λ (o : State). IsBeginning site o) (sym opening_is) r.is_beginning;
          run = subst (λ (o : State). Run site o new.history new.state) (sym opening_is) (subst (λ (es : List Entry). Run site old.opening es new.state) (sym s.added_are) whole);
        }

    -- what was asked is in the ranges of a log, and so are the planners that are left
    pub asked_on : asker.caller < 64 → AllByRecursion (λ planner. count planner < 10 ^ 9) spares → AllByRecursion IsAskedInRange old.history
        → AllByRecursion IsAskedInRange new.history × AllByRecursion (λ planner. count planner < 10 ^ 9) rest
    asked_on low few before =
        let more = asked_keep fits count asker.caller low old.site (lines_of read) s.output.outcomes old.state spares new.state rest few s.output.ran in
        let mine : AllByRecursion IsAskedInRange added = subst (λ (es : List Entry). AllByRecursion IsAskedInRange es) added_are more.0 in
        (subst (λ (es : List Entry). AllByRecursion IsAskedInRange es) (sym s.added_are) (all_both IsAskedInRange old.history added before mine), more.1)

-- ---- what a run starts from

asked_in_log : (version : Version) (entries : List Entry) → AllByRecursion (Keeps (most_stops version)) entries → AllByRecursion IsAskedInRange entries
asked_in_log version [] all = tt
asked_in_log version (entry ∷ entries) all = let k = kept_by_all version entry all.0 in (record { caller = k.caller; event = k.event }, asked_in_log version entries all.1)

module _ (site : Site) (slots text : List ℕ) (version : Version) (book : Seen) where
  pub start_site : (preface : Option Preface) (bytes : Option ℕ) → StartsAt site slots text preface version book bytes → book.site ≡ site
  start_site preface None b = b.0.unbegun.site_is
  start_site None (Some n) g = g.goes_on.site_is
  start_site (Some preface) (Some n) g = g.1.1.site_is

  pub start_slots : (preface : Option Preface) (bytes : Option ℕ) → StartsAt site slots text preface version book bytes → All IsSlots slots → AllByRecursion IsSlots book.opening.slots
  start_slots preface None b all = subst (λ (s : State). AllByRecursion IsSlots s.slots) (sym b.0.unbegun.opening_is) (recursion_from_All IsSlots slots all)
  start_slots None (Some n) g all = subst (λ (s : State). AllByRecursion IsSlots s.slots) (sym g.goes_on.opening_is) g.holds.fits.opens.each
  start_slots (Some preface) (Some n) g all = g.1.1.fits.opens.each

  pub start_asked : (preface : Option Preface) (bytes : Option ℕ) → StartsAt site slots text preface version book bytes → AllByRecursion IsAskedInRange book.history
  start_asked preface None b = subst (λ (es : List Entry). AllByRecursion IsAskedInRange es) (sym b.0.unbegun.history_is) tt
  start_asked None (Some n) g = subst (λ (es : List Entry). AllByRecursion IsAskedInRange es) (sym g.goes_on.history_is) (asked_in_log version g.content.entries g.holds.fits.entries)
  start_asked (Some preface) (Some n) g = asked_in_log Two book.history g.1.1.fits.entries

  -- the paths of an opening have no step
  opened_short : (opening : State) (clock : ℕ) (ns : List ℕ) → opening ≡ opened site.layout clock ns → All (λ path. last_index path < 2 ^ 63) opening.paths
  opened_short opening clock ns is =
      subst (λ (s : State). All (λ path. last_index path < 2 ^ 63) s.paths) (sym is)
      (All-weaker (λ path. last_index path ≤ 0) (λ path. last_index path < 2 ^ 63) (λ path none. omega (arith, none)) (opened site.layout clock ns).paths (short_first (starts site.layout)))

  pub start_short : (preface : Option Preface) (bytes : Option ℕ) → StartsAt site slots text preface version book bytes → IfSome preface (λ _. All (λ path. last_index path < 2 ^ 63) book.opening.paths)
      → All (λ path. last_index path < 2 ^ 63) book.opening.paths
  start_short None None b paths = opened_short book.opening 0 slots b.0.unbegun.opening_is
  start_short None (Some n) g paths = opened_short book.opening g.content.clock g.content.slots g.goes_on.opening_is
  start_short (Some preface) bytes b paths = paths
