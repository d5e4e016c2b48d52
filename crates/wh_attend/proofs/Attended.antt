-- What the whole call says.
use Rattle.std.proofs.Common.{◌≡◌, ℕ, Bool, true, List, refl, sym, ap, ◌∙◌, subst, inl, inr, Option, Some, Result, Ok, Err}
use Rattle.std.specs.Prelude.{IfErr, IfOk}
use Rattle.std.specs.declared.alloc.AllocError.{AllocError}
use Rattle.std.specs.Io.KnownBytes.{Appends}
use Rattle.wh_lines.specs.Input.{Input}
use Rattle.wh_lines.specs.Output.{WritesFront}
use Rattle.wh_grid.specs.Grids.{Floor}
use Rattle.wh_points.specs.Points.{Site}
use Rattle.wh_event.specs.declared.entry.Entry.{Entry}
use Rattle.wh_desk.specs.Drafts.{Seen}
use Rattle.wh_front.specs.declared.front.Count.{Count}
use Rattle.wh_desk.specs.Pasts.{Origin, origin_of}
use Rattle.wh_journal.specs.Surviving.{StaysLog}
use Rattle.wh_continue.specs.Besides.{StandsBeside}
use Rattle.wh_continue.specs.declared.beside.Beside.{Beside}
use Rattle.wh_continue.specs.declared.running.KeepFault.{KeepFault}
use Rattle.wh_continue.specs.declared.starting.Start.{Start}
use Rattle.wh_continue.specs.declared.running.KeepFault.TheVariants as kept
use Rattle.wh_continue.specs.Opening.{IsOpened, IsWhyNotBoth}
use Rattle.wh_continue.specs.Running.{Opens}
use Rattle.wh_edge.specs.declared.trouble.Trouble.{Trouble}
use Rattle.wh_edge.specs.declared.trouble.Trouble.TheVariants as trouble
use Rattle.wh_options.specs.declared.chosen.ServeOptions.{ServeOptions}
use Rattle.wh_display.specs.declared.screen.ShowFault.{ShowFault}
use Rattle.wh_host.specs.Displays.{BoardsFrom}
use Rattle.wh_host.specs.Runs.{IsJournalOf, first_lines}
use Rattle.wh_serve.specs.declared.threads.Client.{Client}
use Rattle.wh_service.specs.Kept.{IsSet, Siding, first_slots, keep_trouble}
use Rattle.wh_service.specs.declared.parts.PlannerParts.{PlannerParts}
use Rattle.wh_service.proofs.Lasting.{start_site, told_before}
use Rattle.wh_attend.specs.Attends.{Attends, HoldsRun, IsReady, IsUnbegun, IsWhyNoHistory, IsWhyUnattended, IsWhyUnbegun, IsWhyUnended, IsWhyUnkept, LeavesRun, Serves, ServesClients, ShowsRun, ending_of}
use Rattle.wh_attend.specs.Guests.{IsStaffed}
use Rattle.wh_attend.specs.declared.ready.Ready.{Ready}
use Rattle.wh_attend.proofs.Wholes.{run_left, whole_log}

module _ {R W X : Type 0} (fits : X → Floor → Bool) (count : X → ℕ) (remaining : R → Option (List ℕ)) (contents : W → Option (List ℕ)) (gives : PlannerParts → Result X AllocError → Type 0) (options : ServeOptions)
    (old new : Input) (file : Option (List ℕ)) (beside : Siding) (showed shows : Option (Option (List (List ℕ)))) (site : Site) (run : Ready X) (ready : IsReady gives options old new file beside.before site run) (aside : Option (List ℕ)) (still : aside ≡ beside.before) where
  -- the log was not begun, or the site not kept beside it
  pub stops_opening : (fault : KeepFault) (told : Trouble) (now opened : Option (List ℕ)) (left : Option (Option (List ℕ))) (failed : Bool) (bytes : List ℕ) → told ≡ keep_trouble fault → left ≡ Some opened → now ≡ file → bytes ≡ run.text.items
      → IsWhyNotBoth fault run.start now opened failed aside beside.after beside.failed bytes
      → IsWhyUnattended fits count remaining contents gives options told old new file left beside showed shows
  stops_opening fault told now opened left failed bytes is given same text why = inr (inl (
    fault,
    is,
    record {
      site = site;
      run = run;
      ready = ready;
      opened = opened;
      left_is = given;
      failed = failed;
      why = subst (λ (b : Option (List ℕ)). IsWhyNotBoth fault run.start file opened failed b beside.after beside.failed run.text.items) still
          (subst (λ (f : Option (List ℕ)). IsWhyNotBoth fault run.start f opened failed aside beside.after beside.failed run.text.items) same
          (subst (λ (t : List ℕ). IsWhyNotBoth fault run.start now opened failed aside beside.after beside.failed t) text why));
    },
  ))

  module _ (opens : Opens aside beside.after run.text.items) (safe : beside.synced ≡ beside.after) where
    set : IsSet beside run.text.items
    set = (subst (λ (b : Option (List ℕ)). Opens b beside.after run.text.items) still opens, safe)

    -- there is no history
    pub stops : (told : Trouble) (left : Option (Option (List ℕ))) → IsWhyNoHistory showed told run.start file left → IsWhyUnattended fits count remaining contents gives options told old new file left beside showed shows
    stops told left why = inr (inr (inl (record { site = site; run = run; ready = ready; is_set = set; why = why })))

    module _ (book final : Seen) (book_is : book ≡ run.start.book) (origin : origin_of final ≡ origin_of book) (served : ServesClients fits count remaining contents options (origin_of book) book.history run.clients.items final.history final.state)
        (last : Result Unit ShowFault) (given : Option (Option (List (List ℕ)))) (back : shows ≡ given) (boards : BoardsFrom (origin_of book) book.history final.history last showed given) where
      serves : Serves fits count remaining contents options site run final
      serves = record {
        site_is = ap (λ (o : Origin). o.site) origin ∙ ap (λ (b : Seen). b.site) book_is ∙ start_site site (first_slots options.fleet site) ready.starts.text run.start ready.starts.starts;
        opening_is = ap (λ (o : Origin). o.opening) origin ∙ ap (λ (b : Seen). b.opening) book_is;
        served = subst (λ (h : List Entry). ServesClients fits count remaining contents options (origin_of final) h run.clients.items final.history final.state) (ap (λ (b : Seen). b.history) book_is)
            (subst (λ (o : Origin). ServesClients fits count remaining contents options o book.history run.clients.items final.history final.state) (sym origin) served);
      }

      shown : ShowsRun run final last showed shows
      shown = subst (λ (s : Option (Option (List (List ℕ)))). ShowsRun run final last showed s) (sym back)
          (subst (λ (h : List Entry). BoardsFrom (origin_of final) h final.history last showed given) (ap (λ (b : Seen). b.history) book_is)
          (subst (λ (o : Origin). BoardsFrom o book.history final.history last showed given) (sym origin) boards))

      -- the log was kept to its end, and the last board was shown
      pub attends : {A E : Type 0} (kept safe : A → Option (List ℕ)) (said : Result A E) (held begun now synced : Option (List ℕ)) (is_whole : Bool) → held ≡ file → StaysLog held begun run.start.book
          → IsJournalOf (first_lines begun book) now synced final.history is_whole → IfOk said (λ (_ : A). is_whole ≡ true) → IfOk said (λ (f : A). Appends now (kept f) (ending_of final))
          → IfOk said (λ (f : A). safe f ≡ kept f) → IfOk said (λ (_ : A). last ≡ Ok tt)
          → IfOk said (λ (f : A). Attends fits count remaining contents gives options old new file (safe f) (kept f) beside showed shows)
      attends kept safe (Ok f) held begun now synced is_whole same stays journal whole ends synced_is all = record {
        site = site;
        run = run;
        ready = ready;
        is_set = set;
        final = final;
        serves = serves;
        whole = whole_log file begun now (kept f) book final (subst (λ (h : Option (List ℕ)). StaysLog h begun book) same (subst (λ (b : Seen). StaysLog held begun b) (sym book_is) stays)) origin (journal.whole whole) ends;
        synced_is = synced_is;
        boards = subst (λ (l : Result Unit ShowFault). ShowsRun run final l showed shows) all shown;
      }
      attends kept safe (Err e) held begun now synced is_whole same stays journal whole ends synced_is all = tt

      -- or was not
      unended : (told : Trouble) (left : Option (Option (List ℕ))) → HoldsRun told file final left → IsWhyUnended last told → IsWhyUnattended fits count remaining contents gives options told old new file left beside showed shows
      unended told left holds (inl why) = inr (inr (inr (inl (record { site = site; run = run; ready = ready; is_set = set; final = final; serves = serves; why = why; holds = holds; last = last; boards = shown }))))
      unended told left holds (inr bad) = inr (inr (inr (inr (record {
        fault = bad.0;
        told_is = bad.2;
        site = site;
        run = run;
        ready = ready;
        is_set = set;
        final = final;
        serves = serves;
        holds = holds;
        boards = subst (λ (l : Result Unit ShowFault). ShowsRun run final l showed shows) bad.1 shown;
      }))))

      pub untold : {A E : Type 0} (told : E → Trouble) (left : E → Option (Option (List ℕ))) (said : Result A E) (held begun now synced : Option (List ℕ)) (is_whole : Bool) → held ≡ file → StaysLog held begun run.start.book
          → IsJournalOf (first_lines begun book) now synced final.history is_whole → IfErr said (λ (e : E). LeavesRun is_whole (told e) (ending_of final) now (left e)) → IfErr said (λ (e : E). IsWhyUnended last (told e))
          → IfErr said (λ (e : E). IsWhyUnattended fits count remaining contents gives options (told e) old new file (left e) beside showed shows)
      untold told left (Ok f) held begun now synced is_whole same stays journal leaves why = tt
      untold told left (Err e) held begun now synced is_whole same stays journal leaves why =
          unended (told e) (left e) (run_left (told e) file begun now synced (left e) book final is_whole (subst (λ (h : Option (List ℕ)). StaysLog h begun book) same (subst (λ (b : Seen). StaysLog held begun b) (sym book_is) stays)) origin journal leaves) why

-- a log was not begun, and its file goes back with what it holds
pub unbegun : (told : Trouble) (start begun : Start) (file now opened holds : Option (List ℕ)) → now ≡ file → IsOpened start begun now opened → IsWhyUnbegun told begun opened holds → IsUnbegun told start file (Some holds)
unbegun told start begun file now opened holds same is why = (begun, opened, holds, subst (λ (f : Option (List ℕ)). IsOpened start begun f opened) same is, refl, why)

-- a log of a run that was begun is the log of what stood before
pub stays_before : (start begun : Start) (file opened new : Option (List ℕ)) (book : Seen) → IsOpened start begun file opened → book ≡ start.book → StaysLog opened new book → StaysLog file new start.book
stays_before start begun file opened new book is same stays = subst (λ (b : Seen). StaysLog file new b) same (told_before start begun file opened _ is stays)

-- what stands beside the log, by another name of the text and of the file
pub stands_at : (before aside : Option (List ℕ)) (text bytes : List ℕ) (found : Beside) → aside ≡ before → bytes ≡ text → StandsBeside before text found → StandsBeside aside bytes found
stands_at before aside text bytes found still same stands =
    subst (λ (b : Option (List ℕ)). StandsBeside b bytes found) (sym still) (subst (λ (t : List ℕ). StandsBeside before t found) (sym same) stands)

pub stands_as : (before : Option (List ℕ)) (text bytes : List ℕ) (found : Beside) → bytes ≡ text → StandsBeside before bytes found → StandsBeside before text found
stands_as before text bytes found same stands = subst (λ (t : List ℕ). StandsBeside before t found) same stands

-- the staff on a grid that lies elsewhere
pub staffed_on : {X : Type 0} (gives : PlannerParts → Result X AllocError → Type 0) (options : ServeOptions) (grid at : Floor) (slots : List ℕ) (earlier : List Entry) (counts : List Count) (planners : List X) (clients : List (Client X)) → grid ≡ at →
    IsStaffed gives options grid slots earlier counts planners clients → IsStaffed gives options at slots earlier counts planners clients
staffed_on gives options grid at slots earlier counts planners clients same staffed = subst (λ (f : Floor). IsStaffed gives options f slots earlier counts planners clients) same staffed

pub opens_as : (before after : Option (List ℕ)) (text bytes : List ℕ) → bytes ≡ text → Opens before after bytes → Opens before after text
opens_as before after text bytes same opens = subst (λ (t : List ℕ). Opens before after t) same opens

-- the log's end was not kept
pub unkept : (fault : KeepFault) (told : Trouble) → told ≡ keep_trouble fault → IsWhyUnkept told
unkept kept.Unkept told is = subst IsWhyUnkept (sym is) tt
unkept kept.NoMemory told is = subst IsWhyUnkept (sym is) tt

-- what holds anyhow holds where the call ended well
pub ok_anyhow : {A E : Type 0} (came : Result A E) (X : Type 0) → X → IfOk came (λ _. X)
ok_anyhow (Ok a) X x = x
ok_anyhow (Err e) X x = tt
