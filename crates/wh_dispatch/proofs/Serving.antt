-- one line that is served
use Rattle.std.proofs.Common.{◌≡◌, ◌≢◌, ◌⊎◌, ℕ, ◌+◌, ◌<◌, ◌∙◌, List, [], ◌∷◌, ◌++◌, length, Option, Some, None, Result, Ok, Err, inl, inr, sym, subst, refl, ap, arith, append-nil, Bool}
use Rattle.std.specs.Prelude.{codes}
use Rattle.std.specs.List.{AllPairs}
use Rattle.std.specs.Io.KnownBytes.{Appends}
use Rattle.std.proofs.KnownBytes.{Appends-nil}
use Rattle.wh_lines.specs.Output.{WritesFront}
use Rattle.wh_grid.specs.Grids.{Floor}
use Rattle.wh_points.specs.Points.{Site}
use Rattle.wh_event.specs.declared.event.Command.{Command}
use Rattle.wh_event.specs.declared.event.Command.TheVariants as commands
use Rattle.wh_event.specs.declared.entry.Entry.{Entry}
use Rattle.wh_replay.specs.declared.asker.Asker.{Asker}
use Rattle.wh_event.specs.declared.fault.LineFault.{LineFault}
use Rattle.wh_core.specs.States.{State}
use Rattle.wh_book.specs.Drafts.{Seen}
use Rattle.wh_token.specs.Runs as runs
use Rattle.wh_log.specs.Told.{told_text}
use Rattle.wh_replay.specs.Answers.{asked, answers, reply_line, text_of}
use Rattle.wh_replay.specs.Scripts.{Gives, Serves as Obeys, ServesUnwritten}
use Rattle.wh_replay.proofs.Giving.{ran_length}
use Rattle.wh_replay.proofs.Serving.{gives_none}
use Rattle.std.proofs.lemmas.List.Elements.{All-nil}
use Rattle.wh_drive.specs.declared.vehicle.Vehicle.{Vehicle}
use Rattle.wh_drive.specs.Drives.{Drive, clock, MayTick, ticked}
use Rattle.wh_drive.specs.Runs.{Event, Run}
use Rattle.wh_order.specs.Orders.{Order, Represents}
use Rattle.wh_order.specs.Settling.{IsQuiet, OnlySettle, told_by, Settles}
use Rattle.wh_order.specs.declared.visit.Told.{Told}
use Rattle.wh_vehicles.specs.Notices.{notice_text}
use Rattle.wh_vehicles.specs.Driving.{AnswersReport, TellsLate}
use Rattle.wh_vehicles.specs.Plans.{Fleet, places, IsCarriedOut, entries_of}
use Rattle.wh_vehicles.specs.Visits.{Visit, HasMade}
use Rattle.wh_vehicles.specs.declared.report.Report.{Report}
use Rattle.wh_vehicles.specs.declared.notice.Notice.{Notice}
use Rattle.wh_vehicles.proofs.Planning.{carried}
use Rattle.wh_dispatch.specs.declared.script.DispatchFault.{DispatchFault}
use Rattle.wh_dispatch.specs.declared.script.DispatchFault.TheVariants.{Unwritten, NoMemory}
use Rattle.wh_dispatch.specs.declared.visits.Pending.{Pending}
use Rattle.wh_dispatch.specs.Crews.{Crew, IsInStep, IsManned, AreWatched}
use Rattle.wh_dispatch.specs.Visiting.{due_visits, left_after, taken_first, added_to, kept_first, SomeStanding}
use Rattle.wh_dispatch.specs.Lines as lines
use Rattle.wh_dispatch.specs.Lines.{Depot, Heard, Reported, Asked, AsksToGoOn, AllKeepUp, gone_on, TakesLine, InTurn, AreMadeNow, go_lines, visit_lines}
use Rattle.wh_dispatch.specs.Scripts.{TellsAll, TellsSome, Serves, Begins, ServesFrom, BeginsFrom, SomeManned, Hears, HearsSome}
use Rattle.wh_dispatch.proofs.Late.{late_one}
use Rattle.wh_dispatch.proofs.Texts.{text_one, all_then, until_then, unwritten}
use Rattle.wh_dispatch.proofs.Happening.{fleet, Leads, go_leads, settle_goes, report_leads, ran_leads, asked_few, happens_join, entries_join, clock_kept}
use Rattle.wh_dispatch.proofs.Steps.{Turns, stays, goes, turns, ticks_now}
use Rattle.wh_core.specs.Laws.{IsTimed}
use Rattle.wh_core.proofs.Sound.{kept-reached, sound-reached}
use Rattle.wh_core.proofs.Work.{IsWorking}
use Rattle.wh_tasks.specs.declared.task.Task.{Task}
use Rattle.wh_tasks.specs.Tasks.{IsTask, visited}
use Rattle.std.proofs.lemmas.Option.{same_Some}
use Rattle.wh_dispatch.proofs.Members.{none_in, pairs_nil}
use Rattle.wh_dispatch.proofs.Watching.{visit, watched_as, made_tells, each_due, due_in_turn, all_due, watched_after, standing}
use Rattle.wh_dispatch.proofs.Staying.{made_stays}
use Rattle.wh_dispatch.proofs.Taking.{takes_ran, before_ran, none_by_tick, watched_on}

-- ---- that the run goes on to be carried out

-- the book has grown by these entries
pub record Grows (old new : Seen) (entries : List Entry) : Type 0 where
  pub site : new.site ≡ old.site
  pub opening : new.opening ≡ old.opening
  pub history : new.history ≡ old.history ++ entries

pub grows_none : (old new : Seen) → new ≡ old → Grows old new []
grows_none old new e = record {
  site = ap (λ (b : Seen). b.site) e;
  opening = ap (λ (b : Seen). b.opening) e;
  history = ap (λ (b : Seen). b.history) e ∙ sym (append-nil old.history);
}

pub leads_join : (site : Site) (old : Fleet) (es : List Entry) (mid : Fleet) (new : Fleet) → Leads site old es mid → Leads site mid [] new → Leads site old es new
leads_join site old es mid new p q = record {
  happenings = p.happenings ++ q.happenings;
  all = happens_join site old p.happenings mid q.happenings new p.all q.all;
  entries_are = entries_join p.happenings q.happenings ∙ ap (λ more. entries_of p.happenings ++ more) q.entries_are ∙ append-nil (entries_of p.happenings) ∙ p.entries_are;
}

pub goes_in_step : (old new : Seen) (o p : Order) (d e : Drive) (entries : List Entry) → IsInStep old o d → Leads old.site (fleet old.state d) entries (fleet new.state e) → Grows old new entries →
    Represents p e → IsInStep new p e
goes_in_step old new o p d e entries r l g rep =
    let at_old : IsCarriedOut old.site (old.history ++ entries_of l.happenings) (fleet new.state e) =
    carried old.site old.history (fleet old.state d) l.happenings (fleet new.state e) r.carried l.all in
    let grown : IsCarriedOut old.site new.history (fleet new.state e) =
    subst (λ es. IsCarriedOut old.site es (fleet new.state e)) (ap (λ es. old.history ++ es) l.entries_are ∙ sym g.history) at_old in
    record {
      represents = rep;
      carried = subst (λ (site : Site). IsCarriedOut site new.history (fleet new.state e)) (sym g.site) grown;
      time = subst (λ (s : State). clock e + s.clock ≡ new.state.clock) (sym g.opening)
          (clock_kept old.site (fleet old.state d) l.happenings (fleet new.state e) old.opening.clock l.all r.represents.sound.plan.some r.time);
    }

-- ---- reports

none_gone : (os : List (Option Entry)) (s : State) (d : Drive) → length os ≡ 0 → gone_on os s d ≡ d
none_gone [] s d e = refl
none_gone (x ∷ os) s d e = absurd (omega (arith, e))

-- what the vehicles are told is what stands in the list, behind the visits that are due
pub tells_all : (book : Seen) (pending left : List Pending) (d : Drive) (o : Order) (told : List Told) (had has : Option (List ℕ)) → (s : Settles d o [] told) → ((e : Drive) → Represents o e → IsQuiet e) →
    left ≡ left_after book.opening.clock book.state.tasks o.vehicles pending →
    Appends had has (text_of (visit_lines (due_visits book.opening.clock book.state.tasks o.vehicles pending) ++ go_lines told)) → TellsAll book pending left d s.end had has
tells_all book pending left d o told had has s quiet are wrote = record {
  events = s.events;
  only = s.only;
  run = s.run;
  quiet = quiet s.end s.represents;
  left_are = are ∙ ap (λ (vs : List Vehicle). left_after book.opening.clock book.state.tasks vs pending) s.represents.vehicles;
  appends = subst (λ (vs : List Vehicle). Appends had has (text_of (visit_lines (due_visits book.opening.clock book.state.tasks vs pending) ++ go_lines (told_by d s.events)))) s.represents.vehicles
      (subst (λ (ts : List Told). Appends had has (text_of (visit_lines (due_visits book.opening.clock book.state.tasks o.vehicles pending) ++ go_lines ts))) s.told_are wrote);
}

pub tells_some : (fault : DispatchFault) (book : Seen) (pending : List Pending) (d : Drive) (o : Order) (told : List Told) (had has : Option (List ℕ)) → (s : Settles d o [] told) → fault ≡ Unwritten →
    WritesFront had has (text_of (visit_lines (due_visits book.opening.clock book.state.tasks o.vehicles pending) ++ go_lines told)) → TellsSome fault book pending d s.end had has
tells_some fault book pending d o told had has s is w = record {
  events = s.events;
  only = s.only;
  run = s.run;
  visits = due_visits book.opening.clock book.state.tasks s.end.vehicles pending;
  visits_are = inr refl;
  writes = unwritten fault had has (text_of (visit_lines (due_visits book.opening.clock book.state.tasks s.end.vehicles pending) ++ go_lines (told_by d s.events))) is
      (subst (λ (vs : List Vehicle). WritesFront had has (text_of (visit_lines (due_visits book.opening.clock book.state.tasks vs pending) ++ go_lines (told_by d s.events)))) s.represents.vehicles
      (subst (λ (ts : List Told). WritesFront had has (text_of (visit_lines (due_visits book.opening.clock book.state.tasks o.vehicles pending) ++ go_lines ts))) s.told_are w));
}

pub tells_none : (book : Seen) (pending : List Pending) (d : Drive) (had : Option (List ℕ)) → TellsSome NoMemory book pending d d had had
tells_none book pending d had = record { events = []; only = tt; run = refl; visits = []; visits_are = inl refl; writes = Appends-nil had }

-- ---- a line

module _ {X : Type 0} (fits : X → Floor → Bool) (count : X → ℕ) (asker : Asker) (bound : ℕ) where
  abbrev depot : Seen → List X → Drive → Depot X
  depot book spares d = record { book = book; spares = spares; drive = d }

  -- what a line does leads there, and the book grows by its entries
  pub record Did (old new : Depot X) : Type 0 where
    pub entries : List Entry
    pub leads : Leads old.book.site (fleet old.book.state old.drive) entries (fleet new.book.state new.drive)
    pub grows : Grows old.book new.book entries

  answered : (line : Heard) (old mid : Depot X) (replies : List (List ℕ)) → lines.Answers fits count asker bound line old mid replies → Did old mid
  answered (Reported report) old mid replies a = record {
    entries = [];
    leads = subst (λ (b : Seen). Leads old.book.site (fleet old.book.state old.drive) [] (fleet b.state mid.drive)) (sym a.book)
        (report_leads old.book.site old.book.state old.drive report a.notice mid.drive a.answers);
    grows = grows_none old.book mid.book a.book;
  }
  answered (Asked kind) old mid replies (inl held) = record {
    entries = [];
    leads = subst (λ (x : Depot X). Leads old.book.site (fleet old.book.state old.drive) [] (fleet x.book.state x.drive)) (sym held.same)
        (go_leads old.book.site old.book.state old.drive [] old.drive tt refl);
    grows = grows_none old.book mid.book (ap (λ (x : Depot X). x.book) held.same);
  }
  answered (Asked kind) old mid replies (inr done) =
      let g = done.gives in
      record {
        entries = runs.entries_of g.outcomes;
        leads = subst (λ (e : Drive). Leads old.book.site (fleet old.book.state old.drive) (runs.entries_of g.outcomes) (fleet mid.book.state e)) (sym done.drive)
            (ran_leads fits count asker.caller old.book.site (asked kind) g.outcomes old.book.state old.spares mid.book.state mid.spares old.drive (asked_few kind) g.ran);
        grows = record { site = g.site; opening = g.opening; history = g.history };
      }

  pub taken_on : (line : Heard) (old new : Depot X) (texts : List (List ℕ)) → TakesLine fits count asker bound line old new texts → Did old new
  taken_on line old new texts t =
      let a = answered line old t.mid t.replies t.answers in
      let on : Leads old.book.site (fleet t.mid.book.state t.mid.drive) [] (fleet t.mid.book.state new.drive) =
      go_leads old.book.site t.mid.book.state t.mid.drive t.events new.drive (settle_goes t.mid.drive t.events t.only) t.run in
      let here : Leads old.book.site (fleet t.mid.book.state t.mid.drive) [] (fleet new.book.state new.drive) =
      subst (λ (b : Seen). Leads old.book.site (fleet t.mid.book.state t.mid.drive) [] (fleet b.state new.drive)) (sym t.book) on in
      record {
        entries = a.entries;
        leads = leads_join old.book.site (fleet old.book.state old.drive) a.entries (fleet t.mid.book.state t.mid.drive) (fleet new.book.state new.drive) a.leads here;
        grows = subst (λ (b : Seen). Grows old.book b a.entries) (sym t.book) a.grows;
      }

  no_visits : (old new : Depot X) → AreMadeNow old new []
  no_visits old new = record { each = λ v c. absurd (none_in v c); in_turn = pairs_nil InTurn }

  -- the line is answered, and then vehicles go on
  takes : (line : Heard) (old : Depot X) (mid : Depot X) (e : Drive) (replies : List (List ℕ)) (events : List Event) (visits : List Visit) → lines.Answers fits count asker bound line old mid replies →
      OnlySettle mid.drive events → Run mid.drive events e → AreMadeNow old (depot mid.book mid.spares e) visits →
      TakesLine fits count asker bound line old (depot mid.book mid.spares e) (replies ++ (visit_lines visits ++ go_lines (told_by mid.drive events)))
  takes line old mid e replies events visits answers only run made =
      record { mid = mid; replies = replies; answers = answers; events = events; only = only; run = run; book = refl; spares = refl; visits = visits; made = made; texts_are = refl }

  -- the line is answered, and nothing more is done
  takes_still : (line : Heard) (old : Depot X) (mid : Depot X) (replies : List (List ℕ)) → lines.Answers fits count asker bound line old mid replies →
      TakesLine fits count asker bound line old mid replies
  takes_still line old mid replies answers =
      record { mid = mid; replies = replies; answers = answers; events = []; only = tt; run = refl; book = refl; spares = refl; visits = []; made = no_visits old mid; texts_are = sym (append-nil replies) }

  module _ (line : Heard) (old : Seen) (spares : List X) (o : Crew) (new : Seen) (rest : List X) (d : Drive) (m : IsManned old o d) where
    abbrev Before : Visit → Type 0
    Before v = HasMade old.opening.clock (fleet old.state d) v

    -- all that follows from what a line did
    record Follows (e : Drive) : Type 0 where
      pub opens : new.opening ≡ old.opening
      pub stays : (v : Visit) → Before v → HasMade old.opening.clock (fleet new.state e) v
      pub timed : (n : ℕ) (task : Task) → IsTask new.state.tasks n task → IsTimed new.state.clock task
      pub working : IsWorking new.state
      pub all : length e.vehicles ≡ length new.state.paths
      pub step : (p : Order) → Represents p e → IsInStep new p e

    follows : (e : Drive) → Did (depot old spares d) (depot new rest e) → Follows e
    follows e did =
        let at : IsCarriedOut old.site (old.history ++ entries_of did.leads.happenings) (fleet new.state e) =
        carried old.site old.history (fleet old.state d) did.leads.happenings (fleet new.state e) m.in_step.carried did.leads.all in
        record {
          opens = did.grows.opening;
          stays = λ v. made_stays old.opening.clock old.site (fleet old.state d) did.leads.happenings (fleet new.state e) v did.leads.all;
          timed = λ n task is. ((sound-reached old.site (old.history ++ entries_of did.leads.happenings) new.state at.state).tasks n task is).timed;
          working = (kept-reached old.site (old.history ++ entries_of did.leads.happenings) new.state at.state).working;
          all = at.come.all;
          step = λ p rep. goes_in_step old new o.order p d e did.entries m.in_step did.leads did.grows rep;
        }

    module _ (p : Crew) where
      -- served, with vehicles that go on
      pub serves_on : (pending : List Pending) (mid : Drive) (e : Drive) (replies : List (List ℕ)) (a b c : Option (List ℕ)) →
          lines.Answers fits count asker bound line (depot old spares d) (depot new rest mid) replies → AreWatched new.state Before pending →
          Represents p.order e → Appends a b (text_of replies) → TellsAll new pending p.pending mid e b c →
          (f : Drive) × IsManned new p f × Serves fits count asker bound line (depot old spares d) (depot new rest f) a c
      unfolding takes
      serves_on pending mid e replies a b c answers watched rep wrote t =
          let opens : new.opening.clock ≡ old.opening.clock = ap (λ (s : State). s.clock) (answered line (depot old spares d) (depot new rest mid) replies answers).grows.opening in
          let visits = due_visits old.opening.clock new.state.tasks e.vehicles pending in
          let made : AreMadeNow (depot old spares d) (depot new rest e) visits = record {
            each = λ v c. (let due = each_due old.opening.clock new.state e Before pending watched v c in record { made = due.0; not_before = due.1 });
            in_turn = due_in_turn old.opening.clock new.state e Before pending watched;
          } in
          let took = takes line (depot old spares d) (depot new rest mid) e replies t.events visits answers t.only t.run made in
          let texts = replies ++ (visit_lines visits ++ go_lines (told_by mid t.events)) in
          let f = follows e (taken_on line (depot old spares d) (depot new rest e) texts took) in
          let few = f.working.few in
          let after : AreWatched new.state (HasMade old.opening.clock (fleet new.state e)) (left_after old.opening.clock new.state.tasks e.vehicles pending) =
          watched_after old.opening.clock new.state e Before pending watched new.state.clock f.timed few f.stays in
          let left : p.pending ≡ left_after old.opening.clock new.state.tasks e.vehicles pending =
          t.left_are ∙ ap (λ n. left_after n new.state.tasks e.vehicles pending) opens in
          let appends = subst (λ n. Appends b c (text_of (visit_lines (due_visits n new.state.tasks e.vehicles pending) ++ go_lines (told_by mid t.events)))) opens t.appends in (
            e,
            record {
              in_step = f.step p.order rep;
              quiet = t.quiet;
              watched = subst (λ n. AreWatched new.state (HasMade n (fleet new.state e)) p.pending) (sym opens)
                  (subst (λ (ps : List Pending). AreWatched new.state (HasMade old.opening.clock (fleet new.state e)) ps) (sym left) after);
            },
            record {
              texts = texts;
              serves = record { takes = took; quiet = t.quiet; all = all_due old.opening.clock new.state e Before pending watched new.state.clock f.timed few f.stays };
              appends = all_then a b c replies (visit_lines visits ++ go_lines (told_by mid t.events)) wrote appends;
            },
          )

      -- served, with vehicles that stay, and no visit made
      pub serves_still : (e : Drive) (replies : List (List ℕ)) (a b : Option (List ℕ)) → lines.Answers fits count asker bound line (depot old spares d) (depot new rest e) replies → e ≡ d →
          Represents p.order d → AreWatched new.state Before p.pending → ((v : Visit) → HasMade old.opening.clock (fleet new.state e) v → Before v) → Appends a b (text_of replies) →
          (f : Drive) × IsManned new p f × Serves fits count asker bound line (depot old spares d) (depot new rest f) a b
      serves_still e replies a b answers same rep watched none wrote =
          let took = takes_still line (depot old spares d) (depot new rest e) replies answers in
          let f = follows e (taken_on line (depot old spares d) (depot new rest e) replies took) in
          let quiet = subst (λ (f : Drive). IsQuiet f) (sym same) m.quiet in (
            e,
            record {
              in_step = f.step p.order (subst (λ (f : Drive). Represents p.order f) (sym same) rep);
              quiet = quiet;
              watched = subst (λ (s : State). AreWatched new.state (HasMade s.clock (fleet new.state e)) p.pending) (sym f.opens)
                  (watched_as new.state Before (HasMade old.opening.clock (fleet new.state e)) p.pending f.stays none watched);
            },
            record { texts = replies; serves = record { takes = took; quiet = quiet; all = λ v made. inl (none v made) }; appends = wrote },
          )

    -- begun, with vehicles that go on
    pub begins_on : (pending : List Pending) (fault : DispatchFault) (mid : Drive) (e : Drive) (replies : List (List ℕ)) (a b c : Option (List ℕ)) →
        lines.Answers fits count asker bound line (depot old spares d) (depot new rest mid) replies → AreWatched new.state Before pending → Appends a b (text_of replies) →
        TellsSome fault new pending mid e b c → (f : Drive) × Begins fits count asker bound fault line (depot old spares d) (depot new rest f) a c
    begins_on pending fault mid e replies a b c answers watched wrote t =
        let opens : new.opening.clock ≡ old.opening.clock = ap (λ (s : State). s.clock) (answered line (depot old spares d) (depot new rest mid) replies answers).grows.opening in
        let made : AreMadeNow (depot old spares d) (depot new rest e) t.visits = elim t.visits_are [
          | inl none ↦ subst (λ (vs : List Visit). AreMadeNow (depot old spares d) (depot new rest e) vs) (sym none) (no_visits (depot old spares d) (depot new rest e))
          | inr due ↦ subst (λ (vs : List Visit). AreMadeNow (depot old spares d) (depot new rest e) vs) (sym (due ∙ ap (λ n. due_visits n new.state.tasks e.vehicles pending) opens)) (record {
            each = λ v c. (let due = each_due old.opening.clock new.state e Before pending watched v c in record { made = due.0; not_before = due.1 });
            in_turn = due_in_turn old.opening.clock new.state e Before pending watched;
          })
        ] in (
          e,
          record {
            texts = replies ++ (visit_lines t.visits ++ go_lines (told_by mid t.events));
            takes = takes line (depot old spares d) (depot new rest mid) e replies t.events t.visits answers t.only t.run made;
            writes = until_then fault a b c replies (visit_lines t.visits ++ go_lines (told_by mid t.events)) wrote t.writes;
          },
        )

    -- begun, and its reply was not written to the end
    pub begins_still : (fault : DispatchFault) (e : Drive) (replies : List (List ℕ)) (a b : Option (List ℕ)) →
        lines.Answers fits count asker bound line (depot old spares d) (depot new rest e) replies → fault ≡ Unwritten → WritesFront a b (text_of replies) →
        (f : Drive) × Begins fits count asker bound fault line (depot old spares d) (depot new rest f) a b
    begins_still fault e replies a b answers is w = (
      e,
      record {
        texts = replies;
        takes = takes_still line (depot old spares d) (depot new rest e) replies answers;
        writes = unwritten fault a b (text_of replies) is w;
      },
    )

    -- the tasks that are kept stand
    pub stand_on : (q : Crew) (mid : Drive) (replies : List (List ℕ)) → lines.Answers fits count asker bound line (depot old spares d) (depot new rest mid) replies → AreWatched new.state Before q.pending →
        Represents q.order mid → SomeStanding new q
    stand_on q mid replies answers watched rep =
        let f = follows mid (answered line (depot old spares d) (depot new rest mid) replies answers) in
        record { drive = mid; represents = rep; stand = standing old.opening.clock new.state mid Before q.pending watched (length mid.vehicles) f.all f.working f.stays }

  -- ---- the calls

  -- room that is made changes nothing else
  pub manned_ready : (book : Seen) (o p : Crew) (ready : Bool) → p.order ≡ record o.order { ready = ready } → p.pending ≡ o.pending → (d : Drive) → IsManned book o d → IsManned book p d
  manned_ready book o p ready is kept d m = (let r = m.in_step.represents in record {
    in_step = record {
      represents = subst (λ (q : Order). Represents q d) (sym is)
          (record { sound = r.sound; ahead = r.ahead; time = r.time; vehicles = r.vehicles; left = r.left; steps = r.steps; latest = r.latest });
      carried = m.in_step.carried;
      time = m.in_step.time;
    };
    quiet = m.quiet;
    watched = subst (λ (ps : List Pending). AreWatched book.state (HasMade book.opening.clock (fleet book.state d)) ps) (sym kept) m.watched;
  })

  -- no visit was told of a task that nobody has
  open_untold : (book : Seen) (d : Drive) (n : ℕ) (task : Task) → IsTask book.state.tasks n task → task.agent ≡ None → (agent number : ℕ) → ¬ HasMade book.opening.clock (fleet book.state d) (visit agent n number)
  open_untold book d n task is is_open agent number m =
      let same : m.task ≡ task = same_Some m.task task (sym m.is_task ∙ is) in
      let clash : Some agent ≡ None = sym m.agent_is ∙ ap (λ (t : Task). t.agent) same ∙ is_open in
      cc

  -- and of one that somebody has those that it has
  made_within : (book : Seen) (d : Drive) (n agent number : ℕ) (task : Task) → IsTask book.state.tasks n task → HasMade book.opening.clock (fleet book.state d) (visit agent n number) → number < visited task
  made_within book d n agent number task is m = (made_tells book.opening.clock book.state d (visit agent n number) task m is).within

  module _ (c : Command) (old : Seen) (spares : List X) (o : Crew) where
    abbrev line_of : Heard
    line_of = Asked (Ok (Some c))

    module _ (new : Seen) (rest : List X) (a b : Option (List ℕ)) where
      -- the command ran, and the drive of the vehicles went on with it
      obeyed : (d e : Drive) (replies : List (List ℕ)) → (AsksToGoOn old.state (Ok (Some c)) → AllKeepUp d bound) →
          (g : Gives fits count asker.caller (c ∷ []) (answers (told_text asker.form) (Ok (Some c))) old spares new rest replies) → e ≡ gone_on g.outcomes new.state d →
          lines.Answers fits count asker bound line_of (depot old spares d) (depot new rest e) replies
      obeyed d e replies in_time g is = inr (record { in_time = in_time; gives = g; drive = is })

      -- those that were kept and the one that was taken are kept
      watched_by : (replies : List (List ℕ)) (g : Gives fits count asker.caller (c ∷ []) (answers (told_text asker.form) (Ok (Some c))) old spares new rest replies) (d : Drive) → IsManned old o d →
          AreWatched new.state (HasMade old.opening.clock (fleet old.state d)) (o.pending ++ kept_first o.pending (runs.entries_of g.outcomes) new.state.tasks)
      watched_by replies g d m =
          watched_on old.state new.state (HasMade old.opening.clock (fleet old.state d)) o.pending (kept_first o.pending (runs.entries_of g.outcomes) new.state.tasks) m.watched
          (takes_ran old.site old.state (HasMade old.opening.clock (fleet old.state d)) o.pending m.watched (made_within old d) fits count asker.caller c g.outcomes spares new.state rest g.ran) (open_untold old d)

      -- its reply was not written to the end
      pub from_unwritten : ((d : Drive) → IsManned old o d → AsksToGoOn old.state (Ok (Some c)) → AllKeepUp d bound) →
          ServesUnwritten fits count asker (Ok (Some c)) old spares new rest a b → BeginsFrom fits count asker bound line_of Unwritten old spares o new rest a b
      from_unwritten in_time s d m =
          let e = gone_on s.gives.outcomes new.state d in
          begins_still line_of old spares o new rest d m Unwritten e s.replies a b (obeyed d e s.replies (in_time d m) s.gives refl) refl s.writes

      module _ (n : ℕ) (in_time : (d : Drive) → IsManned old o d → AsksToGoOn old.state (Ok (Some c)) → AllKeepUp d bound)
          (s : Obeys fits count asker (Ok (Some c)) old spares new rest a b n) where
        -- where the clock stays, so do the vehicles
        abbrev Stays : Type 0
        Stays = new.state.clock ≡ old.state.clock ⊎ (¬ AsksToGoOn old.state (Ok (Some c)))

        stays_by : {after : Drive → Drive} → Turns old.site old.state c new.state after → Stays → (new.state.clock ≡ old.state.clock) × ((d : Drive) → after d ≡ d)
        stays_by (stays same none) still = (same, none)
        stays_by (goes later is asks entry step) (inl clock) = absurd (omega arith)
        stays_by (goes later is asks entry step) (inr not) = absurd (not asks)

        stays_here : Stays → (new.state.clock ≡ old.state.clock) × ((d : Drive) → gone_on s.gives.outcomes new.state d ≡ d)
        stays_here still = stays_by (turns fits count asker.caller old.site c s.gives.outcomes old.state spares new.state rest s.gives.ran) still

        -- the clock stays, and no task is taken
        pub from_still : (p : Crew) → p.order ≡ o.order → p.pending ≡ o.pending → taken_first (runs.entries_of s.gives.outcomes) new.state.tasks ≡ None → Stays →
            ServesFrom fits count asker bound line_of old spares o new rest p a b
        from_still p same kept none still d m =
            let e = gone_on s.gives.outcomes new.state d in
            let there = stays_here still in
            let here : e ≡ d = there.1 d in
            let before = before_ran fits count asker.caller old.site c s.gives.outcomes old.state spares new.state rest s.gives.ran there.0 none in
            let pending : o.pending ++ kept_first o.pending (runs.entries_of s.gives.outcomes) new.state.tasks ≡ p.pending =
            ap (λ (x : Option Pending). o.pending ++ added_to o.pending x) none ∙ append-nil o.pending ∙ sym kept in
            serves_still line_of old spares o new rest d m p e s.replies a b (obeyed d e s.replies (in_time d m) s.gives refl) here
            (subst (λ (q : Order). Represents q d) (sym same) m.in_step.represents)
            (subst (λ (ps : List Pending). AreWatched new.state (HasMade old.opening.clock (fleet old.state d)) ps) pending (watched_by s.replies s.gives d m))
            (λ v made. (let now = subst (λ (f : Drive). HasMade old.opening.clock (fleet new.state f) v) here made in
            record { task = now.task; is_task = before v.task v.agent now.task now.is_task now.agent_is; agent_is = now.agent_is; made = now.made }))
            s.appends

        module _ (q : Crew) (kept : q.pending ≡ o.pending ++ kept_first o.pending (runs.entries_of s.gives.outcomes) new.state.tasks)
            (rep : (d : Drive) → IsManned old o d → Represents q.order (gone_on s.gives.outcomes new.state d)) where
          watched_here : (d : Drive) → IsManned old o d → AreWatched new.state (HasMade old.opening.clock (fleet old.state d)) q.pending
          watched_here d m = subst (λ (ps : List Pending). AreWatched new.state (HasMade old.opening.clock (fleet old.state d)) ps) (sym kept) (watched_by s.replies s.gives d m)

          -- the vehicles go on behind it
          pub from_gone : (p : Crew) (f : Option (List ℕ)) → ((d : Drive) → Represents q.order d → (e : Drive) × Represents p.order e × TellsAll new q.pending p.pending d e b f) →
              ServesFrom fits count asker bound line_of old spares o new rest p a f
          from_gone p f go d m =
              let mid = gone_on s.gives.outcomes new.state d in
              let on = go mid (rep d m) in
              serves_on line_of old spares o new rest d m p q.pending mid on.0 s.replies a b f (obeyed d mid s.replies (in_time d m) s.gives refl) (watched_here d m) on.1 s.appends on.2

          pub from_gone_some : (fault : DispatchFault) (f : Option (List ℕ)) → ((d : Drive) → Represents q.order d → (e : Drive) × TellsSome fault new q.pending d e b f) →
              BeginsFrom fits count asker bound line_of fault old spares o new rest a f
          from_gone_some fault f go d m =
              let mid = gone_on s.gives.outcomes new.state d in
              let on = go mid (rep d m) in
              begins_on line_of old spares o new rest d m q.pending fault mid on.0 s.replies a b f (obeyed d mid s.replies (in_time d m) s.gives refl) (watched_here d m) s.appends on.1

          pub stand_gone : SomeManned old o → SomeStanding new q
          stand_gone some =
              let d = some.0 in
              let mid = gone_on s.gives.outcomes new.state d in
              stand_on line_of old spares o new rest d some.1 q mid s.replies (obeyed d mid s.replies (in_time d some.1) s.gives refl) (watched_here d some.1) (rep d some.1)

        -- a task was taken, or none
        pub still_rep : (q : Crew) → q.order ≡ o.order → Stays → (d : Drive) → IsManned old o d → Represents q.order (gone_on s.gives.outcomes new.state d)
        still_rep q same still d m =
            subst (λ (e : Drive). Represents q.order e) (sym ((stays_here still).1 d)) (subst (λ (r : Order). Represents r d) (sym same) m.in_step.represents)

        -- a tick takes none
        pub none_asked : AsksToGoOn old.state (Ok (Some c)) → taken_first (runs.entries_of s.gives.outcomes) new.state.tasks ≡ None
        none_asked asks = none_by_tick fits count asker.caller old.site c s.gives.outcomes old.state spares new.state rest s.gives.ran
            (same_Some c commands.Tick (ap (λ (r : Result (Option Command) LineFault). value_of r) asks.tick))
          where
            value_of : Result (Option Command) LineFault → Option Command
            value_of (Ok x) = x
            value_of (Err fault) = None

        module _ (q : Crew) (same : q.pending ≡ o.pending) (asks : AsksToGoOn old.state (Ok (Some c))) (moved : new.state.clock ≢ old.state.clock)
            (tick : (d : Drive) → Represents o.order d → MayTick d (places new.state) → Represents q.order (ticked (places new.state) d)) where
          pub ticked_kept : q.pending ≡ o.pending ++ kept_first o.pending (runs.entries_of s.gives.outcomes) new.state.tasks
          ticked_kept = same ∙ sym (append-nil o.pending) ∙ ap (λ (x : Option Pending). o.pending ++ added_to o.pending x) (sym (none_asked asks))

          pub ticked_rep : (d : Drive) → IsManned old o d → Represents q.order (gone_on s.gives.outcomes new.state d)
          ticked_rep d m =
              let t = ticks_now old o d new.state c (gone_on s.gives.outcomes new.state) m (turns fits count asker.caller old.site c s.gives.outcomes old.state spares new.state rest s.gives.ran) moved in
              subst (λ (e : Drive). Represents q.order e) (sym t.is) (tick d m.in_step.represents t.may)

    module _ (a b : Option (List ℕ)) where
      -- the clock waits for a vehicle
      held_up : (d : Drive) (notice : Notice) → IsManned old o d → AsksToGoOn old.state (Ok (Some c)) → TellsLate o.order bound notice →
          lines.Answers fits count asker bound line_of (depot old spares d) (depot old spares d) (notice_text notice ∷ [])
      held_up d notice m asks late =
          let l = late_one o.order bound notice d m.in_step.represents late in
          inl (record { asks = asks; agent = l.0; last = l.1; late = l.2; same = refl; replies_are = ap (λ (n : Notice). notice_text n ∷ []) l.3 })

      pub from_held : (notice : Notice) → AsksToGoOn old.state (Ok (Some c)) → TellsLate o.order bound notice → Appends a b (reply_line (notice_text notice)) →
          ServesFrom fits count asker bound line_of old spares o old spares o a b
      from_held notice asks late wrote d m =
          serves_still line_of old spares o old spares d m o d (notice_text notice ∷ []) a b (held_up d notice m asks late) refl m.in_step.represents m.watched (λ v made. made)
          (subst (Appends a b) (text_one (notice_text notice)) wrote)

      pub from_held_some : (notice : Notice) (fault : DispatchFault) → AsksToGoOn old.state (Ok (Some c)) → TellsLate o.order bound notice → fault ≡ Unwritten →
          WritesFront a b (reply_line (notice_text notice)) → BeginsFrom fits count asker bound line_of fault old spares o old spares a b
      from_held_some notice fault asks late is w d m =
          begins_still line_of old spares o old spares d m fault d (notice_text notice ∷ []) a b (held_up d notice m asks late) is
          (subst (WritesFront a b) (text_one (notice_text notice)) w)

      module _ (in_time : (d : Drive) → IsManned old o d → AsksToGoOn old.state (Ok (Some c)) → AllKeepUp d bound) where
        -- memory runs out for a tick of the plan, or for a task that is taken
        starved : (d : Drive) → IsManned old o d → lines.Answers fits count asker bound line_of (depot old spares d) (depot old spares d) (codes "refused E90" ∷ [])
        starved d m = inr (record {
          in_time = in_time d m;
          gives = record {
            outcomes = None ∷ [];
            replies_are = refl;
            ran = (old.state, spares, (refl, refl), (refl, refl));
            history = sym (append-nil old.history);
            run = refl;
            served = λ formed. All-nil _;
            site = refl;
            opening = refl;
          };
          drive = refl;
        })

        pub from_starved : (p : Crew) → ((d : Drive) → IsManned old o d → IsManned old p d) → Appends a b (reply_line (codes "refused E90")) → ServesFrom fits count asker bound line_of old spares o old spares p a b
        from_starved p manned wrote d m =
            serves_still line_of old spares o old spares d m p d (codes "refused E90" ∷ []) a b (starved d m) refl (manned d m).in_step.represents (manned d m).watched (λ v made. made)
            (subst (Appends a b) (text_one (codes "refused E90")) wrote)

        pub from_starved_some : (fault : DispatchFault) → fault ≡ Unwritten → WritesFront a b (reply_line (codes "refused E90")) →
            BeginsFrom fits count asker bound line_of fault old spares o old spares a b
        from_starved_some fault is w d m =
            begins_still line_of old spares o old spares d m fault d (codes "refused E90" ∷ []) a b (starved d m) is
            (subst (WritesFront a b) (text_one (codes "refused E90")) w)

  -- a line that is no command, or asks for nothing
  module _ (kind here : Result (Option Command) LineFault) (old : Seen) (spares : List X) (o : Crew) (a b : Option (List ℕ)) (none : asked here ≡ []) (says : kind ≡ here)
      (no_tick : here ≢ Ok (Some commands.Tick)) where
    answered_none : (d : Drive) → lines.Answers fits count asker bound (Asked kind) (depot old spares d) (depot old spares d) (answers (told_text asker.form) here [])
    answered_none d =
        let g = gives_none fits count asker kind old spares here none says in
        let many = ran_length fits count old.site asker.caller (asked kind) g.outcomes old.state spares old.state spares g.ran in
        let zero : length g.outcomes ≡ 0 = many ∙ ap (λ (k : Result (Option Command) LineFault). length (asked k)) says ∙ ap length none in
        inr (record {
          in_time = λ asks. absurd (no_tick (sym says ∙ asks.tick));
          gives = g;
          drive = sym (none_gone g.outcomes old.state d zero);
        })

    pub from_none : Appends a b (text_of (answers (told_text asker.form) here [])) → ServesFrom fits count asker bound (Asked kind) old spares o old spares o a b
    from_none wrote d m =
        serves_still (Asked kind) old spares o old spares d m o d (answers (told_text asker.form) here []) a b (answered_none d) refl m.in_step.represents m.watched (λ v made. made) wrote

    pub from_none_some : (fault : DispatchFault) → fault ≡ Unwritten → WritesFront a b (text_of (answers (told_text asker.form) here [])) →
        BeginsFrom fits count asker bound (Asked kind) fault old spares o old spares a b
    from_none_some fault is w d m =
        begins_still (Asked kind) old spares o old spares d m fault d (answers (told_text asker.form) here []) a b (answered_none d) is w

  -- a report
  module _ (report : Report) (old : Seen) (spares : List X) (o : Crew) (a b : Option (List ℕ)) where
    heard_of : (d mid : Drive) (notice : Notice) → AnswersReport d report notice mid → lines.Answers fits count asker bound (Reported report) (depot old spares d) (depot old spares mid) (notice_text notice ∷ [])
    heard_of d mid notice answers = record { notice = notice; answers = answers; book = refl; spares = refl; replies_are = refl }

    pub from_report : (p : Crew) → ((d : Drive) → Represents o.order d → (e : Drive) × Represents p.order e × Hears report old o.pending p.pending d e a b) →
        ServesFrom fits count asker bound (Reported report) old spares o old spares p a b
    from_report p hear d m =
        let on = hear d m.in_step.represents in
        let h = on.2 in
        serves_on (Reported report) old spares o old spares d m p o.pending h.mid on.0 (notice_text h.notice ∷ []) a h.between b (heard_of d h.mid h.notice h.answers) m.watched on.1
        (subst (Appends a h.between) (text_one (notice_text h.notice)) h.wrote) h.tells

    pub from_report_some : (fault : DispatchFault) → ((d : Drive) → Represents o.order d → (e : Drive) × HearsSome fault report old o.pending d e a b) →
        BeginsFrom fits count asker bound (Reported report) fault old spares o old spares a b
    from_report_some fault hear d m =
        let on = hear d m.in_step.represents in
        let h = on.1 in
        elim h.some [
          | inl cut ↦ begins_still (Reported report) old spares o old spares d m fault h.mid (notice_text h.notice ∷ []) a b (heard_of d h.mid h.notice h.answers) cut.0
              (subst (WritesFront a b) (text_one (notice_text h.notice)) cut.2)
          | inr tells ↦ begins_on (Reported report) old spares o old spares d m o.pending fault h.mid on.0 (notice_text h.notice ∷ []) a tells.0 b (heard_of d h.mid h.notice h.answers) m.watched
              (subst (Appends a tells.0) (text_one (notice_text h.notice)) tells.1) tells.2
        ]

  -- what a line says, by another name
  pub served_as : (x y : Heard) (old : Seen) (spares : List X) (o : Crew) (new : Seen) (rest : List X) (p : Crew) (a b : Option (List ℕ)) → x ≡ y →
      ServesFrom fits count asker bound y old spares o new rest p a b → ServesFrom fits count asker bound x old spares o new rest p a b
  served_as x y old spares o new rest p a b e s = subst (λ (z : Heard). ServesFrom fits count asker bound z old spares o new rest p a b) (sym e) s

  pub begun_as : (x y : Heard) (fault : DispatchFault) (old : Seen) (spares : List X) (o : Crew) (new : Seen) (rest : List X) (a b : Option (List ℕ)) → x ≡ y →
      BeginsFrom fits count asker bound y fault old spares o new rest a b → BeginsFrom fits count asker bound x fault old spares o new rest a b
  begun_as x y fault old spares o new rest a b e s = subst (λ (z : Heard). BeginsFrom fits count asker bound z fault old spares o new rest a b) (sym e) s

  -- room was made before
  pub from_reserved : (line : Heard) (n : ℕ) (old : Seen) (spares : List X) (o ready : Crew) (new : Seen) (rest : List X) (p : Crew) (a b : Option (List ℕ)) → n ≡ bound →
      ((d : Drive) → IsManned old o d → IsManned old ready d) → ServesFrom fits count asker n line old spares ready new rest p a b → ServesFrom fits count asker bound line old spares o new rest p a b
  from_reserved line n old spares o ready new rest p a b same manned s d m =
      subst (λ k. ServesFrom fits count asker k line old spares ready new rest p a b) same s d (manned d m)

  pub begun_reserved : (line : Heard) (fault : DispatchFault) (n : ℕ) (old : Seen) (spares : List X) (o ready : Crew) (new : Seen) (rest : List X) (a b : Option (List ℕ)) → n ≡ bound →
      ((d : Drive) → IsManned old o d → IsManned old ready d) → BeginsFrom fits count asker n line fault old spares ready new rest a b → BeginsFrom fits count asker bound line fault old spares o new rest a b
  begun_reserved line fault n old spares o ready new rest a b same manned s d m =
      subst (λ k. BeginsFrom fits count asker k line fault old spares ready new rest a b) same s d (manned d m)

  pub differ_now : (c : Command) (old : Seen) (spares : List X) (o : Crew) (new : Seen) (rest : List X) (a b : Option (List ℕ)) (n : ℕ) → SomeManned old o →
      Obeys fits count asker (Ok (Some c)) old spares new rest a b n → new.state.clock ≢ old.state.clock → AllPairs (λ x y. x ≢ y) (places new.state)
  differ_now c old spares o new rest a b n m s moved =
      (ticks_now old o m.0 new.state c (gone_on s.gives.outcomes new.state) m.1 (turns fits count asker.caller old.site c s.gives.outcomes old.state spares new.state rest s.gives.ran) moved).may.differ
