use Rattle.wh_core.proofs.Sound.{ways-opening}
use Rattle.wh_core.specs.Laws.{AllOnTheirWays}
use Rattle.std.proofs.Common.{◌∙◌, inl, inr, refl, subst, sym}
use Rattle.std.specs.Io.KnownBytes.{Appends}
use Rattle.std.proofs.KnownBytes.{Keeps-refl}
use Rattle.wh_points.specs.Formed.{IsFormed}
use Rattle.wh_core.specs.Steps.{Run}
use Rattle.wh_judge.specs.Drafts.{AllServed, Seen}
use Rattle.wh_replay.specs.Scripts.{script_asker}
use Rattle.wh_drive.specs.Drives as drives
use Rattle.wh_vehicles.specs.Plans.{places}
use Rattle.wh_dispatch.specs.Crews.{Crew, IsManned}
use Rattle.wh_service.specs.Tails.{IsWhyNoTail, tail_after}
use Rattle.wh_service.proofs.Drove.{driven, still_opening, stopped}
use Rattle.wh_service.proofs.Playing.{opened_with}
use Rattle.wh_service.proofs.vehicles.play_late.Goals as goal

pub returns-in-Err-clause-fault : goal.returns-in-Err-clause-fault
returns-in-Err-clause-fault g c = inl (refl, refl, Keeps-refl _)

pub returns-in-Err-dispatch-clause-fault : goal.returns-in-Err-dispatch-clause-fault
returns-in-Err-dispatch-clause-fault g c =
    let book : Seen = c.in-Ok.warehouse.book in
    let crew : Crew = c.in-Ok-open.vehicles in
    let m = subst (λ n. IsManned book crew (drives.opened book.site.layout.nofollow n (places book.state))) c.from-ahead.ensures c.in-Ok-open.ensures.manned in
    let s = stopped g.P.Plans.fits_map g.P.Plans.slot_count (script_asker c.args.form) c.args.pace.behind c.args.pace.ahead crew.bound c.args.lines.now c.dispatch.new.lines book c.args.spares.items crew
    c.dispatch.new.warehouse.book c.dispatch.new.spares.items (g.W.Write.contents c.args.output.now) (g.W.Write.contents c.dispatch.new.writer)
    (c.in-Ok-open.ensures.bound ∙ c.from-behind.ensures) m c.in-Err-dispatch.fault c.in-Err-dispatch.ensures.fault in
    inr (inl (
      c.in-Err-dispatch.fault,
      c.trouble_of.ensures,
      record {
        book = book;
        opened = opened_with _ _ _ _ c.in-Ok.warehouse.planners _ c.in-Ok.ensures.site c.in-Ok.ensures.opening c.in-Ok.ensures.history c.in-Ok.ensures.planners c.in-Ok.ensures.tied;
        final = s.0;
        stops = s.1;
      },
    ))

pub returns-in-Ok-written-clause-ok : goal.returns-in-Ok-written-clause-ok
returns-in-Ok-written-clause-ok g c =
    let book : Seen = c.in-Ok.warehouse.book in
    let crew : Crew = c.in-Ok-open.vehicles in
    let m = subst (λ n. IsManned book crew (drives.opened book.site.layout.nofollow n (places book.state))) c.from-ahead.ensures c.in-Ok-open.ensures.manned in
    let r = driven g.P.Plans.fits_map g.P.Plans.slot_count (script_asker c.args.form) c.args.pace.behind c.args.pace.ahead crew.bound c.args.lines.now c.dispatch.new.lines book c.args.spares.items crew
    c.dispatch.new.warehouse.book c.dispatch.new.spares.items (g.W.Write.contents c.args.output.now) (g.W.Write.contents c.dispatch.new.writer)
    (c.in-Ok-open.ensures.bound ∙ c.from-behind.ensures) m c.dispatch.new.vehicles c.in-Ok-dispatch.ensures.ok in
    let opens = still_opening _ _ _ _ _ _ _ _ _ _ r.dispatches c.in-Ok.ensures.opens in
    let ways = subst (λ (b : Seen). AllOnTheirWays b.site b.opening) r.book_is (ways-opening _ _ opens) in
    record {
      final = r.final;
      replied = g.W.Write.contents c.dispatch.new.writer;
      drives = record {
        book = book;
        opened = opened_with _ _ _ _ c.in-Ok.warehouse.planners _ c.in-Ok.ensures.site c.in-Ok.ensures.opening c.in-Ok.ensures.history c.in-Ok.ensures.planners c.in-Ok.ensures.tied;
        dispatches = r.dispatches;
        is_opening = opens;
        run = subst (λ (b : Seen). Run b.site b.opening b.history b.state) (sym r.book_is) c.history-history.ensures.run;
        served = subst (λ (b : Seen). IsFormed b.site → AllServed b.history) (sym r.book_is)
            (λ formed. c.history-history.ensures.served (record { formed = formed; on_their_ways = ways }));
      };
      follows = subst (λ (b : Seen). Appends (g.W.Write.contents c.dispatch.new.writer) (g.W.Write.contents c.write_tail-written.new.output) (tail_after c.args.tail b.opening b.history b.state)) (sym r.book_is)
          c.in-Ok-written.ensures.ok;
      left_is = c.on_their_way.ensures ∙ r.count_is;
    }

pub returns-clause-fault : goal.returns-clause-fault
returns-clause-fault g c =
    let book : Seen = c.in-Ok.warehouse.book in
    let crew : Crew = c.in-Ok-open.vehicles in
    let m = subst (λ n. IsManned book crew (drives.opened book.site.layout.nofollow n (places book.state))) c.from-ahead.ensures c.in-Ok-open.ensures.manned in
    let r = driven g.P.Plans.fits_map g.P.Plans.slot_count (script_asker c.args.form) c.args.pace.behind c.args.pace.ahead crew.bound c.args.lines.now c.dispatch.new.lines book c.args.spares.items crew
    c.dispatch.new.warehouse.book c.dispatch.new.spares.items (g.W.Write.contents c.args.output.now) (g.W.Write.contents c.dispatch.new.writer)
    (c.in-Ok-open.ensures.bound ∙ c.from-behind.ensures) m c.dispatch.new.vehicles c.in-Ok-dispatch.ensures.ok in
    let opens = still_opening _ _ _ _ _ _ _ _ _ _ r.dispatches c.in-Ok.ensures.opens in
    let ways = subst (λ (b : Seen). AllOnTheirWays b.site b.opening) r.book_is (ways-opening _ _ opens) in
    inr (inr record {
      final = r.final;
      replied = g.W.Write.contents c.dispatch.new.writer;
      drives = record {
        book = book;
        opened = opened_with _ _ _ _ c.in-Ok.warehouse.planners _ c.in-Ok.ensures.site c.in-Ok.ensures.opening c.in-Ok.ensures.history c.in-Ok.ensures.planners c.in-Ok.ensures.tied;
        dispatches = r.dispatches;
        is_opening = opens;
        run = subst (λ (b : Seen). Run b.site b.opening b.history b.state) (sym r.book_is) c.history-history.ensures.run;
        served = subst (λ (b : Seen). IsFormed b.site → AllServed b.history) (sym r.book_is)
            (λ formed. c.history-history.ensures.served (record { formed = formed; on_their_ways = ways }));
      };
      why = subst (λ (b : Seen). IsWhyNoTail c.in-Err-written.trouble (g.W.Write.contents c.dispatch.new.writer) (g.W.Write.contents c.write_tail-written.new.output) (tail_after c.args.tail b.opening b.history b.state)) (sym r.book_is)
          c.in-Err-written.ensures.fault;
    })
