use Rattle.std.proofs.Common.{refl, ap, length, List}
use Rattle.wh_event.specs.declared.entry.Entry.{Entry}
use Rattle.wh_handover.proofs.Chaining.{bytes_within, is_link}
use Rattle.wh_handover.proofs.chain.link_of.Goals as goal

pub slice_bounds-lines_in-end : goal.slice_bounds-lines_in-end
slice_bounds-lines_in-end c = bytes_within c.args.resumed.book.site c.args.text.now c.args.resumed c.requires.tells

pub returns-clause-ok : goal.returns-clause-ok
returns-clause-ok c = λ before joins.
    let r = c.args.resumed in
    is_link r.book.site c.args.text.now r c.requires.tells before c.args.goes_on
    (record { setting = c.into_setting-setting.result; joined = c.args.joined; entries = length c.history-entries.result.now; lines = c.lines_in.result; is_ended = r.is_ended; next = c.in-Ok.next })
    c.history-entries.ensures.opening c.history-entries.ensures.run joins (ap (λ (es : List Entry). length es) c.history-entries.ensures.value) c.lines_in.ensures.value refl c.in-Ok.ensures.ok c.into_setting-setting.ensures
