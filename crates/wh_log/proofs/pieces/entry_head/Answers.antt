use Rattle.std.proofs.Common.{◌≡◌, List, ℕ, ◌++◌, map, codes, decimal, ap, sym, ◌∙◌}
use Rattle.wh_log.specs.Spaced.{spaced}
use Rattle.wh_log.specs.Spelling.{cell_word, event_words}
use Rattle.wh_log.specs.Told.{cells_of}
use Rattle.wh_log.proofs.Telling.{entry_parts}
use Rattle.wh_log.proofs.pieces.entry_head.Goals as goal

pub returns : goal.returns
returns c =
    let entry = c.args.entry.now in
    let cells = spaced (map cell_word (cells_of entry.reply)) in
    let caller : c.from.result ≡ entry.caller = cc c.from.ensures in
    let number : c.put_numeral.new.head.items ≡ decimal entry.caller =
    c.put_numeral.ensures.text ∙ ap (λ (l : List ℕ). l ++ decimal c.from.result) c.new-head.ensures ∙ ap decimal caller in
    let event : c.put_event.new.head.items ≡ decimal entry.caller ++ spaced (event_words entry.event) =
    c.put_event.ensures.text ∙ ap (λ (l : List ℕ). l ++ spaced (event_words entry.event)) number in
    let all : c.put_text-2.new.head.items ≡ ((decimal entry.caller ++ spaced (event_words entry.event)) ++ codes " = ") ++ c.reply_head.result.items =
    c.put_text-2.ensures ∙ ap (λ (l : List ℕ). c.put_text.new.head.items ++ l) c.as_slice.ensures.value
    ∙ ap (λ (l : List ℕ). l ++ c.reply_head.result.items) (c.put_text.ensures ∙ ap (λ (l : List ℕ). l ++ codes " = ") event) in
    entry_parts entry c.reply_head.result.items cells c.reply_head.ensures.text ∙ ap (λ (l : List ℕ). l ++ cells) (sym all)
