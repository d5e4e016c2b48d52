use Rattle.std.proofs.Common.{List, ℕ, ◌++◌, ◌∷◌, [], decimal, sym, ap, ◌∙◌, rules}
use Rattle.wh_log.specs.Spelling.{event_words, reply_words}
use Rattle.wh_log.specs.Spaced.{spaced}
use Rattle.wh_log.proofs.Spacing.{entry-spaced, pieces}
use Rattle.wh_log.proofs.write_entry.push_entry.Goals as goal

pub returns : goal.returns
returns c =
    let entry = c.args.entry.now in
    pieces c.args.out.now.items c.push_number.new.out.items c.push_event.new.out.items c.push_word.new.out.items c.push_reply.new.out.items c.push.new.self.items
    (decimal entry.caller) (spaced (event_words entry.event)) (spaced (reply_words entry.reply)) (search rules) (search rules) (search rules) (search rules) (search rules)
    ∙ ap (λ (t : List ℕ). c.args.out.now.items ++ (t ++ 10 ∷ [])) (sym (entry-spaced entry))
