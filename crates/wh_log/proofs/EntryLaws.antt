-- Whole entries and their lines: what is read is so written, and what is so written is read.
use Rattle.std.proofs.Common.{◌≡◌, ℕ, ◌<◌, ◌^◌, true, List, [], ◌∷◌, ◌++◌, Option, Some, Result, Ok, Err, codes, decimal, refl, sym, ap, ◌∙◌, subst, arith, lit<}
use Rattle.std.specs.Prelude.{IfOk}
use Rattle.std.proofs.Math.Dec.{ltb as nat_lt}
use Rattle.std.proofs.lemmas.Bool.{ltb-true, lt-ltb}
use Rattle.std.specs.List.{AllByRecursion}
use Rattle.wh_text.specs.Lines.{IsLine}
use Rattle.wh_words.specs.Words.{IsPlain, words_of, line_of}
use Rattle.wh_words.proofs.Cutting.{joined, split, line_is_line}
use Rattle.wh_event.specs.declared.entry.Entry.{Entry}
use Rattle.wh_log.specs.declared.entry_fault.EntryFault.{EntryFault}
use Rattle.wh_log.specs.Spelling.{event_words, reply_words, entry_words, entry_line}
use Rattle.wh_log.specs.Ranges.{Keeps}
use Rattle.wh_log.specs.Reading.{◌>>=◌, Gives, small_at}
use Rattle.wh_log.specs.ReadEvents.{event_at}
use Rattle.wh_log.specs.ReadReplies.{caller_of, reply_of, entry_of}
use Rattle.wh_log.proofs.Steps.{bind_some, some_is, guard_some, small_found, small_again}
use Rattle.wh_log.proofs.EventLaws.{event_found, event_again, event_plain, small_plain}
use Rattle.wh_log.proofs.ReplyLaws.{reply_found, reply_again, reply_plain}

pub record IsEntry (most : ℕ) (words : List (List ℕ)) (entry : Entry) : Type 0 where
  pub words_are : words ≡ entry_words entry
  pub keeps : Keeps most entry

pub entry_found : (most : ℕ) (words : List (List ℕ)) (y : Entry) → entry_of most words ≡ Some y → IsEntry most words y
unfolding entry_of
entry_found most words y e =
    let a = bind_some (small_at words) (λ number. caller_of number.0 >>= λ caller. event_at most number.1 >>= λ event. reply_of event.1 >>= λ reply. Some (record { caller = caller; event = event.0; reply = reply })) y e in
    let b = bind_some (caller_of a.0.0) (λ caller. event_at most a.0.1 >>= λ event. reply_of event.1 >>= λ reply. Some (record { caller = caller; event = event.0; reply = reply })) y a.2 in
    let c = bind_some (event_at most a.0.1) (λ event. reply_of event.1 >>= λ reply. Some (record { caller = b.0; event = event.0; reply = reply })) y b.2 in
    let d = bind_some (reply_of c.0.1) (λ reply. Some (record { caller = b.0; event = c.0.0; reply = reply })) y c.2 in
    let n = small_found words a.0 a.1 in
    let g = guard_some (nat_lt a.0.0 64) a.0.0 b.0 b.1 in
    let small : b.0 < 64 = subst (λ (k : ℕ). k < 64) g.1 (ltb-true _ _ g.0) in
    let ev = event_found most a.0.1 c.0 c.1 in
    let re = reply_found c.0.1 d.0 d.1 in
    let made : Entry = record { caller = b.0; event = c.0.0; reply = d.0 } in
    let whole : words ≡ entry_words made =
    n.0 ∙ ap (λ (k : ℕ). decimal k ∷ a.0.1) g.1 ∙ ap (λ (ws : List (List ℕ)). decimal b.0 ∷ ws) (ev.0 ∙ ap (λ (ws : List (List ℕ)). event_words c.0.0 ++ codes "=" ∷ ws) re.0) in
    subst (IsEntry most words) (some_is made y d.2) (record { words_are = whole; keeps = record { caller = small; event = ev.1; reply = re.1 } })

pub entry_again : (most : ℕ) (entry : Entry) → Keeps most entry → entry_of most (entry_words entry) ≡ Some entry
unfolding entry_of
entry_again most entry h =
    let limit : 64 < 10 ^ 9 = lit< tt in
    let small : nat_lt entry.caller 64 ≡ true = lt-ltb _ _ h.caller in
    rw (small_again entry.caller (omega (arith, h.caller)), small, event_again most entry.event (reply_words entry.reply) h.event, reply_again entry.reply h.reply) refl

plain_append : (xs ys : List (List ℕ)) → AllByRecursion IsPlain xs → AllByRecursion IsPlain ys → AllByRecursion IsPlain (xs ++ ys)
plain_append [] ys p q = q
plain_append (x ∷ xs) ys p q = (p.0, plain_append xs ys p.1 q)

pub entry_plain : (most : ℕ) (entry : Entry) → Keeps most entry → AllByRecursion IsPlain (entry_words entry)
entry_plain most entry h =
    let limit : 64 < 10 ^ 9 = lit< tt in
    (small_plain entry.caller (omega (arith, h.caller)), plain_append (event_words entry.event) (codes "=" ∷ reply_words entry.reply) (event_plain most entry.event h.event) (refl, reply_plain entry.reply h.reply))

-- ---- lines
pub line_found : (most : ℕ) (line : List ℕ) (entry : Entry) → entry_of most (words_of line) ≡ Some entry → (line ≡ entry_line entry) × Keeps most entry
line_found most line entry e =
    let f = entry_found most (words_of line) entry e in
    (sym (joined line) ∙ ap line_of f.words_are, f.keeps)

pub line_again : (most : ℕ) (entry : Entry) → Keeps most entry → entry_of most (words_of (entry_line entry)) ≡ Some entry
line_again most entry h = ap (entry_of most) (split (entry_words entry) (omega arith) (entry_plain most entry h)) ∙ entry_again most entry h

pub entry_is_line : (most : ℕ) (entry : Entry) → Keeps most entry → IsLine (entry_line entry)
entry_is_line most entry h = line_is_line (entry_words entry) (entry_plain most entry h)

pub one_entry : (most : ℕ) (a b : Entry) → Keeps most a → Keeps most b → entry_line a ≡ entry_line b → a ≡ b
one_entry most a b h k e =
    some_is a b (sym (line_again most a h) ∙ ap (λ (line : List ℕ). entry_of most (words_of line)) e ∙ line_again most b k)

-- ---- what a reader of lines returned
pub result_found : (most : ℕ) (line : List ℕ) (result : Result Entry EntryFault) → Gives (λ x. x) result (entry_of most (words_of line)) → IfOk result (λ entry. (line ≡ entry_line entry) × Keeps most entry)
result_found most line (Ok entry) h = line_found most line entry h
result_found most line (Err e) h = tt

pub result_only : (most : ℕ) (line : List ℕ) (result : Result Entry EntryFault) (entry : Entry) → Gives (λ x. x) result (entry_of most (words_of line)) → Keeps most entry → line ≡ entry_line entry → Gives (λ x. x) result (Some entry)
result_only most line result entry h keeps is = subst (λ (read : Option Entry). Gives (λ x. x) result read) (ap (λ (l : List ℕ). entry_of most (words_of l)) is ∙ line_again most entry keeps) h
