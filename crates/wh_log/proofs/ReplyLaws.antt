-- Replies: what is read is so written, and what is so written is read.
use Rattle.std.proofs.Common.{◌≡◌, ℕ, ◌<◌, ◌^◌, List, [], ◌∷◌, map, Some, codes, decimal, refl, sym, ap, ◌∙◌, subst, arith, lit<}
use Rattle.std.specs.List.{AllByRecursion}
use Rattle.wh_words.specs.Words.{IsPlain}
use Rattle.wh_words.proofs.NumeralLemmas.{plain-decimal, wide_again}
use Rattle.wh_event.specs.declared.reply.Reply.{Reply}
use Rattle.wh_event.specs.declared.reply.Reply.TheVariants.{Accepted, Took, Rested, Parked, Clock, Replaced, Closed, Refused}
use Rattle.wh_event.specs.declared.reply.Refusal.{Refusal}
use Rattle.wh_event.specs.declared.reply.Refusal.TheVariants as why
use Rattle.wh_log.specs.Spelling.{cell_word, reply_words, refusal_words}
use Rattle.wh_log.specs.Ranges.{ReplyKeeps, RefusalKeeps}
use Rattle.wh_log.specs.Reading.{◌>>=◌, literal_at, at_end, small_at, clock_at, wide_at, name_at, path_of}
use Rattle.wh_log.specs.ReadReplies.{accepted_of, took_of, parked_of, clock_of, replaced_of, unknown_point_of, not_station_of, unknown_agent_of, moving_of, bare_refusal_of, refusal_of, refused_of, reply_of}
use Rattle.wh_log.proofs.Steps.{bind_some, some_is, by_name, literal_found, end_found, small_found, clock_at_found, wide_at_found, name_found, small_again, clock_at_again}
use Rattle.wh_log.proofs.CellLaws.{path_found, path_again, path_plain}
use Rattle.wh_log.proofs.EventLaws.{name_plain, small_plain}

abbrev IsReply : List (List ℕ) → Reply → Type 0
IsReply words reply = (words ≡ reply_words reply) × ReplyKeeps reply

abbrev IsRefusal : List (List ℕ) → Refusal → Type 0
IsRefusal words refusal = (words ≡ refusal_words refusal) × RefusalKeeps refusal

after : (name : List ℕ) (words others : List (List ℕ)) → words ≡ others → name ∷ words ≡ name ∷ others
after name words others e = ap (λ (ws : List (List ℕ)). name ∷ ws) e

accepted_found : (words : List (List ℕ)) (y : Reply) → accepted_of words ≡ Some y → IsReply (codes "accepted" ∷ words) y
unfolding accepted_of
accepted_found words y e =
    let a = bind_some (small_at words) (λ n. at_end n.1 (Accepted n.0)) y e in
    let n = small_found words a.0 a.1 in
    let d = end_found a.0.1 (Accepted a.0.0) y a.2 in
    let whole : words ≡ decimal a.0.0 ∷ [] = n.0 ∙ after (decimal a.0.0) a.0.1 [] d.0 in
    subst (IsReply (codes "accepted" ∷ words)) d.1 (after (codes "accepted") words (decimal a.0.0 ∷ []) whole, n.1)

took_found : (words : List (List ℕ)) (y : Reply) → took_of words ≡ Some y → IsReply (codes "took" ∷ words) y
unfolding took_of
took_found words y e =
    let a = bind_some (small_at words) (λ n. literal_at (codes "path") n.1 >>= λ rest. path_of rest >>= λ path. Some (Took n.0 path)) y e in
    let b = bind_some (literal_at (codes "path") a.0.1) (λ rest. path_of rest >>= λ path. Some (Took a.0.0 path)) y a.2 in
    let c = bind_some (path_of b.0) (λ path. Some (Took a.0.0 path)) y b.2 in
    let n = small_found words a.0 a.1 in
    let l = literal_found (codes "path") a.0.1 b.0 b.1 in
    let p = path_found b.0 c.0 c.1 in
    let whole : words ≡ decimal a.0.0 ∷ codes "path" ∷ map cell_word c.0 = n.0 ∙ after (decimal a.0.0) a.0.1 (codes "path" ∷ map cell_word c.0) (l ∙ after (codes "path") b.0 (map cell_word c.0) p.0) in
    subst (IsReply (codes "took" ∷ words)) (some_is (Took a.0.0 c.0) y c.2) (after (codes "took") words (decimal a.0.0 ∷ codes "path" ∷ map cell_word c.0) whole, (n.1, p.1))

parked_found : (words : List (List ℕ)) (y : Reply) → parked_of words ≡ Some y → IsReply (codes "parked" ∷ words) y
unfolding parked_of
parked_found words y e =
    let a = bind_some (name_at words) (λ n. literal_at (codes "path") n.1 >>= λ rest. path_of rest >>= λ path. Some (Parked n.0 path)) y e in
    let b = bind_some (literal_at (codes "path") a.0.1) (λ rest. path_of rest >>= λ path. Some (Parked a.0.0 path)) y a.2 in
    let c = bind_some (path_of b.0) (λ path. Some (Parked a.0.0 path)) y b.2 in
    let n = name_found words a.0 a.1 in
    let l = literal_found (codes "path") a.0.1 b.0 b.1 in
    let p = path_found b.0 c.0 c.1 in
    let whole : words ≡ a.0.0 ∷ codes "path" ∷ map cell_word c.0 = n.0 ∙ after (a.0.0) a.0.1 (codes "path" ∷ map cell_word c.0) (l ∙ after (codes "path") b.0 (map cell_word c.0) p.0) in
    subst (IsReply (codes "parked" ∷ words)) (some_is (Parked a.0.0 c.0) y c.2) (after (codes "parked") words (a.0.0 ∷ codes "path" ∷ map cell_word c.0) whole, (n.1, p.1))

clock_found : (words : List (List ℕ)) (y : Reply) → clock_of words ≡ Some y → IsReply (codes "clock" ∷ words) y
unfolding clock_of
clock_found words y e =
    let a = bind_some (clock_at words) (λ now. literal_at (codes "picked") now.1 >>= λ r. small_at r >>= λ picked. literal_at (codes "dropped") picked.1 >>= λ s. small_at s >>= λ dropped. at_end dropped.1 (Clock now.0 picked.0 dropped.0)) y e in
    let b = bind_some (literal_at (codes "picked") a.0.1) (λ r. small_at r >>= λ picked. literal_at (codes "dropped") picked.1 >>= λ s. small_at s >>= λ dropped. at_end dropped.1 (Clock a.0.0 picked.0 dropped.0)) y a.2 in
    let c = bind_some (small_at b.0) (λ picked. literal_at (codes "dropped") picked.1 >>= λ s. small_at s >>= λ dropped. at_end dropped.1 (Clock a.0.0 picked.0 dropped.0)) y b.2 in
    let d = bind_some (literal_at (codes "dropped") c.0.1) (λ s. small_at s >>= λ dropped. at_end dropped.1 (Clock a.0.0 c.0.0 dropped.0)) y c.2 in
    let f = bind_some (small_at d.0) (λ dropped. at_end dropped.1 (Clock a.0.0 c.0.0 dropped.0)) y d.2 in
    let last = end_found f.0.1 (Clock a.0.0 c.0.0 f.0.0) y f.2 in
    let now = clock_at_found words a.0 a.1 in
    let picked = small_found b.0 c.0 c.1 in
    let dropped = small_found d.0 f.0 f.1 in
    let end_is : d.0 ≡ decimal f.0.0 ∷ [] = dropped.0 ∙ after (decimal f.0.0) f.0.1 [] last.0 in
    let mid : b.0 ≡ decimal c.0.0 ∷ codes "dropped" ∷ decimal f.0.0 ∷ [] = picked.0 ∙ after (decimal c.0.0) c.0.1 (codes "dropped" ∷ decimal f.0.0 ∷ []) (literal_found (codes "dropped") c.0.1 d.0 d.1 ∙ after (codes "dropped") d.0 (decimal f.0.0 ∷ []) end_is) in
    let whole : words ≡ decimal a.0.0 ∷ codes "picked" ∷ decimal c.0.0 ∷ codes "dropped" ∷ decimal f.0.0 ∷ [] =
    now.0 ∙ after (decimal a.0.0) a.0.1 (codes "picked" ∷ decimal c.0.0 ∷ codes "dropped" ∷ decimal f.0.0 ∷ []) (literal_found (codes "picked") a.0.1 b.0 b.1 ∙ after (codes "picked") b.0 (decimal c.0.0 ∷ codes "dropped" ∷ decimal f.0.0 ∷ []) mid) in
    subst (IsReply (codes "clock" ∷ words)) last.1 (after (codes "clock") words (decimal a.0.0 ∷ codes "picked" ∷ decimal c.0.0 ∷ codes "dropped" ∷ decimal f.0.0 ∷ []) whole, (now.1, picked.1, dropped.1))

replaced_found : (words : List (List ℕ)) (y : Reply) → replaced_of words ≡ Some y → IsReply (codes "replaced" ∷ words) y
unfolding replaced_of
replaced_found words y e =
    let a = bind_some (small_at words) (λ n. at_end n.1 (Replaced n.0)) y e in
    let n = small_found words a.0 a.1 in
    let d = end_found a.0.1 (Replaced a.0.0) y a.2 in
    let whole : words ≡ decimal a.0.0 ∷ [] = n.0 ∙ after (decimal a.0.0) a.0.1 [] d.0 in
    subst (IsReply (codes "replaced" ∷ words)) d.1 (after (codes "replaced") words (decimal a.0.0 ∷ []) whole, n.1)

unknown_point_found : (words : List (List ℕ)) (y : Refusal) → unknown_point_of words ≡ Some y → IsRefusal (codes "E1" ∷ words) y
unfolding unknown_point_of
unknown_point_found words y e =
    let a = bind_some (name_at words) (λ n. at_end n.1 (why.UnknownPoint n.0)) y e in
    let n = name_found words a.0 a.1 in
    let d = end_found a.0.1 (why.UnknownPoint a.0.0) y a.2 in
    let whole : words ≡ a.0.0 ∷ [] = n.0 ∙ after (a.0.0) a.0.1 [] d.0 in
    subst (IsRefusal (codes "E1" ∷ words)) d.1 (after (codes "E1") words (a.0.0 ∷ []) whole, n.1)

not_station_found : (words : List (List ℕ)) (y : Refusal) → not_station_of words ≡ Some y → IsRefusal (codes "E2" ∷ words) y
unfolding not_station_of
not_station_found words y e =
    let a = bind_some (name_at words) (λ n. at_end n.1 (why.NotStation n.0)) y e in
    let n = name_found words a.0 a.1 in
    let d = end_found a.0.1 (why.NotStation a.0.0) y a.2 in
    let whole : words ≡ a.0.0 ∷ [] = n.0 ∙ after (a.0.0) a.0.1 [] d.0 in
    subst (IsRefusal (codes "E2" ∷ words)) d.1 (after (codes "E2") words (a.0.0 ∷ []) whole, n.1)

unknown_agent_found : (words : List (List ℕ)) (y : Refusal) → unknown_agent_of words ≡ Some y → IsRefusal (codes "E4" ∷ words) y
unfolding unknown_agent_of
unknown_agent_found words y e =
    let a = bind_some (small_at words) (λ n. at_end n.1 (why.UnknownAgent n.0)) y e in
    let n = small_found words a.0 a.1 in
    let d = end_found a.0.1 (why.UnknownAgent a.0.0) y a.2 in
    let whole : words ≡ decimal a.0.0 ∷ [] = n.0 ∙ after (decimal a.0.0) a.0.1 [] d.0 in
    subst (IsRefusal (codes "E4" ∷ words)) d.1 (after (codes "E4") words (decimal a.0.0 ∷ []) whole, n.1)

moving_found : (words : List (List ℕ)) (y : Refusal) → moving_of words ≡ Some y → IsRefusal (codes "E5" ∷ words) y
unfolding moving_of
moving_found words y e =
    let a = bind_some (wide_at words) (λ n. at_end n.1 (why.Moving n.0)) y e in
    let n = wide_at_found words a.0 a.1 in
    let d = end_found a.0.1 (why.Moving a.0.0) y a.2 in
    let whole : words ≡ decimal a.0.0 ∷ [] = n.0 ∙ after (decimal a.0.0) a.0.1 [] d.0 in
    subst (IsRefusal (codes "E5" ∷ words)) d.1 (after (codes "E5") words (decimal a.0.0 ∷ []) whole, n.1)

bare : (code : List ℕ) (refusal : Refusal) (words : List (List ℕ)) (y : Refusal) → refusal_words refusal ≡ code ∷ [] → RefusalKeeps refusal → at_end words refusal ≡ Some y → IsRefusal (code ∷ words) y
bare code refusal words y is keeps e =
    let d = end_found words refusal y e in
    subst (IsRefusal (code ∷ words)) d.1 (after code words [] d.0 ∙ sym is, keeps)

bare_found : (code : List ℕ) (words : List (List ℕ)) (y : Refusal) → bare_refusal_of code words ≡ Some y → IsRefusal (code ∷ words) y
unfolding bare_refusal_of
bare_found code words y e =
    let P : List ℕ → Type 0 = λ n. IsRefusal (n ∷ words) y in
    by_name P code (codes "E3") _ _ y e (bare (codes "E3") why.TasksFull words y refl tt) (λ e.
    by_name P code (codes "E6") _ _ y e (bare (codes "E6") why.NoPath words y refl tt) (λ e.
    by_name P code (codes "E7") _ _ y e (bare (codes "E7") why.ClockFull words y refl tt) (λ e.
    by_name P code (codes "E8") _ _ y e (bare (codes "E8") why.Closed words y refl tt) (λ e.
    by_name P code (codes "E9") _ _ y e (bare (codes "E9") why.ForeignPlanner words y refl tt) (λ e.
    by_name P code (codes "E10") _ _ y e (bare (codes "E10") why.NoSpare words y refl tt) (λ e.
    absurd cc))))))

refusal_found : (words : List (List ℕ)) (y : Refusal) → refusal_of words ≡ Some y → IsRefusal words y
unfolding refusal_of
refusal_found [] y e = absurd cc
refusal_found (code ∷ words) y e =
    let P : List ℕ → Type 0 = λ n. IsRefusal (n ∷ words) y in
    by_name P code (codes "E1") _ _ y e (unknown_point_found words y) (λ e.
    by_name P code (codes "E2") _ _ y e (not_station_found words y) (λ e.
    by_name P code (codes "E4") _ _ y e (unknown_agent_found words y) (λ e.
    by_name P code (codes "E5") _ _ y e (moving_found words y) (bare_found code words y))))

refused_found : (words : List (List ℕ)) (y : Reply) → refused_of words ≡ Some y → IsReply (codes "refused" ∷ words) y
unfolding refused_of
refused_found words y e =
    let a = bind_some (refusal_of words) (λ refusal. Some (Refused refusal)) y e in
    let r = refusal_found words a.0 a.1 in
    subst (IsReply (codes "refused" ∷ words)) (some_is (Refused a.0) y a.2) (after (codes "refused") words (refusal_words a.0) r.0, r.1)

plain_reply : (name : List ℕ) (reply : Reply) (words : List (List ℕ)) (y : Reply) → reply_words reply ≡ name ∷ [] → ReplyKeeps reply → at_end words reply ≡ Some y → IsReply (name ∷ words) y
plain_reply name reply words y is keeps e =
    let d = end_found words reply y e in
    subst (IsReply (name ∷ words)) d.1 (after name words [] d.0 ∙ sym is, keeps)

pub reply_found : (words : List (List ℕ)) (y : Reply) → reply_of words ≡ Some y → IsReply words y
unfolding reply_of
reply_found [] y e = absurd cc
reply_found (name ∷ words) y e =
    let P : List ℕ → Type 0 = λ n. IsReply (n ∷ words) y in
    by_name P name (codes "accepted") _ _ y e (accepted_found words y) (λ e.
    by_name P name (codes "took") _ _ y e (took_found words y) (λ e.
    by_name P name (codes "rested") _ _ y e (plain_reply (codes "rested") Rested words y refl tt) (λ e.
    by_name P name (codes "parked") _ _ y e (parked_found words y) (λ e.
    by_name P name (codes "clock") _ _ y e (clock_found words y) (λ e.
    by_name P name (codes "replaced") _ _ y e (replaced_found words y) (λ e.
    by_name P name (codes "closed") _ _ y e (plain_reply (codes "closed") Closed words y refl tt) (λ e.
    by_name P name (codes "refused") _ _ y e (refused_found words y) (λ e. absurd cc))))))))

refusal_again : (refusal : Refusal) → RefusalKeeps refusal → refusal_of (refusal_words refusal) ≡ Some refusal
unfolding refusal_of bare_refusal_of unknown_point_of not_station_of unknown_agent_of moving_of
refusal_again (why.UnknownPoint name) h = rw h refl
refusal_again (why.NotStation name) h = rw h refl
refusal_again (why.UnknownAgent agent) h = rw (small_again agent h) refl
refusal_again (why.Moving steps) h = rw (wide_again steps h) refl
refusal_again why.TasksFull h = refl
refusal_again why.NoPath h = refl
refusal_again why.ClockFull h = refl
refusal_again why.Closed h = refl
refusal_again why.ForeignPlanner h = refl
refusal_again why.NoSpare h = refl

refusal_plain : (refusal : Refusal) → RefusalKeeps refusal → AllByRecursion IsPlain (refusal_words refusal)
refusal_plain (why.UnknownPoint name) h = (refl, (name_plain name h, tt))
refusal_plain (why.NotStation name) h = (refl, (name_plain name h, tt))
refusal_plain (why.UnknownAgent agent) h = (refl, (small_plain agent h, tt))
refusal_plain (why.Moving steps) h = (refl, (plain-decimal steps h, tt))
refusal_plain why.TasksFull h = (refl, tt)
refusal_plain why.NoPath h = (refl, tt)
refusal_plain why.ClockFull h = (refl, tt)
refusal_plain why.Closed h = (refl, tt)
refusal_plain why.ForeignPlanner h = (refl, tt)
refusal_plain why.NoSpare h = (refl, tt)

pub reply_again : (reply : Reply) → ReplyKeeps reply → reply_of (reply_words reply) ≡ Some reply
unfolding reply_of accepted_of took_of parked_of clock_of replaced_of refused_of
reply_again (Accepted task) h = rw (small_again task h) refl
reply_again (Took task path) h = rw (small_again task h.0, path_again path h.1) refl
reply_again Rested h = refl
reply_again (Parked point path) h = rw (h.0, path_again path h.1) refl
reply_again (Clock now picked dropped) h = rw (clock_at_again now (codes "picked" ∷ decimal picked ∷ codes "dropped" ∷ decimal dropped ∷ []) h.0, small_again picked h.1, small_again dropped h.2) refl
reply_again (Replaced slots) h = rw (small_again slots h) refl
reply_again Closed h = refl
reply_again (Refused refusal) h = rw (refusal_again refusal h) refl

pub reply_plain : (reply : Reply) → ReplyKeeps reply → AllByRecursion IsPlain (reply_words reply)
reply_plain (Accepted task) h = (refl, (small_plain task h, tt))
reply_plain (Took task path) h = (refl, (small_plain task h.0, (refl, path_plain path h.1)))
reply_plain Rested h = (refl, tt)
reply_plain (Parked point path) h = (refl, (name_plain point h.0, (refl, path_plain path h.1)))
reply_plain (Clock now picked dropped) h = let limit : 1000000000 < 2 ^ 64 = lit< tt in (refl, (plain-decimal now (omega (arith, h.0)), (refl, (small_plain picked h.1, (refl, (small_plain dropped h.2, tt))))))
reply_plain (Replaced slots) h = (refl, (small_plain slots h, tt))
reply_plain Closed h = (refl, tt)
reply_plain (Refused refusal) h = (refl, refusal_plain refusal h)
