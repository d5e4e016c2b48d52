-- What one line of a script is answered, and what all of them are told.
use Rattle.std.proofs.Common.{◌≡◌, ◌≤◌, ℕ, List, [], ◌∷◌, refl, sym, arith, subst, Option, append-nil, Bool, Result, Ok, Err}
use Rattle.std.specs.Prelude.{IfSome, IfOk, OnErr}
use Rattle.std.specs.Io.KnownBytes.{Appends}
use Rattle.std.proofs.KnownBytes.{Consumes-whole, Appends-nil}
use Rattle.wh_lines.specs.Input.{Input, left}
use Rattle.wh_grid.specs.Grids.{Floor}
use Rattle.wh_book.specs.Drafts.{Seen}
use Rattle.wh_event.specs.declared.event.Command.{Command}
use Rattle.wh_event.specs.declared.fault.LineFault.{LineFault}
use Rattle.wh_log.specs.Told.{Answered, told_text}
use Rattle.wh_replay.specs.declared.asker.Asker.{Asker}
use Rattle.wh_lines.specs.declared.output.WriteFault.{WriteFault}
use Rattle.wh_replay.specs.Answers.{asked, answers, reply_line, text_of}
use Rattle.wh_replay.specs.Scripts.{Gives, Tells, WritesFront, Serves, ServesUnwritten, Replays, Outputs}
use Rattle.wh_lines.proofs.Written.{both_parts, in_first, in_second}
use Rattle.wh_replay.proofs.Giving.{gives_nothing}

module _ {X : Type 0} (fits : X → Floor → Bool) (count : X → ℕ) (asker : Asker) where
  -- a reader that tells its bytes has given them all
  pub outputs_of : (i j : Input) (old : Seen) (spares : List X) (new : Seen) (rest : List X) (had has : Option (List ℕ)) (n : ℕ)
      → Replays fits count asker i j old spares new rest had has n → IfSome (left i) (λ script. Outputs fits count asker script old spares new rest had has n)
  outputs_of i j old spares new rest had has n r =
      Consumes-whole (left i) (left j) r.read (λ script. Outputs fits count asker script old spares new rest had has n) r.takes r.ended
      (record { replies = r.replies; output = r.output; appends = r.appends; written_is = r.written_is })

-- ---- one line

module _ {X : Type 0} (fits : X → Floor → Bool) (count : X → ℕ) (asker : Asker) (kind : Result (Option Command) LineFault) (old : Seen) (spares : List X) where
  -- a line that asks for nothing, or is no command
  pub gives_none : (here : Result (Option Command) LineFault) → asked here ≡ [] → kind ≡ here → Gives fits count asker.caller (asked kind) (answers (told_text asker.form) kind) old spares old spares (answers (told_text asker.form) here [])
  gives_none here none e =
      subst (λ (k : Result (Option Command) LineFault). Gives fits count asker.caller (asked k) (answers (told_text asker.form) k) old spares old spares (answers (told_text asker.form) here [])) (sym e)
      (subst (λ (cs : List Command). Gives fits count asker.caller cs (answers (told_text asker.form) here) old spares old spares (answers (told_text asker.form) here [])) (sym none) (gives_nothing fits count asker.caller (answers (told_text asker.form) here) old spares))

module _ {X : Type 0} (fits : X → Floor → Bool) (count : X → ℕ) (asker : Asker) (kind : Result (Option Command) LineFault) (old : Seen) (spares : List X) (new : Seen) (rest : List X) where
  pub serves_none : (had : Option (List ℕ)) → Gives fits count asker.caller (asked kind) (answers (told_text asker.form) kind) old spares new rest [] → Serves fits count asker kind old spares new rest had had 0
  serves_none had gives = record { replies = []; gives = gives; appends = Appends-nil had; written_is = refl }

  module _ (had has : Option (List ℕ)) (reply : List ℕ) (gives : Gives fits count asker.caller (asked kind) (answers (told_text asker.form) kind) old spares new rest (reply ∷ [])) where
    is_text : reply_line reply ≡ text_of (reply ∷ [])
    is_text = sym (append-nil (reply_line reply))

    pub serves_one : (result : Result ℕ WriteFault) → Tells result had has (reply_line reply) → IfOk result (λ n. Serves fits count asker kind old spares new rest had has n)
    serves_one (Ok n) p = record { replies = reply ∷ []; gives = gives; appends = subst (Appends had has) is_text p.0; written_is = p.1 }
    serves_one (Err f) p = tt

    pub serves_begun : (result : Result ℕ WriteFault) → Tells result had has (reply_line reply) → OnErr result (ServesUnwritten fits count asker kind old spares new rest had has)
    serves_begun (Ok n) p = tt
    serves_begun (Err f) p = record { replies = reply ∷ []; gives = gives; few = omega arith; writes = subst (WritesFront had has) is_text p }

pub tells_few : (result : Result ℕ WriteFault) (had has : Option (List ℕ)) (line : List ℕ) → Tells result had has line → IfOk result (λ n. n ≤ 1)
tells_few (Ok n) had has line p = omega (arith, p.1)
tells_few (Err f) had has line p = tt

-- a reply was written, and then its line's end
pub tells_rest : (result : Result ℕ WriteFault) (a b c : Option (List ℕ)) (reply : List ℕ) → Appends a b reply → Tells result b c (10 ∷ []) → Tells result a c (reply_line reply)
tells_rest (Ok n) a b c reply p q = (both_parts a b c reply (10 ∷ []) (reply_line reply) refl p q.0, q.1)
tells_rest (Err f) a b c reply p q = in_second a b c reply (10 ∷ []) (reply_line reply) refl p q

pub tells_begun : (a b : Option (List ℕ)) (reply : List ℕ) → WritesFront a b reply → WritesFront a b (reply_line reply)
tells_begun a b reply w = in_first a b reply (10 ∷ []) (reply_line reply) refl w
