-- What is said of a script that was not served to its end.
use Rattle.std.proofs.Common.{◌≡◌, ◌<◌, ◌≤◌, ◌⊎◌, ℕ, List, [], ◌++◌, length, refl, sym, inl, inr, arith, Option, append-nil, true, false}
use Rattle.std.specs.Io.KnownBytes.{Appends, Keeps}
use Rattle.std.proofs.KnownBytes.{Appends-nil, Appends-kept}
use Rattle.wh_lines.specs.Input.{Input, with_failed}
use Rattle.wh_lines.specs.declared.next.LineFault.{LineFault}
use Rattle.wh_lines.specs.declared.next.LineFault.TheVariants.{Read, Flush}
use Rattle.wh_lines.specs.declared.lines.ReadFault.TheVariants as reads
use Rattle.wh_lines.proofs.Written.{front_all}
use Rattle.wh_replay.specs.Answers.{text_of}
use Rattle.wh_replay.specs.Scripts.{WritesFront, WritesToLast, WritesUntil, IsWholeUntil, HasCause, fault_of}
use Rattle.wh_replay.specs.declared.script.ReplayFault.{ReplayFault}
use Rattle.wh_replay.specs.declared.script.ReplayFault.TheVariants.{Broken, Endless, Unwritten}

-- all replies were written
pub written_all : (a b : Option (List ℕ)) (replies : List (List ℕ)) → Appends a b (text_of replies) → WritesToLast a b replies
written_all a b replies p = record {
  told = replies;
  last = [];
  replies_are = sym (append-nil replies);
  few = omega arith;
  between = b;
  whole = p;
  front = front_all b b [] (Appends-nil b);
}

-- replies were written, and of one more a front
pub written_to_last : (a b c d : Option (List ℕ)) (xs ys : List (List ℕ)) → Appends a b (text_of xs) → Keeps b c → WritesFront c d (text_of ys) → length ys ≤ 1 → WritesToLast a d (xs ++ ys)
written_to_last a b c d xs ys p k q few = record {
  told = xs;
  last = ys;
  replies_are = refl;
  few = few;
  between = c;
  whole = Appends-kept a b c (text_of xs) p k;
  front = q;
}

was_asked : (i j k : Input) → i.reads ≤ j.reads → j.failed ≡ false → (j.failed ≡ true) ⊎ (j.reads < k.reads) → i.reads < k.reads
was_asked i j k before fine (inl failed) = absurd (cc (failed, fine))
was_asked i j k before fine (inr more) = omega (arith, before, more)

-- why a line did not come, from a reader that had not failed
pub cause_of : (i j k : Input) (lines : ℕ) (fault : LineFault) → i.reads ≤ j.reads → j.failed ≡ false
    → (fault ≡ Read reads.Broken → (j.failed ≡ true) ⊎ (j.reads < k.reads)) → (fault ≡ Read reads.Endless → k.reads ≡ 100000000) → HasCause (fault_of fault) i k lines
cause_of i j k lines (Read reads.Broken) before fine broken endless = inr (was_asked i j k before fine (broken refl))
cause_of i j k lines (Read reads.Endless) before fine broken endless = inl (endless refl)
cause_of i j k lines Flush before fine broken endless = tt

-- more lines were served than can be counted
pub cause_endless : (i j : Input) (turns lines : ℕ) → 18446744073709551615 ≤ turns → turns ≤ lines → HasCause Endless i j lines
cause_endless i j turns lines all many = inr (omega (arith, all, many))

-- all replies were written, whatever the fault
pub until_all : (fault : ReplayFault) (a b : Option (List ℕ)) (replies : List (List ℕ)) → Appends a b (text_of replies) → WritesUntil fault a b replies
until_all Unwritten a b replies p = written_all a b replies p
until_all Broken a b replies p = p
until_all Endless a b replies p = p

-- the same is said of a reader that is told to have failed
pub whole_failed : (fault : ReplayFault) (after : Input) (read : List ℕ) → IsWholeUntil fault after read → IsWholeUntil fault (with_failed after true) read
whole_failed Unwritten after read whole = whole
whole_failed Broken after read whole = whole
whole_failed Endless after read whole = whole

pub cause_failed : (fault : ReplayFault) (before after : Input) (lines : ℕ) → HasCause fault before after lines → HasCause fault before (with_failed after true) lines
cause_failed Unwritten before after lines cause = cause
cause_failed Broken before after lines cause = cause
cause_failed Endless before after lines cause = cause
