-- one line that is taken and served
use Rattle.std.proofs.Common.{◌≡◌, ◌∙◌, ℕ, ◌<◌, List, [], ◌∷◌, ◌++◌, length, Bool, true, false, Option, Result, Ok, Err, take, drop, inr, sym, subst, refl, ap}
use Rattle.std.specs.Prelude.{◌⊎◌, IfOk}
use Rattle.std.specs.Io.KnownBytes.{IsAtEnd}
use Rattle.wh_text.specs.Lines.{IsLine}
use Rattle.wh_lines.specs.Text.{short_line}
use Rattle.wh_lines.specs.Input.{Input, left, Takes, Gathered, with_waiting}
use Rattle.wh_lines.specs.declared.lines.Next.TheVariants.{Whole, Last}
use Rattle.wh_lines.proofs.Parts.{line_taken, says_front}
use Rattle.wh_session.specs.declared.machine.Halt.{Halt}
use Rattle.wh_session.specs.declared.machine.Halt.TheVariants as kinds
use Rattle.wh_session.specs.declared.fault.SessionFault.{SessionFault}
use Rattle.wh_session.specs.declared.stepping.Step.{Step}
use Rattle.wh_session.specs.Machines.{Records, IsFront, ServesOne, SameFrom}
use Rattle.wh_session.specs.Sessions.{halt_fault}
use Rattle.wh_session.specs.Steps.{TakesLine, TakesRest, TakesTorn, Halts, Steps, StepsFrom}

module _ {S : Type 0} (serves : S → Option (List ℕ) → List ℕ → Records → S → Type 0) (i j : Input) (s e : S) (said says : List ℕ) (came comes : Records) where
  pub takes_line : (line : List ℕ) → Gathered Whole i j line → ServesOne serves (short_line line) s e said says came comes → TakesLine serves i j s e said says came comes
  takes_line line g one = record { raw = g.raw; plain = g.plain; takes = g.ends; one = subst (λ (l : Option (List ℕ)). ServesOne serves l s e said says came comes) g.says one }

  pub takes_last : (line : List ℕ) (last_too : Bool) → last_too ≡ true → Gathered Last i j line → ServesOne serves (short_line line) s e said says came comes → TakesRest serves last_too i j s e said says came comes
  takes_last line last_too too g one = record {
    raw = g.raw;
    plain = g.plain;
    takes = g.ends.0;
    ended = g.ends.2;
    one = inr (too, g.ends.1, subst (λ (l : Option (List ℕ)). ServesOne serves l s e said says came comes) g.says one);
  }

  pub takes_front : (waiting raw : List ℕ) (count : ℕ) → waiting ≡ i.waiting → IsFront raw count waiting → j ≡ with_waiting i (drop count i.waiting) → ServesOne serves (short_line raw) s e said says came comes →
      TakesLine serves i j s e said says came comes
  takes_front waiting raw count same f rest one =
      takes_line (take 258 raw) (line_taken i j raw count f.plain (ap (take count) (sym same) ∙ f.front) rest)
      (subst (λ (l : Option (List ℕ)). ServesOne serves l s e said says came comes) (sym (says_front raw)) one)

-- what follows the last line feed is not served
pub takes_unserved : {S : Type 0} (i j : Input) (s : S) (said : List ℕ) (came : Records) (line : List ℕ) (last_too : Bool) → last_too ≡ false → Gathered Last i j line → TakesTorn last_too i j s s said said came came
takes_unserved i j s said came line last_too not_too g = record {
  raw = g.raw;
  plain = g.plain;
  some = g.ends.1;
  takes = g.ends.0;
  ended = g.ends.2;
  not_too = not_too;
  same = record { state = refl; said_is = refl; came_is = refl };
}

-- the machine failed at a line
pub halts_line : {S : Type 0} (halts : S → Option (List ℕ) → Halt → S → Type 0) (last_too : Bool) (halt : Halt) (i j : Input) (s e : S) (line raw bytes : List ℕ) → IsLine raw → ((last_too ≡ true) × (bytes ≡ raw) × (0 < length raw) × IsAtEnd (left j)) ⊎ (bytes ≡ raw ++ 10 ∷ []) → short_line line ≡ short_line raw →
    Takes i j bytes → halts s (short_line line) halt e → Halts halts last_too (halt_fault halt) i j s e
halts_line halts last_too kinds.NoMemory i j s e line raw bytes plain is says takes h = record {
  bytes = bytes;
  takes = takes;
  left_off = record { raw = raw; plain = plain; begun_is = is; halted = subst (λ (l : Option (List ℕ)). halts s l kinds.NoMemory e) says h };
  cause = tt;
}
halts_line halts last_too kinds.Failed i j s e line raw bytes plain is says takes h = record {
  bytes = bytes;
  takes = takes;
  left_off = record { raw = raw; plain = plain; begun_is = is; halted = subst (λ (l : Option (List ℕ)). halts s l kinds.Failed e) says h };
  cause = tt;
}

module _ {X : Type 0} {S : Type 0} (stands : X → S → Type 0) (serves : S → Option (List ℕ) → List ℕ → Records → S → Type 0) (says : X → S → List ℕ) (logs : X → S → Records) (last_too : Bool) where
  -- the machine and the reader were as before
  pub steps_after : (step : Step) (i j k : Input) (old mid new : X) → j ≡ i → SameFrom stands says logs old mid → StepsFrom stands serves says logs last_too step j k mid new → StepsFrom stands serves says logs last_too step i k old new
  steps_after step i j k old mid new at same f s h =
      let m = same s h in
      let t = f s m.0 in (
        t.0,
        t.1,
        subst (λ (x : Input). Steps serves last_too step x k s t.0 (says old s) (says new t.0) (logs old s) (logs new t.0)) at
            (subst (λ (b : List ℕ). Steps serves last_too step j k s t.0 b (says new t.0) (logs old s) (logs new t.0)) m.1
            (subst (λ (r : Records). Steps serves last_too step j k s t.0 (says mid s) (says new t.0) r (logs new t.0)) m.2 t.2)),
      )

  pub steps_if : (r : Result Step SessionFault) (i j k : Input) (old mid new : X) → j ≡ i → SameFrom stands says logs old mid → IfOk r (λ (step : Step). StepsFrom stands serves says logs last_too step j k mid new) →
      IfOk r (λ (step : Step). StepsFrom stands serves says logs last_too step i k old new)
  steps_if (Ok step) i j k old mid new at same f = steps_after step i j k old mid new at same f
  steps_if (Err fault) i j k old mid new at same f = f
