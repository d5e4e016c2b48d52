-- What is served of what a client sent behind `begin TAG`.
use Rattle.std.proofs.Common.{◌≡◌, ℕ, List, ◌++◌, ◌∙◌, append_assoc, subst, Option, Some, None, Bool, Result, Ok, Err}
use Rattle.std.specs.Io.KnownBytes.{Consumes}
use mathlib.Core.List.{IsPrefix}
use Rattle.wh_text.specs.Lines.{lines_of}
use Rattle.wh_lines.specs.Text.{EndsLine}
use Rattle.wh_lines.specs.Input.{Input, left, Takes}
use Rattle.wh_grid.specs.Grids.{Floor}
use Rattle.wh_event.specs.declared.entry.Entry.{Entry}
use Rattle.wh_desk.specs.Lists.{Received}
use Rattle.wh_serve.specs.Beginnings.{behind_begin, sent_with, StandsBefore}
use Rattle.wh_serve.specs.Sessions.{ServesFirst}
use Rattle.wh_serve.specs.Rows.{Fared}
use Rattle.wh_serve.specs.declared.allowance.Allowance.{Allowance}
use Rattle.wh_serve.specs.declared.doors.Tag.{Tag}
use Rattle.wh_serve.specs.declared.served.Served.{Served}
use Rattle.wh_serve.specs.declared.served.ServeFault.{ServeFault}
use Rattle.wh_serve.proofs.Beginnings.{own_served}

-- what was taken of known bytes is a front of them
front_taken : (xs : List ℕ) (b : Option (List ℕ)) (bs : List ℕ) → Consumes (Some xs) b bs → (more : List ℕ) × (xs ≡ bs ++ more)
front_taken xs None bs t = absurd t
front_taken xs (Some ys) bs t = (ys, t)

module _ {X : Type 0} (may : Allowance) (cells : ℕ) (fits : X → Floor → Bool) (count : X → ℕ) (grid : Floor) (text : ℕ × Entry → List ℕ) (tag : Tag) (stale own : List ℕ) (before : StandsBefore tag stale) (i j : Input)
    (came : left i ≡ Some (stale ++ sent_with tag own)) (old : Received) (spares : List X) (new : Received) (rest : List X) (had has : Option (List ℕ)) where
  first_read : (read behind : List ℕ) → Takes i j (read ++ behind) → EndsLine read → IsPrefix (behind_begin tag (lines_of read)) (lines_of own)
  first_read read behind takes whole =
      let front = front_taken (stale ++ sent_with tag own) (left j) (read ++ behind) (subst (λ (o : Option (List ℕ)). Consumes o (left j) (read ++ behind)) came takes) in
      own_served tag stale own read (behind ++ front.0) before (front.1 ∙ append_assoc read behind front.0) whole

  pub fared_first : (outcome : Result Served ServeFault) → Fared may cells fits count grid text tag outcome i j old spares new rest had has → ServesFirst may cells fits count grid text own old spares new rest
  fared_first (Ok served) f = record { lines = behind_begin tag (lines_of f.read); first = first_read f.read f.behind f.takes f.whole; replies = f.replies; output = f.output }
  fared_first (Err fault) f = record { lines = behind_begin tag (lines_of f.read); first = first_read f.read f.behind f.takes f.whole; replies = f.replies; output = f.output }
