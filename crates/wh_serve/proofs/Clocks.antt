-- What a line is told as, with the clock of a receipt.
use Rattle.std.proofs.Common.{◌≡◌, ℕ, ◌≤◌, List, length, take, Some, slice_get, sym, ap, ◌∙◌, arith}
use Rattle.std.proofs.lemmas.List.{take-append-le}
use Rattle.std.proofs.lemmas.Option.{slice_get_within}
use mathlib.Core.List.{IsPrefix}
use Rattle.wh_event.specs.declared.entry.Entry.{Entry}
use Rattle.wh_log.specs.declared.form.Form.{Form}
use Rattle.wh_log.specs.Told.{told_text}
use Rattle.wh_desk.specs.Pasts.{Origin}
use Rattle.wh_desk.specs.Calls.{IsClockAt}
use Rattle.wh_desk.specs.declared.answer.Receipt.{Receipt}
use Rattle.wh_replay.specs.Answers.{clock_behind}
use Rattle.wh_replay.proofs.Placing.{run_clock}
use Rattle.wh_serve.specs.Texts.{InEach, clock_at, receipt_text}
use Rattle.wh_serve.specs.Tellings.{own_text, texts}
use Rattle.wh_serve.specs.declared.told.Told.{Told}
use Rattle.wh_serve.specs.declared.told.Told.TheVariants.{Nothing, NoCommand, Without, Received, Stopped}

take_begin : {A : Type 0} (xs ys : List A) (k : ℕ) → IsPrefix xs ys → k ≤ length xs → take k xs ≡ take k ys
take_begin xs ys k p le = sym (take-append-le k xs p.0 le) ∙ ap (take k) p.1

-- the clock at an entry's place is the same in each history that goes on
pub clock_stays : (origin : Origin) (known : List Entry) (position clock : ℕ) (entry : Entry) → IsClockAt origin known position clock → slice_get known position ≡ Some entry
    → InEach known (λ history. clock ≡ clock_at origin history position)
clock_stays origin known position clock entry at stands = λ history begins.
    (let within = slice_get_within known position entry stands in
    at.2 ∙ run_clock origin.site origin.opening (take position known) at.0 at.1
    ∙ ap (λ (l : List Entry). clock_behind origin.opening.clock l) (take_begin known history position begins (omega (arith, within))))

-- so a receipt is told as in that history
pub own_is : (form : Form) (origin : Origin) (history : List Entry) (receipt : Receipt) → receipt.clock ≡ clock_at origin history receipt.position
    → own_text form receipt ≡ receipt_text form origin history (receipt.position, receipt.entry)
own_is form origin history receipt same = ap (λ (n : ℕ). told_text form (record { place = receipt.position; clock = n; reply = receipt.entry.reply })) same

-- one line or none
pub texts_few : (form : Form) (told : Told) → length (texts form told) ≤ 1
texts_few form Nothing = omega arith
texts_few form (NoCommand fault) = omega arith
texts_few form (Without why) = omega arith
texts_few form (Received receipt) = omega arith
texts_few form Stopped = omega arith
