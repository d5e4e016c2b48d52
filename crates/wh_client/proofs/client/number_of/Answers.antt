-- A number as it is written, and what is none.
use Rattle.std.proofs.Common.{◌≡◌, ◌≤◌, length, get_or, true≢false, sym, ◌∙◌, arith, lit<, Ok}
use Rattle.std.proofs.lemmas.Str.Pattern.{starts_char}
use Rattle.wh_client.proofs.Numbers.{no_plus, no_zero, one_number, read_number}
use Rattle.wh_client.proofs.client.number_of.Goals as goal
use Rattle.wh_client.proofs.client.number_of.Goals.{else-text-gt1-via-then-text-gt1+else-starts_with-2, else-text-gt1-via-else-text-gt1}

pub returns-then-starts_with : goal.returns-then-starts_with
returns-then-starts_with c = λ n. no_plus c.args.text.now n ((starts_char 43 c.args.text.now c.starts_with.result c.starts_with.ensures.cases (lit< tt) (lit< tt)).0 c.if-starts_with.true)

pub returns-then-starts_with-2 : goal.returns-then-starts_with-2
returns-then-starts_with-2 c = λ n. no_zero c.args.text.now n
    ((starts_char 48 c.args.text.now c.starts_with-then-text-gt1.result c.starts_with-then-text-gt1.ensures.cases (lit< tt) (lit< tt)).0 c.if-starts_with-2.true) c.if-text-gt1.true

pub returns-in-Ok : goal.returns-in-Ok
returns-in-Ok c =
    let plain : get_or c.args.text.now 0 0 ≡ 43 → ⊥ =
    λ e. true≢false (sym ((starts_char 43 c.args.text.now c.starts_with.result c.starts_with.ensures.cases (lit< tt) (lit< tt)).1 e) ∙ c.if-starts_with.false) in
    let alone : get_or c.args.text.now 0 0 ≡ 48 → length c.args.text.now ≤ 1 = elim c.else-text-gt1.branch [
      | else-text-gt1-via-then-text-gt1+else-starts_with-2 w ↦
          λ e. absurd (true≢false (sym ((starts_char 48 c.args.text.now w.starts_with-then-text-gt1.result w.starts_with-then-text-gt1.ensures.cases (lit< tt) (lit< tt)).1 e) ∙ w.if-starts_with-2.false))
      | else-text-gt1-via-else-text-gt1 w ↦ λ e. omega (arith, w.if-text-gt1.false)
    ] in
    read_number c.args.text.now c.in-Ok.number c.parse.result c.parse.ensures.value.0 c.in-Ok.is plain alone c.if-number-le61.true

pub returns-in_default : goal.returns-in_default
returns-in_default c = λ n is.
    let read : c.parse.result ≡ Ok n = one_number c.args.text.now n c.parse.result c.parse.ensures.value.0 is in
    let same : n ≡ c.in-Ok.number = cc in
    absurd (omega (arith, same, is.1, c.if-number-le61.false))

pub returns-in_default-2 : goal.returns-in_default-2
returns-in_default-2 c = λ n is.
    let read : c.parse.result ≡ Ok n = one_number c.args.text.now n c.parse.result c.parse.ensures.value.0 is in
    cc
