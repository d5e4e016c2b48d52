-- One client more, or why there is none.
use Rattle.std.proofs.Common.{◌∙◌, sym}
use Rattle.wh_client.specs.Clients.{GiveClients}
use Rattle.std.proofs.Common.{subst}
use Rattle.wh_client.proofs.Listed.{give_at, none_at, nothing_given, taken_at}
use Rattle.wh_client.proofs.client.clients_of.Goals as goal

pub loop-text-init : goal.loop-text-init
loop-text-init c = subst (GiveClients _) (sym c.new-clients.ensures.items) nothing_given

pub returns-in_default : goal.returns-in_default
returns-in_default c =
    let none = rw c.in_default.is at c.in_ok-client.ensures in
    λ cs gives. none_at c.args.texts.now c.loop-text.text-index _ c.loop-text-test.true none cs gives

pub returns-then-is_taken : goal.returns-then-is_taken
returns-then-is_taken c =
    let is = rw c.in-Some.is at c.in_ok-client.ensures in
    let taken = rw c.as_slice.ensures.value at (sym c.is_taken.ensures ∙ c.if-is_taken.true) in
    λ cs gives. taken_at c.args.texts.now c.loop-text.text-index _ c.loop-text.clients.items c.in-Some.client c.loop-text-test.true c.loop-text.invariant is taken cs gives

pub loop-text-preserved : goal.loop-text-preserved
loop-text-preserved c =
    let is = rw c.in-Some.is at c.in_ok-client.ensures in
    let none = rw c.as_slice.ensures.value at (sym c.is_taken.ensures ∙ c.if-is_taken.false) in
    rw (c.push.ensures.items, c.in_ok-push.was) (give_at c.args.texts.now c.loop-text.text-index _ c.loop-text.clients.items c.in-Some.client c.loop-text-test.true c.loop-text.invariant is none)
