-- Each word so far names a right.
use Rattle.std.proofs.Common.{◌≡◌, true, take}
use Rattle.std.specs.List.{list_all}
use Rattle.wh_client.specs.Clients.{is_right}
use Rattle.wh_client.proofs.client.are_rights.Given as goal

abbrev pub invariant-loop-word : goal.invariant-loop-word
invariant-loop-word l = list_all (λ w. is_right w.now) (take l.word-index l.words) ≡ true
