use Rattle.std.proofs.Common.{◌<◌, ℕ, List, length, ap, sym, subst, ◌∙◌}
use Rattle.std.specs.List.{All}
use Rattle.wh_event.specs.declared.entry.Entry.{Entry}
use Rattle.wh_board.specs.Boards.{IsBoardOf}
use Rattle.wh_desk.proofs.journal.Journal.look.Goals as goal

pub returns-in-Ok-clause-board : goal.returns-in-Ok-clause-board
returns-in-Ok-clause-board g c =
    subst (λ (l : List Entry). IsBoardOf (record { origin = g.N.DeskName.origin; history = l }) c.board.result) (sym c.in-Ok.ensures.known) c.board.ensures.board

pub returns-in-Ok-clause-own : goal.returns-in-Ok-clause-own
returns-in-Ok-clause-own g c =
    let long = ap (λ (l : List Entry). length l) c.in-Ok.ensures.known ∙ sym c.board.ensures.entries in
    subst (λ (n : ℕ). All (λ (x : ℕ × Entry). x.0 < n) c.learns.new.pass.list) long c.in-Ok.ensures.own
