use Rattle.std.proofs.Common.{rules, All, ◌≡◌, [], false, map, ap, sym, ◌∙◌, subst}
use Rattle.std.proofs.lemmas.List.{map_push}
use Rattle.std.proofs.lemmas.List.Elements.{All-push}
use Rattle.wh_live.specs.Clients.{ReadInTurn}
use Rattle.wh_live.proofs.Turns.{read_more}
use Rattle.wh_live.proofs.clients.read_clients.Goals as goal

pub loop-alloc-preserved : goal.loop-alloc-preserved
loop-alloc-preserved g c =
    let works = c.loop-alloc.works.items in
    let going : c.loop-alloc.lines.ended ≡ false = search rules in (
      subst (λ l. ReadInTurn c.args.lines.now c.read_client.new.lines l) (sym (ap (map (λ work. work.commands.items)) c.in_ok-push.ensures.items ∙ map_push (λ work. work.commands.items) works c.in_ok-read_client.field-0))
          (read_more c.args.lines.now c.loop-alloc.lines c.read_client.new.lines (map (λ work. work.commands.items) works) c.in_ok-read_client.field-0.commands.items c.loop-alloc.invariant.0 going c.in_ok-read_client.ensures.ok),
      subst (All (λ work. work.spares.items ≡ [])) (sym c.in_ok-push.ensures.items)
          (All-push (λ work. work.spares.items ≡ []) works c.in_ok-read_client.field-0 c.loop-alloc.invariant.1 c.in_ok-read_client.ensures.spares),
    )
