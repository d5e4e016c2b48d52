-- The texts that are found are those of the rows.
use Rattle.std.proofs.Common.{◌≡◌, ◌∙◌, List, [], Option, None, Some, Bor, ap, codes, map, option_map, refl, subst}
use Rattle.std.specs.Prelude.{IfOk, MatchOption, unwrap_or}
use Rattle.clap.proofs.WalkLemmas.{raw_values-rows}
use Rattle.clap.specs.Words.{found_of, rows_of}
use Rattle.wh_client.specs.Clients.{GiveClients, Text}
use Rattle.wh_client.specs.declared.client.ClientOptions.{ClientOptions}
use Rattle.wh_options.specs.Reads.{clients_in}
use Rattle.wh_options.proofs.read.clients.Goals as goal

texts_or : (o : Option (Bor (List (Bor Text)))) (d : Bor (List (Bor Text))) (v : Option (List Text)) → d.now ≡ [] → option_map (λ s. map (λ t. t.now) s.now) o ≡ v
    → map (λ t. t.now) (unwrap_or o d).now ≡ unwrap_or v []
texts_or None d v none is = ap (λ ts. map (λ (t : Bor Text). t.now) ts) none ∙ ap (λ w. unwrap_or w []) is
texts_or (Some b) d v none is = ap (λ w. unwrap_or w []) is

pub returns : goal.returns
returns c =
    let found = c.get_strs.ensures ∙ raw_values-rows (found_of c.args.serve.now) (codes "client") in
    let texts : map (λ t. t.now) c.unwrap_or.result.now ≡ clients_in (rows_of (found_of c.args.serve.now)) =
    ap (λ (b : Bor (List (Bor Text))). map (λ t. t.now) b.now) c.unwrap_or.ensures ∙ texts_or c.get_strs.result _ _ refl found in
    subst (λ ts. IfOk c.clients_of.result (λ found. MatchOption found ((cs : List ClientOptions) → GiveClients ts cs → ⊥) (λ clients. GiveClients ts clients.items))) texts c.clients_of.ensures
