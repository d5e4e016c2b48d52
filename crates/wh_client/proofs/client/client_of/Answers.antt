-- The number before the first `=`, and what follows it.
use Rattle.std.proofs.Common.{refl, sym, subst, lit<, Some}
use Rattle.std.proofs.lemmas.Str.Pattern.{split_once_first}
use Rattle.wh_client.specs.Clients.{GivesPlace, IsNumber}
use Rattle.wh_client.specs.declared.client.ClientOptions.{ClientOptions}
use Rattle.wh_client.proofs.client.client_of.Goals as goal

pub returns-in_default-number_of : goal.returns-in_default-number_of
returns-in_default-number_of c =
    let cut = split_once_first 61 c.args.text.now (Some (c.in-Some.number, c.in-Some.place)) c.in-Some.ensures.cases (lit< tt) in
    λ o gives. c.in_default-number_of.ensures o.number (subst (λ t. IsNumber t o.number) (sym cut.1) gives.1)

pub returns-in_default-2 : goal.returns-in_default-2
returns-in_default-2 c =
    let cut = split_once_first 61 c.args.text.now (Some (c.in-Some.number, c.in-Some.place)) c.in-Some.ensures.cases (lit< tt) in
    let none = rw c.in_default-2.is at c.in_ok-folder.ensures in
    λ o gives. none o (subst (λ t. GivesPlace t o) (sym cut.2) gives.2)

pub returns : goal.returns
returns c =
    let cut = split_once_first 61 c.args.text.now (Some (c.in-Some.number, c.in-Some.place)) c.in-Some.ensures.cases (lit< tt) in
    let made : ClientOptions = record { number = c.in-Some-number_of.number; folder = c.in-Some-2.folder; rights = c.in-Some-2.rights } in
    let place = rw c.in-Some-2.is at c.in_ok-folder.ensures in
    (cut.0, subst (λ t. IsNumber t c.in-Some-number_of.number) cut.1 c.in-Some-number_of.ensures, subst (λ t. GivesPlace t made) cut.2 (place made refl refl))
