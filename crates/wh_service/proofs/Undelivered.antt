-- What is delivered behind a script, where nothing is kept.
use Rattle.std.proofs.Common.{◌≢◌, Result, Ok, Err, subst}
use Rattle.std.specs.Prelude.{IfOk, OnOk}
use Rattle.wh_deliver.specs.Machines.{Records}
use Rattle.wh_deliver.specs.Delivers.{KeepsShort}
use Rattle.wh_deliver.specs.declared.delivering.DeliverFault.{DeliverFault}
use Rattle.wh_deliver.specs.declared.delivering.DeliverFault.TheVariants.{Unkept}

-- where no call of the keeper fails, none is told to have failed
pub plain_short : {H : Type 0} (keeps : H → Records → H → Type 0) (fault : DeliverFault) (stood : H) (records : Records) (holds : H) → KeepsShort keeps (λ a r b. ⊥) fault stood records holds → fault ≢ Unkept
plain_short keeps fault stood records holds short is = subst (λ (f : DeliverFault). KeepsShort keeps (λ a r b. ⊥) f stood records holds) is short

-- what holds of an answer that is no fault
pub ok_joined : {T E : Type 0} (r : Result T E) (A : Type 0) (P Q : T → Type 0) → ((t : T) → A → P t → Q t) → OnOk r A → IfOk r P → IfOk r Q
ok_joined (Ok t) A P Q f a p = f t a p
ok_joined (Err e) A P Q f a p = tt
