use Rattle.std.proofs.Common.{◌⊎◌, ℕ, List, inl, inr, refl, subst}
use Rattle.wh_service.specs.Fleets.{IsWhyUnclaimed, IsWhyUnseated}
use Rattle.wh_service.proofs.Convoyed.{seated_at}
use Rattle.wh_service.proofs.Lasting.{seated_on}
use Rattle.wh_service.proofs.convoys.start_convoy.Goals as goal

pub returns-in-Err-clause-fault : goal.returns-in-Err-clause-fault
returns-in-Err-clause-fault g c = inl (c.in-Err.trouble, refl, inl c.in-Err.ensures.fault)

pub returns-in-Err-stand_over-clause-fault : goal.returns-in-Err-stand_over-clause-fault
returns-in-Err-stand_over-clause-fault g c = inr (c.in-Ok.started.0, c.in-Ok.ensures.ok, c.in-Err-stand_over.ensures.fault)

pub returns-in-Err-equip_for-clause-fault : goal.returns-in-Err-equip_for-clause-fault
returns-in-Err-equip_for-clause-fault g c =
    let fleet = c.args.options.now.fleet in
    inl (
      c.in-Err-equip_for.trouble,
      refl,
      inr (record {
        start = c.in-Ok.started.0;
        starts = c.in-Ok.ensures.ok;
        why = subst (λ (slots : List ℕ). IsWhyUnseated slots c.in-Err-equip_for.trouble ⊎ IsWhyUnclaimed fleet.slots c.in-Err-equip_for.trouble) c.slots.ensures.value c.in-Err-equip_for.ensures.fault;
      }),
    )

pub returns-in-Ok-equip_for-clause-seated : goal.returns-in-Ok-equip_for-clause-seated
returns-in-Ok-equip_for-clause-seated g c = seated_on _ _ _ _ _ _ _ c.requires.grid (seated_at _ _ _ _ _ _ _ c.slots.ensures.value c.in-Ok-equip_for.ensures.ok)
