-- Why no state was told.
use Rattle.std.proofs.Common.{ℕ, List, Option, inr, refl}
use Rattle.std.proofs.KnownBytes.{Keeps-refl}
use Rattle.wh_lines.specs.Input.{Input}
use Rattle.wh_points.specs.Points.{Site}
use Rattle.wh_handover.specs.declared.front.HandoverFault.{HandoverFault}
use Rattle.wh_handover.specs.declared.front.HandoverFault.TheVariants as fault
use Rattle.wh_handover.specs.Handing.{IsWhyNone}
use Rattle.wh_options.specs.declared.chosen.StateOptions.{StateOptions}
use Rattle.wh_service.specs.States.{IsWhyUnstated, LogHeld, StatesNone, trouble_of}

module _ (options : StateOptions) (site : Site) (text : List ℕ) (old new : Input) (had file : Option (List ℕ)) (held : LogHeld options.homes old new file site text) where
  none : (f : HandoverFault) → IsWhyNone site text options.after f → StatesNone options (trouble_of f) old new file
  none f why = record { site = site; text = text; held = held; fault = f; why = why; told_is = refl }

  -- the log tells no state
  pub unstated : (f : HandoverFault) → IsWhyNone site text options.after f → IsWhyUnstated options (trouble_of f) old new had had file
  unstated fault.Empty why = ((site, held.site_read), Keeps-refl had)
  unstated (fault.Flawed line reason) why = (inr (none (fault.Flawed line reason) why), Keeps-refl had)
  unstated (fault.Bad line) why = (inr (none (fault.Bad line) why), Keeps-refl had)
  unstated fault.NoMemory why = Keeps-refl had
