use Rattle.std.proofs.Common.{◌≤◌, Option, inl, inr, map, refl, subst}
use Rattle.std.specs.Prelude.{IfSome}
use Rattle.std.proofs.KnownBytes.{Keeps-refl}
use Rattle.wh_options.specs.Options.{WordsGive}
use Rattle.wh_options.specs.declared.chosen.Options.{Options}
use Rattle.wh_options.specs.declared.chosen.Options.TheVariants.{Replay}
use Rattle.wh_options.specs.declared.chosen.VehicleOptions.{VehicleOptions}
use Rattle.wh_program.specs.Barring.{Begins}
use Rattle.wh_program.specs.Programs.{HasRange, pace_of}
use Rattle.wh_program.proofs.Whole.{declines, in_range}
use Rattle.wh_program.proofs.running.run.Goals as goal

-- a replay with vehicles
pub returns-in-Some : goal.returns-in-Some
returns-in-Some g c =
    inr (inl (record {
      options = c.in-Some.replay;
      given = subst (λ (o : Options). WordsGive (map g.A.AsStr.text c.args.words.now) o) c.in-Some.ensures.0 c.in-Ok.ensures.ok;
      pace = c.in-Some.pace;
      late = c.in-Some.ensures.1;
      begins = subst (λ (o : Options). Begins o (pace_of o)) c.in-Some.ensures.0 c.in-Ok-let_begin.ensures.ok;
      files = c.drive_by_name-came.ensures.0;
      named = c.drive_by_name-came.ensures.1;
      came = c.drive_by_name-came.result;
      did = c.drive_by_name-came.ensures.2;
      ends = c.end_drive.ensures;
    }))

-- the state as the vehicles stand
pub returns-in-Some-standing : goal.returns-in-Some-standing
returns-in-Some-standing g c =
    inr (inr (inl (record {
      options = c.in-Some-standing.state;
      given = subst (λ (o : Options). WordsGive (map g.A.AsStr.text c.args.words.now) o) c.in-Some-standing.ensures.0 c.in-Ok.ensures.ok;
      stand = c.in-Some-standing.ensures.1;
      begins = subst (λ (o : Options). Begins o (pace_of o)) c.in-Some-standing.ensures.0 c.in-Ok-let_begin.ensures.ok;
      came = c.stand_by_name-came.result;
      did = c.stand_by_name-came.ensures;
      ends = c.end_stand.ensures;
    })))

-- one that is not begun
pub returns-in-Ok : goal.returns-in-Ok
returns-in-Ok g c =
    inr (inr (inr (inr (record {
      options = c.in-Ok.options;
      given = c.in-Ok.ensures.ok;
      why = c.in-Err-let_begin.bar.trouble;
      bars = c.in-Err-let_begin.ensures.fault;
      unread = refl;
      untold = Keeps-refl _;
      ends = c.bar_out.ensures;
    }))))

pub returns : goal.returns
returns g c =
    inr (inr (inr (inl (declines _ _ _ _ _ _ c.decline-came.result _ _ _ _ c.decline-came.ensures.told.0 c.refusal_of.ensures.asked c.refusal_of.ensures.memory c.decline-came.ensures.told.1 c.end.ensures _ _ c.decline-came.ensures.output
    c.in-Err.ensures.refused c.in-Err.ensures.help c.in-Err.ensures.version))))

pub obey_by_name-came-requires-clause-range : goal.obey_by_name-came-requires-clause-range
obey_by_name-came-requires-clause-range g c κs within = in_range (map g.A.AsStr.text c.args.words.now) _ c.in-Ok.ensures.ok

pub drive_by_name-came-requires-clause-ahead : goal.drive_by_name-came-requires-clause-ahead
drive_by_name-came-requires-clause-ahead g c κs within =
    let range : HasRange (Replay c.in-Some.replay) = subst HasRange c.in-Some.ensures.0 (in_range (map g.A.AsStr.text c.args.words.now) _ c.in-Ok.ensures.ok) in
    subst (λ (o : Option VehicleOptions). IfSome o (λ pace. 1 ≤ pace.ahead)) c.in-Some.ensures.1 range.1
