use Rattle.std.proofs.Common.{◌∙◌, ◌++◌, ◌∷◌, [], inl, inr, sym, subst, refl}
use Rattle.wh_lines.specs.Input.{Gathered}
use Rattle.wh_lines.specs.declared.lines.Next.{Next}
use Rattle.wh_session.specs.declared.stepping.Step.{Step}
use Rattle.wh_session.specs.declared.fault.SessionFault.{SessionFault}
use Rattle.wh_session.specs.Steps.{Steps, Halts}
use Rattle.wh_session.proofs.Taking.{takes_line, takes_last, takes_unserved, halts_line}
use Rattle.wh_session.proofs.stepping.take_next.Goals as goal
use Rattle.wh_session.proofs.stepping.take_next.Goals.{in-Whole+else-is_over, in-Last+then-serves_last}

pub returns-else-serves_last-clause-ok : goal.returns-else-serves_last-clause-ok
returns-else-serves_last-clause-ok g c s h =
    let gathered = subst (λ (next : Next). Gathered next c.args.lines.now c.next_line.new.self c.next_line.new.line) c.in-Last.is c.in-Ok.ensures.ok in (
      s,
      h,
      takes_unserved c.args.lines.now c.next_line.new.self s (g.M.Machine.says c.args.machine.now s) (g.M.Machine.logs c.args.machine.now s) c.next_line.new.line g.M.Machine.serves_last
          (sym c.serves_last.ensures ∙ c.if-serves_last.false) gathered,
    )

pub returns-in-Ok-serve-clause-ok : goal.returns-in-Ok-serve-clause-ok
returns-in-Ok-serve-clause-ok g c s h =
    let t = c.in-Ok-serve.ensures.ok s h in
    let i = c.args.lines.now in
    let j = c.next_line.new.self in
    let line = c.next_line.new.line in (
      t.0,
      t.1,
      elim c.match-next.branch [
        | in-Whole+else-is_over w ↦
            let gathered = subst (λ (next : Next). Gathered next i j line) w.in-Whole.is c.in-Ok.ensures.ok in
            subst (λ (x : Step). Steps g.M.Machine.serves g.M.Machine.serves_last x i j s t.0 (g.M.Machine.says c.args.machine.now s) (g.M.Machine.says c.serve.new.self t.0) (g.M.Machine.logs c.args.machine.now s) (g.M.Machine.logs c.serve.new.self t.0)) (sym w.step-is)
            (takes_line g.M.Machine.serves i j s t.0 (g.M.Machine.says c.args.machine.now s) (g.M.Machine.says c.serve.new.self t.0) (g.M.Machine.logs c.args.machine.now s) (g.M.Machine.logs c.serve.new.self t.0) line gathered t.2)
        | in-Last+then-serves_last w ↦
            let gathered = subst (λ (next : Next). Gathered next i j line) w.in-Last.is c.in-Ok.ensures.ok in
            subst (λ (x : Step). Steps g.M.Machine.serves g.M.Machine.serves_last x i j s t.0 (g.M.Machine.says c.args.machine.now s) (g.M.Machine.says c.serve.new.self t.0) (g.M.Machine.logs c.args.machine.now s) (g.M.Machine.logs c.serve.new.self t.0)) (sym w.step-is)
            (takes_last g.M.Machine.serves i j s t.0 (g.M.Machine.says c.args.machine.now s) (g.M.Machine.says c.serve.new.self t.0) (g.M.Machine.logs c.args.machine.now s) (g.M.Machine.logs c.serve.new.self t.0) line g.M.Machine.serves_last
            (sym w.serves_last.ensures ∙ w.if-serves_last.true) gathered t.2)
      ],
    )

pub returns-in-Err-serve-clause-err : goal.returns-in-Err-serve-clause-err
returns-in-Err-serve-clause-err g c s h =
    let t = c.in-Err-serve.ensures.err s h in
    let i = c.args.lines.now in
    let j = c.next_line.new.self in
    let line = c.next_line.new.line in (
      t.0,
      t.1,
      subst (λ (f : SessionFault). Halts g.M.Machine.halts g.M.Machine.serves_last f i j s t.0) (sym c.halted.ensures) (elim c.match-next.branch [
        | in-Whole+else-is_over w ↦
            let gathered = subst (λ (next : Next). Gathered next i j line) w.in-Whole.is c.in-Ok.ensures.ok in
            halts_line g.M.Machine.halts g.M.Machine.serves_last c.in-Err-serve.halt i j s t.0 line gathered.raw (gathered.raw ++ 10 ∷ []) gathered.plain (inr refl) gathered.says gathered.ends t.2
        | in-Last+then-serves_last w ↦
            let gathered = subst (λ (next : Next). Gathered next i j line) w.in-Last.is c.in-Ok.ensures.ok in
            halts_line g.M.Machine.halts g.M.Machine.serves_last c.in-Err-serve.halt i j s t.0 line gathered.raw gathered.raw gathered.plain (inl (sym w.serves_last.ensures ∙ w.if-serves_last.true, refl, gathered.ends.1, gathered.ends.2)) gathered.says gathered.ends.0 t.2
      ]),
    )
