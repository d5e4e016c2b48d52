-- What commands give, one after another.
use Rattle.std.proofs.Common.{◌≡◌, ◌≢◌, ℕ, List, [], ◌∷◌, ◌++◌, length, drop, refl, sym, ap, ◌∙◌, arith, subst, Option, None, Some, Result, Ok, Err, append_assoc, append-nil, Bool, suc}
use Rattle.std.specs.Prelude.{codes, is_some, true, false}
use Rattle.std.proofs.lemmas.List.Elements.{All-nil, All-append}
use Rattle.wh_grid.specs.Grids.{Floor}
use Rattle.wh_points.specs.Points.{Site}
use Rattle.wh_core.specs.States.{State}
use Rattle.wh_core.specs.Steps.{Run}
use Rattle.wh_core.specs.Laws.{IsBeginning}
use Rattle.wh_book.specs.Drafts.{Seen, AllServed, HasWaysForAll}
use Rattle.wh_book.proofs.Kept.{run-served}
use Rattle.wh_token.specs.Runs.{Ran, RunsOne, entries_of}
use Rattle.wh_token.proofs.Runs.{ran-run}
use Rattle.wh_event.specs.CommandLines.{command_of}
use Rattle.wh_lines.specs.declared.output.WriteFault.{WriteFault}
use Rattle.wh_event.specs.declared.event.Command.{Command}
use Rattle.wh_event.specs.declared.entry.Entry.{Entry}
use Rattle.wh_event.specs.declared.reply.Reply.{Reply}
use Rattle.wh_event.specs.declared.reply.Refusal.{Refusal}
use Rattle.wh_event.specs.declared.fault.LineFault.{LineFault}
use Rattle.wh_log.specs.Told.{Answered, told_text}
use Rattle.wh_replay.specs.declared.asker.Asker.{Asker}
use Rattle.wh_event.specs.declared.fault.LineFault.TheVariants.{Form, TooLong}
use Rattle.wh_replay.specs.Answers.{answered_from, asked, commands_of, outcome_text, answers, replies_to, reply_line, text_of}
use Rattle.wh_replay.specs.Scripts.{Gives, IsOutputOf, Tells}
use Rattle.wh_replay.proofs.Placing.{answered_behind, answered_length}

-- ---- runs

ran_append : {X : Type 0} (fits : X → Floor → Bool) (count : X → ℕ) (site : Site) (caller : ℕ) (cs : List Command) (os : List (Option Entry)) (ds : List Command) (ps : List (Option Entry))
    (s : State) (spares : List X) (mid : State) (left : List X) (new : State) (rest : List X)
    → Ran fits count site caller cs os s spares mid left → Ran fits count site caller ds ps mid left new rest → Ran fits count site caller (cs ++ ds) (os ++ ps) s spares new rest
ran_append {X} fits count site caller [] [] ds ps s spares mid left new rest p q =
    subst (λ (xs : List X). Ran fits count site caller ds ps s xs new rest) p.1 (subst (λ (t : State). Ran fits count site caller ds ps t left new rest) p.0 q)
ran_append fits count site caller (c ∷ cs) (o ∷ os) ds ps s spares mid left new rest p q =
    (p.0, p.1, p.2, ran_append fits count site caller cs os ds ps p.0 p.1 mid left new rest p.3 q)
ran_append fits count site caller [] (o ∷ os) ds ps s spares mid left new rest p q = absurd p
ran_append fits count site caller (c ∷ cs) [] ds ps s spares mid left new rest p q = absurd p

-- each command has its outcome
pub ran_length : {X : Type 0} (fits : X → Floor → Bool) (count : X → ℕ) (site : Site) (caller : ℕ) (cs : List Command) (os : List (Option Entry))
    (s : State) (spares : List X) (new : State) (rest : List X) → Ran fits count site caller cs os s spares new rest → length os ≡ length cs
ran_length fits count site caller [] [] s spares new rest p = refl
ran_length fits count site caller (c ∷ cs) (o ∷ os) s spares new rest p = ap suc (ran_length fits count site caller cs os p.0 p.1 new rest p.3)
ran_length fits count site caller [] (o ∷ os) s spares new rest p = absurd p
ran_length fits count site caller (c ∷ cs) [] s spares new rest p = absurd p

entries_append : (os ps : List (Option Entry)) → entries_of (os ++ ps) ≡ entries_of os ++ entries_of ps
entries_append [] ps = refl
entries_append (None ∷ os) ps = entries_append os ps
entries_append (Some e ∷ os) ps = ap (λ es. e ∷ es) (entries_append os ps)

-- ---- lines

commands_append : (xs ys : List (List ℕ)) → commands_of (xs ++ ys) ≡ commands_of xs ++ commands_of ys
commands_append [] ys = refl
commands_append (x ∷ xs) ys = ap (λ cs. asked (command_of x) ++ cs) (commands_append xs ys) ∙ sym (append_assoc (asked (command_of x)) (commands_of xs) (commands_of ys))

-- one line more in front, whatever it says
replies_by : (text : Answered → List ℕ) (kind : Result (Option Command) LineFault) (xs ys : List (List ℕ)) (os ps : List (Option Answered)) (told : List (List ℕ))
    → ((ns : List (Option Answered)) → length ns ≡ length (commands_of xs) → replies_to text (xs ++ ys) (ns ++ ps) ≡ replies_to text xs ns ++ told)
    → length os ≡ length (asked kind ++ commands_of xs)
    → answers text kind (os ++ ps) ++ replies_to text (xs ++ ys) (drop (length (asked kind)) (os ++ ps)) ≡ (answers text kind os ++ replies_to text xs (drop (length (asked kind)) os)) ++ told
replies_by text (Ok None) xs ys os ps told more e = more os e
replies_by text (Err Form) xs ys os ps told more e = ap (λ rs. codes "refused C1" ∷ rs) (more os e)
replies_by text (Err TooLong) xs ys os ps told more e = ap (λ rs. codes "refused C2" ∷ rs) (more os e)
replies_by text (Ok (Some command)) xs ys [] ps told more e = absurd (omega (arith, e))
replies_by text (Ok (Some command)) xs ys (o ∷ os) ps told more e = ap (λ rs. answers text (Ok (Some command)) (o ∷ os) ++ rs) (more os (omega (arith, e)))

replies_append : (text : Answered → List ℕ) (xs ys : List (List ℕ)) (os ps : List (Option Answered)) → length os ≡ length (commands_of xs) → replies_to text (xs ++ ys) (os ++ ps) ≡ replies_to text xs os ++ replies_to text ys ps
replies_append text [] ys [] ps e = refl
replies_append text [] ys (o ∷ os) ps e = absurd (omega (arith, e))
replies_append text (x ∷ xs) ys os ps e = replies_by text (command_of x) xs ys os ps (replies_to text ys ps) (λ ns d. replies_append text xs ys ns ps d) e

-- ---- what is given

pub gives_nothing : {X : Type 0} (fits : X → Floor → Bool) (count : X → ℕ) (caller : ℕ) (told : List (Option Answered) → List (List ℕ)) (old : Seen) (spares : List X)
    → Gives fits count caller [] told old spares old spares (told [])
gives_nothing fits count caller told old spares = record {
  outcomes = [];
  replies_are = refl;
  ran = (refl, refl);
  history = sym (append-nil old.history);
  run = refl;
  served = λ formed. All-nil _;
  site = refl;
  opening = refl;
}

-- what comes after at the same site
pub output_join : {X : Type 0} (fits : X → Floor → Bool) (count : X → ℕ) (asker : Asker) (xs ys : List (List ℕ)) (old : Seen) (spares : List X) (mid : Seen) (left : List X) (new : Seen) (rest : List X)
    (had more : List (List ℕ)) → IsOutputOf fits count asker xs old spares mid left had → IsOutputOf fits count asker ys mid left new rest more → IsOutputOf fits count asker (xs ++ ys) old spares new rest (had ++ more)
output_join {X} fits count asker xs ys old spares mid left new rest had more p q =
    let here : Ran fits count old.site asker.caller (commands_of ys) q.outcomes mid.state left new.state rest =
    subst (λ (t : Site). Ran fits count t asker.caller (commands_of ys) q.outcomes mid.state left new.state rest) p.site q.ran in
    let ran : Ran fits count old.site asker.caller (commands_of (xs ++ ys)) (p.outcomes ++ q.outcomes) old.state spares new.state rest =
    subst (λ cs. Ran fits count old.site asker.caller cs (p.outcomes ++ q.outcomes) old.state spares new.state rest) (sym (commands_append xs ys))
    (ran_append fits count old.site asker.caller (commands_of xs) p.outcomes (commands_of ys) q.outcomes old.state spares mid.state left new.state rest p.ran here) in
    let first = answered_from (length old.history) old.state.clock p.outcomes in
    let second = answered_from (length mid.history) mid.state.clock q.outcomes in
    let long = answered_length (length old.history) old.state.clock p.outcomes ∙ ran_length fits count old.site asker.caller (commands_of xs) p.outcomes old.state spares mid.state left p.ran in
    record {
      outcomes = p.outcomes ++ q.outcomes;
      replies_are = ap (λ rs. rs ++ more) p.replies_are ∙ ap (λ rs. replies_to (told_text asker.form) xs first ++ rs) q.replies_are ∙ sym (replies_append (told_text asker.form) xs ys first second long)
          ∙ ap (λ rs. replies_to (told_text asker.form) (xs ++ ys) rs) (sym (answered_behind old.site old.state mid.state old.history mid.history p.outcomes q.outcomes p.history p.run));
      ran = ran;
      history = q.history ∙ ap (λ es. es ++ entries_of q.outcomes) p.history ∙ append_assoc old.history (entries_of p.outcomes) (entries_of q.outcomes) ∙ ap (λ es. old.history ++ es) (sym (entries_append p.outcomes q.outcomes));
      run = ran-run fits count old.site asker.caller (commands_of (xs ++ ys)) (p.outcomes ++ q.outcomes) old.state spares new.state rest ran;
      served = λ ways. subst AllServed (sym (entries_append p.outcomes q.outcomes))
          (All-append (λ entry. entry.reply ≢ Reply.Refused Refusal.NoPath) (entries_of p.outcomes) (entries_of q.outcomes) (p.served ways)
          (q.served (subst (λ o. HasWaysForAll mid.site o) (sym p.opening) (subst (λ (t : Site). HasWaysForAll t old.opening) (sym p.site) ways))));
      site = q.site ∙ p.site;
      opening = q.opening ∙ p.opening;
    }

-- what one line gives
pub output_one : {X : Type 0} (fits : X → Floor → Bool) (count : X → ℕ) (asker : Asker) (line : List ℕ) (old : Seen) (spares : List X) (new : Seen) (rest : List X) (replies : List (List ℕ))
    → Gives fits count asker.caller (asked (command_of line)) (answers (told_text asker.form) (command_of line)) old spares new rest replies → IsOutputOf fits count asker (line ∷ []) old spares new rest replies
output_one fits count asker line old spares new rest replies g = record {
  outcomes = g.outcomes;
  replies_are = g.replies_are ∙ sym (append-nil (answers (told_text asker.form) (command_of line) (answered_from (length old.history) old.state.clock g.outcomes)));
  ran = subst (λ (cs : List Command). Ran fits count old.site asker.caller cs g.outcomes old.state spares new.state rest) (sym (append-nil (asked (command_of line)))) g.ran;
  history = g.history;
  run = g.run;
  served = g.served;
  site = g.site;
  opening = g.opening;
}

-- one line more behind others
pub output_push : {X : Type 0} (fits : X → Floor → Bool) (count : X → ℕ) (asker : Asker) (lines : List (List ℕ)) (line : List ℕ) (old : Seen) (spares : List X) (mid : Seen) (left : List X) (new : Seen) (rest : List X)
    (had more : List (List ℕ)) → IsOutputOf fits count asker lines old spares mid left had → Gives fits count asker.caller (asked (command_of line)) (answers (told_text asker.form) (command_of line)) mid left new rest more
    → IsOutputOf fits count asker (lines ++ line ∷ []) old spares new rest (had ++ more)
output_push fits count asker lines line old spares mid left new rest had more p q =
    output_join fits count asker lines (line ∷ []) old spares mid left new rest had more p (output_one fits count asker line mid left new rest more q)

pub replies_text : (xs ys : List (List ℕ)) → text_of (xs ++ ys) ≡ text_of xs ++ text_of ys
replies_text [] ys = refl
replies_text (x ∷ xs) ys = ap (λ l. reply_line x ++ l) (replies_text xs ys) ∙ sym (append_assoc (reply_line x) (text_of xs) (text_of ys))

-- what one outcome answers
abbrev pub answered_at : ℕ → ℕ → Option Entry → Option Answered
answered_at place clock None = None
answered_at place clock (Some entry) = Some (record { place = place; clock = clock; reply = entry.reply })

answered_one : (place clock : ℕ) (outcome : Option Entry) → answered_from place clock (outcome ∷ []) ≡ answered_at place clock outcome ∷ []
answered_one place clock None = refl
answered_one place clock (Some entry) = refl

-- what one command is answered
abbrev pub reply_to : (Answered → List ℕ) → ℕ → ℕ → Option Entry → List ℕ
reply_to text place clock outcome = outcome_text text (answered_at place clock outcome)

-- what was told of one command's outcome
pub tells_outcome : (text : Answered → List ℕ) (place clock : ℕ) (outcome : Option Entry) (added : Bool) (had has : List Entry) (result : Result ℕ WriteFault) (before after : Option (List ℕ))
    → is_some outcome ≡ added → has ≡ had ++ entries_of (outcome ∷ [])
    → (added ≡ false → Tells result before after (reply_line (codes "refused E90")))
    → (added ≡ true → (front : List Entry) (entry : Entry) → has ≡ front ++ entry ∷ [] → Tells result before after (reply_line (text (record { place = place; clock = clock; reply = entry.reply }))))
    → Tells result before after (reply_line (reply_to text place clock outcome))
tells_outcome text place clock None added had has result before after is e none some = none (sym is)
tells_outcome text place clock (Some entry) added had has result before after is e none some = some (sym is) had entry e

pub gives_one : {X : Type 0} (fits : X → Floor → Bool) (count : X → ℕ) (asker : Asker) (place clock : ℕ) (command : Command) (old : Seen) (spares : List X) (new : Seen) (rest : List X) (added : Bool)
    → place ≡ length old.history → clock ≡ old.state.clock
    → IsBeginning old.site old.opening → Run old.site old.opening old.history old.state
    → (one : RunsOne fits count asker.caller command added old spares new rest)
    → Gives fits count asker.caller (command ∷ []) (answers (told_text asker.form) (Ok (Some command))) old spares new rest (reply_to (told_text asker.form) place clock one.outcome ∷ [])
gives_one fits count asker place clock command old spares new rest added here now begins before one =
    let ran : Ran fits count old.site asker.caller (command ∷ []) (one.outcome ∷ []) old.state spares new.state rest = (new.state, rest, one.moves, (refl, refl)) in
    let run = ran-run fits count old.site asker.caller (command ∷ []) (one.outcome ∷ []) old.state spares new.state rest ran in
    record {
      outcomes = one.outcome ∷ [];
      replies_are = ap (λ (n : ℕ). reply_to (told_text asker.form) n clock one.outcome ∷ []) here ∙ ap (λ (n : ℕ). reply_to (told_text asker.form) (length old.history) n one.outcome ∷ []) now
          ∙ ap (answers (told_text asker.form) (Ok (Some command))) (sym (answered_one (length old.history) old.state.clock one.outcome));
      ran = ran;
      history = one.history;
      run = run;
      served = λ ways. run-served old.site old.opening old.history old.state (entries_of (one.outcome ∷ [])) new.state begins before run ways;
      site = one.stays.site;
      opening = one.stays.opening;
    }
