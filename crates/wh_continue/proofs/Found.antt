-- What a run starts from, by what its file was read as.
use Rattle.std.proofs.Common.{◌≡◌, ◌<◌, ◌≤◌, ◌+◌, ◌^◌, ◌∙◌, ℕ, suc, Bool, List, [], ◌∷◌, ◌++◌, length, ap, sym, subst, arith, length-append, inl, inr, Option, None, Some}
use Rattle.std.proofs.lemmas.List.{length-map}
use Rattle.std.specs.Prelude.{IfOk, IfErr, IfSome, cond, true, false, Result, Ok, Err}
use Rattle.std.specs.List.{AllByRecursion}
use Rattle.wh_points.specs.Points.{Site}
use Rattle.wh_log.specs.declared.version.Version.{Version}
use Rattle.wh_log.specs.Logs.{IsSlots}
use Rattle.wh_core.specs.States.{State}
use Rattle.wh_resume.specs.Drafts.{Seen}
use Rattle.wh_front.specs.declared.front.Front.{Front}
use Rattle.wh_front.specs.declared.line.Line.{Line}
use Rattle.wh_front.specs.declared.line.Line.TheVariants as lines
use Rattle.wh_front.specs.Fronts.{Fits as FitsFront, front_lines, rules_lines, seat_lines, task_lines}
use Rattle.wh_front.specs.Ranges.{are_told}
use Rattle.wh_restore.specs.declared.reason.Reason.{Reason}
use Rattle.wh_resume.specs.declared.recovery.Preface.{Preface}
use Rattle.wh_resume.specs.Resuming.{TellsBook, TellsFrom}
use Rattle.wh_resume.specs.declared.recovery.Resumed.{Resumed}
use Rattle.wh_resume.specs.declared.recovery.Recovery.{Recovery}
use Rattle.wh_resume.specs.declared.recovery.Recovery.TheVariants as told
use Rattle.wh_continue.specs.Before.{Before}
use Rattle.wh_continue.specs.Starting.{GoesOnIn, IsUnbegun, IsWhyNoStart, IsWhyNotOn, StartsAt, StartsByFile, before_of, first_lines}
use Rattle.wh_continue.specs.declared.starting.Start.{Start}
use Rattle.wh_continue.specs.declared.starting.StartFault.{StartFault}
use Rattle.wh_continue.specs.declared.starting.StartFault.TheVariants.{Bad, Flawed, Unread, NoMemory}
use Rattle.wh_continue.proofs.Closing.{told_in}

-- a front has few lines
one_line : (told : Bool) (line : Line) → length (cond told (line ∷ []) []) ≤ 1
one_line true line = omega arith
one_line false line = omega arith

few_lines : (f : Front) → FitsFront f → length (front_lines f) < 2 ^ 32
few_lines f fits =
    let rules : length (rules_lines f.rules) ≤ 1 = one_line (are_told f.rules.homes f.rules.age) (lines.Rules f.rules) in
    let end : List Line = lines.Begin ∷ [] in
    let first : List Line = rules_lines f.rules ++ lines.State f.clock f.closed f.kind ∷ lines.Entries f.counts ∷ [] in
    let agents : List Line = first ++ seat_lines f.seats in
    let orders : List Line = agents ++ task_lines f.tasks in
    let all : length (front_lines f) ≡ suc (suc (length orders + 1)) = ap (λ (n : ℕ). suc (suc n)) (length-append orders end) in
    let head : length first ≡ length (rules_lines f.rules) + 2 = length-append (rules_lines f.rules) (lines.State f.clock f.closed f.kind ∷ lines.Entries f.counts ∷ []) in
    let seats : length agents ≡ length first + suc (length f.seats) = length-append first (seat_lines f.seats) ∙ ap (λ (n : ℕ). length first + suc n) (length-map f.seats lines.Agent) in
    let tasks : length orders ≡ length agents + suc (length f.tasks) = length-append agents (task_lines f.tasks) ∙ ap (λ (n : ℕ). length agents + suc n) (length-map f.tasks lines.Task) in
    omega (arith, rules, fits.agents.1, fits.few, all, head, seats, tasks)

module _ (site : Site) (slots begun : List ℕ) (file : Option (List ℕ)) (same : begun ≡ first_lines slots) where
  -- what recovering told, of these first lines
  told_of : (said other : Recovery) → TellsFrom site begun file said → said ≡ other → TellsFrom site (first_lines slots) file other
  told_of said other tells is =
      subst (λ (b : List ℕ). TellsFrom site b file other) same (subst (λ (r : Recovery). TellsFrom site begun file r) is tells)

  pub file_is_bad : (said : Recovery) (line bytes : ℕ) → TellsFrom site begun file said → said ≡ told.Bad line bytes → IsWhyNoStart site slots file (Bad line)
  file_is_bad said line bytes tells is =
      let t = told_of said (told.Bad line bytes) tells is in
      (t.0, t.1, inl (record { bytes = bytes; ends = t.2.0; why = t.2.1 }))

  pub file_is_flawed : (said : Recovery) (line : ℕ) (reason : Reason) → TellsFrom site begun file said → said ≡ told.Flawed line reason → IsWhyNoStart site slots file (Flawed line reason)
  file_is_flawed said line reason tells is = told_of said (told.Flawed line reason) tells is

  -- ---- no run was begun
  unbegun_start : (setting : Site) (start : Start) → TellsFrom site (first_lines slots) file (told.Unopened setting) → IsUnbegun setting slots start.book → start.bytes ≡ None → start.preface ≡ None
      → start.before ≡ before_of None → StartsByFile site slots file start
  unbegun_start setting start t unbegun bytes none before = record {
    text = t.0;
    text_is = t.1;
    starts = record {
      at = subst (λ (b : Option ℕ). StartsAt site slots t.0 start.preface start.version start.book b) (sym bytes)
          (record { unopened = t.2.0; front = t.2.1; unbegun = subst (λ (s : Site). IsUnbegun s slots start.book) t.2.2 unbegun }, none);
      before_is = before ∙ ap before_of (sym none);
      few = subst (λ (b : Before). b.entries < 2 ^ 63) (sym before) (omega arith);
    };
  }

  pub file_is_unbegun : (said : Recovery) (setting : Site) (start : Start) → TellsFrom site begun file said → said ≡ told.Unopened setting → IsUnbegun setting slots start.book → start.bytes ≡ None → start.preface ≡ None
      → start.before ≡ before_of None → StartsByFile site slots file start
  file_is_unbegun said setting start tells is unbegun bytes none before = unbegun_start setting start (told_of said (told.Unopened setting) tells is) unbegun bytes none before

  -- ---- a run goes on
  module _ (said : Recovery) (r : Resumed) (tells : TellsFrom site begun file said) (is : said ≡ told.Resumed r) where
    told_book : TellsFrom site (first_lines slots) file (told.Resumed r)
    told_book = told_of said (told.Resumed r) tells is

    pub resumed_slots : AllByRecursion IsSlots r.book.opening.slots
    resumed_slots = in_book r.preface told_book.2
      where
        in_book : (preface : Option Preface) → TellsBook site told_book.0 r preface → AllByRecursion IsSlots r.book.opening.slots
        in_book None t = subst (λ (s : State). AllByRecursion IsSlots s.slots) (sym t.2.opening_is) t.1.fits.opens.each
        in_book (Some preface) t = t.1.fits.opens.each

    pub resumed_lines : IfSome r.preface (λ (p : Preface). p.lines < 2 ^ 32)
    resumed_lines = in_book r.preface told_book.2
      where
        in_book : (preface : Option Preface) → TellsBook site told_book.0 r preface → IfSome preface (λ (p : Preface). p.lines < 2 ^ 32)
        in_book None t = tt
        in_book (Some preface) t = omega (arith, t.1.preface_is.lines_are, few_lines t.1.front t.1.is_front.fits)

    goes_on : (start : Start) → start.book ≡ r.book → start.bytes ≡ Some r.bytes → start.version ≡ r.version → start.preface ≡ r.preface → start.before ≡ before_of r.preface → start.before.entries < 2 ^ 63
        → StartsByFile site slots file start
    goes_on start book bytes version preface before few =
        let t = told_book in
        let found : GoesOnIn site r.preface r.version t.0 r.bytes r.book = told_in site t.0 r r.preface t.2 in
        let goes : GoesOnIn site start.preface start.version t.0 r.bytes start.book =
        subst (λ (b : Seen). GoesOnIn site start.preface start.version t.0 r.bytes b) (sym book)
        (subst (λ (v : Version). GoesOnIn site start.preface v t.0 r.bytes r.book) (sym version) (subst (λ (p : Option Preface). GoesOnIn site p r.version t.0 r.bytes r.book) (sym preface) found)) in
        record {
          text = t.0;
          text_is = t.1;
          starts = record {
            at = subst (λ (b : Option ℕ). StartsAt site slots t.0 start.preface start.version start.book b) (sym bytes) goes;
            before_is = before ∙ ap before_of (sym preface);
            few = few;
          };
        }

    pub file_goes_on : (result : Result Start StartFault) → IfOk result (λ (s : Start). s.book ≡ r.book) → IfOk result (λ (s : Start). s.bytes ≡ Some r.bytes) → IfOk result (λ (s : Start). s.version ≡ r.version)
        → IfOk result (λ (s : Start). s.preface ≡ r.preface) → IfOk result (λ (s : Start). s.before ≡ before_of r.preface) → IfOk result (λ (s : Start). s.before.entries < 2 ^ 63) → IfOk result (StartsByFile site slots file)
    file_goes_on (Ok start) book bytes version preface before few = goes_on start book bytes version preface before few
    file_goes_on (Err fault) book bytes version preface before few = tt

    pub file_names_other : (result : Result Start StartFault) → IfErr result (IsWhyNotOn r.preface r.book.history) → IfErr result (IsWhyNoStart site slots file)
    file_names_other (Ok start) other = tt
    file_names_other (Err (Bad line)) other =
        let t = told_book in
        let found : GoesOnIn site r.preface r.version t.0 r.bytes r.book = told_in site t.0 r r.preface t.2 in (
          t.0,
          t.1,
          elim other [
            | inl (place, first, line_is) ↦
                inr (inl (record { preface = r.preface; version = r.version; bytes = r.bytes; book = r.book; goes_on = found; place = place; first = first; line_is = line_is }))
            | inr (preface, preface_is, many, line_is) ↦
                let behind : GoesOnIn site (Some preface) r.version t.0 r.bytes r.book = subst (λ (p : Option Preface). GoesOnIn site p r.version t.0 r.bytes r.book) preface_is found in
                inr (inr (record {
                  preface = preface;
                  bytes = r.bytes;
                  book = r.book;
                  goes_on = subst (λ (v : Version). GoesOnIn site (Some preface) v t.0 r.bytes r.book) behind.0 behind;
                  many = subst (λ (p : Option Preface). 2 ^ 63 ≤ (before_of p).entries) preface_is many;
                  line_is = line_is;
                }))
          ],
        )
    file_names_other (Err (Flawed line reason)) other = absurd other
    file_names_other (Err Unread) other = absurd other
    file_names_other (Err NoMemory) other = absurd other
