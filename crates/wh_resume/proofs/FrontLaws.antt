-- lines of a front, and what a text is that begins with one
use Rattle.std.proofs.Common.{◌≡◌, ◌≤◌, ◌<◌, ◌+◌, ℕ, inl, inr, Bool, true, false, List, [], ◌∷◌, ◌++◌, length, get_or, cond, refl, sym, ap, ◌∙◌, subst, arith, length-append, append_assoc, Some, None}
use Rattle.std.specs.Prelude.{All, map, slice_get, take, codes}
use Rattle.std.proofs.lemmas.List.{length-map}
use Rattle.std.proofs.lemmas.List.Elements.{recursion_from_All}
use Rattle.std.specs.List.{AllByRecursion}
use Prim.Native.Nat.{zero, suc}
use Rattle.std.proofs.lemmas.Option.{same_Some}
use Rattle.wh_words.specs.Lines.{text_of}
use Rattle.wh_text.specs.Lines.{IsLine}
use Rattle.wh_log.specs.Logs.{IsSlots, head_line}
use Rattle.wh_log.specs.Torn.{IsUnopened}
use Rattle.wh_log.proofs.LineLaws.{not_whole}
use Rattle.wh_front.specs.declared.front.Front.{Front}
use Rattle.wh_front.specs.declared.front.Seat.{Seat}
use Rattle.wh_front.specs.declared.front.Submission.{Submission}
use Rattle.wh_front.specs.declared.line.Line.{Line}
use Rattle.wh_front.specs.declared.line.Line.TheVariants as lines
use Rattle.wh_front.specs.Ranges.{are_told}
use Rattle.wh_front.specs.Spelling.{front_line}
use Rattle.wh_front.specs.Fronts.{Fits, front_text, front_lines, head_lines, seat_lines, task_lines, rules_lines}
use Rattle.wh_front.proofs.Readings.{one_cons}
use Rattle.wh_resume.specs.Behind.{IsVersionThree}
use Rattle.wh_resume.specs.Looking.{lines_to_agents}
use Rattle.wh_resume.proofs.Versions.{not_three}

-- ---- the title
pub front_three : (front : Front) (rest text : List ℕ) → text ≡ front_text front ++ rest → IsVersionThree text
front_three front rest text e = by (front_lines front) refl
  where
    by : (all : List Line) → front_lines front ≡ all → IsVersionThree text
    by [] none = absurd (let clash : lines.Title ∷ [] ≡ [] = ap (λ (ls : List Line). take 1 ls) none in cc)
    by (first ∷ more) is =
        let title : lines.Title ≡ first = titled first more is in
        record {
          rest = text_of (map front_line more) ++ rest;
          is = e ∙ ap (λ (ls : List Line). text_of (map front_line ls) ++ rest) is ∙ one_cons first more rest
              ∙ ap (λ (l : Line). front_line l ++ 10 ∷ (text_of (map front_line more) ++ rest)) (sym title);
        }
      where
        titled : (first : Line) (more : List Line) → front_lines front ≡ first ∷ more → lines.Title ≡ first
        titled first more is = ap (λ (ls : List Line). first_of ls) is
          where
            first_of : List Line → Line
            first_of [] = lines.Title
            first_of (l ∷ ls) = l

pub front_opened : (front : Front) (rest text : List ℕ) → text ≡ front_text front ++ rest → IsUnopened text → ⊥
front_opened front rest text e (inl line) = (let three = front_three front rest text e in not_whole text (codes "wlog 3") three.rest line three.is)
front_opened front rest text e (inr opened) = not_three opened.0 opened.1 text opened.3 (front_three front rest text e)

-- ---- seats
pub slots_at : (seats : List Seat) (agent : ℕ) (seat : Seat) → slice_get seats agent ≡ Some seat → All IsSlots (map (λ (seat : Seat). seat.slots) seats) → IsSlots seat.slots
slots_at seats agent seat is all = by seats agent is (recursion_from_All IsSlots (map (λ (seat : Seat). seat.slots) seats) all)
  where
    by : (seats : List Seat) (agent : ℕ) → slice_get seats agent ≡ Some seat → AllByRecursion IsSlots (map (λ (seat : Seat). seat.slots) seats) → IsSlots seat.slots
    by [] agent is all = absurd cc
    by (one ∷ seats) zero is all = subst (λ (s : Seat). IsSlots s.slots) (same_Some one seat is) all.0
    by (one ∷ seats) (suc agent) is all = by seats agent is all.1

pub seat_known : (seats : List Seat) (agent : ℕ) (seat : Seat) → slice_get seats agent ≡ Some seat → agent < length seats
seat_known [] agent seat is = absurd cc
seat_known (one ∷ seats) zero seat is = omega arith
seat_known (one ∷ seats) (suc agent) seat is = (let h = seat_known seats agent seat is in omega arith)

pub seat_there : (seats : List Seat) (agent : ℕ) → agent < length seats → (seat : Seat) × (slice_get seats agent ≡ Some seat)
seat_there [] agent h = absurd (omega (arith, h))
seat_there (one ∷ seats) zero h = (one, refl)
seat_there (one ∷ seats) (suc agent) h = seat_there seats agent (omega (arith, h))

-- ---- where the lines of agents stand
agent_line : (seats : List Seat) (tail : List Line) (agent : ℕ) (seat : Seat) → slice_get seats agent ≡ Some seat → slice_get (map lines.Agent seats ++ tail) agent ≡ Some (lines.Agent seat)
agent_line [] tail agent seat is = absurd cc
agent_line (one ∷ seats) tail zero seat is = ap (λ (s : Seat). Some (lines.Agent s)) (same_Some one seat is)
agent_line (one ∷ seats) tail (suc agent) seat is = agent_line seats tail agent seat is

-- the lines of a front, with these of its rules
abbrev lines_by : Front → List Line → List Line
lines_by f rules = (lines.Title ∷ lines.Before f.before ∷ (rules ++ lines.State f.clock f.closed f.kind ∷ lines.Entries f.counts ∷ [])) ++ seat_lines f.seats ++ task_lines f.tasks ++ lines.Begin ∷ []

lines_are_by : (front : Front) (told : Bool) → are_told front.rules.homes front.rules.age ≡ told → front_lines front ≡ lines_by front (cond told (lines.Rules front.rules ∷ []) [])
lines_are_by front told e = ap (λ (b : Bool). lines_by front (cond b (lines.Rules front.rules ∷ []) [])) e

pub agent_place : (front : Front) (told : Bool) (agent : ℕ) (seat : Seat) → are_told front.rules.homes front.rules.age ≡ told → slice_get front.seats agent ≡ Some seat
    → slice_get (front_lines front) (lines_to_agents told + agent) ≡ Some (lines.Agent seat)
agent_place front told agent seat e is = ap (λ (ls : List Line). slice_get ls (lines_to_agents told + agent)) (lines_are_by front told e) ∙ by told
  where
    by : (told : Bool) → slice_get (lines_by front (cond told (lines.Rules front.rules ∷ []) [])) (lines_to_agents told + agent) ≡ Some (lines.Agent seat)
    by false =
        let at : 5 + agent ≡ suc (suc (suc (suc (suc agent)))) = omega arith in
        ap (λ n. slice_get (lines_by front []) n) at ∙ ap (λ (ls : List Line). slice_get ls agent) (append_assoc (map lines.Agent front.seats) (task_lines front.tasks) (lines.Begin ∷ []))
        ∙ agent_line front.seats (task_lines front.tasks ++ lines.Begin ∷ []) agent seat is
    by true =
        let at : 6 + agent ≡ suc (suc (suc (suc (suc (suc agent))))) = omega arith in
        ap (λ n. slice_get (lines_by front (lines.Rules front.rules ∷ [])) n) at ∙ ap (λ (ls : List Line). slice_get ls agent) (append_assoc (map lines.Agent front.seats) (task_lines front.tasks) (lines.Begin ∷ []))
        ∙ agent_line front.seats (task_lines front.tasks ++ lines.Begin ∷ []) agent seat is

pub count_lines : (front : Front) (told : Bool) → are_told front.rules.homes front.rules.age ≡ told → length (front_lines front) ≡ lines_to_agents told + length front.seats + length front.tasks + 2
count_lines front told e = ap (λ (ls : List Line). length ls) (lines_are_by front told e) ∙ by told
  where
    by : (told : Bool) → length (lines_by front (cond told (lines.Rules front.rules ∷ []) [])) ≡ lines_to_agents told + length front.seats + length front.tasks + 2
    by false =
        let last = length-append (map lines.Agent front.seats ++ task_lines front.tasks) (lines.Begin ∷ []) in
        let seats = length-append (map lines.Agent front.seats) (task_lines front.tasks) in
        omega (arith, last, seats, length-map front.seats lines.Agent, length-map front.tasks lines.Task)
    by true =
        let last = length-append (map lines.Agent front.seats ++ task_lines front.tasks) (lines.Begin ∷ []) in
        let seats = length-append (map lines.Agent front.seats) (task_lines front.tasks) in
        omega (arith, last, seats, length-map front.seats lines.Agent, length-map front.tasks lines.Task)

pub told_homes : (homes : Bool) → are_told homes None ≡ homes
told_homes false = refl
told_homes true = refl
