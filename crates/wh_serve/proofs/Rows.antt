-- A client over one connection after another.
use Rattle.std.proofs.Common.{◌≡◌, ◌+◌, ℕ, List, [], ◌∷◌, ◌++◌, refl, ap, sym, ◌∙◌, inl, inr, arith, subst, Option, Result, Ok, Err, Bool}
use Rattle.std.proofs.lemmas.List.{length_push}
use Rattle.std.specs.Prelude.{IfOk, IfErr}
use Rattle.wh_lines.specs.Input.{Input}
use Rattle.wh_grid.specs.Grids.{Floor}
use Rattle.wh_event.specs.declared.entry.Entry.{Entry}
use Rattle.wh_desk.specs.Lists.{Received}
use mathlib.Core.List.{IsPrefix}
use Rattle.wh_board.proofs.Fronts.{prefix_self}
use Rattle.wh_serve.specs.Texts.{InEach}
use Rattle.wh_serve.specs.Sessions.{ServesAll, Stops}
use Rattle.wh_serve.specs.Rows.{Fared, Session, Visit, Row, Visits, Attended}
use Rattle.wh_serve.specs.declared.allowance.Allowance.{Allowance}
use Rattle.wh_serve.specs.declared.doors.Tag.{Tag}
use Rattle.wh_serve.specs.declared.served.Served.{Served}
use Rattle.wh_serve.specs.declared.served.ServeFault.{ServeFault}
use Rattle.wh_serve.specs.declared.threads.Client.{Client}

pub fared_of : {X : Type 0} (may : Allowance) (cells : ℕ) (fits : X → Floor → Bool) (count : X → ℕ) (grid : Floor) (text : List Entry → ℕ × Entry → List ℕ) (tag : Tag) (outcome : Result Served ServeFault) (before after : Input) (old : Received) (spares : List X) (new : Received) (rest : List X) (had has : Option (List ℕ))
    → IfOk outcome (λ r. InEach new.known (λ history. ServesAll may cells fits count grid (text history) tag before after old spares new rest had has r.replies r.end))
    → IfErr outcome (λ fault. InEach new.known (λ history. Stops may cells fits count grid (text history) tag fault before after old spares new rest had has))
    → InEach new.known (λ history. Fared may cells fits count grid (text history) tag outcome before after old spares new rest had has)
fared_of may cells fits count grid text tag (Ok served) before after old spares new rest had has s t = s
fared_of may cells fits count grid text tag (Err fault) before after old spares new rest had has s t = t

-- ---- what is known goes on

fared_known : {X : Type 0} (may : Allowance) (cells : ℕ) (fits : X → Floor → Bool) (count : X → ℕ) (grid : Floor) (text : ℕ × Entry → List ℕ) (tag : Tag) (outcome : Result Served ServeFault) (before after : Input) (old : Received) (spares : List X) (new : Received) (rest : List X) (had has : Option (List ℕ))
    → Fared may cells fits count grid text tag outcome before after old spares new rest had has → IsPrefix old.known new.known
fared_known may cells fits count grid text tag (Ok served) before after old spares new rest had has f = f.output.known
fared_known may cells fits count grid text tag (Err fault) before after old spares new rest had has f = f.output.known

pub session_known : {R W X : Type 0} (may : Allowance) (cells : ℕ) (fits : X → Floor → Bool) (count : X → ℕ) (grid : Floor) (text : ℕ × Entry → List ℕ) (remaining : R → Option (List ℕ)) (contents : W → Option (List ℕ))
    (reader : R) (writer : W) (tag : Tag) (outcome : Result Served ServeFault) (left : W) (had : Received) (spares : List X) (has : Received) (rest : List X)
    → Session may cells fits count grid text remaining contents reader writer tag outcome left had spares has rest → IsPrefix had.known has.known
session_known may cells fits count grid text remaining contents reader writer tag outcome left had spares has rest (inl s) =
    fared_known may cells fits count grid text tag outcome s.before s.after had spares has rest s.told (contents left) s.fared
session_known may cells fits count grid text remaining contents reader writer tag outcome left had spares has rest (inr s) =
    subst (λ (p : Received). IsPrefix had.known p.known) (sym s.same) (prefix_self had.known)

-- ---- the caller stays

fared_caller : {X : Type 0} (may : Allowance) (cells : ℕ) (fits : X → Floor → Bool) (count : X → ℕ) (grid : Floor) (text : ℕ × Entry → List ℕ) (tag : Tag) (outcome : Result Served ServeFault) (before after : Input) (old : Received) (spares : List X) (new : Received) (rest : List X) (had has : Option (List ℕ))
    → Fared may cells fits count grid text tag outcome before after old spares new rest had has → new.caller ≡ old.caller
fared_caller may cells fits count grid text tag (Ok served) before after old spares new rest had has f = f.output.caller_is
fared_caller may cells fits count grid text tag (Err fault) before after old spares new rest had has f = f.output.caller_is

module _ {R W X : Type 0} (may : Allowance) (cells : ℕ) (fits : X → Floor → Bool) (count : X → ℕ) (grid : Floor) (text : ℕ × Entry → List ℕ) (remaining : R → Option (List ℕ)) (contents : W → Option (List ℕ)) where
  session_caller : (reader : R) (writer : W) (tag : Tag) (outcome : Result Served ServeFault) (left : W) (had : Received) (spares : List X) (has : Received) (rest : List X)
      → Session may cells fits count grid text remaining contents reader writer tag outcome left had spares has rest → has.caller ≡ had.caller
  session_caller reader writer tag outcome left had spares has rest (inl s) =
      fared_caller may cells fits count grid text tag outcome s.before s.after had spares has rest s.told (contents left) s.fared
  session_caller reader writer tag outcome left had spares has rest (inr s) = ap (λ (p : Received). p.caller) s.same

  row_caller : (visits : List (Visit R W X)) (had : Received) (spares : List X) (has : Received) (rest : List X)
      → Row may cells fits count grid text remaining contents had spares visits has rest → has.caller ≡ had.caller
  row_caller [] had spares has rest r = ap (λ (p : Received). p.caller) r.0
  row_caller (v ∷ vs) had spares has rest r =
      row_caller vs v.has v.rest has rest r.1 ∙ session_caller v.reader v.writer v.tag v.outcome v.left had spares v.has v.rest r.0

  -- ---- one connection more

  row_push : (visits : List (Visit R W X)) (v : Visit R W X) (had : Received) (spares : List X) (mid : Received) (held : List X)
      → Row may cells fits count grid text remaining contents had spares visits mid held
      → Session may cells fits count grid text remaining contents v.reader v.writer v.tag v.outcome v.left mid held v.has v.rest
      → Row may cells fits count grid text remaining contents had spares (visits ++ v ∷ []) v.has v.rest
  row_push [] v had spares mid held r s = (rw (sym r.0, sym r.1) s, (refl, refl))
  row_push (w ∷ ws) v had spares mid held r s = (r.0, row_push ws v w.has w.rest mid held r.1 s)

  pub no_visit : (had : Received) (spares : List X) → Visits may cells fits count grid text remaining contents had spares had spares 0
  no_visit had spares = record { visits = []; count_is = refl; row = (refl, refl) }

  pub one_more : (reader : R) (writer : W) (tag : Tag) (outcome : Result Served ServeFault) (left : W) (had : Received) (spares : List X) (mid : Received) (held : List X) (has : Received) (rest : List X) (connections : ℕ)
      → Visits may cells fits count grid text remaining contents had spares mid held connections
      → Session may cells fits count grid text remaining contents reader writer tag outcome left mid held has rest
      → Visits may cells fits count grid text remaining contents had spares has rest (connections + 1)
  one_more reader writer tag outcome left had spares mid held has rest connections before s =
      let v : Visit R W X = record { reader = reader; writer = writer; tag = tag; outcome = outcome; left = left; has = has; rest = rest } in
      record {
        visits = before.visits ++ v ∷ [];
        count_is = omega (arith, before.count_is, length_push before.visits v);
        row = row_push before.visits v had spares mid held before.row s;
      }

-- who is served keeps the caller
pub attended_caller : {R W X : Type 0} (cells : ℕ) (fits : X → Floor → Bool) (count : X → ℕ) (grid : Floor) (text : ℕ × Entry → List ℕ) (remaining : R → Option (List ℕ)) (contents : W → Option (List ℕ))
    (client : Client X) (had has : Received) (n : ℕ) → Attended cells fits count grid text remaining contents client had has n → has.caller ≡ had.caller
attended_caller cells fits count grid text remaining contents client had has n a =
    row_caller client.allowance cells fits count grid text remaining contents a.visits.visits had client.spares.items has a.rest a.visits.row
