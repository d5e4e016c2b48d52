-- A client that is served line by line.
use Rattle.std.proofs.Common.{◌≡◌, ◌+◌, ◌≤◌, ℕ, List, [], ◌∷◌, ◌++◌, length, refl, sym, ap, ◌∙◌, arith, subst, Option, Some, None, append_assoc, append-nil, Bool, true, false, Result}
use Rattle.std.specs.Prelude.{◌-◌, ◌^◌, IfSome}
use Rattle.std.proofs.lemmas.List.{length-append}
use Rattle.std.specs.Io.KnownBytes.{Consumes, IsAtEnd}
use mathlib.Core.List.{IsPrefix}
use Rattle.wh_lines.specs.Input.{Input, left}
use Rattle.wh_grid.specs.Grids.{Floor}
use Rattle.wh_board.proofs.Fronts.{prefix_self, prefix_trans}
use Rattle.wh_desk.specs.Lists.{Received}
use Rattle.wh_desk.specs.Pasts.{Origin}
use Rattle.wh_event.specs.declared.entry.Entry.{Entry}
use Rattle.wh_log.specs.declared.form.Form.{Form}
use Rattle.wh_replay.specs.Answers.{text_of}
use Rattle.wh_replay.proofs.Giving.{replies_text}
use Rattle.wh_session.specs.declared.machine.Halt.{Halt}
use Rattle.wh_session.specs.Machines.{Records, fitting, ServesAll as AllServed}
use Rattle.wh_serve.specs.declared.allowance.Allowance.{Allowance}
use Rattle.wh_serve.specs.declared.served.End.{End as Ending}
use Rattle.wh_serve.specs.declared.served.End.TheVariants as ended
use Rattle.wh_serve.specs.declared.doors.Tag.{Tag}
use Rattle.wh_serve.specs.Texts.{receipt_text, begin_text}
use Rattle.wh_serve.specs.Beginnings.{is_begin}
use Rattle.wh_serve.specs.Outcomes.{IsOutputOf}
use Rattle.wh_serve.specs.Machines.{Standing, standing, IsSameClient, ServesBy, Hears, ServesSo, HaltsSo}
use Rattle.wh_serve.specs.Sessions.{IsUnserved, IsReadTo, ServesAll, StandsBehind, Outputs}
use Rattle.wh_serve.proofs.Beginnings.{heard, heard_none, heard_on, heard_next}
use Rattle.wh_serve.proofs.Giving.{gives_nothing, output_one, output_both}

pub same_self : {X : Type 0} (s : Standing X) → IsSameClient s s
same_self s = record { seat_is = refl; room_is = refl; may_is = refl; form_is = refl; tag_is = refl }

pub same_both : {X : Type 0} (a b c : Standing X) → IsSameClient a b → IsSameClient b c → IsSameClient a c
same_both a b c p q = record { seat_is = q.seat_is ∙ p.seat_is; room_is = q.room_is ∙ p.room_is; may_is = q.may_is ∙ p.may_is; form_is = q.form_is ∙ p.form_is; tag_is = q.tag_is ∙ p.tag_is }

module _ {X : Type 0} (cells : ℕ) (fits : X → Floor → Bool) (count : X → ℕ) (origin : Origin) where
  -- ---- lines, as one history has them

  module _ (history : List Entry) where
    -- lines were answered, each as this history has it
    pub record Answered (lines : List (List ℕ)) (told : List ℕ) (old new : Standing X) : Type 0 where
      pub replies : List (List ℕ)
      pub output : IsOutputOf old.may cells fits count origin.site.grid (receipt_text old.form origin history) (heard old.begun old.tag lines) old.pass old.spares new.pass new.spares replies
      pub told_is : told ≡ text_of replies
      pub few : length replies ≤ length lines
      pub counted : old.replies + length replies ≤ 2 ^ 64 - 1 → new.replies ≡ old.replies + length replies
      pub goes_on : (more : List (List ℕ)) → heard old.begun old.tag (lines ++ more) ≡ heard old.begun old.tag lines ++ heard new.begun new.tag more
      pub same : IsSameClient old new

    answered_none : (s e : Standing X) (told : List ℕ) → e ≡ s → told ≡ [] → Answered [] told s e
    answered_none s e told same none =
        subst (λ (x : Standing X). Answered [] told s x) (sym same) (record {
          replies = [];
          output = subst (λ (ls : List (List ℕ)). IsOutputOf s.may cells fits count origin.site.grid (receipt_text s.form origin history) ls s.pass s.spares s.pass s.spares []) (sym (heard_none s.begun s.tag))
              (gives_nothing s.may cells fits count origin.site.grid (λ outcomes. []) s.pass s.spares);
          told_is = none;
          few = omega arith;
          counted = λ fit. omega arith;
          goes_on = heard_on s.begun s.tag;
          same = same_self s;
        })

    -- the output of lines of the same client
    pub output_same : (lines : List (List ℕ)) (old mid new : Standing X) (replies : List (List ℕ)) → IsSameClient old mid
        → IsOutputOf mid.may cells fits count origin.site.grid (receipt_text mid.form origin history) lines mid.pass mid.spares new.pass new.spares replies
        → IsOutputOf old.may cells fits count origin.site.grid (receipt_text old.form origin history) lines mid.pass mid.spares new.pass new.spares replies
    output_same lines old mid new replies same o =
        subst (λ (m : Allowance). IsOutputOf m cells fits count origin.site.grid (receipt_text old.form origin history) lines mid.pass mid.spares new.pass new.spares replies) same.may_is
        (subst (λ (f : Form). IsOutputOf mid.may cells fits count origin.site.grid (receipt_text f origin history) lines mid.pass mid.spares new.pass new.spares replies) same.form_is o)

    -- lines and then others
    pub output_then : (lines more : List (List ℕ)) (old mid new : Standing X) (had has : List (List ℕ)) → IsSameClient old mid
        → IsOutputOf old.may cells fits count origin.site.grid (receipt_text old.form origin history) lines old.pass old.spares mid.pass mid.spares had
        → IsOutputOf mid.may cells fits count origin.site.grid (receipt_text mid.form origin history) more mid.pass mid.spares new.pass new.spares has
        → IsOutputOf old.may cells fits count origin.site.grid (receipt_text old.form origin history) (lines ++ more) old.pass old.spares new.pass new.spares (had ++ has)
    output_then lines more old mid new had has same p q =
        output_both old.may cells fits count origin.site.grid (receipt_text old.form origin history) lines more old.pass old.spares mid.pass mid.spares new.pass new.spares had has p
        (output_same more old mid new has same q)

    -- a line that was served and then others
    answered_served : (line : List ℕ) (lines : List (List ℕ)) (s mid e : Standing X) (told first rest : List ℕ) → s.begun ≡ true → ServesBy cells fits count origin history (fitting line) first s mid → Answered lines rest mid e → told ≡ first ++ rest
        → Answered (line ∷ lines) told s e
    answered_served line lines s mid e told first rest begun p q is =
        let text = receipt_text s.form origin history in
        let sum = length-append p.replies q.replies in
        let here = output_one s.may cells fits count origin.site.grid text line s.pass s.spares mid.pass mid.spares p.replies p.gives in
        let others = subst (λ (b : Bool). IsOutputOf mid.may cells fits count origin.site.grid (receipt_text mid.form origin history) (heard b mid.tag lines) mid.pass mid.spares e.pass e.spares q.replies) p.still q.output in
        record {
          replies = p.replies ++ q.replies;
          output = subst (λ (b : Bool). IsOutputOf s.may cells fits count origin.site.grid text (heard b s.tag (line ∷ lines)) s.pass s.spares e.pass e.spares (p.replies ++ q.replies)) (sym begun)
              (output_then (line ∷ []) lines s mid e p.replies q.replies p.same here others);
          told_is = is ∙ ap (λ (t : List ℕ). t ++ rest) p.told_is ∙ ap (λ (t : List ℕ). text_of p.replies ++ t) q.told_is ∙ sym (replies_text p.replies q.replies);
          few = omega (arith, sum, p.few, q.few);
          counted = λ fit.
              let first_is = p.counted (omega (arith, sum, fit)) in
              let rest_is = q.counted (omega (arith, sum, fit, first_is)) in
              omega (arith, sum, first_is, rest_is);
          goes_on = λ more. subst (λ (b : Bool). heard b s.tag (line ∷ (lines ++ more)) ≡ heard b s.tag (line ∷ lines) ++ heard e.begun e.tag more) (sym begun)
              (ap (λ (ls : List (List ℕ)). line ∷ ls) (subst (λ (b : Bool). heard b mid.tag (lines ++ more) ≡ heard b mid.tag lines ++ heard e.begun e.tag more) p.still (q.goes_on more)));
          same = same_both s mid e p.same q.same;
        }

    -- what stands behind a line that came before the connection had begun
    abbrev behind : Standing X → Option (List ℕ) → Standing X
    behind s line = standing s.seat s.room s.pass s.spares s.may s.form s.tag (is_begin s.tag line) s.replies

    -- such a line and then others
    answered_dropped : (line : List ℕ) (lines : List (List ℕ)) (s e : Standing X) (told rest : List ℕ) → length (begin_text s.tag) ≤ 256 → s.begun ≡ false → Answered lines rest (behind s (fitting line)) e → told ≡ rest
        → Answered (line ∷ lines) told s e
    answered_dropped line lines s e told rest short begun q is =
        let here = λ (ls : List (List ℕ)). heard_next s.tag line ls short in
        record {
          replies = q.replies;
          output = subst (λ (b : Bool). IsOutputOf s.may cells fits count origin.site.grid (receipt_text s.form origin history) (heard b s.tag (line ∷ lines)) s.pass s.spares e.pass e.spares q.replies) (sym begun)
              (subst (λ (ls : List (List ℕ)). IsOutputOf s.may cells fits count origin.site.grid (receipt_text s.form origin history) ls s.pass s.spares e.pass e.spares q.replies) (sym (here lines)) q.output);
          told_is = is ∙ q.told_is;
          few = omega (arith, q.few);
          counted = q.counted;
          goes_on = λ more. subst (λ (b : Bool). heard b s.tag (line ∷ (lines ++ more)) ≡ heard b s.tag (line ∷ lines) ++ heard e.begun e.tag more) (sym begun)
              (here (lines ++ more) ∙ q.goes_on more ∙ ap (λ (ls : List (List ℕ)). ls ++ heard e.begun e.tag more) (sym (here lines)));
          same = record { seat_is = q.same.seat_is; room_is = q.same.room_is; may_is = q.same.may_is; form_is = q.same.form_is; tag_is = q.same.tag_is };
        }

    -- one line and then others
    answered_more : (begun : Bool) (line : List ℕ) (lines : List (List ℕ)) (s mid e : Standing X) (told first rest : List ℕ) → length (begin_text s.tag) ≤ 256 → s.begun ≡ begun
        → Hears begun cells fits count origin history (fitting line) first s mid → Answered lines rest mid e → told ≡ first ++ rest → Answered (line ∷ lines) told s e
    answered_more true line lines s mid e told first rest short begun p q is = answered_served line lines s mid e told first rest begun p q is
    answered_more false line lines s mid e told first rest short begun p q is =
        answered_dropped line lines s e told rest short begun (subst (λ (x : Standing X). Answered lines rest x e) p.new_is q) (is ∙ ap (λ (t : List ℕ). t ++ rest) p.told_is)

    -- what the pass knows goes on, by the same client
    hears_known : (begun : Bool) (line : Option (List ℕ)) (told : List ℕ) (old new : Standing X) → Hears begun cells fits count origin history line told old new → IsPrefix old.pass.known new.pass.known
    hears_known true line told old new p = p.gives.known
    hears_known false line told old new p = subst (λ (x : Standing X). IsPrefix old.pass.known x.pass.known) (sym p.new_is) (prefix_self old.pass.known)

    hears_same : (begun : Bool) (line : Option (List ℕ)) (told : List ℕ) (old new : Standing X) → Hears begun cells fits count origin history line told old new → IsSameClient old new
    hears_same true line told old new p = p.same
    hears_same false line told old new p =
        subst (λ (x : Standing X). IsSameClient old x) (sym p.new_is) (record { seat_is = refl; room_is = refl; may_is = refl; form_is = refl; tag_is = refl })

  -- ---- lines that were served one after another

  abbrev pub serves_so : Standing X → Option (List ℕ) → List ℕ → Records → Standing X → Type 0
  serves_so = λ old line told kept new. ServesSo cells fits count origin line told old new

  abbrev pub halts_so : Standing X → Option (List ℕ) → Halt → Standing X → Type 0
  halts_so = λ old line halt new. HaltsSo cells fits count origin line halt old new

  -- what the pass knows goes on
  pub all_grow : (lines : List (List ℕ)) (s : Standing X) (told : List ℕ) (kept : Records) (e : Standing X) → AllServed serves_so lines s told kept e → IsPrefix s.pass.known e.pass.known
  all_grow [] s told kept e all = subst (λ (x : Standing X). IsPrefix s.pass.known x.pass.known) (sym all.0) (prefix_self s.pass.known)
  all_grow (line ∷ lines) s told kept e all =
      let mid = all.0 in
      let known = mid.pass.known in
      prefix_trans s.pass.known known e.pass.known (hears_known known s.begun (fitting line) all.1 s mid (all.5 known (prefix_self known))) (all_grow lines mid all.2 all.4 e all.6)

  -- by the same client
  pub all_same : (lines : List (List ℕ)) (s : Standing X) (told : List ℕ) (kept : Records) (e : Standing X) → AllServed serves_so lines s told kept e → IsSameClient s e
  all_same [] s told kept e all = subst (λ (x : Standing X). IsSameClient s x) (sym all.0) (same_self s)
  all_same (line ∷ lines) s told kept e all =
      let mid = all.0 in
      let known = mid.pass.known in
      same_both s mid e (hears_same known s.begun (fitting line) all.1 s mid (all.5 known (prefix_self known))) (all_same lines mid all.2 all.4 e all.6)

  pub still_short : (s e : Standing X) → IsSameClient s e → length (begin_text s.tag) ≤ 256 → length (begin_text e.tag) ≤ 256
  still_short s e same short = subst (λ (tag : Tag). length (begin_text tag) ≤ 256) (sym same.tag_is) short

  -- lines served so are answered by each history that goes on from what is known at the end
  pub all_answered : (history : List Entry) (lines : List (List ℕ)) (s : Standing X) (told : List ℕ) (kept : Records) (e : Standing X) → length (begin_text s.tag) ≤ 256 → AllServed serves_so lines s told kept e → IsPrefix e.pass.known history → Answered history lines told s e
  all_answered history [] s told kept e short all begins = answered_none history s e told all.0 all.1
  all_answered history (line ∷ lines) s told kept e short all begins =
      let mid = all.0 in
      let grown = all_grow lines mid all.2 all.4 e all.6 in
      let heard_so = all.5 history (prefix_trans mid.pass.known e.pass.known history grown begins) in
      answered_more history s.begun line lines s mid e told all.1 all.2 short refl heard_so
      (all_answered history lines mid all.2 all.4 e (still_short s mid (hears_same history s.begun (fitting line) all.1 s mid heard_so) short) all.6 begins) all.7

module _ {X : Type 0} (may : Allowance) (cells : ℕ) (fits : X → Floor → Bool) (count : X → ℕ) (grid : Floor) (text : ℕ × Entry → List ℕ) (tag : Tag) where
  -- ---- a reader that tells its bytes

  -- of the bytes that it gave these are the first, and all but where the service was over before
  taken_of : (a b : Option (List ℕ)) (bs : List ℕ) → Consumes a b bs → IfSome a (λ script. (more : List ℕ) × (script ≡ bs ++ more) × (b ≡ Some more))
  taken_of None b bs t = tt
  taken_of (Some xs) None bs t = absurd t
  taken_of (Some xs) (Some ys) bs t = (ys, t, refl)

  none_left : (j : Input) (more : List ℕ) → IsAtEnd (left j) → left j ≡ Some more → more ≡ []
  none_left j more none e = subst IsAtEnd e none

  stands : (end : Ending) (j : Input) (behind more : List ℕ) → IsUnserved end behind → IsReadTo end j → left j ≡ Some more → StandsBehind end (behind ++ more)
  stands ended.Input j behind more unserved at e = ap (λ (l : List ℕ). behind ++ l) (none_left j more at e) ∙ append-nil behind ∙ unserved
  stands ended.Torn j behind more unserved at e =
      subst (IsUnserved ended.Torn) (sym (ap (λ (l : List ℕ). behind ++ l) (none_left j more at e) ∙ append-nil behind)) unserved
  stands ended.Over j behind more unserved at e = (behind, more, unserved, refl)

  if_some : {P Q : List ℕ → Type 0} (a : Option (List ℕ)) → IfSome a P → ((script : List ℕ) → P script → Q script) → IfSome a Q
  if_some None p f = tt
  if_some (Some xs) p f = f xs p

  pub outputs_of : (i j : Input) (old : Received) (spares : List X) (new : Received) (rest : List X) (had has : Option (List ℕ)) (n : ℕ) (end : Ending)
      → ServesAll may cells fits count grid text tag i j old spares new rest had has n end → IfSome (left i) (λ script. Outputs may cells fits count grid text tag script old spares new rest had has n end)
  outputs_of i j old spares new rest had has n end r =
      if_some (left i) (taken_of (left i) (left j) (r.read ++ r.behind) r.takes) (λ script t. record {
        read = r.read;
        behind = r.behind ++ t.0;
        parts = t.1 ∙ append_assoc r.read r.behind t.0;
        whole = r.whole;
        stands = stands end j r.behind t.0 r.unserved r.read_to t.2;
        replies = r.replies;
        output = r.output;
        appends = r.appends;
        written_is = r.written_is;
      })
