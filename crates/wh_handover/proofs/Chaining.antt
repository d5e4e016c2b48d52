-- a log of a chain
use Rattle.std.proofs.Common.{◌≡◌, ◌+◌, ◌-◌, Bool, ℕ, List, ◌++◌, take, length, refl, sym, ap, ◌∙◌, arith, inr}
use Rattle.std.specs.Prelude.{Option, None, Some}
use Rattle.std.specs.List.{count_by}
use Rattle.std.proofs.Math.Seq.{take-append_seam}
use Rattle.std.proofs.lemmas.List.{length-append, take_all}
use Rattle.wh_text.specs.Lines.{is_line_feed}
use Rattle.wh_points.specs.Points.{Site}
use Rattle.wh_core.specs.Steps.{Run}
use Rattle.wh_core.specs.Laws.{IsBeginning}
use Rattle.wh_event.specs.declared.entry.Entry.{Entry}
use Rattle.wh_resume.specs.Behind.{entries_told}
use Rattle.wh_resume.specs.Resuming.{TellsBook}
use Rattle.wh_resume.specs.declared.recovery.Preface.{Preface}
use Rattle.wh_resume.specs.declared.recovery.Resumed.{Resumed}
use Rattle.wh_front.specs.declared.front.Front.{Front}
use Rattle.wh_handover.specs.Handing.{text_to}
use Rattle.wh_front.specs.Fronts.{Fits, front_text}
use Rattle.wh_handover.specs.Chains.{IsDueBehind, IsFirstOther, IsLink, IsOtherwise, Joins, due, is_ended}
use Rattle.wh_handover.specs.declared.chain.LinkFault.{LinkFault}
use Rattle.wh_handover.specs.declared.chain.LinkFault.TheVariants as faults
use Rattle.wh_handover.specs.declared.chain.Linked.{Linked}
use Rattle.wh_handover.proofs.Facts.{Known, known, tells}

-- the front of a text
pub front_part : (text a b : List ℕ) → text ≡ a ++ b → take (length text - length b) text ≡ a
front_part text a b is =
    let long : length text ≡ length a + length b = ap length is ∙ length-append a b in
    let count : length text - length b ≡ length a = omega (arith, long) in
    ap (λ n. take n text) count ∙ ap (take (length a)) is ∙ take-append_seam a b

pub whole_part : (text a b : List ℕ) (bytes : ℕ) → text ≡ a ++ b → bytes ≡ length a → take bytes text ≡ a
whole_part text a b bytes is many = ap (λ n. take n text) many ∙ ap (take (length a)) is ∙ take-append_seam a b

pub ended_known : (site : Site) (text : List ℕ) (r : Resumed) (preface : Option Preface) (t : TellsBook site text r preface) → is_ended (known site text r preface t).holds ≡ r.is_ended
ended_known site text r None (content, holds, goes) = refl
ended_known site text r (Some preface) (version, g) = refl

module _ (site : Site) (text : List ℕ) (r : Resumed) (t : TellsBook site text r r.preface) where
  abbrev k : Known site text r.bytes r.book r.preface
  k = known site text r r.preface t

  -- the bytes of its whole lines
  lines_known : take r.bytes text ≡ text_to (length k.told.entries) k.told
  lines_known =
      whole_part text (k.told.head ++ entries_told r.book.history) k.rest r.bytes k.text_is k.bytes_are
      ∙ ap (λ (es : List Entry). k.told.head ++ entries_told es) (k.entries_are ∙ sym (take_all (length k.told.entries) k.told.entries (omega arith)))

  pub bytes_within : r.bytes ≡ length (take r.bytes text)
  bytes_within = k.bytes_are ∙ ap length (sym (whole_part text (k.told.head ++ entries_told r.book.history) k.rest r.bytes k.text_is k.bytes_are))

  pub is_link : (before : Option Front) (goes_on : Bool) (link : Linked) → IsBeginning site r.book.opening → Run site r.book.opening r.book.history r.book.state → Joins before text link.joined
      → link.entries ≡ length r.book.history → link.lines ≡ count_by is_line_feed (take r.bytes text) → link.is_ended ≡ r.is_ended → IsDueBehind site text goes_on link.next → link.setting ≡ site
      → IsLink site before text goes_on link
  is_link before goes_on link begins run joins entries lines ended next setting = record {
    told = k.told;
    tells = tells site text r.bytes r.book r.preface k begins run;
    joins = joins;
    entries_are = entries ∙ ap (λ (es : List Entry). length es) k.entries_are;
    lines_are = lines ∙ ap (count_by is_line_feed) lines_known;
    ended_is = ended ∙ sym (ended_known site text r r.preface t);
    next = next;
    setting_is = setting;
  }

-- a front that is otherwise than is due
pub otherwise_of : (whole front : Front) (text rest : List ℕ) (why : LinkFault) → Fits front → text ≡ front_text front ++ rest
    → ((line : ℕ) → why ≡ faults.Bad line → IsFirstOther (front_text (due whole front)) (front_text front) line) → IsOtherwise whole text why
otherwise_of whole front text rest (faults.Bad line) fits is other = inr (front, rest, fits, is, other line refl)
otherwise_of whole front text rest faults.NoMemory fits is other = tt
