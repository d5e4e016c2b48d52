-- Fronts of a text, and of what a file holds.
use Rattle.std.proofs.Common.{◌≡◌, ◌<◌, ◌≤◌, ◌⊎◌, inl, inr, ℕ, List, [], ◌∷◌, ◌++◌, length, drop, ap, refl, sym, ◌∙◌, subst, append_assoc, length-append, arith, Option, None, Some}
use Rattle.std.specs.Prelude.{IfSome}
use Rattle.std.proofs.lemmas.List.{append-nil}
use Rattle.std.proofs.Math.Seq.{drop-append_seam}
use Rattle.wh_log.specs.Sources.{AddsPiece}
use Rattle.wh_resume.specs.Resuming.{IsFront}
use Rattle.wh_continue.specs.Besides.{HoldsOther, HoldsWithin, IsPartOf, IsWhyNotBeside, StandsBeside}
use Rattle.wh_continue.specs.declared.beside.Beside.{Beside}
use Rattle.wh_continue.specs.declared.beside.Beside.TheVariants.{Whole, Begun}
use Rattle.wh_continue.specs.declared.beside.BesideFault.{BesideFault}
use Rattle.wh_continue.specs.declared.beside.BesideFault.TheVariants.{Other, Unread, NoMemory}

-- ---- a file that is read piece by piece
pub front_none : (file : Option (List ℕ)) → IfSome file (IsFront [])
front_none None = tt
front_none (Some bytes) = record { rest = bytes; is = refl }

behind : (held bytes : List ℕ) (front : IsFront held bytes) → drop (length held) bytes ≡ front.rest
behind held bytes front = ap (λ (t : List ℕ). drop (length held) t) front.is ∙ drop-append_seam held front.rest

front_on : (file : Option (List ℕ)) (held new : List ℕ) → IfSome file (IsFront held) → AddsPiece file (length held) held new → IfSome file (IsFront new)
front_on None held new front adds = tt
front_on (Some bytes) held new front adds =
    let more : front.rest ≡ adds.piece ++ adds.is.next.0 = sym (behind held bytes front) ∙ adds.is.next.1 in
    record {
      rest = adds.is.next.0;
      is = front.is ∙ ap (λ (t : List ℕ). held ++ t) more ∙ sym (append_assoc held adds.piece adds.is.next.0) ∙ ap (λ (t : List ℕ). t ++ adds.is.next.0) (sym adds.added);
    }

no_bytes : (piece : List ℕ) → length piece ≤ 0 → piece ≡ []
no_bytes [] few = refl
no_bytes (x ∷ piece) few = absurd (omega (arith, few))

all_read : (file : Option (List ℕ)) (held new : List ℕ) → IfSome file (IsFront held) → AddsPiece file (length held) held new → length new ≡ length held → IfSome file (λ bytes. new ≡ bytes)
all_read None held new front adds no_more = tt
all_read (Some bytes) held new front adds no_more =
    let none : adds.piece ≡ [] = no_bytes adds.piece (omega (arith, ap length adds.added, length-append held adds.piece, no_more)) in
    let nothing : front.rest ≡ [] = sym (behind held bytes front) ∙ adds.is.none none in
    adds.added ∙ ap (λ (t : List ℕ). held ++ t) none ∙ sym (front.is ∙ ap (λ (t : List ℕ). held ++ t) nothing)

-- the same of a file that holds what it held before
pub reads_on : (file here : Option (List ℕ)) (place : ℕ) (held new : List ℕ) → here ≡ file → place ≡ length held → IfSome file (IsFront held) → AddsPiece here place held new → IfSome file (IsFront new)
reads_on file here place held new same at front adds =
    front_on file held new front (subst (λ h. AddsPiece h (length held) held new) same (subst (λ n. AddsPiece here n held new) at adds))

pub reads_within : (file here : Option (List ℕ)) (most place : ℕ) (held new : List ℕ) → here ≡ file → place ≡ length held → IfSome file (IsFront held) → AddsPiece here place held new
    → (length new ≡ place) ⊎ (most < length new) → HoldsWithin file most new
reads_within file here most place held new same at front adds ends = record {
  front = reads_on file here place held new same at front adds;
  all = λ few. elim ends [
    | inl no_more ↦ all_read file held new front (subst (λ h. AddsPiece h (length held) held new) same (subst (λ n. AddsPiece here n held new) at adds)) (no_more ∙ at)
    | inr more ↦ absurd (omega (arith, more, few))
  ];
}

-- ---- a file beside a log, of which so much was read
with_rest : (held text rest : List ℕ) → text ≡ held ++ rest → length text ≤ length held → held ≡ text
with_rest held text [] is no_longer = sym (append-nil held) ∙ sym is
with_rest held text (x ∷ rest) is no_longer = absurd (omega (arith, ap length is, length-append held (x ∷ rest), no_longer))

pub whole_front : (held text : List ℕ) → IsFront held text → length text ≤ length held → held ≡ text
whole_front held text front no_longer = with_rest held text front.rest front.is no_longer

no_longer_than : (beside : Beside) (held text : List ℕ) → IsPartOf beside held text → length held ≤ length text
no_longer_than Whole held text part = omega (arith, ap length part)
no_longer_than Begun held text part = omega (arith, part.1)

pub stands : (file : Option (List ℕ)) (held text : List ℕ) (beside : Beside) → HoldsWithin file (length text) held → IsPartOf beside held text → StandsBeside file text beside
stands file held text beside within part = record { held = held; held_is = within.all (no_longer_than beside held text part); part = part }

front_of_front : (held bytes text : List ℕ) → IsFront held bytes → IsFront bytes text → IsFront held text
front_of_front held bytes text a b = record { rest = a.rest ++ b.rest; is = b.is ∙ ap (λ (t : List ℕ). t ++ b.rest) a.is ∙ append_assoc held a.rest b.rest }

pub holds_other : (file : Option (List ℕ)) (held text : List ℕ) (most : ℕ) → HoldsWithin file most held → (IsFront held text → ⊥) → HoldsOther file text
holds_other None held text most within other = record { held = held; held_is = tt; other = other }
holds_other (Some bytes) held text most within other = record { held = bytes; held_is = refl; other = λ front. other (front_of_front held bytes text within.front front) }

pub why_unread : (file : Option (List ℕ)) (text : List ℕ) (fault : BesideFault) → (fault ≡ Other → ⊥) → IsWhyNotBeside file text fault
why_unread file text Other differs = absurd (differs refl)
why_unread file text Unread differs = tt
why_unread file text NoMemory differs = tt
