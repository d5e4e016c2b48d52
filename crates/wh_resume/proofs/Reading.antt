-- a source that is read piece by piece from its front
use Rattle.std.proofs.Common.{◌≡◌, ◌<◌, ◌≤◌, ℕ, List, [], ◌∷◌, ◌++◌, length, drop, ap, refl, sym, ◌∙◌, subst, append_assoc, length-append, arith, Option, None, Some, inl, inr}
use Rattle.std.specs.Prelude.{IfSome, codes}
use Rattle.std.proofs.lemmas.Bool.{cases_lt}
use Rattle.wh_resume.specs.Behind.{IsVersionThree}
use Rattle.std.proofs.lemmas.List.{append-nil}
use Rattle.std.proofs.Math.Seq.{drop-append_seam}
use Rattle.wh_log.specs.Sources.{AddsPiece}
use Rattle.wh_resume.specs.Resuming.{IsFront}
use Rattle.wh_resume.specs.Looking.{HoldsAtLeast}

pub front_none : (held : Option (List ℕ)) → IfSome held (IsFront [])
front_none None = tt
front_none (Some bytes) = record { rest = bytes; is = refl }

behind : (read bytes : List ℕ) (front : IsFront read bytes) → drop (length read) bytes ≡ front.rest
behind read bytes front = ap (λ (t : List ℕ). drop (length read) t) front.is ∙ drop-append_seam read front.rest

front_on : (held : Option (List ℕ)) (read new : List ℕ) → IfSome held (IsFront read) → AddsPiece held (length read) read new → IfSome held (IsFront new)
front_on None read new front adds = tt
front_on (Some bytes) read new front adds =
    let more : front.rest ≡ adds.piece ++ adds.is.next.0 = sym (behind read bytes front) ∙ adds.is.next.1 in
    record {
      rest = adds.is.next.0;
      is = front.is ∙ ap (λ (t : List ℕ). read ++ t) more ∙ sym (append_assoc read adds.piece adds.is.next.0) ∙ ap (λ (t : List ℕ). t ++ adds.is.next.0) (sym adds.added);
    }

no_bytes : (piece : List ℕ) → length piece ≤ 0 → piece ≡ []
no_bytes [] few = refl
no_bytes (x ∷ piece) few = absurd (omega (arith, few))

all_read : (held : Option (List ℕ)) (read new : List ℕ) → IfSome held (IsFront read) → AddsPiece held (length read) read new → length new ≡ length read → IfSome held (λ bytes. new ≡ bytes)
all_read None read new front adds no_more = tt
all_read (Some bytes) read new front adds no_more =
    let none : adds.piece ≡ [] = no_bytes adds.piece (omega (arith, ap length adds.added, length-append read adds.piece, no_more)) in
    let nothing : front.rest ≡ [] = sym (behind read bytes front) ∙ adds.is.none none in
    adds.added ∙ ap (λ (t : List ℕ). read ++ t) none ∙ sym (front.is ∙ ap (λ (t : List ℕ). read ++ t) nothing)

-- the same of a source that tells what it told before
pub reads_on : (held here : Option (List ℕ)) (place : ℕ) (read new : List ℕ) → here ≡ held → place ≡ length read → IfSome held (IsFront read) → AddsPiece here place read new → IfSome held (IsFront new)
reads_on held here place read new same at front adds =
    front_on held read new front (subst (λ h. AddsPiece h (length read) read new) same (subst (λ n. AddsPiece here n read new) at adds))

pub reads_all : (held here : Option (List ℕ)) (least place : ℕ) (read new : List ℕ) → here ≡ held → place ≡ length read → IfSome held (IsFront read) → AddsPiece here place read new → length new ≡ place → HoldsAtLeast held least new
reads_all held here least place read new same at front adds no_more = record {
  front = reads_on held here place read new same at front adds;
  all = λ few. all_read held read new front (subst (λ h. AddsPiece h (length read) read new) same (subst (λ n. AddsPiece here n read new) at adds)) (no_more ∙ at);
}

pub reads_enough : (held : Option (List ℕ)) (least : ℕ) (read : List ℕ) → least ≤ length read → IfSome held (IsFront read) → HoldsAtLeast held least read
reads_enough held least read enough front = record { front = front; all = λ few. absurd (omega (arith, few, enough)) }

-- more of it stands behind what stood there
pub front_same : (read : List ℕ) → IsFront read read
front_same read = record { rest = []; is = sym (append-nil read) }

pub front_more : (first read new piece : List ℕ) → IsFront first read → new ≡ read ++ piece → IsFront first new
front_more first read new piece front added = record {
  rest = front.rest ++ piece;
  is = added ∙ ap (λ (t : List ℕ). t ++ piece) front.is ∙ append_assoc first front.rest piece;
}

-- ---- the title
front_title : (title more read rest : List ℕ) → title ++ more ≡ read ++ rest → length title ≤ length read → read ≡ title ++ drop (length title) read
front_title [] more read rest e enough = refl
front_title (x ∷ title) more [] rest e enough = absurd (omega (arith, enough))
front_title (x ∷ title) more (y ∷ read) rest e enough =
    let first : y ≡ x = cc in
    let others : title ++ more ≡ read ++ rest = cc in
    let behind = front_title title more read rest others (omega (arith, enough)) in
    ap (λ (n : ℕ). n ∷ read) first ∙ ap (λ (t : List ℕ). x ∷ t) behind

pub three_more : (read new : List ℕ) → IsFront read new → IsVersionThree read → IsVersionThree new
three_more read new front three = record { rest = three.rest ++ front.rest; is = front.is ∙ ap (λ (t : List ℕ). t ++ front.rest) three.is }

three_less : (read bytes : List ℕ) → IsFront read bytes → 7 ≤ length read → IsVersionThree bytes → IsVersionThree read
three_less read bytes front enough three =
    let title : List ℕ = codes "wlog 3" ++ 10 ∷ [] in
    record { rest = drop 7 read; is = front_title title three.rest read front.rest (sym three.is ∙ front.is) enough }

-- what was not found in the first bytes does not stand there
pub not_three : (held : Option (List ℕ)) (least : ℕ) (read : List ℕ) → least ≡ 7 → HoldsAtLeast held least read → (IsVersionThree read → ⊥) → IfSome held (λ bytes. IsVersionThree bytes → ⊥)
not_three None least read seven h none = tt
not_three (Some bytes) least read seven h none = λ three. elim (cases_lt (length read) 7) [
  | inl less ↦ none (subst (λ (t : List ℕ). IsVersionThree t) (sym (h.all (omega (arith, less, seven)))) three)
  | inr enough ↦ none (three_less read bytes h.front enough three)
]
