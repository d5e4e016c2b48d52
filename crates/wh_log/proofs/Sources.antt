-- Bytes that are read piece by piece.
use Rattle.std.proofs.Common.{◌≡◌, ℕ, ◌+◌, ◌<◌, ◌≤◌, ◌⊎◌, inl, inr, Bool, true, false, List, [], ◌∷◌, ◌++◌, length, take, drop, drop_of_length-le, refl, sym, ap, ◌∙◌, subst, arith, append_assoc, length-append, Option, None, Some}
use Rattle.std.specs.Prelude.{IfSome}
use Rattle.std.proofs.lemmas.List.{append-nil, drop-drop, take-append-drop, length-drop}
use Rattle.std.proofs.Math.Seq.{drop-append_seam}
use Rattle.wh_log.specs.declared.window.Standing.{Standing}
use Rattle.wh_log.specs.declared.window.Standing.TheVariants as standing
use Rattle.wh_log.specs.Sources.{IsPiece, IsNext, IsAtEnd, ReadsOn, Shows, IsEnough, ReadsHead}
use Rattle.wh_log.specs.Behinds.{Sees}

-- ---- reading on and on

further : (xs ys : List ℕ) (place : ℕ) (bytes : List ℕ) → drop place bytes ≡ xs ++ ys → drop (place + length xs) bytes ≡ ys
further xs ys place bytes e = sym (drop-drop (length xs) place bytes) ∙ ap (λ (t : List ℕ). drop (length xs) t) e ∙ drop-append_seam xs ys

next_joins : (held : Option (List ℕ)) (place : ℕ) (one other : List ℕ) → IsNext held place one → IsNext held (place + length one) other → IsNext held place (one ++ other)
next_joins None place one other h k = tt
next_joins (Some bytes) place one other h k =
    let behind : h.0 ≡ other ++ k.0 = sym (further one h.0 place bytes h.1) ∙ k.1 in
    (k.0, h.1 ∙ ap (λ (t : List ℕ). one ++ t) behind ∙ sym (append_assoc one other k.0))

pub reads_none : (held : Option (List ℕ)) (place : ℕ) (old : List ℕ) → ReadsOn held place old place old false
reads_none held place old = record { piece = []; added = sym (append-nil old); place_is = omega arith; next = none_next held; at_end = λ e. absurd (differ e) }
  where
    none_next : (held : Option (List ℕ)) → IsNext held place []
    none_next None = tt
    none_next (Some bytes) = (drop place bytes, refl)

    differ : false ≡ true → ⊥
    differ e = cc

pub reads_join : (held : Option (List ℕ)) (place : ℕ) (old : List ℕ) (mid_place : ℕ) (mid : List ℕ) (new_place : ℕ) (new : List ℕ) (one other : Bool)
    → ReadsOn held place old mid_place mid one → ReadsOn held mid_place mid new_place new other → ReadsOn held place old new_place new other
reads_join held place old mid_place mid new_place new one other a b = record {
  piece = a.piece ++ b.piece;
  added = b.added ∙ ap (λ (t : List ℕ). t ++ b.piece) a.added ∙ append_assoc old a.piece b.piece;
  place_is = omega (arith, a.place_is, b.place_is, length-append a.piece b.piece);
  next = next_joins held place a.piece b.piece a.next (subst (λ n. IsNext held n b.piece) a.place_is b.next);
  at_end = b.at_end;
}

-- the same of a source that tells what it told before
pub reads_further : (held here : Option (List ℕ)) (place : ℕ) (old : List ℕ) (mid_place : ℕ) (mid : List ℕ) (new_place : ℕ) (new : List ℕ) (one other said : Bool)
    → here ≡ held → other ≡ said → ReadsOn held place old mid_place mid one → ReadsOn here mid_place mid new_place new other → ReadsOn held place old new_place new said
reads_further held here place old mid_place mid new_place new one other said e f a b =
    reads_join held place old mid_place mid new_place new one said a
    (subst (λ (x : Bool). ReadsOn held mid_place mid new_place new x) f (subst (λ (h : Option (List ℕ)). ReadsOn h mid_place mid new_place new other) e b))

-- two lines stand whole, or it ended
pub reads_head : (held : Option (List ℕ)) (place : ℕ) (old : List ℕ) (new_place : ℕ) (new : List ℕ) (ended : Bool) (said : Standing)
    → ReadsOn held place old new_place new ended → Shows new said → (ended ≡ true) ⊎ (said ≡ standing.Two) → ReadsHead held place old new_place new said
reads_head held place old new_place new ended said reads shows enough = record { ended = ended; reads = reads; shows = shows; enough = is_enough said enough }
  where
    is_enough : (said : Standing) → (ended ≡ true) ⊎ (said ≡ standing.Two) → IsEnough held new_place said
    is_enough standing.Two e = tt
    is_enough standing.One (inl e) = reads.at_end e
    is_enough standing.None (inl e) = reads.at_end e
    is_enough standing.One (inr e) = absurd (one e)
      where
        one : standing.One ≡ standing.Two → ⊥
        one e = cc
    is_enough standing.None (inr e) = absurd (none e)
      where
        none : standing.None ≡ standing.Two → ⊥
        none e = cc

-- ---- what was seen

pub sees_none : (held : Option (List ℕ)) → Sees held 0 []
sees_none None = record { front = tt; place_is = refl }
sees_none (Some bytes) = record { front = (bytes, refl); place_is = refl }

more_is : (seen more bytes : List ℕ) (place : ℕ) → bytes ≡ seen ++ more → place ≡ length seen → drop place bytes ≡ more
more_is seen more bytes place e f = ap (λ n. drop n bytes) f ∙ ap (λ (t : List ℕ). drop (length seen) t) e ∙ drop-append_seam seen more

seen_more : (held : Option (List ℕ)) (place : ℕ) (seen piece : List ℕ) → Sees held place seen → IsNext held place piece → IfSome held (λ bytes. (more : List ℕ) × (bytes ≡ (seen ++ piece) ++ more))
seen_more None place seen piece s n = tt
seen_more (Some bytes) place seen piece s n =
    let behind : s.front.0 ≡ piece ++ n.0 = sym (more_is seen s.front.0 bytes place s.front.1 s.place_is) ∙ n.1 in
    (n.0, s.front.1 ∙ ap (λ (t : List ℕ). seen ++ t) behind ∙ sym (append_assoc seen piece n.0))

pub sees_on : (held : Option (List ℕ)) (place : ℕ) (old : List ℕ) (new_place : ℕ) (new : List ℕ) (ended : Bool) (seen : List ℕ)
    → (r : ReadsOn held place old new_place new ended) → Sees held place seen → Sees held new_place (seen ++ r.piece)
sees_on held place old new_place new ended seen r s = record {
  front = seen_more held place seen r.piece s r.next;
  place_is = omega (arith, r.place_is, s.place_is, length-append seen r.piece);
}

pub all_seen : (held : Option (List ℕ)) (place : ℕ) (seen : List ℕ) → Sees held place seen → IsAtEnd held place → IfSome held (λ bytes. seen ≡ bytes)
all_seen None place seen s e = tt
all_seen (Some bytes) place seen s e =
    let none : s.front.0 ≡ [] = sym (more_is seen s.front.0 bytes place s.front.1 s.place_is) ∙ e in
    sym (s.front.1 ∙ ap (λ (t : List ℕ). seen ++ t) none ∙ append-nil seen)

-- the text of which so much was seen
pub record Grown (held : Option (List ℕ)) (seen : List ℕ) : Type 0 where
  pub text : List ℕ
  pub more : List ℕ
  pub is : IfSome held (λ bytes. text ≡ bytes)
  pub parts : text ≡ seen ++ more

pub grown : (held : Option (List ℕ)) (place : ℕ) (seen : List ℕ) → Sees held place seen → Grown held seen
grown None place seen s = record { text = seen; more = []; is = tt; parts = sym (append-nil seen) }
grown (Some bytes) place seen s = record { text = bytes; more = s.front.0; is = refl; parts = s.front.1 }

-- ---- pieces of a text

pub piece_none : (text : List ℕ) (place : ℕ) → length text ≤ place → IsPiece (Some text) place []
piece_none text place h = record { next = (drop place text, refl); none = λ e. drop_of_length-le text h }

pub piece_whole : (text : List ℕ) (place : ℕ) → IsPiece (Some text) place (drop place text)
piece_whole text place = record { next = ([], sym (append-nil (drop place text))); none = λ e. e }

empty_front : (most : ℕ) (xs : List ℕ) → 0 < most → take most xs ≡ [] → xs ≡ []
empty_front most [] h e = refl
empty_front most (x ∷ xs) h e =
    let all : drop most (x ∷ xs) ≡ x ∷ xs = ap (λ (t : List ℕ). t ++ drop most (x ∷ xs)) (sym e) ∙ take-append-drop most (x ∷ xs) in
    absurd (omega (arith, h, ap length all, length-drop most (x ∷ xs)))

pub piece_front : (text : List ℕ) (place most : ℕ) → 0 < most → IsPiece (Some text) place (take most (drop place text))
piece_front text place most h = record {
  next = (drop most (drop place text), sym (take-append-drop most (drop place text)));
  none = λ e. empty_front most (drop place text) h e;
}
