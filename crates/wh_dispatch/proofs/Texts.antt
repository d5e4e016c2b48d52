-- texts that are written in parts
use Rattle.std.proofs.Common.{◌≡◌, ℕ, ◌+◌, ◌<◌, length, take, drop, get_or, List, [], ◌∷◌, ◌++◌, ◌∙◌, sym, ap, refl, subst, Option, Result, Ok, Err, append_assoc, append-nil}
use Rattle.std.specs.Prelude.{OnOk, OnErr, IfErr}
use Rattle.std.specs.Prelude.{flat_map}
use Rattle.std.proofs.lemmas.Grind.{flat_map-append}
use Rattle.std.proofs.lemmas.List.{take_more, map-append, take-append-drop, flat_map_more}
use Rattle.std.specs.Io.KnownBytes.{Appends}
use Rattle.std.proofs.KnownBytes.{Appends-trans}
use Rattle.wh_lines.specs.Output.{WritesFront}
use Rattle.wh_lines.proofs.Written.{front_after, front_first}
use Rattle.wh_replay.specs.Answers.{reply_line, text_of}
use Rattle.wh_order.specs.declared.visit.Told.{Told}
use Rattle.wh_dispatch.specs.Lines.{go_line, go_lines}
use Rattle.wh_dispatch.specs.declared.script.DispatchFault.{DispatchFault}
use Rattle.wh_dispatch.specs.declared.script.DispatchFault.TheVariants.{Broken, Endless, Unwritten, NoMemory, NoRoom}
use Rattle.wh_dispatch.specs.Scripts.{WritesUntil}

pub text_append : (xs ys : List (List ℕ)) → text_of (xs ++ ys) ≡ text_of xs ++ text_of ys
text_append [] ys = refl
text_append (x ∷ xs) ys = ap (λ l. reply_line x ++ l) (text_append xs ys) ∙ sym (append_assoc (reply_line x) (text_of xs) (text_of ys))

pub text_one : (x : List ℕ) → reply_line x ≡ text_of (x ∷ [])
text_one x = sym (append-nil (reply_line x))

pub all_then : (a b c : Option (List ℕ)) (xs ys : List (List ℕ)) → Appends a b (text_of xs) → Appends b c (text_of ys) → Appends a c (text_of (xs ++ ys))
all_then a b c xs ys p q = subst (Appends a c) (sym (text_append xs ys)) (Appends-trans a b c (text_of xs) (text_of ys) p q)

pub front_then : (a b c : Option (List ℕ)) (xs ys : List (List ℕ)) → Appends a b (text_of xs) → WritesFront b c (text_of ys) → WritesFront a c (text_of (xs ++ ys))
front_then a b c xs ys p q = subst (WritesFront a c) (sym (text_append xs ys)) (front_after a b c (text_of xs) (text_of ys) p q)

pub front_before : (a b : Option (List ℕ)) (xs ys : List (List ℕ)) → WritesFront a b (text_of xs) → WritesFront a b (text_of (xs ++ ys))
front_before a b xs ys w = subst (WritesFront a b) (sym (text_append xs ys)) (front_first a b (text_of xs) (text_of ys) w)

-- what comes behind what was written
pub until_then : (fault : DispatchFault) (a b c : Option (List ℕ)) (xs ys : List (List ℕ)) → Appends a b (text_of xs) → WritesUntil fault b c (text_of ys) →
    WritesUntil fault a c (text_of (xs ++ ys))
until_then Unwritten a b c xs ys p q = front_then a b c xs ys p q
until_then Broken a b c xs ys p q = absurd q
until_then Endless a b c xs ys p q = absurd q
until_then NoMemory a b c xs ys p q = all_then a b c xs ys p q
until_then NoRoom a b c xs ys p q = front_then a b c xs ys p q

pub unwritten : (fault : DispatchFault) (a b : Option (List ℕ)) (bytes : List ℕ) → fault ≡ Unwritten → WritesFront a b bytes → WritesUntil fault a b bytes
unwritten fault a b bytes e w = subst (λ (f : DispatchFault). WritesUntil f a b bytes) (sym e) w

pub on_ok : {T E A B : Type 0} (r : Result T E) → (A → B) → OnOk r A → OnOk r B
on_ok (Ok x) f a = f a
on_ok (Err e) f a = tt

pub on_fault : {T E W : Type 0} (r : Result T E) (P Q : E → Type 0) → ((e : E) → P e → W → Q e) → IfErr r P → OnErr r W → IfErr r Q
on_fault (Ok x) P Q f p w = tt
on_fault (Err e) P Q f p w = f e p w

pub if_err : {T E : Type 0} (r : Result T E) (P Q : E → Type 0) → ((e : E) → P e → Q e) → IfErr r P → IfErr r Q
if_err (Ok x) P Q f p = tt
if_err (Err e) P Q f p = f e p

pub both : {T E : Type 0} (r : Result T E) (A B : Type 0) → OnOk r A → OnOk r B → OnOk r (A × B)
both (Ok x) A B a b = (a, b)
both (Err e) A B a b = tt

pub on_err : {T E A B : Type 0} (r : Result T E) → (A → B) → OnErr r A → OnErr r B
on_err (Ok x) f a = tt
on_err (Err e) f a = f a

-- a front of lines, of which this many were written before
pub lines_front : (a b c : Option (List ℕ)) (ls : List (List ℕ)) (i : ℕ) (d : List ℕ) → i < length ls → Appends a b (text_of (take i ls)) →
    WritesFront b c (reply_line (get_or ls i d)) → WritesFront a c (text_of ls)
lines_front a b c ls i d h p w =
    let x = get_or ls i d in
    let some = front_then a b c (take i ls) (x ∷ []) p (subst (WritesFront b c) (text_one x) w) in
    let front : WritesFront a c (text_of (take (i + 1) ls)) = subst (λ (t : List (List ℕ)). WritesFront a c (text_of t)) (sym (take_more ls i d h)) some in
    subst (λ (t : List (List ℕ)). WritesFront a c (text_of t)) (take-append-drop (i + 1) ls) (front_before a c (take (i + 1) ls) (drop (i + 1) ls) front)

-- one line more
pub lines_more : (a b c : Option (List ℕ)) (ls : List (List ℕ)) (i : ℕ) (d : List ℕ) → i < length ls → Appends a b (text_of (take i ls)) →
    Appends b c (reply_line (get_or ls i d)) → Appends a c (text_of (take (i + 1) ls))
lines_more a b c ls i d h p w =
    let x = get_or ls i d in
    subst (λ (t : List (List ℕ)). Appends a c (text_of t)) (sym (take_more ls i d h)) (all_then a b c (take i ls) (x ∷ []) p (subst (Appends b c) (text_one x) w))

-- a front of pieces of lines, of which this many were written before
pub pieces_front : {X : Type 0} (f : X → List (List ℕ)) (a b c : Option (List ℕ)) (xs : List X) (i : ℕ) (d : X) → i < length xs → Appends a b (text_of (flat_map f (take i xs))) →
    WritesFront b c (text_of (f (get_or xs i d))) → WritesFront a c (text_of (flat_map f xs))
pieces_front f a b c xs i d h p w =
    let some = front_then a b c (flat_map f (take i xs)) (f (get_or xs i d)) p w in
    let these : flat_map f (take i xs) ++ f (get_or xs i d) ≡ flat_map f (take (i + 1) xs) =
    flat_map_more f [] (take i xs) (get_or xs i d) ∙ ap (flat_map f) (sym (take_more xs i d h)) in
    let front : WritesFront a c (text_of (flat_map f (take (i + 1) xs))) = subst (λ (t : List (List ℕ)). WritesFront a c (text_of t)) these some in
    let all : flat_map f (take (i + 1) xs) ++ flat_map f (drop (i + 1) xs) ≡ flat_map f xs = sym (flat_map-append f (take (i + 1) xs) (drop (i + 1) xs)) ∙ ap (flat_map f) (take-append-drop (i + 1) xs) in
    subst (λ (t : List (List ℕ)). WritesFront a c (text_of t)) all (front_before a c (flat_map f (take (i + 1) xs)) (flat_map f (drop (i + 1) xs)) front)

pub pieces_more : {X : Type 0} (f : X → List (List ℕ)) (a b c : Option (List ℕ)) (xs : List X) (i : ℕ) (d : X) → i < length xs → Appends a b (text_of (flat_map f (take i xs))) →
    Appends b c (text_of (f (get_or xs i d))) → Appends a c (text_of (flat_map f (take (i + 1) xs)))
pieces_more f a b c xs i d h p w =
    let these : flat_map f (take i xs) ++ f (get_or xs i d) ≡ flat_map f (take (i + 1) xs) =
    flat_map_more f [] (take i xs) (get_or xs i d) ∙ ap (flat_map f) (sym (take_more xs i d h)) in
    subst (λ (t : List (List ℕ)). Appends a c (text_of t)) these (all_then a b c (flat_map f (take i xs)) (f (get_or xs i d)) p w)

-- a front of what is told, step by step
pub steps_front : (a b c : Option (List ℕ)) (xs : List Told) (i : ℕ) (d : Told) → i < length xs → Appends a b (text_of (go_lines (take i xs))) →
    WritesFront b c (reply_line (go_line (get_or xs i d))) → WritesFront a c (text_of (go_lines xs))
steps_front a b c xs i d h p w =
    let x = get_or xs i d in
    let some = front_then a b c (go_lines (take i xs)) (go_line x ∷ []) p (subst (WritesFront b c) (text_one (go_line x)) w) in
    let these : go_lines (take (i + 1) xs) ≡ go_lines (take i xs) ++ go_line x ∷ [] = ap go_lines (take_more xs i d h) ∙ map-append go_line (take i xs) (x ∷ []) in
    let front : WritesFront a c (text_of (go_lines (take (i + 1) xs))) = subst (λ (t : List (List ℕ)). WritesFront a c (text_of t)) (sym these) some in
    let all : go_lines (take (i + 1) xs) ++ go_lines (drop (i + 1) xs) ≡ go_lines xs =
    sym (map-append go_line (take (i + 1) xs) (drop (i + 1) xs)) ∙ ap go_lines (take-append-drop (i + 1) xs) in
    subst (λ (t : List (List ℕ)). WritesFront a c (text_of t)) all (front_before a c (go_lines (take (i + 1) xs)) (go_lines (drop (i + 1) xs)) front)

pub steps_more : (a b c : Option (List ℕ)) (xs : List Told) (i : ℕ) (d : Told) → i < length xs → Appends a b (text_of (go_lines (take i xs))) →
    Appends b c (reply_line (go_line (get_or xs i d))) → Appends a c (text_of (go_lines (take (i + 1) xs)))
steps_more a b c xs i d h p w =
    let x = get_or xs i d in
    let some = all_then a b c (go_lines (take i xs)) (go_line x ∷ []) p (subst (Appends b c) (text_one (go_line x)) w) in
    let these : go_lines (take (i + 1) xs) ≡ go_lines (take i xs) ++ go_line x ∷ [] = ap go_lines (take_more xs i d h) ∙ map-append go_line (take i xs) (x ∷ []) in
    subst (λ (t : List (List ℕ)). Appends a c (text_of t)) (sym these) some
