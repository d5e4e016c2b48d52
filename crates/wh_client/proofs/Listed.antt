-- Clients in a row.
use Rattle.std.proofs.Common.{◌≡◌, ℕ, List, [], ◌∷◌, ◌++◌, refl, sym, ap, ap₂, ◌∙◌, Bool, true, false, subst, inl, inr, true≢false, ◌||◌, ◌==◌, ◌+◌, ◌<◌, Bor, codes, drop, get_or, length, suc, take}
use Rattle.std.specs.List.{AllByRecursion, AllZip, IsDistinct, after_first, list_any, slice_split}
use Rattle.std.specs.Str.{bytes_eq}
use Rattle.wh_client.specs.Clients.{GiveClients, GivesClient, GivesPlace, IsSameClient, NamesRights, SpellsRights, Text, is_colon, is_comma, is_equals, shares}
use Rattle.std.proofs.lemmas.List.{map-append, take_more}
use Rattle.std.proofs.Math.Seq.{split_at}
use Rattle.wh_client.specs.declared.client.ClientOptions.{ClientOptions}
use Rattle.wh_client.specs.declared.client.ClientRights.{ClientRights}
use Rattle.wh_client.proofs.Named.{names_once, shown}
use Rattle.wh_client.proofs.Numbers.{one_number_alone}

-- what clients share, and what a word fixes of its client
abbrev AreAlike : ClientOptions → ClientOptions → Type 0
AreAlike c d = (c.number ≡ d.number) × (c.folder.now ≡ d.folder.now)

one_folder : (text : Text) (c d : ClientOptions) → GivesPlace text c → GivesPlace text d → c.folder.now ≡ d.folder.now
one_folder text c d a b = elim a.1 [
  | inl p ↦ elim b.1 [
    | inl q ↦ p.1 ∙ sym q.1
    | inr q ↦ absurd (p.0 q.0)
  ]
  | inr p ↦ elim b.1 [
    | inl q ↦ absurd (q.0 p.0)
    | inr q ↦ p.1 ∙ sym q.1
  ]
]

one_client : (text : Text) (c d : ClientOptions) → GivesClient text c → GivesClient text d → AreAlike c d
one_client text c d a b = (one_number_alone _ c.number d.number a.1 b.1, one_folder _ c d a.2 b.2)

same_shares : (c d e : ClientOptions) → AreAlike c d → shares c e ≡ shares d e
same_shares c d e alike = ap₂ (λ n f. n == e.number || bytes_eq f e.folder.now) alike.0 alike.1

shares_same : (c d e : ClientOptions) → AreAlike d e → shares c d ≡ shares c e
shares_same c d e alike = ap₂ (λ n f. c.number == n || bytes_eq c.folder.now f) alike.0 alike.1

-- the front of the texts, the text behind it, and what they give
record AtPlace (front : List Text) (t : Text) (cs : List ClientOptions) : Type 0 where
  pub before : List ClientOptions
  pub here : ClientOptions
  pub after : List ClientOptions
  pub are : cs ≡ before ++ here ∷ after
  pub each : AllZip GivesClient front before
  pub gives : GivesClient t here

at_place : (front : List Text) (t : Text) (rest : List Text) (cs : List ClientOptions) → AllZip GivesClient (front ++ t ∷ rest) cs → AtPlace front t cs
at_place [] t rest [] all = absurd all
at_place [] t rest (c ∷ cs) all = record { before = []; here = c; after = cs; are = refl; each = tt; gives = all.0 }
at_place (f ∷ fs) t rest [] all = absurd all
at_place (f ∷ fs) t rest (c ∷ cs) all =
    let more = at_place fs t rest cs all.1 in
    record { before = c ∷ more.before; here = more.here; after = more.after; are = ap (λ l. c ∷ l) more.are; each = (all.0, more.each); gives = more.gives }

any_alike : (front : List Text) (xs ys : List ClientOptions) (c d : ClientOptions) → AllZip GivesClient front xs → AllZip GivesClient front ys → AreAlike c d
    → list_any (λ x. shares x c) xs ≡ list_any (λ y. shares y d) ys
any_alike [] [] [] c d a b alike = refl
any_alike [] [] (y ∷ ys) c d a b alike = absurd b
any_alike [] (x ∷ xs) ys c d a b alike = absurd a
any_alike (f ∷ fs) [] ys c d a b alike = absurd a
any_alike (f ∷ fs) (x ∷ xs) [] c d a b alike = absurd b
any_alike (f ∷ fs) (x ∷ xs) (y ∷ ys) c d a b alike =
    ap₂ (λ p q. p || q) (same_shares x y c (one_client f x y a.0 b.0) ∙ shares_same y c d alike) (any_alike fs xs ys c d a.1 b.1 alike)

away_at : (c here : ClientOptions) (before after : List ClientOptions) → AllByRecursion (λ y. shares c y ≡ false) (before ++ here ∷ after) → shares c here ≡ false
away_at c here [] after all = all.0
away_at c here (b ∷ bs) after all = away_at c here bs after all.1

none_before : (before after : List ClientOptions) (here : ClientOptions) → IsDistinct shares (before ++ here ∷ after) → list_any (λ x. shares x here) before ≡ false
unfolding IsDistinct
none_before [] after here apart = refl
none_before (b ∷ bs) after here apart = rw (away_at b here bs after apart.0, none_before bs after here apart.1) refl

-- a text that gives no client
pub none_gives : (front : List Text) (t : Text) (rest : List Text) → ((c : ClientOptions) → GivesClient t c → ⊥) → (cs : List ClientOptions) → GiveClients (front ++ t ∷ rest) cs → ⊥
none_gives front t rest none cs gives =
    let at = at_place front t rest cs gives.each in
    none at.here at.gives

-- a text whose client shares with one before
pub taken_gives : (front : List Text) (t : Text) (rest : List Text) (xs : List ClientOptions) (c : ClientOptions) → AllZip GivesClient front xs → GivesClient t c
    → list_any (λ x. shares x c) xs ≡ true → (cs : List ClientOptions) → GiveClients (front ++ t ∷ rest) cs → ⊥
taken_gives front t rest xs c each is taken cs gives =
    let at = at_place front t rest cs gives.each in
    let apart : IsDistinct shares (at.before ++ at.here ∷ at.after) = subst (IsDistinct shares) at.are gives.apart in
    true≢false (sym taken ∙ any_alike front xs at.before c at.here each at.each (one_client t c at.here is at.gives) ∙ none_before at.before at.after at.here apart)

-- one more
each_push : (front : List Text) (t : Text) (xs : List ClientOptions) (c : ClientOptions) → AllZip GivesClient front xs → GivesClient t c → AllZip GivesClient (front ++ t ∷ []) (xs ++ c ∷ [])
each_push [] t [] c all is = (is, tt)
each_push [] t (x ∷ xs) c all is = absurd all
each_push (f ∷ fs) t [] c all is = absurd all
each_push (f ∷ fs) t (x ∷ xs) c all is = (all.0, each_push fs t xs c all.1 is)

away_push : (x c : ClientOptions) (xs : List ClientOptions) → AllByRecursion (λ y. shares x y ≡ false) xs → shares x c ≡ false → AllByRecursion (λ y. shares x y ≡ false) (xs ++ c ∷ [])
away_push x c [] all is = (is, tt)
away_push x c (y ∷ ys) all is = (all.0, away_push x c ys all.1 is)

either_none : (a b : Bool) → (a || b) ≡ false → (a ≡ false) × (b ≡ false)
either_none true b e = cc
either_none false b e = (refl, e)

apart_push : (xs : List ClientOptions) (c : ClientOptions) → IsDistinct shares xs → list_any (λ x. shares x c) xs ≡ false → IsDistinct shares (xs ++ c ∷ [])
unfolding IsDistinct
apart_push [] c apart none = (tt, tt)
apart_push (x ∷ xs) c apart none =
    let parts = either_none (shares x c) (list_any (λ y. shares y c) xs) none in
    (away_push x c xs apart.0 parts.0, apart_push xs c apart.1 parts.1)

pub give_push : (front : List Text) (t : Text) (xs : List ClientOptions) (c : ClientOptions) → GiveClients front xs → GivesClient t c → list_any (λ x. shares x c) xs ≡ false → GiveClients (front ++ t ∷ []) (xs ++ c ∷ [])
give_push front t xs c gives is none = record { each = each_push front t xs c gives.each is; apart = apart_push xs c gives.apart none }

pub nothing_given : GiveClients [] []
unfolding IsDistinct
nothing_given = record { each = tt; apart = tt }

-- ---- a text by its place

around : (ts : List (Bor Text)) (i : ℕ) (d : Bor Text) → i < length ts → shown ts ≡ shown (take i ts) ++ (get_or ts i d).now ∷ shown (drop (suc i) ts)
around ts i d lt = ap shown (split_at ts i d lt) ∙ map-append (λ w. w.now) (take i ts) (get_or ts i d ∷ drop (suc i) ts)

up_to : (ts : List (Bor Text)) (i : ℕ) (d : Bor Text) → i < length ts → shown (take (i + 1) ts) ≡ shown (take i ts) ++ (get_or ts i d).now ∷ []
up_to ts i d lt = ap shown (take_more ts i d lt) ∙ map-append (λ w. w.now) (take i ts) (get_or ts i d ∷ [])

pub none_at : (ts : List (Bor Text)) (i : ℕ) (d : Bor Text) → i < length ts → ((c : ClientOptions) → GivesClient (get_or ts i d).now c → ⊥) → (cs : List ClientOptions) → GiveClients (shown ts) cs → ⊥
none_at ts i d lt none cs gives =
    none_gives (shown (take i ts)) (get_or ts i d).now (shown (drop (suc i) ts)) none cs (subst (λ ws. GiveClients ws cs) (around ts i d lt) gives)

pub taken_at : (ts : List (Bor Text)) (i : ℕ) (d : Bor Text) (xs : List ClientOptions) (c : ClientOptions) → i < length ts → GiveClients (shown (take i ts)) xs → GivesClient (get_or ts i d).now c
    → list_any (λ x. shares x c) xs ≡ true → (cs : List ClientOptions) → GiveClients (shown ts) cs → ⊥
taken_at ts i d xs c lt so_far is taken cs gives =
    taken_gives (shown (take i ts)) (get_or ts i d).now (shown (drop (suc i) ts)) xs c so_far.each is taken cs (subst (λ ws. GiveClients ws cs) (around ts i d lt) gives)

pub give_at : (ts : List (Bor Text)) (i : ℕ) (d : Bor Text) (xs : List ClientOptions) (c : ClientOptions) → i < length ts → GiveClients (shown (take i ts)) xs → GivesClient (get_or ts i d).now c
    → list_any (λ x. shares x c) xs ≡ false → GiveClients (shown (take (i + 1) ts)) (xs ++ c ∷ [])
give_at ts i d xs c lt so_far is none =
    subst (λ ws. GiveClients ws (xs ++ c ∷ [])) (sym (up_to ts i d lt)) (give_push (shown (take i ts)) (get_or ts i d).now xs c so_far is none)

-- ---- words give at most one row of clients

all_is_no_right : (text : Text) (r : ClientRights) → text ≡ codes "all" → NamesRights (slice_split is_comma text) r → ⊥
all_is_no_right text r is names =
    let at : NamesRights (slice_split is_comma (codes "all")) r = subst (λ t. NamesRights (slice_split is_comma t) r) is names in
    true≢false (sym at.each)

one_spelling : (text : Text) (r s : ClientRights) → SpellsRights text r → SpellsRights text s → r ≡ s
one_spelling text r s (inl a) (inl b) = a.1 ∙ sym b.1
one_spelling text r s (inl a) (inr b) = absurd (all_is_no_right text s a.0 b)
one_spelling text r s (inr a) (inl b) = absurd (all_is_no_right text r b.0 a)
one_spelling text r s (inr a) (inr b) = names_once (slice_split is_comma text) r s a b

one_rights : (text : Text) (c d : ClientOptions) → GivesPlace text c → GivesPlace text d → c.rights ≡ d.rights
one_rights text c d a b = elim a.1 [
  | inl p ↦ elim b.1 [
    | inl q ↦ p.2 ∙ sym q.2
    | inr q ↦ absurd (p.0 q.0)
  ]
  | inr p ↦ elim b.1 [
    | inl q ↦ absurd (q.0 p.0)
    | inr q ↦ one_spelling (after_first is_colon text) c.rights d.rights p.2 q.2
  ]
]

pub clients_once : (texts : List Text) (cs ds : List ClientOptions) → AllZip GivesClient texts cs → AllZip GivesClient texts ds → AllZip IsSameClient cs ds
clients_once [] [] [] a b = tt
clients_once [] [] (d ∷ ds) a b = absurd b
clients_once [] (c ∷ cs) ds a b = absurd a
clients_once (t ∷ ts) [] ds a b = absurd a
clients_once (t ∷ ts) (c ∷ cs) [] a b = absurd b
clients_once (t ∷ ts) (c ∷ cs) (d ∷ ds) a b =
    let alike = one_client t c d a.0 b.0 in
    ((alike.0, alike.1, one_rights (after_first is_equals t) c d a.0.2 b.0.2), clients_once ts cs ds a.1 b.1)
