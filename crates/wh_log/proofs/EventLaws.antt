-- Events: what is read is so written, and what is so written is read.
use Rattle.std.proofs.Common.{◌≡◌, ℕ, ◌≤◌, Bool, true, false, cond, ◌&&◌, List, [], ◌∷◌, ◌++◌, length, Some, codes, decimal, eqb, ◌⊎◌, inl, inr, ◌||◌, ◌^◌, refl, ap, ◌∙◌, subst, arith, lit≤}
use Rattle.std.proofs.Math.Dec.{leb as nat_le}
use Rattle.std.proofs.lemmas.Bool.{leb-true, le-leb, lt-ltb, eqb-true, and_parts, and_from}
use Rattle.std.specs.Str.{bytes_eq}
use Rattle.std.specs.List.{AllByRecursion, list_all}
use Rattle.wh_text.specs.Names.{is_name_byte, is_letter, name_of}
use Rattle.wh_text.specs.Words.{has_bytes}
use Rattle.wh_words.specs.Words.{is_plain, IsPlain}
use Rattle.wh_text.specs.Numbers.{is_digit}
use Rattle.wh_words.proofs.NumeralLemmas.{plain-decimal}
use Rattle.wh_event.specs.declared.event.Event.{Event}
use Rattle.wh_event.specs.declared.event.Event.TheVariants.{Submit, Request, Tick, Close, Replace}
use Rattle.wh_event.specs.declared.event.Spare.{Spare}
use Rattle.wh_event.specs.declared.event.Spare.TheVariants as planner
use Rattle.wh_log.specs.Spelling.{event_words, spare_words}
use Rattle.wh_log.specs.Ranges.{IsSmall, EventKeeps, SpareKeeps}
use Rattle.wh_event.specs.Grammar.{IsName}
use Rattle.wh_log.specs.Reading.{◌>>=◌, literal_at, small_at, name_at}
use Rattle.wh_log.specs.ReadEvents.{names_at, counted_of, stops_at, submit_at, token_at, tick_at, close_at, fits_at, spare_at, replace_at, event_at}
use Rattle.wh_log.proofs.Steps.{bind_some, some_is, guard_some, bytes_are, by_name, literal_found, small_found, name_is, name_found, small_again}

-- the event y.0 stands here, and y.1 behind its equals sign
abbrev IsEventAt : ℕ → List (List ℕ) → Event × List (List ℕ) → Type 0
IsEventAt most words y = (words ≡ event_words y.0 ++ codes "=" ∷ y.1) × EventKeeps most y.0

names_found : (words : List (List ℕ)) (y : List (List ℕ) × List (List ℕ)) → names_at words ≡ Some y → (words ≡ y.0 ++ codes "=" ∷ y.1) × AllByRecursion IsName y.0
unfolding names_at
names_found [] y e = absurd cc
names_found (word ∷ words) y e = go (bytes_eq word (codes "=")) refl e (names_found words)
  where
    go : (v : Bool) → bytes_eq word (codes "=") ≡ v
        → cond v (Some ([], words)) (name_of word >>= λ name. names_at words >>= λ rest. Some (name ∷ rest.0, rest.1)) ≡ Some y
        → ((z : List (List ℕ) × List (List ℕ)) → names_at words ≡ Some z → (words ≡ z.0 ++ codes "=" ∷ z.1) × AllByRecursion IsName z.0)
        → (word ∷ words ≡ y.0 ++ codes "=" ∷ y.1) × AllByRecursion IsName y.0
    go true is e more =
        let whole : word ∷ words ≡ codes "=" ∷ words = ap (λ (w : List ℕ). w ∷ words) (bytes_are word (codes "=") is) in
        subst (λ (z : List (List ℕ) × List (List ℕ)). (word ∷ words ≡ z.0 ++ codes "=" ∷ z.1) × AllByRecursion IsName z.0) (some_is ([], words) y e) (whole, tt)
    go false is e more =
        let a = bind_some (name_of word) (λ name. names_at words >>= λ rest. Some (name ∷ rest.0, rest.1)) y e in
        let b = bind_some (names_at words) (λ rest. Some (a.0 ∷ rest.0, rest.1)) y a.2 in
        let n = name_is word a.0 a.1 in
        let rest = more b.0 b.1 in
        let whole : word ∷ words ≡ a.0 ∷ (b.0.0 ++ codes "=" ∷ b.0.1) = ap (λ (w : List ℕ). w ∷ words) n.0 ∙ ap (λ (ws : List (List ℕ)). a.0 ∷ ws) rest.0 in
        subst (λ (z : List (List ℕ) × List (List ℕ)). (word ∷ words ≡ z.0 ++ codes "=" ∷ z.1) × AllByRecursion IsName z.0) (some_is (a.0 ∷ b.0.0, b.0.1) y b.2) (whole, (n.1, rest.1))

-- a name is no equals sign
name_differs : (name : List ℕ) → IsName name → bytes_eq name (codes "=") ≡ false
name_differs [] h = refl
name_differs (b ∷ []) h =
    let both = and_parts (has_bytes (b ∷ []) && nat_le (length (b ∷ [])) 16) (list_all is_name_byte (b ∷ [])) h in
    go (eqb b 61) refl ((and_parts (is_name_byte b) true both.1).0)
  where
    go : (v : Bool) → eqb b 61 ≡ v → is_name_byte b ≡ true → (v && true) ≡ false
    go true is h = let same : b ≡ 61 = eqb-true _ _ is in let no : false ≡ true = subst (λ (c : ℕ). is_name_byte c ≡ true) same h in cc
    go false is h = refl
name_differs (b ∷ c ∷ rest) h = go (eqb b 61)
  where
    go : (v : Bool) → (v && false) ≡ false
    go true = refl
    go false = refl

names_again : (names rest : List (List ℕ)) → AllByRecursion IsName names → names_at (names ++ codes "=" ∷ rest) ≡ Some (names, rest)
unfolding names_at
names_again [] rest h = refl
names_again (name ∷ names) rest h = rw (name_differs name h.0, h.0, names_again names rest h.1) refl

stops_found : (most : ℕ) (words : List (List ℕ)) (y : List (List ℕ) × List (List ℕ)) → stops_at most words ≡ Some y
    → (words ≡ y.0 ++ codes "=" ∷ y.1) × AllByRecursion IsName y.0 × (2 ≤ length y.0) × (length y.0 ≤ most)
unfolding stops_at
stops_found most words y e =
    let a = bind_some (names_at words) (λ names. counted_of most names.0 >>= λ stops. Some (stops, names.1)) y e in
    let b = bind_some (counted_of most a.0.0) (λ stops. Some (stops, a.0.1)) y a.2 in
    let g = guard_some (nat_le 2 (length a.0.0) && nat_le (length a.0.0) most) a.0.0 b.0 b.1 in
    let few = and_parts (nat_le 2 (length a.0.0)) (nat_le (length a.0.0) most) g.0 in
    let f = names_found words a.0 a.1 in
    let same : (a.0.0, a.0.1) ≡ y = ap (λ (names : List (List ℕ)). (names, a.0.1)) g.1 ∙ some_is (b.0, a.0.1) y b.2 in
    subst (λ (z : List (List ℕ) × List (List ℕ)). (words ≡ z.0 ++ codes "=" ∷ z.1) × AllByRecursion IsName z.0 × (2 ≤ length z.0) × (length z.0 ≤ most)) same (f.0, f.1, leb-true _ _ few.0, leb-true _ _ few.1)

stops_again : (most : ℕ) (stops rest : List (List ℕ)) → AllByRecursion IsName stops → 2 ≤ length stops → length stops ≤ most → stops_at most (stops ++ codes "=" ∷ rest) ≡ Some (stops, rest)
unfolding stops_at
stops_again most stops rest h low high =
    let two : nat_le 2 (length stops) ≡ true = le-leb _ _ low in
    let few : nat_le (length stops) most ≡ true = le-leb _ _ high in
    rw (names_again stops rest h, two, few) refl

submit_found : (most : ℕ) (words : List (List ℕ)) (y : Event × List (List ℕ)) → submit_at most words ≡ Some y → IsEventAt most (codes "submit" ∷ words) y
unfolding submit_at
submit_found most words y e =
    let a = bind_some (name_at words) (λ client. stops_at most client.1 >>= λ stops. Some (Submit client.0 stops.0, stops.1)) y e in
    let b = bind_some (stops_at most a.0.1) (λ stops. Some (Submit a.0.0 stops.0, stops.1)) y a.2 in
    let n = name_found words a.0 a.1 in
    let s = stops_found most a.0.1 b.0 b.1 in
    let whole : codes "submit" ∷ words ≡ codes "submit" ∷ a.0.0 ∷ (b.0.0 ++ codes "=" ∷ b.0.1) = ap (λ (ws : List (List ℕ)). codes "submit" ∷ ws) (n.0 ∙ ap (λ (ws : List (List ℕ)). a.0.0 ∷ ws) s.0) in
    let made : Event × List (List ℕ) = (Submit a.0.0 b.0.0, b.0.1) in
    subst (IsEventAt most (codes "submit" ∷ words)) (some_is made y b.2) (whole, (n.1, s.1, s.2, s.3))

token_found : (most : ℕ) (words : List (List ℕ)) (y : Event × List (List ℕ)) → token_at words ≡ Some y → IsEventAt most (codes "token" ∷ words) y
unfolding token_at
token_found most words y e =
    let a = bind_some (small_at words) (λ agent. literal_at (codes "=") agent.1 >>= λ rest. Some (Request agent.0, rest)) y e in
    let b = bind_some (literal_at (codes "=") a.0.1) (λ rest. Some (Request a.0.0, rest)) y a.2 in
    let n = small_found words a.0 a.1 in
    let l = literal_found (codes "=") a.0.1 b.0 b.1 in
    let whole : codes "token" ∷ words ≡ codes "token" ∷ decimal a.0.0 ∷ codes "=" ∷ b.0 = ap (λ (ws : List (List ℕ)). codes "token" ∷ ws) (n.0 ∙ ap (λ (ws : List (List ℕ)). decimal a.0.0 ∷ ws) l) in
    let made : Event × List (List ℕ) = (Request a.0.0, b.0) in
    subst (IsEventAt most (codes "token" ∷ words)) (some_is made y b.2) (whole, n.1)

tick_found : (most : ℕ) (words : List (List ℕ)) (y : Event × List (List ℕ)) → tick_at words ≡ Some y → IsEventAt most (codes "tick" ∷ words) y
unfolding tick_at
tick_found most words y e =
    let b = bind_some (literal_at (codes "=") words) (λ rest. Some (Tick, rest)) y e in
    let l = literal_found (codes "=") words b.0 b.1 in
    let made : Event × List (List ℕ) = (Tick, b.0) in
    subst (IsEventAt most (codes "tick" ∷ words)) (some_is made y b.2) (ap (λ (ws : List (List ℕ)). codes "tick" ∷ ws) l, tt)

close_found : (most : ℕ) (words : List (List ℕ)) (y : Event × List (List ℕ)) → close_at words ≡ Some y → IsEventAt most (codes "close" ∷ words) y
unfolding close_at
close_found most words y e =
    let b = bind_some (literal_at (codes "=") words) (λ rest. Some (Close, rest)) y e in
    let l = literal_found (codes "=") words b.0 b.1 in
    let made : Event × List (List ℕ) = (Close, b.0) in
    subst (IsEventAt most (codes "close" ∷ words)) (some_is made y b.2) (ap (λ (ws : List (List ℕ)). codes "close" ∷ ws) l, tt)

abbrev IsSpareAt : List (List ℕ) → Spare × List (List ℕ) → Type 0
IsSpareAt words y = (words ≡ spare_words y.0 ++ y.1) × SpareKeeps y.0

fits_found : (words : List (List ℕ)) (y : Spare × List (List ℕ)) → fits_at words ≡ Some y → IsSpareAt (codes "fits" ∷ words) y
unfolding fits_at
fits_found words y e =
    let a = bind_some (small_at words) (λ slots. Some (planner.Fits slots.0, slots.1)) y e in
    let n = small_found words a.0 a.1 in
    let made : Spare × List (List ℕ) = (planner.Fits a.0.0, a.0.1) in
    subst (IsSpareAt (codes "fits" ∷ words)) (some_is made y a.2) (ap (λ (ws : List (List ℕ)). codes "fits" ∷ ws) n.0, n.1)

spare_found : (words : List (List ℕ)) (y : Spare × List (List ℕ)) → spare_at words ≡ Some y → IsSpareAt words y
unfolding spare_at
spare_found [] y e = absurd cc
spare_found (name ∷ words) y e =
    let P : List ℕ → Type 0 = λ n. IsSpareAt (n ∷ words) y in
    let missing : Spare × List (List ℕ) = (planner.None, words) in
    let foreign : Spare × List (List ℕ) = (planner.Foreign, words) in
    by_name P name (codes "none") _ _ y e (λ e. subst (IsSpareAt (codes "none" ∷ words)) (some_is missing y e) (refl, tt)) (λ e.
    by_name P name (codes "foreign") _ _ y e (λ e. subst (IsSpareAt (codes "foreign" ∷ words)) (some_is foreign y e) (refl, tt)) (λ e.
    by_name P name (codes "fits") _ _ y e (fits_found words y) (λ e. absurd cc)))

spare_again : (spare : Spare) (rest : List (List ℕ)) → SpareKeeps spare → spare_at (spare_words spare ++ rest) ≡ Some (spare, rest)
unfolding spare_at fits_at
spare_again planner.None rest h = refl
spare_again planner.Foreign rest h = refl
spare_again (planner.Fits slots) rest h = rw (small_again slots h) refl

replace_found : (most : ℕ) (words : List (List ℕ)) (y : Event × List (List ℕ)) → replace_at words ≡ Some y → IsEventAt most (codes "replace" ∷ words) y
unfolding replace_at
replace_found most words y e =
    let a = bind_some (small_at words) (λ agent. spare_at agent.1 >>= λ spare. literal_at (codes "=") spare.1 >>= λ rest. Some (Replace agent.0 spare.0, rest)) y e in
    let b = bind_some (spare_at a.0.1) (λ spare. literal_at (codes "=") spare.1 >>= λ rest. Some (Replace a.0.0 spare.0, rest)) y a.2 in
    let c = bind_some (literal_at (codes "=") b.0.1) (λ rest. Some (Replace a.0.0 b.0.0, rest)) y b.2 in
    let n = small_found words a.0 a.1 in
    let s = spare_found a.0.1 b.0 b.1 in
    let l = literal_found (codes "=") b.0.1 c.0 c.1 in
    let whole : codes "replace" ∷ words ≡ codes "replace" ∷ decimal a.0.0 ∷ (spare_words b.0.0 ++ codes "=" ∷ c.0) =
    ap (λ (ws : List (List ℕ)). codes "replace" ∷ ws) (n.0 ∙ ap (λ (ws : List (List ℕ)). decimal a.0.0 ∷ ws) (s.0 ∙ ap (λ (ws : List (List ℕ)). spare_words b.0.0 ++ ws) l)) in
    let made : Event × List (List ℕ) = (Replace a.0.0 b.0.0, c.0) in
    subst (IsEventAt most (codes "replace" ∷ words)) (some_is made y c.2) (whole, (n.1, s.1))

pub event_found : (most : ℕ) (words : List (List ℕ)) (y : Event × List (List ℕ)) → event_at most words ≡ Some y → IsEventAt most words y
unfolding event_at
event_found most [] y e = absurd cc
event_found most (name ∷ words) y e =
    let P : List ℕ → Type 0 = λ n. IsEventAt most (n ∷ words) y in
    by_name P name (codes "submit") _ _ y e (submit_found most words y) (λ e.
    by_name P name (codes "token") _ _ y e (token_found most words y) (λ e.
    by_name P name (codes "tick") _ _ y e (tick_found most words y) (λ e.
    by_name P name (codes "close") _ _ y e (close_found most words y) (λ e.
    by_name P name (codes "replace") _ _ y e (replace_found most words y) (λ e. absurd cc)))))

pub event_again : (most : ℕ) (event : Event) (rest : List (List ℕ)) → EventKeeps most event → event_at most (event_words event ++ codes "=" ∷ rest) ≡ Some (event, rest)
unfolding event_at submit_at token_at tick_at close_at replace_at
event_again most (Submit client stops) rest h = rw (h.0, stops_again most stops rest h.1 h.2 h.3) refl
event_again most (Request agent) rest h = rw (small_again agent h) refl
event_again most Tick rest h = refl
event_again most Close rest h = refl
event_again most (Replace agent spare) rest h = rw (small_again agent h.0, spare_again spare (codes "=" ∷ rest) h.1) refl

-- ---- the words are plain
pub name_plain : (name : List ℕ) → IsName name → IsPlain name
name_plain name h = all_plain name ((and_parts (has_bytes name && nat_le (length name) 16) (list_all is_name_byte name) h).1)
  where
    letter : (b : ℕ) → is_letter b ≡ true → is_plain b ≡ true
    letter b h = go (nat_le 65 b && nat_le b 90) refl h
      where
        go : (v : Bool) → (nat_le 65 b && nat_le b 90) ≡ v → (v || (nat_le 97 b && nat_le b 122)) ≡ true → is_plain b ≡ true
        go true is h = let low : 65 ≤ b = leb-true _ _ ((and_parts (nat_le 65 b) (nat_le b 90) is).0) in lt-ltb _ _ (omega arith)
        go false is h = let low : 97 ≤ b = leb-true _ _ ((and_parts (nat_le 97 b) (nat_le b 122) h).0) in lt-ltb _ _ (omega arith)

    either : (a b : Bool) → (a || b) ≡ true → (a ≡ true) ⊎ (b ≡ true)
    either true b h = inl refl
    either false b h = inr h

    byte : (b : ℕ) → is_name_byte b ≡ true → is_plain b ≡ true
    byte b h =
        elim (either (is_letter b || is_digit b || eqb b 95) (eqb b 45) h) [
          | inr e ↦ let same : b ≡ 45 = eqb-true _ _ e in lt-ltb _ _ (omega arith)
          | inl h ↦ elim (either (is_letter b || is_digit b) (eqb b 95) h) [
            | inr e ↦ let same : b ≡ 95 = eqb-true _ _ e in lt-ltb _ _ (omega arith)
            | inl h ↦ elim (either (is_letter b) (is_digit b) h) [
              | inl l ↦ letter b l
              | inr d ↦ let low : 48 ≤ b = leb-true _ _ ((and_parts (nat_le 48 b) (nat_le b 57) d).0) in lt-ltb _ _ (omega arith)
            ]
          ]
        ]

    all_plain : (bs : List ℕ) → list_all is_name_byte bs ≡ true → IsPlain bs
    all_plain [] h = refl
    all_plain (b ∷ bs) h = let both = and_parts (is_name_byte b) (list_all is_name_byte bs) h in and_from (is_plain b) (list_all is_plain bs) (byte b both.0) (all_plain bs both.1)

pub names_plain : (names : List (List ℕ)) → AllByRecursion IsName names → AllByRecursion IsPlain names
names_plain [] h = tt
names_plain (name ∷ names) h = (name_plain name h.0, names_plain names h.1)

pub small_plain : (n : ℕ) → IsSmall n → IsPlain (decimal n)
small_plain n h = let limit : 10 ^ 9 ≤ 2 ^ 64 = lit≤ tt in plain-decimal n (omega arith)

pub event_plain : (most : ℕ) (event : Event) → EventKeeps most event → AllByRecursion IsPlain (event_words event)
event_plain most (Submit client stops) h = (refl, (name_plain client h.0, names_plain stops h.1))
event_plain most (Request agent) h = (refl, (small_plain agent h, tt))
event_plain most Tick h = (refl, tt)
event_plain most Close h = (refl, tt)
event_plain most (Replace agent planner.None) h = (refl, (small_plain agent h.0, (refl, tt)))
event_plain most (Replace agent planner.Foreign) h = (refl, (small_plain agent h.0, (refl, tt)))
event_plain most (Replace agent (planner.Fits slots)) h = (refl, (small_plain agent h.0, (refl, (small_plain slots h.1, tt))))
