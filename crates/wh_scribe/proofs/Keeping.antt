-- What is kept of a history's lines: those that wait, those that are appended, and those that are synced.
use Rattle.std.proofs.Common.{◌≡◌, ℕ, zero, suc, ◌+◌, ◌≤◌, ◌<◌, ◌⊎◌, inl, inr, List, [], ◌∷◌, ◌++◌, length, take, drop, refl, ap, sym, ◌∙◌, arith, subst, Option, Some, slice_get, Bool, true, false, take-append-drop}
use lib.Seq.{drop-append-le, length-take-le}
use Rattle.std.proofs.lemmas.List.{append_assoc, take-append-le, take_all}
use Rattle.std.proofs.lemmas.Option.{slice_get_within}
use Rattle.std.specs.Io.KnownBytes.{Appends, Keeps}
use Rattle.std.proofs.KnownBytes.{Appends-nil, Appends-trans, Appends-kept}
use mathlib.Core.List.{IsPrefix}
use Rattle.logbook.specs.Pages.{Book}
use Rattle.wh_event.specs.declared.entry.Entry.{Entry}
use Rattle.wh_board.specs.Pasts.{Origin, Past, Known, Extends}
use Rattle.wh_desk.specs.Lists.{IsRunFrom}
use Rattle.wh_lines.proofs.Written.{front_first}
use Rattle.wh_journal.specs.Scripts.{WritesFront}
use Rattle.wh_journal.specs.Journals.{lines_for}
use Rattle.wh_replay.proofs.Appended.{lines_append}
use Rattle.wh_scribe.specs.Keeping.{IsKept, KeepsFirst, MarkKeeps, Holds, PageKeeps, standing, StretchKeeps, stretch, lines_between}

-- ---- beginnings of one list

take_begin : {A : Type 0} (xs ys : List A) (k : ℕ) → IsPrefix xs ys → k ≤ length xs → take k xs ≡ take k ys
take_begin xs ys k p le = sym (take-append-le k xs p.0 le) ∙ ap (take k) p.1

pub same_take : {A : Type 0} (xs ys : List A) (k : ℕ) → IsPrefix xs ys ⊎ IsPrefix ys xs → k ≤ length xs → k ≤ length ys → take k xs ≡ take k ys
same_take xs ys k (inl p) le le' = take_begin xs ys k p le
same_take xs ys k (inr p) le le' = sym (take_begin ys xs k p le')

take_suc : {A : Type 0} (xs : List A) (k : ℕ) (x : A) → slice_get xs k ≡ Some x → take (suc k) xs ≡ take k xs ++ x ∷ []
take_suc [] k x at = absurd (cc)
take_suc (y ∷ ys) zero x at = (let same : y ≡ x = cc in ap (λ z. z ∷ []) same)
take_suc (y ∷ ys) (suc k) x at = ap (λ zs. y ∷ zs) (take_suc ys k x at)

pub take_next : {A : Type 0} (xs : List A) (k : ℕ) (x : A) → slice_get xs k ≡ Some x → take (k + 1) xs ≡ take k xs ++ x ∷ []
take_next xs k x at = (let more : k + 1 ≡ suc k = omega arith in ap (λ n. take n xs) more ∙ take_suc xs k x at)

-- the first items are some of them and then the rest
take_more : {A : Type 0} (xs : List A) (m n : ℕ) → m ≤ n → take m xs ++ drop m (take n xs) ≡ take n xs
take_more [] zero zero le = refl
take_more [] zero (suc n) le = refl
take_more [] (suc m) zero le = absurd (omega arith)
take_more [] (suc m) (suc n) le = refl
take_more (x ∷ xs) zero n le = refl
take_more (x ∷ xs) (suc m) zero le = absurd (omega arith)
take_more (x ∷ xs) (suc m) (suc n) le = ap (λ ys. x ∷ ys) (take_more xs m n (omega arith))

-- the first of a list are the first of one that it begins, and then maybe more
begin_more : {A : Type 0} (xs rest : List A) (m n : ℕ) → m ≤ n → (more : List A) × (take m xs ++ more ≡ take n (xs ++ rest))
begin_more [] rest zero n le = (take n rest, refl)
begin_more [] rest (suc m) n le = (take n rest, refl)
begin_more (x ∷ xs) rest zero n le = (take n (x ∷ (xs ++ rest)), refl)
begin_more (x ∷ xs) rest (suc m) zero le = absurd (omega arith)
begin_more (x ∷ xs) rest (suc m) (suc n) le = (let more = begin_more xs rest m n (omega arith) in (more.0, ap (λ ys. x ∷ ys) more.1))

-- of two lists of which one begins the other, the first of the one are those of the other, and then maybe more
first_more : {A : Type 0} (all known : List A) (count many : ℕ) → IsPrefix all known ⊎ IsPrefix known all → count ≤ many → many ≤ length all → (more : List A) × (take count known ++ more ≡ take many all)
first_more all known count many (inl p) le within =
    let same : take count all ≡ take count known = take_begin all known count p (omega (arith, le, within)) in
    (drop count (take many all), ap (λ xs. xs ++ drop count (take many all)) (sym same) ∙ take_more all count many le)
first_more all known count many (inr p) le within = (let more = begin_more known p.0 count many le in (more.0, more.1 ∙ ap (take many) p.1))

-- ---- from one place up to another

none_between : {A : Type 0} (xs : List A) (k : ℕ) → drop k (take k xs) ≡ []
none_between [] zero = refl
none_between [] (suc k) = refl
none_between (x ∷ xs) zero = refl
none_between (x ∷ xs) (suc k) = none_between xs k

one_between : {A : Type 0} (xs : List A) (m n : ℕ) (x : A) → m ≤ n → slice_get xs n ≡ Some x → drop m (take (n + 1) xs) ≡ drop m (take n xs) ++ x ∷ []
one_between xs m n x le at =
    let there : n < length xs = slice_get_within xs n x at in
    let long : length (take n xs) ≡ n = length-take-le n xs (omega (arith, there)) in
    ap (drop m) (take_next xs n x at) ∙ drop-append-le m (take n xs) (x ∷ []) (omega (arith, long, le))

-- what is behind a place is what is between it and another, and what is behind that
behind : {A : Type 0} (xs : List A) (m n : ℕ) → m ≤ n → n ≤ length xs → drop m xs ≡ drop m (take n xs) ++ drop n xs
behind xs m n le within =
    let long : length (take n xs) ≡ n = length-take-le n xs within in
    ap (drop m) (sym (take-append-drop n xs)) ∙ drop-append-le m (take n xs) (drop n xs) (omega (arith, long, le))

-- ---- bytes

front_none : (had : Option (List ℕ)) (bytes : List ℕ) → WritesFront had had bytes
front_none had bytes = record { count = 0; appends = Appends-nil had }

pub holds_failed : (failed : Bool) (start now : Option (List ℕ)) (history : List Entry) (written : ℕ) → Holds failed start now history written → Holds true start now history written
holds_failed false start now history written h = record { whole = now; lines = h; front = front_none now (lines_for (drop written history)) }
holds_failed true start now history written h = h

-- what holds of a journal holds of it also where it is taken for failed
pub holds_also : (failed shut : Bool) (start now : Option (List ℕ)) (history : List Entry) (written : ℕ) → (failed ≡ true → shut ≡ true) → Holds failed start now history written → Holds shut start now history written
holds_also failed true start now history written too h = holds_failed failed start now history written h
holds_also false false start now history written too h = h
holds_also true false start now history written too h = (let no : false ≡ true = too refl in absurd (cc))

-- the lines of entries up to one place, and then those from there up to another
lines_joined : (before after : List Entry) (written entered : ℕ) → IsPrefix before after ⊎ IsPrefix after before → written ≤ length before → written ≤ entered → entered ≤ length after
    → lines_for (take written before) ++ lines_between after written entered ≡ lines_for (take entered after)
lines_joined before after written entered meets le more within =
    let between = drop written (take entered after) in
    let same : take written before ≡ take written after = same_take before after written meets le (omega (arith, more, within)) in
    sym (lines_append (take written before) between) ∙ ap (λ (xs : List Entry). lines_for (xs ++ between)) same ∙ ap lines_for (take_more after written entered more)

holds_more : (start now then : Option (List ℕ)) (before after : List Entry) (written entered : ℕ) → IsPrefix before after ⊎ IsPrefix after before → written ≤ length before → written ≤ entered → entered ≤ length after
    → Appends start now (lines_for (take written before)) → Appends now then (lines_between after written entered) → Appends start then (lines_for (take entered after))
holds_more start now then before after written entered meets le more within h a =
    subst (Appends start then) (lines_joined before after written entered meets le more within)
    (Appends-trans start now then (lines_for (take written before)) (lines_between after written entered) h a)

holds_front : (start now then : Option (List ℕ)) (before after : List Entry) (written entered : ℕ) → IsPrefix before after ⊎ IsPrefix after before → written ≤ length before → written ≤ entered → entered ≤ length after
    → Appends start now (lines_for (take written before)) → WritesFront now then (lines_between after written entered) → Holds true start then after written
holds_front start now then before after written entered meets le more within h w =
    let same : take written before ≡ take written after = same_take before after written meets le (omega (arith, more, within)) in
    let parts : lines_for (drop written after) ≡ lines_between after written entered ++ lines_for (drop entered after) =
    ap lines_for (behind after written entered more within) ∙ lines_append (drop written (take entered after)) (drop entered after) in
    record {
      whole = now;
      lines = subst (λ (xs : List Entry). Appends start now (lines_for xs)) same h;
      front = subst (WritesFront now then) (sym parts) (front_first now then (lines_between after written entered) (lines_for (drop entered after)) w);
    }

-- of two pasts of which one extends the other, one history begins the other
begins : (p q : Past) → Extends p q ⊎ Extends q p → IsPrefix p.history q.history ⊎ IsPrefix q.history p.history
begins p q (inl e) = inl e.1
begins p q (inr e) = inr e.1

-- ---- lines that wait

module _ (book : Book) where
  pub stretch_opened : (known : Known) (entered : ℕ) → known.book ≡ book → entered ≡ length known.past.history → StretchKeeps book (stretch known entered entered) []
  stretch_opened known entered is many = record {
    book_is = is;
    within = omega (arith, many);
    taken_within = omega arith;
    text_is = sym (ap lines_for (none_between known.past.history entered));
  }

  -- what the lines are that wait where all of these were taken
  pub stretch_restarted : (known more : Known) (taken entered : ℕ) (text had : List ℕ) → StretchKeeps book (stretch known taken entered) text → more ≡ known → had ≡ [] → StretchKeeps book (stretch more entered entered) had
  stretch_restarted known more taken entered text had k same none = subst (λ (m : Known). StretchKeeps book (stretch m entered entered) had) (sym same) (record {
    book_is = k.book_is;
    within = k.within;
    taken_within = omega arith;
    text_is = none ∙ sym (ap lines_for (none_between known.past.history entered));
  })

  grown : (known other : Known) (taken entered : ℕ) (entry : Entry) (text : List ℕ) → StretchKeeps book (stretch known taken entered) text → other.book ≡ book → Extends known.past other.past ⊎ Extends other.past known.past
      → slice_get other.past.history entered ≡ Some entry → StretchKeeps book (stretch other taken (entered + 1)) (text ++ lines_for (entry ∷ []))
  grown known other taken entered entry text k is meets at =
      let there : entered < length other.past.history = slice_get_within other.past.history entered entry at in
      let same : take entered known.past.history ≡ take entered other.past.history = same_take known.past.history other.past.history entered (begins known.past other.past meets) k.within (omega (arith, there)) in
      let one : lines_between other.past.history taken (entered + 1) ≡ lines_between other.past.history taken entered ++ lines_for (entry ∷ []) =
      ap lines_for (one_between other.past.history taken entered entry k.taken_within at) ∙ lines_append (drop taken (take entered other.past.history)) (entry ∷ []) in
      record {
        book_is = is;
        within = omega (arith, there);
        taken_within = omega (arith, k.taken_within);
        text_is = ap (λ (t : List ℕ). t ++ lines_for (entry ∷ [])) (k.text_is ∙ ap (λ (xs : List Entry). lines_for (drop taken xs)) same) ∙ sym one;
      }

  pub stretch_grown : (known other more : Known) (taken entered position next : ℕ) (entry : Entry) (text longer : List ℕ) → StretchKeeps book (stretch known taken entered) text
      → position ≡ entered → next ≡ position + 1 → more ≡ other → other.book ≡ book → Extends known.past other.past ⊎ Extends other.past known.past → slice_get other.past.history position ≡ Some entry
      → longer ≡ text ++ lines_for (entry ∷ []) → StretchKeeps book (stretch more taken next) longer
  stretch_grown known other more taken entered position next entry text longer k turn one same is meets at adds =
      let new : StretchKeeps book (stretch other taken (entered + 1)) (text ++ lines_for (entry ∷ [])) =
      grown known other taken entered entry text k is meets (subst (λ n. slice_get other.past.history n ≡ Some entry) turn at) in
      let counted : entered + 1 ≡ next = omega (arith, turn, one) in
      subst (λ (t : List ℕ). StretchKeeps book (stretch more taken next) t) (sym adds)
      (subst (λ (m : Known). StretchKeeps book (stretch m taken next) (text ++ lines_for (entry ∷ []))) (sym same)
      (subst (λ n. StretchKeeps book (stretch other taken n) (text ++ lines_for (entry ∷ []))) counted new))

-- a front of a text that was cut back is what was there before
pub cut_back : (before after bytes : List ℕ) (long : ℕ) → WritesFront (Some before) (Some after) bytes → long ≡ length before → take long after ≡ before
cut_back before after bytes long w is =
    ap (take long) w.appends ∙ take-append-le long before (take w.count bytes) (omega (arith, is)) ∙ take_all long before (omega (arith, is))

-- ---- a page

module _ {X : Type 0} (contents synced : X → Option (List ℕ)) (book : Book) (start : Option (List ℕ)) where
  pub page_opened : (journal : X) (known : Known) (written : ℕ) → known.book ≡ book → written ≡ length known.past.history → Appends start (contents journal) (lines_for known.past.history) → synced journal ≡ contents journal
      → PageKeeps contents synced book start (standing journal known written written false)
  page_opened journal known written is many lines same =
      let all : take written known.past.history ≡ known.past.history = take_all written known.past.history (omega (arith, many)) in
      let holds : Appends start (contents journal) (lines_for (take written known.past.history)) = subst (λ (xs : List Entry). Appends start (contents journal) (lines_for xs)) (sym all) lines in
      record {
        book_is = is;
        within = omega (arith, many);
        safe_within = omega arith;
        holds = holds;
        safe = subst (λ b. Appends start b (lines_for (take written known.past.history))) (sym same) holds;
      }

  pub page_failed : (journal : X) (known : Known) (written safe : ℕ) (failed : Bool) → PageKeeps contents synced book start (standing journal known written safe failed) → PageKeeps contents synced book start (standing journal known written safe true)
  page_failed journal known written safe failed k = record {
    book_is = k.book_is;
    within = k.within;
    safe_within = k.safe_within;
    holds = holds_failed failed start (contents journal) known.past.history written k.holds;
    safe = k.safe;
  }

  -- what is synced of one history is synced of the other
  safe_same : (journal then : X) (known more : Known) (safe : ℕ) → Extends known.past more.past ⊎ Extends more.past known.past → safe ≤ length known.past.history → safe ≤ length more.past.history
      → Keeps (synced journal) (synced then) → Appends start (synced journal) (lines_for (take safe known.past.history)) → Appends start (synced then) (lines_for (take safe more.past.history))
  safe_same journal then known more safe meets within within' kept is =
      let same : take safe known.past.history ≡ take safe more.past.history = same_take known.past.history more.past.history safe (begins known.past more.past meets) within within' in
      subst (λ (xs : List Entry). Appends start (synced then) (lines_for xs)) same (Appends-kept start (synced journal) (synced then) (lines_for (take safe known.past.history)) is kept)

  page_grown : (journal then : X) (known other : Known) (written safe entered : ℕ) → PageKeeps contents synced book start (standing journal known written safe false) → other.book ≡ book → Extends known.past other.past ⊎ Extends other.past known.past
      → written ≤ entered → entered ≤ length other.past.history → Appends (contents journal) (contents then) (lines_between other.past.history written entered) → Keeps (synced journal) (synced then)
      → PageKeeps contents synced book start (standing then other entered safe false)
  page_grown journal then known other written safe entered k is meets more within appends kept =
      let both = begins known.past other.past meets in
      record {
        book_is = is;
        within = within;
        safe_within = omega (arith, k.safe_within, more);
        holds = holds_more start (contents journal) (contents then) known.past.history other.past.history written entered both k.within more within k.holds appends;
        safe = safe_same journal then known other safe meets (omega (arith, k.safe_within, k.within)) (omega (arith, k.safe_within, more, within)) kept k.safe;
      }

  page_broken : (journal then : X) (known other : Known) (written safe entered : ℕ) → PageKeeps contents synced book start (standing journal known written safe false) → other.book ≡ book → Extends known.past other.past ⊎ Extends other.past known.past
      → written ≤ entered → entered ≤ length other.past.history → WritesFront (contents journal) (contents then) (lines_between other.past.history written entered) → Keeps (synced journal) (synced then)
      → PageKeeps contents synced book start (standing then other written safe true)
  page_broken journal then known other written safe entered k is meets more within front kept =
      let both = begins known.past other.past meets in
      record {
        book_is = is;
        within = omega (arith, more, within);
        safe_within = k.safe_within;
        holds = holds_front start (contents journal) (contents then) known.past.history other.past.history written entered both k.within more within k.holds front;
        safe = safe_same journal then known other safe meets (omega (arith, k.safe_within, k.within)) (omega (arith, k.safe_within, more, within)) kept k.safe;
      }

  -- the same, as an append leaves it: of lines from their place on
  pub lines_grown : (journal then : X) (known other more : Known) (written safe taken entered : ℕ) (failed : Bool) (lines : List ℕ) → PageKeeps contents synced book start (standing journal known written safe failed)
      → failed ≡ false → taken ≡ written → taken ≤ entered → entered ≤ length other.past.history → lines ≡ lines_between other.past.history taken entered → more ≡ other → other.book ≡ book → Extends known.past other.past ⊎ Extends other.past known.past
      → Appends (contents journal) (contents then) lines → Keeps (synced journal) (synced then) → PageKeeps contents synced book start (standing then more entered safe failed)
  lines_grown journal then known other more written safe taken entered failed lines k was_open turn le within text same is meets appends kept =
      let old : PageKeeps contents synced book start (standing journal known written safe false) = subst (λ f. PageKeeps contents synced book start (standing journal known written safe f)) was_open k in
      let added : Appends (contents journal) (contents then) (lines_between other.past.history written entered) =
      subst (λ n. Appends (contents journal) (contents then) (lines_between other.past.history n entered)) turn (subst (Appends (contents journal) (contents then)) text appends) in
      let new : PageKeeps contents synced book start (standing then other entered safe false) =
      page_grown journal then known other written safe entered old is meets (omega (arith, turn, le)) within added kept in
      subst (λ (m : Known). PageKeeps contents synced book start (standing then m entered safe failed)) (sym same)
      (subst (λ f. PageKeeps contents synced book start (standing then other entered safe f)) (sym was_open) new)

  pub lines_broken : (journal then : X) (known other more : Known) (written safe taken entered : ℕ) (failed : Bool) (lines : List ℕ) → PageKeeps contents synced book start (standing journal known written safe failed)
      → failed ≡ false → taken ≡ written → taken ≤ entered → entered ≤ length other.past.history → lines ≡ lines_between other.past.history taken entered → more ≡ other → other.book ≡ book → Extends known.past other.past ⊎ Extends other.past known.past
      → WritesFront (contents journal) (contents then) lines → Keeps (synced journal) (synced then) → PageKeeps contents synced book start (standing then more written safe true)
  lines_broken journal then known other more written safe taken entered failed lines k was_open turn le within text same is meets front kept =
      let old : PageKeeps contents synced book start (standing journal known written safe false) = subst (λ f. PageKeeps contents synced book start (standing journal known written safe f)) was_open k in
      let begun : WritesFront (contents journal) (contents then) (lines_between other.past.history written entered) =
      subst (λ n. WritesFront (contents journal) (contents then) (lines_between other.past.history n entered)) turn (subst (WritesFront (contents journal) (contents then)) text front) in
      subst (λ (m : Known). PageKeeps contents synced book start (standing then m written safe true)) (sym same)
      (page_broken journal then known other written safe entered old is meets (omega (arith, turn, le)) within begun kept)

  pub page_synced : (journal then : X) (known : Known) (written safe : ℕ) → PageKeeps contents synced book start (standing journal known written safe false) → Keeps (contents journal) (contents then) → synced then ≡ contents then
      → PageKeeps contents synced book start (standing then known written written false)
  page_synced journal then known written safe k kept is =
      let holds : Appends start (contents then) (lines_for (take written known.past.history)) = Appends-kept start (contents journal) (contents then) (lines_for (take written known.past.history)) k.holds kept in
      record {
        book_is = k.book_is;
        within = k.within;
        safe_within = omega arith;
        holds = holds;
        safe = subst (λ b. Appends start b (lines_for (take written known.past.history))) (sym is) holds;
      }

  pub page_unsynced : (journal then : X) (known : Known) (written safe : ℕ) → PageKeeps contents synced book start (standing journal known written safe false) → Keeps (contents journal) (contents then) → Keeps (synced journal) (synced then)
      → PageKeeps contents synced book start (standing then known written safe true)
  page_unsynced journal then known written safe k kept same = record {
    book_is = k.book_is;
    within = k.within;
    safe_within = k.safe_within;
    holds = holds_failed false start (contents then) known.past.history written (Appends-kept start (contents journal) (contents then) (lines_for (take written known.past.history)) k.holds kept);
    safe = Appends-kept start (synced journal) (synced then) (lines_for (take safe known.past.history)) k.safe same;
  }

-- the first entries of a history that somebody knows are kept where that many are synced
pub mark_kept : {X : Type 0} (synced : X → Option (List ℕ)) (book : Book) (start : Option (List ℕ)) (known other : Known) (many count : ℕ) → MarkKeeps synced book start known many
    → Extends known.past other.past ⊎ Extends other.past known.past → count ≤ many → KeepsFirst synced start other.past.history count
mark_kept synced book start known other many count k meets le =
    let more = first_more known.past.history other.past.history count many (begins known.past other.past meets) le k.within in
    record {
      journal = k.keeps.journal;
      more = more.0 ++ k.keeps.more;
      safe = subst (λ (xs : List Entry). Appends start (synced k.keeps.journal) (lines_for xs))
          (sym (ap (λ (xs : List Entry). xs ++ k.keeps.more) more.1) ∙ append_assoc (take count other.past.history) more.0 k.keeps.more) k.keeps.safe;
    }

-- an entry is kept where the first entries are, up to it
pub kept_of : {X : Type 0} (synced : X → Option (List ℕ)) (start : Option (List ℕ)) (origin : Origin) (history : List Entry) (position : ℕ) (entry : Entry)
    → IsRunFrom origin history → slice_get history position ≡ Some entry → KeepsFirst synced start history (position + 1) → IsKept synced start origin history position entry
kept_of synced start origin history position entry run at k = record { run = run; stands = at; journal = k.journal; more = k.more; safe = k.safe }
