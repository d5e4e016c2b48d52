-- Following a log that may have been cut.
use Rattle.std.proofs.Common.{◌≡◌, ℕ, ◌<◌, ◌+◌, ◌-◌, ◌^◌, inl, inr, Bool, true, false, List, [], ◌∷◌, ◌++◌, map, length, refl, sym, ap, ◌∙◌, subst, arith, append_assoc, length-append}
use Rattle.std.specs.List.{AllByRecursion}
use Rattle.wh_words.specs.Lines.{text_of}
use Rattle.wh_text.specs.Lines.{IsLine}
use Rattle.wh_event.specs.declared.entry.Entry.{Entry}
use Rattle.wh_log.specs.Spelling.{entry_line}
use Rattle.wh_log.specs.Ranges.{Keeps}
use Rattle.wh_log.specs.declared.version.Version.{Version}
use Rattle.wh_log.specs.declared.front_log.Front.TheVariants.{Whole, Bad}
use Rattle.wh_log.specs.Logs.{Content, head_line, most_stops, start_line, end_line, log_lines, Opens, Fits}
use Rattle.wh_log.specs.FirstBad.{IsLogOf, IsFirstBad, Begins}
use Rattle.wh_log.specs.Places.{IsNeither, IsNoHead, IsNoStart, Lacks}
use Rattle.wh_log.specs.Judges.{Refuses, RefusesOpening, IsAccepted, CanOpen}
use Rattle.wh_log.specs.Torn.{begun_lines, IsRest, Recovers, HasLines, EndsBefore, CutsAreFound, CutsBegin}
use Rattle.wh_log.specs.Behinds.{Behind}
use Rattle.wh_log.proofs.EntryLaws.{entry_is_line, one_entry}
use Rattle.wh_log.proofs.HeadLaws.{head_is_line, start_is_line, end_is_line, one_version, one_start, end_differs}
use Rattle.wh_log.proofs.LineLaws.{one_line, not_whole, line_or_none, one_text, text_cons}
use Rattle.wh_log.proofs.Fronts.{AreKept, front_lines, content_of, front_is_lines, all_append, text-append}
use Rattle.wh_log.proofs.Continuing.{after_end, text_behind}
use Rattle.wh_log.proofs.Following.{one_more, front_length, ends_no_head, ends_no_start, ends_unopened, ends_wrong, ends_after, ends_refused}

-- ---- lines that stand whole

-- lines, and a rest with no line feed, are not the text of one line more
not_so_many : (before : List (List ℕ)) (lines : List (List ℕ)) (rest more : List ℕ) → AllByRecursion IsLine before → AllByRecursion IsLine lines → IsLine rest
    → length lines ≡ length before + 1 → text_of before ++ rest ≡ text_of lines ++ more → ⊥
not_so_many before [] rest more h k is count e = omega (arith, count)
not_so_many [] (line ∷ lines) rest more h k is count e = not_whole rest line (text_of lines ++ more) is (e ∙ one_text line lines more)
not_so_many (first ∷ before) (line ∷ lines) rest more h k is count e =
    let cut = one_line first line (text_of before ++ rest) (text_of lines ++ more) h.0 k.0 (sym (one_text first before rest) ∙ e ∙ one_text line lines more) in
    not_so_many before lines rest more h.1 k.1 is (omega (arith, count)) cut.1

shifted : (front line more after : List ℕ) → (front ++ (line ++ 10 ∷ more)) ++ after ≡ (front ++ (line ++ 10 ∷ [])) ++ (more ++ after)
shifted front line more after = simp append_assoc

-- where the first bad line stands whole, no such log begins with the text
pub whole_bad : (P : Content → Type 0) (text : List ℕ) (n : ℕ) → IsFirstBad P text n → HasLines text n → Begins P text → ⊥
whole_bad P text n bad has begins = elim bad.fault [
  | inl missing ↦ not_so_many bad.before has.0 bad.rest has.1 bad.lines has.2 missing.0 (omega (arith, has.4, bad.place)) (sym bad.parts ∙ has.3)
  | inr wrong ↦
      let parts : text ++ begins.more ≡ (text_of bad.before ++ (wrong.0 ++ 10 ∷ [])) ++ (wrong.1 ++ begins.more) =
      ap (λ (t : List ℕ). t ++ begins.more) (bad.parts ∙ ap (λ (t : List ℕ). text_of bad.before ++ t) wrong.3) ∙ shifted (text_of bad.before) wrong.0 wrong.1 begins.more in
      wrong.4 (record { more = wrong.1 ++ begins.more; whole = subst (IsLogOf P) parts begins.whole })
]

pub one_stands : (text line more : List ℕ) → IsLine line → text ≡ line ++ 10 ∷ more → HasLines text 1
one_stands text line more is e = (line ∷ [], more, (is, tt), e ∙ sym (one_text line [] more), refl)

pub two_stand : (text one other rest more : List ℕ) → IsLine one → IsLine other → text ≡ one ++ 10 ∷ rest → rest ≡ other ++ 10 ∷ more → HasLines text 2
two_stand text one other rest more is too e f = (
  one ∷ other ∷ [],
  more,
  (is, (too, tt)),
  e ∙ ap (λ (t : List ℕ). one ++ 10 ∷ t) (f ∙ sym (one_text other [] more)) ∙ sym (one_text one (other ∷ []) more),
  refl,
)

-- one stands whole behind a first one, where two do
pub second_stands : (text one rest : List ℕ) → IsLine one → text ≡ one ++ 10 ∷ rest → HasLines text 2 → HasLines rest 1
second_stands text one rest is e (lines, more, all, parts, count) = cut lines all parts count
  where
    cut : (lines : List (List ℕ)) → AllByRecursion IsLine lines → text ≡ text_of lines ++ more → length lines ≡ 2 → HasLines rest 1
    cut [] all parts count = absurd (omega (arith, count))
    cut (first ∷ lines) all parts count =
        let same = one_line one first rest (text_of lines ++ more) is all.0 (sym e ∙ parts ∙ one_text first lines more) in
        (lines, more, all.1, same.1, omega (arith, count))

-- where a line stands whole, what lacks one of a kind does so in all that goes on with it
pub lacks_on : (None : List ℕ → Type 0) (text more : List ℕ) → HasLines text 1 → Lacks None text → Lacks None (text ++ more)
lacks_on None text more has (inr bad) = inr (bad.0, bad.1 ++ more, bad.2, ap (λ (t : List ℕ). t ++ more) bad.3 ∙ append_assoc bad.0 (10 ∷ bad.1) more, bad.4)
lacks_on None text more (lines, behind, all, parts, count) (inl is) = absurd (not_so_many [] lines text behind tt all is (omega (arith, count)) parts)

pub stand_on : (text more : List ℕ) (n : ℕ) → HasLines text n → HasLines (text ++ more) n
stand_on text more n has = (has.0, has.1 ++ more, has.2, ap (λ (t : List ℕ). t ++ more) has.3 ∙ append_assoc (text_of has.0) has.1 more, has.4)

abbrev pub behind_on : {S : Type 0} (opens : S → ℕ → List ℕ → S → Type 0) (steps : S → Entry → S → Type 0) (old : S) (text more whole : List ℕ) (version : Version) (count : ℕ) (now : S) (rest : List ℕ)
    → whole ≡ text ++ more → Behind opens steps old text version count now rest → Behind opens steps old whole version count now (rest ++ more)
behind_on opens steps old text more whole version count now rest e b = record {
  clock = b.clock;
  slots = b.slots;
  entries = b.entries;
  begins = b.begins;
  kept = b.kept;
  number = b.number;
  few = b.few;
  parts = e ∙ ap (λ (t : List ℕ). t ++ more) b.parts ∙ append_assoc (text_of (front_lines version b.clock b.slots b.entries)) rest more;
  opening = b.opening;
  opened = b.opened;
  run = b.run;
}

module _ {S : Type 0} (opens : S → ℕ → List ℕ → S → Type 0) (steps : S → Entry → S → Type 0) (old : S) (text : List ℕ) where
  -- ---- the first two lines
  pub recovers_no_head : (new : S) → CanOpen opens old → Lacks IsNoHead text → HasLines text 1 → Recovers opens steps text old new (Bad 1 0)
  recovers_no_head new can lacks has =
      let bad : IsFirstBad (IsAccepted opens steps old) text 1 = ends_no_head opens steps old text new can lacks in
      (bad, whole_bad (IsAccepted opens steps old) text 1 bad has, record { before = []; rest = text; lines = tt; parts = refl; place = refl; bytes_are = refl })

  -- the second line is bad, after this many bytes
  before_second : (version : Version) (rest : List ℕ) → text ≡ head_line version ++ 10 ∷ rest → EndsBefore text 2 (length (text_of (head_line version ∷ [])))
  before_second version rest is = record { before = head_line version ∷ []; rest = rest; lines = (head_is_line version, tt); parts = is ∙ sym (one_text (head_line version) [] rest); place = refl; bytes_are = refl }

  pub recovers_no_start : (new : S) (version : Version) (rest : List ℕ) → CanOpen opens old → text ≡ head_line version ++ 10 ∷ rest → Lacks IsNoStart rest → HasLines text 2
      → Recovers opens steps text old new (Bad 2 (length (text_of (head_line version ∷ []))))
  recovers_no_start new version rest can is lacks has =
      let bad : IsFirstBad (IsAccepted opens steps old) text 2 = ends_no_start opens steps old text version rest new can is lacks in
      (bad, whole_bad (IsAccepted opens steps old) text 2 bad has, before_second version rest is)

  pub recovers_unopened : (version : Version) (clock : ℕ) (slots rest : List ℕ) (new : S) → CanOpen opens old → text ≡ head_line version ++ 10 ∷ (start_line clock slots ++ 10 ∷ rest) → Opens clock slots
      → RefusesOpening opens old clock slots → Recovers opens steps text old new (Bad 2 (length (text_of (head_line version ∷ []))))
  recovers_unopened version clock slots rest new can is fits refuses =
      let bad : IsFirstBad (IsAccepted opens steps old) text 2 = ends_unopened opens steps old text version clock slots rest new can is fits refuses in (
        bad,
        whole_bad (IsAccepted opens steps old) text 2 bad
            (two_stand text (head_line version) (start_line clock slots) (start_line clock slots ++ 10 ∷ rest) rest (head_is_line version) (start_is_line clock slots fits) is refl),
        before_second version (start_line clock slots ++ 10 ∷ rest) is,
      )

  -- ---- behind the entries
  module _ (version : Version) (count : ℕ) (now : S) (rest : List ℕ) (b : Behind opens steps old text version count now rest) where
    -- how many bytes were told
    abbrev pub told_bytes : ℕ
    told_bytes = length (text_of (front_lines version b.clock b.slots b.entries))

    before_next : EndsBefore text (count + 3) told_bytes
    before_next = record {
      before = front_lines version b.clock b.slots b.entries;
      rest = rest;
      lines = front_is_lines version b.clock b.slots b.entries b.begins b.kept;
      parts = b.parts;
      place = front_length version b.clock b.slots b.entries count b.number;
      bytes_are = refl;
    }

    read_fits : Fits version (content_of b.clock b.slots b.entries)
    read_fits = record { opens = b.begins; entries = b.kept; count = omega (arith, b.number, b.few) }

    pub cut_at : length text - length rest ≡ length (text_of (front_lines version b.clock b.slots b.entries))
    cut_at = omega (arith, ap length b.parts, length-append (text_of (front_lines version b.clock b.slots b.entries)) rest)

    pub recovers_ended : rest ≡ end_line count ++ 10 ∷ [] → Recovers opens steps text old now (Whole version count (length text - length rest) true)
    recovers_ended is = (
      content_of b.clock b.slots b.entries,
      record { fits = read_fits; rest = rest; text_is = b.parts; rest_is = is ∙ ap (λ n. end_line n ++ 10 ∷ []) (sym b.number); bytes_are = cut_at },
      record { opening = b.opening; opened = b.opened; run = b.run },
      b.number,
    )

    pub recovers_cut : IsLine rest → Recovers opens steps text old now (Whole version count (length text - length rest) false)
    recovers_cut is = (
      content_of b.clock b.slots b.entries,
      record { fits = read_fits; rest = rest; text_is = b.parts; rest_is = is; bytes_are = cut_at },
      record { opening = b.opening; opened = b.opened; run = b.run },
      b.number,
    )

    stands : (line more : List ℕ) → IsLine line → rest ≡ line ++ 10 ∷ more → HasLines text (count + 3)
    stands line more is e =
        let front = front_lines version b.clock b.slots b.entries in (
          front ++ line ∷ [],
          more,
          all_append IsLine front (line ∷ []) (front_is_lines version b.clock b.slots b.entries b.begins b.kept) (is, tt),
          b.parts ∙ ap (λ (t : List ℕ). text_of front ++ t) e ∙ one_more front line more,
          omega (arith, front_length version b.clock b.slots b.entries count b.number, length-append front (line ∷ [])),
        )

    pub recovers_wrong : (line more : List ℕ) → IsLine line → rest ≡ line ++ 10 ∷ more → IsNeither version count line → Recovers opens steps text old now (Bad (count + 3) told_bytes)
    recovers_wrong line more is e neither =
        let bad : IsFirstBad (IsAccepted opens steps old) text (count + 3) = ends_wrong opens steps old text version count now rest line more b is e neither in
        (bad, whole_bad (IsAccepted opens steps old) text (count + 3) bad (stands line more is e), before_next)

    pub recovers_refused : (entry : Entry) (after : List ℕ) (new : S) → ((old : S) (clock : ℕ) (slots : List ℕ) (a b : S) → opens old clock slots a → opens old clock slots b → a ≡ b)
        → ((old : S) (entry : Entry) (a b : S) → steps old entry a → steps old entry b → a ≡ b) → rest ≡ entry_line entry ++ 10 ∷ after → Keeps (most_stops version) entry
        → Refuses steps now entry → Recovers opens steps text old new (Bad (count + 3) told_bytes)
    recovers_refused entry after new one_opening one_step e keeps refuses =
        let bad : IsFirstBad (IsAccepted opens steps old) text (count + 3) =
        ends_refused opens steps old text version count now rest entry after new one_opening one_step b e keeps refuses in
        (bad, whole_bad (IsAccepted opens steps old) text (count + 3) bad (stands (entry_line entry) after (entry_is_line (most_stops version) entry keeps) e), before_next)

    -- no log goes on behind its end line
    ended_already : (P : Content → Type 0) (more : List ℕ) → 0 < length more → rest ≡ end_line count ++ 10 ∷ more → Begins P text → ⊥
    ended_already P more some is begins =
        let few : length b.entries < 10 ^ 9 = omega (arith, b.number, b.few) in
        let front = front_lines version b.clock b.slots b.entries in
        let last = end_line (length b.entries) in
        let last_is : rest ≡ last ++ 10 ∷ more = is ∙ ap (λ n. end_line n ++ 10 ∷ more) (sym b.number) in
        let parts : text ≡ text_of (front ++ last ∷ []) ++ more = b.parts ∙ ap (λ (t : List ℕ). text_of front ++ t) last_is ∙ one_more front last more in
        let behind = more ++ begins.more in
        let whole : text ++ begins.more ≡ text_of (front ++ last ∷ []) ++ behind = ap (λ (t : List ℕ). t ++ begins.more) parts ∙ append_assoc (text_of (front ++ last ∷ [])) more begins.more in
        let log : IsLogOf P (text_of (front ++ last ∷ []) ++ behind) = subst (IsLogOf P) whole begins.whole in
        elim (line_or_none behind) [
          | inl none ↦ text_behind P version b.clock b.slots b.entries behind b.begins b.kept few (omega (arith, some, length-append more begins.more)) none log
          | inr line ↦
              let cut : text_of (front ++ last ∷ []) ++ behind ≡ (text_of (front ++ last ∷ []) ++ (line.0 ++ 10 ∷ [])) ++ line.1 =
              ap (λ (t : List ℕ). text_of (front ++ last ∷ []) ++ t) line.3 ∙ regroup (text_of (front ++ last ∷ [])) line.0 line.1 in
              after_end P version b.clock b.slots b.entries line.0 b.begins b.kept few line.2 (record { more = line.1; whole = subst (IsLogOf P) cut log })
        ]
      where
        regroup : (front line more : List ℕ) → front ++ (line ++ 10 ∷ more) ≡ (front ++ (line ++ 10 ∷ [])) ++ more
        regroup front line more = simp append_assoc

    pub recovers_after : (more : List ℕ) → 0 < length more → rest ≡ end_line count ++ 10 ∷ more
        → Recovers opens steps text old now (Bad (count + 4) (length (text_of (front_lines version b.clock b.slots b.entries ++ end_line count ∷ []))))
    recovers_after more some is =
        let front = front_lines version b.clock b.slots b.entries in (
          ends_after opens steps old text version count now rest more b some is,
          ended_already (IsAccepted opens steps old) more some is,
          record {
            before = front ++ end_line count ∷ [];
            rest = more;
            lines = all_append IsLine front (end_line count ∷ []) (front_is_lines version b.clock b.slots b.entries b.begins b.kept) (end_is_line count b.few, tt);
            parts = b.parts ∙ ap (λ (t : List ℕ). text_of front ++ t) is ∙ one_more front (end_line count) more;
            place = omega (arith, front_length version b.clock b.slots b.entries count b.number, length-append front (end_line count ∷ []));
            bytes_are = refl;
          },
        )

-- ---- what is found of a log that was cut

record Begun (before : List (List ℕ)) (rest : List ℕ) (lines : List (List ℕ)) : Type 0 where
  tail : List (List ℕ)
  lines_are : lines ≡ before ++ tail
  rest_is : rest ≡ text_of tail

-- lines that stand whole at the front of lines
lines_begin : (before : List (List ℕ)) (rest : List ℕ) (lines : List (List ℕ)) → AllByRecursion IsLine before → AllByRecursion IsLine lines → text_of before ++ rest ≡ text_of lines → Begun before rest lines
lines_begin [] rest lines h k e = record { tail = lines; lines_are = refl; rest_is = e }
lines_begin (b ∷ before) rest [] h k e = absurd (empty b _ (sym (one_text b before rest) ∙ e))
  where
    empty : (b x : List ℕ) → b ++ 10 ∷ x ≡ [] → ⊥
    empty [] x e = cc
    empty (c ∷ b) x e = cc
lines_begin (b ∷ before) rest (first ∷ lines) h k e =
    let cut = one_line b first (text_of before ++ rest) (text_of lines) h.0 k.0 (sym (one_text b before rest) ∙ e ∙ text_cons first lines) in
    let more = lines_begin before rest lines h.1 k.1 cut.1 in
    record {
      tail = more.tail;
      lines_are = ap (λ (l : List ℕ). l ∷ lines) (sym cut.0) ∙ ap (λ (ls : List (List ℕ)). b ∷ ls) more.lines_are;
      rest_is = more.rest_is;
    }

heads_same : (a b : List ℕ) (xs ys : List (List ℕ)) → a ∷ xs ≡ b ∷ ys → a ≡ b
heads_same a b xs ys e = cc

tails_same : (a b : List ℕ) (xs ys : List (List ℕ)) → a ∷ xs ≡ b ∷ ys → xs ≡ ys
tails_same a b xs ys e = cc

record Later (found : List Entry) (tail : List (List ℕ)) (entries : List Entry) : Type 0 where
  later : List Entry
  entries_are : entries ≡ found ++ later
  tail_is : tail ≡ map entry_line later

entries_begin : (version : Version) (found : List Entry) (tail : List (List ℕ)) (entries : List Entry) → AreKept version found → AreKept version entries → map entry_line entries ≡ map entry_line found ++ tail
    → Later found tail entries
entries_begin version [] tail entries h k e = record { later = entries; entries_are = refl; tail_is = sym e }
entries_begin version (entry ∷ found) tail [] h k e = absurd (empty e)
  where
    empty : {x : List ℕ} {xs : List (List ℕ)} → [] ≡ x ∷ xs → ⊥
    empty e = cc
entries_begin version (entry ∷ found) tail (first ∷ entries) h k e =
    let same : first ≡ entry = one_entry (most_stops version) first entry k.0 h.0 (heads_same (entry_line first) (entry_line entry) (map entry_line entries) (map entry_line found ++ tail) e) in
    let more = entries_begin version found tail entries h.1 k.1 (tails_same (entry_line first) (entry_line entry) (map entry_line entries) (map entry_line found ++ tail) e) in
    record {
      later = more.later;
      entries_are = ap (λ (x : Entry). x ∷ entries) same ∙ ap (λ (es : List Entry). entry ∷ es) more.entries_are;
      tail_is = more.tail_is;
    }

-- no end line stands at the front of entries' lines
not_ended : (version : Version) (count : ℕ) (later : List Entry) (rest : List ℕ) → count < 10 ^ 9 → AreKept version later → (end_line count ++ 10 ∷ []) ++ rest ≡ text_of (map entry_line later) → ⊥
not_ended version count [] rest few kept e = empty (end_line count) rest e
  where
    empty : (line rest : List ℕ) → (line ++ 10 ∷ []) ++ rest ≡ [] → ⊥
    empty [] rest e = cc
    empty (b ∷ line) rest e = cc
not_ended version count (entry ∷ later) rest few kept e =
    let cut = one_line (end_line count) (entry_line entry) rest (text_of (map entry_line later)) (end_is_line count few) (entry_is_line (most_stops version) entry kept.0)
    (sym (append_assoc (end_line count) (10 ∷ []) rest) ∙ e ∙ text_cons (entry_line entry) (map entry_line later)) in
    end_differs (most_stops version) count entry few kept.0 cut.0

kept_behind : (version : Version) (found later : List Entry) → AreKept version (found ++ later) → AreKept version later
kept_behind version [] later h = h
kept_behind version (entry ∷ found) later h = kept_behind version found later h.1

pub cuts_are_found : CutsAreFound
cuts_are_found version other content found is_ended text rest bytes fits is holds =
    let before = begun_lines other found in
    let lines = begun_lines version content in
    let parts : text_of before ++ (holds.rest ++ rest) ≡ text_of lines =
    sym (append_assoc (text_of before) holds.rest rest) ∙ ap (λ (t : List ℕ). t ++ rest) (sym holds.text_is) ∙ is in
    let cut = lines_begin before (holds.rest ++ rest) lines (front_is_lines other found.clock found.slots found.entries holds.fits.opens holds.fits.entries)
    (front_is_lines version content.clock content.slots content.entries fits.opens fits.entries) parts in
    let head = heads_same (head_line version) (head_line other) (start_line content.clock content.slots ∷ map entry_line content.entries) (start_line found.clock found.slots ∷ (map entry_line found.entries ++ cut.tail)) cut.lines_are in
    let same : other ≡ version = one_version other version (sym head) in
    let behind = tails_same (head_line version) (head_line other) (start_line content.clock content.slots ∷ map entry_line content.entries) (start_line found.clock found.slots ∷ (map entry_line found.entries ++ cut.tail)) cut.lines_are in
    let start = one_start found.clock content.clock found.slots content.slots holds.fits.opens fits.opens (sym (heads_same (start_line content.clock content.slots) (start_line found.clock found.slots) (map entry_line content.entries) (map entry_line found.entries ++ cut.tail) behind)) in
    let rest_of = tails_same (start_line content.clock content.slots) (start_line found.clock found.slots) (map entry_line content.entries) (map entry_line found.entries ++ cut.tail) behind in
    let kept : AreKept version found.entries = subst (λ (v : Version). AreKept v found.entries) same holds.fits.entries in
    let more = entries_begin version found.entries cut.tail content.entries kept fits.entries rest_of in
    let later_kept : AreKept version more.later = kept_behind version found.entries more.later (subst (λ (es : List Entry). AreKept version es) more.entries_are fits.entries) in (
      more.later,
      same,
      start.0,
      start.1,
      more.entries_are,
      open_still version found more.later holds.rest rest is_ended holds.fits.count later_kept holds.rest_is (cut.rest_is ∙ ap text_of more.tail_is),
    )
  where
    open_still : (version : Version) (found : Content) (later : List Entry) (torn rest : List ℕ) (is_ended : Bool) → length found.entries < 10 ^ 9 → AreKept version later
        → IsRest is_ended found torn → torn ++ rest ≡ text_of (map entry_line later) → is_ended ≡ false
    open_still version found later torn rest false few kept is e = refl
    open_still version found later torn rest true few kept is e = absurd (not_ended version (length found.entries) later rest few kept (ap (λ (t : List ℕ). t ++ rest) (sym is) ∙ e))

pub cuts_begin : CutsBegin
cuts_begin P version content text rest fits holds is =
    let front = begun_lines version content in
    let last = end_line (length content.entries) in
    let whole : text_of (log_lines version content) ≡ text ++ (rest ++ text_of (last ∷ [])) =
    text-append front (last ∷ []) ∙ ap (λ (t : List ℕ). t ++ text_of (last ∷ [])) (sym is) ∙ append_assoc text rest (text_of (last ∷ [])) in
    record {
      more = rest ++ text_of (last ∷ []);
      whole = record { content = content; is = record { version = version; fits = fits; text_is = sym whole }; holds = holds };
    }
