-- What a log is that begins with the lines that were read and goes on.
use Rattle.std.proofs.Common.{◌≡◌, ℕ, ◌<◌, ◌+◌, ◌^◌, inl, inr, List, [], ◌∷◌, ◌++◌, map, length, sym, ap, ◌∙◌, subst, arith, append_assoc, length-append}
use Rattle.std.specs.List.{AllByRecursion}
use Rattle.wh_words.specs.Lines.{text_of}
use Rattle.wh_text.specs.Lines.{IsLine}
use Rattle.wh_event.specs.declared.entry.Entry.{Entry}
use Rattle.wh_log.specs.Spelling.{entry_line}
use Rattle.wh_log.specs.Ranges.{Keeps}
use Rattle.wh_log.specs.declared.version.Version.{Version}
use Rattle.wh_log.specs.Logs.{Content, head_line, most_stops, start_line, end_line, log_lines, Opens, Fits, IsLogText}
use Rattle.wh_log.specs.FirstBad.{IsLogOf, Begins}
use Rattle.wh_log.specs.Places.{IsNeither}
use Rattle.wh_log.proofs.HeadLaws.{one_version, one_start, end_differs, end_is_line}
use Rattle.wh_log.proofs.LineLaws.{lines_front, lines_all}
use Rattle.wh_log.proofs.Fronts.{AreKept, front_lines, front_is_lines, log_is_lines, Goes, entries_go, no_end, all_append}

heads_same : (a b : List ℕ) (xs ys : List (List ℕ)) → a ∷ xs ≡ b ∷ ys → a ≡ b
heads_same a b xs ys e = cc

tails_same : (a b : List ℕ) (xs ys : List (List ℕ)) → a ∷ xs ≡ b ∷ ys → xs ≡ ys
tails_same a b xs ys e = cc

-- a log with these lines first and then this one
pub record Continues (version : Version) (clock : ℕ) (slots : List ℕ) (entries : List Entry) (line : List ℕ) (tail : List (List ℕ)) (content : Content) : Type 0 where
  pub clock_is : content.clock ≡ clock
  pub slots_are : content.slots ≡ slots
  pub kept : AreKept version content.entries
  pub few : length content.entries < 10 ^ 9
  pub goes : Goes entries (length content.entries) line tail content.entries

pub continues : (version : Version) (clock : ℕ) (slots : List ℕ) (entries : List Entry) (line : List ℕ) (tail : List (List ℕ)) (other : Version) (content : Content)
    → Opens clock slots → AreKept version entries → Fits other content → log_lines other content ≡ front_lines version clock slots entries ++ line ∷ tail → Continues version clock slots entries line tail content
continues version clock slots entries line tail other content opens kept fits e =
    let same : other ≡ version = one_version other version (heads_same (head_line other) (head_line version) (start_line content.clock content.slots ∷ (map entry_line content.entries ++ end_line (length content.entries) ∷ [])) (start_line clock slots ∷ (map entry_line entries ++ line ∷ tail)) e) in
    let e1 : start_line content.clock content.slots ∷ (map entry_line content.entries ++ end_line (length content.entries) ∷ []) ≡ start_line clock slots ∷ (map entry_line entries ++ line ∷ tail)
    = tails_same (head_line other) (head_line version) (start_line content.clock content.slots ∷ (map entry_line content.entries ++ end_line (length content.entries) ∷ [])) (start_line clock slots ∷ (map entry_line entries ++ line ∷ tail)) e in
    let starts = one_start content.clock clock content.slots slots fits.opens opens (heads_same (start_line content.clock content.slots) (start_line clock slots) (map entry_line content.entries ++ end_line (length content.entries) ∷ []) (map entry_line entries ++ line ∷ tail) e1) in
    let e2 : map entry_line content.entries ++ end_line (length content.entries) ∷ [] ≡ map entry_line entries ++ line ∷ tail
    = tails_same (start_line content.clock content.slots) (start_line clock slots) (map entry_line content.entries ++ end_line (length content.entries) ∷ []) (map entry_line entries ++ line ∷ tail) e1 in
    let all : AreKept version content.entries = subst (λ (v : Version). AreKept v content.entries) same fits.entries in
    record { clock_is = starts.0; slots_are = starts.1; kept = all; few = fits.count; goes = entries_go version (length content.entries) entries line tail content.entries fits.count kept all e2 }

-- from the text: a log begins with the text of the lines that were read and one line more
pub begun : (version : Version) (clock : ℕ) (slots : List ℕ) (entries : List Entry) (line : List ℕ) (more : List ℕ) (content : Content)
    → Opens clock slots → AreKept version entries → IsLine line → IsLogText content ((text_of (front_lines version clock slots entries) ++ (line ++ 10 ∷ [])) ++ more)
    → (tail : List (List ℕ)) × Continues version clock slots entries line tail content
begun version clock slots entries line more content opens kept is text =
    let front = front_lines version clock slots entries in
    let regrouped : (text_of front ++ (line ++ 10 ∷ [])) ++ more ≡ text_of front ++ (line ++ 10 ∷ more) = append_assoc (text_of front) (line ++ 10 ∷ []) more ∙ ap (λ (t : List ℕ). text_of front ++ t) (append_assoc line (10 ∷ []) more) in
    let cut = lines_front front line more (log_lines text.version content) (front_is_lines version clock slots entries opens kept) is (log_is_lines text.version content text.fits) (sym regrouped ∙ text.text_is) in
    (cut.0, continues version clock slots entries line cut.0 text.version content opens kept text.fits cut.1)

-- a wrong line
pub wrong_line : (P : Content → Type 0) (version : Version) (clock : ℕ) (slots : List ℕ) (entries : List Entry) (line : List ℕ)
    → Opens clock slots → AreKept version entries → IsLine line → IsNeither version (length entries) line → Begins P (text_of (front_lines version clock slots entries) ++ (line ++ 10 ∷ [])) → ⊥
wrong_line P version clock slots entries line opens kept is neither begins =
    let c = begun version clock slots entries line begins.more begins.whole.content opens kept is begins.whole.is in
    elim c.1.goes [
      | inl next ↦ neither.entry next.0 (kept_at version entries next.0 next.1 (subst (λ (es : List Entry). AreKept version es) next.2 c.1.kept)) (few_at entries next.0 next.1 (subst (λ (es : List Entry). length es < 10 ^ 9) next.2 c.1.few)) next.3
      | inr end ↦ neither.end (end.1 ∙ ap (λ (es : List Entry). end_line (length es)) end.0)
    ]
  where
    kept_at : (version : Version) (entries : List Entry) (entry : Entry) (rest : List Entry) → AreKept version (entries ++ entry ∷ rest) → Keeps (most_stops version) entry
    kept_at version [] entry rest h = h.0
    kept_at version (first ∷ entries) entry rest h = kept_at version entries entry rest h.1

    few_at : (entries : List Entry) (entry : Entry) (rest : List Entry) → length (entries ++ entry ∷ rest) < 10 ^ 9 → length entries + 1 < 10 ^ 9
    few_at entries entry rest h = omega (arith, length-append entries (entry ∷ rest))

-- a line behind the end
pub after_end : (P : Content → Type 0) (version : Version) (clock : ℕ) (slots : List ℕ) (entries : List Entry) (line : List ℕ)
    → Opens clock slots → AreKept version entries → length entries < 10 ^ 9 → IsLine line → Begins P (text_of (front_lines version clock slots entries ++ end_line (length entries) ∷ []) ++ (line ++ 10 ∷ [])) → ⊥
after_end P version clock slots entries line opens kept few is begins =
    let front = front_lines version clock slots entries in
    let last = end_line (length entries) in
    let text = begins.whole.is in
    let lines : AllByRecursion IsLine (front ++ last ∷ []) = all_append IsLine front (last ∷ []) (front_is_lines version clock slots entries opens kept) (end_is_line (length entries) few, tt) in
    let regrouped : (text_of (front ++ last ∷ []) ++ (line ++ 10 ∷ [])) ++ begins.more ≡ text_of (front ++ last ∷ []) ++ (line ++ 10 ∷ begins.more) = append_assoc (text_of (front ++ last ∷ [])) (line ++ 10 ∷ []) begins.more ∙ ap (λ (t : List ℕ). text_of (front ++ last ∷ []) ++ t) (append_assoc line (10 ∷ []) begins.more) in
    let cut = lines_front (front ++ last ∷ []) line begins.more (log_lines text.version begins.whole.content) lines is (log_is_lines text.version begins.whole.content text.fits) (sym regrouped ∙ text.text_is) in
    let joined : log_lines text.version begins.whole.content ≡ front ++ last ∷ (line ∷ cut.0) = cut.1 ∙ append_assoc front (last ∷ []) (line ∷ cut.0) in
    let c = continues version clock slots entries last (line ∷ cut.0) text.version begins.whole.content opens kept text.fits joined in
    elim c.goes [
      | inl next ↦ end_differs (most_stops version) (length entries) next.0 few (kept_at version entries next.0 next.1 (subst (λ (es : List Entry). AreKept version es) next.2 c.kept)) next.3
      | inr end ↦ not_empty line cut.0 end.2
    ]
  where
    kept_at : (version : Version) (entries : List Entry) (entry : Entry) (rest : List Entry) → AreKept version (entries ++ entry ∷ rest) → Keeps (most_stops version) entry
    kept_at version [] entry rest h = h.0
    kept_at version (first ∷ entries) entry rest h = kept_at version entries entry rest h.1

    not_empty : (line : List ℕ) (tail : List (List ℕ)) → line ∷ tail ≡ [] → ⊥
    not_empty line tail e = cc

-- no further line
pub no_line : (P : Content → Type 0) (version : Version) (clock : ℕ) (slots : List ℕ) (entries : List Entry) (rest : List ℕ)
    → Opens clock slots → AreKept version entries → IsLine rest → IsLogOf P (text_of (front_lines version clock slots entries) ++ rest) → ⊥
no_line P version clock slots entries rest opens kept is log =
    let front = front_lines version clock slots entries in
    let content = log.content in
    let other = log.is.version in
    let all = lines_all front rest (log_lines other content) (front_is_lines version clock slots entries opens kept) is (log_is_lines other content log.is.fits) log.is.text_is in
    let e1 : start_line content.clock content.slots ∷ (map entry_line content.entries ++ end_line (length content.entries) ∷ []) ≡ start_line clock slots ∷ map entry_line entries
    = tails_same (head_line other) (head_line version) (start_line content.clock content.slots ∷ (map entry_line content.entries ++ end_line (length content.entries) ∷ [])) (start_line clock slots ∷ map entry_line entries) all in
    let e2 : map entry_line content.entries ++ end_line (length content.entries) ∷ [] ≡ map entry_line entries
    = tails_same (start_line content.clock content.slots) (start_line clock slots) (map entry_line content.entries ++ end_line (length content.entries) ∷ []) (map entry_line entries) e1 in
    no_end version (length content.entries) entries content.entries log.is.fits.count kept e2

-- the text ends behind the end line
pub text_behind : (P : Content → Type 0) (version : Version) (clock : ℕ) (slots : List ℕ) (entries : List Entry) (rest : List ℕ)
    → Opens clock slots → AreKept version entries → length entries < 10 ^ 9 → 0 < length rest → IsLine rest → IsLogOf P (text_of (front_lines version clock slots entries ++ end_line (length entries) ∷ []) ++ rest) → ⊥
text_behind P version clock slots entries rest opens kept few some is log =
    let front = front_lines version clock slots entries in
    let last = end_line (length entries) in
    let lines : AllByRecursion IsLine (front ++ last ∷ []) = all_append IsLine front (last ∷ []) (front_is_lines version clock slots entries opens kept) (end_is_line (length entries) few, tt) in
    let all = lines_all (front ++ last ∷ []) rest (log_lines log.is.version log.content) lines is (log_is_lines log.is.version log.content log.is.fits) log.is.text_is in
    let e : text_of (front ++ last ∷ []) ++ rest ≡ text_of (front ++ last ∷ []) = log.is.text_is ∙ ap text_of all in
    omega (arith, length-append (text_of (front ++ last ∷ [])) rest, ap length e)
