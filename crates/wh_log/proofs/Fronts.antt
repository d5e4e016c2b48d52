-- Logs that begin with the lines that were read.
use Rattle.std.proofs.Common.{◌≡◌, ◌≢◌, ℕ, ◌<◌, ◌^◌, ◌⊎◌, inl, inr, List, [], ◌∷◌, ◌++◌, map, length, refl, sym, ap, ◌∙◌, subst, arith}
use Rattle.std.proofs.lemmas.Grind.{flat_map-append}
use Rattle.std.specs.List.{AllByRecursion}
use Rattle.wh_words.specs.Lines.{text_of}
use Rattle.wh_text.specs.Lines.{IsLine}
use Rattle.wh_event.specs.declared.entry.Entry.{Entry}
use Rattle.wh_log.specs.Spelling.{entry_line}
use Rattle.wh_event.specs.declared.event.Event.{Event}
use Rattle.wh_event.specs.declared.event.Event.TheVariants.{Submit, Request, Tick, Close, Replace}
use Rattle.wh_log.specs.Ranges.{Keeps, EventKeeps}
use Rattle.wh_log.proofs.EntryLaws.{entry_is_line, one_entry}
use Rattle.wh_log.specs.declared.version.Version.{Version}
use Rattle.wh_log.specs.declared.version.Version.TheVariants.{One, Two}
use Rattle.wh_log.specs.Logs.{Content, head_line, most_stops, start_line, end_line, log_lines, Opens, Fits}
use Rattle.wh_log.specs.Places.{IsNeither}
use Rattle.wh_log.proofs.HeadLaws.{head_is_line, start_is_line, end_is_line, one_end, end_differs}

-- an end line with another count
pub other_count : (version : Version) (count total : ℕ) (line : List ℕ) → count < 10 ^ 9 → total < 10 ^ 9 → total ≢ count → line ≡ end_line total → IsNeither version count line
other_count version count total line h k differs is = record {
  entry = λ entry keeps more other. end_differs (most_stops version) total entry k keeps (sym is ∙ other);
  end = λ other. differs (one_end total count k h (sym is ∙ other));
}

abbrev pub AreKept : Version → List Entry → Type 0
AreKept version entries = AllByRecursion (Keeps (most_stops version)) entries

-- the lines that were read
abbrev pub front_lines : Version → ℕ → List ℕ → List Entry → List (List ℕ)
front_lines version clock slots entries = head_line version ∷ start_line clock slots ∷ map entry_line entries

abbrev pub content_of : ℕ → List ℕ → List Entry → Content
content_of clock slots entries = record { clock = clock; slots = slots; entries = entries }

pub all_append : {X : Type 0} (P : X → Type 0) (xs ys : List X) → AllByRecursion P xs → AllByRecursion P ys → AllByRecursion P (xs ++ ys)
all_append P [] ys p q = q
all_append P (x ∷ xs) ys p q = (p.0, all_append P xs ys p.1 q)

pub entries_are_lines : (version : Version) (entries : List Entry) → AreKept version entries → AllByRecursion IsLine (map entry_line entries)
entries_are_lines version [] h = tt
entries_are_lines version (entry ∷ entries) h = (entry_is_line (most_stops version) entry h.0, entries_are_lines version entries h.1)

pub front_is_lines : (version : Version) (clock : ℕ) (slots : List ℕ) (entries : List Entry) → Opens clock slots → AreKept version entries → AllByRecursion IsLine (front_lines version clock slots entries)
front_is_lines version clock slots entries opens kept = (head_is_line version, (start_is_line clock slots opens, entries_are_lines version entries kept))

pub log_is_lines : (version : Version) (content : Content) → Fits version content → AllByRecursion IsLine (log_lines version content)
log_is_lines version content h =
    (head_is_line version, (start_is_line content.clock content.slots h.opens, all_append IsLine (map entry_line content.entries) (end_line (length content.entries) ∷ []) (entries_are_lines version content.entries h.entries) (end_is_line (length content.entries) h.count, tt)))

pub text-append : (xs ys : List (List ℕ)) → text_of (xs ++ ys) ≡ text_of xs ++ text_of ys
text-append xs ys = flat_map-append (λ line. line ++ 10 ∷ []) xs ys

-- ---- what stands behind the entries of a log
abbrev pub Goes : List Entry → ℕ → List ℕ → List (List ℕ) → List Entry → Type 0
Goes before count line tail entries =
    ((entry : Entry) × (rest : List Entry) × (entries ≡ before ++ entry ∷ rest) × (line ≡ entry_line entry)) ⊎ ((entries ≡ before) × (line ≡ end_line count) × (tail ≡ []))

goes_cons : (first : Entry) (before : List Entry) (count : ℕ) (line : List ℕ) (tail : List (List ℕ)) (entries : List Entry) → Goes before count line tail entries → Goes (first ∷ before) count line tail (first ∷ entries)
goes_cons first before count line tail entries (inl next) = inl (next.0, next.1, ap (λ (es : List Entry). first ∷ es) next.2, next.3)
goes_cons first before count line tail entries (inr end) = inr (ap (λ (es : List Entry). first ∷ es) end.0, end.1, end.2)

pub entries_go : (version : Version) (count : ℕ) (before : List Entry) (line : List ℕ) (tail : List (List ℕ)) (entries : List Entry) → count < 10 ^ 9 → AreKept version before → AreKept version entries
    → map entry_line entries ++ end_line count ∷ [] ≡ map entry_line before ++ line ∷ tail → Goes before count line tail entries
entries_go version count [] line tail [] few kept fits e = inr (refl, (let same : end_line count ≡ line = head_same (end_line count) line [] tail e in sym same), (let same : [] ≡ tail = tail_same (end_line count) line [] tail e in sym same))
  where
    head_same : (a b : List ℕ) (xs ys : List (List ℕ)) → a ∷ xs ≡ b ∷ ys → a ≡ b
    head_same a b xs ys e = cc

    tail_same : (a b : List ℕ) (xs ys : List (List ℕ)) → a ∷ xs ≡ b ∷ ys → xs ≡ ys
    tail_same a b xs ys e = cc
entries_go version count [] line tail (entry ∷ entries) few kept fits e = inl (entry, entries, refl, sym (head_same (entry_line entry) line (map entry_line entries ++ end_line count ∷ []) tail e))
  where
    head_same : (a b : List ℕ) (xs ys : List (List ℕ)) → a ∷ xs ≡ b ∷ ys → a ≡ b
    head_same a b xs ys e = cc
entries_go version count (first ∷ before) line tail [] few kept fits e = absurd (end_differs (most_stops version) count first few kept.0 (head_same (end_line count) (entry_line first) [] (map entry_line before ++ line ∷ tail) e))
  where
    head_same : (a b : List ℕ) (xs ys : List (List ℕ)) → a ∷ xs ≡ b ∷ ys → a ≡ b
    head_same a b xs ys e = cc
entries_go version count (first ∷ before) line tail (entry ∷ entries) few kept fits e =
    let head : entry_line entry ≡ entry_line first = head_same (entry_line entry) (entry_line first) (map entry_line entries ++ end_line count ∷ []) (map entry_line before ++ line ∷ tail) e in
    let rest : map entry_line entries ++ end_line count ∷ [] ≡ map entry_line before ++ line ∷ tail = tail_same (entry_line entry) (entry_line first) (map entry_line entries ++ end_line count ∷ []) (map entry_line before ++ line ∷ tail) e in
    let same : first ≡ entry = one_entry (most_stops version) first entry kept.0 fits.0 (sym head) in
    subst (λ (x : Entry). Goes (first ∷ before) count line tail (x ∷ entries)) same (goes_cons first before count line tail entries (entries_go version count before line tail entries few kept.1 fits.1 rest))
  where
    head_same : (a b : List ℕ) (xs ys : List (List ℕ)) → a ∷ xs ≡ b ∷ ys → a ≡ b
    head_same a b xs ys e = cc

    tail_same : (a b : List ℕ) (xs ys : List (List ℕ)) → a ∷ xs ≡ b ∷ ys → xs ≡ ys
    tail_same a b xs ys e = cc

-- entry lines alone are not all that stands in a log
pub no_end : (version : Version) (count : ℕ) (before : List Entry) (entries : List Entry) → count < 10 ^ 9 → AreKept version before → map entry_line entries ++ end_line count ∷ [] ≡ map entry_line before → ⊥
no_end version count [] [] few kept e = absurd (empty e)
  where
    empty : {x : List ℕ} {xs : List (List ℕ)} → x ∷ xs ≡ [] → ⊥
    empty e = cc
no_end version count [] (entry ∷ entries) few kept e = absurd (empty e)
  where
    empty : {x : List ℕ} {xs : List (List ℕ)} → x ∷ xs ≡ [] → ⊥
    empty e = cc
no_end version count (first ∷ before) [] few kept e = end_differs (most_stops version) count first few kept.0 (head_same (end_line count) (entry_line first) [] (map entry_line before) e)
  where
    head_same : (a b : List ℕ) (xs ys : List (List ℕ)) → a ∷ xs ≡ b ∷ ys → a ≡ b
    head_same a b xs ys e = cc
no_end version count (first ∷ before) (entry ∷ entries) few kept e = no_end version count before entries few kept.1 (tail_same (entry_line entry) (entry_line first) (map entry_line entries ++ end_line count ∷ []) (map entry_line before) e)
  where
    tail_same : (a b : List ℕ) (xs ys : List (List ℕ)) → a ∷ xs ≡ b ∷ ys → xs ≡ ys
    tail_same a b xs ys e = cc

-- what an older version can tell, a newer one can
pub kept_by_all : (version : Version) (entry : Entry) → Keeps (most_stops version) entry → Keeps 8 entry
kept_by_all Two entry h = h
kept_by_all One entry h = record { caller = h.caller; event = more entry.event h.event; reply = h.reply }
  where
    more : (event : Event) → EventKeeps 2 event → EventKeeps 8 event
    more (Submit client stops) h = (h.0, h.1, h.2, omega (arith, h.3))
    more (Request agent) h = h
    more Tick h = h
    more Close h = h
    more (Replace agent spare) h = h
