-- Following a log: what was read so far, and each exit.
use Rattle.std.proofs.Common.{◌≡◌, ℕ, suc, ◌<◌, ◌+◌, ◌^◌, inl, inr, List, [], ◌∷◌, ◌++◌, map, length, refl, sym, ap, ◌∙◌, subst, arith, append_assoc, length-append, lit<}
use Rattle.std.proofs.lemmas.List.{append-nil, map-append}
use Rattle.wh_words.specs.Lines.{text_of}
use Rattle.wh_text.specs.Lines.{IsLine}
use Rattle.wh_event.specs.declared.entry.Entry.{Entry}
use Rattle.wh_log.specs.Spelling.{entry_line}
use Rattle.wh_log.specs.Ranges.{Keeps}
use Rattle.wh_log.proofs.EntryLaws.{entry_is_line, one_entry}
use Rattle.wh_log.specs.declared.version.Version.{Version}
use Rattle.wh_log.specs.declared.version.Version.TheVariants.{Two}
use Rattle.wh_log.specs.declared.follow_log.Followed.TheVariants.{Whole, Bad}
use Rattle.wh_log.specs.Logs.{Content, head_line, most_stops, start_line, end_line, log_lines, Opens, Fits, IsLogText}
use Rattle.wh_log.specs.FirstBad.{IsLogOf, Begins}
use Rattle.wh_log.specs.Places.{IsNeither, IsNoHead, IsNoStart, Lacks}
use Rattle.wh_log.specs.Behinds.{Behind}
use Rattle.wh_log.specs.Judges.{RunOf, Refuses, RefusesOpening, IsAccepted, CanOpen, Concludes}
use Rattle.wh_log.proofs.HeadLaws.{head_is_line, one_start, start_is_line, end_differs, end_is_line}
use Rattle.wh_log.proofs.LineLaws.{not_whole, line_or_none, text_cons, lines_front, lines_all}
use Rattle.wh_log.proofs.Fronts.{AreKept, front_lines, content_of, front_is_lines, log_is_lines, text-append, all_append}
use Rattle.wh_log.proofs.Continuing.{begun, wrong_line, after_end, no_line, text_behind}
use Rattle.wh_log.proofs.Runs.{run_more, run_step, run_one}

two_lines : (a b rest : List ℕ) → a ++ 10 ∷ (b ++ 10 ∷ rest) ≡ text_of (a ∷ b ∷ []) ++ rest
two_lines a b rest = simp append_assoc

one_front : (line rest : List ℕ) → line ++ 10 ∷ rest ≡ text_of (line ∷ []) ++ rest
one_front line rest = simp append_assoc

pub one_more : (lines : List (List ℕ)) (line rest : List ℕ) → text_of lines ++ (line ++ 10 ∷ rest) ≡ text_of (lines ++ line ∷ []) ++ rest
one_more lines line rest =
    let cut : text_of (lines ++ line ∷ []) ≡ text_of lines ++ text_of (line ∷ []) = text-append lines (line ∷ []) in
    rw cut (simp append_assoc)

pub behind_start : {S : Type 0} (opens : S → ℕ → List ℕ → S → Type 0) (steps : S → Entry → S → Type 0) (old : S) (text : List ℕ) (version : Version) (clock : ℕ) (slots : List ℕ) (now : S) (rest : List ℕ)
    → text ≡ head_line version ++ 10 ∷ (start_line clock slots ++ 10 ∷ rest) → Opens clock slots → opens old clock slots now → Behind opens steps old text version 0 now rest
behind_start opens steps old text version clock slots now rest is fits opened = record {
  clock = clock;
  slots = slots;
  entries = [];
  begins = fits;
  kept = tt;
  number = refl;
  few = lit< tt;
  parts = is ∙ two_lines (head_line version) (start_line clock slots) rest;
  opening = now;
  opened = opened;
  run = refl;
}

front_more : (version : Version) (clock : ℕ) (slots : List ℕ) (entries : List Entry) (entry : Entry) → front_lines version clock slots entries ++ entry_line entry ∷ [] ≡ front_lines version clock slots (entries ++ entry ∷ [])
front_more version clock slots entries entry = ap (λ (ls : List (List ℕ)). head_line version ∷ start_line clock slots ∷ ls) (sym (map-append entry_line entries (entry ∷ [])))

pub behind_next : {S : Type 0} (opens : S → ℕ → List ℕ → S → Type 0) (steps : S → Entry → S → Type 0) (old : S) (text : List ℕ) (version : Version) (count : ℕ) (now : S) (rest : List ℕ) (entry : Entry) (after : List ℕ) (new : S)
    → Behind opens steps old text version count now rest → rest ≡ entry_line entry ++ 10 ∷ after → Keeps (most_stops version) entry → count + 1 < 10 ^ 9 → steps now entry new → Behind opens steps old text version (count + 1) new after
behind_next opens steps old text version count now rest entry after new b is keeps few step = record {
  clock = b.clock;
  slots = b.slots;
  entries = b.entries ++ entry ∷ [];
  begins = b.begins;
  kept = all_append (Keeps (most_stops version)) b.entries (entry ∷ []) b.kept (keeps, tt);
  number = omega (arith, length-append b.entries (entry ∷ []), b.number);
  few = few;
  parts = b.parts ∙ ap (λ (t : List ℕ). text_of (front_lines version b.clock b.slots b.entries) ++ t) is ∙ one_more (front_lines version b.clock b.slots b.entries) (entry_line entry) after
      ∙ ap (λ (ls : List (List ℕ)). text_of ls ++ after) (front_more version b.clock b.slots b.entries entry);
  opening = b.opening;
  opened = b.opened;
  run = run_more steps b.opening now new b.entries entry b.run step;
}

log_is_front : (version : Version) (clock : ℕ) (slots : List ℕ) (entries : List Entry) → log_lines version (content_of clock slots entries) ≡ front_lines version clock slots entries ++ end_line (length entries) ∷ []
log_is_front version clock slots entries = refl

front_fits : (version : Version) (clock : ℕ) (slots : List ℕ) (entries : List Entry) → Opens clock slots → AreKept version entries → length entries < 10 ^ 9 → Fits version (content_of clock slots entries)
front_fits version clock slots entries opens kept few = record { opens = opens; entries = kept; count = few }

-- what was read, with its end line
closed : (version : Version) (clock : ℕ) (slots : List ℕ) (entries : List Entry) → Opens clock slots → AreKept version entries → length entries < 10 ^ 9
    → IsLogText (content_of clock slots entries) (text_of (front_lines version clock slots entries ++ end_line (length entries) ∷ []))
closed version clock slots entries opens kept few = record { version = version; fits = front_fits version clock slots entries opens kept few; text_is = refl }

accepted : {S : Type 0} (opens : S → ℕ → List ℕ → S → Type 0) (steps : S → Entry → S → Type 0) (old : S) (text : List ℕ) (version : Version) (count : ℕ) (now : S) (rest : List ℕ)
    → (b : Behind opens steps old text version count now rest) → IsAccepted opens steps old (content_of b.clock b.slots b.entries)
accepted opens steps old text version count now rest b = record { new = now; leads = record { opening = b.opening; opened = b.opened; run = b.run } }

-- the lines that were read begin a log that the judge accepts
front_begins : {S : Type 0} (opens : S → ℕ → List ℕ → S → Type 0) (steps : S → Entry → S → Type 0) (old : S) (text : List ℕ) (version : Version) (count : ℕ) (now : S) (rest : List ℕ)
    → (b : Behind opens steps old text version count now rest) → Begins (IsAccepted opens steps old) (text_of (front_lines version b.clock b.slots b.entries))
front_begins opens steps old text version count now rest b =
    let few : length b.entries < 10 ^ 9 = omega (arith, b.number, b.few) in
    let log = closed version b.clock b.slots b.entries b.begins b.kept few in
    let apart : text_of (front_lines version b.clock b.slots b.entries ++ end_line (length b.entries) ∷ []) ≡ text_of (front_lines version b.clock b.slots b.entries) ++ text_of (end_line (length b.entries) ∷ []) = text-append (front_lines version b.clock b.slots b.entries) (end_line (length b.entries) ∷ []) in
    record {
      more = text_of (end_line (length b.entries) ∷ []);
      whole = record { content = content_of b.clock b.slots b.entries; is = subst (IsLogText (content_of b.clock b.slots b.entries)) apart log; holds = accepted opens steps old text version count now rest b };
    }

pub front_length : (version : Version) (clock : ℕ) (slots : List ℕ) (entries : List Entry) (count : ℕ) → length entries ≡ count → count + 3 ≡ length (front_lines version clock slots entries) + 1
front_length version clock slots entries count is =
    let n : length (map entry_line entries) ≡ length entries = lengths entries in
    omega (arith, n, is)
  where
    lengths : (entries : List Entry) → length (map entry_line entries) ≡ length entries
    lengths [] = refl
    lengths (entry ∷ entries) = ap suc (lengths entries)

-- ---- the exits
pub ends_whole : {S : Type 0} (opens : S → ℕ → List ℕ → S → Type 0) (steps : S → Entry → S → Type 0) (old : S) (text : List ℕ) (version : Version) (count : ℕ) (now : S) (rest : List ℕ)
    → Behind opens steps old text version count now rest → rest ≡ end_line count ++ 10 ∷ [] → Concludes opens steps text old now (Whole count)
ends_whole opens steps old text version count now rest b is =
    let few : length b.entries < 10 ^ 9 = omega (arith, b.number, b.few) in
    let front = front_lines version b.clock b.slots b.entries in
    let last : rest ≡ end_line (length b.entries) ++ 10 ∷ [] = is ∙ ap (λ n. end_line n ++ 10 ∷ []) (sym b.number) in
    let whole : text ≡ text_of (front ++ end_line (length b.entries) ∷ []) = b.parts ∙ ap (λ (t : List ℕ). text_of front ++ t) last ∙ one_more front (end_line (length b.entries)) [] ∙ append-nil (text_of (front ++ end_line (length b.entries) ∷ [])) in
    (content_of b.clock b.slots b.entries, record { version = version; fits = front_fits version b.clock b.slots b.entries b.begins b.kept few; text_is = whole }, record { opening = b.opening; opened = b.opened; run = b.run }, b.number)

pub ends_missing : {S : Type 0} (opens : S → ℕ → List ℕ → S → Type 0) (steps : S → Entry → S → Type 0) (old : S) (text : List ℕ) (version : Version) (count : ℕ) (now : S) (rest : List ℕ)
    → Behind opens steps old text version count now rest → IsLine rest → Concludes opens steps text old now (Bad (count + 3))
ends_missing opens steps old text version count now rest b is =
    let front = front_lines version b.clock b.slots b.entries in
    record {
      before = front;
      rest = rest;
      lines = front_is_lines version b.clock b.slots b.entries b.begins b.kept;
      parts = b.parts;
      place = front_length version b.clock b.slots b.entries count b.number;
      begins = front_begins opens steps old text version count now rest b;
      fault = inl (is, λ log. no_line (IsAccepted opens steps old) version b.clock b.slots b.entries rest b.begins b.kept is (subst (IsLogOf (IsAccepted opens steps old)) b.parts log));
    }

pub ends_wrong : {S : Type 0} (opens : S → ℕ → List ℕ → S → Type 0) (steps : S → Entry → S → Type 0) (old : S) (text : List ℕ) (version : Version) (count : ℕ) (now : S) (rest : List ℕ) (line more : List ℕ)
    → Behind opens steps old text version count now rest → IsLine line → rest ≡ line ++ 10 ∷ more → IsNeither version count line → Concludes opens steps text old now (Bad (count + 3))
ends_wrong opens steps old text version count now rest line more b is cut neither =
    let front = front_lines version b.clock b.slots b.entries in
    record {
      before = front;
      rest = rest;
      lines = front_is_lines version b.clock b.slots b.entries b.begins b.kept;
      parts = b.parts;
      place = front_length version b.clock b.slots b.entries count b.number;
      begins = front_begins opens steps old text version count now rest b;
      fault = inr (line, more, is, cut, wrong_line (IsAccepted opens steps old) version b.clock b.slots b.entries line b.begins b.kept is (subst (λ n. IsNeither version n line) (sym b.number) neither));
    }

pub ends_after : {S : Type 0} (opens : S → ℕ → List ℕ → S → Type 0) (steps : S → Entry → S → Type 0) (old : S) (text : List ℕ) (version : Version) (count : ℕ) (now : S) (rest : List ℕ) (more : List ℕ)
    → Behind opens steps old text version count now rest → 0 < length more → rest ≡ end_line count ++ 10 ∷ more → Concludes opens steps text old now (Bad (count + 4))
ends_after opens steps old text version count now rest more b some is =
    let few : length b.entries < 10 ^ 9 = omega (arith, b.number, b.few) in
    let front = front_lines version b.clock b.slots b.entries in
    let last = end_line (length b.entries) in
    let last_is : rest ≡ last ++ 10 ∷ more = is ∙ ap (λ n. end_line n ++ 10 ∷ more) (sym b.number) in
    let parts : text ≡ text_of (front ++ last ∷ []) ++ more = b.parts ∙ ap (λ (t : List ℕ). text_of front ++ t) last_is ∙ one_more front last more in
    let place : count + 4 ≡ length (front ++ last ∷ []) + 1 = omega (arith, front_length version b.clock b.slots b.entries count b.number, length-append front (last ∷ [])) in
    let log = closed version b.clock b.slots b.entries b.begins b.kept few in
    record {
      before = front ++ last ∷ [];
      rest = more;
      lines = all_append IsLine front (last ∷ []) (front_is_lines version b.clock b.slots b.entries b.begins b.kept) (end_is_line (length b.entries) few, tt);
      parts = parts;
      place = place;
      begins = record {
        more = [];
        whole = record { content = content_of b.clock b.slots b.entries; is = subst (IsLogText (content_of b.clock b.slots b.entries)) (sym (append-nil (text_of (front ++ last ∷ [])))) log; holds = accepted opens steps old text version count now rest b };
      };
      fault = elim (line_or_none more) [
        | inl none ↦ inl (none, λ log. text_behind (IsAccepted opens steps old) version b.clock b.slots b.entries more b.begins b.kept few some none (subst (IsLogOf (IsAccepted opens steps old)) parts log))
        | inr found ↦ inr (found.0, found.1, found.2, found.3, after_end (IsAccepted opens steps old) version b.clock b.slots b.entries found.0 b.begins b.kept few found.2)
      ];
    }

-- the entry is no step
refused : {S : Type 0} (opens : S → ℕ → List ℕ → S → Type 0) (steps : S → Entry → S → Type 0) (old : S) (text : List ℕ) (version : Version) (count : ℕ) (now : S) (rest : List ℕ) (entry : Entry)
    → ((old : S) (clock : ℕ) (slots : List ℕ) (a b : S) → opens old clock slots a → opens old clock slots b → a ≡ b) → ((old : S) (entry : Entry) (a b : S) → steps old entry a → steps old entry b → a ≡ b)
    → (b : Behind opens steps old text version count now rest) → Keeps (most_stops version) entry → Refuses steps now entry
    → Begins (IsAccepted opens steps old) (text_of (front_lines version b.clock b.slots b.entries) ++ (entry_line entry ++ 10 ∷ [])) → ⊥
refused {S} opens steps old text version count now rest entry one_opening one_step b keeps refuses begins =
    let content = begins.whole.content in
    let c = begun version b.clock b.slots b.entries (entry_line entry) begins.more content b.begins b.kept (entry_is_line (most_stops version) entry keeps) begins.whole.is in
    let leads = begins.whole.holds.leads in
    elim c.1.goes [
      | inl next ↦
          let all : AreKept version (b.entries ++ next.0 ∷ next.1) = subst (λ (es : List Entry). AreKept version es) next.2 c.1.kept in
          let same : next.0 ≡ entry = one_entry (most_stops version) next.0 entry (kept_at b.entries next.0 next.1 all) keeps (sym next.3) in
          let opened : opens old b.clock b.slots leads.opening = subst (λ s. opens old b.clock s leads.opening) c.1.slots_are (subst (λ k. opens old k content.slots leads.opening) c.1.clock_is leads.opened) in
          let opening : leads.opening ≡ b.opening = one_opening old b.clock b.slots leads.opening b.opening opened b.opened in
          let run : RunOf steps b.opening (b.entries ++ next.0 ∷ next.1) begins.whole.holds.new = subst (λ s. RunOf steps s (b.entries ++ next.0 ∷ next.1) begins.whole.holds.new) opening (subst (λ es. RunOf steps leads.opening es begins.whole.holds.new) next.2 leads.run) in
          let step = run_step steps b.opening begins.whole.holds.new b.entries next.0 next.1 run in
          let here : step.0 ≡ now = run_one steps one_step b.opening step.0 now b.entries step.2 b.run in
          refuses step.1 (subst (λ e. steps now e step.1) same (subst (λ s. steps s next.0 step.1) here step.3))
      | inr end ↦ end_differs (most_stops version) (length content.entries) entry c.1.few keeps (sym end.1)
    ]
  where
    kept_at : (entries : List Entry) (entry : Entry) (rest : List Entry) → AreKept version (entries ++ entry ∷ rest) → Keeps (most_stops version) entry
    kept_at [] entry rest h = h.0
    kept_at (first ∷ entries) entry rest h = kept_at entries entry rest h.1

pub ends_refused : {S : Type 0} (opens : S → ℕ → List ℕ → S → Type 0) (steps : S → Entry → S → Type 0) (old : S) (text : List ℕ) (version : Version) (count : ℕ) (now : S) (rest : List ℕ) (entry : Entry) (after : List ℕ) (new : S)
    → ((old : S) (clock : ℕ) (slots : List ℕ) (a b : S) → opens old clock slots a → opens old clock slots b → a ≡ b) → ((old : S) (entry : Entry) (a b : S) → steps old entry a → steps old entry b → a ≡ b)
    → Behind opens steps old text version count now rest → rest ≡ entry_line entry ++ 10 ∷ after → Keeps (most_stops version) entry → Refuses steps now entry → Concludes opens steps text old new (Bad (count + 3))
ends_refused opens steps old text version count now rest entry after new one_opening one_step b is keeps refuses =
    record {
      before = front_lines version b.clock b.slots b.entries;
      rest = rest;
      lines = front_is_lines version b.clock b.slots b.entries b.begins b.kept;
      parts = b.parts;
      place = front_length version b.clock b.slots b.entries count b.number;
      begins = front_begins opens steps old text version count now rest b;
      fault = inr (entry_line entry, after, entry_is_line (most_stops version) entry keeps, is, refused opens steps old text version count now rest entry one_opening one_step b keeps refuses);
    }

-- ---- the first two lines
some_log : {S : Type 0} (opens : S → ℕ → List ℕ → S → Type 0) (steps : S → Entry → S → Type 0) (old : S) (version : Version) (can : CanOpen opens old)
    → IsLogOf (IsAccepted opens steps old) (text_of (log_lines version (content_of can.clock can.slots [])))
some_log opens steps old version can = record {
  content = content_of can.clock can.slots [];
  is = record { version = version; fits = front_fits version can.clock can.slots [] can.fits tt (lit< tt); text_is = refl };
  holds = record { new = can.opening; leads = record { opening = can.opening; opened = can.opened; run = refl } };
}

-- nothing, and the first line, begin a log
nothing_begins : {S : Type 0} (opens : S → ℕ → List ℕ → S → Type 0) (steps : S → Entry → S → Type 0) (old : S) → CanOpen opens old → Begins (IsAccepted opens steps old) []
nothing_begins opens steps old can = record { more = text_of (log_lines Two (content_of can.clock can.slots [])); whole = some_log opens steps old Two can }

head_begins : {S : Type 0} (opens : S → ℕ → List ℕ → S → Type 0) (steps : S → Entry → S → Type 0) (old : S) (version : Version) → CanOpen opens old → Begins (IsAccepted opens steps old) (text_of (head_line version ∷ []))
head_begins opens steps old version can =
    let others : List (List ℕ) = start_line can.clock can.slots ∷ end_line 0 ∷ [] in
    let apart : text_of (head_line version ∷ others) ≡ text_of (head_line version ∷ []) ++ text_of others = text-append (head_line version ∷ []) others in
    record { more = text_of others; whole = subst (IsLogOf (IsAccepted opens steps old)) apart (some_log opens steps old version can) }

heads_same : (a b : List ℕ) (xs ys : List (List ℕ)) → a ∷ xs ≡ b ∷ ys → a ≡ b
heads_same a b xs ys e = cc

tails_same : (a b : List ℕ) (xs ys : List (List ℕ)) → a ∷ xs ≡ b ∷ ys → xs ≡ ys
tails_same a b xs ys e = cc

pub ends_no_head : {S : Type 0} (opens : S → ℕ → List ℕ → S → Type 0) (steps : S → Entry → S → Type 0) (old : S) (text : List ℕ) (new : S) → CanOpen opens old → Lacks IsNoHead text → Concludes opens steps text old new (Bad 1)
ends_no_head opens steps old text new can lacks = record {
  before = [];
  rest = text;
  lines = tt;
  parts = refl;
  place = refl;
  begins = nothing_begins opens steps old can;
  fault = elim lacks [
    | inl none ↦ inl (none, λ log. not_whole text (head_line log.is.version) (text_of (start_line log.content.clock log.content.slots ∷ (map entry_line log.content.entries ++ end_line (length log.content.entries) ∷ []))) none (log.is.text_is ∙ text_cons (head_line log.is.version) (start_line log.content.clock log.content.slots ∷ (map entry_line log.content.entries ++ end_line (length log.content.entries) ∷ []))))
    | inr found ↦ inr (
      found.0,
      found.1,
      found.2,
      found.3,
      λ begins.
          let log = begins.whole in
          let cut = lines_front [] found.0 begins.more (log_lines log.is.version log.content) tt found.2 (log_is_lines log.is.version log.content log.is.fits) (sym (append_assoc found.0 (10 ∷ []) begins.more) ∙ log.is.text_is) in
          found.4 log.is.version (sym (heads_same (head_line log.is.version) found.0 (start_line log.content.clock log.content.slots ∷ (map entry_line log.content.entries ++ end_line (length log.content.entries) ∷ [])) cut.0 cut.1)),
    )
  ];
}

-- a log that begins with a head and one line more
second_line : (P : Content → Type 0) (version : Version) (line : List ℕ) → IsLine line → (begins : Begins P (text_of (head_line version ∷ []) ++ (line ++ 10 ∷ []))) → line ≡ start_line begins.whole.content.clock begins.whole.content.slots
second_line P version line is begins =
    let log = begins.whole in
    let front : List (List ℕ) = head_line version ∷ [] in
    let regrouped : (text_of front ++ (line ++ 10 ∷ [])) ++ begins.more ≡ text_of front ++ (line ++ 10 ∷ begins.more) = append_assoc (text_of front) (line ++ 10 ∷ []) begins.more ∙ ap (λ (t : List ℕ). text_of front ++ t) (append_assoc line (10 ∷ []) begins.more) in
    let cut = lines_front front line begins.more (log_lines log.is.version log.content) (head_is_line version, tt) is (log_is_lines log.is.version log.content log.is.fits) (sym regrouped ∙ log.is.text_is) in
    let behind = tails_same (head_line log.is.version) (head_line version) (start_line log.content.clock log.content.slots ∷ (map entry_line log.content.entries ++ end_line (length log.content.entries) ∷ [])) (line ∷ cut.0) cut.1 in
    sym (heads_same (start_line log.content.clock log.content.slots) line (map entry_line log.content.entries ++ end_line (length log.content.entries) ∷ []) cut.0 behind)

pub ends_no_start : {S : Type 0} (opens : S → ℕ → List ℕ → S → Type 0) (steps : S → Entry → S → Type 0) (old : S) (text : List ℕ) (version : Version) (rest : List ℕ) (new : S)
    → CanOpen opens old → text ≡ head_line version ++ 10 ∷ rest → Lacks IsNoStart rest → Concludes opens steps text old new (Bad 2)
ends_no_start {S} opens steps old text version rest new can is lacks =
    let P = IsAccepted opens steps old in
    let parts : text ≡ text_of (head_line version ∷ []) ++ rest = is ∙ one_front (head_line version) rest in
    record {
      before = head_line version ∷ [];
      rest = rest;
      lines = (head_is_line version, tt);
      parts = parts;
      place = refl;
      begins = head_begins opens steps old version can;
      fault = elim lacks [
        | inl none ↦ inl (
          none,
          λ log.
              let all = lines_all (head_line version ∷ []) rest (log_lines log.is.version log.content) (head_is_line version, tt) none (log_is_lines log.is.version log.content log.is.fits) (sym parts ∙ log.is.text_is) in
              not_empty (start_line log.content.clock log.content.slots) (map entry_line log.content.entries ++ end_line (length log.content.entries) ∷ []) (tails_same (head_line log.is.version) (head_line version) (start_line log.content.clock log.content.slots ∷ (map entry_line log.content.entries ++ end_line (length log.content.entries) ∷ [])) [] all),
        )
        | inr found ↦ inr (
          found.0,
          found.1,
          found.2,
          found.3,
          λ begins.
              found.4 begins.whole.content.clock begins.whole.content.slots begins.whole.is.fits.opens (second_line P version found.0 found.2 begins),
        )
      ];
    }
  where
    not_empty : (line : List ℕ) (tail : List (List ℕ)) → line ∷ tail ≡ [] → ⊥
    not_empty line tail e = cc

pub ends_unopened : {S : Type 0} (opens : S → ℕ → List ℕ → S → Type 0) (steps : S → Entry → S → Type 0) (old : S) (text : List ℕ) (version : Version) (clock : ℕ) (slots : List ℕ) (rest : List ℕ) (new : S)
    → CanOpen opens old → text ≡ head_line version ++ 10 ∷ (start_line clock slots ++ 10 ∷ rest) → Opens clock slots → RefusesOpening opens old clock slots → Concludes opens steps text old new (Bad 2)
ends_unopened {S} opens steps old text version clock slots rest new can is fits refuses =
    let P = IsAccepted opens steps old in
    let line = start_line clock slots in
    let parts : text ≡ text_of (head_line version ∷ []) ++ (line ++ 10 ∷ rest) = is ∙ one_front (head_line version) (line ++ 10 ∷ rest) in
    record {
      before = head_line version ∷ [];
      rest = line ++ 10 ∷ rest;
      lines = (head_is_line version, tt);
      parts = parts;
      place = refl;
      begins = head_begins opens steps old version can;
      fault = inr (
        line,
        rest,
        start_is_line clock slots fits,
        refl,
        λ begins.
            let content = begins.whole.content in
            let leads = begins.whole.holds.leads in
            let same = one_start clock content.clock slots content.slots fits begins.whole.is.fits.opens (second_line P version line (start_is_line clock slots fits) begins) in
            refuses leads.opening (subst (λ s. opens old clock s leads.opening) (sym same.1) (subst (λ k. opens old k content.slots leads.opening) (sym same.0) leads.opened)),
      );
    }
