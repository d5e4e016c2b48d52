-- A text is a log of one content, and has one first bad line, or is a log.
use Rattle.std.proofs.Common.{◌≡◌, ℕ, ◌<◌, inl, inr, List, [], ◌∷◌, ◌++◌, length, refl, sym, ap, ◌∙◌, subst, arith, append_assoc}
use Rattle.std.proofs.lemmas.Bool.{cases_lt}
use Rattle.std.proofs.lemmas.List.{append-nil}
use Rattle.std.specs.List.{AllByRecursion}
use Rattle.wh_words.specs.Lines.{text_of}
use Rattle.wh_text.specs.Lines.{IsLine}
use Rattle.wh_event.specs.declared.entry.Entry.{Entry}
use Rattle.wh_log.specs.Ranges.{Keeps}
use Rattle.wh_log.specs.Logs.{Content, most_stops, end_line, log_lines, IsLogText}
use Rattle.wh_log.specs.FirstBad.{IsLogOf, IsFirstBad}
use Rattle.wh_log.specs.Collecting.{Any}
use Rattle.wh_log.proofs.HeadLaws.{end_differs}
use Rattle.wh_log.proofs.LineLaws.{one_line, not_whole, text_cons, one_text, lines_all}
use Rattle.wh_log.proofs.Fronts.{AreKept, log_is_lines, text-append}
use Rattle.wh_log.proofs.Continuing.{continues}

regrouped : (front line more : List ℕ) → (front ++ (line ++ 10 ∷ [])) ++ more ≡ front ++ (line ++ 10 ∷ more)
regrouped front line more = simp append_assoc

-- what has a first bad line is no such log
pub no_log : (P : Content → Type 0) (text : List ℕ) (n : ℕ) → IsFirstBad P text n → IsLogOf P text → ⊥
no_log P text n bad log = elim bad.fault [
  | inl missing ↦ missing.1 log
  | inr wrong ↦
      let parts : text ≡ (text_of bad.before ++ (wrong.0 ++ 10 ∷ [])) ++ wrong.1 = bad.parts ∙ ap (λ (t : List ℕ). text_of bad.before ++ t) wrong.3 ∙ sym (regrouped (text_of bad.before) wrong.0 wrong.1) in
      wrong.4 (record { more = wrong.1; whole = subst (IsLogOf P) parts log })
]

content_is : (a b : Content) → a.clock ≡ b.clock → a.slots ≡ b.slots → a.entries ≡ b.entries → a ≡ b
content_is a b p q r =
    let one : a ≡ record { clock = b.clock; slots = a.slots; entries = a.entries } = ap (λ (k : ℕ). let c : Content = record { clock = k; slots = a.slots; entries = a.entries } in c) p in
    let two : record { clock = b.clock; slots = a.slots; entries = a.entries } ≡ record { clock = b.clock; slots = b.slots; entries = a.entries } = ap (λ (s : List ℕ). let c : Content = record { clock = b.clock; slots = s; entries = a.entries } in c) q in
    let three : record { clock = b.clock; slots = b.slots; entries = a.entries } ≡ b = ap (λ (e : List Entry). let c : Content = record { clock = b.clock; slots = b.slots; entries = e } in c) r in
    one ∙ two ∙ three

pub one_content : (text : List ℕ) (a b : Content) → IsLogText a text → IsLogText b text → a ≡ b
one_content text a b p q =
    let same : log_lines q.version b ≡ log_lines p.version a = lines_all (log_lines p.version a) [] (log_lines q.version b) (log_is_lines p.version a p.fits) tt (log_is_lines q.version b q.fits) (append-nil (text_of (log_lines p.version a)) ∙ sym p.text_is ∙ q.text_is) in
    let c = continues p.version a.clock a.slots a.entries (end_line (length a.entries)) [] q.version b p.fits.opens p.fits.entries q.fits same in
    elim c.goes [
      | inl next ↦ absurd (end_differs (most_stops p.version) (length a.entries) next.0 p.fits.count (kept_at (most_stops p.version) a.entries next.0 next.1 (subst (λ (es : List Entry). AreKept p.version es) next.2 c.kept)) next.3)
      | inr end ↦ content_is a b (sym c.clock_is) (sym c.slots_are) (sym end.0)
    ]
  where
    kept_at : (most : ℕ) (entries : List Entry) (entry : Entry) (rest : List Entry) → AllByRecursion (Keeps most) (entries ++ entry ∷ rest) → Keeps most entry
    kept_at most [] entry rest h = h.0
    kept_at most (first ∷ entries) entry rest h = kept_at most entries entry rest h.1

-- of two fronts of whole lines the longer one has the line that stands behind the shorter one
record Longer (before : List (List ℕ)) (rest : List ℕ) (lines : List (List ℕ)) (other : List ℕ) : Type 0 where
  line : List ℕ
  tail : List (List ℕ)
  is : IsLine line
  lines_are : lines ≡ before ++ line ∷ tail
  rest_is : rest ≡ line ++ 10 ∷ (text_of tail ++ other)

longer : (before : List (List ℕ)) (rest : List ℕ) (lines : List (List ℕ)) (other : List ℕ) → AllByRecursion IsLine before → AllByRecursion IsLine lines → length before < length lines
    → text_of before ++ rest ≡ text_of lines ++ other → Longer before rest lines other
longer before rest [] other h k lt e = absurd (omega arith)
longer [] rest (line ∷ lines) other h k lt e = record { line = line; tail = lines; is = k.0; lines_are = refl; rest_is = e ∙ one_text line lines other }
longer (first ∷ before) rest (line ∷ lines) other h k lt e =
    let cut = one_line first line (text_of before ++ rest) (text_of lines ++ other) h.0 k.0 (sym (one_text first before rest) ∙ e ∙ one_text line lines other) in
    let more = longer before rest lines other h.1 k.1 (omega arith) cut.1 in
    record {
      line = more.line;
      tail = more.tail;
      is = more.is;
      lines_are = ap (λ (l : List ℕ). l ∷ lines) (sym cut.0) ∙ ap (λ (ls : List (List ℕ)). first ∷ ls) more.lines_are;
      rest_is = more.rest_is;
    }

not_shorter : (P : Content → Type 0) (text : List ℕ) (m n : ℕ) → (x : IsFirstBad P text m) → (y : IsFirstBad P text n) → length x.before < length y.before → ⊥
not_shorter P text m n x y lt =
    let l = longer x.before x.rest y.before y.rest x.lines y.lines lt (sym x.parts ∙ y.parts) in
    elim x.fault [
      | inl missing ↦ not_whole x.rest l.line (text_of l.tail ++ y.rest) missing.0 l.rest_is
      | inr wrong ↦
          let same = one_line wrong.0 l.line wrong.1 (text_of l.tail ++ y.rest) wrong.2 l.is (sym wrong.3 ∙ l.rest_is) in
          let whole : text_of y.before ≡ (text_of x.before ++ (wrong.0 ++ 10 ∷ [])) ++ text_of l.tail =
          ap text_of l.lines_are ∙ text-append x.before (l.line ∷ l.tail) ∙ ap (λ (t : List ℕ). text_of x.before ++ t) (text_cons l.line l.tail)
          ∙ ap (λ (t : List ℕ). text_of x.before ++ (t ++ 10 ∷ text_of l.tail)) (sym same.0) ∙ sym (regrouped (text_of x.before) wrong.0 (text_of l.tail)) in
          let front = text_of x.before ++ (wrong.0 ++ 10 ∷ []) in
          let all : text_of y.before ++ y.begins.more ≡ front ++ (text_of l.tail ++ y.begins.more) = ap (λ (t : List ℕ). t ++ y.begins.more) whole ∙ append_assoc front (text_of l.tail) y.begins.more in
          wrong.4 (record { more = text_of l.tail ++ y.begins.more; whole = subst (IsLogOf P) all y.begins.whole })
    ]

pub one_first_bad : (P : Content → Type 0) (text : List ℕ) (m n : ℕ) → IsFirstBad P text m → IsFirstBad P text n → m ≡ n
one_first_bad P text m n x y =
    elim (cases_lt (length x.before) (length y.before)) [
      | inl lt ↦ absurd (not_shorter P text m n x y lt)
      | inr le ↦ elim (cases_lt (length y.before) (length x.before)) [
        | inl lt ↦ absurd (not_shorter P text n m y x lt)
        | inr ge ↦ omega (arith, x.place, y.place)
      ]
    ]

-- a property that all contents have does not matter
pub any_first_bad : (P : Content → Type 0) (text : List ℕ) (n : ℕ) → ((content : Content) → P content) → IsFirstBad P text n → IsFirstBad Any text n
any_first_bad P text n all bad =
    let log : (t : List ℕ) → IsLogOf Any t → IsLogOf P t = λ t l. record { content = l.content; is = l.is; holds = all l.content } in
    record {
      before = bad.before;
      rest = bad.rest;
      lines = bad.lines;
      parts = bad.parts;
      place = bad.place;
      begins = record { more = bad.begins.more; whole = record { content = bad.begins.whole.content; is = bad.begins.whole.is; holds = tt } };
      fault = elim bad.fault [
        | inl missing ↦ inl (missing.0, λ l. missing.1 (log text l))
        | inr wrong ↦ inr (wrong.0, wrong.1, wrong.2, wrong.3, λ begins. wrong.4 (record { more = begins.more; whole = log ((text_of bad.before ++ (wrong.0 ++ 10 ∷ [])) ++ begins.more) begins.whole }))
      ];
    }

-- a first bad line depends on the property alone
pub same_first_bad : (P Q : Content → Type 0) (text : List ℕ) (n : ℕ) → ((content : Content) → P content → Q content) → ((content : Content) → Q content → P content) → IsFirstBad P text n → IsFirstBad Q text n
same_first_bad P Q text n to from bad =
    let there : (t : List ℕ) → IsLogOf P t → IsLogOf Q t = λ t l. record { content = l.content; is = l.is; holds = to l.content l.holds } in
    let back : (t : List ℕ) → IsLogOf Q t → IsLogOf P t = λ t l. record { content = l.content; is = l.is; holds = from l.content l.holds } in
    record {
      before = bad.before;
      rest = bad.rest;
      lines = bad.lines;
      parts = bad.parts;
      place = bad.place;
      begins = record { more = bad.begins.more; whole = there (text_of bad.before ++ bad.begins.more) bad.begins.whole };
      fault = elim bad.fault [
        | inl missing ↦ inl (missing.0, λ l. missing.1 (back text l))
        | inr wrong ↦ inr (wrong.0, wrong.1, wrong.2, wrong.3, λ begins. wrong.4 (record { more = begins.more; whole = back ((text_of bad.before ++ (wrong.0 ++ 10 ∷ [])) ++ begins.more) begins.whole }))
      ];
    }
