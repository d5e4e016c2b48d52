-- What is found in a log is found in one way, wherever after its entries it was cut.
use Rattle.std.proofs.Common.{◌≡◌, ◌≤◌, ◌⊎◌, inl, inr, ℕ, Bool, true, false, List, [], ◌∷◌, ◌++◌, length, refl, sym, ap, ◌∙◌, arith, append_assoc, append-nil, length-append, true≢false}
use Rattle.std.specs.List.{AllByRecursion}
use Rattle.std.proofs.lemmas.Bool.{cases_lt}
use Rattle.std.proofs.lemmas.List.{length-map}
use Rattle.wh_words.specs.Lines.{text_of}
use Rattle.wh_text.specs.Lines.{IsLine}
use Rattle.wh_event.specs.declared.entry.Entry.{Entry}
use Rattle.wh_log.specs.Spelling.{entry_line}
use Rattle.wh_log.specs.declared.version.Version.{Version}
use Rattle.wh_log.specs.declared.version.Version.TheVariants.{Two}
use Rattle.wh_log.specs.Logs.{Content, Fits, IsLogText, end_line, log_lines}
use Rattle.wh_log.specs.Torn.{Holds, begun_lines}
use Rattle.wh_log.proofs.Fronts.{front_is_lines, log_is_lines, text-append}
use Rattle.wh_log.proofs.HeadLaws.{end_is_line}
use Rattle.wh_log.proofs.LineLaws.{line_or_none, one_line, text_cons}
use Rattle.wh_log.proofs.LogLaws.{one_content}
use Rattle.wh_log.proofs.Tearing.{cuts_are_found}
use Rattle.wh_resume.proofs.Walks.{fewer_lines, same_lines}

-- as many lines as stand whole at the front of a text are these
one_front : (a b : List (List ℕ)) (x y : List ℕ) → AllByRecursion IsLine a → AllByRecursion IsLine b → IsLine x → IsLine y → text_of a ++ x ≡ text_of b ++ y → a ≡ b
one_front a b x y h k i j e = elim (cases_lt (length a) (length b)) [
  | inl less ↦ absurd (fewer_lines a b x y h k i less e)
  | inr enough ↦ elim (cases_lt (length b) (length a)) [
    | inl more ↦ absurd (fewer_lines b a y x k h j more (sym e))
    | inr few ↦ same_lines a b x y h k (omega (arith, enough, few)) e
  ]
]

-- the lines that stand whole
abbrev whole_lines : Version → Content → Bool → List (List ℕ)
whole_lines version content true = log_lines version content
whole_lines version content false = begun_lines version content

whole_are : (version : Version) (content : Content) (is_ended : Bool) → Fits version content → AllByRecursion IsLine (whole_lines version content is_ended)
whole_are version content true fits = log_is_lines version content fits
whole_are version content false fits = front_is_lines version content.clock content.slots content.entries fits.opens fits.entries

-- a log's text with its end line
pub log_text : (version : Version) (content : Content) → text_of (begun_lines version content) ++ (end_line (length content.entries) ++ 10 ∷ []) ≡ text_of (log_lines version content)
log_text version content =
    ap (λ (t : List ℕ). text_of (begun_lines version content) ++ t) (sym (text_cons (end_line (length content.entries)) []))
    ∙ sym (text-append (begun_lines version content) (end_line (length content.entries) ∷ []))

record Stands (lines : List (List ℕ)) (text : List ℕ) : Type 0 where
  torn : List ℕ
  is_torn : IsLine torn
  text_is : text ≡ text_of lines ++ torn

whole_stand : (version : Version) (content : Content) (is_ended : Bool) (text : List ℕ) (bytes : ℕ) → Holds version content is_ended text bytes → Stands (whole_lines version content is_ended) text
whole_stand version content true text bytes h = record {
  torn = [];
  is_torn = tt;
  text_is = h.text_is ∙ ap (λ (t : List ℕ). text_of (begun_lines version content) ++ t) h.rest_is ∙ log_text version content ∙ sym (append-nil (text_of (log_lines version content)));
}
whole_stand version content false text bytes h = record { torn = h.rest; is_torn = h.rest_is; text_is = h.text_is }

-- what is found is the content
pub record IsFound (content found : Content) : Type 0 where
  pub clock_is : found.clock ≡ content.clock
  pub slots_are : found.slots ≡ content.slots
  pub entries_are : found.entries ≡ content.entries

none_more : (xs ys zs : List Entry) → xs ≡ ys ++ zs → length xs ≡ length ys → xs ≡ ys
none_more xs ys [] e f = e ∙ append-nil ys
none_more xs ys (z ∷ zs) e f = absurd (omega (arith, ap length e, f, length-append ys (z ∷ zs)))

module _ (content found : Content) (version : Version) (text : List ℕ) (bytes other : ℕ) where
  whole_same : (a b : Bool) → Holds Two content a text bytes → Holds version found b text other → whole_lines Two content a ≡ whole_lines version found b
  whole_same a b h k =
      let s = whole_stand Two content a text bytes h in
      let t = whole_stand version found b text other k in
      one_front (whole_lines Two content a) (whole_lines version found b) s.torn t.torn (whole_are Two content a h.fits) (whole_are version found b k.fits) s.is_torn t.is_torn (sym s.text_is ∙ t.text_is)

  pub one_found : (a b : Bool) → Holds Two content a text bytes → Holds version found b text other → IsFound content found
  one_found true true h k =
      let log : (v : Version) (c : Content) (n : ℕ) → Holds v c true text n → IsLogText c text = λ v c n holds. record {
        version = v;
        fits = holds.fits;
        text_is = holds.text_is ∙ ap (λ (t : List ℕ). text_of (begun_lines v c) ++ t) holds.rest_is ∙ log_text v c;
      } in
      let same : found ≡ content = one_content text found content (log version found other k) (log Two content bytes h) in
      record { clock_is = ap (λ (c : Content). c.clock) same; slots_are = ap (λ (c : Content). c.slots) same; entries_are = ap (λ (c : Content). c.entries) same }
  one_found true false h k =
      let s = whole_stand Two content true text bytes h in
      let same = whole_same true false h k in
      let all : text ++ [] ≡ text_of (begun_lines version found) = append-nil text ∙ ended_text h ∙ ap text_of same in
      absurd (true≢false (cuts_are_found version Two found content true text [] bytes k.fits all h).5)
    where
      ended_text : Holds Two content true text bytes → text ≡ text_of (log_lines Two content)
      ended_text holds = holds.text_is ∙ ap (λ (t : List ℕ). text_of (begun_lines Two content) ++ t) holds.rest_is ∙ log_text Two content
  one_found false true h k =
      let same = whole_same false true h k in
      let all : text ++ [] ≡ text_of (begun_lines Two content) = append-nil text ∙ ended_text k ∙ ap text_of (sym same) in
      absurd (true≢false (cuts_are_found Two version content found true text [] other h.fits all k).5)
    where
      ended_text : Holds version found true text other → text ≡ text_of (log_lines version found)
      ended_text holds = holds.text_is ∙ ap (λ (t : List ℕ). text_of (begun_lines version found) ++ t) holds.rest_is ∙ log_text version found
  one_found false false h k =
      let same = whole_same false false h k in
      let front = text_of (begun_lines version found) in
      let alone : Holds version found false front (length front) = record { fits = k.fits; rest = []; text_is = sym (append-nil front); rest_is = tt; bytes_are = refl } in
      let c = cuts_are_found Two version content found false front [] (length front) h.fits (append-nil front ∙ ap text_of (sym same)) alone in
      let many : length content.entries ≡ length found.entries = omega (arith, ap length same, length-map content.entries entry_line, length-map found.entries entry_line) in
      record { clock_is = c.2; slots_are = c.3; entries_are = sym (none_more content.entries found.entries c.0 c.4 many) }

-- ---- a log that was cut in its end line

-- of two fronts the longer one has the shorter one's elements and more
pub longer : (short a long b : List ℕ) → short ++ a ≡ long ++ b → length short ≤ length long → (more : List ℕ) × (long ≡ short ++ more) × (a ≡ more ++ b)
longer [] a long b e le = (long, refl, e)
longer (x ∷ short) a [] b e le = absurd (omega (arith, le))
longer (x ∷ short) a (y ∷ long) b e le =
    let tail : short ++ a ≡ long ++ b = cc in
    let head : x ≡ y = cc in
    let rest = longer short a long b tail (omega (arith, le)) in
    (rest.0, ap (λ (c : ℕ). c ∷ long) (sym head) ∙ ap (λ (l : List ℕ). x ∷ l) rest.1, rest.2)

no_bytes : (a b : List ℕ) → [] ≡ a ++ b → a ≡ []
no_bytes [] b e = refl
no_bytes (x ∷ a) b e = cc

-- a front of the end line is all of it, or has no line feed
end_or_none : (last part behind : List ℕ) → IsLine last → last ++ 10 ∷ [] ≡ part ++ behind → IsLine part ⊎ (part ≡ last ++ 10 ∷ [])
end_or_none last part behind is e = elim (line_or_none part) [
  | inl none ↦ inl none
  | inr found ↦
      let cut = one_line last found.0 [] (found.1 ++ behind) is found.2 (e ∙ ap (λ (t : List ℕ). t ++ behind) found.3 ∙ append_assoc found.0 (10 ∷ found.1) behind) in
      let nothing : found.1 ≡ [] = no_bytes found.1 behind cut.1 in
      inr (found.3 ∙ ap (λ (t : List ℕ). found.0 ++ 10 ∷ t) nothing ∙ ap (λ (l : List ℕ). l ++ 10 ∷ []) (sym cut.0))
]

-- the log stands in it, with its end line or a part of that
pub ends_held : (content : Content) (part behind : List ℕ) → Fits Two content → end_line (length content.entries) ++ 10 ∷ [] ≡ part ++ behind
    → (is_ended : Bool) × Holds Two content is_ended (text_of (begun_lines Two content) ++ part) (length (text_of (begun_lines Two content)))
ends_held content part behind fits e = elim (end_or_none (end_line (length content.entries)) part behind (end_is_line (length content.entries) fits.count) e) [
  | inl none ↦ (false, record { fits = fits; rest = part; text_is = refl; rest_is = none; bytes_are = refl })
  | inr whole ↦ (true, record { fits = fits; rest = part; text_is = refl; rest_is = whole; bytes_are = refl })
]
