-- which text is of version 3
use Rattle.std.proofs.Common.{◌≡◌, ◌≤◌, ◌<◌, ◌⊎◌, ℕ, inl, inr, List, [], ◌∷◌, ◌++◌, length, refl, sym, ap, ◌∙◌, subst, arith, Option, None, Some, lit≤}
use Rattle.std.specs.Prelude.{IfSome, codes, map, slice_index_or}
use Rattle.std.proofs.lemmas.Bool.{cases_lt}
use Rattle.std.specs.List.{AllByRecursion}
use Rattle.wh_points.specs.Points.{Site}
use Rattle.wh_words.specs.Lines.{text_of}
use Rattle.wh_text.specs.Lines.{IsLine}
use Rattle.wh_log.specs.declared.version.Version.{Version}
use Rattle.wh_log.specs.declared.version.Version.TheVariants.{One, Two}
use Rattle.wh_log.specs.Logs.{Content, head_line, start_line, end_line}
use Rattle.wh_log.specs.Spelling.{entry_line}
use Rattle.wh_log.specs.FirstBad.{IsFirstBad, Begins}
use Rattle.wh_log.specs.Torn.{EndsBefore, IsUnopened}
use Rattle.wh_log.proofs.LineLaws.{one_line, one_text, text_cons, not_whole}
use Rattle.wh_log.proofs.HeadLaws.{head_is_line}
use Rattle.wh_resume.specs.Behind.{IsVersionThree}
use Rattle.wh_resume.specs.Resuming.{IsRunOf, IsWhyBad, TellsFrom, BreaksOff}
use Rattle.wh_resume.specs.declared.recovery.Recovery.TheVariants as told

-- the line of the title
pub title : List ℕ
title = codes "wlog 3"

pub title_is_line : IsLine (codes "wlog 3")
title_is_line = (refl, (refl, (refl, (refl, (refl, (refl, tt))))))

pub not_title : (version : Version) → head_line version ≡ codes "wlog 3" → ⊥
not_title One e = (let clash : 49 ≡ 51 = ap (λ (l : List ℕ). slice_index_or l 5 0) e in omega (arith, clash))
not_title Two e = (let clash : 50 ≡ 51 = ap (λ (l : List ℕ). slice_index_or l 5 0) e in omega (arith, clash))

-- a text whose first line is that of version 1 or 2
pub not_three : (version : Version) (rest text : List ℕ) → text ≡ head_line version ++ 10 ∷ rest → IsVersionThree text → ⊥
not_three version rest text e three =
    not_title version (one_line (head_line version) (codes "wlog 3") rest three.rest (head_is_line version) title_is_line (sym e ∙ three.is)).0

-- a log's first line is that of version 1 or 2
log_heads : (P : Content → Type 0) (text : List ℕ) → Begins P text → (version : Version) × (rest : List ℕ) × (more : List ℕ) × (text ++ more ≡ head_line version ++ 10 ∷ rest)
log_heads P text begins =
    let log = begins.whole in
    let lines = start_line log.content.clock log.content.slots ∷ (map entry_line log.content.entries ++ end_line (length log.content.entries) ∷ []) in
    (log.is.version, text_of lines, begins.more, log.is.text_is ∙ text_cons (head_line log.is.version) lines)

-- no log of version 1 or 2 begins with these
pub no_log_begins : (P : Content → Type 0) (text : List ℕ) → IsVersionThree text → Begins P text → ⊥
no_log_begins P text three begins =
    let head = log_heads P text begins in
    not_three head.0 head.1 (text ++ head.2) head.3 (record { rest = three.rest ++ head.2; is = ap (λ (t : List ℕ). t ++ head.2) three.is })

pub empty_line_begins_none : (P : Content → Type 0) → Begins P (10 ∷ []) → ⊥
empty_line_begins_none P begins =
    let head = log_heads P (10 ∷ []) begins in
    no_head head.0 (one_line [] (head_line head.0) head.2 head.1 tt (head_is_line head.0) head.3).0
  where
    no_head : (version : Version) → [] ≡ head_line version → ⊥
    no_head One e = cc
    no_head Two e = cc

-- behind its first line a text of version 3 is not looked at
pub bad_later : (P : Content → Type 0) (text : List ℕ) (line : ℕ) → IsFirstBad P text line → 2 ≤ line → IsVersionThree text → ⊥
bad_later P text line bad two three = by bad.before bad.rest (omega (arith, bad.place, two)) bad.lines bad.parts bad.begins
  where
    by : (before : List (List ℕ)) (rest : List ℕ) → 1 ≤ length before → AllByRecursion IsLine before → text ≡ text_of before ++ rest → Begins P (text_of before) → ⊥
    by [] rest some lines parts begins = omega (arith, some)
    by (b ∷ before) rest some lines parts begins =
        let same : b ≡ codes "wlog 3" = (one_line b (codes "wlog 3") (text_of before ++ rest) three.rest lines.0 title_is_line (sym (one_text b before rest) ∙ sym parts ∙ three.is)).0 in
        no_log_begins P (text_of (b ∷ before)) (record { rest = text_of before; is = text_cons b before ∙ ap (λ (l : List ℕ). l ++ 10 ∷ text_of before) same }) begins

-- the first line is bad: so it is of the text that is an empty line
bad_first : (site : Site) (begun text : List ℕ) (line bytes : ℕ) → line ≡ 1 → EndsBefore text line bytes → IsFirstBad (IsRunOf site) text line
    → EndsBefore (10 ∷ []) line bytes × IsWhyBad site begun (10 ∷ []) line
bad_first site begun text line bytes one e bad = (
  record { before = []; rest = 10 ∷ []; lines = tt; parts = refl; place = one; bytes_are = e.bytes_are ∙ ap (λ (ls : List (List ℕ)). length (text_of ls)) (none e.before (omega (arith, one, e.place))) },
  inl (record {
    version = λ three. let clash : 10 ∷ [] ≡ codes "wlog 3" ++ 10 ∷ three.rest = three.is in cc;
    bad = record {
      before = [];
      rest = 10 ∷ [];
      lines = tt;
      parts = refl;
      place = one;
      begins = subst (λ (ls : List (List ℕ)). Begins (IsRunOf site) (text_of ls)) (none bad.before (omega (arith, one, bad.place))) bad.begins;
      fault = inr ([], [], tt, refl, empty_line_begins_none (IsRunOf site));
    };
    never = empty_line_begins_none (IsRunOf site);
  }),
)
  where
    none : (lines : List (List ℕ)) → length lines ≤ 0 → lines ≡ []
    none [] h = refl
    none (l ∷ lines) h = absurd (omega (arith, h))

-- what is told of a source that is not of version 3, where its bytes are told
pub bad_two : (held : Option (List ℕ)) (begun text : List ℕ) (line bytes : ℕ) (site : Site) → IfSome held (λ bytes. text ≡ bytes) → IfSome held (λ bytes. IsVersionThree bytes → ⊥) → EndsBefore text line bytes
    → IsFirstBad (IsRunOf site) text line → (Begins (IsRunOf site) text → ⊥) → TellsFrom site begun held (told.Bad line bytes)
bad_two (Some all) begun text line bytes site is not e bad never = (text, is, (e, inl (record { version = subst (λ (t : List ℕ). IsVersionThree t → ⊥) (sym is) not; bad = bad; never = never })))
bad_two None begun text line bytes site is not e bad never = elim (cases_lt 1 line) [
  | inl later ↦ (text, tt, (e, inl (record { version = bad_later (IsRunOf site) text line bad (omega (arith, later)); bad = bad; never = never })))
  | inr first ↦ (10 ∷ [], tt, bad_first site begun text line bytes (omega (arith, first, e.place)) e bad)
]
