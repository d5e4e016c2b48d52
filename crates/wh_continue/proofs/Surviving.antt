-- What a kill leaves is recovered.
use Rattle.std.proofs.Common.{◌≡◌, inl, inr, ℕ, List, [], ◌∷◌, ◌++◌, map, length, take, drop, refl, sym, ap, ◌∙◌, subst, arith, append_assoc, Option, None, Some}
use Rattle.std.specs.List.{AllByRecursion}
use Rattle.wh_words.specs.Lines.{text_of as lines_text}
use Rattle.wh_points.specs.Points.{Site}
use Rattle.wh_event.specs.declared.entry.Entry.{Entry}
use Rattle.wh_log.specs.declared.version.Version.TheVariants.{Two}
use Rattle.wh_log.specs.Spelling.{entry_line}
use Rattle.wh_log.specs.Logs.{Content, IsSlots, Opens, Fits, head_line, start_line, end_line, log_lines}
use Rattle.wh_log.specs.FirstBad.{Begins}
use Rattle.wh_log.specs.Torn.{begun_lines, IsUnopened}
use Rattle.wh_log.proofs.Fronts.{text-append}
use Rattle.wh_log.proofs.HeadLaws.{head_is_line, start_is_line}
use Rattle.wh_core.specs.States.{State, opened}
use Rattle.wh_journal.specs.Scripts.{WritesFront}
use Rattle.wh_resume.specs.declared.recovery.Resumed.{Resumed}
use Rattle.wh_resume.specs.declared.recovery.Recovery.{Recovery}
use Rattle.wh_resume.specs.declared.recovery.Recovery.TheVariants as told
use Rattle.wh_front.specs.declared.front.Front.{Front}
use Rattle.wh_front.specs.declared.front.Seat.{Seat}
use Rattle.wh_front.specs.Fronts.{front_text}
use Rattle.wh_restore.specs.SoundFronts.{state_told}
use Rattle.wh_resume.specs.Behind.{BreaksOffBehind, GoesOnBehind, IsFrontOf, IsPrefaceOf, IsRunFrom, IsVersionThree, content_of}
use Rattle.wh_resume.specs.declared.recovery.Preface.{Preface}
use Rattle.wh_resume.specs.Resuming.{IsRunOf, Tells, TellsBook}
use Rattle.wh_continue.proofs.Versions.{no_odd, same_front, three_behind, two_or_three, two_or_three_any, unopened_three, whole_three}
use Rattle.wh_resume.proofs.Walks.{not_unopened}
use Rattle.wh_journal.specs.Journals.{lines_for}
use Rattle.wh_restore.specs.Heads.{first_two_lines}
use Rattle.wh_journal.specs.Surviving.{grown, HoldsBehind, IsLeft}
use Rattle.wh_journal.proofs.Surviving.{Longer, added_are_found, added_are_found_behind, behind_two, begun_grown, head_left, kept_two, left_has_added, left_is_front, left_two}
use Rattle.wh_continue.specs.Closing.{IsRecovered, IsRecoveredBehind, Survives, SurvivesBehind}

-- a front of a begun log begins that log
front_begins : (site : Site) (content : Content) (text rest : List ℕ) → IsRunOf site content → Fits Two content → text ++ rest ≡ lines_text (begun_lines Two content) → Begins (IsRunOf site) text
front_begins site content text rest run fits is =
    let front = begun_lines Two content in
    let last = end_line (length content.entries) in
    let whole : lines_text (log_lines Two content) ≡ text ++ (rest ++ lines_text (last ∷ [])) =
    text-append front (last ∷ []) ∙ ap (λ (t : List ℕ). t ++ lines_text (last ∷ [])) (sym is) ∙ append_assoc text rest (lines_text (last ∷ [])) in
    record {
      more = rest ++ lines_text (last ∷ []);
      whole = record { content = content; is = record { version = Two; fits = fits; text_is = sym whole }; holds = run };
    }

-- two lines stand whole in a text that begins with a begun log
two_stand : (content : Content) (text more : List ℕ) → Opens content.clock content.slots → text ≡ lines_text (begun_lines Two content) ++ more → IsUnopened text → ⊥
two_stand content text more opens is unopened =
    let empty : Content = record { clock = content.clock; slots = content.slots; entries = [] } in
    let two = head_line Two ∷ start_line content.clock content.slots ∷ [] in
    let parts : text ≡ lines_text two ++ (lines_for content.entries ++ more) =
    is ∙ ap (λ (t : List ℕ). t ++ more) (begun_grown empty content.entries) ∙ append_assoc (lines_text two) (lines_for content.entries) more in
    not_unopened two (lines_for content.entries ++ more) (head_is_line Two, (start_is_line content.clock content.slots opens, tt)) (omega arith) (subst (λ (t : List ℕ). IsUnopened t) parts unopened)

recovered : (site : Site) (begun : List ℕ) (content : Content) (added later : List Entry) (kept holds left : List ℕ) (said : Recovery) →
    IsRunOf site (grown (grown content added) later) → Fits Two (grown (grown content added) later) →
    (kept_is : kept ≡ lines_text (begun_lines Two content) ++ lines_for added) (behind : WritesFront (Some kept) (Some holds) (lines_for later)) (is_left : IsLeft kept holds left) →
    (IsUnopened left → ⊥) → (IsVersionThree left → ⊥) → Tells site begun left said → (r : Resumed) × (said ≡ told.Resumed r) × IsRecovered site content added later r
recovered site begun content added later kept holds left (told.Resumed r) run fits kept_is behind is_left has_two is_two t = (r, refl, by_preface r.preface refl t)
  where
    by_preface : (preface : Option Preface) → r.preface ≡ preface → TellsBook site left r preface → IsRecovered site content added later r
    by_preface (Some preface) none t = absurd (is_two (three_behind t.1.front (lines_for r.book.history) t.1.rest left t.1.text_is))
    by_preface None none t =
        let found = t.0 in
        let on = t.2 in
        let f = added_are_found content found added later kept holds left r.version r.is_ended r.bytes fits kept_is behind is_left t.1 in
        record {
          version_is = f.6;
          unended = f.7;
          preface_is = none;
          site_is = on.site_is;
          opening_is = on.opening_is ∙ ap (λ (n : ℕ). opened site.layout n found.slots) f.2 ∙ ap (λ (ns : List ℕ). opened site.layout content.clock ns) f.3;
          more = f.0;
          others = f.1;
          history_is = on.history_is ∙ f.4;
          later_are = f.5;
        }
recovered site begun content added later kept holds left (told.Unopened setting) run fits kept_is behind is_left has_two is_two t = absurd (has_two t.0)
recovered site begun content added later kept holds left (told.Flawed line reason) run fits kept_is behind is_left has_two is_two t = absurd (is_two t.version)
recovered site begun content added later kept holds left (told.Bad line bytes) run fits kept_is behind is_left has_two is_two (e, why) = elim why [
  | inl breaks ↦
      absurd (breaks.never (front_begins site (grown (grown content added) later) left (is_left.lost ++ drop behind.count (lines_for later)) run fits (left_is_front content added later kept holds left kept_is behind is_left)))
  | inr (inl breaks) ↦ absurd (is_two (whole_three breaks.front breaks.rest left breaks.text_is))
  | inr (inr otherwise) ↦ absurd (has_two otherwise.unopened)
]

pub told_survives : Survives
told_survives site begun content added later kept holds left said run fits kept_is behind is_left t =
    let longer = left_has_added content added later kept holds left kept_is behind is_left in
    let has_two : IsUnopened left → ⊥ = two_stand (grown content added) left longer.more fits.opens longer.long_is in
    let is_two : IsVersionThree left → ⊥ = two_or_three (start_line content.clock content.slots ∷ map entry_line (content.entries ++ added)) longer.more left longer.long_is in
    recovered site begun content added later kept holds left said run fits kept_is behind is_left has_two is_two t

-- ---- behind a front

-- a front of a begun log begins a log of a run from the state
front_begins_from : (site : Site) (opening : State) (content : Content) (text rest : List ℕ) → IsRunFrom site opening content → Fits Two content → text ++ rest ≡ lines_text (begun_lines Two content)
    → Begins (IsRunFrom site opening) text
front_begins_from site opening content text rest run fits is =
    let front = begun_lines Two content in
    let last = end_line (length content.entries) in
    let whole : lines_text (log_lines Two content) ≡ text ++ (rest ++ lines_text (last ∷ [])) =
    text-append front (last ∷ []) ∙ ap (λ (t : List ℕ). t ++ lines_text (last ∷ [])) (sym is) ∙ append_assoc text rest (lines_text (last ∷ [])) in
    record {
      more = rest ++ lines_text (last ∷ []);
      whole = record { content = content; is = record { version = Two; fits = fits; text_is = sym whole }; holds = run };
    }

-- a book was recovered behind a front
pub record IsBehind (site : Site) (left : List ℕ) (r : Resumed) : Type 0 where
  pub preface : Preface
  pub preface_is : r.preface ≡ Some preface
  pub version_is : r.version ≡ Two
  pub goes_on : GoesOnBehind site left r.bytes r.is_ended preface r.book

-- A text begins with a sound front, and with the two lines in its place a log of a run from its state begins.
module _ (site : Site) (begun : List ℕ) (front : Front) (left more : List ℕ) (sound : IsFrontOf site front) (left_is : left ≡ front_text front ++ more)
    (slots_fit : AllByRecursion IsSlots (map (λ (seat : Seat). seat.slots) front.seats))
    (begins : Begins (IsRunFrom site (state_told front)) (first_two_lines front.clock (map (λ (seat : Seat). seat.slots) front.seats) ++ more)) where
  version : IsVersionThree left
  version = whole_three front more left left_is

  never_breaks : (line : ℕ) → BreaksOffBehind site left line → ⊥
  never_breaks line b =
      let same = same_front front b.front more b.rest left sound.fits b.is_front.fits left_is b.text_is in
      let here : Begins (IsRunFrom site (state_told front)) (first_two_lines front.clock (map (λ (seat : Seat). seat.slots) front.seats) ++ b.rest) =
      subst (λ (t : List ℕ). Begins (IsRunFrom site (state_told front)) (first_two_lines front.clock (map (λ (seat : Seat). seat.slots) front.seats) ++ t)) same.1 begins in
      b.never (subst (λ (f : Front). Begins (IsRunFrom site (state_told f)) (first_two_lines f.clock (map (λ (seat : Seat). seat.slots) f.seats) ++ b.rest)) same.0 here)

  pub behind_resumed : (said : Recovery) → Tells site begun left said → (r : Resumed) × (said ≡ told.Resumed r) × IsBehind site left r
  behind_resumed (told.Resumed r) t = (r, refl, by_preface r.preface refl t)
    where
      by_preface : (preface : Option Preface) → r.preface ≡ preface → TellsBook site left r preface → IsBehind site left r
      by_preface None none t = absurd (two_or_three_any r.version (start_line t.0.clock t.0.slots ∷ map entry_line t.0.entries) t.1.rest left t.1.text_is version)
      by_preface (Some preface) is (two, g) = record { preface = preface; preface_is = is; version_is = two; goes_on = g }
  behind_resumed (told.Unopened setting) t = absurd (unopened_three left version t.0)
  behind_resumed (told.Flawed line reason) t = elim t.why [
    | inl first ↦ absurd (first.none front more sound left_is)
    | inr (form, odd) ↦
        let same = same_front front odd.front more odd.rest left sound.fits odd.is_front.fits left_is odd.text_is in
        absurd (no_odd site left line odd (subst (λ (f : Front). AllByRecursion IsSlots (map (λ (seat : Seat). seat.slots) f.seats)) same.0 slots_fit))
  ]
  behind_resumed (told.Bad line bytes) (e, why) = elim why [
    | inl breaks ↦ absurd (breaks.version version)
    | inr (inl breaks) ↦ absurd (never_breaks line breaks)
    | inr (inr otherwise) ↦ absurd (unopened_three left version otherwise.unopened)
  ]

module _ (site : Site) (begun : List ℕ) (front : Front) (content : Content) (added later : List Entry) (kept holds left : List ℕ) (sound : IsFrontOf site front)
    (run : IsRunFrom site (state_told front) (grown (grown content added) later)) (fits : Fits Two (grown (grown content added) later)) (kept_is : kept ≡ (front_text front ++ lines_for content.entries) ++ lines_for added)
    (behind : WritesFront (Some kept) (Some holds) (lines_for later)) (is_left : IsLeft kept holds left) where
  stands : Longer (front_text front) left
  stands = head_left front content added later kept holds left kept_is behind is_left

  -- with the two lines in its place a log begins
  two_begins : Begins (IsRunFrom site (state_told front)) (first_two_lines content.clock content.slots ++ stands.more)
  unfolding stands
  two_begins =
      let k = kept_two front content added later kept holds left kept_is behind is_left in
      let b = behind_two front content added later kept holds left kept_is behind is_left in
      let l = left_two front content added later kept holds left kept_is behind is_left in
      front_begins_from site (state_told front) (grown (grown content added) later) (first_two_lines content.clock content.slots ++ stands.more) (l.lost ++ drop b.count (lines_for later)) run fits
      (left_is_front content added later k (k ++ take behind.count (lines_for later)) (first_two_lines content.clock content.slots ++ stands.more) refl b l)

  begins_here : Begins (IsRunFrom site (state_told front)) (first_two_lines front.clock (map (λ (seat : Seat). seat.slots) front.seats) ++ stands.more)
  begins_here =
      subst (λ (n : ℕ). Begins (IsRunFrom site (state_told front)) (first_two_lines n (map (λ (seat : Seat). seat.slots) front.seats) ++ stands.more)) run.clock_is
      (subst (λ (ns : List ℕ). Begins (IsRunFrom site (state_told front)) (first_two_lines content.clock ns ++ stands.more)) run.slots_are two_begins)

  recovered_behind : (said : Recovery) → Tells site begun left said → (r : Resumed) × (said ≡ told.Resumed r) × IsRecoveredBehind site front content.entries added later r
  recovered_behind said t =
      let slots_fit : AllByRecursion IsSlots (map (λ (seat : Seat). seat.slots) front.seats) = subst (λ (ns : List ℕ). AllByRecursion IsSlots ns) run.slots_are fits.opens.each in
      let found = behind_resumed site begun front left stands.more sound stands.long_is slots_fit begins_here said t in
      let r = found.0 in
      let g = found.2.goes_on in
      let held : HoldsBehind g.front (content_of r.book) r.is_ended left r.bytes = record { fits = g.fits; rest = g.rest; text_is = g.text_is; rest_is = g.rest_is; bytes_are = g.bytes_are } in
      let f = added_are_found_behind front g.front content (content_of r.book) added later kept holds left r.is_ended r.bytes sound.fits g.is_front.fits fits kept_is behind is_left held in (
        r,
        found.1,
        record {
          version_is = found.2.version_is;
          unended = f.5;
          preface = found.2.preface;
          preface_is = found.2.preface_is;
          is_preface = subst (λ (x : Front). IsPrefaceOf x found.2.preface) f.2 g.preface_is;
          site_is = g.site_is;
          opening_is = g.opening_is ∙ ap state_told f.2;
          more = f.0;
          others = f.1;
          history_is = f.3;
          later_are = f.4;
        },
      )

pub told_survives_behind : SurvivesBehind
told_survives_behind site begun front content added later kept holds left said sound run fits kept_is behind is_left t =
    recovered_behind site begun front content added later kept holds left sound run fits kept_is behind is_left said t
