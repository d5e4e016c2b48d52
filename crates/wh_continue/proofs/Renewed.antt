-- A log of version 1 that was made one of version 2.
use Rattle.std.proofs.Common.{◌≡◌, inl, inr, ℕ, Bool, false, List, [], ◌∷◌, ◌++◌, map, length, take, refl, sym, ap, ◌∙◌, subst, Option, None, Some}
use Rattle.std.specs.Prelude.{OnErr, Result, Ok, Err}
use Rattle.std.proofs.lemmas.List.{append-nil}
use Rattle.wh_words.specs.Lines.{text_of as lines_text}
use Rattle.wh_log.specs.Spelling.{entry_line}
use Rattle.wh_log.specs.declared.version.Version.{Version}
use Rattle.wh_log.specs.declared.version.Version.TheVariants.{One, Two}
use Rattle.wh_log.specs.Logs.{head_line, start_line, end_line}
use Rattle.wh_log.specs.Torn.{begun_lines}
use Rattle.wh_points.specs.Points.{Site}
use Rattle.wh_resume.specs.Drafts.{Seen}
use Rattle.wh_journal.specs.Cutting.{front_of, MayCut, MayPut}
use Rattle.wh_continue.specs.declared.running.KeepFault.{KeepFault}
use Rattle.wh_front.specs.Fronts.{front_text}
use Rattle.wh_resume.specs.Behind.{GoesOnBehind}
use Rattle.wh_resume.specs.declared.recovery.Preface.{Preface}
use Rattle.wh_journal.specs.Journals.{lines_for}
use Rattle.wh_continue.specs.Starting.{GoesOnFrom, GoesOnIn}
use Rattle.wh_continue.specs.Renewing.{CutOnesAreTwos, IsHalfRenewed, LeavesHalfRenewed, OnesAreTwos, in_two, told_in_two}
use Rattle.wh_continue.specs.Running.{IsLeftAt, LeftGoesOn}
use Rattle.wh_continue.proofs.Closing.{cut_behind, cut_whole, fits_two, goes_at, holds_in_two, head_changed}

pub ones_are_twos : OnesAreTwos
ones_are_twos content fits = (fits_two content fits, whole (start_line content.clock content.slots ∷ (map entry_line content.entries ++ end_line (length content.entries) ∷ [])))
  where
    whole : (lines : List (List ℕ)) → in_two One (lines_text (head_line One ∷ lines)) ≡ lines_text (head_line Two ∷ lines)
    whole lines = ap (λ (t : List ℕ). in_two One t) (sym (append-nil (lines_text (head_line One ∷ lines)))) ∙ head_changed lines [] ∙ append-nil (lines_text (head_line Two ∷ lines))

pub cut_ones_are_twos : CutOnesAreTwos
cut_ones_are_twos content is_ended text bytes holds = holds_in_two One content is_ended text bytes holds

-- ---- what is left of it

-- the digit was put there, or not
pub half_put : (version : Version) (bytes : ℕ) (file new : Option (List ℕ)) → version ≡ One → MayPut 5 50 file new → LeavesHalfRenewed version bytes file new
half_put version bytes file new is may = subst (λ (v : Version). LeavesHalfRenewed v bytes file new) (sym is) (put file may)
  where
    put : (file : Option (List ℕ)) → MayPut 5 50 file new → LeavesHalfRenewed One bytes file new
    put None may = tt
    put (Some text) (inl same) = (text, same, inl refl)
    put (Some text) (inr there) = (in_two One text, there, inr (inl refl))

-- it was, and then the log was cut, or not
half_cut : (version : Version) (bytes : ℕ) (file mid new : Option (List ℕ)) → mid ≡ told_in_two version file → MayCut bytes mid new → LeavesHalfRenewed version bytes file new
half_cut version bytes None mid new renewed may = tt
half_cut version bytes (Some text) mid new renewed (inl same) = (in_two version text, same ∙ renewed, inr (inl refl))
half_cut version bytes (Some text) mid new renewed (inr cut) = (take bytes (in_two version text), cut ∙ ap (λ (t : Option (List ℕ)). front_of bytes t) renewed, inr (inr refl))

pub renewed_cut : {A : Type 0} (said : Result A KeepFault) (version : Version) (bytes : ℕ) (file mid new : Option (List ℕ)) → mid ≡ told_in_two version file
    → OnErr said (MayCut bytes mid new) → OnErr said (LeavesHalfRenewed version bytes file new)
renewed_cut (Ok a) version bytes file mid new renewed may = tt
renewed_cut (Err f) version bytes file mid new renewed may = half_cut version bytes file mid new renewed may

-- ---- and the run goes on from that

renewed_on : (site : Site) (version : Version) (text : List ℕ) (bytes : ℕ) (book : Seen) → GoesOnFrom site version text bytes book → GoesOnFrom site Two (in_two version text) bytes book
renewed_on site version text bytes book from = record {
  content = from.content;
  is_ended = from.is_ended;
  holds = holds_in_two version from.content from.is_ended text bytes from.holds;
  goes_on = from.goes_on;
}

cut_on : (site : Site) (version : Version) (text : List ℕ) (bytes : ℕ) (book : Seen) → GoesOnFrom site version text bytes book → GoesOnFrom site version (take bytes text) bytes book
cut_on site version text bytes book from = record {
  content = from.content;
  is_ended = false;
  holds = record {
    fits = from.holds.fits;
    rest = [];
    text_is = cut_whole version from.content from.is_ended text bytes from.holds ∙ sym (append-nil (lines_text (begun_lines version from.content)));
    rest_is = tt;
    bytes_are = from.holds.bytes_are;
  };
  goes_on = from.goes_on;
}

half_on : (site : Site) (version : Version) (text left : List ℕ) (bytes : ℕ) (book : Seen) → GoesOnFrom site version text bytes book → IsHalfRenewed version bytes text left
    → (v : Version) × GoesOnFrom site v left bytes book
half_on site version text left bytes book from (inl same) = (version, subst (λ (t : List ℕ). GoesOnFrom site version t bytes book) (sym same) from)
half_on site version text left bytes book from (inr (inl same)) = (Two, subst (λ (t : List ℕ). GoesOnFrom site Two t bytes book) (sym same) (renewed_on site version text bytes book from))
half_on site version text left bytes book from (inr (inr same)) =
    (Two, subst (λ (t : List ℕ). GoesOnFrom site Two t bytes book) (sym same) (cut_on site Two (in_two version text) bytes book (renewed_on site version text bytes book from)))

-- of a log that begins with a front only what stands behind its whole lines may be gone
behind_on : (site : Site) (text : List ℕ) (bytes : ℕ) (is_ended : Bool) (preface : Preface) (book : Seen) → GoesOnBehind site text bytes is_ended preface book → GoesOnBehind site (take bytes text) bytes false preface book
behind_on site text bytes is_ended preface book g = record {
  front = g.front;
  is_front = g.is_front;
  fits = g.fits;
  rest = [];
  text_is = cut_behind site text bytes is_ended preface book g ∙ sym (append-nil (front_text g.front ++ lines_for book.history));
  rest_is = tt;
  bytes_are = g.bytes_are;
  preface_is = g.preface_is;
  site_is = g.site_is;
  opening_is = g.opening_is;
}

half_in : (site : Site) (preface : Option Preface) (version : Version) (text left : List ℕ) (bytes : ℕ) (book : Seen) → GoesOnIn site preface version text bytes book → IsHalfRenewed version bytes text left
    → (v : Version) × GoesOnIn site preface v left bytes book
half_in site None version text left bytes book g half = half_on site version text left bytes book g half
half_in site (Some preface) version text left bytes book (two, (is_ended, g)) half = (Two, two_on (subst (λ (v : Version). IsHalfRenewed v bytes text left) two half))
  where
    two_on : IsHalfRenewed Two bytes text left → GoesOnIn site (Some preface) Two left bytes book
    two_on (inl same) = subst (λ (t : List ℕ). GoesOnIn site (Some preface) Two t bytes book) (sym same) (refl, (is_ended, g))
    two_on (inr (inl same)) = subst (λ (t : List ℕ). GoesOnIn site (Some preface) Two t bytes book) (sym same) (refl, (is_ended, g))
    two_on (inr (inr same)) = subst (λ (t : List ℕ). GoesOnIn site (Some preface) Two t bytes book) (sym same) (refl, (false, behind_on site text bytes is_ended preface book g))

pub left_goes_on : LeftGoesOn
left_goes_on site slots text left start bytes is starts l =
    half_in site start.preface start.version text left bytes start.book (goes_at site slots text start.preface start.version start.book start.bytes bytes is starts.at)
    (subst (λ (b : Option ℕ). IsLeftAt (record { book = start.book; bytes = b; version = start.version; preface = start.preface; before = start.before }) text left) is l)
