-- what is told of a text that begins with a front, from what was told of the log that goes on from its state
use Rattle.std.proofs.Common.{◌≡◌, ◌≤◌, ◌<◌, ◌+◌, ◌-◌, ◌^◌, ◌⊎◌, ℕ, Bool, true, false, inl, inr, List, [], ◌∷◌, ◌++◌, length, refl, sym, ap, ◌∙◌, subst, arith, length-append, append_assoc, append-nil}
use Rattle.std.specs.Prelude.{All, map}
use Rattle.std.proofs.lemmas.Bool.{false≢true}
use Rattle.std.proofs.lemmas.List.{length-map}
use Rattle.std.proofs.lemmas.List.Elements.{recursion_from_All}
use Rattle.wh_words.specs.Lines.{text_of}
use Rattle.wh_text.specs.Lines.{IsLine}
use Rattle.wh_points.specs.Points.{Site}
use Rattle.wh_core.specs.States.{State}
use Rattle.wh_core.specs.Steps.{Run}
use Rattle.wh_core.specs.Laws.{IsBeginning}
use Rattle.wh_event.specs.declared.entry.Entry.{Entry}
use Rattle.wh_state.specs.Columns.{state_in}
use Rattle.wh_judge.specs.Judged.{Judged}
use Rattle.wh_judge.specs.Drafts.{Seen}
use Rattle.wh_log.specs.declared.version.Version.{Version}
use Rattle.wh_log.specs.declared.version.Version.TheVariants.{Two}
use Rattle.wh_log.specs.Logs.{Content, Opens as LogOpens, IsSlots, Fits as FitsLog, IsLogText, head_line, start_line, end_line}
use Rattle.wh_log.specs.Spelling.{entry_line}
use Rattle.wh_log.specs.FirstBad.{IsFirstBad, Begins}
use Rattle.wh_log.specs.Torn.{EndsBefore, Holds, IsRest, IsUnopened, Recovers, begun_lines}
use Rattle.wh_log.specs.declared.front_log.Front.{Front as LogFront}
use Rattle.wh_log.specs.declared.front_log.Front.TheVariants.{Whole}
use Rattle.wh_log.proofs.Following.{one_more}
use Rattle.wh_log.specs.Judges.{Leads, IsAccepted}
use Rattle.wh_log.proofs.HeadLaws.{head_is_line, start_is_line}
use Rattle.wh_log.proofs.Fronts.{text-append}
use Rattle.wh_front.specs.declared.front.Front.{Front}
use Rattle.wh_front.specs.declared.front.Seat.{Seat}
use Rattle.wh_front.specs.Fronts.{Fits, front_text, front_lines}
use Rattle.wh_front.specs.Spelling.{front_line}
use Rattle.wh_restore.specs.Heads.{first_two_lines}
use Rattle.wh_restore.specs.SoundFronts.{state_told}
use Rattle.wh_resume.specs.declared.looking.Begun.{Begun}
use Rattle.wh_resume.specs.declared.recovery.Preface.{Preface}
use Rattle.wh_resume.specs.Keeping.{Kept, Opens, Steps}
use Rattle.wh_resume.specs.Looking.{IsBegun, IsReady}
use Rattle.wh_resume.specs.Behind.{IsRunFrom, IsFrontOf, IsPrefaceOf, GoesOnBehind, BreaksOffBehind, entries_told, content_of}
use Rattle.wh_resume.specs.Resuming.{IsWhyBad}
use Rattle.wh_resume.specs.Judging.{RunsBehind, IsBadBehind}
use Rattle.wh_resume.proofs.Going.{cut_two, two_and_more, bad_behind, ends_behind}
use Rattle.wh_resume.proofs.Given.{StandsAt, leads_given, bad_given, never_given}
use Rattle.wh_resume.proofs.Walks.{not_unopened}

-- ---- the state
pub opens_of : (site : Site) (text : List ℕ) (begun : Begun) (b : IsBegun site text begun) → LogOpens b.front.clock (map (λ (seat : Seat). seat.slots) b.front.seats)
opens_of site text begun b =
    let fits = b.is_front.fits in
    let count = length-map b.front.seats (λ (seat : Seat). seat.slots) in
    record {
      clock_fits = fits.clock;
      some = omega (arith, count, fits.agents.0);
      few = omega (arith, count, fits.agents.1);
      each = recursion_from_All IsSlots (map (λ (seat : Seat). seat.slots) b.front.seats) b.slots;
    }

pub begins_of : (site : Site) (text : List ℕ) (begun : Begun) → IsBegun site text begun → IsBeginning site (state_in begun.parts)
begins_of site text begun b =
    subst (λ (s : State). IsBeginning site s) (sym b.state) b.is_front.beginning

pub stands_of : (site : Site) (text : List ℕ) (begun : Begun) (keeper : Kept) (b : IsBegun site text begun) → keeper.judge ≡ record { site = site; state = state_in begun.parts } → keeper.is_given ≡ true
    → keeper.content ≡ record { clock = begun.parts.clock; slots = begun.parts.slots.items; entries = [] } → StandsAt site (state_told b.front) keeper
stands_of site text begun keeper b judge given content = record {
  layout = b.is_front.beginning.layout;
  judge = judge ∙ ap (λ (s : State). let j : Judged = record { site = site; state = s } in j) b.state;
  given = given;
  content = content ∙ ap (λ (s : State). let c : Content = record { clock = s.clock; slots = s.slots; entries = [] } in c) b.state;
}

pub stands_ready : (keeper : Kept) (begun : Begun) (text : List ℕ) (b : IsBegun keeper.judge.site text begun) → IsReady keeper begun → StandsAt keeper.judge.site (state_told b.front) keeper
stands_ready keeper begun text b ready =
    stands_of keeper.judge.site text begun keeper b (ap (λ (s : State). let j : Judged = record { site = keeper.judge.site; state = s } in j) ready.state) ready.given ready.content

-- ---- its lines stand whole
pub record Goes (site : Site) (text : List ℕ) (begun : Begun) (b : IsBegun site text begun) (version : Version) (content : Content) (new : Kept) (is_ended : Bool) : Type 0 where
  pub version_is : version ≡ Two
  pub clock_is : content.clock ≡ b.front.clock
  pub slots_are : content.slots ≡ map (λ (seat : Seat). seat.slots) b.front.seats
  pub run : Run site (state_told b.front) content.entries new.judge.state
  pub kept : new.content.entries ≡ content.entries
  pub fits : FitsLog Two content
  pub rest : List ℕ
  pub text_is : text ≡ (front_text b.front ++ entries_told content.entries) ++ rest
  pub rest_is : IsRest is_ended content rest

pub goes_on : (site : Site) (text : List ℕ) (begun : Begun) (b : IsBegun site text begun) (first new : Kept) (version : Version) (content : Content) (is_ended : Bool) (rest : List ℕ)
    → StandsAt site (state_told b.front) first → FitsLog version content → text_of (begun_lines version content) ++ rest ≡ begun.log.items → IsRest is_ended content rest
    → Leads Opens Steps first content new → Goes site text begun b version content new is_ended
goes_on site text begun b first new version content is_ended rest at fits parts rest_is leads =
    let led = leads_given site (state_told b.front) first content new at leads in
    let cut = cut_two version content (map entry_line content.entries) b.front.clock (map (λ (seat : Seat). seat.slots) b.front.seats) rest b.rest (opens_of site text begun b) fits.opens (parts ∙ b.log) in
    record {
      version_is = cut.0;
      clock_is = led.clock_is;
      slots_are = led.slots_are;
      run = led.run;
      kept = led.entries_are;
      fits = subst (λ (v : Version). FitsLog v content) cut.0 fits;
      rest = rest;
      text_is = b.text_is ∙ ap (λ (t : List ℕ). front_text b.front ++ t) (sym cut.1) ∙ sym (append_assoc (front_text b.front) (entries_told content.entries) rest);
      rest_is = rest_is;
    }

-- and they are so many bytes
pub record Counted (text : List ℕ) (begun : Begun) (front : Front) (content : Content) (bytes : ℕ) : Type 0 where
  pub two : begun.head ≤ bytes
  pub count : begun.front + (bytes - begun.head) ≡ length (front_text front ++ entries_told content.entries)
  pub room : begun.front + (bytes - begun.head) < 2 ^ 63

pub counted : (site : Site) (text : List ℕ) (begun : Begun) (b : IsBegun site text begun) (new : Kept) (version : Version) (content : Content) (is_ended : Bool) (bytes : ℕ)
    → Goes site text begun b version content new is_ended → bytes ≡ length (text_of (begun_lines version content)) → Counted text begun b.front content bytes
counted site text begun b new version content is_ended bytes g many =
    let slots = map (λ (seat : Seat). seat.slots) b.front.seats in
    let lines : text_of (begun_lines version content) ≡ first_two_lines b.front.clock slots ++ entries_told content.entries =
    ap (λ (v : Version). text_of (begun_lines v content)) g.version_is ∙ two_and_more content.clock content.slots (map entry_line content.entries)
    ∙ ap (λ (n : ℕ). first_two_lines n content.slots ++ entries_told content.entries) g.clock_is ∙ ap (λ (ns : List ℕ). first_two_lines b.front.clock ns ++ entries_told content.entries) g.slots_are in
    let size : bytes ≡ length (first_two_lines b.front.clock slots) + length (entries_told content.entries) = many ∙ ap length lines ∙ length-append (first_two_lines b.front.clock slots) (entries_told content.entries) in
    let front : length (front_text b.front ++ entries_told content.entries) ≡ length (front_text b.front) + length (entries_told content.entries) = length-append (front_text b.front) (entries_told content.entries) in
    let all : length text ≡ length (front_text b.front ++ entries_told content.entries) + length g.rest = ap length g.text_is ∙ length-append (front_text b.front ++ entries_told content.entries) g.rest in
    record {
      two = omega (arith, size, b.two);
      count = omega (arith, size, b.two, b.bytes, front);
      room = omega (arith, size, b.two, b.bytes, front, all, b.room);
    }

-- a book that goes on
pub goes_behind : (site : Site) (text : List ℕ) (begun : Begun) (b : IsBegun site text begun) (new : Kept) (version : Version) (content : Content) (is_ended : Bool) (bytes : ℕ) (book : Seen)
    → Goes site text begun b version content new is_ended → bytes ≡ length (front_text b.front ++ entries_told content.entries) → book.site ≡ site → book.opening ≡ state_told b.front → book.history ≡ content.entries
    → GoesOnBehind site text bytes is_ended begun.preface book
goes_behind site text begun b new version content is_ended bytes book g many site_is opening_is history_is =
    let told : content_of book ≡ content =
    ap (λ (s : State). let c : Content = record { clock = s.clock; slots = s.slots; entries = book.history } in c) opening_is
    ∙ ap (λ (n : ℕ). let c : Content = record { clock = n; slots = (state_told b.front).slots; entries = book.history } in c) (sym g.clock_is)
    ∙ ap (λ (ns : List ℕ). let c : Content = record { clock = content.clock; slots = ns; entries = book.history } in c) (sym g.slots_are)
    ∙ ap (λ (es : List Entry). let c : Content = record { clock = content.clock; slots = content.slots; entries = es } in c) history_is in
    let entries : entries_told content.entries ≡ entries_told book.history = ap (λ (es : List Entry). entries_told es) (sym history_is) in
    record {
      front = b.front;
      is_front = b.is_front;
      fits = subst (λ (c : Content). FitsLog Two c) (sym told) g.fits;
      rest = g.rest;
      text_is = g.text_is ∙ ap (λ (t : List ℕ). (front_text b.front ++ t) ++ g.rest) entries;
      rest_is = subst (λ (c : Content). IsRest is_ended c g.rest) (sym told) g.rest_is;
      bytes_are = many ∙ ap (λ (t : List ℕ). length (front_text b.front ++ t)) entries;
      preface_is = b.preface;
      site_is = site_is;
      opening_is = opening_is;
    }

pub runs_behind : (site : Site) (text : List ℕ) (begun : Begun) (b : IsBegun site text begun) (new : Kept) (version : Version) (content : Content) (is_ended : Bool) (entries : ℕ)
    → Goes site text begun b version content new is_ended → length content.entries ≡ entries → RunsBehind site text entries is_ended
runs_behind site text begun b new version content is_ended entries g count = record {
  front = b.front;
  is_front = b.is_front;
  content = content;
  fits = g.fits;
  rest = g.rest;
  text_is = g.text_is;
  rest_is = g.rest_is;
  run = record { clock_is = g.clock_is; slots_are = g.slots_are; state = new.judge.state; run = g.run };
  count = count;
}

-- ---- a line is bad
pub wrong : (site : Site) (text : List ℕ) (begun : Begun) (b : IsBegun site text begun) (first : Kept) (line : ℕ) → StandsAt site (state_told b.front) first
    → IsFirstBad (IsAccepted Opens Steps first) begun.log.items line → IsFirstBad (IsRunFrom site (state_told b.front)) (first_two_lines b.front.clock (map (λ (seat : Seat). seat.slots) b.front.seats) ++ b.rest) line
wrong site text begun b first line at bad =
    subst (λ (t : List ℕ). IsFirstBad (IsRunFrom site (state_told b.front)) t line) b.log (bad_given site (state_told b.front) first begun.log.items line at bad)

pub wrong_later : (site : Site) (text : List ℕ) (begun : Begun) (b : IsBegun site text begun) (first : Kept) (line : ℕ) → StandsAt site (state_told b.front) first
    → IsFirstBad (IsAccepted Opens Steps first) begun.log.items line → 3 ≤ line
wrong_later site text begun b first line at bad = bad_behind site (state_told b.front) b.rest line (opens_of site text begun b) (wrong site text begun b first line at bad)

-- each line takes a byte
lines_few : (lines : List (List ℕ)) → length lines ≤ length (text_of lines)
lines_few [] = omega arith
lines_few (line ∷ lines) =
    let rest = lines_few lines in
    omega (arith, rest, length-append (line ++ 10 ∷ []) (text_of lines), length-append line (10 ∷ []))

pub line_few : (P : Content → Type 0) (log : List ℕ) (line : ℕ) → IsFirstBad P log line → line ≤ length log + 1
line_few P log line bad =
    let few = lines_few bad.before in
    omega (arith, few, bad.place, ap length bad.parts, length-append (text_of bad.before) bad.rest)

pub lines_bound : (site : Site) (text : List ℕ) (begun : Begun) (b : IsBegun site text begun) → begun.preface.lines ≤ length text
lines_bound site text begun b =
    let few = lines_few (map front_line (front_lines b.front)) in
    omega (arith, few, b.preface.lines_are, length-map (front_lines b.front) front_line, ap length b.text_is, length-append (front_text b.front) b.rest)

pub breaks_behind : (site : Site) (text : List ℕ) (begun : Begun) (b : IsBegun site text begun) (first : Kept) (line counted : ℕ) → StandsAt site (state_told b.front) first
    → IsFirstBad (IsAccepted Opens Steps first) begun.log.items line → (Begins (IsAccepted Opens Steps first) begun.log.items → ⊥) → counted + 2 ≡ line + begun.preface.lines → BreaksOffBehind site text counted
breaks_behind site text begun b first line counted at bad never count = record {
  front = b.front;
  is_front = b.is_front;
  rest = b.rest;
  text_is = b.text_is;
  number = line;
  bad = wrong site text begun b first line at bad;
  never = subst (λ (t : List ℕ). Begins (IsRunFrom site (state_told b.front)) t → ⊥) b.log (never_given site (state_told b.front) first begun.log.items at never);
  line_is = count ∙ ap (λ (n : ℕ). line + n) b.preface.lines_are;
}

pub bad_unended : (site : Site) (text : List ℕ) (begun : Begun) (b : IsBegun site text begun) (first : Kept) (line counted : ℕ) → StandsAt site (state_told b.front) first
    → IsFirstBad (IsAccepted Opens Steps first) begun.log.items line → (Begins (IsAccepted Opens Steps first) begun.log.items → ⊥) → counted + 2 ≡ line + begun.preface.lines → IsBadBehind site true text counted
bad_unended site text begun b first line counted at bad never count =
    let breaks = breaks_behind site text begun b first line counted at bad never count in
    record { front = breaks.front; is_front = breaks.is_front; rest = breaks.rest; text_is = breaks.text_is; number = breaks.number; bad = breaks.bad; never = λ unended. breaks.never; line_is = breaks.line_is }

pub bad_ended : (site : Site) (text : List ℕ) (begun : Begun) (b : IsBegun site text begun) (first : Kept) (line counted : ℕ) → StandsAt site (state_told b.front) first
    → IsFirstBad (IsAccepted Opens Steps first) begun.log.items line → counted + 2 ≡ line + begun.preface.lines → IsBadBehind site false text counted
bad_ended site text begun b first line counted at bad count = record {
  front = b.front;
  is_front = b.is_front;
  rest = b.rest;
  text_is = b.text_is;
  number = line;
  bad = wrong site text begun b first line at bad;
  never = λ ended. absurd (false≢true ended);
  line_is = count ∙ ap (λ (n : ℕ). line + n) b.preface.lines_are;
}

-- the lines before it are so many bytes
pub ends_so : (site : Site) (text : List ℕ) (begun : Begun) (b : IsBegun site text begun) (line bytes : ℕ) → 3 ≤ line → EndsBefore begun.log.items line bytes
    → (begun.head ≤ bytes) × EndsBefore text (begun.preface.lines + (line - 2)) (begun.front + (bytes - begun.head)) × (begun.front + (bytes - begun.head) < 2 ^ 63)
ends_so site text begun b line bytes three e =
    let slots = map (λ (seat : Seat). seat.slots) b.front.seats in
    let so = ends_behind b.front b.front.clock slots b.rest begun.log.items line bytes b.is_front.fits (opens_of site text begun b) b.log three e in
    let count : length (front_text b.front) + (bytes - length (first_two_lines b.front.clock slots)) ≡ begun.front + (bytes - begun.head) = omega (arith, b.bytes, b.two) in
    let lines : length (front_lines b.front) + (line - 2) ≡ begun.preface.lines + (line - 2) = omega (arith, b.preface.lines_are) in
    let ends : EndsBefore text (begun.preface.lines + (line - 2)) (begun.front + (bytes - begun.head)) =
    subst (λ (t : List ℕ). EndsBefore t (begun.preface.lines + (line - 2)) (begun.front + (bytes - begun.head))) (sym b.text_is)
    (subst (λ (n : ℕ). EndsBefore (front_text b.front ++ b.rest) (begun.preface.lines + (line - 2)) n) count
    (subst (λ (n : ℕ). EndsBefore (front_text b.front ++ b.rest) n (length (front_text b.front) + (bytes - length (first_two_lines b.front.clock slots)))) lines so.1)) in (
      omega (arith, so.0, b.two),
      ends,
      omega (arith, ends.bytes_are, ap length ends.parts, length-append (text_of ends.before) ends.rest, b.room),
    )

-- fewer than two whole lines do not stand in the log
pub never_unopened : (site : Site) (text : List ℕ) (begun : Begun) → IsBegun site text begun → IsUnopened begun.log.items → ⊥
never_unopened site text begun b opened =
    let slots = map (λ (seat : Seat). seat.slots) b.front.seats in
    not_unopened (head_line Two ∷ start_line b.front.clock slots ∷ []) b.rest (head_is_line Two, (start_is_line b.front.clock slots (opens_of site text begun b), tt)) (omega arith)
    (subst (λ (t : List ℕ). IsUnopened t) b.log opened)

-- ---- what following the log said
pub told_log : (log found : List ℕ) (first new : Kept) (front : LogFront) → (text : List ℕ) × (text ≡ found) × Recovers Opens Steps text first new front → found ≡ log → Recovers Opens Steps log first new front
told_log log found first new front said is = subst (λ (t : List ℕ). Recovers Opens Steps t first new front) (said.1 ∙ is) said.2

pub goes_whole : (site : Site) (text : List ℕ) (begun : Begun) (b : IsBegun site text begun) (first new : Kept) (version : Version) (count bytes : ℕ) (is_ended : Bool) → StandsAt site (state_told b.front) first
    → (said : Recovers Opens Steps begun.log.items first new (Whole version count bytes is_ended)) → Goes site text begun b version said.0 new is_ended × Counted text begun b.front said.0 bytes
goes_whole site text begun b first new version count bytes is_ended at said =
    let h = said.1 in
    let g = goes_on site text begun b first new version said.0 is_ended h.rest at h.fits (sym h.text_is) h.rest_is said.2 in
    (g, counted site text begun b new version said.0 is_ended bytes g h.bytes_are)

-- a whole log ends with its last line
pub goes_ended : (site : Site) (text : List ℕ) (begun : Begun) (b : IsBegun site text begun) (first new : Kept) (content : Content) (is : IsLogText content begun.log.items) → StandsAt site (state_told b.front) first
    → Leads Opens Steps first content new → Goes site text begun b is.version content new true
goes_ended site text begun b first new content is at leads =
    let end = end_line (length content.entries) in
    let whole : text_of (begun_lines is.version content) ++ (end ++ 10 ∷ []) ≡ begun.log.items =
    one_more (begun_lines is.version content) end [] ∙ append-nil (text_of (begun_lines is.version content ++ end ∷ [])) ∙ sym is.text_is in
    goes_on site text begun b first new is.version content true (end ++ 10 ∷ []) at is.fits whole refl leads

-- the count of lines fits 64 bits
pub line_room : (site : Site) (text : List ℕ) (begun : Begun) (b : IsBegun site text begun) (P : Content → Type 0) (line : ℕ) → IsFirstBad P begun.log.items line → length begun.log.items < 2 ^ 63
    → line + begun.preface.lines < 2 ^ 64
line_room site text begun b P line bad few =
    omega (arith, line_few P begun.log.items line bad, few, lines_bound site text begun b, b.room)
