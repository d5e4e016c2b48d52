-- What is found in what a kill leaves of a journal.
use Rattle.std.proofs.Common.{◌≡◌, ◌≤◌, ◌+◌, ◌<◌, ℕ, Bool, true, false, inl, inr, List, [], ◌∷◌, ◌++◌, map, length, drop, take, refl, sym, ap, ◌∙◌, subst, arith, append_assoc, Some, length-append, take-append-drop}
use Rattle.std.proofs.lemmas.Bool.{cases_lt}
use Rattle.std.proofs.lemmas.List.{map-append}
use Rattle.wh_words.specs.Lines.{text_of as lines_text}
use Rattle.wh_text.specs.Lines.{IsLine}
use Rattle.wh_event.specs.declared.entry.Entry.{Entry}
use Rattle.wh_log.specs.Spelling.{entry_line}
use Rattle.wh_log.specs.declared.version.Version.{Version}
use Rattle.wh_log.specs.declared.version.Version.TheVariants.{Two}
use Rattle.wh_log.specs.Logs.{Content}
use Rattle.wh_log.specs.Torn.{begun_lines, Holds, IsRest}
use Rattle.wh_log.proofs.LineLaws.{not_whole, text_cons}
use Rattle.wh_log.proofs.Fronts.{text-append}
use Rattle.wh_log.proofs.Tearing.{cuts_are_found}
use Rattle.wh_journal.specs.Journals.{lines_for}
use Rattle.wh_replay.specs.Scripts.{WritesFront}
use Rattle.wh_log.specs.Logs.{Fits}
use Rattle.wh_front.specs.declared.front.Front.{Front}
use Rattle.wh_front.specs.Fronts.{Fits as FitsFront, front_text}
use Rattle.wh_front.proofs.Readings.{one_front}
use Rattle.wh_journal.specs.Surviving.{grown, IsLeft, AddedAreFound, AddedAreFoundBehind, HoldsBehind}

-- the text of a begun log with further entries
pub begun_grown : (content : Content) (more : List Entry) → lines_text (begun_lines Two (grown content more)) ≡ lines_text (begun_lines Two content) ++ lines_for more
begun_grown content more =
    ap (λ (ls : List (List ℕ)). lines_text (begun_lines Two (record { clock = content.clock; slots = content.slots; entries = [] }) ++ ls)) (map-append entry_line content.entries more)
    ∙ text-append (begun_lines Two content) (map entry_line more)

-- of two fronts the longer one has the shorter one's elements and more
pub record Longer (short long : List ℕ) : Type 0 where
  pub more : List ℕ
  pub long_is : long ≡ short ++ more

front_longer : (short a long b : List ℕ) → short ++ a ≡ long ++ b → length short ≤ length long → Longer short long
front_longer [] a long b e le = record { more = long; long_is = refl }
front_longer (x ∷ short) a [] b e le = absurd (omega (arith, le))
front_longer (x ∷ short) a (y ∷ long) b e le =
    let tail : short ++ a ≡ long ++ b = cc in
    let head : x ≡ y = cc in
    let rest = front_longer short a long b tail (omega (arith, le)) in
    record { more = rest.more; long_is = ap (λ (c : ℕ). c ∷ long) (sym head) ∙ ap (λ (l : List ℕ). x ∷ l) rest.long_is }

-- of two fronts of entries one goes on from the other
record Goes (short long : List Entry) : Type 0 where
  more : List Entry
  long_is : long ≡ short ++ more

goes : (short a long b : List Entry) → short ++ a ≡ long ++ b → length short ≤ length long → Goes short long
goes [] a long b e le = record { more = long; long_is = refl }
goes (x ∷ short) a [] b e le = absurd (omega (arith, le))
goes (x ∷ short) a (y ∷ long) b e le =
    let tail : short ++ a ≡ long ++ b = cc in
    let head : x ≡ y = cc in
    let rest = goes short a long b tail (omega (arith, le)) in
    record { more = rest.more; long_is = ap (λ (c : Entry). c ∷ long) (sym head) ∙ ap (λ (l : List Entry). x ∷ l) rest.long_is }

same_behind : (x a b : List ℕ) → x ++ a ≡ x ++ b → a ≡ b
same_behind [] a b e = e
same_behind (c ∷ x) a b e = same_behind x a b (let tail : x ++ a ≡ x ++ b = cc in tail)

-- where a line stands behind what was found, it was found too
none_missed : (found : Content) (missed : List Entry) (torn behind : List ℕ) → IsLine torn → 0 < length missed
    → lines_text (begun_lines Two found) ++ torn ≡ lines_text (begun_lines Two (grown found missed)) ++ behind → ⊥
none_missed found [] torn behind is some e = omega (arith, some)
none_missed found (entry ∷ missed) torn behind is some e =
    let whole : torn ≡ lines_for (entry ∷ missed) ++ behind =
    same_behind (lines_text (begun_lines Two found)) torn (lines_for (entry ∷ missed) ++ behind)
    (e ∙ ap (λ (t : List ℕ). t ++ behind) (begun_grown found (entry ∷ missed)) ∙ append_assoc (lines_text (begun_lines Two found)) (lines_for (entry ∷ missed)) behind) in
    let cut : torn ≡ entry_line entry ++ 10 ∷ (lines_for missed ++ behind) =
    whole ∙ ap (λ (t : List ℕ). t ++ behind) (text_cons (entry_line entry) (map entry_line missed)) ∙ append_assoc (entry_line entry) (10 ∷ lines_for missed) behind in
    not_whole torn (entry_line entry) (lines_for missed ++ behind) is cut

content_with : (a b : Content) (entries : List Entry) → a.clock ≡ b.clock → a.slots ≡ b.slots → lines_text (begun_lines Two (record { clock = b.clock; slots = b.slots; entries = entries })) ≡
    lines_text (begun_lines Two (record { clock = a.clock; slots = a.slots; entries = entries }))
content_with a b entries e f =
    ap (λ (n : ℕ). let c : Content = record { clock = n; slots = b.slots; entries = entries } in lines_text (begun_lines Two c)) (sym e)
    ∙ ap (λ (ns : List ℕ). let c : Content = record { clock = a.clock; slots = ns; entries = entries } in lines_text (begun_lines Two c)) (sym f)

same_entries : (x a b : List Entry) → x ++ a ≡ x ++ b → a ≡ b
same_entries [] a b e = e
same_entries (c ∷ x) a b e = same_entries x a b (let tail : x ++ a ≡ x ++ b = cc in tail)

module _ (content : Content) (added later : List Entry) (kept holds left : List ℕ) (kept_is : kept ≡ lines_text (begun_lines Two content) ++ lines_for added)
    (behind : WritesFront (Some kept) (Some holds) (lines_for later)) (is_left : IsLeft kept holds left) where
  -- what is left is a front of a begun log
  pub left_is_front : left ++ (is_left.lost ++ drop behind.count (lines_for later)) ≡ lines_text (begun_lines Two (grown (grown content added) later))
  left_is_front =
      let cut = drop behind.count (lines_for later) in
      let kept_text : kept ≡ lines_text (begun_lines Two (grown content added)) = kept_is ∙ sym (begun_grown content added) in
      let holds_front : holds ++ cut ≡ lines_text (begun_lines Two (grown (grown content added) later)) =
      ap (λ (t : List ℕ). t ++ cut) behind.appends ∙ append_assoc kept (take behind.count (lines_for later)) cut
      ∙ ap (λ (t : List ℕ). kept ++ t) (take-append-drop behind.count (lines_for later)) ∙ ap (λ (t : List ℕ). t ++ lines_for later) kept_text ∙ sym (begun_grown (grown content added) later) in
      sym (append_assoc left is_left.lost cut) ∙ ap (λ (t : List ℕ). t ++ cut) (sym is_left.parts) ∙ holds_front

  -- and has all that was synced
  pub left_has_added : Longer (lines_text (begun_lines Two (grown content added))) left
  left_has_added =
      let sure = grown content added in
      let kept_text : kept ≡ lines_text (begun_lines Two sure) = kept_is ∙ sym (begun_grown content added) in
      front_longer (lines_text (begun_lines Two sure)) (lines_for later) left (is_left.lost ++ drop behind.count (lines_for later)) (sym (begun_grown sure later) ∙ sym left_is_front)
      (subst (λ (t : List ℕ). length t ≤ length left) kept_text is_left.no_less)

pub added_are_found : AddedAreFound
added_are_found content found added later kept holds left other is_ended bytes fits kept_is behind is_left stands =
    let all = grown (grown content added) later in
    let sure = grown content added in
    let front = left_is_front content added later kept holds left kept_is behind is_left in
    let f = cuts_are_found Two other all found is_ended left (is_left.lost ++ drop behind.count (lines_for later)) bytes fits front stands in
    let torn : IsLine stands.rest = subst (λ b. IsRest b found stands.rest) f.5 stands.rest_is in
    let text_is : left ≡ lines_text (begun_lines Two found) ++ stands.rest =
    stands.text_is ∙ ap (λ (v : Version). lines_text (begun_lines v found) ++ stands.rest) f.1 in
    let longer = left_has_added content added later kept holds left kept_is behind is_left in
    elim (cases_lt (length found.entries) (length sure.entries)) [
      | inl less ↦
          let g = goes found.entries f.0 sure.entries later (sym f.4) (omega (arith, less)) in
          let count : length sure.entries ≡ length found.entries + length g.more = ap length g.long_is ∙ length-append found.entries g.more in
          let same : lines_text (begun_lines Two sure) ≡ lines_text (begun_lines Two (grown found g.more)) =
          ap (λ (es : List Entry). let c : Content = record { clock = content.clock; slots = content.slots; entries = es } in lines_text (begun_lines Two c)) g.long_is
          ∙ content_with found content (found.entries ++ g.more) f.2 f.3 in
          absurd (none_missed found g.more stands.rest longer.more torn (omega (arith, less, count)) (sym text_is ∙ longer.long_is ∙ ap (λ (t : List ℕ). t ++ longer.more) same))
      | inr enough ↦
          let g = goes sure.entries later found.entries f.0 f.4 enough in
          let behind_is : later ≡ g.more ++ f.0 =
          same_entries sure.entries later (g.more ++ f.0) (f.4 ∙ ap (λ (es : List Entry). es ++ f.0) g.long_is ∙ append_assoc sure.entries g.more f.0) in
          (g.more, f.0, f.2, f.3, g.long_is, behind_is, f.1, f.5)
    ]

-- ---- behind a front: two lines in its place

module _ (front : Front) (content : Content) (added later : List Entry) (kept holds left : List ℕ) (kept_is : kept ≡ (front_text front ++ lines_for content.entries) ++ lines_for added)
    (behind : WritesFront (Some kept) (Some holds) (lines_for later)) (is_left : IsLeft kept holds left) where
  abbrev head : List ℕ
  head = front_text front

  abbrev two : List ℕ
  two = lines_text (begun_lines Two (let c : Content = record { clock = content.clock; slots = content.slots; entries = [] } in c))

  abbrev sure : List ℕ
  sure = lines_for content.entries ++ lines_for added

  abbrev written : List ℕ
  written = take behind.count (lines_for later)

  kept_parts : kept ≡ head ++ sure
  kept_parts = kept_is ∙ append_assoc head (lines_for content.entries) (lines_for added)

  holds_parts : head ++ (sure ++ written) ≡ left ++ is_left.lost
  holds_parts = sym (append_assoc head sure written) ∙ ap (λ (t : List ℕ). t ++ written) (sym kept_parts) ∙ sym behind.appends ∙ is_left.parts

  -- the front is left whole
  pub head_left : Longer head left
  head_left = front_longer head (sure ++ written) left is_left.lost holds_parts (omega (arith, ap length kept_parts, length-append head sure, is_left.no_less))

  behind_head : sure ++ written ≡ head_left.more ++ is_left.lost
  behind_head = same_behind head (sure ++ written) (head_left.more ++ is_left.lost) (holds_parts ∙ ap (λ (t : List ℕ). t ++ is_left.lost) head_left.long_is ∙ append_assoc head head_left.more is_left.lost)

  -- the same with the two lines
  abbrev pub kept_two : List ℕ
  kept_two = lines_text (begun_lines Two content) ++ lines_for added

  two_parts : kept_two ≡ two ++ sure
  two_parts =
      ap (λ (t : List ℕ). t ++ lines_for added) (begun_grown (let c : Content = record { clock = content.clock; slots = content.slots; entries = [] } in c) content.entries)
      ∙ append_assoc two (lines_for content.entries) (lines_for added)

  pub behind_two : WritesFront (Some kept_two) (Some (kept_two ++ written)) (lines_for later)
  behind_two = record { count = behind.count; appends = refl }

  pub left_two : IsLeft kept_two (kept_two ++ written) (two ++ head_left.more)
  left_two = record {
    lost = is_left.lost;
    parts = ap (λ (t : List ℕ). t ++ written) two_parts ∙ append_assoc two sure written ∙ ap (λ (t : List ℕ). two ++ t) behind_head ∙ sym (append_assoc two head_left.more is_left.lost);
    no_less = omega (arith, ap length two_parts, length-append two sure, length-append two head_left.more, ap length kept_parts, length-append head sure, ap length head_left.long_is, length-append head head_left.more, is_left.no_less);
  }

  module _ (told : Front) (found : Content) (is_ended : Bool) (bytes : ℕ) (fits : FitsFront front) (others : FitsFront told) (whole : Fits Two (grown (grown content added) later)) (stands : HoldsBehind told found is_ended left bytes) where
    -- one front stands there
    one_head : (front ≡ told) × (head_left.more ≡ lines_for found.entries ++ stands.rest)
    one_head = one_front front told head_left.more (lines_for found.entries ++ stands.rest) fits others
        (sym head_left.long_is ∙ stands.text_is ∙ append_assoc (front_text told) (lines_for found.entries) stands.rest)

    abbrev found_two : Content
    found_two = record { clock = content.clock; slots = content.slots; entries = found.entries }

    rest_two : (ended : Bool) → IsRest ended found stands.rest → IsRest ended found_two stands.rest
    rest_two true r = r
    rest_two false r = r

    holds_two : Holds Two found_two is_ended (two ++ head_left.more) (length (lines_text (begun_lines Two found_two)))
    holds_two = record {
      fits = record { opens = whole.opens; entries = stands.fits.entries; count = stands.fits.count };
      rest = stands.rest;
      text_is = ap (λ (t : List ℕ). two ++ t) one_head.1 ∙ sym (append_assoc two (lines_for found.entries) stands.rest)
          ∙ ap (λ (t : List ℕ). t ++ stands.rest) (sym (begun_grown (let c : Content = record { clock = content.clock; slots = content.slots; entries = [] } in c) found.entries));
      rest_is = rest_two is_ended stands.rest_is;
      bytes_are = refl;
    }

    pub found_behind : (more : List Entry) × (unfound : List Entry) × (told ≡ front) × (found.entries ≡ (content.entries ++ added) ++ more) × (later ≡ more ++ unfound) × (is_ended ≡ false)
    found_behind =
        let f = added_are_found content found_two added later kept_two (kept_two ++ written) (two ++ head_left.more) Two is_ended (length (lines_text (begun_lines Two found_two))) whole refl behind_two left_two holds_two in
        (f.0, f.1, sym one_head.0, f.4, f.5, f.7)

pub added_are_found_behind : AddedAreFoundBehind
added_are_found_behind front told content found added later kept holds left is_ended bytes fits others whole kept_is behind is_left stands =
    found_behind front content added later kept holds left kept_is behind is_left told found is_ended bytes fits others whole stands
