-- what goes on behind a front, as a log of version 2
use Rattle.std.proofs.Common.{◌≡◌, ◌≤◌, ◌<◌, ◌+◌, ◌-◌, ◌^◌, ◌⊎◌, ℕ, Bool, true, false, inl, inr, List, [], ◌∷◌, ◌++◌, length, refl, sym, ap, ◌∙◌, subst, arith, lit<, lit≤, append_assoc, append-nil, length-append}
use Rattle.std.specs.Prelude.{map}
use Rattle.std.specs.List.{AllByRecursion}
use Rattle.std.proofs.lemmas.List.{length-map}
use Rattle.wh_words.specs.Lines.{text_of}
use Rattle.wh_text.specs.Lines.{IsLine}
use Rattle.wh_points.specs.Points.{Site}
use Rattle.wh_core.specs.States.{State}
use Rattle.wh_log.specs.declared.version.Version.{Version}
use Rattle.wh_log.specs.declared.version.Version.TheVariants.{Two}
use Rattle.wh_log.specs.Logs.{Content, Opens, Fits as FitsLog, IsLogText, head_line, start_line, end_line, log_lines}
use Rattle.wh_log.specs.Spelling.{entry_line}
use Rattle.wh_log.specs.FirstBad.{IsFirstBad, Begins, IsMissing, IsWrong}
use Rattle.wh_log.specs.Torn.{EndsBefore, Holds, IsRest, begun_lines}
use Rattle.wh_log.proofs.LineLaws.{one_line, one_text, not_whole}
use Rattle.wh_log.proofs.HeadLaws.{head_is_line, start_is_line, one_version}
use Rattle.wh_log.proofs.Following.{one_more}
use Rattle.wh_log.proofs.Fronts.{text-append, all_append}
use Rattle.wh_front.proofs.Running.{front_fit}
use Rattle.wh_front.specs.declared.front.Front.{Front}
use Rattle.wh_front.specs.declared.line.Line.{Line}
use Rattle.wh_front.specs.Fronts.{Fits, front_text, front_lines}
use Rattle.wh_front.specs.Spelling.{front_line}
use Rattle.wh_front.specs.Ranges.{LineFits}
use Rattle.wh_front.proofs.RowLaws.{row_is_line}
use Rattle.wh_restore.specs.Heads.{first_two_lines}
use Rattle.wh_resume.specs.Behind.{IsRunFrom, entries_told}

-- ---- the first two lines
pub two_text : (clock : ℕ) (slots rest : List ℕ) → first_two_lines clock slots ++ rest ≡ head_line Two ++ 10 ∷ (start_line clock slots ++ 10 ∷ rest)
two_text clock slots rest =
    one_text (head_line Two) (start_line clock slots ∷ []) rest ∙ ap (λ (t : List ℕ). head_line Two ++ 10 ∷ t) (one_text (start_line clock slots) [] rest)

pub two_and_more : (clock : ℕ) (slots : List ℕ) (lines : List (List ℕ)) → text_of (head_line Two ∷ start_line clock slots ∷ lines) ≡ first_two_lines clock slots ++ text_of lines
two_and_more clock slots lines = text-append (head_line Two ∷ start_line clock slots ∷ []) lines

-- two lines before a rest are these
pub cut_lines : (a b : List ℕ) (lines : List (List ℕ)) (clock : ℕ) (slots x rest : List ℕ) → IsLine a → IsLine b → Opens clock slots → text_of (a ∷ b ∷ lines) ++ x ≡ first_two_lines clock slots ++ rest
    → (a ≡ head_line Two) × (b ≡ start_line clock slots) × (text_of lines ++ x ≡ rest)
cut_lines a b lines clock slots x rest h k opens e =
    let one = one_line a (head_line Two) (text_of (b ∷ lines) ++ x) (start_line clock slots ++ 10 ∷ rest) h (head_is_line Two) (sym (one_text a (b ∷ lines) x) ∙ e ∙ two_text clock slots rest) in
    let two = one_line b (start_line clock slots) (text_of lines ++ x) rest k (start_is_line clock slots opens) (sym (one_text b lines x) ∙ one.1) in
    (one.0, two.0, two.1)

pub cut_two : (version : Version) (content : Content) (lines : List (List ℕ)) (clock : ℕ) (slots x rest : List ℕ) → Opens clock slots → Opens content.clock content.slots
    → text_of (head_line version ∷ start_line content.clock content.slots ∷ lines) ++ x ≡ first_two_lines clock slots ++ rest → (version ≡ Two) × (text_of lines ++ x ≡ rest)
cut_two version content lines clock slots x rest opens its e =
    let cut = cut_lines (head_line version) (start_line content.clock content.slots) lines clock slots x rest (head_is_line version) (start_is_line content.clock content.slots its) opens e in
    (one_version version Two cut.0, cut.2)

-- ---- a log that goes on from a state is begun with its two lines

pub begins_two : (site : Site) (opening : State) → Opens opening.clock opening.slots → Begins (IsRunFrom site opening) (first_two_lines opening.clock opening.slots)
begins_two site opening opens =
    let content : Content = record { clock = opening.clock; slots = opening.slots; entries = [] } in
    let two = head_line Two ∷ start_line opening.clock opening.slots ∷ [] in
    record {
      more = end_line 0 ++ 10 ∷ [];
      whole = record {
        content = content;
        is = record {
          version = Two;
          fits = record { opens = opens; entries = tt; count = lit< tt };
          text_is = one_more two (end_line 0) [] ∙ append-nil (text_of (two ++ end_line 0 ∷ []));
        };
        holds = record { clock_is = refl; slots_are = refl; state = opening; run = refl };
      };
    }

pub begins_less : (P : Content → Type 0) (x y : List ℕ) → Begins P (x ++ y) → Begins P x
begins_less P x y begins = record {
  more = y ++ begins.more;
  whole = record {
    content = begins.whole.content;
    is = subst (λ (t : List ℕ). IsLogText begins.whole.content t) (append_assoc x y begins.more) begins.whole.is;
    holds = begins.whole.holds;
  };
}

-- the first bad line of a log that goes on from a state comes behind these two
pub bad_behind : (site : Site) (opening : State) (rest : List ℕ) (line : ℕ) → Opens opening.clock opening.slots
    → IsFirstBad (IsRunFrom site opening) (first_two_lines opening.clock opening.slots ++ rest) line → 3 ≤ line
bad_behind site opening rest line opens bad = by bad.before bad.rest bad.place bad.lines bad.parts bad.fault
  where
    by : (before : List (List ℕ)) (behind : List ℕ) → line ≡ length before + 1 → AllByRecursion IsLine before → first_two_lines opening.clock opening.slots ++ rest ≡ text_of before ++ behind
        → IsMissing (IsRunFrom site opening) (first_two_lines opening.clock opening.slots ++ rest) behind ⊎ IsWrong (IsRunFrom site opening) before behind → 3 ≤ line
    by [] behind place lines parts fault = absurd (first behind parts fault)
      where
        first : (behind : List ℕ) → first_two_lines opening.clock opening.slots ++ rest ≡ behind
            → IsMissing (IsRunFrom site opening) (first_two_lines opening.clock opening.slots ++ rest) behind ⊎ IsWrong (IsRunFrom site opening) [] behind → ⊥
        first behind parts (inl missing) = not_whole behind (head_line Two) (start_line opening.clock opening.slots ++ 10 ∷ rest) missing.0 (sym parts ∙ two_text opening.clock opening.slots rest)
        first behind parts (inr wrong) =
            let cut = one_line wrong.0 (head_line Two) wrong.1 (start_line opening.clock opening.slots ++ 10 ∷ rest) wrong.2 (head_is_line Two) (sym wrong.3 ∙ sym parts ∙ two_text opening.clock opening.slots rest) in
            let begins : Begins (IsRunFrom site opening) (head_line Two ++ 10 ∷ []) =
            begins_less (IsRunFrom site opening) (head_line Two ++ 10 ∷ []) (text_of (start_line opening.clock opening.slots ∷ [])) (begins_two site opening opens) in
            wrong.4 (subst (λ (l : List ℕ). Begins (IsRunFrom site opening) (l ++ 10 ∷ [])) (sym cut.0) begins)
    by (b ∷ []) behind place lines parts fault = absurd (second behind parts fault)
      where
        second : (behind : List ℕ) → first_two_lines opening.clock opening.slots ++ rest ≡ text_of (b ∷ []) ++ behind
            → IsMissing (IsRunFrom site opening) (first_two_lines opening.clock opening.slots ++ rest) behind ⊎ IsWrong (IsRunFrom site opening) (b ∷ []) behind → ⊥
        second behind parts fault =
            let cut = one_line b (head_line Two) behind (start_line opening.clock opening.slots ++ 10 ∷ rest) lines.0 (head_is_line Two) (sym (one_text b [] behind) ∙ sym parts ∙ two_text opening.clock opening.slots rest) in
            behind_one behind cut.0 cut.1 fault
          where
            behind_one : (behind : List ℕ) → b ≡ head_line Two → behind ≡ start_line opening.clock opening.slots ++ 10 ∷ rest
                → IsMissing (IsRunFrom site opening) (first_two_lines opening.clock opening.slots ++ rest) behind ⊎ IsWrong (IsRunFrom site opening) (b ∷ []) behind → ⊥
            behind_one behind same e (inl missing) = not_whole behind (start_line opening.clock opening.slots) rest missing.0 e
            behind_one behind same e (inr wrong) =
                let cut = one_line wrong.0 (start_line opening.clock opening.slots) wrong.1 rest wrong.2 (start_is_line opening.clock opening.slots opens) (sym wrong.3 ∙ e) in
                let two : text_of (head_line Two ∷ []) ++ (start_line opening.clock opening.slots ++ 10 ∷ []) ≡ first_two_lines opening.clock opening.slots =
                one_more (head_line Two ∷ []) (start_line opening.clock opening.slots) [] ∙ append-nil (first_two_lines opening.clock opening.slots) in
                let begins : Begins (IsRunFrom site opening) (text_of (head_line Two ∷ []) ++ (start_line opening.clock opening.slots ++ 10 ∷ [])) =
                subst (λ (t : List ℕ). Begins (IsRunFrom site opening) t) (sym two) (begins_two site opening opens) in
                wrong.4 (subst (λ (l : List ℕ). Begins (IsRunFrom site opening) (text_of (b ∷ []) ++ (l ++ 10 ∷ []))) (sym cut.0)
                (subst (λ (l : List ℕ). Begins (IsRunFrom site opening) (text_of (l ∷ []) ++ (start_line opening.clock opening.slots ++ 10 ∷ []))) (sym same) begins))
    by (a ∷ b ∷ before) behind place lines parts fault = omega (arith, place)

-- ---- the lines of a front
pub lines_are : (lines : List Line) → AllByRecursion LineFits lines → AllByRecursion IsLine (map front_line lines)
lines_are [] h = tt
lines_are (line ∷ lines) h = (row_is_line line h.0, lines_are lines h.1)

-- whole lines before one are in the text that begins with a front as they are in the log that goes on from it
pub ends_behind : (front : Front) (clock : ℕ) (slots rest log : List ℕ) (line bytes : ℕ) → Fits front → Opens clock slots → log ≡ first_two_lines clock slots ++ rest → 3 ≤ line → EndsBefore log line bytes
    → (length (first_two_lines clock slots) ≤ bytes) × EndsBefore (front_text front ++ rest) (length (front_lines front) + (line - 2)) (length (front_text front) + (bytes - length (first_two_lines clock slots)))
ends_behind front clock slots rest log line bytes fits opens is three e = by e.before e.rest e.place e.lines (sym is ∙ e.parts) e.bytes_are
  where
    by : (before : List (List ℕ)) (behind : List ℕ) → line ≡ length before + 1 → AllByRecursion IsLine before → first_two_lines clock slots ++ rest ≡ text_of before ++ behind → bytes ≡ length (text_of before)
        → (length (first_two_lines clock slots) ≤ bytes) × EndsBefore (front_text front ++ rest) (length (front_lines front) + (line - 2)) (length (front_text front) + (bytes - length (first_two_lines clock slots)))
    by [] behind place lines parts many = absurd (omega (arith, place, three))
    by (a ∷ []) behind place lines parts many = absurd (omega (arith, place, three))
    by (a ∷ b ∷ more) behind place lines parts many =
        let cut = cut_lines a b more clock slots behind rest lines.0 lines.1.0 opens (sym parts) in
        let two : text_of (a ∷ b ∷ more) ≡ first_two_lines clock slots ++ text_of more =
        ap (λ (l : List ℕ). text_of (l ∷ b ∷ more)) cut.0 ∙ ap (λ (l : List ℕ). text_of (head_line Two ∷ l ∷ more)) cut.1 ∙ two_and_more clock slots more in
        let size : bytes ≡ length (first_two_lines clock slots) + length (text_of more) = many ∙ ap length two ∙ length-append (first_two_lines clock slots) (text_of more) in
        let all : List (List ℕ) = map front_line (front_lines front) ++ more in
        let text : text_of all ≡ front_text front ++ text_of more = text-append (map front_line (front_lines front)) more in
        let count : length all ≡ length (front_lines front) + length more = length-append (map front_line (front_lines front)) more ∙ ap (λ (n : ℕ). n + length more) (length-map (front_lines front) front_line) in (
          omega (arith, size),
          record {
            before = all;
            rest = behind;
            lines = all_append IsLine (map front_line (front_lines front)) more (lines_are (front_lines front) (front_fit front fits)) lines.1.1;
            parts = ap (λ (t : List ℕ). front_text front ++ t) (sym cut.2) ∙ sym (append_assoc (front_text front) (text_of more) behind) ∙ ap (λ (t : List ℕ). t ++ behind) (sym text);
            place = omega (arith, place, count, three);
            bytes_are = omega (arith, size, ap length text, length-append (front_text front) (text_of more));
          },
        )
