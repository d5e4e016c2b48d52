-- Following a log of which a part was read: what was found holds of all of it.
use Rattle.std.proofs.Common.{◌≡◌, ℕ, ◌<◌, ◌+◌, ◌-◌, ◌^◌, inl, inr, Bool, true, false, List, [], ◌∷◌, ◌++◌, length, refl, sym, ap, ◌∙◌, subst, arith, append_assoc, length-append, lit<, Option}
use Rattle.std.specs.Global.{Vec}
use Rattle.std.proofs.lemmas.List.{append-nil}
use Rattle.std.specs.List.{AllByRecursion}
use Rattle.wh_words.specs.Lines.{text_of}
use Rattle.wh_text.specs.Lines.{IsLine}
use Rattle.wh_event.specs.declared.entry.Entry.{Entry}
use Rattle.wh_log.specs.Spelling.{entry_line}
use Rattle.wh_log.specs.Ranges.{Keeps}
use Rattle.wh_log.specs.declared.version.Version.{Version}
use Rattle.wh_log.specs.declared.front_log.Front.{Front}
use Rattle.wh_log.specs.declared.front_log.Front.TheVariants.{Whole, Bad}
use Rattle.wh_log.specs.declared.tell_entries.Stop.{Stop}
use Rattle.wh_log.specs.declared.tell_entries.Stop.TheVariants as stop
use Rattle.wh_log.specs.declared.window.Standing.{Standing}
use Rattle.wh_log.specs.declared.window.Standing.TheVariants as standing
use Rattle.wh_log.specs.Logs.{head_line, most_stops, start_line, end_line, Opens}
use Rattle.wh_log.specs.Places.{IsNoHead, IsNoStart, Lacks}
use Rattle.wh_log.specs.Judges.{RefusesOpening, CanOpen}
use Rattle.wh_log.specs.Torn.{Recovers, HasLines}
use Rattle.wh_log.specs.Sources.{Shows, IsEnough, IsAtEnd, ReadsOn}
use Rattle.wh_log.specs.Behinds.{Behind, TellsOn, StopsAt, IsBadAt, IsBadStart, LacksHead, LacksStart, RecoversFrom, RecoversOn, Sees, is_bad_stop}
use Rattle.wh_log.proofs.HeadLaws.{head_is_line, end_is_line}
use Rattle.wh_log.proofs.LineLaws.{one_line, one_text}
use Rattle.wh_log.proofs.Fronts.{front_lines}
use Rattle.wh_log.proofs.Following.{one_more, behind_next}
use Rattle.wh_log.proofs.Sources.{grown, all_seen, sees_on}
use Rattle.wh_log.proofs.Tearing.{one_stands, second_stands, lacks_on, stand_on, behind_on, cut_at, recovers_no_head, recovers_no_start, recovers_unopened, recovers_ended, recovers_cut, recovers_wrong, recovers_refused, recovers_after}

-- a line and what follows it, of which more is read
line_on : (rest line behind more : List ℕ) → rest ≡ line ++ 10 ∷ behind → rest ++ more ≡ line ++ 10 ∷ (behind ++ more)
line_on rest line behind more e = ap (λ (t : List ℕ). t ++ more) e ∙ append_assoc line (10 ∷ behind) more

not_both : false ≡ true → ⊥
not_both e = cc

first_of_two : (text : List ℕ) → HasLines text 2 → HasLines text 1
first_of_two text (lines, more, all, parts, count) = cut lines all parts count
  where
    cut : (lines : List (List ℕ)) → AllByRecursion IsLine lines → text ≡ text_of lines ++ more → length lines ≡ 2 → HasLines text 1
    cut [] all parts count = absurd (omega (arith, count))
    cut (first ∷ lines) all parts count = one_stands text first (text_of lines ++ more) all.0 (parts ∙ one_text first lines more)

module _ {S : Type 0} (opens : S → ℕ → List ℕ → S → Type 0) (steps : S → Entry → S → Type 0) (held : Option (List ℕ)) (old : S) where
  -- the same fault, told otherwise
  bad_is : (text : List ℕ) (new : S) (front : Front) (line bytes same : ℕ) → front ≡ Bad line bytes → bytes ≡ same → Recovers opens steps text old new (Bad line same) → Recovers opens steps text old new front
  bad_is text new front line bytes same e f r = subst (λ (x : Front). Recovers opens steps text old new x) (sym (e ∙ ap (λ n. Bad line n) f)) r

  module _ (place : ℕ) (seen : List ℕ) (sees : Sees held place seen) where
    -- ---- the first two lines
    first_bad : (new : S) (front : Front) → CanOpen opens old → Lacks IsNoHead seen → HasLines seen 1 → front ≡ Bad 1 0 → RecoversFrom opens steps held old new front
    first_bad new front can lacks has is =
        let g = grown held place seen sees in
        let lacks_all : Lacks IsNoHead g.text = subst (Lacks IsNoHead) (sym g.parts) (lacks_on IsNoHead seen g.more has lacks) in
        let has_all : HasLines g.text 1 = subst (λ t. HasLines t 1) (sym g.parts) (stand_on seen g.more 1 has) in
        (g.text, g.is, bad_is g.text new front 1 0 0 is refl (recovers_no_head opens steps old g.text new can lacks_all has_all))

    pub from_no_head : (new : S) (front : Front) (said : Standing) (text : Vec ℕ) → CanOpen opens old → text.items ≡ seen → Shows seen said → IsEnough held place said → Lacks IsNoHead seen → LacksHead said text front
        → RecoversFrom opens steps held old new front
    from_no_head new front standing.None text can e shows enough lacks is =
        (seen, all_seen held place seen sees enough, subst (λ (x : Front). Recovers opens steps seen old new x) (sym is) (inl shows, e))
    from_no_head new front standing.One text can e shows enough lacks is = first_bad new front can lacks (one_stands seen shows.0 shows.1 shows.2 shows.4) is
    from_no_head new front standing.Two text can e shows enough lacks is = first_bad new front can lacks (first_of_two seen shows) is

    second_bytes : (version : Version) (rest : List ℕ) → seen ≡ head_line version ++ 10 ∷ rest → length seen - length rest ≡ length (text_of (head_line version ∷ []))
    second_bytes version rest e = omega (arith, ap length (e ∙ sym (one_text (head_line version) [] rest)), length-append (text_of (head_line version ∷ [])) rest)

    pub from_no_start : (new : S) (front : Front) (said : Standing) (text : Vec ℕ) (version : Version) (rest : List ℕ) → CanOpen opens old → text.items ≡ seen → Shows seen said → IsEnough held place said
        → seen ≡ head_line version ++ 10 ∷ rest → Lacks IsNoStart rest → LacksStart said text front → RecoversFrom opens steps held old new front
    from_no_start new front standing.None text version rest can e shows enough head lacks is =
        (seen, all_seen held place seen sees enough, subst (λ (x : Front). Recovers opens steps seen old new x) (sym is) (inl shows, e))
    from_no_start new front standing.One text version rest can e shows enough head lacks is =
        let cut = one_line (head_line version) shows.0 rest shows.1 (head_is_line version) shows.2 (sym head ∙ shows.4) in
        (seen, all_seen held place seen sees enough, subst (λ (x : Front). Recovers opens steps seen old new x) (sym is) (inr (version, rest, subst IsLine (sym cut.1) shows.3, head), e))
    from_no_start new front standing.Two text version rest can e shows enough head lacks is =
        let g = grown held place seen sees in
        let bad : IsBadStart seen front = subst (λ t. IsBadStart t front) e is in
        let all : g.text ≡ head_line version ++ 10 ∷ (rest ++ g.more) = g.parts ∙ line_on seen (head_line version) rest g.more head in
        let lacks_all : Lacks IsNoStart (rest ++ g.more) = lacks_on IsNoStart rest g.more (second_stands seen (head_line version) rest (head_is_line version) head shows) lacks in
        let has_all : HasLines g.text 2 = subst (λ t. HasLines t 2) (sym g.parts) (stand_on seen g.more 2 shows) in (
          g.text,
          g.is,
          bad_is g.text new front 2 (length seen - length rest) (length (text_of (head_line version ∷ []))) (bad (head_line version) rest (head_is_line version) head)
              (second_bytes version rest head) (recovers_no_start opens steps old g.text new version (rest ++ g.more) can all lacks_all has_all),
        )

    pub from_unopened : (new : S) (front : Front) (version : Version) (clock : ℕ) (slots rest : List ℕ) → CanOpen opens old → seen ≡ head_line version ++ 10 ∷ (start_line clock slots ++ 10 ∷ rest) → Opens clock slots
        → RefusesOpening opens old clock slots → IsBadStart seen front → RecoversFrom opens steps held old new front
    from_unopened new front version clock slots rest can head fits refuses bad =
        let g = grown held place seen sees in
        let behind = start_line clock slots ++ 10 ∷ rest in
        let all : g.text ≡ head_line version ++ 10 ∷ (start_line clock slots ++ 10 ∷ (rest ++ g.more)) =
        g.parts ∙ line_on seen (head_line version) behind g.more head ∙ ap (λ (t : List ℕ). head_line version ++ 10 ∷ t) (line_on behind (start_line clock slots) rest g.more refl) in (
          g.text,
          g.is,
          bad_is g.text new front 2 (length seen - length behind) (length (text_of (head_line version ∷ []))) (bad (head_line version) behind (head_is_line version) head)
              (second_bytes version behind head) (recovers_unopened opens steps old g.text version clock slots (rest ++ g.more) new can all fits refuses),
        )

    -- ---- behind the entries
    module _ (version : Version) (count : ℕ) (now : S) (rest : List ℕ) (b : Behind opens steps old seen version count now rest) where
      cut_here : place - length rest ≡ length (text_of (front_lines version b.clock b.slots b.entries))
      cut_here = omega (arith, sees.place_is, cut_at opens steps old seen version count now rest b)

      pub from_ended : rest ≡ end_line count ++ 10 ∷ [] → IsAtEnd held place → RecoversFrom opens steps held old now (Whole version count (place - length rest) true)
      from_ended is end = (
        seen,
        all_seen held place seen sees end,
        subst (λ n. Recovers opens steps seen old now (Whole version count (n - length rest) true)) (sym sees.place_is) (recovers_ended opens steps old seen version count now rest b is),
      )

      pub from_cut : IsLine rest → IsAtEnd held place → RecoversFrom opens steps held old now (Whole version count (place - length rest) false)
      from_cut is end = (
        seen,
        all_seen held place seen sees end,
        subst (λ n. Recovers opens steps seen old now (Whole version count (n - length rest) false)) (sym sees.place_is) (recovers_cut opens steps old seen version count now rest b is),
      )

      pub from_bad : (front : Front) (s : Stop) → ((old : S) (clock : ℕ) (slots : List ℕ) (a b : S) → opens old clock slots a → opens old clock slots b → a ≡ b)
          → ((old : S) (entry : Entry) (a b : S) → steps old entry a → steps old entry b → a ≡ b) → is_bad_stop s ≡ true → StopsAt steps version count now rest s → IsBadAt s count rest place front
          → RecoversFrom opens steps held old now front
      from_bad front stop.NoLine one_opening one_step bad at is = absurd (not_both bad)
      from_bad front stop.End one_opening one_step bad at is = absurd (not_both bad)
      from_bad front stop.WrongLine one_opening one_step bad at is =
          let g = grown held place seen sees in
          let all = behind_on opens steps old seen g.more g.text version count now rest g.parts b in (
            g.text,
            g.is,
            bad_is g.text now front (count + 3) (place - length rest) _ is cut_here
                (recovers_wrong opens steps old g.text version count now (rest ++ g.more) all at.0 (at.1 ++ g.more) at.2 (line_on rest at.0 at.1 g.more at.3) at.4),
          )
      from_bad front stop.Refused one_opening one_step bad at is =
          let g = grown held place seen sees in
          let all = behind_on opens steps old seen g.more g.text version count now rest g.parts b in (
            g.text,
            g.is,
            bad_is g.text now front (count + 3) (place - length rest) _ is cut_here
                (recovers_refused opens steps old g.text version count now (rest ++ g.more) all at.0 (at.1 ++ g.more) now one_opening one_step (line_on rest (entry_line at.0) at.1 g.more at.2) at.3 at.4),
          )
      from_bad front stop.TextAfter one_opening one_step bad at is =
          let g = grown held place seen sees in
          let all = behind_on opens steps old seen g.more g.text version count now rest g.parts b in
          let front_of = front_lines version b.clock b.slots b.entries in
          let parts : seen ≡ text_of (front_of ++ end_line count ∷ []) ++ at.0 = b.parts ∙ ap (λ (t : List ℕ). text_of front_of ++ t) at.2 ∙ one_more front_of (end_line count) at.0 in (
            g.text,
            g.is,
            bad_is g.text now front (count + 4) (place - length at.0) (length (text_of (front_of ++ end_line count ∷ []))) (is (end_line count) at.0 (end_is_line count b.few) at.2)
                (omega (arith, sees.place_is, ap length parts, length-append (text_of (front_of ++ end_line count ∷ [])) at.0))
                (recovers_after opens steps old g.text version count now (rest ++ g.more) all (at.0 ++ g.more) (omega (arith, at.1, length-append at.0 g.more)) (line_on rest (end_line count) at.0 g.more at.2)),
          )

-- ---- piece by piece

pub tells_next : {S : Type 0} (opens : S → ℕ → List ℕ → S → Type 0) (steps : S → Entry → S → Type 0) (version : Version) (count : ℕ) (now : S) (rest : List ℕ) (further : ℕ) (new : S) (left : List ℕ) (entry : Entry) (after : List ℕ) (newer : S)
    → TellsOn opens steps version count now rest further new left → left ≡ entry_line entry ++ 10 ∷ after → Keeps (most_stops version) entry → further + 1 < 10 ^ 9 → steps new entry newer
    → TellsOn opens steps version count now rest (further + 1) newer after
tells_next opens steps version count now rest further new left entry after newer on is keeps few step old seen b =
    behind_next opens steps old seen version further new left entry after newer (on old seen b) is keeps few step

-- From a judge that was told the first two lines on, with so much read and this left of it: how far it has come.
pub record Follows {S : Type 0} (opens : S → ℕ → List ℕ → S → Type 0) (steps : S → Entry → S → Type 0) (held : Option (List ℕ)) (version : Version) (old_place : ℕ) (old_rest : List ℕ) (old_now : S) (ended : Bool) (place : ℕ) (rest : List ℕ) (count : ℕ) (now : S) : Type 0 where
  pub piece : List ℕ
  pub few : count < 10 ^ 9
  pub sees : (seen : List ℕ) → Sees held old_place seen → Sees held place (seen ++ piece)
  pub behind : (old : S) (seen : List ℕ) → Behind opens steps old seen version 0 old_now old_rest → Behind opens steps old (seen ++ piece) version count now rest
  pub at_end : ended ≡ true → IsAtEnd held place

module _ {S : Type 0} (opens : S → ℕ → List ℕ → S → Type 0) (steps : S → Entry → S → Type 0) (held : Option (List ℕ)) (version : Version) (old_place : ℕ) (old_rest : List ℕ) (old_now : S) where
  pub follows_start : Follows opens steps held version old_place old_rest old_now false old_place old_rest 0 old_now
  follows_start = record {
    piece = [];
    few = lit< tt;
    sees = λ seen s. subst (λ (t : List ℕ). Sees held old_place t) (sym (append-nil seen)) s;
    behind = λ old seen b. subst (λ (t : List ℕ). Behind opens steps old t version 0 old_now old_rest) (sym (append-nil seen)) b;
    at_end = λ e. absurd (not_both e);
  }

  module _ (ended : Bool) (place : ℕ) (rest : List ℕ) (count : ℕ) (now : S) (f : Follows opens steps held version old_place old_rest old_now ended place rest count now)
      (further : ℕ) (new : S) (left : List ℕ) (on : TellsOn opens steps version count now rest further new left) where
    pub follows_on : (new_ended : Bool) (new_place : ℕ) (new_rest : List ℕ) → further < 10 ^ 9 → ReadsOn held place left new_place new_rest new_ended
        → Follows opens steps held version old_place old_rest old_now new_ended new_place new_rest further new
    follows_on new_ended new_place new_rest few reads = record {
      piece = f.piece ++ reads.piece;
      few = few;
      sees = λ seen s. subst (λ (t : List ℕ). Sees held new_place t) (append_assoc seen f.piece reads.piece) (sees_on held place left new_place new_rest new_ended (seen ++ f.piece) reads (f.sees seen s));
      behind = λ old seen b.
          let told = on old (seen ++ f.piece) (f.behind old seen b) in
          subst (λ (t : List ℕ). Behind opens steps old t version further new new_rest) (append_assoc seen f.piece reads.piece)
          (subst (λ (t : List ℕ). Behind opens steps old ((seen ++ f.piece) ++ reads.piece) version further new t) (sym reads.added)
          (behind_on opens steps old (seen ++ f.piece) reads.piece ((seen ++ f.piece) ++ reads.piece) version further new left refl told));
      at_end = reads.at_end;
    }

    pub follows_bad : (front : Front) (s : Stop) → ((old : S) (clock : ℕ) (slots : List ℕ) (a b : S) → opens old clock slots a → opens old clock slots b → a ≡ b)
        → ((old : S) (entry : Entry) (a b : S) → steps old entry a → steps old entry b → a ≡ b) → is_bad_stop s ≡ true → StopsAt steps version further new left s → IsBadAt s further left place front
        → RecoversOn opens steps held version old_place old_rest old_now new front
    follows_bad front s one_opening one_step bad at is old seen sees b =
        from_bad opens steps held old place (seen ++ f.piece) (f.sees seen sees) version further new left (on old (seen ++ f.piece) (f.behind old seen b)) front s one_opening one_step bad at is

    pub follows_whole : (s : Stop) (is_ended : Bool) → (s ≡ stop.End → is_ended ≡ true) → (s ≡ stop.NoLine → is_ended ≡ false) → is_bad_stop s ≡ false → ended ≡ true → StopsAt steps version further new left s
        → RecoversOn opens steps held version old_place old_rest old_now new (Whole version further (place - length left) is_ended)
    follows_whole stop.End is_ended ended_so open_so bad end at old seen sees b =
        subst (λ (e : Bool). RecoversFrom opens steps held old new (Whole version further (place - length left) e)) (sym (ended_so refl))
        (from_ended opens steps held old place (seen ++ f.piece) (f.sees seen sees) version further new left (on old (seen ++ f.piece) (f.behind old seen b)) at (f.at_end end))
    follows_whole stop.NoLine is_ended ended_so open_so bad end at old seen sees b =
        subst (λ (e : Bool). RecoversFrom opens steps held old new (Whole version further (place - length left) e)) (sym (open_so refl))
        (from_cut opens steps held old place (seen ++ f.piece) (f.sees seen sees) version further new left (on old (seen ++ f.piece) (f.behind old seen b)) at (f.at_end end))
    follows_whole stop.TextAfter is_ended ended_so open_so bad end at old seen sees b = absurd (not_both (sym bad))
    follows_whole stop.WrongLine is_ended ended_so open_so bad end at old seen sees b = absurd (not_both (sym bad))
    follows_whole stop.Refused is_ended ended_so open_so bad end at old seen sees b = absurd (not_both (sym bad))
