-- One more log of a chain.
use Rattle.std.proofs.Common.{◌≡◌, ◌≤◌, ℕ, ◌+◌, Bool, true, false, List, [], ◌∷◌, ◌++◌, map, length, count_by, Option, None, Result, Ok, Err, IfOk, IfErr, refl, sym, ap, ◌∙◌, subst, inl, inr, arith, add_assoc}
use Rattle.std.proofs.Math.Bool.{not}
use Rattle.std.proofs.Math.Seq.{take-length}
use Rattle.std.proofs.lemmas.Grind.{flat_map-append}
use Rattle.std.proofs.lemmas.List.{append-nil, append_assoc, length-append}
use Rattle.std.proofs.lemmas.List.Sums.{count_by-le-length}
use Rattle.wh_text.specs.Lines.{is_line_feed}
use Rattle.wh_lines.specs.Input.{Input}
use Rattle.wh_lines.specs.Section.{Sectioned}
use Rattle.wh_points.specs.Points.{Site}
use Rattle.wh_event.specs.declared.entry.Entry.{Entry}
use Rattle.wh_log.specs.Spelling.{entry_line}
use Rattle.wh_log.specs.Logs.{head_line, start_line}
use Rattle.wh_front.specs.declared.front.Front.{Front}
use Rattle.wh_edge.specs.declared.trouble.Trouble.{Trouble}
use Rattle.wh_edge.specs.declared.trouble.Trouble.TheVariants as trouble
use Rattle.wh_resume.specs.Behind.{entries_told}
use Rattle.wh_handover.specs.Handing.{HoldsFirst, HoldsLater, Tells, Told, text_to}
use Rattle.wh_handover.specs.Chains.{IsLink, IsWhyUnlinked}
use Rattle.wh_handover.specs.declared.chain.Linked.{Linked}
use Rattle.wh_handover.specs.declared.chain.LinkFault.{LinkFault}
use Rattle.wh_handover.specs.declared.chain.LinkFault.TheVariants as fault
use Rattle.wh_service.specs.Verifies.{IsWhyNoLog}
use Rattle.wh_service.specs.Chained.{AreLinked, Counts, IsReached, IsTally, IsWhyStopped, NextTold, ReadLogs, SaysOfEnd, SaysOfLast, StepsBy, StopsBy, TallyFault, entries_of, join_text, joins_text}
use Rattle.wh_service.specs.declared.chained.ChainVerdict.{ChainVerdict}
use Rattle.wh_service.specs.declared.chained.ChainVerdict.TheVariants.{Run, Bad}
use Rattle.wh_service.specs.declared.chained.Reached.{Reached}
use Rattle.wh_service.specs.declared.chained.Step.{Step}
use Rattle.wh_service.specs.declared.chained.Step.TheVariants as step
use Rattle.wh_service.specs.declared.chained.Tally.{Tally}

-- ---- how many lines a log may have
told_first : (site : Site) (text : List ℕ) (told : Told) → HoldsFirst site text told → (rest : List ℕ) × (text ≡ (told.head ++ entries_told told.entries) ++ rest)
told_first site text told h =
    let c = h.holds in
    let first : List (List ℕ) = head_line h.version ∷ start_line h.content.clock h.content.slots ∷ [] in
    let whole = flat_map-append (λ (line : List ℕ). line ++ 10 ∷ []) first (map entry_line h.content.entries) in
    (c.rest, subst (λ (t : Told). text ≡ (t.head ++ entries_told t.entries) ++ c.rest) (sym h.is) (c.text_is ∙ ap (λ (xs : List ℕ). xs ++ c.rest) whole))

told_later : (site : Site) (text : List ℕ) (told : Told) → HoldsLater site text told → (rest : List ℕ) × (text ≡ (told.head ++ entries_told told.entries) ++ rest)
told_later site text told h = (h.rest, subst (λ (t : Told). text ≡ (t.head ++ entries_told t.entries) ++ h.rest) (sym h.is) h.text_is)

told_in : (site : Site) (text : List ℕ) (told : Told) → Tells site text told → (rest : List ℕ) × (text ≡ (told.head ++ entries_told told.entries) ++ rest)
told_in site text told tells = elim tells.holds [ inl first ↦ told_first site text told first | inr later ↦ told_later site text told later ]

-- no more lines than it has bytes
pub lines_within : (site : Site) (before : Option Front) (text : List ℕ) (goes_on : Bool) (link : Linked) → IsLink site before text goes_on link → link.lines ≤ length text
lines_within site before text goes_on link is =
    let told = is.told in
    let parts = told_in site text told is.tells in
    let all : text_to (length told.entries) told ≡ told.head ++ entries_told told.entries = ap (λ (es : List Entry). told.head ++ entries_told es) (take-length told.entries) in
    let lines : link.lines ≡ count_by is_line_feed (told.head ++ entries_told told.entries) = is.lines_are ∙ ap (count_by is_line_feed) all in
    let few = count_by-le-length is_line_feed (told.head ++ entries_told told.entries) in
    let long : length text ≡ length (told.head ++ entries_told told.entries) + length parts.0 = ap length parts.1 ∙ length-append (told.head ++ entries_told told.entries) parts.0 in
    omega (arith, few, lines, long)

-- ---- a log more
read_more : (old between new : Input) (logs : List (List ℕ)) (log : List ℕ)
    → ReadLogs old between logs → Sectioned between new log → length log ≤ 268435456 → new.ended ≡ false → ReadLogs old new (logs ++ log ∷ [])
read_more old between new [] log read section within goes =
    subst (λ (i : Input). ReadLogs i new (log ∷ [])) read (new, section, within, goes, refl)
read_more old between new (first ∷ logs) log read section within goes =
    (read.0, read.1, read.2, read.3, read_more read.0 between new logs log read.4 section within goes)

linked_more : (site : Site) (before : Option Front) (logs : List (List ℕ)) (links : List Linked) (after : Option Front) (log : List ℕ) (link : Linked)
    → AreLinked site before logs links after → IsLink site after log true link → AreLinked site before (logs ++ log ∷ []) (links ++ link ∷ []) link.next
linked_more site before [] [] after log link are is = (subst (λ (due : Option Front). IsLink site due log true link) are is, refl)
linked_more site before (first ∷ logs) (one ∷ links) after log link are is = (are.0, linked_more site one.next logs links after log link are.1 is)
linked_more site before [] (one ∷ links) after log link are is = absurd are
linked_more site before (first ∷ logs) [] after log link are is = absurd are

entries_more : (links : List Linked) (link : Linked) → entries_of (links ++ link ∷ []) ≡ entries_of links + link.entries
entries_more [] link = omega arith
entries_more (one ∷ links) link = ap (λ (n : ℕ). one.entries + n) (entries_more links link) ∙ sym (add_assoc one.entries (entries_of links) link.entries)

joins_more : (log : ℕ) (links : List Linked) (link : Linked) → joins_text log (links ++ link ∷ []) ≡ joins_text log links ++ join_text (log + length links) link.joined
joins_more log [] link =
    append-nil (join_text log link.joined) ∙ ap (λ (n : ℕ). join_text n link.joined) (let e : log ≡ log + 0 = omega arith in e)
joins_more log (one ∷ links) link =
    let same : (log + 1) + length links ≡ log + length (one ∷ links) = omega arith in
    ap (λ (text : List ℕ). join_text log one.joined ++ text) (joins_more (log + 1) links link ∙ ap (λ (n : ℕ). joins_text (log + 1) links ++ join_text n link.joined) same)
    ∙ sym (append_assoc (join_text log one.joined) (joins_text (log + 1) links) (join_text (log + length (one ∷ links)) link.joined))

length_more : (links : List Linked) (link : Linked) → length (links ++ link ∷ []) ≡ length links + 1
length_more links link = length-append links (link ∷ [])

tally_more : (links : List Linked) (link : Linked) (tally more : Tally) → IsTally links tally → Counts tally link more → IsTally (links ++ link ∷ []) more
tally_more links link tally more is counts = record {
  logs_are = counts.logs_are ∙ ap (λ (n : ℕ). n + 1) is.logs_are ∙ sym (length_more links link);
  entries_are = counts.entries_are ∙ ap (λ (n : ℕ). n + link.entries) is.entries_are ∙ sym (entries_more links link);
  joins_are =
      let number : tally.logs + 1 ≡ 1 + length links = omega (arith, is.logs_are) in
      counts.joins_are ∙ ap (λ (text : List ℕ). text ++ join_text (tally.logs + 1) link.joined) is.joins_are
      ∙ ap (λ (n : ℕ). joins_text 1 links ++ join_text n link.joined) number ∙ sym (joins_more 1 links link);
}

-- ---- what comes of the next log
module _ (site : Site) (start old new : Input) (reached : Reached) (unended : Bool) (log : List ℕ) where
  -- it is a log of the chain behind them
  at_site : (goes_on : Bool) (link : Linked) → IsReached site start old reached → IsLink reached.setting reached.before log goes_on link → IsLink site reached.before log goes_on link
  at_site goes_on link is linked = subst (λ (x : Site). IsLink x reached.before log goes_on link) is.setting_is linked

  next_on : (link : Linked) (on : Reached) → IsReached site start old reached → Sectioned old new log → length log ≤ 268435456 → new.ended ≡ false → IsLink reached.setting reached.before log true link
      → (on.setting ≡ link.setting) × (on.before ≡ link.next) × Counts reached.tally link on.tally → NextTold site start new unended reached.tally.logs (step.On on)
  next_on link on is section within goes linked came =
      let here = at_site true link is linked in (
        record {
          links = is.links ++ link ∷ [];
          read = record {
            logs = is.read.logs ++ log ∷ [];
            read = read_more start old new is.read.logs log is.read.read section within goes;
            linked = subst (λ (due : Option Front). AreLinked site None (is.read.logs ++ log ∷ []) (is.links ++ link ∷ []) due) (sym came.1)
                (linked_more site None is.read.logs is.links reached.before log link is.read.linked here);
          };
          setting_is = came.0 ∙ here.setting_is;
          tally = tally_more is.links link reached.tally on.tally is.tally came.2;
        },
        came.2.logs_are,
      )

  says_end : (link : Linked) (verdict : ChainVerdict) (joins : List ℕ) (is : IsReached site start old reached) → Sectioned old new log → length log ≤ 268435456 → new.ended ≡ true → IsLink reached.setting reached.before log false link
      → SaysOfEnd reached.tally link unended verdict joins → SaysOfLast site is.links reached.before old new unended verdict joins
  says_end link (Run entries is_ended) joins is section within ends linked says = (
    link,
    record { log = log; section = section; within = within; last = ends; is = at_site false link is linked; may = says.0 },
    says.1 ∙ ap (λ (n : ℕ). n + link.entries) is.tally.entries_are,
    says.2,
    says.3 ∙ ap (λ (text : List ℕ). text ++ join_text (reached.tally.logs + 1) link.joined) is.tally.joins_are
        ∙ ap (λ (n : ℕ). joins_text 1 is.links ++ join_text (n + 1) link.joined) is.tally.logs_are,
  )
  says_end link (Bad bad line) joins is section within ends linked says = (
    says.2 ∙ ap (λ (n : ℕ). n + 1) is.tally.logs_are,
    says.4 ∙ is.tally.joins_are,
    inr (record {
      log = log;
      section = section;
      within = within;
      last = ends;
      link = link;
      is = at_site false link is linked;
      lacks = says.0;
      must = says.1;
      line_is = says.3;
    }),
  )

  says_broken : (line : ℕ) (verdict : ChainVerdict) (joins : List ℕ) (is : IsReached site start old reached) → Sectioned old new log → length log ≤ 268435456 → IsWhyUnlinked reached.setting reached.before log (fault.Bad line)
      → verdict ≡ Bad (reached.tally.logs + 1) line → joins ≡ reached.tally.joins.items → SaysOfLast site is.links reached.before old new unended verdict joins
  says_broken line verdict joins is section within why told same =
      subst (λ (v : ChainVerdict). SaysOfLast site is.links reached.before old new unended v joins) (sym told) (
        ap (λ (n : ℕ). n + 1) is.tally.logs_are,
        same ∙ is.tally.joins_are,
        inl (record { log = log; section = section; within = within; why = subst (λ (x : Site). IsWhyUnlinked x reached.before log (fault.Bad line)) is.setting_is why }),
      )

  -- the log goes on or ends, as the input does behind it
  pub next_told : (found : Result Linked LinkFault) (ended : Bool) (came : Step) → IsReached site start old reached → Sectioned old new log → length log ≤ 268435456 → ended ≡ new.ended
      → IfOk found (IsLink reached.setting reached.before log (not ended)) → IfErr found (IsWhyUnlinked reached.setting reached.before log)
      → StepsBy reached.tally found (not ended) unended came → NextTold site start new unended reached.tally.logs came
  next_told (Ok link) false (step.On on) is section within ends ok err came = next_on link on is section within (sym ends) ok came
  next_told (Ok link) true (step.Told told) is section within ends ok err came = record {
    links = is.links;
    before = reached.before;
    between = old;
    read = is.read;
    says = says_end link told.verdict told.joins.items is section within (sym ends) ok came;
  }
  next_told (Err (fault.Bad line)) ended (step.Told told) is section within ends ok err came = record {
    links = is.links;
    before = reached.before;
    between = old;
    read = is.read;
    says = says_broken line told.verdict told.joins.items is section within err came.0 came.1;
  }
  next_told (Ok link) true (step.On on) is section within ends ok err came = absurd came
  next_told (Ok link) false (step.Told told) is section within ends ok err came = absurd came
  next_told (Err (fault.Bad line)) ended (step.On on) is section within ends ok err came = absurd came
  next_told (Err fault.NoMemory) ended came is section within ends ok err none = absurd none

  -- with the log there are too many entries
  overcounts : (told : Trouble) (link : Linked) (goes_on : Bool) → IsReached site start old reached → Sectioned old new log → length log ≤ 268435456 → IsLink reached.setting reached.before log goes_on link
      → TallyFault (reached.tally.entries + link.entries) told → IsWhyStopped told site start new
  overcounts trouble.SectionTooLong link goes_on is section within linked over = record {
    links = is.links;
    before = reached.before;
    between = old;
    read = is.read;
    why = inr (
      refl,
      inr (record {
        log = log;
        section = section;
        within = within;
        goes_on = goes_on;
        link = link;
        is = at_site goes_on link is linked;
        over = omega (arith, over, is.tally.entries_are);
      }),
    );
  }
  overcounts trouble.NoMemory link goes_on is section within linked over = record { links = is.links; before = reached.before; between = old; read = is.read; why = inl tt }
  overcounts told link goes_on is section within linked over = absurd over

  pub next_stopped : (told : Trouble) (found : Result Linked LinkFault) (goes_on : Bool) → IsReached site start old reached → Sectioned old new log → length log ≤ 268435456
      → IfOk found (IsLink reached.setting reached.before log goes_on) → StopsBy reached.tally found told → IsWhyStopped told site start new
  next_stopped told (Ok link) goes_on is section within ok stops = overcounts told link goes_on is section within ok stops
  next_stopped told (Err found) goes_on is section within ok stops = record {
    links = is.links;
    before = reached.before;
    between = old;
    read = is.read;
    why = inl (subst (λ (t : Trouble). IsWhyNoLog t old new) (sym stops) tt);
  }

-- ---- for a caller, whatever came
pub found_within : (site : Site) (before : Option Front) (text : List ℕ) (goes_on : Bool) (found : Result Linked LinkFault) → IfOk found (IsLink site before text goes_on) → length text ≤ 268435456
    → IfOk found (λ link. link.lines ≤ 268435456)
found_within site before text goes_on (Ok link) is within = omega (arith, lines_within site before text goes_on link is)
found_within site before text goes_on (Err found) is within = tt

pub next_ok : (old new : Input) (reached : Reached) (unended : Bool) (log : List ℕ) (found : Result Linked LinkFault) (ended : Bool) (came : Result Step Trouble)
    → Sectioned old new log → length log ≤ 268435456 → ended ≡ new.ended
    → IfOk found (IsLink reached.setting reached.before log (not ended)) → IfErr found (IsWhyUnlinked reached.setting reached.before log)
    → IfOk came (StepsBy reached.tally found (not ended) unended)
    → IfOk came (λ step. (site : Site) (start : Input) → IsReached site start old reached → NextTold site start new unended reached.tally.logs step)
next_ok old new reached unended log found ended (Ok came) section within ends ok err steps =
    λ site start is. next_told site start old new reached unended log found ended came is section within ends ok err steps
next_ok old new reached unended log found ended (Err told) section within ends ok err steps = tt

pub next_err : (old new : Input) (reached : Reached) (unended : Bool) (log : List ℕ) (found : Result Linked LinkFault) (goes_on : Bool) (came : Result Step Trouble)
    → Sectioned old new log → length log ≤ 268435456 → IfOk found (IsLink reached.setting reached.before log goes_on) → IfErr came (StopsBy reached.tally found)
    → IfErr came (λ told. (site : Site) (start : Input) → IsReached site start old reached → IsWhyStopped told site start new)
next_err old new reached unended log found goes_on (Ok came) section within ok stops = tt
next_err old new reached unended log found goes_on (Err told) section within ok stops =
    λ site start is. next_stopped site start old new reached unended log told found goes_on is section within ok stops
