-- What a whole run of `verify --chain` does.
use Rattle.std.specs.Prelude.{◌≡◌, ◌⊎◌, ℕ, ◌+◌, ◌≤◌, ◌^◌, Bool, true, false, List, [], ◌∷◌, ◌++◌, codes, decimal, length, Option, Some, None, Result, Ok, Err}
use Rattle.std.specs.Io.KnownBytes.{Appends, Keeps}
use Rattle.wh_lines.specs.Input.{Input}
use Rattle.wh_lines.specs.Output.{WritesFront}
use Rattle.wh_lines.specs.Section.{Sectioned}
use Rattle.wh_points.specs.Points.{Site}
use Rattle.wh_edge.specs.Site.{SiteFault, SiteRuled}
use Rattle.wh_edge.specs.declared.trouble.Trouble.{Trouble}
use Rattle.wh_edge.specs.declared.trouble.Trouble.TheVariants as trouble
use Rattle.wh_edge.specs.declared.trouble.Status.{Status}
use Rattle.wh_edge.specs.declared.trouble.Status.TheVariants as status
use Rattle.wh_front.specs.declared.front.Front.{Front}
use Rattle.wh_front.specs.declared.rules.Kind.{Kind}
use Rattle.wh_front.specs.declared.rules.Kind.TheVariants as kind
use Rattle.wh_handover.specs.Chains.{IsLink, IsWhyUnlinked}
use Rattle.wh_handover.specs.declared.chain.Linked.{Linked}
use Rattle.wh_handover.specs.declared.chain.LinkFault.{LinkFault}
use Rattle.wh_handover.specs.declared.chain.LinkFault.TheVariants as fault
use Rattle.wh_options.specs.declared.chosen.VerifyOptions.{VerifyOptions}
use Rattle.wh_service.specs.Verifies.{IsWhyNoLog, unended_text}
use Rattle.wh_service.specs.declared.chained.ChainVerdict.{ChainVerdict}
use Rattle.wh_service.specs.declared.chained.ChainVerdict.TheVariants.{Run, Bad}
use Rattle.wh_service.specs.declared.chained.ChainTold.{ChainTold}
use Rattle.wh_service.specs.declared.chained.Tally.{Tally}
use Rattle.wh_service.specs.declared.chained.Reached.{Reached}
use Rattle.wh_service.specs.declared.chained.Step.{Step}
use Rattle.wh_service.specs.declared.chained.Step.TheVariants as step

-- ---- what was read
-- logs were read, each a section with another behind it
abbrev pub ReadLogs : Input → Input → List (List ℕ) → Type 0
ReadLogs old new [] = new ≡ old
ReadLogs old new (log ∷ logs) =
    (between : Input) × Sectioned old between log × (length log ≤ 268435456) × (between.ended ≡ false) × ReadLogs between new logs

-- each log goes on from the one before, and this front is due behind the last
abbrev pub AreLinked : Site → (before : Option Front) → (logs : List (List ℕ)) → List Linked → (after : Option Front) → Type 0
AreLinked site before [] [] after = after ≡ before
AreLinked site before (log ∷ logs) (link ∷ links) after = IsLink site before log true link × AreLinked site link.next logs links after
AreLinked site before logs links after = ⊥

-- the first logs of a chain were read, and another follows
pub record ChainRead (site : Site) (old new : Input) (links : List Linked) (after : Option Front) : Type 0 where
  pub logs : List (List ℕ)
  pub read : ReadLogs old new logs
  pub linked : AreLinked site None logs links after

-- ---- what is said of it
-- how many entries they have together
abbrev pub entries_of : List Linked → ℕ
entries_of [] = 0
entries_of (link ∷ links) = link.entries + entries_of links

-- of what kind the state is with which a log begins; nothing where it is the very state to which the log before led
abbrev pub join_text : (log : ℕ) → Option Kind → List ℕ
join_text log None = []
join_text log (Some kind.Whole) = []
join_text log (Some kind.Stopped) = codes "stopped " ++ decimal log ++ 10 ∷ []
join_text log (Some kind.Edited) = codes "edited " ++ decimal log ++ 10 ∷ []

-- of the logs from this number on
abbrev pub joins_text : (log : ℕ) → List Linked → List ℕ
joins_text log [] = []
joins_text log (link ∷ links) = join_text log link.joined ++ joins_text (log + 1) links

abbrev pub verdict_text : ChainVerdict → List ℕ
verdict_text (Run entries is_ended) = codes "run " ++ decimal entries ++ unended_text is_ended ++ 10 ∷ []
verdict_text (Bad log line) = codes "bad " ++ decimal log ++ codes " " ++ decimal line ++ 10 ∷ []

abbrev pub chain_text : ChainTold → List ℕ
chain_text told = told.joins.items ++ verdict_text told.verdict

-- The last log goes on too, up to the end of the input; it has its last line, or may lack it.
pub record LastRuns (site : Site) (before : Option Front) (old new : Input) (unended : Bool) (link : Linked) : Type 0 where
  pub log : List ℕ
  pub section : Sectioned old new log
  pub within : length log ≤ 268435456
  pub last : new.ended ≡ true
  pub is : IsLink site before log false link
  pub may : unended ≡ false → link.is_ended ≡ true

-- the next log does not go on, with this line
pub record NextBreaks (site : Site) (before : Option Front) (old new : Input) (line : ℕ) : Type 0 where
  pub log : List ℕ
  pub section : Sectioned old new log
  pub within : length log ≤ 268435456
  pub why : IsWhyUnlinked site before log (fault.Bad line)

-- the last log lacks its last line, which would be this one, and may not
pub record LastLacks (site : Site) (before : Option Front) (old new : Input) (unended : Bool) (line : ℕ) : Type 0 where
  pub log : List ℕ
  pub section : Sectioned old new log
  pub within : length log ≤ 268435456
  pub last : new.ended ≡ true
  pub link : Linked
  pub is : IsLink site before log false link
  pub lacks : link.is_ended ≡ false
  pub must : unended ≡ false
  pub line_is : line ≡ link.lines + 1

-- what is said behind the first logs of a chain
abbrev pub SaysOfLast : Site → (links : List Linked) → (before : Option Front) → (old new : Input) → (unended : Bool) → ChainVerdict → (joins : List ℕ) → Type 0
SaysOfLast site links before old new unended (Run entries is_ended) joins =
    (link : Linked) × LastRuns site before old new unended link × (entries ≡ entries_of links + link.entries) × (is_ended ≡ link.is_ended)
    × (joins ≡ joins_text 1 links ++ join_text (length links + 1) link.joined)
SaysOfLast site links before old new unended (Bad log line) joins =
    (log ≡ length links + 1) × (joins ≡ joins_text 1 links) × (NextBreaks site before old new line ⊎ LastLacks site before old new unended line)

-- What is said of the logs that follow in the input.
pub record IsTold (site : Site) (old new : Input) (unended : Bool) (told : ChainTold) : Type 0 where
  pub links : List Linked
  pub before : Option Front
  pub between : Input
  pub read : ChainRead site old between links before
  pub says : SaysOfLast site links before between new unended told.verdict told.joins.items

-- ---- what is counted on the way
-- so much is counted of logs
pub record IsTally (links : List Linked) (tally : Tally) : Type 0 where
  pub logs_are : tally.logs ≡ length links
  pub entries_are : tally.entries ≡ entries_of links
  pub joins_are : tally.joins.items ≡ joins_text 1 links

-- a log more is counted
pub record Counts (tally : Tally) (link : Linked) (more : Tally) : Type 0 where
  pub logs_are : more.logs ≡ tally.logs + 1
  pub entries_are : more.entries ≡ tally.entries + link.entries
  pub joins_are : more.joins.items ≡ tally.joins.items ++ join_text (tally.logs + 1) link.joined

-- why a log more was not counted, with which there were so many entries; when out of memory, nothing more is said
abbrev pub TallyFault : (entries : ℕ) → Trouble → Type 0
TallyFault entries trouble.SectionTooLong = 2 ^ 64 ≤ entries
TallyFault entries trouble.NoMemory = Unit {0}
TallyFault entries _ = ⊥

-- what is said with the last log behind those counted: that it lacks its last line, and may not; or that all are a run
abbrev pub SaysOfEnd : Tally → Linked → (unended : Bool) → ChainVerdict → (joins : List ℕ) → Type 0
SaysOfEnd tally link unended (Run entries is_ended) joins =
    (unended ≡ false → link.is_ended ≡ true) × (entries ≡ tally.entries + link.entries) × (is_ended ≡ link.is_ended)
    × (joins ≡ tally.joins.items ++ join_text (tally.logs + 1) link.joined)
SaysOfEnd tally link unended (Bad log line) joins =
    (link.is_ended ≡ false) × (unended ≡ false) × (log ≡ tally.logs + 1) × (line ≡ link.lines + 1) × (joins ≡ tally.joins.items)

-- what comes of a log that was found to be so, behind those counted
abbrev pub StepsBy : Tally → Result Linked LinkFault → (goes_on unended : Bool) → Step → Type 0
StepsBy tally (Ok link) true unended (step.On on) = (on.setting ≡ link.setting) × (on.before ≡ link.next) × Counts tally link on.tally
StepsBy tally (Ok link) false unended (step.Told told) = SaysOfEnd tally link unended told.verdict told.joins.items
StepsBy tally (Err (fault.Bad line)) goes_on unended (step.Told told) = (told.verdict ≡ Bad (tally.logs + 1) line) × (told.joins.items ≡ tally.joins.items)
StepsBy tally found goes_on unended came = ⊥

-- why nothing comes of it
abbrev pub StopsBy : Tally → Result Linked LinkFault → Trouble → Type 0
StopsBy tally (Ok link) told = TallyFault (tally.entries + link.entries) told
StopsBy tally (Err found) told = told ≡ trouble.NoMemory

-- the first logs of a chain were read, and counted, and so the next is due
pub record IsReached (site : Site) (old new : Input) (reached : Reached) : Type 0 where
  pub links : List Linked
  pub read : ChainRead site old new links reached.before
  pub setting_is : reached.setting ≡ site
  pub tally : IsTally links reached.tally

-- the next log was read too, behind so many: another follows, and they are one more; or it decides
abbrev pub NextTold : Site → (old new : Input) → (unended : Bool) → (logs : ℕ) → Step → Type 0
NextTold site old new unended logs (step.On on) = IsReached site old new on × (on.tally.logs ≡ logs + 1)
NextTold site old new unended logs (step.Told told) = IsTold site old new unended told

-- ---- what is written of it
-- a verdict other than a run is told by status 1
abbrev pub status_of_chain : ChainVerdict → Status
status_of_chain (Run entries is_ended) = status.Done
status_of_chain (Bad log line) = status.Refused

-- A site and the logs were read, and what is said of them stands behind what was written.
pub record Chains (options : VerifyOptions) (old new : Input) (had has : Option (List ℕ)) (ended : Status) : Type 0 where
  pub site : Site
  pub between : Input
  pub site_read : SiteRuled options.homes old between site
  pub told : ChainTold
  pub is : IsTold site between new options.unended told
  pub appends : Appends had has (chain_text told)
  pub ended_is : ended ≡ status_of_chain told.verdict

-- they were read, and of what is said of them a front was written
pub record ChainsUnwritten (options : VerifyOptions) (old new : Input) (had has : Option (List ℕ)) : Type 0 where
  pub site : Site
  pub between : Input
  pub site_read : SiteRuled options.homes old between site
  pub told : ChainTold
  pub is : IsTold site between new options.unended told
  pub front : WritesFront had has (chain_text told)

-- the next log goes on too, and with it there are 2^64 entries or more
pub record Overcounts (site : Site) (links : List Linked) (before : Option Front) (old new : Input) : Type 0 where
  pub log : List ℕ
  pub section : Sectioned old new log
  pub within : length log ≤ 268435456
  pub goes_on : Bool
  pub link : Linked
  pub is : IsLink site before log goes_on link
  pub over : 2 ^ 64 ≤ entries_of links + link.entries

-- as many logs were read as a chain may have, and another follows; or they have too many entries
abbrev pub IsTooLong : Site → List Linked → (before : Option Front) → (old new : Input) → Type 0
IsTooLong site links before old new = ((new ≡ old) × (length links ≡ 999999999)) ⊎ Overcounts site links before old new

-- the first logs of a chain were read, and this is wrong then: the next section, or how much there is
pub record IsWhyStopped (told : Trouble) (site : Site) (old new : Input) : Type 0 where
  pub links : List Linked
  pub before : Option Front
  pub between : Input
  pub read : ChainRead site old between links before
  pub why : IsWhyNoLog told between new ⊎ ((told ≡ trouble.SectionTooLong) × IsTooLong site links before between new)

-- Why nothing was told: there is no site, or the logs were not read, or memory ran out, and nothing is written; or what is said was not
-- written to its end.
abbrev pub IsWhyUnchained : VerifyOptions → Trouble → Input → Input → Option (List ℕ) → Option (List ℕ) → Type 0
IsWhyUnchained options trouble.Unwritten old new had has = ChainsUnwritten options old new had has
IsWhyUnchained options trouble.NoMemory old new had has = Keeps had has
IsWhyUnchained options told old new had has =
    (SiteFault options.homes told old new ⊎ ((site : Site) × (between : Input) × SiteRuled options.homes old between site × IsWhyStopped told site between new))
    × Keeps had has
