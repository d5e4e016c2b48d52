-- The file is the log of the whole run.
use Rattle.std.proofs.Common.{◌≡◌, Bool, true, false, List, [], ◌∷◌, ℕ, append-nil, map, length, inl, inr, refl, sym, ap, ◌∙◌, subst, Option, None, Some, Result, Ok, Err}
use Rattle.std.specs.Prelude.{IfErr, IfSome}
use Rattle.std.specs.Io.KnownBytes.{Appends}
use Rattle.wh_lines.specs.Output.{WritesFront}
use Rattle.wh_core.specs.States.{State}
use Rattle.wh_restore.specs.Heads.{IsHeadOf}
use Rattle.wh_desk.specs.Drafts.{Seen}
use Rattle.wh_desk.specs.Pasts.{Origin, origin_of}
use Rattle.wh_journal.specs.Journals.{lines_for}
use Rattle.wh_journal.specs.Surviving.{IsLogOfBook, StaysLog}
use Rattle.wh_continue.specs.Running.{EndsShort, IsKeptLog}
use Rattle.wh_continue.specs.declared.running.KeepFault.{KeepFault}
use Rattle.wh_continue.specs.declared.running.KeepFault.TheVariants as kept
use Rattle.wh_continue.proofs.Begun.{ended, front_whole}
use Rattle.wh_edge.specs.declared.trouble.Trouble.{Trouble}
use Rattle.wh_host.specs.Runs.{IsJournalOf, first_lines}
use Rattle.wh_host.proofs.Settling.{front_before}
use Rattle.wh_attend.specs.Attends.{HoldsRun, LeavesRun, ending_of}

-- what stands before the entries tells the state with which the run goes on
same_head : (book final : Seen) (head : List ℕ) → origin_of final ≡ origin_of book → IsHeadOf book.opening head → IsHeadOf final.opening head
same_head book final head origin is = subst (λ (s : State). IsHeadOf s head) (sym (ap (λ (o : Origin). o.opening) origin)) is

-- behind what stands before the entries of a log come the lines of the whole history
begun_by : (now : Option (List ℕ)) (final : Seen) (head : List ℕ) → IsHeadOf final.opening head → Appends (Some head) now (lines_for final.history) → IsLogOfBook now final
begun_by None final head is wrote = absurd wrote
begun_by (Some bytes) final head is wrote = record { head = head; is_head = is; journal_is = ap (λ (l : List ℕ). Some l) wrote }

-- what a file that was begun holds before the lines of the entries
first_are : (text : List ℕ) (begun : Option (List ℕ)) (book : Seen) (log : StaysLog (Some text) begun book) → first_lines begun book ≡ Some log.head
first_are text begun book log =
    ap (λ (b : Option (List ℕ)). first_lines b book) log.journal_is ∙ ap (λ (l : List ℕ). Some l) (front_before log.head (lines_for book.history))

-- through all: the file was begun, the lines of the whole history were written behind what stands before them, and it was ended where the
-- run is closed
pub whole_log : (file begun now holds : Option (List ℕ)) (book final : Seen) → StaysLog file begun book → origin_of final ≡ origin_of book
    → Appends (first_lines begun book) now (lines_for final.history) → Appends now holds (ending_of final) → IfSome file (λ (_ : List ℕ). IsKeptLog holds final)
whole_log None begun now holds book final stays origin wrote ends = tt
whole_log (Some text) begun now holds book final stays origin wrote ends =
    ended now holds final (begun_by now final stays.head (same_head book final stays.head origin stays.is_head)
    (subst (λ (b : Option (List ℕ)). Appends b now (lines_for final.history)) (first_are text begun book stays) wrote)) ends

-- what is left of the journal of a run is what is left of the run
pub run_left : (told : Trouble) (file begun now synced : Option (List ℕ)) (left : Option (Option (List ℕ))) (book final : Seen) (is_whole : Bool) → StaysLog file begun book → origin_of final ≡ origin_of book
    → IsJournalOf (first_lines begun book) now synced final.history is_whole → LeavesRun is_whole told (ending_of final) now left → HoldsRun told file final left
run_left told None begun now synced left book final is_whole stays origin journal leaves = tt
run_left told (Some text) begun now synced left book final is_whole stays origin journal (holds, given, inl (whole, front)) = (
  holds,
  given,
  inl (
    now,
    begun_by now final stays.head (same_head book final stays.head origin stays.is_head)
        (subst (λ (b : Option (List ℕ)). Appends b now (lines_for final.history)) (first_are text begun book stays) (journal.whole whole)),
    front,
  ),
)
run_left told (Some text) begun now synced left book final is_whole stays origin journal (holds, given, inr (short, failed, same)) = (
  holds,
  given,
  inr (
    failed,
    record {
      head = stays.head;
      is_head = same_head book final stays.head origin stays.is_head;
      synced = synced;
      journal = subst (λ (b : Option (List ℕ)). IsJournalOf b holds synced final.history false) (first_are text begun book stays)
          (subst (λ (h : Option (List ℕ)). IsJournalOf (first_lines begun book) h synced final.history false) (sym same)
          (subst (λ (w : Bool). IsJournalOf (first_lines begun book) now synced final.history w) short journal));
    },
  ),
)

-- nothing of it was written
unwritten : (had : Option (List ℕ)) (bytes : List ℕ) → WritesFront had had bytes
unwritten None bytes = record { count = 0; appends = tt }
unwritten (Some held) bytes = record { count = 0; appends = sym (append-nil held) }

pub end_short : (fault : KeepFault) (ending : List ℕ) (file holds synced safe : Option (List ℕ)) (failed : Bool) → EndsShort fault ending file holds synced safe failed → WritesFront file holds ending
end_short kept.NoMemory ending file holds synced safe failed short = subst (λ (h : Option (List ℕ)). WritesFront file h ending) (sym short.0) (unwritten file ending)
end_short kept.Unkept ending file holds synced safe failed short = short.0

pub if_err : {T E : Type 0} (r : Result T E) (P Q : E → Type 0) → IfErr r P → ((e : E) → P e → Q e) → IfErr r Q
if_err (Ok x) P Q p f = tt
if_err (Err e) P Q p f = f e p

-- a journal that was whole goes back with a front of what ends its log, or all of it
pub front_left : (told : Trouble) (ending : List ℕ) (is_whole : Bool) (journal holds : Option (List ℕ)) → is_whole ≡ true → WritesFront journal holds ending → LeavesRun is_whole told ending journal (Some holds)
front_left told ending is_whole journal holds whole front = (holds, refl, inl (whole, front))

pub all_left : (told : Trouble) (ending : List ℕ) (is_whole : Bool) (journal holds : Option (List ℕ)) → is_whole ≡ true → Appends journal holds ending → LeavesRun is_whole told ending journal (Some holds)
all_left told ending is_whole journal holds whole ends = front_left told ending is_whole journal holds whole (front_whole journal holds ending ends)
