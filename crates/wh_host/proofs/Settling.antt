-- What the journal holds of the history that the clients left.
use Rattle.std.proofs.Common.{◌≡◌, ℕ, zero, suc, ◌≤◌, ◌-◌, List, [], ◌∷◌, ◌++◌, length, take, drop, refl, ap, sym, ◌∙◌, inl, arith, subst, Option, None, Some, Bool, true, false}
use Rattle.std.proofs.lemmas.List.{take_all, length-append}
use Rattle.std.proofs.Math.Seq.{take-append_seam}
use Rattle.std.proofs.lemmas.Option.{same_Some}
use Rattle.std.specs.Io.KnownBytes.{Appends}
use mathlib.Core.List.{IsPrefix}
use Rattle.wh_desk.specs.Drafts.{Seen}
use Rattle.wh_event.specs.declared.entry.Entry.{Entry}
use Rattle.wh_lines.specs.Output.{WritesFront}
use Rattle.wh_lines.proofs.Written.{front_first}
use Rattle.wh_journal.specs.Journals.{lines_for}
use Rattle.wh_replay.proofs.Appended.{lines_append}
use Rattle.wh_scribe.specs.Keeping.{Holds}
use Rattle.wh_scribe.proofs.Keeping.{same_take}
use Rattle.wh_journal.specs.Surviving.{HoldsLog}
use Rattle.wh_host.specs.Runs.{IsJournalOf, first_lines}

rest_behind : {A : Type 0} (xs rest : List A) (k : ℕ) → k ≤ length xs → drop k (xs ++ rest) ≡ drop k xs ++ rest
rest_behind xs rest zero few = refl
rest_behind [] rest (suc k) few = absurd (omega (arith, few))
rest_behind (x ∷ xs) rest (suc k) few = rest_behind xs rest k (omega (arith, few))

front_of_more : (a b : Option (List ℕ)) (xs ys more : List Entry) → ys ≡ xs ++ more → WritesFront a b (lines_for xs) → WritesFront a b (lines_for ys)
front_of_more a b xs ys more e w =
    subst (WritesFront a b) (sym (ap lines_for e ∙ lines_append xs more)) (front_first a b (lines_for xs) (lines_for more) w)

-- a journal that holds a beginning of what was known holds one of all that was done
holds_more : (failed : Bool) (start now : Option (List ℕ)) (known history : List Entry) (written : ℕ) → IsPrefix known history → written ≤ length known → written ≤ length history
    → Holds failed start now known written → Holds failed start now history written
holds_more false start now known history written begins within within' h =
    subst (λ (l : List Entry). Appends start now (lines_for l)) (same_take known history written (inl begins) within within') h
holds_more true start now known history written begins within within' h =
    record {
      whole = h.whole;
      lines = subst (λ (l : List Entry). Appends start h.whole (lines_for l)) (same_take known history written (inl begins) within within') h.lines;
      front = front_of_more h.whole now (drop written known) (drop written history) begins.0 (ap (λ (l : List Entry). drop written l) (sym begins.1) ∙ rest_behind known begins.0 written within) h.front;
    }

all_of : (start now : Option (List ℕ)) (known history : List Entry) (count : ℕ) → IsPrefix known history → count ≤ length known → count ≡ length history
    → Appends start now (lines_for (take count known)) → Appends start now (lines_for history)
all_of start now known history count begins within all p =
    subst (λ (l : List Entry). Appends start now (lines_for l)) (same_take known history count (inl begins) within (omega (arith, all)) ∙ take_all count history (omega (arith, all))) p

open_holds : (failed : Bool) (start now : Option (List ℕ)) (known : List Entry) (written : ℕ) → failed ≡ false → Holds failed start now known written → Appends start now (lines_for (take written known))
open_holds false start now known written e h = h
open_holds true start now known written e h = absurd (cc (e))

pub journal_is : (start now synced : Option (List ℕ)) (known history : List Entry) (written safe : ℕ) (failed is_whole : Bool) → IsPrefix known history
    → written ≤ length known → Holds failed start now known written → safe ≤ written → Appends start synced (lines_for (take safe known))
    → (is_whole ≡ true → (failed ≡ false) × (written ≡ length history) × (safe ≡ length history))
    → IsJournalOf start now synced history is_whole
journal_is start now synced known history written safe failed is_whole begins within h safe_within outlives whole =
    let long : length known ≤ length history = omega (arith, ap length begins.1, length-append known begins.0) in
    record {
      written = written;
      within = omega (arith, within, long);
      failed = failed;
      holds = holds_more failed start now known history written begins within (omega (arith, within, long)) h;
      whole = λ is. (let w = whole is in all_of start now known history written begins within w.1 (open_holds failed start now known written w.0 h));
      safe = λ is. (let w = whole is in all_of start synced known history safe begins (omega (arith, safe_within, within)) w.2 outlives);
    }

pub front_before : (head more : List ℕ) → take (length (head ++ more) - length more) (head ++ more) ≡ head
front_before head more =
    let all : length (head ++ more) - length more ≡ length head = omega (arith, length-append head more) in
    ap (λ (n : ℕ). take n (head ++ more)) all ∙ take-append_seam head more

-- a journal that is the book's log has the lines of its entries behind what stands before them
pub log_begun : (journal : Option (List ℕ)) (book : Seen) → HoldsLog journal book → Appends (first_lines journal book) journal (lines_for book.history)
log_begun None book h = tt
log_begun (Some text) book h =
    let text_is : text ≡ h.head ++ lines_for book.history = same_Some _ _ h.journal_is in
    let first : take (length text - length (lines_for book.history)) text ≡ h.head = ap (λ (t : List ℕ). take (length t - length (lines_for book.history)) t) text_is ∙ front_before h.head (lines_for book.history) in
    text_is ∙ ap (λ (t : List ℕ). t ++ lines_for book.history) (sym first)
