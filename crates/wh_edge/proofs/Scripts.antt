-- A script that was read so far.
use Rattle.std.proofs.Common.{◌≡◌, ◌+◌, ℕ, List, [], ◌∷◌, ◌++◌, length, refl, sym, ap, ap₂, ◌∙◌, subst, Option, Ok, Err, true, append_assoc, append-nil}
use Rattle.std.specs.Prelude.{is_ok}
use Rattle.std.proofs.lemmas.Grind.{flat_map-append}
use Rattle.std.proofs.lemmas.List.{length-append}
use Rattle.wh_text.specs.Lines.{Unread}
use Rattle.wh_event.specs.CommandLines.{command_of}
use Rattle.wh_event.specs.declared.event.Command.{Command}
use Rattle.wh_event.specs.declared.fault.LineFault.{LineFault}
use Rattle.wh_edge.specs.Script.{AreCommands, IsFirstFault, IsScript, command_in, commands_in}

-- the lines before what is left are commands or skipped, and these are their commands
pub record Reads (lines : List (List ℕ)) (left : Unread) (commands : List Command) : Type 0 where
  pub read : List (List ℕ)
  pub split : lines ≡ read ++ left.lines
  pub counts : left.count ≡ length read
  pub well : AreCommands read
  pub commands_are : commands ≡ commands_in read

pub reads_start : (lines : List (List ℕ)) → Reads lines (record { lines = lines; count = 0 }) []
reads_start lines = record { read = []; split = refl; counts = refl; well = tt; commands_are = refl }

all_append : (read : List (List ℕ)) (line : List ℕ) → AreCommands read → is_ok (command_of line) ≡ true → AreCommands (read ++ line ∷ [])
all_append [] line all ok = (ok, tt)
all_append (x ∷ xs) line all ok = (all.0, all_append xs line all.1 ok)

one_more : (read : List (List ℕ)) (line : List ℕ) → commands_in (read ++ line ∷ []) ≡ commands_in read ++ command_in (command_of line)
one_more read line = flat_map-append (λ l. command_in (command_of l)) read (line ∷ []) ∙ ap (λ cs. commands_in read ++ cs) (append-nil (command_in (command_of line)))

-- one line more
pub reads_line : (lines : List (List ℕ)) (left next : Unread) (line : List ℕ) (o : Option Command) (commands more : List Command) → Reads lines left commands
    → left.lines ≡ line ∷ next.lines → next.count ≡ left.count + 1 → command_of line ≡ Ok o → more ≡ commands ++ command_in (Ok o) → Reads lines next more
reads_line lines left next line o commands more r cut count said is = record {
  read = r.read ++ line ∷ [];
  split = r.split ∙ ap (λ ls. r.read ++ ls) cut ∙ sym (append_assoc r.read (line ∷ []) next.lines);
  counts = count ∙ ap (λ n. n + 1) r.counts ∙ sym (length-append r.read (line ∷ []));
  well = all_append r.read line r.well (ap is_ok said);
  commands_are = is ∙ ap₂ (λ a b. a ++ b) r.commands_are (ap command_in (sym said)) ∙ sym (one_more r.read line);
}

pub reads_end : (lines : List (List ℕ)) (left : Unread) (commands : List Command) → Reads lines left commands → left.lines ≡ [] → IsScript lines commands
reads_end lines left commands r none =
    let whole : lines ≡ r.read = r.split ∙ ap (λ ls. r.read ++ ls) none ∙ append-nil r.read in
    (subst AreCommands (sym whole) r.well, r.commands_are ∙ ap commands_in (sym whole))

pub reads_fault : (lines : List (List ℕ)) (left next : Unread) (line : List ℕ) (kind : LineFault) (commands : List Command) → Reads lines left commands
    → left.lines ≡ line ∷ next.lines → next.count ≡ left.count + 1 → command_of line ≡ Err kind → (n : ℕ) → n ≡ next.count → IsFirstFault lines (record { kind = kind; line = n })
reads_fault lines left next line kind commands r cut count said n is = record {
  before = r.read;
  line = line;
  after = next.lines;
  lines_are = r.split ∙ ap (λ ls. r.read ++ ls) cut;
  earlier = r.well;
  kind = said;
  number = is ∙ count ∙ ap (λ k. k + 1) r.counts;
}
