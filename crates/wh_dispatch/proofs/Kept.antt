-- which lines are kept, and what is to be kept of several
use Rattle.std.proofs.Common.{◌≡◌, ◌≤◌, ◌∙◌, ℕ, nat_eq, Bool, true, false, List, [], ◌∷◌, ◌++◌, length, drop, Some, None, cond, inl, inr, sym, subst, refl, ap, append-nil}
use Rattle.std.specs.Prelude.{not}
use Rattle.std.proofs.lemmas.Bool.{lt-ltb, ne_eqb}
use Rattle.std.proofs.lemmas.Bool.Decides.{leb_tells}
use Rattle.std.proofs.lemmas.List.{drop-append-le}
use Rattle.wh_text.specs.Words.{words_of}
use Rattle.wh_words.specs.Lines.{text_of as lines_text}
use Rattle.wh_session.specs.Machines.{Records, nothing, joined, fitting}
use Rattle.wh_grid.specs.Grids.{Floor}
use Rattle.wh_event.specs.declared.entry.Entry.{Entry}
use Rattle.wh_replay.specs.declared.asker.Asker.{Asker}
use Rattle.wh_log.proofs.Fronts.{text-append}
use Rattle.wh_replay.specs.Appending.{lines_for, FailsAt}
use Rattle.wh_replay.proofs.Appended.{lines_append}
use Rattle.wh_drive.specs.Drives.{Drive}
use Rattle.wh_vehicles.specs.Reports.{report_by}
use Rattle.wh_dispatch.specs.Lines.{Depot, ServesAll}
use Rattle.wh_dispatch.specs.Keeping.{KeepsAll, kept_if, kept_of, kept_in}
use Rattle.wh_dispatch.specs.Manning.{kept_by}

-- what is kept of a line is told by what is known of it
pub kept_fitting : (d : Drive) (line : List ℕ) → kept_in d (fitting line) ≡ kept_of d line
kept_fitting d text =
    elim (leb_tells (length text) 256) [
      | inl short ↦ ap (λ b. kept_in d (cond b (Some text) None)) short.0
      | inr long ↦ ap (λ b. kept_in d (cond b (Some text) None)) long.0
          ∙ sym (ap (λ (b : Bool). kept_if d text (cond b None (report_by (words_of text)))) (lt-ltb 256 (length text) long.1))
    ]

pub kept_is_served : {X : Type 0} (fits : X → Floor → Bool) (count : X → ℕ) (asker : Asker) (bound : ℕ) (lines : List (List ℕ)) (old new : Depot X) (texts kept : List (List ℕ)) →
    KeepsAll fits count asker bound lines old new texts kept → ServesAll fits count asker bound lines old new texts
kept_is_served fits count asker bound [] old new texts kept p = (p.0, p.1)
kept_is_served fits count asker bound (line ∷ lines) old new texts kept p =
    (p.0, p.1, p.2, p.4, kept_is_served fits count asker bound lines p.0 new p.2 p.3 p.5, p.6)

-- ---- what is to be kept

pub kept_none : (logged : Bool) → kept_by logged [] [] ≡ nothing
kept_none true = refl
kept_none false = refl

pub kept_both : (logged : Bool) (xs ys : List Entry) (a b : List ℕ) → kept_by logged (xs ++ ys) (a ++ b) ≡ joined (kept_by logged xs a) (kept_by logged ys b)
kept_both true xs ys a b = λ i. record { log = lines_append xs ys i; more = a ++ b }
kept_both false xs ys a b = refl

-- of lines that are kept
pub kept_lines : (logged : Bool) (xs ys : List Entry) (k l : List (List ℕ)) → kept_by logged (xs ++ ys) (lines_text (k ++ l)) ≡ joined (kept_by logged xs (lines_text k)) (kept_by logged ys (lines_text l))
kept_lines logged xs ys k l = ap (λ (t : List ℕ). kept_by logged (xs ++ ys) t) (text-append k l) ∙ kept_both logged xs ys (lines_text k) (lines_text l)

pub none_behind : {A : Type 0} (l : List A) → drop (length l) l ≡ []
none_behind [] = refl
none_behind (x ∷ l) = none_behind l

-- nothing waits
pub kept_empty : (logged : Bool) (history : List Entry) (first : ℕ) (came : List ℕ) → first ≡ length history → came ≡ [] → kept_by logged (drop first history) came ≡ nothing
kept_empty logged history first came here none =
    ap (λ (n : ℕ). kept_by logged (drop n history) came) here ∙ ap (λ (es : List Entry). kept_by logged es came) (none_behind history)
    ∙ ap (λ (t : List ℕ). kept_by logged [] t) none ∙ kept_none logged

-- a line more waits
pub kept_more : (logged : Bool) (old new added : List Entry) (first : ℕ) (came comes more : List ℕ) → first ≤ length old → new ≡ old ++ added → (logged ≡ true → comes ≡ came ++ more) →
    kept_by logged (drop first new) comes ≡ joined (kept_by logged (drop first old) came) (kept_by logged added more)
kept_more true old new added first came comes more within grown noted =
    ap (λ (es : List Entry). kept_by true (drop first es) comes) grown ∙ ap (λ (es : List Entry). kept_by true es comes) (drop-append-le first old added within)
    ∙ ap (λ (t : List ℕ). kept_by true (drop first old ++ added) t) (noted refl) ∙ kept_both true (drop first old) added came more
kept_more false old new added first came comes more within grown noted = refl

-- ---- a keeper that is handed it

-- a flag that is not 0 is set
pub is_set : (flag : ℕ) → (flag ≡ 0 → ⊥) → not (nat_eq flag 0) ≡ true
is_set flag set = ap (λ (b : Bool). not b) (ne_eqb flag 0 set)

module _ {H : Type 0} (is_safe : H → Type 0) (adds leaves : H → Records → H → Type 0) (adds_none : (a : H) → adds a nothing a) (adds_both : (a b c : H) (r s : Records) → adds a r b → adds b s c → adds a (joined r s) c)
    (logged : Bool) (is : logged ≡ true) (given entries : List Entry) (there : given ≡ entries) (handed came : List ℕ) (here : handed ≡ came) (a : H) where
  abbrev text : List ℕ
  text = lines_for given

  abbrev of_log : Records
  of_log = record { log = text; more = [] }

  abbrev of_more : Records
  of_more = record { log = []; more = handed }

  all : record { log = text; more = handed } ≡ kept_by logged entries came
  all = ap (λ (b : Bool). kept_by b given handed) (sym is) ∙ ap (λ (es : List Entry). kept_by logged es handed) there ∙ ap (λ (t : List ℕ). kept_by logged entries t) here

  -- the entries were not added
  pub entries_unkept : is_safe a → (b : H) → FailsAt is_safe adds leaves a b text → leaves a (kept_by logged entries came) b
  entries_unkept safe b f =
      subst (λ (r : Records). leaves a r b) ((λ i. record { log = append-nil text i; more = handed }) ∙ all) (f.left a nothing of_more safe (adds_none a) refl)

  -- the reports were not added
  pub reports_unkept : (c : H) → leaves a (joined (joined of_log of_more) nothing) c → leaves a (kept_by logged entries came) c
  reports_unkept c f =
      subst (λ (r : Records). leaves a r c) ((λ i. record { log = (append-nil (text ++ []) ∙ append-nil text) i; more = append-nil handed i }) ∙ all) f

  -- all was added
  pub both_added : (b c : H) → adds a of_log b → adds b of_more c → adds a (kept_by logged entries came) c
  both_added b c p q = subst (λ (r : Records). adds a r c) ((λ i. record { log = append-nil text i; more = handed }) ∙ all) (adds_both a b c of_log of_more p q)
