-- A text that is being read, line by line.
use Rattle.std.proofs.Common.{◌≡◌, ℕ, ◌<◌, ◌≤◌, ◌+◌, true, false, List, [], ◌∷◌, ◌++◌, map, length, Some, refl, sym, ap, ◌∙◌, subst, arith, append_assoc, length-append}
use Rattle.std.proofs.lemmas.List.{append-nil}
use Rattle.std.specs.List.{AllByRecursion}
use Rattle.wh_text.specs.Lines.{IsLine}
use Rattle.wh_log.proofs.Fronts.{all_append}
use Rattle.wh_log.proofs.LineLaws.{one_line, one_text}
use Rattle.wh_log.proofs.Steps.{some_is}
use Rattle.wh_front.specs.declared.front.Front.{Front}
use Rattle.wh_front.specs.declared.line.Line.{Line}
use Rattle.wh_front.specs.declared.stage.Stage.{Stage}
use Rattle.wh_front.specs.declared.stage.Stage.TheVariants as stages
use Rattle.wh_front.specs.Spelling.{front_line}
use Rattle.wh_front.specs.Ranges.{LineFits}
use Rattle.wh_front.specs.Fronts.{front_lines, front_text, Fits}
use Rattle.wh_front.specs.Drafts.{Draft, nothing, expects, is_done, put, run}
use Rattle.wh_front.specs.FirstBad.{BeginsFront, HasNoFront, IsFirstBad, IsNext, IsNoNext}
use Rattle.wh_front.proofs.Lines.{lines_text, lines_text-append}
use Rattle.wh_front.proofs.RowLaws.{row_is_line, one_row}
use Rattle.wh_front.proofs.DraftLaws.{draft, IsDraft, nothing_is, draft_stays, done_is}
use Rattle.wh_front.proofs.Completing.{draft_continued}
use Rattle.wh_front.proofs.Running.{run_step, run_more, ended, done_stage, run_front, front_fit}

pub one_cons : (line : Line) (lines : List Line) (x : List ℕ) → lines_text (line ∷ lines) ++ x ≡ front_line line ++ 10 ∷ (lines_text lines ++ x)
one_cons line lines x = one_text (front_line line) (map front_line lines) x

-- two texts of whole fronts that are the same
same_lines : (d : Draft) (xs ys : List Line) (a b : Draft) (x y : List ℕ) → AllByRecursion LineFits xs → AllByRecursion LineFits ys → run d xs ≡ Some a → run d ys ≡ Some b
    → a.stage ≡ stages.Done → b.stage ≡ stages.Done → lines_text xs ++ x ≡ lines_text ys ++ y → (xs ≡ ys) × (x ≡ y)
same_lines d [] [] a b x y h k p q done other e = (refl, e)
same_lines d [] (m ∷ ys) a b x y h k p q done other e = let here : d ≡ a = cc in absurd (ended d m ys b (ap (λ (s : Draft). s.stage) here ∙ done) q)
same_lines d (l ∷ xs) [] a b x y h k p q done other e = let here : d ≡ b = cc in absurd (ended d l xs a (ap (λ (s : Draft). s.stage) here ∙ other) p)
same_lines d (l ∷ xs) (m ∷ ys) a b x y h k p q done other e =
    let cut = one_line (front_line l) (front_line m) (lines_text xs ++ x) (lines_text ys ++ y) (row_is_line l h.0) (row_is_line m k.0) (sym (one_cons l xs x) ∙ e ∙ one_cons m ys y) in
    let same : l ≡ m = one_row l m h.0 k.0 cut.0 in
    let next : run (put d l) ys ≡ Some b = subst (λ (o : Line). run (put d o) ys ≡ Some b) (sym same) ((run_step d m ys b q).1) in
    let rest = same_lines (put d l) xs ys a b x y h.1 k.1 ((run_step d l xs a p).1) next done other cut.1 in
    (ap (λ (o : Line). o ∷ xs) same ∙ ap (λ (os : List Line). m ∷ os) rest.0, rest.1)

-- no front has these lines first where what follows is none that may come next
none_goes_on : (d : Draft) (xs ys : List Line) (a b : Draft) (rest y : List ℕ) → AllByRecursion LineFits xs → AllByRecursion LineFits ys → run d xs ≡ Some a → run d ys ≡ Some b
    → is_done a.stage ≡ false → b.stage ≡ stages.Done → IsNoNext a.stage rest → lines_text xs ++ rest ≡ lines_text ys ++ y → ⊥
none_goes_on d [] [] a b rest y h k p q going done lacks e =
    let here : a ≡ b = some_is a b (sym p ∙ q) in
    let stage : a.stage ≡ stages.Done = ap (λ (s : Draft). s.stage) here ∙ done in
    let wrong : is_done stages.Done ≡ false = subst (λ (s : Stage). is_done s ≡ false) stage going in
    cc
none_goes_on d [] (m ∷ ys) a b rest y h k p q going done lacks e =
    let here : d ≡ a = cc in
    let may : expects a.stage m ≡ true = subst (λ (s : Draft). expects s.stage m ≡ true) here ((run_step d m ys b q).0) in
    lacks m (lines_text ys ++ y) (record { fits = k.0; may = may; text_is = e ∙ one_cons m ys y })
none_goes_on d (l ∷ xs) [] a b rest y h k p q going done lacks e = let here : d ≡ b = cc in ended d l xs a (ap (λ (s : Draft). s.stage) here ∙ done) p
none_goes_on d (l ∷ xs) (m ∷ ys) a b rest y h k p q going done lacks e =
    let cut = one_line (front_line l) (front_line m) (lines_text xs ++ rest) (lines_text ys ++ y) (row_is_line l h.0) (row_is_line m k.0) (sym (one_cons l xs rest) ∙ e ∙ one_cons m ys y) in
    let same : l ≡ m = one_row l m h.0 k.0 cut.0 in
    let next : run (put d l) ys ≡ Some b = subst (λ (o : Line). run (put d o) ys ≡ Some b) (sym same) ((run_step d m ys b q).1) in
    none_goes_on (put d l) xs ys a b rest y h.1 k.1 ((run_step d l xs a p).1) next going done lacks cut.1

-- whole lines of a text were read, what they tell stands in the draft, and the number of the next line is this
pub record IsReading (text : List ℕ) (d : Draft) (rest : List ℕ) (number : ℕ) : Type 0 where
  pub taken : List Line
  pub is_draft : IsDraft d taken
  pub run_is : run nothing taken ≡ Some d
  pub fit : AllByRecursion LineFits taken
  pub parts : text ≡ lines_text taken ++ rest
  pub place : number ≡ length taken + 1
  pub bound : number + length rest ≤ length text + 1

pub reading_starts : (text : List ℕ) → IsReading text nothing text 1
reading_starts text = record { taken = []; is_draft = nothing_is; run_is = refl; fit = tt; parts = refl; place = refl; bound = omega arith }

pub shorter : (stage : Stage) (rest : List ℕ) (line : Line) (behind : List ℕ) → IsNext stage rest line behind → length behind < length rest
shorter stage rest line behind next =
    let count : length (front_line line ++ 10 ∷ behind) ≡ length (front_line line) + (length behind + 1) = simp length-append (omega arith) in
    let same : length rest ≡ length (front_line line ++ 10 ∷ behind) = ap (λ (t : List ℕ). length t) next.text_is in
    omega (arith, count, same)

-- one line more was read
pub record Goes (text : List ℕ) (d : Draft) (behind : List ℕ) (number : ℕ) (taken : List Line) : Type 0 where
  pub reading : IsReading text d behind number
  pub taken_is : reading.taken ≡ taken

pub reading_goes : (text : List ℕ) (d : Draft) (rest : List ℕ) (number : ℕ) (line : Line) (behind : List ℕ) (r : IsReading text d rest number) → IsNext d.stage rest line behind → Goes text (put d line) behind (number + 1) (r.taken ++ line ∷ [])
reading_goes text d rest number line behind r next =
    let lt = shorter d.stage rest line behind next in
    let one : lines_text (line ∷ []) ++ behind ≡ front_line line ++ 10 ∷ behind = one_cons line [] behind in
    record {
      reading = record {
        taken = r.taken ++ line ∷ [];
        is_draft = draft_stays d line r.taken r.is_draft next.fits next.may;
        run_is = run_more nothing r.taken line d r.run_is next.may;
        fit = all_append LineFits r.taken (line ∷ []) r.fit (next.fits, tt);
        parts = r.parts ∙ ap (λ (t : List ℕ). lines_text r.taken ++ t) (next.text_is ∙ sym one)
            ∙ sym (append_assoc (lines_text r.taken) (lines_text (line ∷ [])) behind) ∙ ap (λ (t : List ℕ). t ++ behind) (sym (lines_text-append r.taken (line ∷ [])));
        place = (let longer : length (r.taken ++ line ∷ []) ≡ length r.taken + 1 = simp length-append (omega arith) in omega (arith, longer, r.place));
        bound = omega (arith, r.bound, lt);
      };
      taken_is = refl;
    }

pub reading_done : (text : List ℕ) (d : Draft) (rest : List ℕ) (number : ℕ) → IsReading text d rest number → is_done d.stage ≡ true → Fits d.front × (text ≡ front_text d.front ++ rest)
reading_done text d rest number r done =
    let end = done_is d r.taken r.is_draft (done_stage d.stage done) in
    (end.1, r.parts ∙ ap (λ (ls : List Line). lines_text ls ++ rest) end.0)

pub reading_only : (text : List ℕ) (d : Draft) (rest : List ℕ) (number : ℕ) → IsReading text d rest number → is_done d.stage ≡ true
    → (front : Front) (x : List ℕ) → Fits front → text ≡ front_text front ++ x → (d.front ≡ front) × (rest ≡ x)
reading_only text d rest number r done front x fits is =
    let stage = done_stage d.stage done in
    let last : Draft = draft front (length front.seats) (length front.tasks) stages.Done in
    let same = same_lines nothing r.taken (front_lines front) d last rest x r.fit (front_fit front fits) r.run_is (run_front front fits) stage refl (sym r.parts ∙ is) in
    let ran : d ≡ last = some_is d last (sym r.run_is ∙ ap (run nothing) same.0 ∙ run_front front fits) in
    (ap (λ (s : Draft). s.front) ran, same.1)

no_front : (text : List ℕ) (d : Draft) (rest : List ℕ) (number : ℕ) (r : IsReading text d rest number) → is_done d.stage ≡ false → (next : List ℕ) → IsNoNext d.stage next
    → (front : Front) (x : List ℕ) → Fits front → lines_text r.taken ++ next ≡ front_text front ++ x → ⊥
no_front text d rest number r going next lacks front x fits is =
    none_goes_on nothing r.taken (front_lines front) d (draft front (length front.seats) (length front.tasks) stages.Done) next x r.fit (front_fit front fits) r.run_is (run_front front fits) going refl lacks is

pub reading_none : (text : List ℕ) (d : Draft) (rest : List ℕ) (number : ℕ) → IsReading text d rest number → is_done d.stage ≡ false → IsNoNext d.stage rest → HasNoFront text
reading_none text d rest number r going lacks front x fits is = no_front text d rest number r going rest lacks front x fits (sym r.parts ∙ is)

lines_are : (lines : List Line) → AllByRecursion LineFits lines → AllByRecursion IsLine (map front_line lines)
lines_are [] h = tt
lines_are (line ∷ lines) h = (row_is_line line h.0, lines_are lines h.1)

count_lines : (lines : List Line) → length (map front_line lines) ≡ length lines
count_lines [] = refl
count_lines (line ∷ lines) = let rest = count_lines lines in omega (arith, rest)

-- some front has the lines that were read first
pub reading_begins : (text : List ℕ) (d : Draft) (rest : List ℕ) (number : ℕ) (r : IsReading text d rest number) → BeginsFront (lines_text r.taken)
reading_begins text d rest number r =
    let c = draft_continued d r.taken r.is_draft in
    record { front = c.front; fits = c.fits; more = lines_text c.more; whole = ap lines_text c.lines_are ∙ lines_text-append r.taken c.more }

-- and none has them and the line that stands next, where that is none that may come
pub reading_ends : (text : List ℕ) (d : Draft) (rest : List ℕ) (number : ℕ) (r : IsReading text d rest number) → is_done d.stage ≡ false → IsNoNext d.stage rest
    → (line more : List ℕ) → IsLine line → rest ≡ line ++ 10 ∷ more → BeginsFront (lines_text r.taken ++ (line ++ 10 ∷ [])) → ⊥
reading_ends text d rest number r going lacks line more is rest_is begins =
    no_front text d rest number r going (line ++ 10 ∷ begins.more) (other begins.more) begins.front [] begins.fits
    (sym (append_assoc (lines_text r.taken) (line ++ 10 ∷ []) begins.more ∙ ap (λ (t : List ℕ). lines_text r.taken ++ t) (append_assoc line (10 ∷ []) begins.more)) ∙ sym begins.whole ∙ sym (append-nil (front_text begins.front)))
  where
    other : (x : List ℕ) → IsNoNext d.stage (line ++ 10 ∷ x)
    other x m y next =
        let cut = one_line line (front_line m) x y is (row_is_line m next.fits) next.text_is in
        lacks m more (record { fits = next.fits; may = next.may; text_is = rest_is ∙ ap (λ (t : List ℕ). t ++ 10 ∷ more) cut.0 })

pub reading_bad : (text : List ℕ) (d : Draft) (rest : List ℕ) (number : ℕ) → IsReading text d rest number → is_done d.stage ≡ false → IsNoNext d.stage rest → IsFirstBad text number
reading_bad text d rest number r going lacks = record {
  none = reading_none text d rest number r going lacks;
  before = map front_line r.taken;
  rest = rest;
  lines = lines_are r.taken r.fit;
  parts = r.parts;
  place = r.place ∙ ap (λ (k : ℕ). k + 1) (sym (count_lines r.taken));
  begins = reading_begins text d rest number r;
  fault = reading_ends text d rest number r going lacks;
}

-- a text begins with one front at most
pub one_front : (f g : Front) (x y : List ℕ) → Fits f → Fits g → front_text f ++ x ≡ front_text g ++ y → (f ≡ g) × (x ≡ y)
one_front f g x y fits others e =
    let one : Draft = draft f (length f.seats) (length f.tasks) stages.Done in
    let two : Draft = draft g (length g.seats) (length g.tasks) stages.Done in
    let same = same_lines nothing (front_lines f) (front_lines g) one two x y (front_fit f fits) (front_fit g others) (run_front f fits) (run_front g others) refl refl e in
    let ran : one ≡ two = some_is one two (sym (run_front f fits) ∙ ap (run nothing) same.0 ∙ run_front g others) in
    (ap (λ (s : Draft). s.front) ran, same.1)
