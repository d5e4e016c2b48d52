-- how many bytes of a text are whole lines, and where vehicles stand by them
use Rattle.std.proofs.Common.{◌≡◌, ◌≢◌, Bool, Bor, true, false, Option, None, Some, cond, ℕ, ◌+◌, ◌-◌, ◌≤◌, ◌∙◌, inl, inr, List, [], ◌∷◌, ◌++◌, length, sym, refl, ap, subst, arith, length-append}
use Rattle.std.specs.Prelude.{◌⊎◌, IfNone, IfSome, MatchOption, is_some}
use Rattle.std.proofs.lemmas.List.{append_assoc}
use Rattle.std.proofs.lemmas.List.Sums.{sum_by-append}
use Rattle.wh_text.specs.Lines.{IsLine, is_line_feed}
use Rattle.wh_words.specs.Lines.{text_of}
use Rattle.wh_arrivals.specs.Arrivals.{IsFirstBad}
use Rattle.wh_resume.specs.declared.recovery.Preface.{Preface}
use Rattle.wh_convoy.specs.Beginning.{first_line}
use Rattle.wh_convoy.specs.Standing.{EndsFeed, HasReports, IsWhole, LacksFirst, whole_lines}

-- what stands before the rest of the text is whole lines
pub record Passed (text rest : List ℕ) : Type 0 where
  pub front : List ℕ
  pub text_is : text ≡ front ++ rest
  pub ends : EndsFeed front

pub passed_none : (text : List ℕ) → Passed text text
passed_none text = record { front = []; text_is = refl; ends = inl refl }

-- one line more
pub passed_more : (text rest line after : List ℕ) → Passed text rest → rest ≡ line ++ 10 ∷ after → Passed text after
passed_more text rest line after p parts = record {
  front = p.front ++ (line ++ 10 ∷ []);
  text_is = p.text_is ∙ ap (λ (t : List ℕ). p.front ++ t) (parts ∙ sym (append_assoc line (10 ∷ []) after)) ∙ sym (append_assoc p.front (line ++ 10 ∷ []) after);
  ends = inr (p.front ++ line, sym (append_assoc p.front line (10 ∷ [])));
}

pub passed_size : (text rest : List ℕ) (p : Passed text rest) → length text ≡ length p.front + length rest
passed_size text rest p = ap (λ (t : List ℕ). length t) p.text_is ∙ length-append p.front rest

pub passed_fits : (text rest : List ℕ) → Passed text rest → length rest ≤ length text
passed_fits text rest p = (let size = passed_size text rest p in omega arith)

pub passed_all : (text rest : List ℕ) → Passed text rest → IsLine rest → IsWhole text (length text - length rest)
passed_all text rest p cut = record {
  front = p.front;
  cut = rest;
  text_is = p.text_is;
  ends = p.ends;
  is_cut = cut;
  bytes_are = (let size = passed_size text rest p in omega arith);
}

-- ---- how many lines are whole

abbrev is_feed : ℕ → ℕ
is_feed b = cond (is_line_feed b) 1 0

no_line : (bytes : List ℕ) → IsLine bytes → whole_lines bytes ≡ 0
no_line [] none = refl
no_line (b ∷ bs) none =
    let parts : whole_lines (b ∷ bs) ≡ 0 + is_feed b + whole_lines bs = sum_by-append is_feed (b ∷ []) bs in
    let first : ◌≡◌ {A = ℕ} (is_feed b) 0 = ap (λ (x : Bool). cond {A = ℕ} x 1 0) none.0 in
    let rest = no_line bs none.1 in
    omega (arith, parts, first, rest)

pub line_more : (line rest : List ℕ) → IsLine line → whole_lines (line ++ 10 ∷ rest) ≡ 1 + whole_lines rest
line_more line rest h =
    let parts : whole_lines (line ++ 10 ∷ rest) ≡ whole_lines line + whole_lines (10 ∷ rest) = sum_by-append is_feed line (10 ∷ rest) in
    let one : whole_lines (10 ∷ rest) ≡ 1 + whole_lines rest = sum_by-append is_feed (10 ∷ []) rest in
    let none = no_line line h in
    omega (arith, parts, one, none)

-- no line feed, or one alone
pub few_none : (text : List ℕ) → IsLine text → 2 ≤ whole_lines text → ⊥
few_none text h more = (let none = no_line text h in omega (arith, none, more))

pub few_one : (text line rest : List ℕ) → text ≡ line ++ 10 ∷ rest → IsLine line → IsLine rest → 2 ≤ whole_lines text → ⊥
few_one text line rest is h k more =
    let parts : whole_lines text ≡ 1 + whole_lines rest = ap (λ t. whole_lines t) is ∙ line_more line rest h in
    let none = no_line rest k in
    omega (arith, parts, none, more)

-- a text with a line feed is not one line
pub has_line : (text line rest : List ℕ) → text ≡ line ++ 10 ∷ rest → IsLine line → IsLine text → ⊥
has_line text line rest is h t =
    let parts : whole_lines text ≡ 1 + whole_lines rest = ap (λ t. whole_lines t) is ∙ line_more line rest h in
    let none = no_line text t in
    omega (arith, parts, none)

-- as many bytes as lines at least
lines_fit : (lines : List (List ℕ)) → length lines ≤ length (text_of lines)
lines_fit [] = omega arith
lines_fit (line ∷ lines) =
    let rest = lines_fit lines in
    let all : length (text_of (line ∷ lines)) ≡ length (line ++ 10 ∷ []) + length (text_of lines) = length-append (line ++ 10 ∷ []) (text_of lines) in
    let one : length (line ++ 10 ∷ []) ≡ length line + 1 = length-append line (10 ∷ []) in
    omega (arith, rest, all, one)

pub bad_within : (agents : ℕ) (text : List ℕ) (number : ℕ) → IsFirstBad agents text number → number ≤ length text
bad_within agents text number bad =
    let before = lines_fit bad.before in
    let all : length text ≡ length (text_of bad.before) + length (bad.line ++ 10 ∷ bad.rest) = ap (λ (t : List ℕ). length t) bad.text_is ∙ length-append (text_of bad.before) (bad.line ++ 10 ∷ bad.rest) in
    let line : length (bad.line ++ 10 ∷ bad.rest) ≡ length bad.line + length (10 ∷ bad.rest) = length-append bad.line (10 ∷ bad.rest) in
    let rest : length (10 ∷ bad.rest) ≡ 1 + length bad.rest = length-append (10 ∷ []) bad.rest in
    let place = bad.place in
    omega (arith, before, all, line, rest, place)

pub many_two : (text line rest next more : List ℕ) → text ≡ line ++ 10 ∷ rest → rest ≡ next ++ 10 ∷ more → IsLine line → IsLine next → 2 ≤ whole_lines text
many_two text line rest next more is then h k =
    let parts : whole_lines text ≡ 1 + whole_lines rest = ap (λ t. whole_lines t) is ∙ line_more line rest h in
    let others : whole_lines rest ≡ 1 + whole_lines more = ap (λ t. whole_lines t) then ∙ line_more next more k in
    omega (arith, parts, others)

pub none_of : {X : Type 0} (P : Type 0) (o : Option X) (b : Bool) → b ≡ is_some o → b ≡ false → IfNone o P → P
none_of P None b is bad h = h
none_of P (Some x) b is bad h = absurd (let e : true ≡ false = sym is ∙ bad in cc)

-- what stands behind the first line of a text in which a line stands whole
pub behind_some : (text first : List ℕ) (r : Option (Bor (List ℕ))) → MatchOption r ((rest : List ℕ) → text ≢ first ++ rest) (λ x. text ≡ first ++ x.now) →
    IfSome r (λ rest. (text ≡ first ++ rest.now) ⊎ (IsLine text × (rest.now ≡ [])))
behind_some text first None m = tt
behind_some text first (Some x) m = inl m

pub behind_none : (text first : List ℕ) (r : Option (Bor (List ℕ))) → (IsLine text → ⊥) → MatchOption r ((rest : List ℕ) → text ≢ first ++ rest) (λ x. text ≡ first ++ x.now) →
    IfNone r ((IsLine text → ⊥) × ((rest : List ℕ) → text ≢ first ++ rest))
behind_none text first None lines m = (lines, m)
behind_none text first (Some x) lines m = tt

-- and where a front is told, it is to tell of that
pub lacks_first : (preface : Option Preface) (told : Preface) (text first : List ℕ) (r : Option (Bor (List ℕ))) → preface ≡ Some told → first ≡ first_line preface →
    IfNone r ((IsLine text → ⊥) × ((rest : List ℕ) → text ≢ first ++ rest)) → IfNone r (LacksFirst preface text)
lacks_first preface told text first None is e h =
    let same : first ≡ first_line (Some told) = e ∙ ap (λ (p : Option Preface). first_line p) is in
    subst (λ (p : Option Preface). LacksFirst p text) (sym is) (h.0, λ rest begins. h.1 rest (begins ∙ ap (λ (f : List ℕ). f ++ rest) (sym same)))
lacks_first preface told text first (Some x) is e h = tt

pub reports_fit : (preface : Option Preface) (text reports : List ℕ) → HasReports preface text reports → length reports ≤ length text
reports_fit None text reports same = (let size : length reports ≡ length text = ap (λ (t : List ℕ). length t) same in omega (arith, size))
reports_fit (Some told) text reports (inl parts) =
    let size : length text ≡ length (first_line (Some told)) + length reports = ap (λ (t : List ℕ). length t) parts ∙ length-append (first_line (Some told)) reports in
    omega (arith, size)
reports_fit (Some told) text reports (inr none) = (let size : length reports ≡ 0 = ap (λ (t : List ℕ). length t) none.1 in omega (arith, size))
