-- a file of arrivals is read in one way
use Rattle.std.proofs.Common.{◌≡◌, ℕ, ◌<◌, ◌≤◌, ◌∙◌, inl, inr, List, [], ◌∷◌, ◌++◌, sym, subst, refl, ap, arith}
use Rattle.std.specs.Prelude.{slice_index}
use Rattle.std.specs.List.{AllByRecursion, AllZip}
use Rattle.std.proofs.lemmas.List.{get_or_default, same_lists}
use Rattle.std.proofs.lemmas.Option.{same_Some}
use Rattle.wh_words.specs.Lines.{text_of}
use Rattle.wh_text.specs.Lines.{IsLine}
use Rattle.wh_log.proofs.LineLaws.{one_line, not_whole, one_text}
use Rattle.wh_vehicles.specs.declared.report.Report.{Report}
use Rattle.wh_arrivals.specs.Arrivals.{IsArrival, IsFurthest, TellsSteps, IsFirstBad, OneReading}

same-lines : (lines others : List (List ℕ)) (cut end : List ℕ) → AllByRecursion IsLine lines → AllByRecursion IsLine others → IsLine cut → IsLine end →
    text_of lines ++ cut ≡ text_of others ++ end → lines ≡ others
same-lines [] [] cut end p q c d e = refl
same-lines [] (line ∷ others) cut end p q c d e = absurd (not_whole cut line (text_of others ++ end) c (e ∙ one_text line others end))
same-lines (line ∷ lines) [] cut end p q c d e = absurd (not_whole end line (text_of lines ++ cut) d (sym e ∙ one_text line lines cut))
same-lines (line ∷ lines) (other ∷ others) cut end p q c d e =
    let both = one_line line other (text_of lines ++ cut) (text_of others ++ end) p.0 q.0 (sym (one_text line lines cut) ∙ e ∙ one_text other others end) in
    let rest = same-lines lines others cut end p.1 q.1 c d both.1 in
    ap (λ (l : List ℕ). l ∷ lines) both.0 ∙ ap (λ (ls : List (List ℕ)). other ∷ ls) rest

same-reports : (agents : ℕ) (lines : List (List ℕ)) (reports others : List Report) → AllZip (IsArrival agents) lines reports → AllZip (IsArrival agents) lines others → reports ≡ others
same-reports agents [] [] [] p q = refl
same-reports agents [] [] (other ∷ others) p q = absurd q
same-reports agents [] (report ∷ reports) others p q = absurd p
same-reports agents (line ∷ lines) [] others p q = absurd p
same-reports agents (line ∷ lines) (report ∷ reports) [] p q = absurd q
same-reports agents (line ∷ lines) (report ∷ reports) (other ∷ others) p q =
    let first : report ≡ other = same_Some report other (sym p.0.says ∙ q.0.says) in
    let rest = same-reports agents lines reports others p.1 q.1 in
    ap (λ (r : Report). r ∷ reports) first ∙ ap (λ (rs : List Report). other ∷ rs) rest

no-more : (reports : List Report) (agent step other : ℕ) → IsFurthest reports agent step → IsFurthest reports agent other → step ≤ other
no-more reports agent step other f g = elim f.named [
  | inl none ↦ omega arith
  | inr there ↦ g.none_beyond (record { agent = agent; step = step }) there refl
]

-- a whole line that follows some lines is one of the text's
among : (agents : ℕ) (lines : List (List ℕ)) (reports : List Report) (cut : List ℕ) (before : List (List ℕ)) (line rest : List ℕ) → AllByRecursion IsLine lines → IsLine cut →
    AllZip (IsArrival agents) lines reports → AllByRecursion IsLine before → IsLine line → text_of lines ++ cut ≡ text_of before ++ (line ++ 10 ∷ rest) →
    (report : Report) × IsArrival agents line report
among agents [] reports cut [] line rest p c said q l e = absurd (not_whole cut line rest c e)
among agents [] reports cut (first ∷ before) line rest p c said q l e = absurd (not_whole cut first (text_of before ++ (line ++ 10 ∷ rest)) c (e ∙ one_text first before (line ++ 10 ∷ rest)))
among agents (one ∷ lines) [] cut before line rest p c said q l e = absurd said
among agents (one ∷ lines) (report ∷ reports) cut [] line rest p c said q l e =
    let both = one_line one line (text_of lines ++ cut) rest p.0 l (sym (one_text one lines cut) ∙ e) in
    (report, subst (λ (t : List ℕ). IsArrival agents t report) both.0 said.0)
among agents (one ∷ lines) (report ∷ reports) cut (first ∷ before) line rest p c said q l e =
    let both = one_line one first (text_of lines ++ cut) (text_of before ++ (line ++ 10 ∷ rest)) p.0 q.0 (sym (one_text one lines cut) ∙ e ∙ one_text first before (line ++ 10 ∷ rest)) in
    among agents lines reports cut before line rest p.1 c said.1 q.1 l both.1

pub one_reading : OneReading
one_reading agents text steps t = (same, never)
  where
    same : (others : List ℕ) → TellsSteps agents text others → others ≡ steps
    same others u =
        let h = t.holds in
        let k = u.holds in
        let lines = same-lines k.lines h.lines k.cut h.cut k.whole h.whole k.is_cut h.is_cut (sym k.text_is ∙ h.text_is) in
        let reports : u.reports ≡ t.reports =
        same-reports agents h.lines u.reports t.reports (subst (λ (ls : List (List ℕ)). AllZip (IsArrival agents) ls u.reports) lines k.said) h.said in
        let size = t.all in
        let count = u.all in
        same_lists others steps (omega arith) (λ i d l.
        let within : i < agents = omega arith in
        let theirs = subst (λ (rs : List Report). IsFurthest rs i (slice_index others i)) reports (u.each i within) in
        let ours = t.each i within in
        let up = no-more t.reports i (slice_index others i) (slice_index steps i) theirs ours in
        let down = no-more t.reports i (slice_index steps i) (slice_index others i) ours theirs in
        let e : slice_index others i ≡ slice_index steps i = omega arith in
        get_or_default others i d 0 l ∙ e ∙ get_or_default steps i 0 d (omega arith))

    never : (number : ℕ) → ¬ IsFirstBad agents text number
    never number b =
        let h = t.holds in
        let found = among agents h.lines t.reports h.cut b.before b.line b.rest h.whole h.is_cut h.said b.whole b.is_line (sym h.text_is ∙ b.text_is) in
        b.bad found.0 found.1
