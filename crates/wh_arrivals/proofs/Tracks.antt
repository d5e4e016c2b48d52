-- a text of arrivals that is read line by line
use Rattle.std.proofs.Common.{◌≡◌, ◌≢◌, ℕ, ◌+◌, ◌<◌, ◌≤◌, ◌∙◌, inl, inr, max, List, [], ◌∷◌, ◌++◌, length, sym, subst, refl, ap, arith, length-append}
use Rattle.std.specs.Prelude.{slice_index, slice_set, replicate}
use Rattle.std.specs.List.{AllByRecursion, AllZip}
use Rattle.std.proofs.lemmas.Bool.{cases_lt}
use Rattle.std.proofs.lemmas.List.{length-set, length-replicate, get_or-replicate, get_or-set_same, get_or-set_other, append-nil, append_assoc}
use Rattle.std.proofs.lemmas.List.Elements.{Contains-push, Contains-push_cases, Contains-append_left}
use Rattle.std.proofs.lemmas.Grind.{flat_map-append}
use Rattle.wh_words.specs.Lines.{text_of}
use Rattle.wh_text.specs.Lines.{IsLine}
use Rattle.wh_vehicles.specs.declared.report.Report.{Report}
use Rattle.wh_arrivals.specs.Arrivals.{IsArrival, IsFurthest, TellsSteps, IsFirstBad}

all-push : {X : Type 0} (P : X → Type 0) (xs : List X) (x : X) → AllByRecursion P xs → P x → AllByRecursion P (xs ++ x ∷ [])
all-push P [] x all h = (h, tt)
all-push P (y ∷ ys) x all h = (all.0, all-push P ys x all.1 h)

zip-push : {X Y : Type 0} (R : X → Y → Type 0) (xs : List X) (ys : List Y) (x : X) (y : Y) → AllZip R xs ys → R x y → AllZip R (xs ++ x ∷ []) (ys ++ y ∷ [])
zip-push R [] [] x y all h = (h, tt)
zip-push R [] (b ∷ ys) x y all h = absurd all
zip-push R (a ∷ xs) [] x y all h = absurd all
zip-push R (a ∷ xs) (b ∷ ys) x y all h = (all.0, zip-push R xs ys x y all.1 h)

-- one line more
one-more : (lines : List (List ℕ)) (line rest : List ℕ) → text_of lines ++ (line ++ 10 ∷ rest) ≡ text_of (lines ++ line ∷ []) ++ rest
one-more lines line rest =
    let f : List ℕ → List ℕ = λ one. one ++ 10 ∷ [] in
    let parts : text_of (lines ++ line ∷ []) ≡ text_of lines ++ ((line ++ 10 ∷ []) ++ []) = flat_map-append f lines (line ∷ []) in
    let whole : text_of (lines ++ line ∷ []) ≡ text_of lines ++ (line ++ 10 ∷ []) = parts ∙ ap (λ (t : List ℕ). text_of lines ++ t) (append-nil (line ++ 10 ∷ [])) in
    sym (ap (λ (t : List ℕ). t ++ rest) whole ∙ append_assoc (text_of lines) (line ++ 10 ∷ []) rest ∙ ap (λ (t : List ℕ). text_of lines ++ t) (append_assoc line (10 ∷ []) rest))

-- as far as it is read, the text's lines are reports, and these are the steps that they tell
pub record Behind (agents : ℕ) (text rest : List ℕ) (count : ℕ) (steps : List ℕ) : Type 0 where
  pub reports : List Report
  pub lines : List (List ℕ)
  pub whole : AllByRecursion IsLine lines
  pub text_is : text ≡ text_of lines ++ rest
  pub said : AllZip (IsArrival agents) lines reports
  pub count_is : count ≡ length lines
  pub fits : count + length rest ≤ length text
  pub all : length steps ≡ agents
  pub each : (agent : ℕ) → agent < agents → IsFurthest reports agent (slice_index steps agent)

pub behind-start : (agents : ℕ) (text : List ℕ) → Behind agents text text 0 (replicate agents 0)
behind-start agents text = record {
  reports = [];
  lines = [];
  whole = tt;
  text_is = refl;
  said = tt;
  count_is = refl;
  fits = omega arith;
  all = length-replicate agents 0;
  each = λ agent h. record {
    named = inl (get_or-replicate agents agent 0 0 h);
    none_beyond = λ report c. absurd (let no = c.1 in omega arith);
  };
}

-- the furthest step, with one report more
further : (reports : List Report) (report : Report) (step : ℕ) → IsFurthest reports report.agent step → IsFurthest (reports ++ report ∷ []) report.agent (max step report.step)
further reports report step f = elim (cases_lt step report.step) [
  | inl l ↦
      let e : max step report.step ≡ report.step = omega arith in
      subst (IsFurthest (reports ++ report ∷ []) report.agent) (sym e) (record {
        named = inr (Contains-push reports report);
        none_beyond = λ other c same. elim (Contains-push_cases reports report other c) [
          | inl before ↦ (let h = f.none_beyond other before same in omega arith)
          | inr here ↦ (let h : report.step ≡ other.step = ap (λ (r : Report). r.step) here in omega arith)
        ];
      })
  | inr g ↦
      let e : max step report.step ≡ step = omega arith in
      subst (IsFurthest (reports ++ report ∷ []) report.agent) (sym e) (record {
        named = elim f.named [
          | inl none ↦ inl none
          | inr there ↦ inr (Contains-append_left reports (report ∷ []) _ there)
        ];
        none_beyond = λ other c same. elim (Contains-push_cases reports report other c) [
          | inl before ↦ f.none_beyond other before same
          | inr here ↦ (let h : report.step ≡ other.step = ap (λ (r : Report). r.step) here in omega arith)
        ];
      })
]

-- a report of another agent
as-far : (reports : List Report) (report : Report) (agent step : ℕ) → agent ≢ report.agent → IsFurthest reports agent step → IsFurthest (reports ++ report ∷ []) agent step
as-far reports report agent step ne f = record {
  named = elim f.named [
    | inl none ↦ inl none
    | inr there ↦ inr (Contains-append_left reports (report ∷ []) _ there)
  ];
  none_beyond = λ other c same. elim (Contains-push_cases reports report other c) [
    | inl before ↦ f.none_beyond other before same
    | inr here ↦ absurd (ne (sym same ∙ sym (ap (λ (r : Report). r.agent) here)))
  ];
}

pub behind-next : (agents : ℕ) (text rest line after : List ℕ) (count : ℕ) (steps new : List ℕ) (report : Report) → Behind agents text rest count steps → IsLine line →
    rest ≡ line ++ 10 ∷ after → IsArrival agents line report →
    new ≡ slice_set steps report.agent (max (slice_index steps report.agent) report.step) → Behind agents text after (count + 1) new
behind-next agents text rest line after count steps new report b is_line parts says is =
    let known = says.known in
    let all = b.all in
    let size : length rest ≡ length line + length (10 ∷ after) = ap (λ (t : List ℕ). length t) parts ∙ length-append line (10 ∷ after) in
    let fits = b.fits in
    let mine = max (slice_index steps report.agent) report.step in
    let count_is = b.count_is in
    let longer = length-append b.lines (line ∷ []) in
    record {
      reports = b.reports ++ report ∷ [];
      lines = b.lines ++ line ∷ [];
      whole = all-push IsLine b.lines line b.whole is_line;
      text_is = b.text_is ∙ ap (λ (t : List ℕ). text_of b.lines ++ t) parts ∙ one-more b.lines line after;
      said = zip-push (IsArrival agents) b.lines b.reports line report b.said says;
      count_is = omega arith;
      fits = omega arith;
      all = ap (λ (s : List ℕ). length s) is ∙ length-set steps report.agent mine ∙ all;
      each = λ agent h. elim (cases_lt agent report.agent) [
        | inl l ↦ (let ne : agent ≢ report.agent = λ e. omega arith in
            subst (IsFurthest (b.reports ++ report ∷ []) agent) (sym (ap (λ (s : List ℕ). slice_index s agent) is ∙ get_or-set_other steps report.agent agent mine 0 ne))
            (as-far b.reports report agent _ ne (b.each agent h)))
        | inr g ↦ elim (cases_lt report.agent agent) [
          | inl l ↦ (let ne : agent ≢ report.agent = λ e. omega arith in
              subst (IsFurthest (b.reports ++ report ∷ []) agent) (sym (ap (λ (s : List ℕ). slice_index s agent) is ∙ get_or-set_other steps report.agent agent mine 0 ne))
              (as-far b.reports report agent _ ne (b.each agent h)))
          | inr g2 ↦
              let e : report.agent ≡ agent = omega arith in
              subst (λ a. IsFurthest (b.reports ++ report ∷ []) a (slice_index new a)) e
              (subst (IsFurthest (b.reports ++ report ∷ []) report.agent)
              (sym (ap (λ (s : List ℕ). slice_index s report.agent) is ∙ get_or-set_same steps report.agent mine 0 (omega arith)))
              (further b.reports report (slice_index steps report.agent) (b.each report.agent known)))
        ]
      ];
    }

pub tells-end : (agents : ℕ) (text rest : List ℕ) (count : ℕ) (steps : List ℕ) → Behind agents text rest count steps → IsLine rest → TellsSteps agents text steps
tells-end agents text rest count steps b is_cut = record {
  reports = b.reports;
  holds = record { lines = b.lines; cut = rest; whole = b.whole; is_cut = is_cut; text_is = b.text_is; said = b.said };
  all = b.all;
  each = b.each;
}

pub tells-bad : (agents : ℕ) (text rest line after : List ℕ) (count : ℕ) (steps : List ℕ) → Behind agents text rest count steps → IsLine line →
    rest ≡ line ++ 10 ∷ after → ((report : Report) → ¬ IsArrival agents line report) → IsFirstBad agents text (count + 1)
tells-bad agents text rest line after count steps b is_line parts none = record {
  reports = b.reports;
  before = b.lines;
  line = line;
  rest = after;
  whole = b.whole;
  is_line = is_line;
  text_is = b.text_is ∙ ap (λ (t : List ℕ). text_of b.lines ++ t) parts;
  place = ap (λ n. n + 1) b.count_is;
  said = b.said;
  bad = none;
}
