-- laws of chains of logs
use Rattle.std.proofs.Common.{◌≡◌, ◌⊎◌, ℕ, List, [], ◌++◌, take, get_or, sym, ap, ◌∙◌, subst, arith, inl, inr}
use Rattle.std.specs.Prelude.{Some}
use Rattle.std.proofs.lemmas.List.{append_assoc, take_all}
use Rattle.wh_points.specs.Points.{Site}
use Rattle.wh_core.specs.States.{State}
use Rattle.wh_core.specs.Steps.{Run}
use Rattle.wh_core.proofs.StepKinds.{run-join}
use Rattle.wh_event.specs.declared.entry.Entry.{Entry}
use Rattle.wh_log.specs.Logs.{Content}
use Rattle.wh_log.specs.Torn.{begun_lines}
use Rattle.wh_log.specs.declared.version.Version.{Version}
use Rattle.wh_log.specs.declared.version.Version.TheVariants.{One, Two}
use Rattle.wh_words.specs.Lines.{text_of}
use Rattle.wh_front.specs.declared.front.Front.{Front}
use Rattle.wh_front.specs.declared.rules.Kind.TheVariants as kind
use Rattle.wh_front.specs.Fronts.{Fits, front_text}
use Rattle.wh_front.proofs.Readings.{one_front}
use Rattle.wh_restore.specs.SoundFronts.{state_told}
use Rattle.wh_resume.specs.Behind.{IsVersionThree, entries_told}
use Rattle.wh_resume.proofs.FrontLaws.{front_three}
use Rattle.wh_handover.specs.Handing.{Told, HoldsFirst, HoldsLater}
use Rattle.wh_handover.specs.Chains.{Joins, as_far_as, due, due_by, match_with, matched}
use Rattle.wh_handover.specs.Chains as chains

not_three : (version : Version) (content : Content) (text rest : List ℕ) → text ≡ text_of (begun_lines version content) ++ rest → IsVersionThree text → ⊥
not_three One content text rest is three =
    let e : 49 ≡ 51 = ap (λ t. get_or t 5 0) (sym is ∙ three.is) in
    absurd (omega (arith, e))
not_three Two content text rest is three =
    let e : 50 ≡ 51 = ap (λ t. get_or t 5 0) (sym is ∙ three.is) in
    absurd (omega (arith, e))

-- a text that begins with a front tells what that front tells
pub opening_told : (site : Site) (text rest : List ℕ) (front : Front) (other : Told) → Fits front → text ≡ front_text front ++ rest → HoldsFirst site text other ⊎ HoldsLater site text other → other.opening ≡ state_told front
opening_told site text rest front other fits is (inl first) = absurd (not_three first.version first.content text first.holds.rest first.holds.text_is (front_three front rest text is))
opening_told site text rest front other fits is (inr later) =
    let behind : text ≡ front_text later.front ++ (entries_told later.entries ++ later.rest) = later.text_is ∙ append_assoc (front_text later.front) (entries_told later.entries) later.rest in
    let same = one_front front later.front rest (entries_told later.entries ++ later.rest) fits later.is_front.fits (sym is ∙ behind) in
    ap (λ (t : Told). t.opening) later.is ∙ ap (λ (f : Front). state_told f) (sym same.0)

pub one_text : (f g : Front) → Fits f → Fits g → front_text f ≡ front_text g → f ≡ g
one_text f g fits others is = (one_front f g [] [] fits others (ap (λ t. t ++ []) is)).0

some_same : {X : Type 0} (x y : X) → Some x ≡ Some y → x ≡ y
some_same x y e = cc

pub whole_joins_are_one_run : chains.WholeJoinsAreOneRun
whole_joins_are_one_run site first second whole led other (front, rest, fits, is, same, kind_is) tells =
    let is_whole : front.kind ≡ kind.Whole = sym (some_same kind.Whole front.kind kind_is) in
    let text_is : front_text whole ≡ front_text front = subst (λ k. front_text (due_by k whole front) ≡ front_text front) is_whole same in
    let one = one_text whole front led.fits fits text_is in
    let opening : other.opening ≡ led.state = opening_told site second rest front other fits is tells.holds ∙ ap (λ (f : Front). state_told f) (sym one) ∙ led.state_is in
    let all : take led.count led.told.entries ≡ led.told.entries = take_all led.count led.told.entries (let many = led.count_is in omega (arith, many)) in
    let run : Run site led.told.opening led.told.entries led.state = subst (λ (es : List Entry). Run site led.told.opening es led.state) all led.run in
    (tells.state, run-join site led.told.opening led.told.entries led.state other.entries tells.state run (subst (λ (s : State). Run site s other.entries tells.state) opening tells.run))
