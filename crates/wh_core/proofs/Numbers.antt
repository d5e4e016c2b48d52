-- tasks are numbered in the order in which they are accepted
use Rattle.std.proofs.Common.{◌≡◌, ℕ, ◌+◌, ◌<◌, ◌∙◌, List, [], ◌∷◌, length, get_or, subst, ap, arith, length-append}
use Prim.Native.Nat.{zero, suc}
use Rattle.std.proofs.lemmas.List.{length-set, length-map}
use Rattle.wh_points.specs.Points.{Site}
use Rattle.wh_core.specs.States.{State}
use Rattle.wh_core.specs.Steps.{Answers, Run}
use Rattle.wh_core.specs.Laws.{accepted, accepted_by, CountFrom, IsReached}
use Rattle.wh_event.specs.declared.event.Spare.{Spare}
use Rattle.wh_event.specs.declared.event.Event.{Event}
use Rattle.wh_event.specs.declared.reply.Reply.{Reply}
use Rattle.wh_event.specs.declared.entry.Entry.{Entry}

count-same : (a b last : ℕ) (numbers : List ℕ) → b ≡ a → CountFrom b numbers last → CountFrom a numbers last
count-same a b last numbers e counts = subst (λ n. CountFrom n numbers last) e counts

count-each : (a b n last : ℕ) (numbers : List ℕ) → n ≡ a → b ≡ a + 1 → CountFrom b numbers last → (k : ℕ) → k < length (n ∷ numbers) → get_or (n ∷ numbers) k 0 ≡ a + k
count-each a b n last numbers is next counts zero h = omega arith
count-each a b n last numbers is next counts (suc k) h = (let e = counts.each k (omega arith) in omega arith)

count-more : (a b n last : ℕ) (numbers : List ℕ) → n ≡ a → b ≡ a + 1 → CountFrom b numbers last → CountFrom a (n ∷ numbers) last
count-more a b n last numbers is next counts = record {
  count = (let c = counts.count in omega arith);
  each = count-each a b n last numbers is next counts;
}

numbers-step : (site : Site) (old : State) (reply : Reply) (event : Event) (new : State) (numbers : List ℕ) (last : ℕ) → Answers site old reply event new →
    CountFrom (length new.tasks) numbers last → CountFrom (length old.tasks) (accepted_by reply numbers) last
numbers-step site old (Reply.Refused refusal) event new numbers last step counts =
    count-same _ _ last numbers (ap (λ s. length s.tasks) step.1) counts
numbers-step site old (Reply.Accepted n) (Event.Submit client stops) new numbers last step counts =
    count-more _ _ n last numbers step.1 (ap (λ s. length s.tasks) step.5.2 ∙ length-append _ _) counts
numbers-step site old (Reply.Took n path) (Event.Request agent) new numbers last step counts =
    count-same _ _ last numbers (ap (λ s. length s.tasks) step.1.3 ∙ length-map _ _ ∙ length-set _ _ _) counts
numbers-step site old Reply.Rested (Event.Request agent) new numbers last step counts =
    count-same _ _ last numbers (ap (λ s. length s.tasks) step.3) counts
numbers-step site old (Reply.Parked point path) (Event.Request agent) new numbers last step counts =
    count-same _ _ last numbers (ap (λ s. length s.tasks) step.4) counts
numbers-step site old (Reply.Clock now first final) Event.Tick new numbers last step counts =
    count-same _ _ last numbers (ap (λ s. length s.tasks) step.5 ∙ length-map _ _) counts
numbers-step site old (Reply.Replaced slots) (Event.Replace agent (Spare.Fits count)) new numbers last step counts =
    count-same _ _ last numbers (ap (λ s. length s.tasks) step.2) counts
numbers-step site old Reply.Closed Event.Close new numbers last step counts =
    count-same _ _ last numbers (ap (λ s. length s.tasks) step.1) counts
numbers-step site old reply event new numbers last step counts = absurd step

pub numbers-run : (site : Site) (old : State) (entries : List Entry) (new : State) → Run site old entries new →
    CountFrom (length old.tasks) (accepted entries) (length new.tasks)
numbers-run site old [] new run = record {
  count = (let e = ap (λ s. length s.tasks) run in omega arith);
  each = λ k h. absurd (omega arith);
}
numbers-run site old (entry ∷ entries) new run =
    numbers-step site old entry.reply entry.event run.0 (accepted entries) (length new.tasks) run.1 (numbers-run site run.0 entries new run.2)

pub numbers_count_up : (site : Site) (entries : List Entry) (s : State) (r : IsReached site entries s) →
    CountFrom (length r.opening.tasks) (accepted entries) (length s.tasks)
numbers_count_up site entries s r = numbers-run site r.opening entries s r.run
