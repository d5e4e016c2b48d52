use Rattle.std.proofs.Common.{◌≡◌, ◌++◌, ◌∷◌, [], ℕ, List, sym, ap, ◌∙◌}
use Rattle.wh_front.specs.Reading.{counts_of}
use Rattle.wh_front.proofs.ReadLoops.{with_front, counts_start, counts_go, counts_fault, counts_done}
use Rattle.wh_front.proofs.read_lists.counts.Goals as goal

pub loop-word-init : goal.loop-word-init
loop-word-init c = rw c.none-counts.ensures (counts_start c.args.words)

pub returns-in_default-next_count : goal.returns-in_default-next_count
returns-in_default-next_count c =
    counts_fault c.loop-word.counts c.loop-word.least c.in-Some.word.now c.next_word.new.self (counts_of 0 c.args.words) (sym c.next_count.ensures.value ∙ c.in_default-next_count.is)
    (ap (λ (words : List (List ℕ)). with_front c.loop-word.counts (counts_of c.loop-word.least words)) (sym c.in-Some.ensures) ∙ c.loop-word.invariant)

pub loop-word-preserved : goal.loop-word-preserved
loop-word-preserved c =
    let longer : c.push.new.self ≡ c.loop-word.counts ++ c.in-Some-next_count.count ∷ [] = c.in_ok-push.ensures.ok in
    rw longer (counts_go c.loop-word.counts c.loop-word.least c.in-Some.word.now c.next_word.new.self c.in-Some-next_count.count (counts_of 0 c.args.words) (sym c.next_count.ensures.value ∙ c.in-Some-next_count.is)
    (ap (λ (words : List (List ℕ)). with_front c.loop-word.counts (counts_of c.loop-word.least words)) (sym c.in-Some.ensures) ∙ c.loop-word.invariant))

pub returns : goal.returns
returns c =
    counts_done c.loop-word.counts c.loop-word.least (counts_of 0 c.args.words)
    (ap (λ (words : List (List ℕ)). with_front c.loop-word.counts (counts_of c.loop-word.least words)) (sym c.in_default.ensures.0) ∙ c.loop-word.invariant)
