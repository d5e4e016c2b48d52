use Rattle.std.proofs.Common.{rules, ◌≡◌, ◌≤◌, ◌++◌, ◌∷◌, [], ℕ, true, false, List, length, codes, sym, ap, ◌∙◌}
use Rattle.std.specs.Str.{bytes_eq}
use Rattle.wh_front.specs.ReadTasks.{clocks_at}
use Rattle.wh_front.proofs.ReadLoops.{with_clocks, clocks_start, clocks_go, clocks_done, clocks_fault, clocks_many, clocks_cut}
use Rattle.wh_front.proofs.read_task.clocks.Goals as goal

pub loop-word-init : goal.loop-word-init
loop-word-init c = rw c.none-visits.ensures (clocks_start c.args.words.now)

pub returns-then-eq : goal.returns-then-eq
returns-then-eq c =
    let here : bytes_eq c.in-Some.word.now (codes "stops") ≡ true = search rules in
    clocks_done c.loop-word.visits c.in-Some.word.now c.next_word.new.self c.args.words.now c.counted.result here
    (ap (λ (words : List (List ℕ)). with_clocks c.loop-word.visits (clocks_at words)) (sym c.in-Some.ensures) ∙ c.loop-word.invariant) c.counted.ensures

pub returns-in_default-clock : goal.returns-in_default-clock
returns-in_default-clock c =
    let other : bytes_eq c.in-Some.word.now (codes "stops") ≡ false = search rules in
    clocks_fault c.loop-word.visits c.in-Some.word.now c.next_word.new.self c.args.words.now other (sym c.clock.ensures ∙ c.in_default-clock.is)
    (ap (λ (words : List (List ℕ)). with_clocks c.loop-word.visits (clocks_at words)) (sym c.in-Some.ensures) ∙ c.loop-word.invariant)

pub returns-then-as_slice-ge8 : goal.returns-then-as_slice-ge8
returns-then-as_slice-ge8 c =
    let other : bytes_eq c.in-Some.word.now (codes "stops") ≡ false = search rules in
    let full : 8 ≤ length c.loop-word.visits = search rules in
    clocks_many c.loop-word.visits c.in-Some.word.now c.next_word.new.self c.args.words.now c.in-Some-clock.clock full other (sym c.clock.ensures ∙ c.in-Some-clock.is)
    (ap (λ (words : List (List ℕ)). with_clocks c.loop-word.visits (clocks_at words)) (sym c.in-Some.ensures) ∙ c.loop-word.invariant)

pub loop-word-preserved : goal.loop-word-preserved
loop-word-preserved c =
    let other : bytes_eq c.in-Some.word.now (codes "stops") ≡ false = search rules in
    let longer : c.push.new.self ≡ c.loop-word.visits ++ c.in-Some-clock.clock ∷ [] = c.push.ensures in
    rw longer (clocks_go c.loop-word.visits c.in-Some.word.now c.next_word.new.self c.in-Some-clock.clock (clocks_at c.args.words.now) other (sym c.clock.ensures ∙ c.in-Some-clock.is)
    (ap (λ (words : List (List ℕ)). with_clocks c.loop-word.visits (clocks_at words)) (sym c.in-Some.ensures) ∙ c.loop-word.invariant))

pub returns : goal.returns
returns c =
    clocks_cut c.loop-word.visits c.args.words.now
    (ap (λ (words : List (List ℕ)). with_clocks c.loop-word.visits (clocks_at words)) (sym c.in_default.ensures.0) ∙ c.loop-word.invariant)
