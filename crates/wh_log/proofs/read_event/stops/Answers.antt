use Rattle.std.proofs.Common.{rules, ◌≡◌, ◌≤◌, ℕ, true, false, List, length, codes, sym, ap, ◌∙◌}
use Rattle.std.specs.Str.{bytes_eq}
use Rattle.wh_log.specs.ReadEvents.{names_at}
use Rattle.wh_log.proofs.Loops.{with_names, names_go, stops_done, stops_fault, stops_many, stops_cut}
use Rattle.wh_log.proofs.read_event.stops.Goals as goal

pub returns-then-eq : goal.returns-then-eq
returns-then-eq c =
    let here : bytes_eq c.in-Some.word.now (codes "=") ≡ true = search rules in
    stops_done c.args.most c.loop-word.names.items c.in-Some.word.now c.next_word.new.self c.args.words.now c.counted.result here
    (ap (λ (words : List (List ℕ)). with_names c.loop-word.names.items (names_at words)) (sym c.in-Some.ensures) ∙ c.loop-word.invariant) c.counted.ensures

pub returns-in_default-read : goal.returns-in_default-read
returns-in_default-read c =
    let other : bytes_eq c.in-Some.word.now (codes "=") ≡ false = search rules in
    stops_fault c.args.most c.loop-word.names.items c.in-Some.word.now c.next_word.new.self c.args.words.now other (sym c.read.ensures ∙ c.in_default-read.is)
    (ap (λ (words : List (List ℕ)). with_names c.loop-word.names.items (names_at words)) (sym c.in-Some.ensures) ∙ c.loop-word.invariant)

pub returns-then-is_full : goal.returns-then-is_full
returns-then-is_full c =
    let other : bytes_eq c.in-Some.word.now (codes "=") ≡ false = search rules in
    let full : 8 ≤ length c.loop-word.names.items = search rules in
    stops_many c.args.most c.loop-word.names.items c.in-Some.word.now c.next_word.new.self c.args.words.now c.in-Some-read.name c.requires full other (sym c.read.ensures ∙ c.in-Some-read.is)
    (ap (λ (words : List (List ℕ)). with_names c.loop-word.names.items (names_at words)) (sym c.in-Some.ensures) ∙ c.loop-word.invariant)

pub loop-word-preserved : goal.loop-word-preserved
loop-word-preserved c =
    let other : bytes_eq c.in-Some.word.now (codes "=") ≡ false = search rules in
    rw c.push.ensures.items (names_go c.loop-word.names.items c.in-Some.word.now c.next_word.new.self c.in-Some-read.name (names_at c.args.words.now) other (sym c.read.ensures ∙ c.in-Some-read.is)
    (ap (λ (words : List (List ℕ)). with_names c.loop-word.names.items (names_at words)) (sym c.in-Some.ensures) ∙ c.loop-word.invariant))

pub returns : goal.returns
returns c =
    stops_cut c.args.most c.loop-word.names.items c.args.words.now
    (ap (λ (words : List (List ℕ)). with_names c.loop-word.names.items (names_at words)) (sym c.in_default.ensures.0) ∙ c.loop-word.invariant)
