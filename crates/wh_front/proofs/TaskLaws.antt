-- Tasks: what is read is so written, and what is so written is read.
use Rattle.std.proofs.Common.{◌≡◌, ℕ, ◌<◌, ◌≤◌, ◌^◌, Bool, true, false, cond, ◌&&◌, List, [], ◌∷◌, ◌++◌, map, length, Option, Some, None, decimal, codes, eqb, refl, ap, ◌∙◌, subst, arith, lit<, lit≤}
use Rattle.std.proofs.Math.Dec.{leb as nat_le}
use Rattle.std.proofs.lemmas.Bool.{leb-true, le-leb, ne_eqb, and_parts}
use Rattle.std.specs.Str.{bytes_eq}
use Rattle.std.specs.List.{AllByRecursion, list_all}
use Rattle.wh_text.specs.Numbers.{is_digit}
use Rattle.wh_words.specs.Words.{IsPlain}
use Rattle.wh_words.specs.Numerals.{numeral_of}
use Rattle.wh_words.proofs.NumeralLemmas.{numeral_found, numeral_again, decimal_digits}
use Rattle.wh_grid.specs.declared.cell.Cell.{Cell}
use Rattle.wh_tasks.specs.declared.task.Task.{Task}
use Rattle.wh_log.specs.Reading.{◌>>=◌, literal_at, at_end, first_at, small_at, clock_at, name_at}
use Rattle.wh_log.specs.Ranges.{IsClock}
use Rattle.wh_log.specs.Spelling.{cell_word}
use Rattle.wh_log.proofs.Steps.{bind_some, guard_some, some_is, bytes_are, by_name, literal_found, end_found, small_found, clock_at_found, name_found, small_again, clock_at_again, name_again}
use Rattle.wh_log.proofs.EventLaws.{name_plain}
use Rattle.wh_front.specs.declared.front.Submission.{Submission}
use Rattle.wh_front.specs.Spelling.{visits_words, who_words, submission_words}
use Rattle.wh_front.specs.Ranges.{WhoFits, TaskFits, SubmissionFits, IsTasks}
use Rattle.wh_front.specs.Reading.{if_so, cells_of, caller_of}
use Rattle.wh_front.specs.ReadTasks.{tasks_of, Holder, clock_of, clocks_at, counted_of, some_clocks_at, visits_at, open_at, agent_at, who_at, stops_of, submission_of}
use Rattle.wh_front.proofs.WordLaws.{after, caller_again, caller_at_found, cells_found, cells_again, cells_plain, plain_words, small_plain, clock_plain}

pub tasks_found : (words : List (List ℕ)) (y : ℕ) → tasks_of words ≡ Some y → (words ≡ decimal y ∷ []) × IsTasks y
unfolding tasks_of
tasks_found words y e =
    let a = bind_some (small_at words) (λ count. if_so (nat_le count.0 1000000) count.0 >>= λ tasks. at_end count.1 tasks) y e in
    let b = bind_some (if_so (nat_le a.0.0 1000000) a.0.0) (λ tasks. at_end a.0.1 tasks) y a.2 in
    let g = guard_some (nat_le a.0.0 1000000) a.0.0 b.0 b.1 in
    let d = end_found a.0.1 b.0 y b.2 in
    let n = small_found words a.0 a.1 in
    let whole : words ≡ decimal a.0.0 ∷ [] = n.0 ∙ after (decimal a.0.0) a.0.1 [] d.0 in
    subst (λ (k : ℕ). (words ≡ decimal k ∷ []) × IsTasks k) (g.1 ∙ d.1) (whole, leb-true _ _ g.0)

pub tasks_again : (count : ℕ) → IsTasks count → tasks_of (decimal count ∷ []) ≡ Some count
unfolding tasks_of
tasks_again count h =
    let limit : 1000000 < 10 ^ 9 = lit< tt in
    let high : nat_le count 1000000 ≡ true = le-leb _ _ h in
    rw (small_again count (omega (arith, h)), high) refl

-- ---- visits
clock_found : (word : List ℕ) (n : ℕ) → clock_of word ≡ Some n → (word ≡ decimal n) × IsClock n
clock_found word n e =
    let b = bind_some (numeral_of 10 word) (λ n. if_so (nat_le n 1000000000) n) n e in
    let g = guard_some (nat_le b.0 1000000000) b.0 n b.2 in
    let f = numeral_found 10 word b.0 (lit≤ tt) b.1 in
    subst (λ (m : ℕ). (word ≡ decimal m) × IsClock m) g.1 (f.0, leb-true _ _ g.0)

clock_again : (n : ℕ) → IsClock n → clock_of (decimal n) ≡ Some n
clock_again n h =
    let limit : 1000000000 < 10 ^ 10 = lit< tt in
    let small : nat_le n 1000000000 ≡ true = le-leb _ _ h in
    rw (numeral_again 10 n (lit< tt) (lit≤ tt) (omega (arith, h)), small) refl

-- the visits of y.0 stand here, and y.1 behind the word `stops`
abbrev AreClocksAt : List (List ℕ) → List ℕ × List (List ℕ) → Type 0
AreClocksAt words y = (words ≡ map decimal y.0 ++ codes "stops" ∷ y.1) × AllByRecursion IsClock y.0

clocks_found : (words : List (List ℕ)) (y : List ℕ × List (List ℕ)) → clocks_at words ≡ Some y → AreClocksAt words y
unfolding clocks_at
clocks_found [] y e = absurd cc
clocks_found (word ∷ words) y e = go (bytes_eq word (codes "stops")) refl e (clocks_found words)
  where
    go : (v : Bool) → bytes_eq word (codes "stops") ≡ v
        → cond v (Some ([], words)) (clock_of word >>= λ clock. clocks_at words >>= λ rest. Some (clock ∷ rest.0, rest.1)) ≡ Some y
        → ((z : List ℕ × List (List ℕ)) → clocks_at words ≡ Some z → AreClocksAt words z) → AreClocksAt (word ∷ words) y
    go true is e more =
        let whole : word ∷ words ≡ codes "stops" ∷ words = ap (λ (w : List ℕ). w ∷ words) (bytes_are word (codes "stops") is) in
        subst (AreClocksAt (word ∷ words)) (some_is ([], words) y e) (whole, tt)
    go false is e more =
        let a = bind_some (clock_of word) (λ clock. clocks_at words >>= λ rest. Some (clock ∷ rest.0, rest.1)) y e in
        let b = bind_some (clocks_at words) (λ rest. Some (a.0 ∷ rest.0, rest.1)) y a.2 in
        let n = clock_found word a.0 a.1 in
        let rest = more b.0 b.1 in
        let whole : word ∷ words ≡ decimal a.0 ∷ (map decimal b.0.0 ++ codes "stops" ∷ b.0.1) = ap (λ (w : List ℕ). w ∷ words) n.0 ∙ ap (λ (ws : List (List ℕ)). decimal a.0 ∷ ws) rest.0 in
        subst (AreClocksAt (word ∷ words)) (some_is (a.0 ∷ b.0.0, b.0.1) y b.2) (whole, (n.1, rest.1))

-- digits are not the word `stops`
digits_differ : (ds : List ℕ) → list_all is_digit ds ≡ true → bytes_eq ds (codes "stops") ≡ false
digits_differ [] h = refl
digits_differ (d ∷ ds) h =
    let b = and_parts (is_digit d) (list_all is_digit ds) h in
    let both = and_parts (nat_le 48 d) (nat_le d 57) b.0 in
    let high : d ≤ 57 = leb-true _ _ both.1 in
    let no : eqb d 115 ≡ false = ne_eqb d 115 (λ e. absurd (omega arith)) in
    rw no refl

clocks_again : (clocks : List ℕ) (rest : List (List ℕ)) → AllByRecursion IsClock clocks → clocks_at (map decimal clocks ++ codes "stops" ∷ rest) ≡ Some (clocks, rest)
unfolding clocks_at
clocks_again [] rest h = refl
clocks_again (clock ∷ clocks) rest h =
    let limit : 1000000000 < 2 ^ 64 = lit< tt in
    rw (digits_differ (decimal clock) (decimal_digits clock (omega (arith, h.0))), clock_again clock h.0, clocks_again clocks rest h.1) refl

record AreVisitsAt (words : List (List ℕ)) (y : List ℕ × List (List ℕ)) : Type 0 where
  words_are : words ≡ visits_words y.0 ++ codes "stops" ∷ y.1
  clocks : AllByRecursion IsClock y.0

some_found : (words : List (List ℕ)) (y : List ℕ × List (List ℕ)) → some_clocks_at words ≡ Some y → AreVisitsAt (codes "visits" ∷ words) y
unfolding some_clocks_at
some_found words y e =
    let a = bind_some (clocks_at words) (λ clocks. counted_of clocks.0 >>= λ counted. Some (counted, clocks.1)) y e in
    let b = bind_some (counted_of a.0.0) (λ counted. Some (counted, a.0.1)) y a.2 in
    let g = guard_some (nat_le 1 (length a.0.0) && nat_le (length a.0.0) 8) a.0.0 b.0 b.1 in
    let both = and_parts (nat_le 1 (length a.0.0)) (nat_le (length a.0.0) 8) g.0 in
    let f = clocks_found words a.0 a.1 in
    let same : (a.0.0, a.0.1) ≡ y = ap (λ (clocks : List ℕ). (clocks, a.0.1)) g.1 ∙ some_is (b.0, a.0.1) y b.2 in
    subst (AreVisitsAt (codes "visits" ∷ words)) same (go a.0.0 a.0.1 f.0 f.1 (leb-true _ _ both.0))
  where
    go : (clocks : List ℕ) (rest : List (List ℕ)) → words ≡ map decimal clocks ++ codes "stops" ∷ rest → AllByRecursion IsClock clocks → 1 ≤ length clocks → AreVisitsAt (codes "visits" ∷ words) (clocks, rest)
    go [] rest p h some = absurd (omega arith)
    go (clock ∷ clocks) rest p h some = record { words_are = after (codes "visits") words _ p; clocks = h }

visits_found : (words : List (List ℕ)) (y : List ℕ × List (List ℕ)) → visits_at words ≡ Some y → AreVisitsAt words y
unfolding visits_at
visits_found [] y e = absurd cc
visits_found (word ∷ words) y e =
    let P : List ℕ → Type 0 = λ n. AreVisitsAt (n ∷ words) y in
    by_name P word (codes "stops") _ _ y e (λ e. subst (AreVisitsAt (codes "stops" ∷ words)) (some_is ([], words) y e) (record { words_are = refl; clocks = tt })) (λ e.
    by_name P word (codes "visits") _ _ y e (some_found words y) (λ e. absurd cc))

visits_again : (visits : List ℕ) (rest : List (List ℕ)) → AllByRecursion IsClock visits → length visits ≤ 8 → visits_at (visits_words visits ++ codes "stops" ∷ rest) ≡ Some (visits, rest)
unfolding visits_at some_clocks_at
visits_again [] rest h few = refl
visits_again (clock ∷ clocks) rest h few =
    let some : nat_le 1 (length (clock ∷ clocks)) ≡ true = le-leb _ _ (omega arith) in
    let high : nat_le (length (clock ∷ clocks)) 8 ≡ true = le-leb _ _ few in
    rw (clocks_again (clock ∷ clocks) rest h, some, high) refl

-- ---- who has a task
record IsWhoAt (words : List (List ℕ)) (y : Holder × List (List ℕ)) : Type 0 where
  words_are : words ≡ who_words y.0.agent y.0.visits ++ codes "stops" ∷ y.1
  who : WhoFits y.0.agent y.0.visits
  clocks : AllByRecursion IsClock y.0.visits

open_found : (words : List (List ℕ)) (y : Holder × List (List ℕ)) → open_at words ≡ Some y → IsWhoAt (codes "open" ∷ words) y
unfolding open_at
open_found words y e =
    let a = bind_some (literal_at (codes "stops") words) (λ rest. Some (record { agent = None; visits = [] }, rest)) y e in
    let l = literal_found (codes "stops") words a.0 a.1 in
    let made : Holder × List (List ℕ) = (record { agent = None; visits = [] }, a.0) in
    subst (IsWhoAt (codes "open" ∷ words)) (some_is made y a.2) (record { words_are = after (codes "open") words _ l; who = refl; clocks = tt })

agent_found : (words : List (List ℕ)) (y : Holder × List (List ℕ)) → agent_at words ≡ Some y → IsWhoAt (codes "agent" ∷ words) y
unfolding agent_at
agent_found words y e =
    let a = bind_some (small_at words) (λ agent. visits_at agent.1 >>= λ visits. Some (record { agent = Some agent.0; visits = visits.0 }, visits.1)) y e in
    let b = bind_some (visits_at a.0.1) (λ visits. Some (record { agent = Some a.0.0; visits = visits.0 }, visits.1)) y a.2 in
    let n = small_found words a.0 a.1 in
    let v = visits_found a.0.1 b.0 b.1 in
    let made : Holder × List (List ℕ) = (record { agent = Some a.0.0; visits = b.0.0 }, b.0.1) in
    let whole : words ≡ decimal a.0.0 ∷ (visits_words b.0.0 ++ codes "stops" ∷ b.0.1) = n.0 ∙ after (decimal a.0.0) a.0.1 _ v.words_are in
    subst (IsWhoAt (codes "agent" ∷ words)) (some_is made y b.2) (record { words_are = after (codes "agent") words _ whole; who = n.1; clocks = v.clocks })

who_found : (words : List (List ℕ)) (y : Holder × List (List ℕ)) → who_at words ≡ Some y → IsWhoAt words y
unfolding who_at
who_found [] y e = absurd cc
who_found (word ∷ words) y e =
    let P : List ℕ → Type 0 = λ n. IsWhoAt (n ∷ words) y in
    by_name P word (codes "open") _ _ y e (open_found words y) (λ e.
    by_name P word (codes "agent") _ _ y e (agent_found words y) (λ e. absurd cc))

who_again : (agent : Option ℕ) (visits : List ℕ) (rest : List (List ℕ)) → WhoFits agent visits → AllByRecursion IsClock visits → length visits ≤ 8
    → who_at (who_words agent visits ++ codes "stops" ∷ rest) ≡ Some (record { agent = agent; visits = visits }, rest)
unfolding who_at open_at agent_at
who_again None visits rest who h few = rw who refl
who_again (Some agent) visits rest who h few = rw (small_again agent who, visits_again visits rest h few) refl

-- ---- a task
pub submission_found : (words : List (List ℕ)) (y : Submission) → submission_of words ≡ Some y → (words ≡ submission_words y) × SubmissionFits y
unfolding submission_of
submission_found words y e =
    let a = bind_some (first_at caller_of words) (λ caller. name_at caller.1 >>= λ client. clock_at client.1 >>= λ submitted. who_at submitted.1 >>= λ who. cells_of who.1 >>= λ cells. stops_of (length who.0.visits) cells >>= λ stops. Some (record { caller = caller.0; task = record { client = client.0; stops = stops; submitted = submitted.0; agent = who.0.agent; visits = who.0.visits } })) y e in
    let b = bind_some (name_at a.0.1) (λ client. clock_at client.1 >>= λ submitted. who_at submitted.1 >>= λ who. cells_of who.1 >>= λ cells. stops_of (length who.0.visits) cells >>= λ stops. Some (record { caller = a.0.0; task = record { client = client.0; stops = stops; submitted = submitted.0; agent = who.0.agent; visits = who.0.visits } })) y a.2 in
    let c = bind_some (clock_at b.0.1) (λ submitted. who_at submitted.1 >>= λ who. cells_of who.1 >>= λ cells. stops_of (length who.0.visits) cells >>= λ stops. Some (record { caller = a.0.0; task = record { client = b.0.0; stops = stops; submitted = submitted.0; agent = who.0.agent; visits = who.0.visits } })) y b.2 in
    let d = bind_some (who_at c.0.1) (λ who. cells_of who.1 >>= λ cells. stops_of (length who.0.visits) cells >>= λ stops. Some (record { caller = a.0.0; task = record { client = b.0.0; stops = stops; submitted = c.0.0; agent = who.0.agent; visits = who.0.visits } })) y c.2 in
    let f = bind_some (cells_of d.0.1) (λ cells. stops_of (length d.0.0.visits) cells >>= λ stops. Some (record { caller = a.0.0; task = record { client = b.0.0; stops = stops; submitted = c.0.0; agent = d.0.0.agent; visits = d.0.0.visits } })) y d.2 in
    let g = bind_some (stops_of (length d.0.0.visits) f.0) (λ stops. Some (record { caller = a.0.0; task = record { client = b.0.0; stops = stops; submitted = c.0.0; agent = d.0.0.agent; visits = d.0.0.visits } })) y f.2 in
    let many = nat_le 2 (length f.0) && nat_le (length f.0) 8 in
    let k = guard_some (many && nat_le (length d.0.0.visits) (length f.0)) f.0 g.0 g.1 in
    let sizes = and_parts many (nat_le (length d.0.0.visits) (length f.0)) k.0 in
    let both = and_parts (nat_le 2 (length f.0)) (nat_le (length f.0) 8) sizes.0 in
    let caller = caller_at_found words a.0 a.1 in
    let client = name_found a.0.1 b.0 b.1 in
    let submitted = clock_at_found b.0.1 c.0 c.1 in
    let who = who_found c.0.1 d.0 d.1 in
    let cells = cells_found d.0.1 f.0 f.1 in
    let task : Task = record { client = b.0.0; stops = f.0; submitted = c.0.0; agent = d.0.0.agent; visits = d.0.0.visits } in
    let made : Submission = record { caller = a.0.0; task = task } in
    let tail : c.0.1 ≡ who_words d.0.0.agent d.0.0.visits ++ codes "stops" ∷ map cell_word f.0 = who.words_are ∙ ap (λ (ws : List (List ℕ)). who_words d.0.0.agent d.0.0.visits ++ codes "stops" ∷ ws) cells.0 in
    let whole : words ≡ submission_words made =
    caller.0 ∙ after (decimal a.0.0) a.0.1 _ (client.0 ∙ after b.0.0 b.0.1 _ (submitted.0 ∙ after (decimal c.0.0) c.0.1 _ tail)) in
    let fits : TaskFits task = record { client = client.1; submitted = submitted.1; who = who.who; clocks = who.clocks; few = leb-true _ _ sizes.1; two = leb-true _ _ both.0; eight = leb-true _ _ both.1; cells = cells.1 } in
    let same : made ≡ y = ap (λ (stops : List Cell). let s : Submission = record { caller = a.0.0; task = record { client = b.0.0; stops = stops; submitted = c.0.0; agent = d.0.0.agent; visits = d.0.0.visits } } in s) k.1 ∙ some_is _ y g.2 in
    subst (λ (s : Submission). (words ≡ submission_words s) × SubmissionFits s) same (whole, (caller.1, fits))

pub submission_again : (s : Submission) → SubmissionFits s → submission_of (submission_words s) ≡ Some s
unfolding submission_of
submission_again s h =
    let t = s.task in
    let two : nat_le 2 (length t.stops) ≡ true = le-leb _ _ h.1.two in
    let eight : nat_le (length t.stops) 8 ≡ true = le-leb _ _ h.1.eight in
    let few : nat_le (length t.visits) (length t.stops) ≡ true = le-leb _ _ h.1.few in
    rw (
      caller_again s.caller h.0,
      name_again t.client h.1.client,
      clock_at_again t.submitted (who_words t.agent t.visits ++ codes "stops" ∷ map cell_word t.stops) h.1.submitted,
      who_again t.agent t.visits (map cell_word t.stops) h.1.who h.1.clocks (omega (arith, h.1.few, h.1.eight)),
      cells_again t.stops h.1.cells,
      two,
      eight,
      few,
    ) refl

-- ---- no space and no line feed stands in them
numbers_plain : (clocks : List ℕ) → AllByRecursion IsClock clocks → AllByRecursion IsPlain (map decimal clocks)
numbers_plain [] h = tt
numbers_plain (clock ∷ clocks) h = (clock_plain clock h.0, numbers_plain clocks h.1)

visits_plain : (visits : List ℕ) → AllByRecursion IsClock visits → AllByRecursion IsPlain (visits_words visits)
visits_plain [] h = tt
visits_plain (clock ∷ clocks) h = (refl, numbers_plain (clock ∷ clocks) h)

who_plain : (agent : Option ℕ) (visits : List ℕ) → WhoFits agent visits → AllByRecursion IsClock visits → AllByRecursion IsPlain (who_words agent visits)
who_plain None visits who h = (refl, tt)
who_plain (Some agent) visits who h = (refl, (small_plain agent who, visits_plain visits h))

pub submission_plain : (s : Submission) → SubmissionFits s → AllByRecursion IsPlain (submission_words s)
submission_plain s h =
    let t = s.task in
    let limit : 64 < 10 ^ 9 = lit< tt in (
      small_plain s.caller (omega (arith, h.0)),
      (
        name_plain t.client h.1.client,
        (
          clock_plain t.submitted h.1.submitted,
          plain_words (who_words t.agent t.visits) (codes "stops" ∷ map cell_word t.stops) (who_plain t.agent t.visits h.1.who h.1.clocks) (refl, cells_plain t.stops h.1.cells),
        ),
      ),
    )
