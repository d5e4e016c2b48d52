-- From what `clap` takes to what the settings mean.
use Rattle.std.proofs.Common.{◌≡◌, ◌≤◌, ◌<◌, ◌^◌, ℕ, List, [], ◌∷◌, refl, sym, ap, ◌∙◌, Bool, true, false, cond, None, Some, Option, subst, is_some, codes, ◌&&◌, ◌||◌, not, option_map, nat_lt, arith, ltb-true, leb-true, lit<}
use Rattle.std.specs.Prelude.{MatchOption, find}
use Rattle.std.specs.List.{AllByRecursion, list_all, list_any}
use Rattle.std.specs.Str.{bytes_eq}
use Rattle.std.specs.Char.{digit_value}
use Rattle.std.specs.Str.Parse.{AllDigits, IsNumeral, digits_value, without_leading_plus}
use Rattle.clap.proofs.WalkLemmas.{both, list_any-map}
use Rattle.clap.specs.Facts.{parser_of_value}
use Rattle.clap.specs.ValueTests.{accepts}
use Rattle.clap.specs.Walk.{Rule, Text, action_of, arg_by_long, has_long, texts}
use Rattle.clap.specs.declared.builder.value_parser.ValueParser.TheVariants as vp
use Rattle.wh_options.specs.Setting.{Setting, value_of}
use Rattle.wh_options.specs.Options.{GivesFile, GivesHomes, GivesNumber, GivesPlanner, GivesReplies, GivesTail, MayGive, GivesVehicles, HasOnly, IsWritten, ends_text, planner_text, replies_text, tail_text}
use Rattle.wh_options.specs.Reads.{MayRead, ReadsNumber, ReadsVehicles, homes_of, planner_of, replies_of, tail_of}
use Rattle.wh_options.specs.Menu.{Choices, ends_words, planner_words, replies_words, tail_words}
use Rattle.wh_options.specs.declared.chosen.PlannerKind.{PlannerKind}
use Rattle.wh_options.specs.declared.chosen.PlannerKind.TheVariants.{Near}
use Rattle.wh_options.specs.declared.chosen.Tail.{Tail}
use Rattle.wh_options.specs.declared.chosen.Tail.TheVariants.{Nothing}
use Rattle.wh_options.specs.declared.chosen.Replies.{Replies}
use Rattle.wh_options.specs.declared.chosen.Replies.TheVariants.{Short}
use Rattle.wh_options.proofs.Shapes.{bytes_same, find_in}
use Rattle.wh_options.specs.declared.chosen.VehicleOptions.{VehicleOptions}
use Rattle.wh_options.proofs.Leaf.{ArePlain, is_set, long_plain, suits_set}
use Rattle.wh_options.proofs.Words.{self_same}
use Rattle.wh_options.proofs.Rows.{IsTaken}

pub some_same : {X : Type 0} (x y : X) → ◌≡◌ {A = Option X} (Some x) (Some y) → x ≡ y
some_same x y e = cc

-- ---- the names that a command takes

-- the ids of the options and switches
abbrev pub option_ids : List Rule → List Text
option_ids [] = []
option_ids (r ∷ rs) = cond (is_set (action_of r)) (r.id ∷ option_ids rs) (option_ids rs)

more_ids : (name id : Text) (b : Bool) (ids : List Text) → list_any (bytes_eq name) ids ≡ true → list_any (bytes_eq name) (cond b (id ∷ ids) ids) ≡ true
more_ids name id true ids e = go (bytes_eq name id)
  where
    go : (c : Bool) → (c || list_any (bytes_eq name) ids) ≡ true
    go true = refl
    go false = e
more_ids name id false ids e = e

listed_step : (name : Text) (r a : Rule) (rs : List Rule) (b : Bool) → is_set (action_of a) ≡ true → a.id ≡ name → cond b (Some r) (arg_by_long rs name) ≡ Some a
    → (arg_by_long rs name ≡ Some a → list_any (bytes_eq name) (option_ids rs) ≡ true)
    → list_any (bytes_eq name) (option_ids (r ∷ rs)) ≡ true
listed_step name r a rs true opt id e ih =
    let is : r ≡ a = some_same r a e in
    let takes : is_set (action_of r) ≡ true = ap (λ (x : Rule). is_set (action_of x)) is ∙ opt in
    let same : bytes_eq name r.id ≡ true = subst (λ n. bytes_eq name n ≡ true) (sym (ap (λ (x : Rule). x.id) is ∙ id)) (self_same name) in
    rw (takes, same) refl
listed_step name r a rs false opt id e ih = more_ids name r.id (is_set (action_of r)) (option_ids rs) (ih e)

listed : (c : List Rule) (name : Text) (a : Rule) → is_set (action_of a) ≡ true → a.id ≡ name → arg_by_long c name ≡ Some a → list_any (bytes_eq name) (option_ids c) ≡ true
listed [] name a opt id e = cc
listed (r ∷ rs) name a opt id e = listed_step name r a rs (not (is_some r.index) && has_long r name) opt id e (listed rs name a opt id)

pub only_names : (c : List Rule) (settings : List Setting) → ArePlain c → AllByRecursion (IsTaken c) settings → HasOnly (option_ids c) settings
only_names c [] all taken = tt
only_names c (x ∷ xs) all taken =
    let t = taken.0 in
    (listed c x.name t.0 (suits_set x.way t.0 t.2) (long_plain c x.name t.0 all t.1).1 t.1, only_names c xs all taken.1)

-- ---- the value of a name

with_value : (o : Option Setting) (text : Text) → option_map (λ (s : Setting). s.value) o ≡ Some text → (x : Setting) × (o ≡ Some x) × (x.value ≡ text)
with_value None text e = cc
with_value (Some x) text e = (x, refl, cc)

-- the value given for a name passes the parser of that name's option
taken_value : (c : List Rule) (settings : List Setting) (name text : Text) (r : Rule) → AllByRecursion (IsTaken c) settings → arg_by_long c name ≡ Some r
    → value_of name settings ≡ Some text → accepts r.ignore_case (parser_of_value r.parser) text ≡ true
taken_value c settings name text r taken is e =
    let got = with_value (find (λ (s : Setting). bytes_eq s.name name) settings) text e in
    let fact = find_in (IsTaken c) (λ (s : Setting). bytes_eq s.name name) settings got.0 taken got.1 in
    let same_name : got.0.name ≡ name = bytes_same _ _ fact.1 in
    let rule : Some fact.0.0 ≡ Some r = sym fact.0.1 ∙ ap (arg_by_long c) same_name ∙ is in
    let same_rule : fact.0.0 ≡ r = some_same _ _ rule in
    let passed : accepts r.ignore_case (parser_of_value r.parser) got.0.value ≡ true = subst (λ (q : Rule). accepts q.ignore_case (parser_of_value q.parser) got.0.value ≡ true) same_rule fact.0.3 in
    subst (λ t. accepts r.ignore_case (parser_of_value r.parser) t ≡ true) got.2 passed

-- ---- numbers

all_digits : (ds : List ℕ) → list_all (λ d. nat_lt (digit_value d) 10) ds ≡ true → AllDigits 10 ds
all_digits [] e = tt
all_digits (d ∷ ds) e =
    let b = both _ _ e in
    (ltb-true (digit_value d) 10 b.0, all_digits ds b.1)

number_step : (o : Option Text) (least most default n : ℕ) → most < 2 ^ 32
    → ((text : Text) → o ≡ Some text → accepts false (vp.Unsigned least most) text ≡ true)
    → ReadsNumber o default n → MatchOption o (n ≡ default) (λ text. IsWritten n text × (least ≤ n) × (n ≤ most))
number_step None least most default n fits passes reads = reads
number_step (Some text) least most default n fits passes reads =
    let p = both _ _ (passes text refl) in
    let digits = both _ _ p.0 in
    let within = both _ _ (both _ _ p.1).1 in
    let numeral : IsNumeral 10 (without_leading_plus text) = (ltb-true _ _ digits.0, all_digits (without_leading_plus text) digits.1) in
    let low : least ≤ digits_value 10 (without_leading_plus text) = leb-true _ _ within.0 in
    let high : digits_value 10 (without_leading_plus text) ≤ most = leb-true _ _ within.1 in
    let is : n ≡ digits_value 10 (without_leading_plus text) = reads numeral (omega arith) in
    ((numeral, is), rw is low, rw is high)

pub number_given : (c : List Rule) (settings : List Setting) (name : Text) (least most default n : ℕ) → most < 2 ^ 32 → AllByRecursion (IsTaken c) settings
    → (r : Rule) → arg_by_long c name ≡ Some r → r.ignore_case ≡ false → r.parser ≡ Some (vp.Unsigned least most)
    → (o : Option Text) → o ≡ value_of name settings → ReadsNumber o default n → GivesNumber settings name default least most n
number_given c settings name least most default n fits taken r is case parser o same reads =
    number_step (value_of name settings) least most default n fits
    (λ text e. let p = taken_value c settings name text r taken is e in rw (case, parser) at p)
    (subst (λ q. ReadsNumber q default n) same reads)

-- a number that may be given, and has no default
may_step : (o : Option Text) (least most : ℕ) (read : Option ℕ) → most < 2 ^ 32 → ((text : Text) → o ≡ Some text → accepts false (vp.Unsigned least most) text ≡ true)
    → MayRead o read → MatchOption o (read ≡ None) (λ text. (n : ℕ) × (read ≡ Some n) × IsWritten n text × (least ≤ n) × (n ≤ most))
may_step None least most read fits passes reads = reads
may_step (Some text) least most read fits passes reads =
    let n = number_step (Some text) least most 0 reads.0 fits passes reads.2 in
    (reads.0, reads.1, n.0, n.1, n.2)

pub may_given : (c : List Rule) (settings : List Setting) (name : Text) (least most : ℕ) (read : Option ℕ) → most < 2 ^ 32 → AllByRecursion (IsTaken c) settings
    → (r : Rule) → arg_by_long c name ≡ Some r → r.ignore_case ≡ false → r.parser ≡ Some (vp.Unsigned least most)
    → (o : Option Text) → o ≡ value_of name settings → MayRead o read → MayGive settings name least most read
may_given c settings name least most read fits taken r is case parser o same reads =
    may_step (value_of name settings) least most read fits
    (λ text e. let p = taken_value c settings name text r taken is e in rw (case, parser) at p)
    (subst (λ q. MayRead q read) same reads)

-- ---- vehicles

pub vehicles_given : (c : List Rule) (settings : List Setting) (vehicles : Option VehicleOptions) → AllByRecursion (IsTaken c) settings
    → (b : Rule) → arg_by_long c (codes "behind") ≡ Some b → b.ignore_case ≡ false → b.parser ≡ Some (vp.Unsigned 1 1000)
    → (a : Rule) → arg_by_long c (codes "ahead") ≡ Some a → a.ignore_case ≡ false → a.parser ≡ Some (vp.Unsigned 1 1000)
    → (given : Text → Option Text) → ((id : Text) → given id ≡ value_of id settings) → ReadsVehicles given vehicles → GivesVehicles settings vehicles
vehicles_given c settings vehicles taken b b_found b_case b_parser a a_found a_case a_parser given same reads = record {
  pace = reads.pace;
  behind = number_given c settings (codes "behind") 1 1000 8 reads.pace.behind (lit< tt) taken b b_found b_case b_parser _ (same (codes "behind")) reads.behind;
  ahead = number_given c settings (codes "ahead") 1 1000 1 reads.pace.ahead (lit< tt) taken a a_found a_case a_parser _ (same (codes "ahead")) reads.ahead;
  is = subst (λ o. MatchOption o (vehicles ≡ None) (λ text. vehicles ≡ Some reads.pace)) (same (codes "vehicles")) reads.is;
}

-- ---- words

one_of_words : (choices : Choices) (words : List Text) (text : Text) → texts choices.now ≡ words → accepts false (vp.Names choices) text ≡ true
    → list_any (λ w. bytes_eq w text) words ≡ true
one_of_words choices words text is e = subst (λ ws. list_any (λ w. bytes_eq w text) ws ≡ true) is (sym (list_any-map (λ w. bytes_eq w text) (λ s. s.now) choices.now) ∙ e)

planner_text_is : (text : Text) (near patient : Bool) → bytes_eq (codes "near") text ≡ near → bytes_eq (codes "patient") text ≡ patient
    → (near || (patient || false)) ≡ true → text ≡ planner_text (planner_of (Some text))
planner_text_is text near true n p e = subst (λ t. t ≡ planner_text (planner_of (Some t))) (bytes_same (codes "patient") text p) refl
planner_text_is text true false n p e = subst (λ t. t ≡ planner_text (planner_of (Some t))) (bytes_same (codes "near") text n) refl
planner_text_is text false false n p e = cc

pub planner_given : (c : List Rule) (settings : List Setting) (planner : PlannerKind) → AllByRecursion (IsTaken c) settings
    → (choices : Choices) → texts choices.now ≡ planner_words
    → (r : Rule) → arg_by_long c (codes "planner") ≡ Some r → r.ignore_case ≡ false → r.parser ≡ Some (vp.Names choices)
    → (o : Option Text) → o ≡ value_of (codes "planner") settings → planner ≡ planner_of o → GivesPlanner settings planner
planner_given c settings planner taken choices words r is case parser o same reads =
    go (value_of (codes "planner") settings) refl (reads ∙ ap planner_of same)
  where
    go : (v : Option Text) → value_of (codes "planner") settings ≡ v → planner ≡ planner_of v → MatchOption v (planner ≡ Near) (λ text. text ≡ planner_text planner)
    go None e p = p
    go (Some text) e p =
        let t = taken_value c settings (codes "planner") text r taken is e in
        let one = one_of_words choices planner_words text words (rw (case, parser) at t) in
        planner_text_is text _ _ refl refl one ∙ ap planner_text (sym p)

ends_text_is : (text : Text) (stops homes : Bool) → bytes_eq (codes "stops") text ≡ stops → bytes_eq (codes "homes") text ≡ homes
    → (stops || (homes || false)) ≡ true → text ≡ ends_text (homes_of (Some text))
ends_text_is text stops true s h e = subst (λ t. t ≡ ends_text (homes_of (Some t))) (bytes_same (codes "homes") text h) refl
ends_text_is text true false s h e = subst (λ t. t ≡ ends_text (homes_of (Some t))) (bytes_same (codes "stops") text s) refl
ends_text_is text false false s h e = cc

pub ends_given : (c : List Rule) (settings : List Setting) (homes : Bool) → AllByRecursion (IsTaken c) settings
    → (choices : Choices) → texts choices.now ≡ ends_words
    → (r : Rule) → arg_by_long c (codes "ends") ≡ Some r → r.ignore_case ≡ false → r.parser ≡ Some (vp.Names choices)
    → (o : Option Text) → o ≡ value_of (codes "ends") settings → homes ≡ homes_of o → GivesHomes settings homes
ends_given c settings homes taken choices words r is case parser o same reads =
    go (value_of (codes "ends") settings) refl (reads ∙ ap homes_of same)
  where
    go : (v : Option Text) → value_of (codes "ends") settings ≡ v → homes ≡ homes_of v → MatchOption v (homes ≡ false) (λ text. text ≡ ends_text homes)
    go None e p = p
    go (Some text) e p =
        let t = taken_value c settings (codes "ends") text r taken is e in
        let one = one_of_words choices ends_words text words (rw (case, parser) at t) in
        ends_text_is text _ _ refl refl one ∙ ap ends_text (sym p)

tail_text_is : (text : Text) (a b d : Bool) → bytes_eq (codes "none") text ≡ a → bytes_eq (codes "log") text ≡ b → bytes_eq (codes "ledger") text ≡ d
    → (a || (b || (d || false))) ≡ true → text ≡ tail_text (tail_of (Some text))
tail_text_is text a b true p q r e = subst (λ t. t ≡ tail_text (tail_of (Some t))) (bytes_same (codes "ledger") text r) refl
tail_text_is text a true false p q r e = subst (λ t. t ≡ tail_text (tail_of (Some t))) (bytes_same (codes "log") text q) refl
tail_text_is text true false false p q r e = subst (λ t. t ≡ tail_text (tail_of (Some t))) (bytes_same (codes "none") text p) refl
tail_text_is text false false false p q r e = cc

pub tail_given : (c : List Rule) (settings : List Setting) (tail : Tail) → AllByRecursion (IsTaken c) settings
    → (choices : Choices) → texts choices.now ≡ tail_words
    → (r : Rule) → arg_by_long c (codes "tail") ≡ Some r → r.ignore_case ≡ false → r.parser ≡ Some (vp.Names choices)
    → (o : Option Text) → o ≡ value_of (codes "tail") settings → tail ≡ tail_of o → GivesTail settings tail
tail_given c settings tail taken choices words r is case parser o same reads =
    go (value_of (codes "tail") settings) refl (reads ∙ ap tail_of same)
  where
    go : (v : Option Text) → value_of (codes "tail") settings ≡ v → tail ≡ tail_of v → MatchOption v (tail ≡ Nothing) (λ text. text ≡ tail_text tail)
    go None e p = p
    go (Some text) e p =
        let t = taken_value c settings (codes "tail") text r taken is e in
        let one = one_of_words choices tail_words text words (rw (case, parser) at t) in
        tail_text_is text _ _ _ refl refl refl one ∙ ap tail_text (sym p)

replies_text_is : (text : Text) (short full placed : Bool) → bytes_eq (codes "short") text ≡ short → bytes_eq (codes "full") text ≡ full → bytes_eq (codes "placed") text ≡ placed
    → (short || (full || (placed || false))) ≡ true → text ≡ replies_text (replies_of (Some text))
replies_text_is text short full true s f p e = subst (λ t. t ≡ replies_text (replies_of (Some t))) (bytes_same (codes "placed") text p) refl
replies_text_is text short true false s f p e = subst (λ t. t ≡ replies_text (replies_of (Some t))) (bytes_same (codes "full") text f) refl
replies_text_is text true false false s f p e = subst (λ t. t ≡ replies_text (replies_of (Some t))) (bytes_same (codes "short") text s) refl
replies_text_is text false false false s f p e = cc

pub replies_given : (c : List Rule) (settings : List Setting) (replies : Replies) → AllByRecursion (IsTaken c) settings
    → (choices : Choices) → texts choices.now ≡ replies_words
    → (r : Rule) → arg_by_long c (codes "replies") ≡ Some r → r.ignore_case ≡ false → r.parser ≡ Some (vp.Names choices)
    → (o : Option Text) → o ≡ value_of (codes "replies") settings → replies ≡ replies_of o → GivesReplies settings replies
replies_given c settings replies taken choices words r is case parser o same reads =
    go (value_of (codes "replies") settings) refl (reads ∙ ap replies_of same)
  where
    go : (v : Option Text) → value_of (codes "replies") settings ≡ v → replies ≡ replies_of v → MatchOption v (replies ≡ Short) (λ text. text ≡ replies_text replies)
    go None e p = p
    go (Some text) e p =
        let t = taken_value c settings (codes "replies") text r taken is e in
        let one = one_of_words choices replies_words text words (rw (case, parser) at t) in
        replies_text_is text _ _ _ refl refl refl one ∙ ap replies_text (sym p)

-- ---- a file

pub file_given : (c : List Rule) (settings : List Setting) (name : Text) (file : Option Text) → AllByRecursion (IsTaken c) settings
    → (r : Rule) → arg_by_long c name ≡ Some r → r.parser ≡ Some vp.NonEmptyString
    → (o : Option Text) → o ≡ value_of name settings → file ≡ o → GivesFile settings name file
file_given c settings name file taken r is parser o same reads = record {
  is = reads ∙ same;
  named = λ empty.
      let t = taken_value c settings name [] r taken is (sym same ∙ sym reads ∙ empty) in
      let bad : false ≡ true = rw parser at t in
      cc;
}
