-- Words give at most one set of options.
use Rattle.std.proofs.Common.{◌≡◌, ◌≤◌, ℕ, List, [], ◌∷◌, ◌++◌, drop, refl, sym, ap, ap₂, ◌∙◌, Bool, true, false, cond, None, Some, Option, subst, inl, inr, codes, not, true≢false, append_assoc}
use Rattle.std.specs.Prelude.{MatchOption, filter, is_some, map, slice_get}
use Rattle.std.specs.List.{AllByRecursion, AllZip, after_first, before_first, flat_map}
use Rattle.std.specs.Str.{bytes_eq}
use Rattle.clap.specs.Lexer.{has_byte}
use Rattle.wh_options.specs.Setting.{Closes, IsInPlace, IsLine, Setting, Spelling, StandsBy, Text, alone, apart, is_switch, joined, spelled, spelled_by, value_of, values_of}
use Rattle.wh_options.specs.Options.{AreSame, EachGives, GivesFleet, GivesHomes, GivesLive, GivesNumber, GivesPlanner, GivesReplay, GivesReplies, GivesServe, GivesState, GivesTail, MayGive, GivesVehicles, GivesRule, GivesVerify, IsWritten, WordsGive, ends_text, planner_text, replies_text, tail_text}
use Rattle.wh_options.specs.declared.chosen.Options.{Options}
use Rattle.wh_options.specs.declared.chosen.Options.TheVariants.{Check, Replay, Verify, Live, Serve, State}
use Rattle.wh_options.specs.declared.chosen.VerifyOptions.{VerifyOptions}
use Rattle.wh_options.specs.declared.chosen.ServeOptions.{ServeOptions}
use Rattle.wh_options.specs.declared.chosen.StateOptions.{StateOptions}
use Rattle.wh_options.specs.declared.chosen.LiveOptions.{LiveOptions}
use Rattle.wh_options.specs.declared.chosen.ReplayOptions.{ReplayOptions}
use Rattle.wh_client.specs.Clients.{GivesClient}
use Rattle.wh_client.proofs.Listed.{clients_once}
use Rattle.wh_options.specs.declared.chosen.Fleet.{Fleet}
use Rattle.wh_options.specs.declared.chosen.VehicleOptions.{VehicleOptions}
use Rattle.wh_options.specs.declared.chosen.PlannerKind.{PlannerKind}
use Rattle.wh_options.specs.declared.chosen.PlannerKind.TheVariants.{Near, Patient}
use Rattle.wh_options.specs.declared.chosen.Tail.{Tail}
use Rattle.wh_options.specs.declared.chosen.Tail.TheVariants.{Nothing, Log, Ledger}
use Rattle.wh_options.specs.declared.chosen.Replies.{Replies}
use Rattle.wh_options.specs.declared.chosen.Replies.TheVariants.{Short, Full, Placed}
use Rattle.wh_options.proofs.Shapes.{is_equals}
use Rattle.wh_options.proofs.Spells.{cut_at_equals, has_equals}
use Rattle.wh_options.proofs.Rows.{first_value}
use Rattle.wh_options.proofs.Values.{some_same}
use Rattle.wh_options.proofs.Names.{Named, gives_named, other_word, plain_name}

-- ---- one setting

no_equals : (n : Text) → plain_name n ≡ true → has_byte 61 n ≡ false
no_equals [] e = cc
no_equals (b ∷ bs) e = go (has_byte 61 (b ∷ bs)) e
  where
    go : (c : Bool) → not c ≡ true → c ≡ false
    go true f = cc
    go false f = refl

abbrev first_or : List Text → Text
first_or [] = []
first_or (w ∷ ws) = w

abbrev written : Text → Text → Text
written n v = codes "--" ++ (n ++ (codes "=" ++ v))

same_written : (n v m w : Text) → has_byte 61 n ≡ false → has_byte 61 m ≡ false → written n v ≡ written m w → (n ≡ m) × (v ≡ w)
same_written n v m w p q e =
    let bare : n ++ 61 ∷ v ≡ m ++ 61 ∷ w = ap (drop 2) e in
    let one = cut_at_equals n v p in
    let two = cut_at_equals m w q in
    (sym one.0 ∙ ap (before_first is_equals) bare ∙ two.0, sym one.1 ∙ ap (after_first is_equals) bare ∙ two.1)

unlike : (n v m : Text) → has_byte 61 m ≡ false → written n v ≡ codes "--" ++ m → ⊥
unlike n v m q e =
    let bare : n ++ 61 ∷ v ≡ m = ap (drop 2) e in
    true≢false (sym (has_equals n v) ∙ ap (has_byte 61) bare ∙ q)

abbrev Same : Text → Text → Text → Text → List Text → List Text → Type 0
Same n v m w a b = (n ≡ m) × (v ≡ w) × (a ≡ b)

not_both : (n m : Text) → is_switch n ≡ true → is_switch m ≡ false → codes "--" ++ n ≡ codes "--" ++ m → ⊥
not_both n m is differs e =
    let same : n ≡ m = ap (drop 2) e in
    true≢false (sym is ∙ ap is_switch same ∙ differs)

one_setting : (n v m w : Text) (j k : Spelling) (a b : List Text) → has_byte 61 n ≡ false → has_byte 61 m ≡ false → StandsBy j n v → StandsBy k m w
    → spelled_by j n v ++ a ≡ spelled_by k m w ++ b → Same n v m w a b
one_setting n v m w joined joined a b p q s t e =
    let same = same_written n v m w p q (ap first_or e) in
    (same.0, same.1, ap (drop 1) e)
one_setting n v m w joined apart a b p q s t e = absurd (unlike n v m q (ap first_or e))
one_setting n v m w joined alone a b p q s t e = absurd (unlike n v m q (ap first_or e))
one_setting n v m w apart joined a b p q s t e = absurd (unlike m w n p (sym (ap first_or e)))
one_setting n v m w apart apart a b p q s t e = (ap (λ ws. drop 2 (first_or ws)) e, ap (λ ws. first_or (drop 1 ws)) e, ap (drop 2) e)
one_setting n v m w apart alone a b p q s t e = absurd (not_both m n t.0 s.0 (sym (ap first_or e)))
one_setting n v m w alone joined a b p q s t e = absurd (unlike m w n p (sym (ap first_or e)))
one_setting n v m w alone apart a b p q s t e = absurd (not_both n m s.0 t.0 (ap first_or e))
one_setting n v m w alone alone a b p q s t e = (ap (λ ws. drop 2 (first_or ws)) e, s.1 ∙ sym t.1, ap (drop 1) e)

no_name : (m : Text) → plain_name m ≡ true → codes "--" ≡ codes "--" ++ m → ⊥
no_name [] p e = cc
no_name (c ∷ cs) p e =
    let bad : ◌≡◌ {A = List ℕ} [] (c ∷ cs) = ap (drop 2) e in
    cc

no_setting : (rest : List Text) (m w : Text) (k : Spelling) (b : List Text) → Closes rest → plain_name m ≡ true → rest ≡ spelled_by k m w ++ b → ⊥
no_setting rest m w joined b (inl none) p e =
    let bad : ◌≡◌ {A = List Text} [] (written m w ∷ b) = sym none ∙ e in
    cc
no_setting rest m w apart b (inl none) p e =
    let bad : ◌≡◌ {A = List Text} [] ((codes "--" ++ m) ∷ w ∷ b) = sym none ∙ e in
    cc
no_setting rest m w alone b (inl none) p e =
    let bad : ◌≡◌ {A = List Text} [] ((codes "--" ++ m) ∷ b) = sym none ∙ e in
    cc
no_setting rest m w joined b (inr one) p e = unlike m w [] refl (sym (ap first_or (sym one ∙ e)))
no_setting rest m w apart b (inr one) p e = no_name m p (ap first_or (sym one ∙ e))
no_setting rest m w alone b (inr one) p e = no_name m p (ap first_or (sym one ∙ e))

-- ---- many settings

abbrev pub AreInPlace : List Setting → Type 0
AreInPlace = AllByRecursion IsInPlace

abbrev pub AllAgree : List Setting → List Setting → Type 0
AllAgree xs ys = (id : Text) → values_of id xs ≡ values_of id ys

abbrev pub Agree : List Setting → List Setting → Type 0
Agree xs ys = (id : Text) → value_of id xs ≡ value_of id ys

pub all_agree : (xs ys : List Setting) → AllAgree xs ys → Agree xs ys
all_agree xs ys all = λ id. sym (first_value id xs) ∙ ap (λ vs. slice_get vs 0) (all id) ∙ first_value id ys

value_step : (id : Text) (x : Setting) (xs : List Setting) (b : Bool)
    → map (λ (s : Setting). s.value) (cond b (x ∷ filter (λ (s : Setting). bytes_eq s.name id) xs) (filter (λ (s : Setting). bytes_eq s.name id) xs)) ≡ cond b (x.value ∷ values_of id xs) (values_of id xs)
value_step id x xs true = refl
value_step id x xs false = refl

agree_cons : (x y : Setting) (xs ys : List Setting) → x.name ≡ y.name → x.value ≡ y.value → AllAgree xs ys → AllAgree (x ∷ xs) (y ∷ ys)
agree_cons x y xs ys name value rest = λ id.
    value_step id x xs (bytes_eq x.name id)
    ∙ ap₂ (λ b v. cond b (v ∷ values_of id xs) (values_of id xs)) (ap (λ n. bytes_eq n id) name) value
    ∙ ap (λ vs. cond (bytes_eq y.name id) (y.value ∷ vs) vs) (rest id)
    ∙ sym (value_step id y ys (bytes_eq y.name id))

one_list : (xs ys : List Setting) (a b : List Text) → Named xs → Named ys → AreInPlace xs → AreInPlace ys → Closes a → Closes b → flat_map spelled xs ++ a ≡ flat_map spelled ys ++ b → AllAgree xs ys
one_list [] [] a b p q s t c d e = λ id. refl
one_list [] (y ∷ ys) a b p q s t c d e = absurd (no_setting a y.name y.value y.way (flat_map spelled ys ++ b) c q.0 (e ∙ append_assoc (spelled y) (flat_map spelled ys) b))
one_list (x ∷ xs) [] a b p q s t c d e = absurd (no_setting b x.name x.value x.way (flat_map spelled xs ++ a) d p.0 (sym e ∙ append_assoc (spelled x) (flat_map spelled xs) a))
one_list (x ∷ xs) (y ∷ ys) a b p q s t c d e =
    let same = one_setting x.name x.value y.name y.value x.way y.way (flat_map spelled xs ++ a) (flat_map spelled ys ++ b) (no_equals x.name p.0) (no_equals y.name q.0) s.0 t.0
    (sym (append_assoc (spelled x) (flat_map spelled xs) a) ∙ e ∙ append_assoc (spelled y) (flat_map spelled ys) b) in
    agree_cons x y xs ys same.0 same.1 (one_list xs ys a b p.1 q.1 s.1 t.1 c d same.2)

-- two readings of one line agree in the subcommand and in each value
pub one_line : (words : List Text) (m n : Text) (xs ys : List Setting) → Named xs → Named ys → IsLine words m xs → IsLine words n ys → (m ≡ n) × AllAgree xs ys
one_line words m n xs ys p q a b =
    let heads : a.program ∷ m ∷ a.after ≡ b.program ∷ n ∷ b.after = sym a.words_are ∙ b.words_are in
    let after : a.after ≡ b.after = ap (drop 2) heads in
    let spells = sym a.spelling.words_are ∙ after ∙ b.spelling.words_are in
    (ap (λ ws. first_or (drop 1 ws)) heads, one_list xs ys a.spelling.rest b.spelling.rest p q a.spelling.in_place b.spelling.in_place a.spelling.closes b.spelling.closes spells)

-- ---- meanings

one_number : (v : Option Text) (default least most n m : ℕ) → MatchOption v (n ≡ default) (λ text. IsWritten n text × (least ≤ n) × (n ≤ most))
    → MatchOption v (m ≡ default) (λ text. IsWritten m text × (least ≤ m) × (m ≤ most)) → n ≡ m
one_number None default least most n m p q = p ∙ sym q
one_number (Some text) default least most n m p q = p.0.1 ∙ sym q.0.1

number_once : (xs ys : List Setting) (name : Text) (default least most n m : ℕ) → Agree xs ys → GivesNumber xs name default least most n → GivesNumber ys name default least most m → n ≡ m
number_once xs ys name default least most n m agree p q =
    one_number (value_of name xs) default least most n m p (subst (λ v. MatchOption v (m ≡ default) (λ text. IsWritten m text × (least ≤ m) × (m ≤ most))) (sym (agree name)) q)

planner_same : (p q : PlannerKind) → planner_text p ≡ planner_text q → p ≡ q
planner_same Near Near e = refl
planner_same Near Patient e = absurd (other_word (codes "near") (codes "patient") refl e)
planner_same Patient Near e = absurd (other_word (codes "patient") (codes "near") refl e)
planner_same Patient Patient e = refl

one_planner : (v : Option Text) (p q : PlannerKind) → MatchOption v (p ≡ Near) (λ text. text ≡ planner_text p) → MatchOption v (q ≡ Near) (λ text. text ≡ planner_text q) → p ≡ q
one_planner None p q a b = a ∙ sym b
one_planner (Some text) p q a b = planner_same p q (sym a ∙ b)

planner_once : (xs ys : List Setting) (p q : PlannerKind) → Agree xs ys → GivesPlanner xs p → GivesPlanner ys q → p ≡ q
planner_once xs ys p q agree a b =
    one_planner (value_of (codes "planner") xs) p q a (subst (λ v. MatchOption v (q ≡ Near) (λ text. text ≡ planner_text q)) (sym (agree (codes "planner"))) b)

ends_same : (p q : Bool) → ends_text p ≡ ends_text q → p ≡ q
ends_same true true e = refl
ends_same true false e = absurd (other_word (codes "homes") (codes "stops") refl e)
ends_same false true e = absurd (other_word (codes "stops") (codes "homes") refl e)
ends_same false false e = refl

one_ends : (v : Option Text) (p q : Bool) → MatchOption v (p ≡ false) (λ text. text ≡ ends_text p) → MatchOption v (q ≡ false) (λ text. text ≡ ends_text q) → p ≡ q
one_ends None p q a b = a ∙ sym b
one_ends (Some text) p q a b = ends_same p q (sym a ∙ b)

ends_once : (xs ys : List Setting) (p q : Bool) → Agree xs ys → GivesHomes xs p → GivesHomes ys q → p ≡ q
ends_once xs ys p q agree a b =
    one_ends (value_of (codes "ends") xs) p q a (subst (λ v. MatchOption v (q ≡ false) (λ text. text ≡ ends_text q)) (sym (agree (codes "ends"))) b)

tail_same : (p q : Tail) → tail_text p ≡ tail_text q → p ≡ q
tail_same Nothing Nothing e = refl
tail_same Nothing Log e = absurd (other_word (codes "none") (codes "log") refl e)
tail_same Nothing Ledger e = absurd (other_word (codes "none") (codes "ledger") refl e)
tail_same Log Nothing e = absurd (other_word (codes "log") (codes "none") refl e)
tail_same Log Log e = refl
tail_same Log Ledger e = absurd (other_word (codes "log") (codes "ledger") refl e)
tail_same Ledger Nothing e = absurd (other_word (codes "ledger") (codes "none") refl e)
tail_same Ledger Log e = absurd (other_word (codes "ledger") (codes "log") refl e)
tail_same Ledger Ledger e = refl

one_tail : (v : Option Text) (p q : Tail) → MatchOption v (p ≡ Nothing) (λ text. text ≡ tail_text p) → MatchOption v (q ≡ Nothing) (λ text. text ≡ tail_text q) → p ≡ q
one_tail None p q a b = a ∙ sym b
one_tail (Some text) p q a b = tail_same p q (sym a ∙ b)

tail_once : (xs ys : List Setting) (p q : Tail) → Agree xs ys → GivesTail xs p → GivesTail ys q → p ≡ q
tail_once xs ys p q agree a b =
    one_tail (value_of (codes "tail") xs) p q a (subst (λ v. MatchOption v (q ≡ Nothing) (λ text. text ≡ tail_text q)) (sym (agree (codes "tail"))) b)

replies_same : (p q : Replies) → replies_text p ≡ replies_text q → p ≡ q
replies_same Short Short e = refl
replies_same Short Full e = absurd (other_word (codes "short") (codes "full") refl e)
replies_same Full Short e = absurd (other_word (codes "full") (codes "short") refl e)
replies_same Full Full e = refl
replies_same Short Placed e = absurd (other_word (codes "short") (codes "placed") refl e)
replies_same Full Placed e = absurd (other_word (codes "full") (codes "placed") refl e)
replies_same Placed Short e = absurd (other_word (codes "placed") (codes "short") refl e)
replies_same Placed Full e = absurd (other_word (codes "placed") (codes "full") refl e)
replies_same Placed Placed e = refl

one_replies : (v : Option Text) (p q : Replies) → MatchOption v (p ≡ Short) (λ text. text ≡ replies_text p) → MatchOption v (q ≡ Short) (λ text. text ≡ replies_text q) → p ≡ q
one_replies None p q a b = a ∙ sym b
one_replies (Some text) p q a b = replies_same p q (sym a ∙ b)

replies_once : (xs ys : List Setting) (p q : Replies) → Agree xs ys → GivesReplies xs p → GivesReplies ys q → p ≡ q
replies_once xs ys p q agree a b =
    one_replies (value_of (codes "replies") xs) p q a (subst (λ v. MatchOption v (q ≡ Short) (λ text. text ≡ replies_text q)) (sym (agree (codes "replies"))) b)

one_may : (v : Option Text) (least most : ℕ) (a b : Option ℕ) → MatchOption v (a ≡ None) (λ text. (n : ℕ) × (a ≡ Some n) × IsWritten n text × (least ≤ n) × (n ≤ most))
    → MatchOption v (b ≡ None) (λ text. (n : ℕ) × (b ≡ Some n) × IsWritten n text × (least ≤ n) × (n ≤ most)) → a ≡ b
one_may None least most a b p q = p ∙ sym q
one_may (Some text) least most a b p q =
    let same : p.0 ≡ q.0 = p.2.1 ∙ sym q.2.1 in
    p.1 ∙ ap (λ (n : ℕ). Some n) same ∙ sym q.1

may_once : (xs ys : List Setting) (name : Text) (least most : ℕ) (a b : Option ℕ) → Agree xs ys → MayGive xs name least most a → MayGive ys name least most b → a ≡ b
may_once xs ys name least most a b agree p q =
    one_may (value_of name xs) least most a b p (subst (λ v. MatchOption v (b ≡ None) (λ text. (n : ℕ) × (b ≡ Some n) × IsWritten n text × (least ≤ n) × (n ≤ most))) (sym (agree name)) q)

one_pace : (v : Option Text) (a b : Option VehicleOptions) (p q : VehicleOptions) → p ≡ q → MatchOption v (a ≡ None) (λ text. a ≡ Some p) → MatchOption v (b ≡ None) (λ text. b ≡ Some q) → a ≡ b
one_pace None a b p q same m n = m ∙ sym n
one_pace (Some text) a b p q same m n = m ∙ ap (λ (x : VehicleOptions). Some x) same ∙ sym n

vehicles_once : (xs ys : List Setting) (a b : Option VehicleOptions) → Agree xs ys → GivesVehicles xs a → GivesVehicles ys b → a ≡ b
vehicles_once xs ys a b agree p q =
    let behind = number_once xs ys (codes "behind") 8 1 1000 p.pace.behind q.pace.behind agree p.behind q.behind in
    let ahead = number_once xs ys (codes "ahead") 1 1 1000 p.pace.ahead q.pace.ahead agree p.ahead q.ahead in
    let pace : p.pace ≡ q.pace = λ i. record { behind = behind i; ahead = ahead i } in
    one_pace (value_of (codes "vehicles") xs) a b p.pace q.pace pace p.is (subst (λ v. MatchOption v (b ≡ None) (λ text. b ≡ Some q.pace)) (sym (agree (codes "vehicles"))) q.is)

fleet_once : (xs ys : List Setting) (f g : Fleet) → Agree xs ys → GivesFleet xs f → GivesFleet ys g → f ≡ g
fleet_once xs ys f g agree a b =
    let planner = planner_once xs ys f.planner g.planner agree a.planner b.planner in
    let slack = number_once xs ys (codes "slack") 0 0 1000 f.slack g.slack agree a.slack b.slack in
    let effort = may_once xs ys (codes "effort") 1000 1000000000 f.effort g.effort agree a.effort b.effort in
    let slots = number_once xs ys (codes "slots") 4 2 64 f.slots g.slots agree a.slots b.slots in
    let bank = number_once xs ys (codes "bank") 1024 2 65536 f.bank g.bank agree a.bank b.bank in
    let spares = number_once xs ys (codes "spares") 0 0 16 f.spares g.spares agree a.spares b.spares in
    let homes = ends_once xs ys f.homes g.homes agree a.ends b.ends in
    λ i. record { planner = planner i; slack = slack i; effort = effort i; slots = slots i; bank = bank i; spares = spares i; homes = homes i }

rule_once : (xs ys : List Setting) (p q : Bool) → AllAgree xs ys → GivesRule xs p → GivesRule ys q → p ≡ q
rule_once xs ys p q all a b = ends_once xs ys p q (all_agree xs ys all) a.ends b.ends

verify_once : (xs ys : List Setting) (o p : VerifyOptions) → Agree xs ys → GivesVerify xs o → GivesVerify ys p → o ≡ p
verify_once xs ys o p agree m n =
    let homes = ends_once xs ys o.homes p.homes agree m.ends n.ends in
    let unended : o.unended ≡ p.unended = m.unended ∙ ap is_some (agree (codes "unended")) ∙ sym n.unended in
    let wlog = may_once xs ys (codes "wlog") 3 3 o.wlog p.wlog agree m.wlog n.wlog in
    let chain : o.chain ≡ p.chain = m.chain ∙ ap is_some (agree (codes "chain")) ∙ sym n.chain in
    λ i. record { homes = homes i; unended = unended i; wlog = wlog i; chain = chain i }

replay_once : (xs ys : List Setting) (o p : ReplayOptions) → Agree xs ys → GivesReplay xs o → GivesReplay ys p → AreSame (Replay o) (Replay p)
replay_once xs ys o p agree m n =
    let fleet = fleet_once xs ys o.fleet p.fleet agree m.fleet n.fleet in
    let tail = tail_once xs ys o.tail p.tail agree m.tail n.tail in
    let replies = replies_once xs ys o.replies p.replies agree m.replies n.replies in
    let told = may_once xs ys (codes "told") 0 999999999 o.told p.told agree m.told n.told in
    let anew : o.anew ≡ p.anew = m.anew ∙ ap is_some (agree (codes "new")) ∙ sym n.anew in
    (fleet, tail, replies, m.log.is ∙ agree (codes "log") ∙ sym n.log.is, told, anew, vehicles_once xs ys o.vehicles p.vehicles agree m.vehicles n.vehicles, m.deliver ∙ ap is_some (agree (codes "deliver")) ∙ sym n.deliver)

live_once : (xs ys : List Setting) (o p : LiveOptions) → Agree xs ys → GivesLive xs o → GivesLive ys p → o ≡ p
live_once xs ys o p agree m n =
    let fleet = fleet_once xs ys o.fleet p.fleet agree m.fleet n.fleet in
    let turns = number_once xs ys (codes "turns") 64 1 100000 o.turns p.turns agree m.turns n.turns in
    let journal = number_once xs ys (codes "journal") 10000 1 1000000 o.journal p.journal agree m.journal n.journal in
    λ i. record { fleet = fleet i; turns = turns i; journal = journal i }

serve_once : (xs ys : List Setting) (o p : ServeOptions) → AllAgree xs ys → GivesServe xs o → GivesServe ys p → AreSame (Serve o) (Serve p)
serve_once xs ys o p all m n =
    let agree = all_agree xs ys all in
    let fleet = fleet_once xs ys o.fleet p.fleet agree m.fleet n.fleet in
    let journal = number_once xs ys (codes "journal") 1000000 1 1000000 o.journal p.journal agree m.journal n.journal in
    let replies = replies_once xs ys o.replies p.replies agree m.replies n.replies in
    let share = may_once xs ys (codes "share") 1 1000000 o.share p.share agree m.share n.share in
    let log : Some o.log.now ≡ Some p.log.now = m.log.is ∙ agree (codes "log") ∙ sym n.log.is in
    let every = may_once xs ys (codes "every") 1 60000 o.every p.every agree m.every n.every in
    let board_every = number_once xs ys (codes "board-every") 100 1 60000 o.board_every p.board_every agree m.board_every n.board_every in
    let other : AllZip GivesClient (values_of (codes "client") xs) p.clients.items = subst (λ ts. AllZip GivesClient ts p.clients.items) (sym (all (codes "client"))) n.clients.each in (
      fleet,
      journal,
      share,
      replies,
      some_same o.log.now p.log.now log,
      m.anew ∙ ap is_some (agree (codes "new")) ∙ sym n.anew,
      every,
      m.board.is ∙ agree (codes "board") ∙ sym n.board.is,
      board_every,
      clients_once (values_of (codes "client") xs) o.clients.items p.clients.items m.clients.each other,
    )

state_once : (xs ys : List Setting) (o p : StateOptions) → Agree xs ys → GivesState xs o → GivesState ys p → AreSame (State o) (State p)
state_once xs ys o p agree m n =
    let log : Some o.log.now ≡ Some p.log.now = m.log.is ∙ agree (codes "log") ∙ sym n.log.is in
    let agree_stand = ap is_some (agree (codes "stand")) in
    (some_same o.log.now p.log.now log, may_once xs ys (codes "after") 0 999999999 o.after p.after agree m.after n.after, ends_once xs ys o.homes p.homes agree m.ends n.ends, m.stand ∙ agree_stand ∙ sym n.stand)

apart_so : (name told one other : Text) → name ≡ told → bytes_eq one other ≡ false → name ≡ one → told ≡ other → ⊥
apart_so name told one other is differs m n = other_word one other differs (sym m ∙ is ∙ n)

gives_once : (name told : Text) (xs ys : List Setting) (o p : Options) → name ≡ told → AllAgree xs ys → EachGives name xs o → EachGives told ys p → AreSame o p
gives_once name told xs ys (Check o) (Check p) is all m n = λ i. Check (record { homes = rule_once xs ys o.homes p.homes all m.1 n.1 i })
gives_once name told xs ys (Check o) (Replay p) is all m n = absurd (apart_so name told (codes "check") (codes "replay") is refl m.0 n.0)
gives_once name told xs ys (Check o) (Verify p) is all m n = absurd (apart_so name told (codes "check") (codes "verify") is refl m.0 n.0)
gives_once name told xs ys (Check o) (Live p) is all m n = absurd (apart_so name told (codes "check") (codes "live") is refl m.0 n.0)
gives_once name told xs ys (Check o) (Serve p) is all m n = absurd (apart_so name told (codes "check") (codes "serve") is refl m.0 n.0)
gives_once name told xs ys (Check o) (State p) is all m n = absurd (apart_so name told (codes "check") (codes "state") is refl m.0 n.0)
gives_once name told xs ys (Replay o) (Check p) is all m n = absurd (apart_so name told (codes "replay") (codes "check") is refl m.0 n.0)
gives_once name told xs ys (Replay o) (Replay p) is all m n = replay_once xs ys o p (all_agree xs ys all) m.1 n.1
gives_once name told xs ys (Replay o) (Verify p) is all m n = absurd (apart_so name told (codes "replay") (codes "verify") is refl m.0 n.0)
gives_once name told xs ys (Replay o) (Live p) is all m n = absurd (apart_so name told (codes "replay") (codes "live") is refl m.0 n.0)
gives_once name told xs ys (Replay o) (Serve p) is all m n = absurd (apart_so name told (codes "replay") (codes "serve") is refl m.0 n.0)
gives_once name told xs ys (Replay o) (State p) is all m n = absurd (apart_so name told (codes "replay") (codes "state") is refl m.0 n.0)
gives_once name told xs ys (Verify o) (Check p) is all m n = absurd (apart_so name told (codes "verify") (codes "check") is refl m.0 n.0)
gives_once name told xs ys (Verify o) (Replay p) is all m n = absurd (apart_so name told (codes "verify") (codes "replay") is refl m.0 n.0)
gives_once name told xs ys (Verify o) (Verify p) is all m n = ap Verify (verify_once xs ys o p (all_agree xs ys all) m.1 n.1)
gives_once name told xs ys (Verify o) (Live p) is all m n = absurd (apart_so name told (codes "verify") (codes "live") is refl m.0 n.0)
gives_once name told xs ys (Verify o) (Serve p) is all m n = absurd (apart_so name told (codes "verify") (codes "serve") is refl m.0 n.0)
gives_once name told xs ys (Verify o) (State p) is all m n = absurd (apart_so name told (codes "verify") (codes "state") is refl m.0 n.0)
gives_once name told xs ys (Live o) (Check p) is all m n = absurd (apart_so name told (codes "live") (codes "check") is refl m.0 n.0)
gives_once name told xs ys (Live o) (Replay p) is all m n = absurd (apart_so name told (codes "live") (codes "replay") is refl m.0 n.0)
gives_once name told xs ys (Live o) (Verify p) is all m n = absurd (apart_so name told (codes "live") (codes "verify") is refl m.0 n.0)
gives_once name told xs ys (Live o) (Live p) is all m n = ap Live (live_once xs ys o p (all_agree xs ys all) m.1 n.1)
gives_once name told xs ys (Live o) (Serve p) is all m n = absurd (apart_so name told (codes "live") (codes "serve") is refl m.0 n.0)
gives_once name told xs ys (Live o) (State p) is all m n = absurd (apart_so name told (codes "live") (codes "state") is refl m.0 n.0)
gives_once name told xs ys (Serve o) (Check p) is all m n = absurd (apart_so name told (codes "serve") (codes "check") is refl m.0 n.0)
gives_once name told xs ys (Serve o) (Replay p) is all m n = absurd (apart_so name told (codes "serve") (codes "replay") is refl m.0 n.0)
gives_once name told xs ys (Serve o) (Verify p) is all m n = absurd (apart_so name told (codes "serve") (codes "verify") is refl m.0 n.0)
gives_once name told xs ys (Serve o) (Live p) is all m n = absurd (apart_so name told (codes "serve") (codes "live") is refl m.0 n.0)
gives_once name told xs ys (Serve o) (Serve p) is all m n = serve_once xs ys o p all m.1 n.1
gives_once name told xs ys (Serve o) (State p) is all m n = absurd (apart_so name told (codes "serve") (codes "state") is refl m.0 n.0)
gives_once name told xs ys (State o) (Check p) is all m n = absurd (apart_so name told (codes "state") (codes "check") is refl m.0 n.0)
gives_once name told xs ys (State o) (Replay p) is all m n = absurd (apart_so name told (codes "state") (codes "replay") is refl m.0 n.0)
gives_once name told xs ys (State o) (Verify p) is all m n = absurd (apart_so name told (codes "state") (codes "verify") is refl m.0 n.0)
gives_once name told xs ys (State o) (Live p) is all m n = absurd (apart_so name told (codes "state") (codes "live") is refl m.0 n.0)
gives_once name told xs ys (State o) (Serve p) is all m n = absurd (apart_so name told (codes "state") (codes "serve") is refl m.0 n.0)
gives_once name told xs ys (State o) (State p) is all m n = state_once xs ys o p (all_agree xs ys all) m.1 n.1

-- words give at most one set of options
pub given_once : (words : List Text) (o p : Options) → WordsGive words o → WordsGive words p → AreSame o p
given_once words o p a b =
    let line = one_line words a.0 b.0 a.1 b.1 (gives_named a.0 a.1 o a.3.0) (gives_named b.0 b.1 p b.3.0) a.2 b.2 in
    gives_once a.0 b.0 a.1 b.1 o p line.0 line.1 a.3.0 b.3.0
