-- What the whole program comes to.
use Rattle.std.proofs.Common.{◌≡◌, ◌≢◌, ◌⊎◌, ◌≤◌, ℕ, Bool, true, false, List, [], ◌∷◌, length, ◌<◌, All, Option, Some, None, Result, Ok, Err, MatchOption, codes, inl, inr, refl, subst, sym, ◌∙◌, ap, arith}
use Rattle.std.specs.Prelude.{OnOk, OnErr, IfSome, is_some, option_map}
use Rattle.std.specs.Io.KnownBytes.{Appends, Keeps}
use Rattle.std.specs.List.{AllByRecursion, AllZip}
use Rattle.std.proofs.lemmas.List.Elements.{All-from_recursion}
use Rattle.wh_lines.specs.Input.{Input}
use Rattle.wh_lines.specs.Output.{WritesFront}
use Rattle.wh_lines.proofs.Written.{front_all}
use Rattle.wh_edge.specs.Trouble.{status_of, trouble_text}
use Rattle.wh_edge.specs.declared.trouble.Status.{Status}
use Rattle.wh_edge.specs.declared.trouble.Status.TheVariants as status
use Rattle.wh_edge.specs.declared.trouble.Trouble.{Trouble}
use Rattle.wh_options.specs.Options.{IsWritten, WordsGive}
use Rattle.wh_options.specs.Requests.{AsksBy, help_flags, version_flags}
use Rattle.wh_options.specs.Setting.{Text, value_of, values_of}
use Rattle.wh_client.specs.Clients.{GivesClient}
use Rattle.wh_client.specs.declared.client.ClientOptions.{ClientOptions}
use Rattle.wh_options.specs.declared.chosen.ReplayOptions.{ReplayOptions}
use Rattle.wh_options.specs.declared.chosen.VehicleOptions.{VehicleOptions}
use Rattle.wh_options.specs.declared.chosen.Options.{Options}
use Rattle.wh_options.specs.declared.chosen.Options.TheVariants.{Check, Replay, Verify, Live, Serve, State}
use Rattle.wh_options.specs.declared.refused.Refusal.{Refusal}
use Rattle.wh_options.specs.declared.refused.Refusal.TheVariants as refusal
use Rattle.wh_service.specs.Fleets.{IsOfFleet}
use Rattle.wh_program.specs.Programs.{Declines, Ends, HasRange}
use Rattle.wh_service.specs.Serves.{ended_by}

-- ---- what is written

-- all of a text, or a front of it
pub shown : {V E : Type 0} (r : Result V E) (had has : Option (List ℕ)) (text : List ℕ) → OnOk r (Appends had has text) → OnErr r (WritesFront had has text) → WritesFront had has text
shown (Ok v) had has text all front = front_all had has text all
shown (Err e) had has text all front = front

pub told : (came : Result Status Trouble) (trouble : Trouble) (ended : Status) (had has : Option (List ℕ)) (text : List ℕ) → came ≡ Err trouble → ended ≡ status_of trouble → text ≡ trouble_text trouble
    → WritesFront had has text → Ends came ended had has
told came trouble ended had has text is ends says front =
    subst (λ (c : Result Status Trouble). Ends c ended had has) (sym is) (ends, subst (WritesFront had has) says front)

-- ---- a file

pub is_some_map : {X Y : Type 0} (f : X → Y) (o : Option X) → is_some (option_map f o) ≡ is_some o
is_some_map f None = refl
is_some_map f (Some x) = refl

-- ---- words

ranged : (value : Option Text) (n : ℕ) → MatchOption value (n ≡ 4) (λ text. IsWritten n text × (2 ≤ n) × (n ≤ 64)) → (2 ≤ n) × (n ≤ 64)
ranged None n e = (omega (arith, e), omega (arith, e))
ranged (Some text) n said = (said.1, said.2)

one_ahead : (value : Option Text) (n : ℕ) → MatchOption value (n ≡ 1) (λ text. IsWritten n text × (1 ≤ n) × (n ≤ 1000)) → 1 ≤ n
one_ahead None n e = omega (arith, e)
one_ahead (Some text) n said = said.1

some_ahead : (value : Option Text) (vehicles : Option VehicleOptions) (pace : VehicleOptions) → MatchOption value (vehicles ≡ None) (λ text. vehicles ≡ Some pace) → 1 ≤ pace.ahead →
    IfSome vehicles (λ p. 1 ≤ p.ahead)
some_ahead None vehicles pace is h = subst (λ (v : Option VehicleOptions). IfSome v (λ p. 1 ≤ p.ahead)) (sym is) tt
some_ahead (Some text) vehicles pace is h = subst (λ (v : Option VehicleOptions). IfSome v (λ p. 1 ≤ p.ahead)) (sym is) h

-- with vehicles the range is the fleet's, and one cell ahead at least
pub late_range : (o : ReplayOptions) (pace : VehicleOptions) → HasRange (Replay o) → o.vehicles ≡ Some pace → IsOfFleet o.fleet × (1 ≤ pace.ahead)
late_range o pace range is = (range.0, subst (λ (v : Option VehicleOptions). IfSome v (λ p. 1 ≤ p.ahead)) is range.1)

some_long : {X : Type 0} (xs : List X) → xs ≢ [] → 1 ≤ length xs
some_long [] none = absurd (none refl)
some_long (x ∷ xs) some = omega (arith)

below : (texts : List Text) (clients : List ClientOptions) → AllZip GivesClient texts clients → AllByRecursion (λ c. c.number < 62) clients
below [] [] zip = tt
below [] (c ∷ cs) zip = absurd zip
below (t ∷ ts) [] zip = absurd zip
below (t ∷ ts) (c ∷ cs) zip = (let n = zip.0.1.1 in omega (arith, n), below ts cs zip.1)

-- each client that texts give has a number from 0 to 61
numbered : (texts : List Text) (clients : List ClientOptions) → AllZip GivesClient texts clients → All (λ c. c.number < 62) clients
numbered texts clients zip = All-from_recursion (λ (c : ClientOptions). c.number < 62) clients (below texts clients zip)

pub in_range : (words : List Text) (o : Options) → WordsGive words o → HasRange o
in_range words (Check o) gives = tt
in_range words (Replay o) gives =
    let v = gives.3.0.1.vehicles in (
      ranged (value_of (codes "slots") gives.1) o.fleet.slots gives.3.0.1.fleet.slots,
      some_ahead (value_of (codes "vehicles") gives.1) o.vehicles v.pace v.is (one_ahead (value_of (codes "ahead") gives.1) v.pace.ahead v.ahead),
    )
in_range words (Verify o) gives = tt
in_range words (State o) gives = tt
in_range words (Live o) gives = ranged (value_of (codes "slots") gives.1) o.fleet.slots gives.3.0.1.fleet.slots
in_range words (Serve o) gives = (
  ranged (value_of (codes "slots") gives.1) o.fleet.slots gives.3.0.1.fleet.slots,
  record {
    some = some_long o.clients.items gives.3.0.1.some;
    each = numbered (values_of (codes "client") gives.1) o.clients.items gives.3.0.1.clients.each;
  },
)

-- Where help or the version was asked for, and where memory ran out, nothing is told of a mistake. The three kinds of a
-- refusal of words that are told apart are named by whoever knows them.
asked : (shown : Bool) (ended : Status) (had has : Option (List ℕ)) → Ends (ended_by refusal.Asked shown) ended had has → ended ≢ status.CommandLine
asked true ended had has ends bad = let e : status.Done ≡ status.CommandLine = sym ends.0 ∙ bad in absurd (grind arith)
asked false ended had has ends bad = let e : status.Failed ≡ status.CommandLine = sym ends.0 ∙ bad in absurd (grind arith)

fed : (shown : Bool) (ended : Status) (had has : Option (List ℕ)) → Ends (ended_by refusal.Asked shown) ended had has → ended ≢ status.NoMemory
fed true ended had has ends bad = let e : status.Done ≡ status.NoMemory = sym ends.0 ∙ bad in absurd (grind arith)
fed false ended had has ends bad = let e : status.Failed ≡ status.NoMemory = sym ends.0 ∙ bad in absurd (grind arith)

memory : (shown : Bool) (ended : Status) (had has : Option (List ℕ)) → Ends (ended_by refusal.NoMemory shown) ended had has → ended ≡ status.NoMemory
memory shown ended had has ends = ends.0

module _ {K : Type 0} (helping showing starving : K) (words : List Text) (of : K) (why : Refusal) (came : Result Status Trouble) (ended : Status) (input : Input) (had has : Option (List ℕ)) (shown : Bool)
    (is_asked : (of ≡ helping) ⊎ (of ≡ showing) → why ≡ refusal.Asked) (is_memory : of ≡ starving → why ≡ refusal.NoMemory)
    (came_is : came ≡ ended_by why shown) (ends : Ends came ended had has) (before after : Option (List ℕ)) (kept : why ≢ refusal.Asked → Keeps before after) where
  as_told : (w : Refusal) → why ≡ w → Ends (ended_by w shown) ended had has
  as_told w e = subst (λ (c : Result Status Trouble). Ends c ended had has) (came_is ∙ ap (λ (x : Refusal). ended_by x shown) e) ends

  at_memory : of ≡ starving → ended ≡ status.NoMemory
  at_memory e = memory shown ended had has (as_told refusal.NoMemory (is_memory e))

  no_mistake : (of ≡ helping) ⊎ (of ≡ showing) → ended ≢ status.CommandLine
  no_mistake e = asked shown ended had has (as_told refusal.Asked (is_asked e))

  none_at_memory : of ≡ starving → ended ≢ status.CommandLine
  none_at_memory e bad = let no : status.NoMemory ≡ status.CommandLine = sym (at_memory e) ∙ bad in absurd (grind arith)

  pub declines : ((o : Options) → WordsGive words o → of ≡ starving) → (AsksBy help_flags words → (of ≡ helping) ⊎ (of ≡ starving))
      → (AsksBy version_flags words → (of ≡ showing) ⊎ (of ≡ starving)) → Declines words ended input input before after
  declines refused help version = record {
    none = λ o gives. at_memory (refused o gives);
    help = λ asks. elim (help asks) [ inl e ↦ no_mistake (inl e) | inr e ↦ none_at_memory e ];
    version = λ asks. elim (version asks) [ inl e ↦ no_mistake (inr e) | inr e ↦ none_at_memory e ];
    unread = refl;
    mistake = λ bad. kept (λ e. asked shown ended had has (as_told refusal.Asked e) bad);
    starved = λ none. kept (λ e. fed shown ended had has (as_told refusal.Asked e) none);
  }
