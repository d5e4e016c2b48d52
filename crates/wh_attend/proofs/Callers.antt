-- Whoever has entries in a log is one of 64.
use Rattle.std.proofs.Common.{◌≡◌, ◌<◌, ℕ, List, [], ◌∷◌, ◌++◌, length, refl, sym, subst, All, Option, None, Some, Result}
use Rattle.std.specs.declared.alloc.AllocError.{AllocError}
use Rattle.std.specs.List.{AllByRecursion}
use Rattle.std.proofs.lemmas.List.Elements.{All-from_recursion, All-nil}
use Rattle.wh_grid.specs.Grids.{Floor}
use Rattle.wh_points.specs.Points.{Site}
use Rattle.wh_event.specs.declared.entry.Entry.{Entry}
use Rattle.wh_log.specs.Logs.{most_stops}
use Rattle.wh_log.specs.Ranges.{Keeps}
use Rattle.wh_log.specs.declared.version.Version.{Version}
use Rattle.wh_log.specs.declared.version.Version.TheVariants.{Two}
use Rattle.wh_desk.specs.Drafts.{Seen}
use Rattle.wh_front.specs.declared.front.Count.{Count}
use Rattle.wh_resume.specs.declared.recovery.Preface.{Preface}
use Rattle.wh_continue.specs.Starting.{StartsAt}
use Rattle.wh_continue.specs.declared.starting.Start.{Start}
use Rattle.wh_claims.specs.declared.bank.Bank.{Bank}
use Rattle.wh_client.specs.declared.client.ClientOptions.{ClientOptions}
use Rattle.wh_options.specs.declared.chosen.ServeOptions.{ServeOptions}
use Rattle.wh_desk.specs.Lists.{AllAt}
use Rattle.wh_desk.proofs.Entries.{AllAt_push}
use Rattle.wh_options.specs.declared.chosen.Fleet.{Fleet}
use Rattle.wh_serve.specs.declared.threads.Client.{Client}
use Rattle.wh_service.specs.Kept.{StartsFrom, first_slots}
use Rattle.wh_service.specs.declared.parts.PlannerParts.{PlannerParts}
use Rattle.wh_attend.specs.Guests.{AreClients, HaveRoom, IsClient, numbers_of}

abbrev Few : List Entry → Type 0
Few history = All (λ (e : Entry). e.caller < 64) history

few_kept : (version : Version) (entries history : List Entry) → AllByRecursion (Keeps (most_stops version)) entries → history ≡ entries → Few history
few_kept version entries history fits is =
    let kept = All-from_recursion (Keeps (most_stops version)) entries fits in
    subst Few (sym is) (λ k d less. (kept k d less).caller)

few_at : (site : Site) (slots text : List ℕ) (preface : Option Preface) (version : Version) (book : Seen) (bytes : Option ℕ) → StartsAt site slots text preface version book bytes → Few book.history
few_at site slots text preface version book None begins = subst Few (sym begins.0.unbegun.history_is) (All-nil (λ (e : Entry). e.caller < 64))
few_at site slots text None version book (Some n) on = few_kept version on.content.entries book.history on.holds.fits.entries on.goes_on.history_is
few_at site slots text (Some preface) version book (Some n) on = few_kept Two book.history book.history on.1.1.fits.entries refl

pub callers_few : (fleet : Fleet) (site : Site) (file : Option (List ℕ)) (start : Start) → StartsFrom fleet site file start → Few start.book.history
callers_few fleet site file start from = few_at site (first_slots fleet site) from.text start.preface start.version start.book start.bytes from.starts.at

-- one more at the end
pub at_end : {A : Type 0} (P : ℕ → A → Type 0) (xs ys : List A) (n : ℕ) (y : A) → ys ≡ xs ++ y ∷ [] → length xs ≡ n → AllAt P xs → P n y → AllAt P ys
at_end P xs ys n y same size all here =
    subst (λ (zs : List _). AllAt P zs) (sym same) (AllAt_push P xs y all (subst (λ (k : ℕ). P k y) (sym size) here))

-- the clients, where the history lies elsewhere
pub clients_as : {X : Type 0} (gives : PlannerParts → Result X AllocError → Type 0) (options : ServeOptions) (grid : Floor) (bank : Bank) (history earlier : List Entry) (told counts : List Count) (clients : List (Client X)) (places : ℕ)
    → history ≡ earlier → told ≡ counts → length clients ≡ places → HaveRoom options.every places → All (λ (e : Entry). e.caller < numbers_of options.every places) history
    → All (λ (n : ClientOptions). n.number < places) options.clients.items → AllAt (IsClient gives options grid bank history told) clients
    → AreClients gives options grid bank earlier counts clients
clients_as gives options grid bank history earlier told counts clients places same as_told count few callers named each = record {
  few = subst (λ (n : ℕ). HaveRoom options.every n) (sym count) few;
  named = subst (λ (n : ℕ). All (λ (o : ClientOptions). o.number < n) options.clients.items) (sym count) named;
  callers = subst (λ (h : List Entry). All (λ (e : Entry). e.caller < numbers_of options.every (length clients)) h) same
      (subst (λ (n : ℕ). All (λ (e : Entry). e.caller < numbers_of options.every n) history) (sym count) callers);
  each = subst (λ (t : List Count). AllAt (IsClient gives options grid bank earlier t) clients) as_told
      (subst (λ (h : List Entry). AllAt (IsClient gives options grid bank h told) clients) same each);
}
