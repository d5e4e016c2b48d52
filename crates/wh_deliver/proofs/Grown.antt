-- The book after it.
use Rattle.std.proofs.Common.{◌≡◌, ◌∙◌, ℕ, Bool, true, false, List, ◌++◌, append-nil, ap, sym, Option}
use Rattle.wh_event.specs.declared.entry.Entry.{Entry}
use Rattle.wh_replay.specs.declared.asker.Asker.{Asker}
use Rattle.wh_book.specs.Drafts.{Seen}
use Rattle.wh_token.specs.Houses.{StaysAt}
use Rattle.wh_deliver.specs.Delivers.{MayDeliver}

-- it has grown by what was added, and stands on its site
pub grows : (is_asked : Bool) (asker : Asker) (most : ℕ) (old new : Seen) (added : List Entry) (had has : Option (List ℕ))
    → MayDeliver is_asked asker most old new added had has → (new.history ≡ old.history ++ added) × StaysAt old new
grows false asker most old new added had has is = (
  ap (λ (b : Seen). b.history) is.0 ∙ sym (append-nil old.history) ∙ ap (λ (es : List Entry). old.history ++ es) (sym is.1),
  record { site = ap (λ (b : Seen). b.site) is.0; opening = ap (λ (b : Seen). b.opening) is.0 },
)
grows true asker most old new added had has is = (is.does.goes.history, is.does.goes.stays)
