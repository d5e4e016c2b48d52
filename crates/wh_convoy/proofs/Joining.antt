-- lines that are served one after another are served together
use Rattle.std.proofs.Common.{ℕ, ◌∙◌, Bool, List, [], ◌∷◌, ◌++◌, sym, subst, refl, ap, append-nil, append_assoc}
use Rattle.wh_text.specs.Lines.{lines_of}
use Rattle.wh_session.proofs.Following.{ends_both}
use Rattle.wh_grid.specs.Grids.{Floor}
use Rattle.wh_event.specs.declared.entry.Entry.{Entry}
use Rattle.wh_replay.specs.declared.asker.Asker.{Asker}
use Rattle.wh_dispatch.specs.Lines.{Depot}
use Rattle.wh_replay.proofs.Appended.{entries_more}
use Rattle.wh_dispatch.specs.Keeping.{KeepsAll, kept_of}
use Rattle.wh_convoy.specs.Convoys.{ConvoysLines}

module _ {X : Type 0} (fits : X → Floor → Bool) (count : X → ℕ) (asker : Asker) (bound : ℕ) where
  keeps_join : (lines more : List (List ℕ)) (old mid new : Depot X) (first rest kept later : List (List ℕ)) → KeepsAll fits count asker bound lines old mid first kept →
      KeepsAll fits count asker bound more mid new rest later → KeepsAll fits count asker bound (lines ++ more) old new (first ++ rest) (kept ++ later)
  keeps_join [] more old mid new first rest kept later p q =
      let here : KeepsAll fits count asker bound more old new rest later = subst (λ (x : Depot X). KeepsAll fits count asker bound more x new rest later) p.0 q in
      let told : KeepsAll fits count asker bound more old new (first ++ rest) later = subst (λ (t : List (List ℕ)). KeepsAll fits count asker bound more old new t later) (sym (ap (λ (f : List (List ℕ)). f ++ rest) p.1)) here in
      subst (λ (k : List (List ℕ)). KeepsAll fits count asker bound more old new (first ++ rest) k) (sym (ap (λ (f : List (List ℕ)). f ++ later) p.2)) told
  keeps_join (line ∷ lines) more old mid new first rest kept later p q = (
    p.0,
    p.1,
    p.2 ++ rest,
    p.3 ++ later,
    p.4,
    keeps_join lines more p.0 mid new p.2 rest p.3 later p.5 q,
    ap (λ (t : List (List ℕ)). t ++ rest) p.6 ∙ append_assoc p.1 p.2 rest,
    ap (λ (t : List (List ℕ)). t ++ later) p.7 ∙ append_assoc (kept_of old.drive line) p.3 later,
  )

  pub lines_nothing : (old : Depot X) → ConvoysLines fits count asker bound old old [] [] [] []
  lines_nothing old = record { whole = λ more. refl; all = (refl, refl, refl); added_are = sym (append-nil old.book.history) }

  pub lines_join : (old mid new : Depot X) (a b : List ℕ) (p q k l : List (List ℕ)) (d e : List Entry) → ConvoysLines fits count asker bound old mid a p k d →
      ConvoysLines fits count asker bound mid new b q l e → ConvoysLines fits count asker bound old new (a ++ b) (p ++ q) (k ++ l) (d ++ e)
  lines_join old mid new a b p q k l d e s t = record {
    whole = ends_both a b s.whole t.whole;
    all = subst (λ ls. KeepsAll fits count asker bound ls old new (p ++ q) (k ++ l)) (sym (s.whole b)) (keeps_join (lines_of a) (lines_of b) old mid new p q k l s.all t.all);
    added_are = entries_more old.book.history mid.book.history new.book.history d e s.added_are t.added_are;
  }
