-- Boards that are shown one after another.
use Rattle.std.proofs.Common.{◌≡◌, ◌≢◌, ℕ, ◌+◌, ◌<◌, ◌≤◌, ◌==◌, Bool, true, false, List, [], ◌∷◌, ◌++◌, length, map, Option, None, Some, Result, Ok, Err, refl, ap, sym, ◌∙◌, subst, arith, append_assoc, append-nil}
use Rattle.std.specs.Prelude.{All}
use Rattle.std.proofs.lemmas.Bool.Decides.{nat_tests}
use Rattle.std.proofs.lemmas.List.{map_push}
use Rattle.std.proofs.lemmas.List.Elements.{All-nil, All-push}
use Rattle.wh_event.specs.declared.entry.Entry.{Entry}
use Rattle.wh_board.specs.Pasts.{Past, Extends, last_of}
use Rattle.wh_board.specs.Boards.{IsBoardOf}
use Rattle.wh_board.specs.declared.board.Board.{Board}
use Rattle.wh_board.proofs.Chains.{extends_self, extends_trans, last_snoc}
use Rattle.wh_board.proofs.Fronts.{prefix_length, prefix_whole}
use Rattle.wh_display.specs.Texts.{board_text}
use Rattle.wh_display.specs.Screens.{Grows, InTurn, Refreshes, Renews, Shows, Sight, Watches, pasts_of, texts_of}
use Rattle.wh_display.specs.declared.watching.Watched.{Watched}
use Rattle.wh_display.specs.declared.screen.ShowFault.{ShowFault}

-- ---- texts

pub shows_none : (had : Option (List (List ℕ))) → Shows had had []
shows_none None = tt
shows_none (Some shown) = ap Some (sym (append-nil shown))

pub shows_more : (had mid has : Option (List (List ℕ))) (xs ys : List (List ℕ)) → Shows had mid xs → Shows mid has ys → Shows had has (xs ++ ys)
shows_more None mid has xs ys p q = tt
shows_more (Some shown) mid has xs ys p q =
    let r : Shows (Some (shown ++ xs)) has ys = subst (λ (m : Option (List (List ℕ))). Shows m has ys) p q in
    r ∙ ap Some (append_assoc shown xs ys)

pub shows_as : (had has : Option (List (List ℕ))) (xs ys : List (List ℕ)) → xs ≡ ys → Shows had has xs → Shows had has ys
shows_as had has xs ys is p = subst (Shows had has) is p

-- ---- pasts

longer : (p q : Past) → Extends p q → length p.history ≤ length q.history
longer p q more = prefix_length p.history q.history more.1

-- what extends a past and is no longer is that past
pub same_past : (p q : Past) → Extends p q → length q.history ≤ length p.history → p ≡ q
same_past p q more short =
    let entries : p.history ≡ q.history = prefix_whole p.history q.history more.1 short in
    ap (λ (h : List Entry). record { origin = p.origin; history = h }) entries ∙ ap (λ o. record { origin = o; history = q.history }) (sym more.0)

grows_push : (p : Past) (ps : List Past) (q : Past) → Grows p ps → Extends (last_of p ps) q → length (last_of p ps).history < length q.history → Grows p (ps ++ q ∷ [])
grows_push p [] q grows more less = (more, less, tt)
grows_push p (x ∷ xs) q grows more less = (grows.0, grows.1, grows_push x xs q grows.2 more less)

-- ---- looks

-- boards that were seen in turn were shown, and the last of them has this many entries
pub record Watching (before known : Past) (shown : ℕ) (had has : Option (List (List ℕ))) : Type 0 where
  pub sights : List Sight
  pub in_turn : InTurn before known sights
  pub texts : Shows had has (texts_of sights)
  pub entries : shown ≡ length (last_of before (pasts_of sights)).history

pub watching_none : (p : Past) (shown : ℕ) (had : Option (List (List ℕ))) → shown ≡ length p.history → Watching p p shown had had
watching_none p shown had many = record {
  sights = [];
  in_turn = record { boards = All-nil (λ (s : Sight). IsBoardOf s.past s.board); grow = tt; begins = extends_self p };
  texts = shows_none had;
  entries = many;
}

-- all that is known has been shown
pub record CaughtUp (before later : Past) (shown : ℕ) (had has : Option (List (List ℕ))) : Type 0 where
  pub watching : Watching before later shown had has
  pub last_is : last_of before (pasts_of watching.sights) ≡ later

module _ {before known later : Past} {shown : ℕ} {had mid : Option (List (List ℕ))} (w : Watching before known shown had mid) (more : Extends known later) where
  abbrev last : Past
  last = last_of before (pasts_of w.sights)

  to_later : Extends last later
  to_later = extends_trans last known later w.in_turn.begins more

  still_in_turn : InTurn before later w.sights
  still_in_turn = record { boards = w.in_turn.boards; grow = w.in_turn.grow; begins = to_later }

  still_shown : (has : Option (List (List ℕ))) → Shows mid has [] → Shows had has (texts_of w.sights)
  still_shown has none =
      shows_as had has (texts_of w.sights ++ []) (texts_of w.sights) (append-nil (texts_of w.sights)) (shows_more had mid has (texts_of w.sights) [] w.texts none)

  -- nothing was shown
  pub watching_fails : {has : Option (List (List ℕ))} → Shows mid has [] → Watching before later shown had has
  watching_fails {has} none = record { sights = w.sights; in_turn = still_in_turn; texts = still_shown has none; entries = w.entries }

  module _ {has : Option (List (List ℕ))} (board : Board) (is_board : IsBoardOf later board) (renews : Renews (Some shown) board mid has) where
    go : (b : Bool) → (shown == board.entries) ≡ b → CaughtUp before later board.entries had has
    go true is =
        let same : shown ≡ board.entries = grind (arith, nat_tests) in
        record {
          watching = record { sights = w.sights; in_turn = still_in_turn; texts = still_shown has (renews.same (ap Some same)); entries = sym same ∙ w.entries };
          last_is = same_past last later to_later (omega (arith, same, is_board.entries, w.entries));
        }
    go false is =
        let apart : shown ≢ board.entries = λ e. absurd (grind (arith, nat_tests)) in
        let other : Some shown ≢ Some board.entries = λ bad. apart (cc bad) in
        let new : Sight = record { past = later; board = board } in
        let pasts : pasts_of (w.sights ++ new ∷ []) ≡ pasts_of w.sights ++ later ∷ [] = map_push (λ (s : Sight). s.past) w.sights new in
        let ends : last_of before (pasts_of (w.sights ++ new ∷ [])) ≡ later = ap (last_of before) pasts ∙ last_snoc before (pasts_of w.sights) later in
        let less : length last.history < length later.history = omega (arith, apart, w.entries, is_board.entries, longer last later to_later) in
        record {
          watching = record {
            sights = w.sights ++ new ∷ [];
            in_turn = record {
              boards = All-push (λ (s : Sight). IsBoardOf s.past s.board) w.sights new w.in_turn.boards is_board;
              grow = subst (Grows before) (sym pasts) (grows_push before (pasts_of w.sights) later w.in_turn.grow to_later less);
              begins = subst (λ (p : Past). Extends p later) (sym ends) (extends_self later);
            };
            texts = shows_as had has (texts_of w.sights ++ board_text board ∷ []) (texts_of (w.sights ++ new ∷ [])) (sym (map_push (λ (s : Sight). board_text s.board) w.sights new))
                (shows_more had mid has (texts_of w.sights) (board_text board ∷ []) w.texts (renews.changed other));
            entries = is_board.entries ∙ ap (λ (p : Past). length p.history) (sym ends);
          };
          last_is = ends;
        }

    -- the board was shown, if it had changed
    pub watching_renews : CaughtUp before later board.entries had has
    watching_renews = go (shown == board.entries) refl

  pub watching_looks : {has : Option (List (List ℕ))} (entries : ℕ) → Refreshes later (Some shown) entries mid has → CaughtUp before later entries had has
  watching_looks {has} entries looks =
      subst (λ (n : ℕ). CaughtUp before later n had has) (sym looks.entries_are) (watching_renews looks.board looks.shows_board looks.renews)

-- the last look went well, or it did not
pub watches_all : (before known : Past) (entries : ℕ) (had has : Option (List (List ℕ))) → CaughtUp before known entries had has → Watches before known (record { shown = entries; last = Ok tt }) had has
watches_all before known entries had has all =
    record { sights = all.watching.sights; in_turn = all.watching.in_turn; texts = all.watching.texts; entries = all.watching.entries; last = all.last_is }

pub watches_some : (before known : Past) (entries : ℕ) (fault : ShowFault) (had has : Option (List (List ℕ))) → Watching before known entries had has → Watches before known (record { shown = entries; last = Err fault }) had has
watches_some before known entries fault had has w = record { sights = w.sights; in_turn = w.in_turn; texts = w.texts; entries = w.entries; last = tt }
