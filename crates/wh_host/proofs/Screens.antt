-- Boards beside a run, up to the one of all that was done.
use Rattle.std.proofs.Common.{◌≡◌, ℕ, List, [], ◌∷◌, Option, None, Some, Result, Ok, Err, ◌∙◌, subst}
use Rattle.std.specs.Prelude.{OnOk, OnErr}
use Rattle.wh_event.specs.declared.entry.Entry.{Entry}
use Rattle.wh_board.specs.Pasts.{Extends, Origin, Past}
use Rattle.wh_display.specs.Screens.{Renews, Shows, Watches, texts_of}
use Rattle.wh_display.specs.Texts.{board_text}
use Rattle.wh_display.specs.declared.screen.ShowFault.{ShowFault}
use Rattle.wh_display.specs.declared.watching.Watched.{Watched}
use Rattle.wh_display.proofs.Sights.{Watching, shows_more, watching_fails, watching_renews}
use Rattle.wh_host.specs.Displays.{FirstShown, IsWhyUnlived, IsWhyUnshown, ShownFrom, ShowsLast}
use Rattle.wh_edge.specs.declared.trouble.Trouble.{Trouble}
use Rattle.wh_edge.specs.declared.trouble.Trouble.TheVariants as trouble
use Rattle.wh_crew.specs.Troubles.{IsWhyDead}

-- the first board, those of the watch, and the last
pub shown_from : (origin : Origin) (earlier history : List Entry) (known : Past) (watched : Watched) (had first mid has : Option (List (List ℕ))) (last : Result Unit ShowFault)
    → FirstShown (record { origin = origin; history = earlier }) had first → Watches (record { origin = origin; history = earlier }) known watched first mid
    → Extends known (record { origin = origin; history = history }) → ShowsLast (record { origin = origin; history = history }) watched.shown last mid has
    → ShownFrom origin earlier history last had has
shown_from origin earlier history known watched had first mid has last begin watches more ends = go last ends.ok ends.err
  where
    start : Past
    start = record { origin = origin; history = earlier }

    watching : Watching (record { origin = origin; history = earlier }) known watched.shown first mid
    watching = record { sights = watches.sights; in_turn = watches.in_turn; texts = watches.texts; entries = watches.entries }

    go : (r : Result Unit ShowFault) → OnOk r (Renews (Some watched.shown) ends.board mid has) → OnErr r (Shows mid has []) → ShownFrom origin earlier history r had has
    go (Ok done) renews none =
        let all = watching_renews watching more ends.board ends.is_board renews in
        record {
          at_first = begin.board;
          at_first_is = begin.is_board;
          sights = all.watching.sights;
          in_turn = all.watching.in_turn;
          texts = shows_more had first has (board_text begin.board ∷ []) (texts_of all.watching.sights) begin.texts all.watching.texts;
          last_is = all.last_is;
        }
    go (Err fault) renews none =
        let still = watching_fails watching more none in
        record {
          at_first = begin.board;
          at_first_is = begin.is_board;
          sights = still.sights;
          in_turn = still.in_turn;
          texts = shows_more had first has (board_text begin.board ∷ []) (texts_of still.sights) begin.texts still.texts;
          last_is = tt;
        }

-- the same of a run whose opening and whole past are told otherwise
pub shown_of_run : (origin : Origin) (earlier history : List Entry) (opening whole before known : Past) (watched : Watched) (had first mid has : Option (List (List ℕ))) (last : Result Unit ShowFault)
    → opening ≡ record { origin = origin; history = earlier } → whole ≡ record { origin = origin; history = history } → before ≡ opening
    → FirstShown opening had first → Watches before known watched first mid → Extends known whole → ShowsLast whole watched.shown last mid has
    → ShownFrom origin earlier history last had has
shown_of_run origin earlier history opening whole before known watched had first mid has last begun done stood begin watches more ends =
    shown_from origin earlier history known watched had first mid has last
    (subst (λ (p : Past). FirstShown p had first) begun begin)
    (subst (λ (p : Past). Watches p known watched first mid) (stood ∙ begun) watches)
    (subst (λ (p : Past). Extends known p) done more)
    (subst (λ (p : Past). ShowsLast p watched.shown last mid has) done ends)

-- ---- why there is no log

pub dead_unshown : (told : Trouble) → IsWhyDead told → IsWhyUnshown told
dead_unshown trouble.NoThread why = tt
dead_unshown trouble.Differs why = tt
dead_unshown trouble.NoMemory why = tt
dead_unshown _ why = absurd why

pub dead_unlived : {D : Type 0} (display : Option D) (told : Trouble) → IsWhyDead told → IsWhyUnlived display told
dead_unlived None told why = why
dead_unlived (Some display) told why = dead_unshown told why

-- for lack of memory there is no log, in any case
pub memory_unlived : {D : Type 0} (display : Option D) → IsWhyUnlived display trouble.NoMemory
memory_unlived display = dead_unlived display trouble.NoMemory tt
