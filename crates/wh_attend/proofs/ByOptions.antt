-- What serving by the options says of what it was served by.
use Rattle.std.proofs.Common.{◌≡◌, ◌+◌, ◌≤◌, ℕ, Bool, List, length, ap, subst, sym, Option, Some, None, Result, Ok, Err, arith}
use Rattle.std.specs.Prelude.{IfErr, IfOk, option_map}
use Rattle.wh_grid.specs.Grids.{Floor}
use Rattle.wh_event.specs.declared.entry.Entry.{Entry}
use Rattle.wh_core.specs.States.{State}
use Rattle.wh_log.specs.declared.form.Form.{Form}
use Rattle.wh_desk.specs.Pasts.{Origin}
use Rattle.wh_display.specs.declared.screen.ShowFault.{ShowFault}
use Rattle.wh_edge.specs.declared.trouble.Trouble.{Trouble}
use Rattle.wh_host.specs.Displays.{BoardsFrom, IsWhyUnlived}
use Rattle.wh_options.specs.declared.chosen.ServeOptions.{ServeOptions}
use Rattle.wh_serve.specs.Texts.{receipt_text}
use Rattle.wh_serve.specs.declared.threads.Client.{Client}
use Rattle.wh_serve.specs.declared.doors.WorkerEnd.{WorkerEnd}
use Rattle.wh_host.specs.declared.pacing.Pacing.{Pacing}
use Rattle.wh_host.specs.Pacing.{callers_of}
use Rattle.wh_host.specs.Runs.{ServedFrom}
use Rattle.wh_service.specs.Plays.{form_of}
use Rattle.wh_attend.specs.Attends.{ServesClients}
use Rattle.wh_attend.specs.Guests.{HaveRoom}
use Rattle.wh_attend.specs.Shares.{IsPacingOf}

-- what came, told in the form and with the pace that the options name
pub serves_clients : {A R W X : Type 0} (came : Result A Trouble) (fits : X → Floor → Bool) (count : X → ℕ) (remaining : R → Option (List ℕ)) (contents : W → Option (List ℕ)) (options : ServeOptions) (origin : Origin) (earlier : List Entry) (clients : List (Client X))
    (history : A → List Entry) (state : A → State) (connections : A → List ℕ) (worker : A → Option WorkerEnd) (form : Form) (pace : Option Pacing) → form ≡ form_of options.replies → IsPacingOf options.every options earlier pace
    → IfOk came (λ a. ServedFrom fits count (receipt_text form origin) remaining contents origin earlier clients pace (length earlier + options.journal) (history a) (state a) (connections a) (worker a))
    → IfOk came (λ a. ServesClients fits count remaining contents options origin earlier clients (history a) (state a))
serves_clients (Ok a) fits count remaining contents options origin earlier clients history state connections worker form pace is paced served = record {
  pace = pace;
  pace_is = paced;
  connections = connections a;
  worker = worker a;
  served = subst (λ (f : Form). ServedFrom fits count (receipt_text f origin) remaining contents origin earlier clients pace (length earlier + options.journal) (history a) (state a) (connections a) (worker a)) is served;
}
serves_clients (Err told) fits count remaining contents options origin earlier clients history state connections worker form pace is paced served = tt

-- ---- the screen

-- what screens tell, of what was taken out of a display
pub told_by : {D S T : Type 0} (tells : S → T) (of : D → S) (display : Option D) (screen : Option S) → option_map of display ≡ screen → option_map (λ d. tells (of d)) display ≡ option_map tells screen
told_by tells of None screen is = ap (option_map tells) is
told_by tells of (Some d) screen is = ap (option_map tells) is

unlived_by : {D T : Type 0} (display : Option D) (of : D → T) (screen : Option T) (told : Trouble) → option_map of display ≡ screen → IsWhyUnlived display told → IsWhyUnlived screen told
unlived_by {D} {T} None of screen told is why = subst (λ (s : Option T). IsWhyUnlived s told) is why
unlived_by {D} {T} (Some d) of screen told is why = subst (λ (s : Option T). IsWhyUnlived s told) is why

-- what the screen was shown, which was taken for a display
pub boards_by : {A : Type 0} (came : Result A Trouble) (origin : Origin) (earlier : List Entry) (history : A → List Entry) (last : A → Result Unit ShowFault) (had showed : Option (Option (List (List ℕ)))) (shows : A → Option (Option (List (List ℕ)))) → had ≡ showed
    → IfOk came (λ a. BoardsFrom origin earlier (history a) (last a) had (shows a)) → IfOk came (λ a. BoardsFrom origin earlier (history a) (last a) showed (shows a))
boards_by (Ok a) origin earlier history last had showed shows same boards = subst (λ (s : Option (Option (List (List ℕ)))). BoardsFrom origin earlier (history a) (last a) s (shows a)) same boards
boards_by (Err told) origin earlier history last had showed shows same boards = tt

-- why there is no history, of the screen that was taken for a display
pub unserved_by : {A D T : Type 0} (came : Result A Trouble) (display : Option D) (of : D → T) (screen : Option T) → option_map of display ≡ screen → IfErr came (IsWhyUnlived display) → IfErr came (IsWhyUnlived screen)
unserved_by (Ok a) display of screen is why = tt
unserved_by (Err told) display of screen is why = unlived_by display of screen told is why

-- beside a worker there are no more than 64 callers either
pub callers_few_by : {C : Type 0} (clients : List C) (every : Option ℕ) (options : ServeOptions) (earlier : List Entry) (pace : Option Pacing) → HaveRoom every (length clients) → IsPacingOf every options earlier pace → callers_of clients pace ≤ 64
callers_few_by clients None options earlier pace few is = subst (λ (p : Option Pacing). callers_of clients p ≤ 64) (sym is) few
callers_few_by clients (Some every) options earlier None few is = absurd is
callers_few_by clients (Some every) options earlier (Some pace) few is = omega arith
