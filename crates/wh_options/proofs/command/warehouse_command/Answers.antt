-- The shape of the program's command, from those of its subcommands.
use Rattle.std.proofs.Common.{◌≡◌, ◌∙◌, ap, codes}
use Rattle.std.proofs.lemmas.Result.{IfOk-weaker}
use Rattle.clap.specs.Words.{app_of, new_app, with_subcommand}
use Rattle.wh_options.specs.Menu.{live_app, replay_app, ruled_app, serve_app, state_app, verify_app, with_settings}
use Rattle.wh_options.proofs.command.warehouse_command.Goals as goal

pub returns : goal.returns
returns c =
    let replay = c.in_ok-command-2.ensures in
    let check = c.in_ok-command.ensures in
    let check_in : app_of c.in_ok-command.command ≡ with_subcommand (with_settings (new_app (codes "warehouse"))) (ruled_app (codes "check") check.ends).top = check.is
    ∙ ap (λ a. with_subcommand a (ruled_app (codes "check") check.ends).top) c.bare_command.ensures in
    let replay_in = replay.is
    ∙ ap (λ a. with_subcommand a (replay_app replay.planners replay.tails replay.replies replay.ends).top) check_in in
    let verify = c.in_ok-command-3.ensures in
    let verify_in = verify.is
    ∙ ap (λ a. with_subcommand a (verify_app verify.ends).top) replay_in in
    let live = c.in_ok-command-4.ensures in
    let live_in = live.is
    ∙ ap (λ a. with_subcommand a (live_app live.planners live.ends).top) verify_in in
    let serve = c.in_ok-command-5.ensures in
    let serve_in = serve.is
    ∙ ap (λ a. with_subcommand a (serve_app serve.planners serve.replies serve.ends).top) live_in in
    IfOk-weaker c.with_state.result _ _ (λ made state. record {
      planners = replay.planners;
      tails = replay.tails;
      replies = replay.replies;
      others = record {
        live = live.planners;
        planners = serve.planners;
        replies = serve.replies;
        check_ends = check.ends;
        replay_ends = replay.ends;
        verify_ends = verify.ends;
        live_ends = live.ends;
        serve_ends = serve.ends;
        state_ends = state.ends;
      };
      planner_texts = replay.planner_texts;
      tail_texts = replay.tail_texts;
      replies_texts = replay.replies_texts;
      live_texts = live.planner_texts;
      other_texts = serve.planner_texts;
      other_replies = serve.replies_texts;
      check_ends = check.ends_texts;
      replay_ends = replay.ends_texts;
      verify_ends = verify.ends_texts;
      live_ends = live.ends_texts;
      serve_ends = serve.ends_texts;
      state_ends = state.ends_texts;
      is = state.is ∙ ap (λ a. with_subcommand a (state_app state.ends).top) serve_in;
    }) c.with_state.ensures
