use Rattle.std.proofs.Common.{◌∙◌, codes}
use Rattle.std.proofs.lemmas.Result.{IfOk-weaker}
use Rattle.pmb_args.proofs.CommandLemmas.{same_leaf, same_subcommand}
use Rattle.pmb_args.proofs.commands.capture_command.Goals as goal

pub returns : goal.returns
returns c =
    let showing = c.in_ok-showing.ensures ∙ same_leaf (codes "show") c.in_ok-recording_command.ensures c.sample_flag.ensures.rule in
    let checking = c.in_ok-checking.ensures ∙ same_leaf (codes "check") showing c.sample_flag-2.ensures.rule in
    let with_json = c.in_ok-with_json.ensures.shape c.in_ok-json_command.ensures.local
    ∙ same_subcommand checking c.in_ok-json_command.ensures.shape in
    let with_log = c.in_ok-with_log.ensures.shape c.in_ok-log_command.ensures.local
    ∙ same_subcommand with_json c.in_ok-log_command.ensures.shape in
    IfOk-weaker c.subcommand-3.result _ _ (λ command added. added.shape c.in_ok-stats_command.ensures.local
    ∙ same_subcommand with_log c.in_ok-stats_command.ensures.shape) c.subcommand-3.ensures
