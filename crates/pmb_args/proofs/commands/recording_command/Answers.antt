use Rattle.std.proofs.Common.{◌∙◌}
use Rattle.std.proofs.lemmas.Result.{IfOk-weaker}
use Rattle.pmb_args.proofs.CommandLemmas.{same_subcommand}
use Rattle.pmb_args.proofs.commands.recording_command.Goals as goal

pub returns : goal.returns
returns c =
    IfOk-weaker c.subcommand.result _ _ (λ command added. added.shape c.in_ok-import_command.ensures.local
    ∙ same_subcommand c.top_command.ensures c.in_ok-import_command.ensures.shape) c.subcommand.ensures
