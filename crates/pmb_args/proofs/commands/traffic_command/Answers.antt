use Rattle.std.proofs.Common.{◌∙◌, codes}
use Rattle.std.proofs.lemmas.Result.{IfOk-weaker}
use Rattle.pmb_args.proofs.CommandLemmas.{same_leaf}
use Rattle.pmb_args.proofs.commands.traffic_command.Goals as goal

pub returns : goal.returns
returns c =
    let building = c.in_ok-building.ensures ∙ same_leaf (codes "build") c.in_ok-capture_command.ensures
    c.sample_flag.ensures.rule in
    IfOk-weaker c.with_leaf-2.result _ _ (λ command is. is
    ∙ same_leaf (codes "run") building c.sample_flag-2.ensures.rule) c.with_leaf-2.ensures
