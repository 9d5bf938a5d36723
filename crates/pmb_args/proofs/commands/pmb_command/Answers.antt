use Rattle.std.proofs.Common.{◌∙◌, codes}
use Rattle.std.proofs.lemmas.Result.{IfOk-weaker}
use Rattle.pmb_args.proofs.CommandLemmas.{same_leaf, same_subcommand}
use Rattle.pmb_args.proofs.commands.pmb_command.Goals as goal

pub returns : goal.returns
returns c =
    let describing = c.in_ok-describing.ensures
    ∙ same_leaf (codes "profile") c.in_ok-traffic_command.ensures c.sample_flag.ensures.rule in
    let scanning = c.in_ok-scanning.ensures.shape c.scan_command.ensures.local
    ∙ same_subcommand describing c.scan_command.ensures.shape in
    let picking = c.in_ok-picking.ensures.shape c.parts_command.ensures.local
    ∙ same_subcommand scanning c.parts_command.ensures.shape in
    let encoding = c.in_ok-encoding.ensures ∙ same_leaf (codes "encode") picking c.format_word.ensures.rule in
    IfOk-weaker c.with_leaf-3.result _ _ (λ command is. is
    ∙ same_leaf (codes "decode") encoding c.format_word-2.ensures.rule) c.with_leaf-3.ensures
