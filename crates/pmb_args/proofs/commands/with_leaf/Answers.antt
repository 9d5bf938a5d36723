use Rattle.std.proofs.Common.{◌∙◌, ap, refl}
use Rattle.std.proofs.lemmas.Result.{IfOk-weaker}
use Rattle.clap.specs.Words.{App, app_of, new_app, rule_of, with_subcommand}
use Rattle.pmb_args.proofs.CommandLemmas.{still_local, with_flag}
use Rattle.pmb_args.proofs.commands.with_leaf.Goals as goal

pub returns : goal.returns
returns c =
    let leaf = with_flag _ _ _ c.requires.local c.in_ok-leaf.ensures (new_app c.args.name.now)
    (rule_of c.args.argument) c.bare_command.ensures.shape refl in
    let local = still_local _ _ _ c.requires.local c.in_ok-leaf.ensures c.bare_command.ensures.local in
    IfOk-weaker c.subcommand.result _ _ (λ command added. added.shape local
    ∙ ap (λ (a : App). with_subcommand (app_of c.args.command) a.top) leaf) c.subcommand.ensures
