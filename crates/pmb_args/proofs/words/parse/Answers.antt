use Rattle.std.proofs.Common.{◌≡◌, ◌∙◌, ap, map, subst, true, refl}
use Rattle.std.specs.Prelude.{IfOk}
use Rattle.std.proofs.lemmas.Result.{IfOk-weaker}
use Rattle.clap.specs.Words.{App, FailsBy, fault_of, is_simple, is_simple_and_free, subcommand_of, subcommand_rows_of}
use Rattle.clap.proofs.OnLiterals.{clap_on_literals}
use Rattle.pmb_args.specs.Words.{pmb_app}
use Rattle.pmb_args.proofs.words.parse.Goals as goal

-- The command is of the kind of which `clap` tells all faults.
pmb_is_simple : is_simple_and_free pmb_app ≡ true
unfolding clap_on_literals
pmb_is_simple = refl

pub returns-clause-kinds : goal.returns-clause-kinds
returns-clause-kinds g c =
    subst (λ (a : App). FailsBy (fault_of a (map g.S.AsStr.text c.args.words.now)) c.try_get_matches_from.result)
    c.in_ok-pmb_command.ensures
    (c.try_get_matches_from.ensures.kinds (ap is_simple_and_free c.in_ok-pmb_command.ensures ∙ pmb_is_simple))

-- So is what it makes of the words.
matches_are_known : is_simple pmb_app ≡ true
unfolding clap_on_literals
matches_are_known = refl

pub returns-clause-matches : goal.returns-clause-matches
returns-clause-matches g c =
    subst (λ (a : App). IfOk c.try_get_matches_from.result
    (λ matches. subcommand_rows_of matches ≡ subcommand_of a (map g.S.AsStr.text c.args.words.now)))
    c.in_ok-pmb_command.ensures
    (IfOk-weaker c.try_get_matches_from.result _ _
    (λ matches has. (has (ap is_simple c.in_ok-pmb_command.ensures ∙ matches_are_known)).1)
    c.try_get_matches_from.ensures.matches)
