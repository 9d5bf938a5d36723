use Rattle.std.proofs.Common.{rules, arith, ◌∙◌, sym, ap, subst}
use Rattle.pmb_command.specs.Entry.{entry_parts}
use Rattle.pmb_table.specs.Profile.{put}
use Rattle.std.specs.List.{AllByRecursion}
use Rattle.pmb_command.specs.Bus.{IsCommand}
use Rattle.pmb_command.specs.Standard.{standard_command}
use Rattle.pmb_table.proofs.Accepted.{All-put, standard_is_command}
use Rattle.pmb_table.proofs.StandardList.{put-standard, standard_from-all, standard_from-none}
use Rattle.pmb_table.proofs.standard_commands.standard_ones.Goals as goal
use Rattle.pmb_table.proofs.standard_commands.standard_ones.Goals.{in-Some+in_ok-put, in_default}

pub loop-code-preserved : goal.loop-code-preserved
loop-code-preserved c =
    elim c.match-standard.branch [
      | in-Some+in_ok-put w ↦
          record {
            commands =
                w.commands-is
                ∙ w.in_ok-put.ensures.ok
                ∙ ap (λ command. put command c.loop-code.commands) w.standard-in-Some.ensures
                ∙ ap (put (standard_command (entry_parts w.in-Some.entry))) c.loop-code.invariant.commands
                ∙ put-standard c.standard_entries_are_sound.ensures c.loop-code.code (entry_parts w.in-Some.entry)
                (sym w.in-Some.ensures.entry);
            own_codes = search rules;
            accepted =
                subst (AllByRecursion IsCommand) (sym (w.commands-is ∙ w.in_ok-put.ensures.ok
                ∙ ap (λ command. put command c.loop-code.commands) w.standard-in-Some.ensures))
                (All-put IsCommand (standard_command (entry_parts w.in-Some.entry)) c.loop-code.commands
                (standard_is_command c.loop-code.code (entry_parts w.in-Some.entry) w.in-Some.ensures.sound) c.loop-code.invariant.accepted);
          }
      | in_default w ↦
          record {
            commands = w.commands-is ∙ c.loop-code.invariant.commands ∙ standard_from-none c.loop-code.code
                (sym w.in_default.ensures.entry);
            own_codes = search rules;
            accepted = subst (AllByRecursion IsCommand) (sym w.commands-is) c.loop-code.invariant.accepted;
          }
    ]

pub returns-clause-commands : goal.returns-clause-commands
returns-clause-commands c = c.loop-code.invariant.commands ∙ standard_from-all c.loop-code.code (omega arith)
