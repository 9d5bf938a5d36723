use Rattle.std.proofs.Common.{ℕ, ◌∙◌, ◌++◌, ap, map, sym}
use Rattle.pmb_keys.specs.declared.command.Command.{Command}
use Rattle.pmb_table.specs.machine.CommandMap.{bare_entry}
use Rattle.pmb_table.proofs.CommandMaps.{copy_next}
use Rattle.pmb_table.proofs.command_map.bare_copy.Goals as goal

-- one more entry is copied
pub loop-code-preserved : goal.loop-code-preserved
loop-code-preserved c =
    let entry : ℕ × Command = (c.in-Some.code.now, c.in-Some.command.now) in
    let left = c.next.new.self in
    ap (λ es. es ++ map bare_entry left) c.in_ok-insert_bare.ensures
    ∙ copy_next c.args.commands.now.entries c.loop-code.copy.entries left entry c.len.ensures.unique
    (ap (λ es. c.loop-code.copy.entries ++ map bare_entry es) (sym c.in-Some.ensures.steps) ∙ c.loop-code.invariant)
