use Rattle.std.proofs.Common.{◌∙◌, ◌++◌, ℕ, List, ap, codes}
use Rattle.pmb_command.specs.Entry.{EntryParts}
use Rattle.pmb_command.specs.Fitting.{register_form}
use Rattle.pmb_profile_text.specs.Table.{first_word}
use Rattle.pmb_profile_text.proofs.Texts.{then}
use Rattle.pmb_profile_text.proofs.command_row.command_row.Goals as goal

pub returns : goal.returns
returns c = λ command is same.
    let cells = c.command_cells-row.result.items in
    let word = first_word c.args.device.now 0 command (register_form command.entry.shape) in
    let first = c.append_first.ensures.text command is (ap (λ (e : EntryParts). e.shape) same) in
    then cells _ _ word (codes "\n") first c.append.ensures
    ∙ ap (λ (t : List ℕ). t ++ (word ++ codes "\n")) (c.command_cells-row.ensures.text command same)
