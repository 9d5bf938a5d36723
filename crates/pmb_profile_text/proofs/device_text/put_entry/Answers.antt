use Rattle.std.proofs.Common.{◌∙◌}
use Rattle.pmb_profile_text.specs.Table.{command_rows, meaning_lines}
use Rattle.pmb_profile_text.proofs.Texts.{on_ok, puts_as}
use Rattle.pmb_profile_text.proofs.device_text.put_entry.Goals as goal

pub returns-clause-puts : goal.returns-clause-puts
returns-clause-puts g c = λ command is same.
    on_ok c.put.result (λ put.
    let last = puts_as _ _ _ _ _ (meaning_lines command)
    (c.as_slice.ensures.value ∙ c.meaning_lines.ensures command is same) put in
    c.texts_add_up.ensures.both _ _ _ _ _ _ (command_rows c.args.device.now command) (meaning_lines command)
    (c.in_ok-put_rows.ensures.puts command is same) last) c.put.ensures.ok
