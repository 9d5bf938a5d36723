use Rattle.std.proofs.Common.{◌∙◌}
use Rattle.pmb_profile_text.specs.Table.{command_table, device_keys, heading}
use Rattle.pmb_profile_text.proofs.Texts.{on_ok, puts_as}
use Rattle.pmb_profile_text.proofs.device_text.put_device.Goals as goal

pub returns-clause-puts : goal.returns-clause-puts
returns-clause-puts g c =
    let named = puts_as _ _ _ _ _ heading (c.as_slice.ensures.value ∙ c.heading.ensures) c.in_ok-put.ensures.ok in
    on_ok c.put_commands.result (λ rows.
    c.texts_add_up.ensures.both _ _ _ _ _ _ (device_keys c.args.place c.args.device.now) _ c.in_ok-put_keys.ensures.puts
    (c.texts_add_up.ensures.both _ _ _ _ _ _ heading (command_table c.args.device.now c.args.device.now.commands) named
    rows)) c.put_commands.ensures.puts
