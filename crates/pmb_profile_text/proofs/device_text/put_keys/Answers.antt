use Rattle.std.proofs.Common.{◌∙◌}
use Rattle.pmb_profile_text.specs.Table.{device_end, device_head, mode_lines}
use Rattle.pmb_profile_text.proofs.Texts.{on_ok, puts_as}
use Rattle.pmb_profile_text.proofs.device_text.put_keys.Goals as goal

pub returns-clause-puts : goal.returns-clause-puts
returns-clause-puts g c =
    let device = c.args.device.now in
    let head = puts_as _ _ _ _ _ (device_head c.args.place device)
    (c.as_slice.ensures.value ∙ c.device_head.ensures) c.in_ok-put.ensures.ok in
    on_ok c.put-2.result (λ end.
    let last = puts_as _ _ _ _ _ (device_end device) (c.as_slice-2.ensures.value ∙ c.device_end.ensures) end in
    c.texts_add_up.ensures.both _ _ _ _ _ _ (device_head c.args.place device) _ head
    (c.texts_add_up.ensures.both _ _ _ _ _ _ (mode_lines device) (device_end device) c.in_ok-put_modes.ensures.puts
    last)) c.put-2.ensures.ok
