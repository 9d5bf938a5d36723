use Rattle.std.proofs.Common.{◌∙◌, ap}
use Rattle.pmb_profile_text.specs.Table.{bus_head, devices_text}
use Rattle.pmb_profile_text.proofs.Texts.{on_ok, puts_as}
use Rattle.pmb_profile_text.proofs.bus.put_bus.Goals as goal

pub returns-clause-puts : goal.returns-clause-puts
returns-clause-puts g c =
    let bus = c.args.profile.now in
    let head = puts_as _ _ _ _ _ (bus_head bus.ignored bus.devices) (c.as_slice.ensures.value ∙ c.bus_head.ensures)
    c.in_ok-put.ensures.ok in
    on_ok c.put_devices.result (λ rest.
    let devices = puts_as _ _ _ _ _ (devices_text 0 bus.devices) (ap (devices_text 0) c.profile.ensures.profile) rest in
    c.texts_add_up.ensures.both _ _ _ _ _ _ (bus_head bus.ignored bus.devices)
    (devices_text 0 bus.devices) head devices) c.put_devices.ensures.puts
