use Rattle.std.proofs.Common.{◌≡◌, ◌<◌, ◌∙◌, arith, ap, length, length-take, lit<, min, take}
use Rattle.std.proofs.lemmas.List.{length-map}
use Rattle.pmb_table.proofs.device_reader.addresses_of.Goals as goal

pub push-requires : goal.push-requires
push-requires c =
    let devices = c.args.devices.now in
    let i = c.loop-device.device-index in
    let count : length c.loop-device.addresses.items ≡ min i (length devices) =
    ap length c.loop-device.invariant ∙ length-map (take i devices) (λ d. d.address) ∙ length-take i devices in
    let room : length c.loop-device.addresses.items < 64 = omega arith in
    (lit< tt, room)
