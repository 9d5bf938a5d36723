use Rattle.std.proofs.Common.{List, ℕ, subst}
use Rattle.pmb_device.specs.Rules.{IsPageValue}
use Rattle.pmb_device.proofs.Taken.{takes_byte}
use Rattle.pmb_device.proofs.device_packet.take_byte.Goals as goal

pub returns-clause-takes : goal.returns-clause-takes
returns-clause-takes c same =
    let page = c.is_page_value.ensures.0 c.if-not-is_page_value.false in
    let here = subst (λ (bytes : List ℕ). IsPageValue c.args.device.now bytes c.args.byte) c.bytes.ensures.value page in
    takes_byte c.args.device.now c.args.leg.now.device c.args.leg.now.place c.args.leg.now.bytes c.args.byte
    c.take.result same here c.take.ensures.begins
