use Rattle.std.proofs.Common.{◌≡◌, ◌∙◌, OnOk, subst}
use Rattle.pmb_command.specs.Parts.{DeviceParts}
use Rattle.pmb_io.specs.Outgoing.{PutsText}
use Rattle.pmb_profile_text.specs.Table.{device_text}
use Rattle.pmb_profile_text.proofs.bus.put_device_at.Goals as goal

-- The text is that of the device at the index.
pub returns-clause-puts : goal.returns-clause-puts
returns-clause-puts g c = λ device is.
    let known = c.in-Some.ensures.device ∙ is in
    let same : c.in-Some.device.now ≡ device = cc in
    subst (λ (d : DeviceParts). OnOk c.put_device.result
    (PutsText (g.W.Sink.told c.args.writer.now).held c.args.waiting.now.items
    (g.W.Sink.told c.put_device.new.writer).held c.put_device.new.waiting.items (device_text c.args.index d)))
    same c.put_device.ensures.puts
