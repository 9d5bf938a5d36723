use Rattle.std.proofs.Common.{◌∙◌, sym}
use Rattle.pmb_devices.specs.machine.Hands.{is_stop}
use Rattle.pmb_devices.proofs.OtherWrites.{stays_after}
use Rattle.pmb_devices.proofs.bus.give.Goals as goal

-- the devices stay as they took the signal
pub returns-else-take_now : goal.returns-else-take_now
returns-else-take_now c = λ legs members stand listening. record {
  handed = c.hand_on-answer.new.devices;
  hands = c.hand_on-answer.ensures legs members stand;
  takes = stays_after c.args.listens (is_stop c.args.signal) legs members c.hand_on-answer.new.devices listening
      (sym c.take_now.ensures ∙ c.if-take_now.false);
}
