use Rattle.std.proofs.Common.{◌∙◌, List, refl, sym, ap, subst, arith}
use Rattle.std.specs.Vec.{with_items}
use Rattle.std.proofs.lemmas.List.{with_items_is}
use Rattle.pmb_device.specs.declared.device.Device.{Device}
use Rattle.pmb_device.specs.Legs.{Outside}
use Rattle.pmb_devices.specs.declared.bus.Bus.{Bus}
use Rattle.pmb_devices.specs.Bus.{legs_after}
use Rattle.pmb_devices.specs.Recorded.{RecordedData}
use Rattle.pmb_devices.specs.machine.Standing.{AllStand}
use Rattle.pmb_devices.specs.machine.Hands.{Gives}
use Rattle.pmb_devices.specs.machine.Others.{some_listens}
use Rattle.pmb_devices.proofs.Signals.{takes}
use Rattle.pmb_devices.proofs.bus.Bus.signal.Goals as goal

pub returns-clause-takes : goal.returns-clause-takes
returns-clause-takes c = λ standing at.
    let legs = legs_after Outside standing.history in
    let stand = subst (λ (devices : List Device). AllStand legs devices standing.members)
    (sym c.as_mut_slice.ensures.value) at.devices in
    let given = c.give-answer.ensures legs standing.members stand (at.listens ∙ ap some_listens (sym at.profile)) in
    let items = with_items_is c.args.self.now.devices c.give-answer.new.devices (omega arith) in
    let new : Bus = record {
      profile = c.args.self.now.profile;
      devices = with_items c.args.self.now.devices c.give-answer.new.devices;
      listens = c.args.self.now.listens;
    } in
    takes c.args.self.now new refl (at.exact ∙ sym c.args.self.now.devices.ok.0 ∙ new.devices.ok.0) refl standing at
    c.args.signal c.new.result.result c.give-answer.result
    (ap (λ (r : RecordedData). r.result) c.new.ensures) c.transactions_are_applied.ensures
    (subst (Gives legs c.args.signal standing.members c.give-answer.result) (sym items) given)
