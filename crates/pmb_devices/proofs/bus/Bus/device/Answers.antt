use Rattle.std.proofs.Common.{◌≢◌, List, sym, subst, ◌∙◌, arith}
use Rattle.std.specs.List.{AllByRecursion}
use Rattle.std.proofs.lemmas.List.{take_all}
use Rattle.pmb_device.specs.declared.device.Device.{Device}
use Rattle.pmb_device.specs.Legs.{Outside}
use Rattle.pmb_device.specs.Device.{DeviceStandsAt}
use Rattle.pmb_devices.specs.Bus.{legs_after}
use Rattle.pmb_devices.specs.machine.Standing.{AllStand}
use Rattle.pmb_devices.proofs.Members.{at_place, as_many, none_so_far}
use Rattle.pmb_devices.proofs.bus.Bus.device.Goals as goal

pub returns-then-address : goal.returns-then-address
returns-then-address c = λ standing at.
    let legs = legs_after Outside standing.history in
    let stand = subst (λ (ds : List Device). AllStand legs ds standing.members) (sym c.deref-device-items.ensures.value)
    at.devices in
    let there = at_place legs c.deref-device-items.result.now standing.members c.loop-device.device-index
    c.device-item.result stand c.loop-device-test.true in
    let member = there.member in
    let stands = subst (λ (d : Device). DeviceStandsAt d
    (record { device = member.device; state = member.state; legs = legs })) (sym c.device-item.is) there.stands in
    record {
      member = member;
      one_of = (c.loop-device.device-index, there.inside, there.is);
      address_is = sym (c.address.ensures (record { device = member.device; state = member.state; legs = legs }) stands)
          ∙ c.if-address.true;
      stands = stands;
    }

pub loop-device-preserved : goal.loop-device-preserved
loop-device-preserved c = λ standing at.
    let legs = legs_after Outside standing.history in
    let stand = subst (λ (ds : List Device). AllStand legs ds standing.members) (sym c.deref-device-items.ensures.value)
    at.devices in
    let there = at_place legs c.deref-device-items.result.now standing.members c.loop-device.device-index
    c.device-item.result stand c.loop-device-test.true in
    let member = there.member in
    let stands = subst (λ (d : Device). DeviceStandsAt d
    (record { device = member.device; state = member.state; legs = legs })) (sym c.device-item.is) there.stands in
    none_so_far c.args.address standing.members c.loop-device.device-index member there.inside there.is
    (c.loop-device.invariant standing at)
    (λ same. c.if-address.false (c.address.ensures
    (record { device = member.device; state = member.state; legs = legs }) stands ∙ same))

pub returns : goal.returns
returns c = λ standing at.
    let many = as_many (legs_after Outside standing.history) c.args.self.now.devices.items standing.members
    at.devices in
    subst (AllByRecursion (λ member. member.device.address ≢ c.args.address))
    (take_all c.loop-device.device-index standing.members
    (omega (arith, many, c.deref-device-items.ensures.len, c.loop-device-test.false)))
    (c.loop-device.invariant standing at)
