use Rattle.std.proofs.Common.{◌≡◌, ◌∙◌, ℕ, List, ap, arith, get_or, length, refl}
use Rattle.pmb_device.specs.Legs.{Outside}
use Rattle.pmb_devices.specs.machine.Others.{with_state}
use Rattle.pmb_devices.proofs.OtherWrites.{standing_at_place, still_at, takes_one_more, takes_them_all}
use Rattle.pmb_devices.proofs.others.take_each.Goals as goal

pub loop-address-init : goal.loop-address-init
loop-address-init c = λ bus legs before member behind at.
    record { state = member.state; such = refl; ended = at.ended }

-- one address more
pub loop-address-preserved : goal.loop-address-preserved
loop-address-preserved c = λ bus legs before member behind at.
    let devices = c.args.devices.now in
    let i = c.args.i in
    let k = c.loop-address.address-index in
    let so = c.loop-address.invariant bus legs before member behind at in
    let now = with_state member so.state in
    let more = c.take_at.ensures bus legs before now behind
    (still_at bus legs devices c.loop-address.devices i before member behind so.state at so.ended) in
    -- the addresses are the device's
    let same : c.as_slice-address-items.result.now ≡ member.device.also =
    c.as_slice-address-items.ensures.value
    ∙ c.others_of-also.ensures (record { device = member.device; state = member.state; legs = Outside })
    (standing_at_place bus legs devices i before member behind at c.index-devices-i.result) in
    let lengths : length c.as_slice-address-items.result.now ≡ length member.device.also =
    ap (λ (xs : List ℕ). length xs) same in
    record {
      state = more.state;
      such = takes_one_more bus legs member.device member.device.also k _ 0 member.state so.state more.state
          (omega (arith, lengths, c.loop-address-test.true)) (ap (λ (xs : List ℕ). get_or xs k 0) same) so.such more.such;
      ended = more.ended;
    }

-- all of them
pub returns : goal.returns
returns c = λ bus legs before member behind at.
    let so = c.loop-address.invariant bus legs before member behind at in
    let same : c.as_slice-address-items.result.now ≡ member.device.also =
    c.as_slice-address-items.ensures.value
    ∙ c.others_of-also.ensures (record { device = member.device; state = member.state; legs = Outside })
    (standing_at_place bus legs c.args.devices.now c.args.i before member behind at c.index-devices-i.result) in
    let lengths : length c.as_slice-address-items.result.now ≡ length member.device.also =
    ap (λ (xs : List ℕ). length xs) same in
    record {
      state = so.state;
      such = takes_them_all bus legs member.device member.device.also c.loop-address.address-index member.state so.state
          (omega (arith, lengths, c.loop-address-test.false)) so.such;
      ended = so.ended;
    }
