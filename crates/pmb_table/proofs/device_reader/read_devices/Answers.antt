use Rattle.std.proofs.Common.{◌≡◌, ◌+◌, ◌++◌, ◌≤◌, arith, false, length, map, Ok, drop, ⊎_elim, refl, sym, ap, subst, ◌∙◌}
use Rattle.std.proofs.lemmas.List.{append-nil, at_drop_all, length_push}
use Rattle.std.specs.List.{IsDistinct}
use Rattle.toml.specs.Data.{item}
use Rattle.toml.specs.View.{items_view, view}
use Rattle.pmb_command.specs.Bus.{IsDevice}
use Rattle.pmb_command.specs.Parts.{IsNew}
use Rattle.pmb_keys.specs.Addresses.{each_named}
use Rattle.pmb_keys.specs.machine.Addresses.{AreAmong}
use Rattle.pmb_table.specs.Profile.{device_of, devices_after, needs_memory}
use Rattle.pmb_table.proofs.Accepted.{All-push}
use Rattle.pmb_table.proofs.Also.{are_of_devices, named-next}
use Rattle.pmb_table.proofs.CommandSteps.{item_at}
use Rattle.pmb_table.proofs.DeviceSteps.{HaveOwnAddresses-push, fault_without_memory, read_needs, rest_of_device}
use Rattle.pmb_table.proofs.device_reader.read_devices.Goals as goal
use Rattle.pmb_table.proofs.device_reader.read_devices.Goals.{In-Ok}

pub loop-value-init : goal.loop-value-init
unfolding IsDistinct
loop-value-init c = rw (c.new-devices.ensures.items, c.named_addresses-named.ensures) record {
  read = refl;
  count = refl;
  no_memory = λ none. none;
  own_addresses = tt;
  devices = tt;
  apart = tt;
  named = refl;
  also = tt;
}

-- the device that was read is the value's
is_read : (c : In-Ok) → Ok c.in-Ok.device
    ≡ device_of c.args.ignored.now c.named_addresses-named.result c.loop-value.devices.items (view c.value-item.result)
is_read c = rw (← c.as_slice-before.ensures.value) (⊎_elim (λ memory. cc) (λ read. read) c.in-Ok.ensures.read)

pub loop-value-preserved : goal.loop-value-preserved
loop-value-preserved c =
    let ignored = c.args.ignored.now in
    let named = c.named_addresses-named.result in
    let before = c.loop-value.devices.items in
    let i = c.loop-value.value-index in
    let vs = c.args.values.now in
    let item_here : items_view (drop i vs) ≡ item (view c.value-item.result) (items_view (drop (i + 1) vs)) =
    item_at vs i c.value-item.result c.loop-value-test.true c.value-item.is in
    let own : IsNew c.in-Ok.device.address (map (λ x. x.address) before) =
    rw (← c.as_slice-before.ensures.value) c.in-Ok.ensures.own_address in
    rw c.in-Ok-push.ensures.items record {
      read =
          rest_of_device ignored named before (view c.value-item.result) (items_view (drop (i + 1) vs)) c.in-Ok.device
          (is_read (goal.at.loop-value-preserved c).In-Ok)
          ∙ ap (devices_after ignored named before)
          (sym item_here)
          ∙ c.loop-value.invariant.read;
      no_memory = λ none. read_needs ignored named before (view c.value-item.result) (items_view (drop (i + 1) vs))
          c.in-Ok.device
          (subst (λ ds. needs_memory ignored named before ds ≡ false) item_here (c.loop-value.invariant.no_memory none))
          (rw (← c.as_slice-before.ensures.value) c.in-Ok.ensures.keys);
      count = length_push before c.in-Ok.device ∙ ap (λ n. n + 1) c.loop-value.invariant.count;
      own_addresses = HaveOwnAddresses-push before c.in-Ok.device c.loop-value.invariant.own_addresses own;
      devices = All-push IsDevice before c.in-Ok.device c.loop-value.invariant.devices c.in-Ok.ensures.device;
      apart = All-push (λ d. IsNew d.address ignored) before c.in-Ok.device c.loop-value.invariant.apart
          c.in-Ok.ensures.not_ignored;
      named = named-next before (view c.value-item.result) (items_view (drop (i + 1) vs)) c.in-Ok.device
          c.in-Ok.ensures.named
          ∙ ap (λ ds. map (λ x. x.address) before ++ each_named ds) (sym item_here)
          ∙ c.loop-value.invariant.named;
      also = All-push (λ d. AreAmong named d.also) before c.in-Ok.device c.loop-value.invariant.also
          c.in-Ok.ensures.also;
    }

-- no device was read, where it could be told without memory
pub returns-in-Err-push-clause-no_memory : goal.returns-in-Err-push-clause-no_memory
returns-in-Err-push-clause-no_memory c = λ none.
    let ignored = c.args.ignored.now in
    let named = c.named_addresses-named.result in
    let before = c.loop-value.devices.items in
    let i = c.loop-value.value-index in
    let vs = c.args.values.now in
    read_needs ignored named before (view c.value-item.result) (items_view (drop (i + 1) vs)) c.in-Ok.device
    (subst (λ ds. needs_memory ignored named before ds ≡ false)
    (item_at vs i c.value-item.result c.loop-value-test.true c.value-item.is) (c.loop-value.invariant.no_memory none))
    (rw (← c.as_slice-before.ensures.value) c.in-Ok.ensures.keys)

-- the fault of the keys of a device
pub returns-in-Err-clause-no_memory : goal.returns-in-Err-clause-no_memory
returns-in-Err-clause-no_memory c = λ none.
    let ignored = c.args.ignored.now in
    let named = c.named_addresses-named.result in
    let before = c.loop-value.devices.items in
    let i = c.loop-value.value-index in
    let vs = c.args.values.now in
    let item_here : items_view (drop i vs) ≡ item (view c.value-item.result) (items_view (drop (i + 1) vs)) =
    item_at vs i c.value-item.result c.loop-value-test.true c.value-item.is in
    fault_without_memory ignored named before (view c.value-item.result) (items_view (drop (i + 1) vs)) c.in-Err.fault
    (subst (λ ds. needs_memory ignored named before ds ≡ false) item_here (c.loop-value.invariant.no_memory none))
    (rw (← c.as_slice-before.ensures.value) c.in-Err.ensures.keys)
    ∙ ap (devices_after ignored named before) (sym item_here)
    ∙ c.loop-value.invariant.read

-- no values are left, so each address that they name is that of a device
pub returns-clause-also : goal.returns-clause-also
returns-clause-also c =
    let devices = c.loop-value.devices.items in
    let i = c.loop-value.value-index in
    let vs = c.args.values.now in
    let past : length vs ≤ i = omega arith in
    let all_named = sym (at_drop_all (λ xs. map (λ d. d.address) devices ++ each_named (items_view xs)) vs i past)
    ∙ c.loop-value.invariant.named in
    are_of_devices devices (each_named (items_view vs)) c.named_addresses-named.result
    (sym (append-nil (map (λ d. d.address) devices)) ∙ all_named) c.named_addresses-named.ensures
    c.loop-value.invariant.also
