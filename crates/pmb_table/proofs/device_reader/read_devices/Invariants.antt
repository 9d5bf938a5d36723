use Rattle.std.proofs.Common.{◌≡◌, ◌++◌, drop, false, length, map}
use Rattle.std.specs.List.{AllByRecursion}
use Rattle.toml.specs.View.{items_view}
use Rattle.pmb_command.specs.Bus.{IsDevice}
use Rattle.pmb_command.specs.Parts.{HaveOwnAddresses}
use Rattle.pmb_keys.specs.Addresses.{each_named}
use Rattle.pmb_keys.specs.machine.Addresses.{AreAmong}
use Rattle.pmb_table.specs.Profile.{AreApart, array_needs_memory, devices_after, devices_of, needs_memory}
use Rattle.pmb_table.proofs.device_reader.read_devices.Given as goal

-- the values from here on answer what all do, and name the addresses that no device so far has
abbrev pub invariant-loop-value : goal.invariant-loop-value
invariant-loop-value l = record {
  read : devices_after l.ignored l.named l.devices.items (items_view (drop l.value-index l.values))
      ≡ devices_of l.ignored (items_view l.values);
  no_memory : array_needs_memory l.ignored (items_view l.values) ≡ false
      → needs_memory l.ignored l.named l.devices.items (items_view (drop l.value-index l.values)) ≡ false;
  count : length l.devices.items ≡ l.value-index;
  own_addresses : HaveOwnAddresses l.devices.items;
  devices : AllByRecursion IsDevice l.devices.items;
  apart : AreApart l.ignored l.devices.items;
  named : map (λ d. d.address) l.devices.items ++ each_named (items_view (drop l.value-index l.values))
      ≡ each_named (items_view l.values);
  also : AllByRecursion (λ d. AreAmong l.named d.also) l.devices.items;
}
