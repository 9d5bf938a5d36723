use Rattle.std.proofs.Common.{◌≡◌, map, take}
use Rattle.pmb_table.proofs.device_reader.addresses_of.Given as goal

-- the addresses of the devices so far
abbrev pub invariant-loop-device : goal.invariant-loop-device
invariant-loop-device l = l.addresses.items ≡ map (λ d. d.address) (take l.device-index l.devices)
