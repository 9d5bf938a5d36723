use Rattle.std.proofs.Common.{◌≡◌, ℕ, ◌<◌, Some, length, slice_get}
use Rattle.pmb_command.specs.Parts.{DeviceParts, device_with}
use Rattle.pmb_unknown_start.specs.machine.Keeping.{first_kept}
use Rattle.pmb_unknown_start.proofs.late.all_first.Given as goal

-- those of the addresses so far
abbrev pub invariant-loop-address : goal.invariant-loop-address
invariant-loop-address l = record {
  long : length l.kept.items ≡ l.address;
  each : (addr : ℕ) (device : DeviceParts) → addr < l.address → device_with addr l.profile ≡ Some device
      → slice_get l.kept.items addr ≡ Some (first_kept l.start device);
}
