use Rattle.std.proofs.Common.{◌≡◌, ℕ, ◌<◌, Some, length, slice_get}
use Rattle.pmb_command.specs.Parts.{DeviceParts, device_with}
use Rattle.pmb_note.specs.Paging.{first_paging}
use Rattle.pmb_note.proofs.context.Context.new.Given as goal

-- those of the addresses so far
abbrev pub invariant-loop-address : goal.invariant-loop-address
invariant-loop-address l = record {
  long : length l.pagings.items ≡ l.address;
  each : (addr : ℕ) (device : DeviceParts) → addr < l.address → device_with addr l.profile ≡ Some device
      → slice_get l.pagings.items addr ≡ Some (first_paging device);
}
