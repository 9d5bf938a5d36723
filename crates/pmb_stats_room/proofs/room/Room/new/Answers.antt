use Rattle.std.proofs.Common.{List, arith, slice_get, subst, sym, ◌≡◌, ℕ, Some, Option}
use Rattle.pmb_command.specs.Parts.{DeviceParts, device_with}
use Rattle.pmb_stats_room.specs.declared.device_room.DeviceRoom.{DeviceRoom}
use Rattle.pmb_stats_room.specs.machine.Beginning.{BeginAddresses, BeginsDevice}
use Rattle.pmb_stats_room.proofs.Beginnings.{begins_room}
use Rattle.pmb_stats_room.proofs.Lists.{pushed}
use Rattle.pmb_stats_room.proofs.room.Room.new.Goals as goal

pub loop-addr-preserved : goal.loop-addr-preserved
loop-addr-preserved c = record {
  long = omega (arith, c.in_ok-push.ensures.len, c.loop-addr.invariant.long);
  each = subst (λ (rooms : List DeviceRoom). (addr : ℕ) (room : DeviceRoom) → slice_get rooms addr ≡ Some room
      → BeginsDevice (device_with addr c.args.profile.now) room) (sym c.in_ok-push.ensures.items)
      (pushed (λ addr room. BeginsDevice (device_with addr c.args.profile.now) room)
      c.loop-addr.devices.items c.in_ok-new.field-0 c.loop-addr.invariant.each
      (subst (λ (addr : ℕ). BeginsDevice (device_with addr c.args.profile.now) c.in_ok-new.field-0)
      (sym c.loop-addr.invariant.long)
      (subst (λ (device : Option DeviceParts). BeginsDevice device c.in_ok-new.field-0) c.device.ensures.device
      c.in_ok-new.ensures)));
}

pub returns : goal.returns
returns c =
    begins_room c.args.profile.now _
    (subst (λ (n : ℕ). BeginAddresses c.args.profile.now n c.loop-addr.devices.items) (omega arith)
    c.loop-addr.invariant)
