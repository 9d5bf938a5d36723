use Rattle.std.proofs.Common.{List, arith, slice_get, subst, sym, ◌≡◌, ℕ, Some}
use Rattle.pmb_json_objects.specs.Seen.{command_of}
use Rattle.pmb_stats_room.specs.declared.command_room.CommandRoom.{CommandRoom}
use Rattle.pmb_stats_room.specs.machine.Beginning.{BeginCodes, BeginsCommand}
use Rattle.pmb_stats_room.proofs.Beginnings.{begins_device}
use Rattle.pmb_stats_room.proofs.Lists.{pushed}
use Rattle.pmb_stats_room.proofs.device_room.DeviceRoom.of_device.Goals as goal

pub loop-code-preserved : goal.loop-code-preserved
loop-code-preserved c = record {
  long = omega (arith, c.in_ok-push.ensures.len, c.loop-code.invariant.long);
  each = subst (λ (rooms : List CommandRoom). (code : ℕ) (room : CommandRoom) → slice_get rooms code ≡ Some room
      → BeginsCommand c.args.device.now (command_of (Some c.args.device.now) code) room)
      (sym c.in_ok-push.ensures.items)
      (pushed (λ code room. BeginsCommand c.args.device.now (command_of (Some c.args.device.now) code) room)
      c.loop-code.commands.items c.in_ok-new.field-0 c.loop-code.invariant.each
      (subst (λ (code : ℕ). BeginsCommand c.args.device.now (command_of (Some c.args.device.now) code)
      c.in_ok-new.field-0) (sym c.loop-code.invariant.long) c.in_ok-new.ensures));
}

pub returns : goal.returns
returns c =
    begins_device c.args.device.now _
    (subst (λ (n : ℕ). BeginCodes c.args.device.now n c.loop-code.commands.items) (omega arith)
    c.loop-code.invariant)
