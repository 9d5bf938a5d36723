use Rattle.std.proofs.Common.{[], List, subst, sym}
use Rattle.pmb_command.specs.Parts.{DeviceParts}
use Rattle.pmb_stats.proofs.statistics.Statistics.new.Goals as goal
use Rattle.pmb_stats_room.specs.Standing.{RoomStandsAt}

pub returns : goal.returns
returns c setting same = record {
  profile = sym same;
  totals = c.new-3.ensures;
  devices = c.in_ok-devices.ensures.none;
  addresses = c.in_ok-devices.ensures.addresses;
  signs = c.new-4.ensures setting.profile;
  span = c.new-5.ensures;
  room = subst (λ (p : List DeviceParts). RoomStandsAt c.in_ok-room.room p []) (sym same) c.in_ok-room.ensures;
}
