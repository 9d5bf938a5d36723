use Rattle.pmb_observed.specs.Observed.{numbers_at, reads_at}
use Rattle.pmb_observed.specs.Spot.{command_on}
use Rattle.pmb_stats_room.proofs.Alike.{bits_alike, numbers_alike}
use Rattle.pmb_stats_room.proofs.laws.one_room.Goals as goal
use Rattle.pmb_stats_room.specs.machine.Finding.{in_room}
use Rattle.pmb_stats_room.specs.machine.Standing.{IsSpot}

pub returns : goal.returns
returns c room profile told others stands other = record {
  bits = λ spot addr code is.
      let here : IsSpot spot = record { addr = addr; code = code } in
      bits_alike (command_on profile spot) c.one_bit.ensures (in_room room spot) (reads_at spot told)
      (reads_at spot others) (numbers_at spot told) (numbers_at spot others) is (stands.each spot here)
      (other.each spot here);
  numbers = λ spot addr code is.
      let here : IsSpot spot = record { addr = addr; code = code } in
      numbers_alike (command_on profile spot) c.one_history.ensures (in_room room spot) (reads_at spot told)
      (reads_at spot others) (numbers_at spot told) (numbers_at spot others) is (stands.each spot here)
      (other.each spot here);
}
