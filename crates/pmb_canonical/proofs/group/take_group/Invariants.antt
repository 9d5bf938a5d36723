use Rattle.std.proofs.Common.{◌≤◌, ◌+◌, ◌*◌, length}
use Rattle.pmb_transaction.specs.Packet.{addresses}
use Rattle.pmb_canonical.specs.Groups.{MoreParts, SayGroup, TakenParts}
use Rattle.pmb_canonical.proofs.group.take_group.Given as goal

-- the parts so far, and those that follow where a group stands there
abbrev pub invariant-loop-leg : goal.invariant-loop-leg
invariant-loop-leg l = record {
  some : 1 ≤ length l.kept.parts;
  small : l.events ≤ 1 + 1033 * length l.kept.parts;
  taken : TakenParts l.fn.profile l.fn.text l.kept.parts l.events l.rest;
  more : SayGroup l.fn.profile l.fn.text l.fn.bytes.items → MoreParts l.fn.profile (addresses l.kept.parts) l.rest;
}

abbrev pub decreases-loop-leg : goal.decreases-loop-leg
decreases-loop-leg l = length l.rest
