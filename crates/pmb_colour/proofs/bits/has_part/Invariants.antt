use Rattle.std.proofs.Common.{◌≡◌, drop}
use Rattle.pmb_colour.specs.Bits.{has_part}
use Rattle.pmb_colour.proofs.bits.has_part.Given as goal

-- no part began so far
abbrev pub invariant-loop-index : goal.invariant-loop-index
invariant-loop-index l = has_part l.part (drop l.index l.text) ≡ has_part l.part l.text
