use Rattle.std.proofs.Common.{◌≡◌, take, drop}
use Rattle.pmb_colour.specs.Cut.{first, first_from}
use Rattle.pmb_colour.proofs.cut.first_len.Given as goal

-- no piece ended so far
abbrev pub invariant-loop-index : goal.invariant-loop-index
invariant-loop-index l = first_from l.at (take l.index l.text) (drop l.index l.text) ≡ first l.at l.text
