use Rattle.std.proofs.Common.{length}
use Rattle.pmb_meaning.proofs.bits.+number.Given as goal

-- fewer bytes
abbrev pub decreases-number : goal.decreases-number
decreases-number l = length l.bytes.now
