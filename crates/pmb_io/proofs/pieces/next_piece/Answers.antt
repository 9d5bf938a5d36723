use Rattle.std.proofs.Common.{arith}
use Rattle.pmb_io.proofs.Running.{counts_piece}
use Rattle.pmb_io.proofs.pieces.next_piece.Goals as goal

-- The one read that is made says all of it.
pub returns-clause-bytes : goal.returns-clause-bytes
returns-clause-bytes g c = c.in-Ok.ensures.bytes

pub returns-clause-failed : goal.returns-clause-failed
returns-clause-failed g c = c.in-Ok.ensures.failed

pub returns-clause-read : goal.returns-clause-read
returns-clause-read g c = counts_piece (g.R.Source.told c.args.reader.now)
    (g.R.Source.told c.read.new.self) c.in-Ok.count c.read.new.buffer c.in-Ok.ensures.read (omega arith)

pub returns-clause-given : goal.returns-clause-given
returns-clause-given g c = c.in-Ok.ensures.given

pub returns-clause-ended : goal.returns-clause-ended
returns-clause-ended g c = c.in-Ok.ensures.ended
