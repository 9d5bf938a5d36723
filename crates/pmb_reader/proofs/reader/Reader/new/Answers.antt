use Rattle.std.proofs.Common.{refl}
use Rattle.pmb_reader.proofs.reader.Reader.new.Goals as goal

pub returns : goal.returns
returns c = record { mode = tt; counted = refl; inside = c.new.ensures }
