use Rattle.pmb_bus.proofs.Classes.{separator_read}
use Rattle.pmb_bus.proofs.alphabet.is_separator.Goals as goal

pub returns : goal.returns
returns c = separator_read c.args.byte c.ranges.byte.fits
