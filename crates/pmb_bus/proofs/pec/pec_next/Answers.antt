use Rattle.std.proofs.lemmas.Nat.{xor_of_8}
use Rattle.pmb_bus.proofs.Remainders.{entry, entry_goes_on}
use Rattle.pmb_bus.proofs.pec.pec_next.Goals as goal

pub returns-clause-goes_on : goal.returns-clause-goes_on
returns-clause-goes_on c =
    λ bytes same. entry_goes_on bytes c.args.crc c.args.byte
    (xor_of_8 c.args.crc c.args.byte c.ranges.crc.fits c.ranges.byte.fits) same

pub returns-clause-step : goal.returns-clause-step
returns-clause-step c = entry _ (xor_of_8 c.args.crc c.args.byte c.ranges.crc.fits c.ranges.byte.fits)
