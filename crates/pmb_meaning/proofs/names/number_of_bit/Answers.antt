use Rattle.std.proofs.Common.{arith}
use Rattle.pmb_meaning.proofs.ValueLemmas.{bit_number}
use Rattle.pmb_meaning.proofs.names.number_of_bit.Goals as goal

pub returns-in-0 : goal.returns-in-0
returns-in-0 c = bit_number c.args.bit 48 c.requires (omega (arith, c.in-0.is))

pub returns-in-1 : goal.returns-in-1
returns-in-1 c = bit_number c.args.bit 49 c.requires (omega (arith, c.in-1.is))

pub returns-in-2 : goal.returns-in-2
returns-in-2 c = bit_number c.args.bit 50 c.requires (omega (arith, c.in-2.is))

pub returns-in-3 : goal.returns-in-3
returns-in-3 c = bit_number c.args.bit 51 c.requires (omega (arith, c.in-3.is))

pub returns-in-4 : goal.returns-in-4
returns-in-4 c = bit_number c.args.bit 52 c.requires (omega (arith, c.in-4.is))

pub returns-in-5 : goal.returns-in-5
returns-in-5 c = bit_number c.args.bit 53 c.requires (omega (arith, c.in-5.is))

pub returns-in-6 : goal.returns-in-6
returns-in-6 c = bit_number c.args.bit 54 c.requires (omega (arith, c.in-6.is))

-- none of the others
pub returns-in_default : goal.returns-in_default
returns-in_default c = bit_number c.args.bit 55 c.requires (omega arith)
