use Rattle.pmb_value.proofs.vout.VoutFormatFormat.obeys_laws.Goals as goal

pub returns-in-Unsigned-clause-one_even : goal.returns-in-Unsigned-clause-one_even
returns-in-Unsigned-clause-one_even c = rw c.in-Unsigned.is c.obeys_laws.ensures.one_even

pub returns-in-Signed-clause-one_even : goal.returns-in-Signed-clause-one_even
returns-in-Signed-clause-one_even c = rw c.in-Signed.is c.obeys_laws-in-Signed.ensures.one_even

pub returns-in-Direct-clause-one_even : goal.returns-in-Direct-clause-one_even
returns-in-Direct-clause-one_even c = rw c.in-Direct.is c.obeys_laws-in-Direct.ensures.one_even
