use Rattle.pmb_value.proofs.vout.VoutFormatFormat.encode.Goals as goal

pub returns-in-Unsigned-clause-in_range : goal.returns-in-Unsigned-clause-in_range
returns-in-Unsigned-clause-in_range c = rw c.in-Unsigned.is c.encode.ensures.in_range

pub returns-in-Unsigned-clause-below : goal.returns-in-Unsigned-clause-below
returns-in-Unsigned-clause-below c = rw c.in-Unsigned.is c.encode.ensures.below

pub returns-in-Unsigned-clause-above : goal.returns-in-Unsigned-clause-above
returns-in-Unsigned-clause-above c = rw c.in-Unsigned.is c.encode.ensures.above

pub returns-in-Signed-clause-in_range : goal.returns-in-Signed-clause-in_range
returns-in-Signed-clause-in_range c = rw c.in-Signed.is c.encode-in-Signed.ensures.in_range

pub returns-in-Signed-clause-below : goal.returns-in-Signed-clause-below
returns-in-Signed-clause-below c = rw c.in-Signed.is c.encode-in-Signed.ensures.below

pub returns-in-Signed-clause-above : goal.returns-in-Signed-clause-above
returns-in-Signed-clause-above c = rw c.in-Signed.is c.encode-in-Signed.ensures.above

pub returns-in-Direct-clause-in_range : goal.returns-in-Direct-clause-in_range
returns-in-Direct-clause-in_range c = rw c.in-Direct.is c.encode-in-Direct.ensures.in_range

pub returns-in-Direct-clause-below : goal.returns-in-Direct-clause-below
returns-in-Direct-clause-below c = rw c.in-Direct.is c.encode-in-Direct.ensures.below

pub returns-in-Direct-clause-above : goal.returns-in-Direct-clause-above
returns-in-Direct-clause-above c = rw c.in-Direct.is c.encode-in-Direct.ensures.above
