use Rattle.pmb_value.proofs.number_format.NumberFormatFormat.encode.Goals as goal

pub returns-in-Linear11-clause-in_range : goal.returns-in-Linear11-clause-in_range
returns-in-Linear11-clause-in_range c = rw c.in-Linear11.is c.encode.ensures.in_range

pub returns-in-Linear11-clause-below : goal.returns-in-Linear11-clause-below
returns-in-Linear11-clause-below c = rw c.in-Linear11.is c.encode.ensures.below

pub returns-in-Linear11-clause-above : goal.returns-in-Linear11-clause-above
returns-in-Linear11-clause-above c = rw c.in-Linear11.is c.encode.ensures.above

pub returns-in-Linear11Fixed-clause-in_range : goal.returns-in-Linear11Fixed-clause-in_range
returns-in-Linear11Fixed-clause-in_range c = rw c.in-Linear11Fixed.is c.encode-in-Linear11Fixed.ensures.in_range

pub returns-in-Linear11Fixed-clause-below : goal.returns-in-Linear11Fixed-clause-below
returns-in-Linear11Fixed-clause-below c = rw c.in-Linear11Fixed.is c.encode-in-Linear11Fixed.ensures.below

pub returns-in-Linear11Fixed-clause-above : goal.returns-in-Linear11Fixed-clause-above
returns-in-Linear11Fixed-clause-above c = rw c.in-Linear11Fixed.is c.encode-in-Linear11Fixed.ensures.above

pub returns-in-Word-clause-in_range : goal.returns-in-Word-clause-in_range
returns-in-Word-clause-in_range c = rw c.in-Word.is c.encode-in-Word.ensures.in_range

pub returns-in-Word-clause-below : goal.returns-in-Word-clause-below
returns-in-Word-clause-below c = rw c.in-Word.is c.encode-in-Word.ensures.below

pub returns-in-Word-clause-above : goal.returns-in-Word-clause-above
returns-in-Word-clause-above c = rw c.in-Word.is c.encode-in-Word.ensures.above

pub returns-in-Half-clause-in_range : goal.returns-in-Half-clause-in_range
returns-in-Half-clause-in_range c = rw c.in-Half.is c.encode-in-Half.ensures.in_range

pub returns-in-Half-clause-below : goal.returns-in-Half-clause-below
returns-in-Half-clause-below c = rw c.in-Half.is c.encode-in-Half.ensures.below

pub returns-in-Half-clause-above : goal.returns-in-Half-clause-above
returns-in-Half-clause-above c = rw c.in-Half.is c.encode-in-Half.ensures.above

pub returns-in-Vid-clause-below : goal.returns-in-Vid-clause-below
returns-in-Vid-clause-below c = rw c.in-Vid.is c.encode-in-Vid.ensures.below

pub returns-in-Vid-clause-above : goal.returns-in-Vid-clause-above
returns-in-Vid-clause-above c = rw c.in-Vid.is c.encode-in-Vid.ensures.above
