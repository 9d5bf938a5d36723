use Rattle.pmb_value.proofs.number_format.NumberFormatFormat.obeys_laws.Goals as goal

pub returns-in-Linear11-clause-one_code : goal.returns-in-Linear11-clause-one_code
returns-in-Linear11-clause-one_code c = rw c.in-Linear11.is c.obeys_laws.ensures.one_code

pub returns-in-Linear11-clause-canonical_codes : goal.returns-in-Linear11-clause-canonical_codes
returns-in-Linear11-clause-canonical_codes c = rw c.in-Linear11.is c.obeys_laws.ensures.canonical_codes

pub returns-in-Linear11-clause-one_even : goal.returns-in-Linear11-clause-one_even
returns-in-Linear11-clause-one_even c = rw c.in-Linear11.is c.obeys_laws.ensures.one_even

pub returns-in-Linear11Fixed-clause-one_code : goal.returns-in-Linear11Fixed-clause-one_code
returns-in-Linear11Fixed-clause-one_code c = rw c.in-Linear11Fixed.is c.obeys_laws-in-Linear11Fixed.ensures.one_code

pub returns-in-Linear11Fixed-clause-canonical_codes : goal.returns-in-Linear11Fixed-clause-canonical_codes
returns-in-Linear11Fixed-clause-canonical_codes c =
    rw c.in-Linear11Fixed.is c.obeys_laws-in-Linear11Fixed.ensures.canonical_codes

pub returns-in-Linear11Fixed-clause-one_even : goal.returns-in-Linear11Fixed-clause-one_even
returns-in-Linear11Fixed-clause-one_even c = rw c.in-Linear11Fixed.is c.obeys_laws-in-Linear11Fixed.ensures.one_even

pub returns-in-Word-clause-one_code : goal.returns-in-Word-clause-one_code
returns-in-Word-clause-one_code c = rw c.in-Word.is c.obeys_laws-in-Word.ensures.one_code

pub returns-in-Word-clause-canonical_codes : goal.returns-in-Word-clause-canonical_codes
returns-in-Word-clause-canonical_codes c = rw c.in-Word.is c.obeys_laws-in-Word.ensures.canonical_codes

pub returns-in-Word-clause-one_even : goal.returns-in-Word-clause-one_even
returns-in-Word-clause-one_even c = rw c.in-Word.is c.obeys_laws-in-Word.ensures.one_even

pub returns-in-Half-clause-one_code : goal.returns-in-Half-clause-one_code
returns-in-Half-clause-one_code c = rw c.in-Half.is c.obeys_laws-in-Half.ensures.one_code

pub returns-in-Half-clause-one_even : goal.returns-in-Half-clause-one_even
returns-in-Half-clause-one_even c = rw c.in-Half.is c.obeys_laws-in-Half.ensures.one_even

pub returns-in-Vid-clause-one_even : goal.returns-in-Vid-clause-one_even
returns-in-Vid-clause-one_even c = rw c.in-Vid.is c.obeys_laws-in-Vid.ensures.one_even
