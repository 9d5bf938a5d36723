use Rattle.pmb_canonical.proofs.Digits.{entry_is_known, entry_spells, value_of}
use Rattle.pmb_canonical.proofs.words.digit_value.Goals as goal

pub returns-clause-spelled : goal.returns-clause-spelled
returns-clause-spelled c small = entry_spells c.args.digit c.ranges.digit.fits small

pub returns-clause-only : goal.returns-clause-only
returns-clause-only c value small same = value_of c.args.digit value small same

pub returns-clause-known : goal.returns-clause-known
returns-clause-known c = entry_is_known c.args.digit c.ranges.digit.fits
