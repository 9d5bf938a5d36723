use Rattle.std.proofs.Common.{refl}
use Rattle.pmb_args.proofs.without_words.no_words.Goals as goal

-- Words that are not UTF-8 are bad words.
pub returns-clause-others : goal.returns-clause-others
returns-clause-others g c other = refl
