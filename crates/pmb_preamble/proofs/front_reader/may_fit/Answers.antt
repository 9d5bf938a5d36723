use Rattle.std.proofs.Common.{arith}
use Rattle.std.proofs.lemmas.Bool.Decides.{nat_tests}
use Rattle.pmb_preamble.proofs.Limits.{fits_past, short_fits}
use Rattle.pmb_preamble.proofs.front_reader.may_fit.Goals as goal

pub returns-then-text-le-MOST_PROFILE : goal.returns-then-text-le-MOST_PROFILE
returns-then-text-le-MOST_PROFILE c = (
  (λ _. short_fits c.args.text.now c.requires c.if-text-le-MOST_PROFILE.true),
  λ _. grind (arith, nat_tests, c.if-text-le-MOST_PROFILE.true),
)

pub returns-else-text-le-MOST_PROFILE : goal.returns-else-text-le-MOST_PROFILE
returns-else-text-le-MOST_PROFILE c =
    fits_past c.args.text.now c.ends_in_opening.result c.requires c.if-text-le-MOST_PROFILE.false
    c.ends_in_opening.ensures
