use Rattle.std.proofs.Common.{refl}
use Rattle.pmb_decimal.specs.Decimal.{nearest, rounded_text}
use Rattle.pmb_decimal.proofs.Nearest.{nearest_is_nearest}
use Rattle.pmb_decimal.proofs.laws.decimals_are_nearest.Goals as goal

pub returns : goal.returns
unfolding rounded_text
returns c digits q positive = (nearest digits q, refl, nearest_is_nearest digits q positive)
