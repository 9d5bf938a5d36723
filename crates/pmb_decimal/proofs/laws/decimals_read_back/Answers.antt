use Rattle.pmb_decimal.proofs.ReadBack.{units_read_back}
use Rattle.pmb_decimal.proofs.laws.decimals_read_back.Goals as goal

pub returns : goal.returns
returns c digits n few quantity = units_read_back digits n few quantity
