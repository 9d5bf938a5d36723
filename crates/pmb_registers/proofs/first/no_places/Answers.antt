use Rattle.std.proofs.Common.{refl}
use Rattle.pmb_registers.proofs.Beginning.{no_places}
use Rattle.pmb_registers.proofs.first.no_places.Goals as goal

pub returns : goal.returns
returns c = no_places 256 refl
