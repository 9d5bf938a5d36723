use Rattle.pmb_bus.proofs.Canonical.{canonical_spells}
use Rattle.pmb_bus.proofs.laws.canonical_text_spells.Goals as goal

pub returns : goal.returns
returns c = canonical_spells
