use Rattle.pmb_build.proofs.SomeText.{some_text}
use Rattle.pmb_build.proofs.laws.some_building.Goals as goal

pub returns : goal.returns
returns c profile bytes = some_text profile (c.parse_or_fault.ensures profile) bytes
