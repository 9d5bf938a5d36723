use Rattle.std.proofs.Common.{refl}
use Rattle.pmb_meaning.specs.Tables.{layouts, page_and_code}
use Rattle.pmb_meaning.proofs.tables.layouts.Goals as goal

-- the whole table, computed
pub returns : goal.returns
unfolding layouts page_and_code
returns c = refl
