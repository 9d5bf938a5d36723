use Rattle.std.proofs.Common.{refl}
use Rattle.pmb_meaning.specs.Tables.{page_and_code}
use Rattle.pmb_meaning.proofs.tables.page_and_code.Goals as goal

-- the whole table, computed
pub returns-clause-rows : goal.returns-clause-rows
unfolding page_and_code
returns-clause-rows c = refl
