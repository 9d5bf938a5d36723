use Rattle.std.proofs.Common.{refl}
use Rattle.pmb_draft.proofs.Beginning.{seen_nothing}
use Rattle.pmb_draft.proofs.seen.Seen.new.Goals as goal

pub returns : goal.returns
returns c = seen_nothing _ refl c.new.ensures refl
