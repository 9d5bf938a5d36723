use Rattle.pmb_vid.specs.Vid.{vid}
use Rattle.pmb_format.proofs.OneNearest.{one_even_neighbour}
use Rattle.pmb_vid.proofs.Tables.{IsSeparated-vid}
use Rattle.pmb_vid.proofs.table.VidTableFormat.obeys_laws.Goals as goal

pub returns-clause-one_even : goal.returns-clause-one_even
returns-clause-one_even c = one_even_neighbour (vid c.args.self.now) (IsSeparated-vid c.args.self.now)
