use Rattle.pmb_transaction.proofs.Beginnings.{viable_is_beginning}
use Rattle.pmb_transaction.proofs.Completions.{beginning_is_viable}
use Rattle.pmb_transaction.proofs.viability.viable_lists.Goals as goal

pub returns : goal.returns
returns c = λ profile events bus some. (
  viable_is_beginning c.pec_is_a_byte.ensures profile bus events some,
  beginning_is_viable c.pec_is_a_byte.ensures profile bus events,
)
