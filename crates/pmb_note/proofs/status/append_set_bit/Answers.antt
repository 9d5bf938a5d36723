use Rattle.pmb_note.proofs.Texts.{then}
use Rattle.pmb_note.proofs.status.append_set_bit.Goals as goal

pub returns : goal.returns
returns g c = then c.append.ensures c.append_bit.ensures
