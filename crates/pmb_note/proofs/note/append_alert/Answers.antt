use Rattle.pmb_note.proofs.Texts.{then}
use Rattle.pmb_note.proofs.note.append_alert.Goals as goal

pub returns : goal.returns
returns g c = then c.append.ensures c.append_digits.ensures
