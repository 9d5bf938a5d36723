use Rattle.pmb_transaction.proofs.SomeReading.{each_list_has_a_reading}
use Rattle.pmb_transaction.proofs.reading.each_list_has_a_reading.Goals as goal

pub returns : goal.returns
returns c = λ profile n events bus. each_list_has_a_reading c.pec_is_a_byte.ensures profile bus n events
