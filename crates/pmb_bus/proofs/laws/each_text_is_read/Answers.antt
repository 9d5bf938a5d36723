use Rattle.pmb_bus.proofs.Decided.{each_text_is_read}
use Rattle.pmb_bus.proofs.laws.each_text_is_read.Goals as goal

pub returns : goal.returns
returns c = λ text. each_text_is_read text
