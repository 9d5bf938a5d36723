use Rattle.pmb_device_laws.proofs.OneAnswer.{one_answer}
use Rattle.pmb_device_laws.proofs.laws.one_answer.Goals as goal

pub returns : goal.returns
returns c device state legs signal result other accepted = one_answer device accepted state legs signal result other
