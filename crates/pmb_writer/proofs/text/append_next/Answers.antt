use Rattle.pmb_writer.proofs.LegTexts.{code_of_one}
use Rattle.pmb_writer.proofs.text.append_next.Goals as goal

pub returns-clause-code : goal.returns-clause-code
returns-clause-code g c = code_of_one c.args.crc c.args.byte c.pec_next.result c.pec_next.ensures.step
