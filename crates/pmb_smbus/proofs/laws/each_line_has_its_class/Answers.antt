use Rattle.pmb_smbus.proofs.LineClasses.{each_line}
use Rattle.pmb_smbus.proofs.laws.each_line_has_its_class.Goals as goal

pub returns : goal.returns
returns c = each_line
