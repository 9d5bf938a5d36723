use Rattle.pmb_kernel.proofs.LineClasses.{each_line}
use Rattle.pmb_kernel.proofs.laws.each_line_has_its_class.Goals as goal

pub returns : goal.returns
returns c = each_line
