use Rattle.pmb_json_text.proofs.InLine.{values}
use Rattle.pmb_json_text.proofs.laws.spelling_fits_in_line.Goals as goal

pub returns : goal.returns
returns c = values
