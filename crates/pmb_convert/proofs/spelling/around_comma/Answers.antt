use Rattle.pmb_convert.proofs.Integers.{splits}
use Rattle.pmb_convert.proofs.spelling.around_comma.Goals as goal

pub returns : goal.returns
returns c = splits c.args.text.now c.split_once.result c.split_once.ensures.cases
