use Rattle.pmb_item_laws.proofs.Objects.{command_is}
use Rattle.pmb_item_laws.proofs.laws.items_name_the_command.Goals as goal

pub returns : goal.returns
returns c = command_is
