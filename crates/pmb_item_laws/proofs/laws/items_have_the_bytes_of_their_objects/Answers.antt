use Rattle.pmb_item_laws.proofs.Objects.{data_are}
use Rattle.pmb_item_laws.proofs.laws.items_have_the_bytes_of_their_objects.Goals as goal

pub returns : goal.returns
returns c = data_are
