use Rattle.pmb_item_laws.proofs.Objects.{head_is, kind_is}
use Rattle.pmb_item_laws.proofs.laws.items_begin_as_their_objects.Goals as goal

pub returns-clause-head : goal.returns-clause-head
returns-clause-head c = head_is

pub returns-clause-kind : goal.returns-clause-kind
returns-clause-kind c = kind_is
