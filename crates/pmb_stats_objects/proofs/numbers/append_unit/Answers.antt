use Rattle.std.proofs.Common.{codes, ap}
use Rattle.pmb_stats_objects.specs.Members.{text_member}
use Rattle.pmb_stats_objects.proofs.Pieces.{called, nothing}
use Rattle.pmb_stats_objects.proofs.numbers.append_unit.Goals as goal

pub returns-in-None : goal.returns-in-None
returns-in-None g c =
    called (ap (text_member (codes "unit")) c.in-None.ensures.unit) (nothing 262 _ c.args.out.now.items)
