use Rattle.pmb_json_text.specs.declared.item_order.ItemOrder.TheVariants.{Later}
use Rattle.pmb_stats_objects.proofs.Pieces.{nothing}
use Rattle.pmb_stats_objects.proofs.command.append_phase.Goals as goal

pub returns-in-Unphased-clause-member : goal.returns-in-Unphased-clause-member
returns-in-Unphased-clause-member g c = rw c.in-Unphased.is (nothing 0 Later c.args.out.now.items).items
