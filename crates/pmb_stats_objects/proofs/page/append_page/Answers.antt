use Rattle.pmb_json_text.specs.declared.item_order.ItemOrder.TheVariants.{First}
use Rattle.pmb_stats_objects.proofs.Pieces.{nothing}
use Rattle.pmb_stats_objects.proofs.page.append_page.Goals as goal

pub returns-in-Unpaged-clause-member : goal.returns-in-Unpaged-clause-member
returns-in-Unpaged-clause-member g c = rw c.in-Unpaged.is (nothing 0 First c.args.out.now.items).items
