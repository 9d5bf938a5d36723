-- The record is that of the fact's item.
use Rattle.std.proofs.Common.{◌++◌, ap, ◌∙◌}
use Rattle.pmb_items.specs.Record.{item_bytes}
use Rattle.pmb_items.proofs.append.append_item.Goals as goal

pub returns-clause-record : goal.returns-clause-record
returns-clause-record g c = λ known what sees stands.
    c.append.ensures.record
    ∙ ap (λ item. c.args.out.now.items ++ item_bytes item) (c.of-item.ensures known what sees stands)
