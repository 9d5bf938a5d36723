use Rattle.pmb_meaning.specs.Data.{exchange}
use Rattle.pmb_meaning.proofs.LayoutLemmas.{layout_by_row, layout_is_short, layout_is_sound}
use Rattle.pmb_meaning.proofs.command.layout_of.Goals as goal

pub returns-clause-layout : goal.returns-clause-layout
returns-clause-layout c =
    layout_by_row c.args.code (exchange c.args.payload.now) c.layouts.result.now c.find_layout.result
    c.layouts.ensures c.find_layout.ensures

pub returns-clause-sound : goal.returns-clause-sound
returns-clause-sound c =
    layout_is_sound c.args.code (exchange c.args.payload.now) c.find_layout.result
    (layout_by_row c.args.code (exchange c.args.payload.now) c.layouts.result.now c.find_layout.result
    c.layouts.ensures c.find_layout.ensures)

pub returns-clause-short : goal.returns-clause-short
returns-clause-short c =
    layout_is_short c.args.code (exchange c.args.payload.now) c.find_layout.result
    (layout_by_row c.args.code (exchange c.args.payload.now) c.layouts.result.now c.find_layout.result
    c.layouts.ensures c.find_layout.ensures)
