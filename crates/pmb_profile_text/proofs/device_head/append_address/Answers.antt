use Rattle.std.proofs.Common.{codes}
use Rattle.pmb_profile_text.proofs.Texts.{then}
use Rattle.pmb_profile_text.specs.Table.{cell}
use Rattle.pmb_profile_text.proofs.device_head.append_address.Goals as goal

pub returns-clause-text : goal.returns-clause-text
returns-clause-text c =
    let start = c.args.head.now.items in
    then start _ _ (cell 12 (codes "address")) _ c.append_cell.ensures.text
    (then _ _ _ _ (codes "\n") (then _ _ _ _ _ c.append_byte.ensures.text
    (then _ _ _ (codes ", as a byte ") _ c.append.ensures
    (then _ _ _ _ _ c.append_byte-2.ensures.text
    (then _ _ _ (codes " to write and ") _ c.append-2.ensures
    (then _ _ _ _ (codes " to read") c.append_byte-3.ensures.text c.append-3.ensures)))))
    c.append-4.ensures)
