use Rattle.pmb_draft.proofs.Lines.{next_line, none_below}
use Rattle.pmb_draft.proofs.draft.put_lines.Goals as goal

pub loop-address-init : goal.loop-address-init
loop-address-init c = record { text = none_below _ _ _ }

pub loop-address-preserved : goal.loop-address-preserved
loop-address-preserved c = record {
  text = next_line _ _ _ _ _ c.loop-address.address c.loop-address.invariant.text c.in_ok-put_line.ensures;
}
