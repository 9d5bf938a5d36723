use Rattle.std.proofs.Common.{append_assoc}
use Rattle.pmb_recording.proofs.Puts.{then_last}
use Rattle.pmb_wire_packets.proofs.told.put_at_line.Goals as goal

pub returns-clause-ok : goal.returns-clause-ok
returns-clause-ok g c =
    let both = c.texts_add_up.ensures.both in
    let two = both _ _ _ _ _ _ _ _ c.in_ok-put_front.ensures.ok c.in_ok-put_text.ensures.ok in
    then_last both c.put.result _ _ _ _ _ _ _ _ _ two c.put.ensures.ok (simp append_assoc)
