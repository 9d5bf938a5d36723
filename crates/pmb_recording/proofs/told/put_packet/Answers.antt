use Rattle.pmb_recording.proofs.Texts.{packet_more}
use Rattle.pmb_recording.proofs.Puts.{then_last}
use Rattle.pmb_recording.proofs.told.put_packet.Goals as goal

pub returns-clause-ok : goal.returns-clause-ok
returns-clause-ok g c =
    let both = c.texts_add_up.ensures.both in
    let two = both _ _ _ _ _ _ _ _ c.in_ok-put_time.ensures.ok c.in_ok-put_wire.ensures.ok in
    then_last both c.put.result _ _ _ _ _ _ _ _ _ two c.put.ensures.ok (packet_more c.args.time.now c.args.wire.now)
