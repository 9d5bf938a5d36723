use Rattle.std.proofs.Common.{option_copied}
use Rattle.pmb_recording.proofs.Texts.{lost_more}
use Rattle.pmb_recording.proofs.Puts.{then_last}
use Rattle.pmb_recording.proofs.told.put_lost.Goals as goal

pub returns-clause-ok : goal.returns-clause-ok
returns-clause-ok g c =
    let both = c.texts_add_up.ensures.both in
    let two = both _ _ _ _ _ _ _ _ c.in_ok-put_front.ensures.ok c.in_ok-put_lost_count.ensures.ok in
    then_last both c.put.result _ _ _ _ _ _ _ _ _ two c.put.ensures.ok
    (lost_more c.args.line (option_copied c.args.count))
