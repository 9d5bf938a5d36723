use Rattle.std.proofs.Common.{◌∙◌, sym}
use Rattle.pmb_recording.proofs.Texts.{time_some}
use Rattle.pmb_recording.proofs.Puts.{then_last}
use Rattle.pmb_recording.proofs.told.put_time.Goals as goal

pub returns-clause-ok : goal.returns-clause-ok
returns-clause-ok g c =
    let both = c.texts_add_up.ensures.both in
    let two = both _ _ _ _ _ _ _ _ c.in_ok-put.ensures.ok c.in_ok-put_text.ensures.ok in
    then_last both c.put-2.result _ _ _ _ _ _ _ _ _ two c.put-2.ensures.ok
    (time_some c.args.time.now (sym c.is_empty.ensures ∙ c.if-is_empty.false))
