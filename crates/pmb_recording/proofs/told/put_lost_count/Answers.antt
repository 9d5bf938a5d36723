use Rattle.std.proofs.Common.{refl}
use Rattle.pmb_recording.proofs.Puts.{then_last}
use Rattle.pmb_recording.proofs.told.put_lost_count.Goals as goal

pub returns-in_ok-put_text-in-Some-clause-ok : goal.returns-in_ok-put_text-in-Some-clause-ok
returns-in_ok-put_text-in-Some-clause-ok g c =
    let both = c.texts_add_up.ensures.both in
    then_last both c.put.result _ _ _ _ _ _ _ _ _ c.in_ok-put_text-in-Some.ensures.ok
    c.put.ensures.ok (rw c.in-Some.is refl)
