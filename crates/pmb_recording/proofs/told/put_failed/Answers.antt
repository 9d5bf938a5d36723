use Rattle.std.proofs.Common.{append_assoc}
use Rattle.pmb_recording.proofs.Puts.{then_last}
use Rattle.pmb_recording.proofs.told.put_failed.Goals as goal

pub returns-clause-ok : goal.returns-clause-ok
returns-clause-ok g c =
    let both = c.texts_add_up.ensures.both in
    let two = both _ _ _ _ _ _ _ _ c.in_ok-put_front.ensures.ok c.in_ok-put.ensures.ok in
    let three = both _ _ _ _ _ _ _ _ two c.in_ok-put_text.ensures.ok in
    let four = both _ _ _ _ _ _ _ _ three c.in_ok-put-2.ensures.ok in
    let five = both _ _ _ _ _ _ _ _ four c.in_ok-put_legs.ensures.ok in
    then_last both c.put-3.result _ _ _ _ _ _ _ _ _ five c.put-3.ensures.ok (simp append_assoc)
