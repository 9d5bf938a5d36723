use Rattle.std.proofs.Common.{List, ℕ, ◌++◌, ◌∙◌, ap, codes}
use Rattle.pmb_recording.proofs.Puts.{then_last}
use Rattle.pmb_wire_packets.proofs.told.put_front.Goals as goal

pub returns-clause-ok : goal.returns-clause-ok
returns-clause-ok g c =
    let both = c.texts_add_up.ensures.both in
    let two = both _ _ _ _ _ _ _ _ c.in_ok-put.ensures.ok c.in_ok-put-2.ensures.ok in
    then_last both c.put-3.result _ _ _ _ _ _ _ _ _ two c.put-3.ensures.ok
    (ap (λ (t : List ℕ). codes "# line " ++ (t ++ codes ": ")) (c.as_bytes.ensures.value ∙ c.format.ensures.text))
