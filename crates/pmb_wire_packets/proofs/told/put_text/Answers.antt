use Rattle.std.proofs.Common.{◌≡◌, ◌++◌, ◌∙◌, ap, append_assoc, take-append-drop}
use Rattle.pmb_wire_packets.proofs.told.put_text.Goals as goal

-- a piece more
pub loop-rest-preserved : goal.loop-rest-preserved
loop-rest-preserved g c =
    let so_far = c.loop-rest.invariant in
    let piece = c.split_at.result.0.now in
    let whole : piece ++ c.split_at.result.1.now ≡ c.loop-rest.rest.now =
    rw (c.split_at.ensures.front, c.split_at.ensures.back) (take-append-drop 4096 c.loop-rest.rest.now) in record {
      put = record {
        text = so_far.put.text ++ piece;
        writes = c.texts_add_up.ensures.both _ _ _ _ _ _ _ _ so_far.put.writes c.in_ok-put.ensures.ok;
        holds = append_assoc so_far.put.text piece c.split_at.result.1.now
            ∙ (ap (λ t. so_far.put.text ++ t) whole ∙ so_far.put.holds);
      };
      failures = c.in_ok-put.ensures.failed ∙ so_far.failures;
    }
