use Rattle.std.proofs.lemmas.List.{take_rest}
use Rattle.pmb_canonical.proofs.Fronts.{put_more}
use Rattle.pmb_canonical.proofs.packet_bytes.PacketBytes.push_acked.Goals as goal

pub loop-byte-preserved : goal.loop-byte-preserved
loop-byte-preserved c =
    let rest = c.loop-byte.rest.now in
    let more = put_more c.args.text.now c.args.self.now.items c.loop-byte.len c.loop-byte.self-inside.places rest
    c.in-Some.byte
    c.loop-byte.invariant c.in-Some.ensures.small c.in-Some.ensures.within c.in-Some.ensures.spelled in
    rw take_rest more
