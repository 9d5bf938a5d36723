use Rattle.std.proofs.Common.{sym, ◌∙◌}
use Rattle.pmb_partial_packet.proofs.Room.{no_room, room}
use Rattle.pmb_partial_packet.proofs.legs.keep.Goals as goal

pub returns-then-not-is_full : goal.returns-then-not-is_full
returns-then-not-is_full c =
    c.push.ensures.items ∙ room c.args.bytes.now.items c.args.byte c.is_full.ensures.fits
    (sym c.is_full.ensures.value ∙ c.if-not-is_full.true)

pub returns-else-not-is_full : goal.returns-else-not-is_full
returns-else-not-is_full c = no_room c.args.bytes.now.items c.args.byte
    (sym c.is_full.ensures.value ∙ c.if-not-is_full.false)
