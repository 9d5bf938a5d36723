use Rattle.std.proofs.Common.{ℕ, arith}
use Rattle.std.proofs.lemmas.List.{length-take}
use Rattle.pmb_places.proofs.Tails.{all_kept}
use Rattle.pmb_places.proofs.open_word.keep.Goals as goal

pub returns : goal.returns
returns c =
    all_kept c.args.bytes.now.items c.args.more.now c.remaining_capacity.result c.min-room.result c.loop-byte.byte-index
    c.loop-byte.bytes.items
    c.remaining_capacity.ensures c.min-room.ensures (omega (arith, length-take {A = ℕ})) c.loop-byte.invariant
