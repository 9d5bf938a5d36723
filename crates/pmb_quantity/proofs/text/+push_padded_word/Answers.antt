use Rattle.std.proofs.Common.{◌-◌, ◌/◌, ap, length, length-append, arith}
use Rattle.pmb_quantity.proofs.TextLemmas.{length-padded}
use Rattle.pmb_quantity.proofs.text.+push_padded_word.Goals as goal

pub push_ascii-requires-clause-room : goal.push_ascii-requires-clause-room
push_ascii-requires-clause-room t c =
    let written = simp length-append at (ap length c.push_padded_word.ensures) in
    omega (arith, length-padded (c.args.places - 1) (c.args.number / 10))
