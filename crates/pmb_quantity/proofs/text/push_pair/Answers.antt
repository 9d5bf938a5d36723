use Rattle.std.proofs.Common.{◌+◌, ◌/◌, ◌%◌, [], ◌∷◌, ◌++◌, ◌∙◌, ap, length, length-append, append_assoc, arith}
use Rattle.pmb_quantity.proofs.text.push_pair.Goals as goal

pub push_ascii-requires-2-clause-room : goal.push_ascii-requires-2-clause-room
push_ascii-requires-2-clause-room c =
    let written = simp length-append at (ap length c.push_ascii.ensures) in
    omega arith

pub returns : goal.returns
returns c =
    let n = c.args.number in
    let last = (48 + n % 10) ∷ [] in
    c.push_ascii-2.ensures ∙ ap (λ bytes. bytes ++ last) c.push_ascii.ensures ∙ append_assoc c.args.text.now.bytes
    ((48 + n / 10) ∷ []) last
