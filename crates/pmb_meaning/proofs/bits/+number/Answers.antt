-- A number of so many bytes is small.
use Rattle.std.proofs.Common.{◌+◌, ◌*◌, ◌<◌, ◌^◌, arith}
use Rattle.pmb_meaning.proofs.BitLemmas.{rest_short, six_bytes}
use Rattle.pmb_meaning.proofs.bits.+number.Goals as goal

pub overflow_mul-result : goal.overflow_mul-result
overflow_mul-result t c =
    let few : 256 * c.number.result + 255 < 2 ^ 56 =
    six_bytes c.number.result _ c.number.ensures.small
    (rest_short c.args.bytes.now c.in-len1-up.len_at_least c.requires) in
    omega arith

pub overflow_add-result : goal.overflow_add-result
overflow_add-result t c =
    let few : 256 * c.number.result + 255 < 2 ^ 56 =
    six_bytes c.number.result _ c.number.ensures.small
    (rest_short c.args.bytes.now c.in-len1-up.len_at_least c.requires) in
    omega (arith, c.from.ensures, c.type_inv.bytes 0)
