use Rattle.std.proofs.Common.{◌≡◌, ◌-◌, ◌*◌, ◌%◌, ◌^◌, ◌≤◌, ap, ◌∙◌, arith}
use Rattle.std.proofs.lemmas.Int.{ints}
use Rattle.std.proofs.lemmas.Nat.{one_shl, pow-add}
use Rattle.std.proofs.Math.Nat.{pow-le-pow_right}
use Rattle.pmb_format.proofs.Words.{complement_low, complement_high}
use Rattle.pmb_format.proofs.word.twos_complement.Goals as goal

pub returns-else-value-half : goal.returns-else-value-half
returns-else-value-half c =
    let bits = c.args.bits in
    let half_is : (1 * 2 ^ (bits - 1)) % 2 ^ 32 ≡ 2 ^ (bits - 1) = one_shl (bits - 1) 32 (omega arith) in
    let half_small : 2 ^ (bits - 1) ≤ 2 ^ 15 = pow-le-pow_right {n = 2} (omega arith) {i = bits - 1} {j = 15}
    (omega arith) in
    let whole : 2 ^ bits ≡ 2 ^ (bits - 1) * 2 ^ 1 = ap (λ k. 2 ^ k) (omega arith) ∙ pow-add 2 (bits - 1) 1 in
    let value = complement_high bits c.args.field (omega (arith, ints)) in
    record { value = omega (arith, ints); small = omega (arith, ints) }

pub returns-then-value-half : goal.returns-then-value-half
returns-then-value-half c =
    let bits = c.args.bits in
    let half_is : (1 * 2 ^ (bits - 1)) % 2 ^ 32 ≡ 2 ^ (bits - 1) = one_shl (bits - 1) 32 (omega arith) in
    let half_small : 2 ^ (bits - 1) ≤ 2 ^ 15 = pow-le-pow_right {n = 2} (omega arith) {i = bits - 1} {j = 15}
    (omega arith) in
    let value = complement_low bits c.args.field (omega (arith, ints)) in
    record { value = omega (arith, ints); small = omega (arith, ints) }
