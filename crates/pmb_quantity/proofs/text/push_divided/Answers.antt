use Rattle.std.proofs.Common.{ℕ, ◌*◌, ◌/◌, ◌^◌, ◌≤◌, sym, ap, subst, length, length-append, arith}
use Rattle.std.proofs.Math.Nat.{div-le_self, mul-div-le}
use Rattle.std.proofs.lemmas.Nat.{mod_below, mul-le}
use Rattle.pmb_quantity.proofs.TextLemmas.{short_decimal, ten_small}
use Rattle.pmb_quantity.proofs.text.push_divided.Goals as goal

pub push_number-requires : goal.push_number-requires
push_number-requires c =
    let n = c.args.numerator in
    let d = c.args.denominator in
    let whole = div-le_self n d in
    omega (arith, short_decimal (n / d) (omega arith))

pub push_after_point-requires-clause-room : goal.push_after_point-requires-clause-room
push_after_point-requires-clause-room c =
    let n = c.args.numerator in
    let d = c.args.denominator in
    let whole = div-le_self n d in
    let written = simp length-append at (ap length c.push_number.ensures) in
    omega (arith, short_decimal (n / d) (omega arith), c.in-Some.ensures.few)

pub push_number-requires-in-None : goal.push_number-requires-in-None
push_number-requires-in-None c = omega (arith, short_decimal c.args.numerator (omega arith))

pub push_ascii-requires-clause-room : goal.push_ascii-requires-clause-room
push_ascii-requires-clause-room c =
    let written = simp length-append at (ap length c.push_number-in-None.ensures) in
    omega (arith, short_decimal c.args.numerator (omega arith))

pub push_number-requires-in-None-2 : goal.push_number-requires-in-None-2
push_number-requires-in-None-2 c =
    let written = simp length-append at (ap length c.push_number-in-None.ensures) in
    let marked = simp length-append at (ap length c.push_ascii.ensures) in
    omega (arith, short_decimal c.args.numerator (omega arith), short_decimal c.args.denominator (omega arith))

-- the digits after the point are fewer than ten to the places
pub overflow_mul-from : goal.overflow_mul-from
overflow_mul-from c =
    let n = c.args.numerator in
    let d = c.args.denominator in
    let p = c.in-Some.places in
    let unit = c.unit_of-unit.result in
    let rest : c.from.result ≤ d = omega (arith, c.from.ensures, mod_below n d c.requires.positive) in
    let product = mul-le c.from.result unit d unit rest (omega arith) in
    let whole : d * unit ≤ 10 ^ p = subst (λ (u : ℕ). d * u ≤ 10 ^ p) (sym c.unit_of-unit.ensures)
    (mul-div-le (10 ^ p) d) in
    omega (arith, product, whole, ten_small p c.in-Some.ensures.few)
