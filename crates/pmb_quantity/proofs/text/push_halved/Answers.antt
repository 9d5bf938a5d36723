use Rattle.std.proofs.Common.{◌≡◌, ◌-◌, ◌*◌, ◌/◌, ◌%◌, ◌^◌, [], ◌∷◌, ◌++◌, length, length-append, append_assoc, bit_and}
use Rattle.std.proofs.Common.{sym, ap, ◌∙◌, arith}
use Rattle.std.specs.Fmt.{decimal}
use Rattle.std.proofs.Math.Nat.{div-le_self}
use Rattle.std.proofs.lemmas.Nat.{one_shl, and_mask}
use Rattle.pmb_quantity.proofs.TextLemmas.{short_decimal}
use Rattle.pmb_quantity.specs.QuantityText.{padded, after_point}
use Rattle.pmb_quantity.proofs.Halves.{fives, after_point-some}
use Rattle.pmb_quantity.proofs.text.push_halved.Goals as goal

pub push_number-requires : goal.push_number-requires
push_number-requires c =
    let n = c.args.numerator in
    let whole = div-le_self n (2 ^ c.args.places) in
    omega (arith, short_decimal (n / 2 ^ c.args.places) (omega arith))

pub push_ascii-requires-clause-room : goal.push_ascii-requires-clause-room
push_ascii-requires-clause-room c =
    let n = c.args.numerator in
    let whole = div-le_self n (2 ^ c.args.places) in
    let written = simp length-append at (ap length c.push_number.ensures) in
    omega (arith, short_decimal (n / 2 ^ c.args.places) (omega arith))

pub push_halves-requires-clause-room : goal.push_halves-requires-clause-room
push_halves-requires-clause-room c =
    let n = c.args.numerator in
    let whole = div-le_self n (2 ^ c.args.places) in
    let written = simp length-append at (ap length c.push_number.ensures) in
    let pointed = simp length-append at (ap length c.push_ascii.ensures) in
    omega (arith, short_decimal (n / 2 ^ c.args.places) (omega arith))

pub returns-then-places-gt0 : goal.returns-then-places-gt0
returns-then-places-gt0 c =
    let n = c.args.numerator in
    let p = c.args.places in
    let text = c.args.text.now.bytes in
    let whole = decimal (n / 2 ^ p) in
    let mask : bit_and n (1 * 2 ^ p % 2 ^ 64 - 1) ≡ n % 2 ^ p =
    ap (λ x. bit_and n (x - 1)) (one_shl p 64 (omega (arith, c.requires.few))) ∙ and_mask n p in
    let digits = padded p (n % 2 ^ p * 5 ^ p) in
    let pointed = c.push_ascii.ensures ∙ ap (λ b. b ++ 46 ∷ []) c.push_number.ensures in
    let written = c.push_halves.ensures ∙ ap (λ x. c.push_ascii.new.text.bytes ++ padded p (x * 5 ^ p)) mask
    ∙ ap (λ b. b ++ digits) pointed in
    let after : 46 ∷ digits ≡ after_point p (n % 2 ^ p * (10 ^ p / 2 ^ p)) =
    sym (after_point-some p (n % 2 ^ p * 5 ^ p) c.if-places-gt0.true) ∙ ap (λ x. after_point p (n % 2 ^ p * x))
    (sym (fives p)) in
    written ∙ append_assoc (text ++ whole) (46 ∷ []) digits ∙ append_assoc text whole (46 ∷ digits)
    ∙ ap (λ ds. text ++ (whole ++ ds)) after
