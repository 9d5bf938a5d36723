use Rattle.std.proofs.Common.{◌+◌, arith}
use Rattle.pmb_quantity.proofs.ReadingLemmas.{is_digit_at, after_more, after_front}
use Rattle.pmb_quantity.proofs.parse.digits_after.Goals as goal

pub overflow_sub-digit : goal.overflow_sub-digit
overflow_sub-digit c = let digit = is_digit_at c.args.digits.now c.loop-digit.digit-index c.requires.digits
    c.loop-digit-test.true in digit.0

pub loop-digit-preserved : goal.loop-digit-preserved
loop-digit-preserved c =
    let more = after_more c.args.first c.args.digits.now c.loop-digit.digit-index c.requires.digits
    c.loop-digit-test.true in
    omega (arith, c.loop-digit.invariant)

pub overflow_mul-number : goal.overflow_mul-number
overflow_mul-number c =
    let ds = c.args.digits.now in
    let i = c.loop-digit.digit-index in
    let more = after_more c.args.first ds i c.requires.digits c.loop-digit-test.true in
    let front = after_front c.args.first ds (i + 1) in
    omega (arith, c.loop-digit.invariant)

pub overflow_add-number : goal.overflow_add-number
overflow_add-number c =
    let ds = c.args.digits.now in
    let i = c.loop-digit.digit-index in
    let more = after_more c.args.first ds i c.requires.digits c.loop-digit-test.true in
    let front = after_front c.args.first ds (i + 1) in
    omega (arith, c.loop-digit.invariant)
