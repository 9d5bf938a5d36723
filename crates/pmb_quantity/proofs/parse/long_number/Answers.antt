use Rattle.std.proofs.Common.{◌+◌, sym, arith}
use Rattle.std.specs.Str.Parse.{digits_value}
use Rattle.pmb_quantity.proofs.ReadingLemmas.{is_digit_at, after_more, after_front, below-none}
use Rattle.pmb_quantity.proofs.parse.long_number.Goals as goal

pub overflow_sub-digit : goal.overflow_sub-digit
overflow_sub-digit c = let digit = is_digit_at c.args.digits.now c.loop-digit.digit-index c.requires.digits
    c.loop-digit-test.true in digit.0

pub returns-then-number-limit : goal.returns-then-number-limit
returns-then-number-limit c =
    let ds = c.args.digits.now in
    let i = c.loop-digit.digit-index in
    let more = after_more 0 ds i c.requires.digits c.loop-digit-test.true in
    let front = after_front 0 ds (i + 1) in
    sym (below-none c.args.limit (digits_value 10 ds) (omega (arith, c.loop-digit.invariant.0)))

pub loop-digit-preserved : goal.loop-digit-preserved
loop-digit-preserved c =
    let more = after_more 0 c.args.digits.now c.loop-digit.digit-index c.requires.digits c.loop-digit-test.true in
    (omega (arith, c.loop-digit.invariant.0), omega arith)
