use Rattle.std.proofs.Common.{ℕ, ◌/◌, ◌%◌, Some, ap, arith}
use Rattle.pmb_canonical.proofs.Digits.{are_digits, spelled, spells_byte, whole_byte}
use Rattle.pmb_canonical.proofs.words.spelled_byte.Goals as goal

pub returns-then-space-ne32-clause-only : goal.returns-then-space-ne32-clause-only
returns-then-space-ne32-clause-only c byte small same =
    let told = spelled byte c.args.first c.args.second c.args.space small same in
    absurd (c.if-space-ne32.true told.is_space)

pub returns-then-byte-lt256-clause-spelled : goal.returns-then-byte-lt256-clause-spelled
returns-then-byte-lt256-clause-spelled c =
    let high = c.digit_value-high.result in
    let low = c.digit_value-low.result in
    let are = are_digits high low c.digit_value-high.ensures.known c.digit_value-low.ensures.known
    c.if-byte-lt256.true in
    spells_byte c.args.first c.args.second c.args.space high low are.high_small are.low_small
    (c.digit_value-high.ensures.spelled are.high_small)
    (c.digit_value-low.ensures.spelled are.low_small) c.if-space-ne32.false

pub returns-then-byte-lt256-clause-only : goal.returns-then-byte-lt256-clause-only
returns-then-byte-lt256-clause-only c byte small same =
    let told = spelled byte c.args.first c.args.second c.args.space small same in
    let above = c.digit_value-high.ensures.only (byte / 16) told.high_small told.high in
    let below = c.digit_value-low.ensures.only (byte % 16) told.low_small told.low in
    ap (λ (n : ℕ). Some n) (whole_byte byte c.digit_value-high.result c.digit_value-low.result above below)

pub returns-else-byte-lt256-clause-only : goal.returns-else-byte-lt256-clause-only
returns-else-byte-lt256-clause-only c byte small same =
    let told = spelled byte c.args.first c.args.second c.args.space small same in
    let above = c.digit_value-high.ensures.only (byte / 16) told.high_small told.high in
    let below = c.digit_value-low.ensures.only (byte % 16) told.low_small told.low in
    let whole = whole_byte byte c.digit_value-high.result c.digit_value-low.result above below in
    absurd (omega (arith, whole, small, c.if-byte-lt256.false))
