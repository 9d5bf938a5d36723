use Rattle.std.proofs.Common.{◌≡◌, ℕ, ◌%◌, nat_eq, sym, ap, arith}
use Rattle.pmb_canonical.proofs.FrontWords.{low_digit, short_byte}
use Rattle.pmb_canonical.proofs.words.is_even.Goals as goal

pub returns-in_default : goal.returns-in_default
returns-in_default c byte rest small same = absurd (short_byte c.args.text.now byte rest c.in_default.len_below same)

pub returns : goal.returns
returns c byte rest small same =
    let digit = c.digit_value.ensures.only (byte % 16) (omega arith) (sym (low_digit c.args.text.now byte rest same)) in
    let parity : c.digit_value.result % 2 ≡ byte % 2 = omega (arith, digit) in
    ap (λ (n : ℕ). nat_eq n 0) parity
