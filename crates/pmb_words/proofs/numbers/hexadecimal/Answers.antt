use Rattle.std.proofs.Common.{arith}
use Rattle.pmb_words.proofs.numbers.hexadecimal.Goals as goal

-- each digit makes the number sixteen times as great at most
pub returns-in-len4-clause-small : goal.returns-in-len4-clause-small
returns-in-len4-clause-small c =
    c.with_hexadecimal-in-len4-3.ensures.small 4096 (c.with_hexadecimal-in-len4-2.ensures.small 256
    (c.with_hexadecimal-high-in-len4.ensures.small 16 (c.with_hexadecimal-in-len4.ensures.small 1 (omega arith))))
