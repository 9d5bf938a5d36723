use Rattle.std.proofs.Common.{rules, arith}
use Rattle.pmb_line.proofs.FrontWords.{byte_or_none}
use Rattle.pmb_line.proofs.WordLemmas.{take_all}
use Rattle.pmb_line.proofs.front_word.common_byte.Goals as goal

pub returns : goal.returns
returns c =
    byte_or_none c.args.text.now _ c.byte.result (omega arith) (search rules) c.byte.ensures
    (take_all 3 c.args.text.now) (c.is_word_before.ensures c.if-not-is_word_before.false)
