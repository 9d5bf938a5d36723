use Rattle.std.proofs.Common.{rules, arith}
use Rattle.pmb_line.proofs.FrontWords.{colon_in_front, read_in_front, write_in_front}
use Rattle.pmb_line.proofs.front_word.common_keyword.Goals as goal

pub returns-in-119 : goal.returns-in-119
returns-in-119 c = write_in_front c.args.text.now (omega arith) (search rules) (search rules) (search rules)
    (search rules) (search rules) (search rules)

pub returns-in-114-2 : goal.returns-in-114-2
returns-in-114-2 c = read_in_front c.args.text.now (omega arith) (search rules) (search rules) (search rules)
    (search rules) (search rules)

pub returns-in-32-3 : goal.returns-in-32-3
returns-in-32-3 c = colon_in_front c.args.text.now (omega arith) (search rules) (search rules) (search rules)

pub returns-in-32-4 : goal.returns-in-32-4
returns-in-32-4 c = colon_in_front c.args.text.now (omega arith) (search rules) (search rules) (search rules)

pub returns-in-32-5 : goal.returns-in-32-5
returns-in-32-5 c = colon_in_front c.args.text.now (omega arith) (search rules) (search rules) (search rules)
