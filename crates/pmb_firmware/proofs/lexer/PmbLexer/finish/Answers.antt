use Rattle.std.proofs.Common.{[], length}
use Rattle.pmb_firmware.proofs.Answered.{finish_refuses, finishes_between, finishes_word}
use Rattle.pmb_firmware.proofs.lexer.PmbLexer.finish.Goals as goal

pub returns-in-Ok-None-clause-stands : goal.returns-in-Ok-None-clause-stands
returns-in-Ok-None-clause-stands c = λ n text events stands.
    let tail = c.in-Some.ensures.stands n text events stands in
    finishes_between c.args.self.now n text events stands c.in-Some.lexer tail c.finish.new.self
    (rw c.in-Ok-None.field-0-is at (c.in-Ok-None.ensures.stands (length tail.tail) tail.tail [] tail.stands))

pub returns-in-Ok-Some-clause-stands : goal.returns-in-Ok-Some-clause-stands
returns-in-Ok-Some-clause-stands c = λ n text events stands.
    let tail = c.in-Some.ensures.stands n text events stands in
    finishes_word c.args.self.now n text events stands c.in-Some.lexer tail c.finish.new.self c.in-Ok-Some.event
    (rw c.in-Ok-Some.field-0-is at (c.in-Ok-Some.ensures.stands (length tail.tail) tail.tail [] tail.stands))

pub returns-in-Err-clause-stands : goal.returns-in-Err-clause-stands
returns-in-Err-clause-stands c = λ n text events stands.
    let tail = c.in-Some.ensures.stands n text events stands in
    let refused = finish_refuses c.args.self.now n text events stands c.in-Some.lexer tail c.finish.new.self
    c.in-Err.field-0
    (c.in-Err.ensures.stands (length tail.tail) tail.tail [] tail.stands) in
    rw (c.fail.ensures.answer, c.fail.ensures.new) refused
