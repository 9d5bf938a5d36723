use Rattle.std.proofs.Common.{[], length}
use Rattle.pmb_firmware.specs.machine.Bytes.{short}
use Rattle.pmb_firmware.proofs.Answered.{passed_to, refuses, told}
use Rattle.pmb_firmware.proofs.lexer.PmbLexer.feed.Goals as goal

pub returns-in-Fault-clause-stands : goal.returns-in-Fault-clause-stands
returns-in-Fault-clause-stands c = λ n text events stands.
    let tail = c.in-Some.ensures.stands n text events stands in
    let fed = c.feed-lexed in
    let refused = rw c.in-Fault.is at (fed.ensures.stands (length tail.tail) tail.tail [] tail.stands) in
    let ends = passed_to c.go_over.new.self n text c.args.bytes.now fed.result.used fed.ensures.within
    (c.go_over.ensures.faulted n text c.in-Fault.field-0 (short stands.counted stands.place) refused.faulted) in
    rw (c.fail.ensures.answer, c.fail.ensures.new)
    (
    refuses c.args.self.now n text events stands c.in-Some.lexer tail c.args.bytes.now fed.result.used fed.new.self
    c.go_over.new.self c.in-Fault.field-0 refused ends
    )

pub returns-in-Fault-clause-faulted : goal.returns-in-Fault-clause-faulted
returns-in-Fault-clause-faulted c = λ fault is. cc (c.in-Some.ensures.faulted fault is)

pub returns-in_default-step-clause-stands : goal.returns-in_default-step-clause-stands
returns-in_default-step-clause-stands c = λ n text events stands.
    let tail = c.in-Some.ensures.stands n text events stands in
    let fed = c.feed-lexed in
    told c.args.self.now n text events stands c.in-Some.lexer tail c.args.bytes.now fed.result.used fed.new.self
    c.go_over.new.self fed.result.step c.in_default-step.not-Fault
    (fed.ensures.stands (length tail.tail) tail.tail [] tail.stands)
    (
    λ m found there.
    passed_to c.go_over.new.self n text c.args.bytes.now fed.result.used fed.ensures.within
    (c.go_over.ensures.stands n m text tail.tail found (short stands.counted stands.place) tail.is_tail there)
    )

pub returns-in_default-step-clause-faulted : goal.returns-in_default-step-clause-faulted
returns-in_default-step-clause-faulted c = λ fault is. cc (c.in-Some.ensures.faulted fault is)
