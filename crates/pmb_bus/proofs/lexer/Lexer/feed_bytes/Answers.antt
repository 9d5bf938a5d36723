use Rattle.std.proofs.Common.{arith}
use Rattle.pmb_bus.proofs.Feeds.{fed_more, fed_event, fed_fault, fed_all}
use Rattle.pmb_bus.proofs.lexer.Lexer.feed_bytes.Goals as goal

pub loop-i-preserved : goal.loop-i-preserved
loop-i-preserved c =
    fed_more c.args.self.now c.loop-i.self c.args.bytes.now c.loop-i.i 0 c.loop-i.invariant c.loop-i-test.true
    c.step.new.self
    c.in-Need.ensures.stands

pub returns-in-Event-clause-stands : goal.returns-in-Event-clause-stands
returns-in-Event-clause-stands c =
    fed_event c.args.self.now c.loop-i.self c.args.bytes.now c.loop-i.i 0 c.loop-i.invariant c.loop-i-test.true
    c.step.new.self c.in-Event.event
    c.in-Event.ensures.stands

pub returns-in-Event-clause-faulted : goal.returns-in-Event-clause-faulted
returns-in-Event-clause-faulted c = λ fault is. absurd (c.loop-i.invariant.sound fault is)

pub returns-in-Fault-clause-stands : goal.returns-in-Fault-clause-stands
returns-in-Fault-clause-stands c =
    fed_fault c.args.self.now c.loop-i.self c.args.bytes.now c.loop-i.i 0 c.loop-i.invariant c.loop-i-test.true
    c.step.new.self c.in-Fault.fault
    c.in-Fault.ensures.stands

pub returns-in-Fault-clause-faulted : goal.returns-in-Fault-clause-faulted
returns-in-Fault-clause-faulted c = λ fault is. absurd (c.loop-i.invariant.sound fault is)

pub returns-clause-stands : goal.returns-clause-stands
returns-clause-stands c =
    fed_all c.args.self.now c.loop-i.self c.args.bytes.now c.loop-i.i c.loop-i.invariant (omega arith)

pub returns-clause-faulted : goal.returns-clause-faulted
returns-clause-faulted c = λ fault is. absurd (c.loop-i.invariant.sound fault is)
