use Rattle.std.proofs.Common.{arith, sym}
use Rattle.pmb_reader.proofs.Feeding.{fed_none, fed_more, fed_packet, fed_refused, fed_all}
use Rattle.pmb_reader.proofs.reader.Reader.feed.Goals as goal

pub loop-i-init : goal.loop-i-init
loop-i-init c = fed_none c.args.self.now c.args.events.now (c.in_default.ensures)

pub loop-i-preserved : goal.loop-i-preserved
loop-i-preserved c =
    fed_more c.args.self.now c.loop-i.self c.args.events.now c.loop-i.i _ c.loop-i.invariant c.loop-i-test.true
    c.take.new.self c.in-Continues.ensures

pub returns-in-Packet : goal.returns-in-Packet
returns-in-Packet c =
    fed_packet c.args.self.now c.loop-i.self c.args.events.now c.loop-i.i _ c.loop-i.invariant c.loop-i-test.true
    c.some_packet_is_under_way.ensures c.take.new.self c.take_packet.new.self _
    c.in-Packet.ensures (sym c.take_packet.ensures.read) c.take_packet.ensures.stands

pub returns-in-Refused : goal.returns-in-Refused
returns-in-Refused c =
    fed_refused c.args.self.now c.loop-i.self c.args.events.now c.loop-i.i _ c.loop-i.invariant c.loop-i-test.true
    c.take.new.self c.in-Refused.refusal
    c.in-Refused.ensures

pub returns : goal.returns
returns c = fed_all c.args.self.now c.loop-i.self c.args.events.now c.loop-i.i c.loop-i.invariant (omega arith)
