use Rattle.std.proofs.Common.{◌∙◌, arith}
use Rattle.pmb_registers.proofs.Cleared.{cleared_none, cleared_more, cleared_all}
use Rattle.pmb_registers.proofs.bits.clear_bits.Goals as goal

pub loop-i-init : goal.loop-i-init
loop-i-init c = cleared_none c.args.bytes.now

pub loop-i-preserved : goal.loop-i-preserved
loop-i-preserved c =
    cleared_more c.args.written.now c.args.bytes.now c.loop-i.bytes c.loop-i.i (omega (arith, c.min-count.ensures))
    (omega (arith, c.min-count.ensures)) c.loop-i.invariant

pub returns : goal.returns
returns c = c.loop-i.invariant ∙ cleared_all c.args.written.now c.args.bytes.now c.loop-i.i
    (omega (arith, c.min-count.ensures))
