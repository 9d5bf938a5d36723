use Rattle.std.proofs.Common.{◌∙◌, ap, map, sym, take}
use Rattle.pmb_bus.specs.Pec.{pec}
use Rattle.pmb_smbus.specs.Packets.{byte_of}
use Rattle.pmb_smbus.proofs.Wire.{bytes_more}
use Rattle.pmb_smbus.proofs.transfer.code_of.Goals as goal

-- one byte more
pub loop-b-preserved : goal.loop-b-preserved
loop-b-preserved c =
    let wire = c.args.wire.now in
    let i = c.loop-b.b-index in
    c.pec_next-code.ensures.goes_on (map byte_of (take i wire)) (sym c.loop-b.invariant)
    ∙ ap pec (sym (bytes_more wire i c.loop-b-test.true))
