-- The code goes on with each byte.
use Rattle.std.proofs.Common.{[], ◌∷◌, ap, ◌∙◌}
use Rattle.pmb_bus.specs.Pec.{pec}
use Rattle.pmb_bus.proofs.Codes.{pec_of_nothing}
use Rattle.pmb_log_data.proofs.whole.leg_code.Goals as goal

pub loop-byte-init : goal.loop-byte-init
loop-byte-init c = c.pec_next-code.ensures.goes_on [] pec_of_nothing
    ∙ ap (λ b. pec (b ∷ [])) c.write_address.ensures.low_bits
