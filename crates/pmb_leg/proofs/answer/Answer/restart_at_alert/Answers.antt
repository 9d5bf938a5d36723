use Rattle.std.proofs.Common.{arith, ◌∷◌, []}
use Rattle.pmb_bus.specs.Address.{read_address, alert_address}
use Rattle.pmb_leg.proofs.Replies.{alert_code, alert_is_answered, alert_says}
use Rattle.pmb_leg.proofs.answer.Answer.restart_at_alert.Goals as goal

pub returns-clause-answers : goal.returns-clause-answers
returns-clause-answers c =
    rw c.restart.ensures
    (alert_is_answered c.pec_next.result (λ others more same. c.pec_is_all_that_counts.ensures others
    (read_address alert_address ∷ []) more same)
    (alert_code c.read_address.result c.pec_next.result (c.read_address.ensures.seven_bits (omega arith))
    (c.pec_next.ensures.goes_on [] c.worked_pecs.ensures.nothing)))

pub returns-clause-says : goal.returns-clause-says
returns-clause-says c =
    rw c.restart.ensures
    (alert_says c.pec_next.result (λ others more same. c.pec_is_all_that_counts.ensures others
    (read_address alert_address ∷ []) more same)
    (alert_code c.read_address.result c.pec_next.result (c.read_address.ensures.seven_bits (omega arith))
    (c.pec_next.ensures.goes_on [] c.worked_pecs.ensures.nothing)))
