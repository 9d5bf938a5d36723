use Rattle.std.proofs.Common.{arith, ◌∙◌, ◌∷◌, ◌++◌, [], List, ℕ, Some, ap, subst, sym}
use Rattle.pmb_bus.specs.Address.{read_address, alert_address}
use Rattle.pmb_bus.specs.Pec.{pec}
use Rattle.pmb_command.specs.declared.form.Form.TheVariants.{One}
use Rattle.pmb_command.specs.declared.pec_mode.PecMode.TheVariants.{Optional}
use Rattle.pmb_leg.specs.machine.DataLeft.{Leaves, start}
use Rattle.pmb_leg.proofs.Lefts.{started}
use Rattle.pmb_leg.proofs.Replies.{alert_code, alert_is_answered, alert_says}
use Rattle.pmb_leg.proofs.answer.Answer.at_alert.Goals as goal

pub invariant_of-result : goal.invariant_of-result
invariant_of-result c =
    let before : List ℕ = read_address alert_address ∷ [] in
    let P : List ℕ → Type 0 = λ (bs : List ℕ). Leaves One Optional before bs (start (Some One) Optional) in
    record {
      before = before;
      code = alert_code c.read_address.result c.pec_next-code.result (c.read_address.ensures.seven_bits (omega arith))
          (c.pec_next-code.ensures.goes_on [] c.worked_pecs.ensures.nothing);
      alike = λ others more same. c.pec_is_all_that_counts.ensures others before more same;
      crc = ap (λ (bs : List ℕ). pec (before ++ bs)) c.new.ensures
          ∙ alert_code c.read_address.result c.pec_next-code.result (c.read_address.ensures.seven_bits (omega arith))
          (c.pec_next-code.ensures.goes_on [] c.worked_pecs.ensures.nothing);
      left = subst (Leaves One Optional before c.new.result.items) (sym c.start.ensures)
          (subst P (sym c.new.ensures) (started before One Optional));
    }

pub returns-clause-answers : goal.returns-clause-answers
returns-clause-answers c =
    alert_is_answered c.pec_next-code.result
    (λ others more same. c.pec_is_all_that_counts.ensures others (read_address alert_address ∷ []) more same)
    (alert_code c.read_address.result c.pec_next-code.result (c.read_address.ensures.seven_bits (omega arith))
    (c.pec_next-code.ensures.goes_on [] c.worked_pecs.ensures.nothing))

pub returns-clause-says : goal.returns-clause-says
returns-clause-says c =
    alert_says c.pec_next-code.result (λ others more same. c.pec_is_all_that_counts.ensures others
    (read_address alert_address ∷ []) more same)
    (alert_code c.read_address.result c.pec_next-code.result (c.read_address.ensures.seven_bits (omega arith))
    (c.pec_next-code.ensures.goes_on [] c.worked_pecs.ensures.nothing))
