use Rattle.pmb_host.proofs.SomeHost.{AreGood, request_made}
use Rattle.pmb_host.proofs.laws.allowed_or_fault.Goals as goal

pub returns : goal.returns
returns c profile request bus formed sound =
    let answers = c.quantities_have_answers.ensures in
    let good : AreGood = record {
      linear11 = (answers.linear11, c.linear11_has_one_nearest.ensures);
      fixed = λ exponent is. (answers.fixed exponent is, c.linear11_fixed_has_one_nearest.ensures exponent is);
      unsigned = λ exponent is. (answers.unsigned exponent is, c.ulinear16_has_one_nearest.ensures exponent is);
      signed = λ exponent is. (answers.signed exponent is, c.slinear16_has_one_nearest.ensures exponent is);
      half = (answers.half, c.half_has_one_nearest.ensures);
      vid = λ table. (answers.vid table, c.vid_has_one_nearest.ensures table);
      direct = λ d make. (answers.direct d make.slope, c.direct_has_one_nearest.ensures d make.slope);
    } in
    request_made profile bus formed good request sound
