use Rattle.std.proofs.Common.{◌∙◌, Some, ap, option_map}
use Rattle.pmb_sample_fields.specs.machine.Digits.{by_digits}
use Rattle.pmb_sample_fields.proofs.NumberLemmas.{value_of_text}
use Rattle.pmb_sample_fields.proofs.scaled.scaled_number.Goals as goal

pub returns-in-Some-clause-value : goal.returns-in-Some-clause-value
returns-in-Some-clause-value c =
    ap Some c.scale.ensures.value ∙ ap (option_map (by_digits c.args.places)) c.in-Some.ensures
    ∙ value_of_text c.args.places c.args.text.now
