use Rattle.std.proofs.Common.{ℕ, take, ap, ◌∙◌}
use Rattle.pmb_sample_fields.specs.Fields.{without_last_blanks}
use Rattle.pmb_sample_fields.proofs.TextLemmas.{used_front}
use Rattle.pmb_sample_fields.proofs.fields.trimmed.Goals as goal

pub returns : goal.returns
returns c =
    let from = c.from_text-from.result.now in
    ap (λ (n : ℕ). take n from) c.used_length.ensures.value ∙ used_front from
    ∙ ap without_last_blanks c.from_text-from.ensures
