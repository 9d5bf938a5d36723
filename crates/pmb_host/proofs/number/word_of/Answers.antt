use Rattle.std.proofs.Common.{Err, ap, refl, ◌∙◌}
use Rattle.pmb_host.specs.Rules.{above}
use Rattle.pmb_host.proofs.number.word_of.Goals as goal

pub returns-in-Err-Above-clause-word : goal.returns-in-Err-Above-clause-word
returns-in-Err-Above-clause-word c = above
    (c.encode.ensures.above.0 (c.in-Err-Above.is ∙ ap Err c.in-Err-Above.field-0-is)) refl
