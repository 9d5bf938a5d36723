use Rattle.std.proofs.Common.{refl}
use Rattle.pmb_line.specs.Left.{text_word}
use Rattle.pmb_request.specs.Spelling.{to_set}
use Rattle.pmb_request.specs.machine.Reading.{at_quantity, behind}
use Rattle.pmb_request.proofs.Standing.{next}
use Rattle.pmb_request.proofs.command_words.take_quantity.Goals as goal

pub returns-in-Some-clause-takes : goal.returns-in-Some-clause-takes
returns-in-Some-clause-takes c all a d stands =
    next all (at_quantity a d) (behind a d (to_set c.in-Some.word.text.now)) (text_word c.in-Some.word) _ _ stands
    c.in-Some.ensures.some refl tt (λ e. cc e)
