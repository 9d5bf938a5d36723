use Rattle.pmb_capture.specs.Check.{checked_output}
use Rattle.pmb_capture.proofs.SomeText.{some_text}
use Rattle.pmb_capture.proofs.laws.some_check.Goals as goal

pub returns : goal.returns
returns c profile bytes bus = some_text checked_output profile
    (λ events. c.each_list_has_a_reading.ensures profile 0 events bus) bytes (c.each_text_is_read.ensures bytes)
