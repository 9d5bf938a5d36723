use Rattle.pmb_capture.specs.Show.{shown_output}
use Rattle.pmb_capture.proofs.SomeText.{some_text}
use Rattle.pmb_capture.proofs.laws.some_showing.Goals as goal

pub returns : goal.returns
returns c profile bytes bus = some_text (shown_output profile) profile
    (λ events. c.each_list_has_a_reading.ensures profile 0 events bus) bytes (c.each_text_is_read.ensures bytes)
