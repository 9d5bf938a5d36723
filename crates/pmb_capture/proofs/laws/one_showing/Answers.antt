use Rattle.pmb_capture.specs.Show.{shown_output}
use Rattle.pmb_capture.proofs.Shown.{one_text}
use Rattle.pmb_capture.proofs.laws.one_showing.Goals as goal

pub returns : goal.returns
returns c profile bytes a b s t bus =
    one_text (shown_output profile) profile (λ events m n. c.one_reading.ensures profile events m n bus)
    c.one_spelling.ensures c.one_bad_word.ensures c.spelled_has_no_bad_word.ensures bytes a b s t
