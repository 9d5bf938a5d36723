use Rattle.pmb_capture.specs.Check.{checked_output}
use Rattle.pmb_capture.proofs.Shown.{one_text}
use Rattle.pmb_capture.proofs.laws.one_check.Goals as goal

pub returns : goal.returns
returns c profile bytes a b s t bus =
    one_text checked_output profile (λ events m n. c.one_reading.ensures profile events m n bus) c.one_spelling.ensures
    c.one_bad_word.ensures c.spelled_has_no_bad_word.ensures bytes a b s t
