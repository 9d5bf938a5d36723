use Rattle.std.proofs.Common.{arith, refl}
use Rattle.pmb_format.specs.Direct.{direct}
use Rattle.pmb_linear.specs.Linear.{linear11, linear11_fixed, slinear16, ulinear16}
use Rattle.pmb_half.specs.Half.{half}
use Rattle.pmb_vid.specs.Vid.{first_code, vid}
use Rattle.pmb_format.proofs.DirectRows.{IsSeparated-direct}
use Rattle.pmb_half.proofs.OneHalf.{IsSeparated-half}
use Rattle.pmb_vid.proofs.Tables.{IsSeparated-vid}
use Rattle.pmb_linear.proofs.FixedExponent.{IsSeparated-linear11_fixed}
use Rattle.pmb_linear.proofs.LinearRows.{IsSeparated-slinear16, IsSeparated-ulinear16}
use Rattle.pmb_linear.proofs.OneLinear11.{IsSeparated-linear11}
use Rattle.pmb_value.proofs.SomeNearest.{decide_fixed, decide_half, decide_vid, first_is_code, has_answers, vid_word, words_have_answers}
use Rattle.pmb_value.proofs.laws.quantities_have_answers.Goals as goal

pub returns-clause-linear11 : goal.returns-clause-linear11
returns-clause-linear11 c = words_have_answers linear11 IsSeparated-linear11 refl

pub returns-clause-fixed : goal.returns-clause-fixed
returns-clause-fixed c = λ e fits. has_answers (linear11_fixed e) (IsSeparated-linear11_fixed e fits) (decide_fixed e)
    (λ k code. code.0) (c.linear11_fixed_has_codes.ensures e fits)

pub returns-clause-unsigned : goal.returns-clause-unsigned
returns-clause-unsigned c = λ e fits. words_have_answers (ulinear16 e) (IsSeparated-ulinear16 e) refl

pub returns-clause-signed : goal.returns-clause-signed
returns-clause-signed c = λ e fits. words_have_answers (slinear16 e) (IsSeparated-slinear16 e) refl

pub returns-clause-direct : goal.returns-clause-direct
returns-clause-direct c = λ d slope. words_have_answers (direct d) (IsSeparated-direct d slope) refl

pub returns-clause-half : goal.returns-clause-half
returns-clause-half c =
    has_answers half IsSeparated-half decide_half (λ k code. code.0) (0, (omega arith, omega arith))

pub returns-clause-vid : goal.returns-clause-vid
returns-clause-vid c = λ table.
    has_answers (vid table) (IsSeparated-vid table) (decide_vid table) (vid_word table)
    (first_code table, first_is_code table)
