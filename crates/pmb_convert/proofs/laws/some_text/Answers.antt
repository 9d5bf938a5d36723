use Rattle.pmb_convert.specs.declared.conversion.Conversion.TheVariants.{Encode, Decode}
use Rattle.pmb_convert.proofs.SomeText.{decode_some, encodes_some, has_text}
use Rattle.pmb_convert.proofs.laws.some_text.Goals as goal

pub returns-clause-encode : goal.returns-clause-encode
returns-clause-encode c = λ format is.
    has_text (Encode format) (encodes_some (λ n d positive. (c.lowest_terms.ensures n d positive).positive)
    c.quantities_have_answers.ensures.linear11 c.quantities_have_answers.ensures.fixed
    c.quantities_have_answers.ensures.unsigned c.quantities_have_answers.ensures.signed
    c.quantities_have_answers.ensures.direct c.quantities_have_answers.ensures.half
    c.quantities_have_answers.ensures.vid
    format is)

pub returns-clause-decode : goal.returns-clause-decode
returns-clause-decode c = λ format. has_text (Decode format) (decode_some format)
