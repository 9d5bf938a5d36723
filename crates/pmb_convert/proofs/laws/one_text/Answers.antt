use Rattle.pmb_convert.specs.declared.conversion.Conversion.TheVariants.{Encode, Decode}
use Rattle.pmb_convert.proofs.Determined.{decode_one, determined, encodes}
use Rattle.pmb_convert.proofs.laws.one_text.Goals as goal

pub returns-clause-encode : goal.returns-clause-encode
returns-clause-encode c = λ format is.
    determined (Encode format) (encodes (λ n d positive. (c.lowest_terms.ensures n d positive).positive)
    c.linear11_has_one_nearest.ensures c.linear11_fixed_has_one_nearest.ensures c.linear11_fixed_has_codes.ensures
    c.ulinear16_has_one_nearest.ensures c.slinear16_has_one_nearest.ensures c.direct_has_one_nearest.ensures
    c.half_has_one_nearest.ensures c.vid_has_one_nearest.ensures
    format is)

pub returns-clause-decode : goal.returns-clause-decode
returns-clause-decode c = λ format. determined (Decode format) (decode_one format)
