use Rattle.pmb_convert.specs.declared.conversion.Conversion.TheVariants.{Encode, Decode}
use Rattle.pmb_convert.specs.Lines.{most_conversion_line}
use Rattle.pmb_convert.proofs.Determined.{decode_one, encodes}
use Rattle.pmb_convert.proofs.Fronts.{comes_first}
use Rattle.pmb_convert.proofs.laws.ended_lines_come_first.Goals as goal

pub returns-clause-encode : goal.returns-clause-encode
returns-clause-encode c = λ format is.
    comes_first (Encode format) (encodes (λ n d positive. (c.lowest_terms.ensures n d positive).positive)
    c.linear11_has_one_nearest.ensures c.linear11_fixed_has_one_nearest.ensures c.linear11_fixed_has_codes.ensures
    c.ulinear16_has_one_nearest.ensures c.slinear16_has_one_nearest.ensures c.direct_has_one_nearest.ensures
    c.half_has_one_nearest.ensures c.vid_has_one_nearest.ensures
    format is) (c.ended_lines_stay.ensures most_conversion_line)

pub returns-clause-decode : goal.returns-clause-decode
returns-clause-decode c = λ format. comes_first (Decode format) (decode_one format)
    (c.ended_lines_stay.ensures most_conversion_line)
