-- The number that a word is, in a format whose coefficients have 16 bits and whose exponent has five, fits its
-- kind: over its denominator its numerator is below 2^62.
use Rattle.std.proofs.Common.{ℕ, ◌<◌, Bool, Option, Some, None}
use Rattle.std.specs.Prelude.{IfSome}
use Rattle.pmb_format.specs.Coding.{value_of}
use Rattle.pmb_stats_json.proofs.Numerators.{direct_fits, half_small}
use Rattle.pmb_json_objects.specs.Laws.{IsNumberOfWords}
use Rattle.pmb_mean.proofs.Values.{direct_fits_kind, half_fits_kind, linear11_fits_kind, signed_fits_kind}
use Rattle.pmb_mean.proofs.Values.{unsigned_fits_kind, vid_fits_kind}
use Rattle.pmb_mean.specs.Numbers.{FitsKind}
use Rattle.pmb_mean.specs.Words.{denominators_of, number_if, word_number}
use Rattle.pmb_mean.specs.machine.Formats.{coded_number}
use Rattle.pmb_value.specs.NumberFormat.{number_coding}
use Rattle.pmb_value.specs.WordFault.{value_unless, word_fault}
use Rattle.pmb_value.specs.declared.number_format.NumberFormat.{NumberFormat}
use Rattle.pmb_value.specs.declared.number_format.NumberFormat.TheVariants.{Linear11, Linear11Fixed, Word, Half, Vid}
use Rattle.pmb_value.specs.declared.number_format.WordFault.{WordFault}
use Rattle.pmb_value.specs.declared.vout.VoutFormat.TheVariants.{Unsigned, Signed, Direct}

coded_fits : (format : NumberFormat) (word : ℕ) (assumed : Bool) → IsNumberOfWords format → word < 65536
    → FitsKind (coded_number format word assumed)
coded_fits Linear11 word assumed words fits = linear11_fits_kind word assumed fits
coded_fits (Linear11Fixed exponent) word assumed words fits = linear11_fits_kind word assumed fits
coded_fits (Word (Unsigned exponent)) word assumed words fits = unsigned_fits_kind exponent word assumed words fits
coded_fits (Word (Signed exponent)) word assumed words fits = signed_fits_kind exponent word assumed words fits
coded_fits (Word (Direct d)) word assumed words fits =
    let small = direct_fits d word words fits in
    direct_fits_kind d word assumed small.some small.numerator
coded_fits Half word assumed words fits = half_fits_kind word assumed (half_small word)
coded_fits (Vid table) word assumed words fits = vid_fits_kind table word assumed fits

-- .. where the word has a value
pub number_fits : (format : NumberFormat) (word : ℕ) (assumed : Bool) → IsNumberOfWords format → word < 65536
    → IfSome (word_number format word assumed) FitsKind
number_fits format word assumed words fits = by (word_fault format word)
  where
    by : (fault : Option WordFault)
        → IfSome (number_if (value_unless fault (value_of (number_coding format) word)) (denominators_of format)
        assumed) FitsKind
    by None = coded_fits format word assumed words fits
    by (Some fault) = tt
