-- Bytes, as a table writes them.
use Rattle.std.specs.Prelude.{ℕ, Option, Some, None, nat_lt, if◌then◌else◌, List, [], ◌∷◌, codes, length}
use Rattle.pmb_saleae.specs.declared.number.Number.{Number}
use Rattle.pmb_saleae.specs.declared.number.Radix.{Radix}
use Rattle.pmb_saleae.specs.declared.number.Radix.TheVariants.{Hexadecimal, Decimal}
use Rattle.pmb_words.specs.Numbers.{byte_of, decimal_of}
use Rattle.pmb_words.specs.Parts.{after}

abbrev pub numbered : Radix → Option ℕ → Option Number
numbered radix (Some value) = Some (record { radix = radix; value = value })
numbered radix None = None

-- one to three decimal digits
abbrev pub decimal_number : List ℕ → Option Number
decimal_number text = if nat_lt (length text) 4 then numbered Decimal (decimal_of text) else None

-- two hexadecimal digits
abbrev pub two_digits : List ℕ → Option Number
two_digits (high ∷ low ∷ []) = numbered Hexadecimal (byte_of high low)
two_digits [] = None
two_digits (a ∷ []) = None
two_digits (a ∷ b ∷ c ∷ rest) = None

abbrev pub either_number : Option (List ℕ) → List ℕ → Option Number
either_number (Some digits) text = two_digits digits
either_number None text = decimal_number text

-- `0x58`, or one to three decimal digits
abbrev pub number_of : List ℕ → Option Number
number_of text = either_number (after (codes "0x") text) text
