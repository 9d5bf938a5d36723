-- What encoding and decoding come to, and what they leave where C has its answer.
use Rattle.std.specs.Prelude.{◌≡◌, ℕ, ℤ, Result, Ok, Err}
use Rattle.pmb_format.specs.Coding.{Coding, IsNearest, IsInRange, IsBelow, IsAbove}
use Rattle.pmb_format.specs.declared.format.RangeFault.TheVariants.{Below, Above}
use Rattle.pmb_quantity.specs.Fraction.{Fraction}
use Rattle.pmb_quantity.specs.declared.quantity.QuantityFault.{QuantityFault}
use Rattle.pmb_value.specs.NumberFormat.{number_coding}
use Rattle.pmb_value.specs.WordFault.{value_in}
use Rattle.pmb_value.specs.declared.number_format.NumberFormat.{NumberFormat}
use Rattle.pmb_value.specs.declared.number_format.WordFault.{WordFault}
use Rattle.pmb_convert.specs.declared.format_fault.FormatFault.{FormatFault}
use Rattle.pmb_firmware.specs.declared.quantity.PmbQuantity.{PmbQuantity}
use Rattle.pmb_firmware.specs.declared.call_status.CallStatus.TheVariants.{Done, Range, Format, Quantity, Word}
use Rattle.pmb_firmware.specs.Quantity.{numbers}
use Rattle.pmb_firmware.specs.CallStatus.{number_of}

-- A quantity in range leaves its nearest code. Another leaves the code that stood there, and the
-- status says on which side of the range it is.
pub data EncodesQuantity (f : Coding) (q : Fraction) (old : ℕ) (status : ℤ) (new : ℕ) : Type 0 where
  nearest : IsNearest f q new → IsInRange f q → status ≡ number_of Done → EncodesQuantity f q old status new
  below : IsBelow f q → new ≡ old → status ≡ number_of (Range Below) → EncodesQuantity f q old status new
  above : IsAbove f q → new ≡ old → status ≡ number_of (Range Above) → EncodesQuantity f q old status new

-- what is left where there is a fault: what stood there, and the fault's status
pub record Refuses {A : Type 0} (fault : ℤ) (old : A) (status : ℤ) (new : A) : Type 0 where
  pub said : status ≡ fault
  pub kept : new ≡ old

-- the format's fault comes before the quantity's
abbrev pub Encodes : Result NumberFormat FormatFault → Result Fraction QuantityFault → ℕ → ℤ → ℕ → Type 0
Encodes (Err fault) quantity old status new = Refuses (number_of (Format fault)) old status new
Encodes (Ok format) (Err fault) old status new = Refuses (number_of (Quantity fault)) old status new
Encodes (Ok format) (Ok q) old status new = EncodesQuantity (number_coding format) q old status new

-- a quantity takes the place of what stood there
pub record Leaves (q : Fraction) (status : ℤ) (new : PmbQuantity) : Type 0 where
  pub done : status ≡ number_of Done
  pub quantity : new ≡ numbers q

-- the exact value of a word, or why it has none
abbrev pub DecodesWord : Result Fraction WordFault → PmbQuantity → ℤ → PmbQuantity → Type 0
DecodesWord (Err fault) old status new = Refuses (number_of (Word fault)) old status new
DecodesWord (Ok q) old status new = Leaves q status new

-- the format's fault comes before the word's
abbrev pub Decodes : Result NumberFormat FormatFault → ℕ → PmbQuantity → ℤ → PmbQuantity → Type 0
Decodes (Err fault) code old status new = Refuses (number_of (Format fault)) old status new
Decodes (Ok format) code old status new = DecodesWord (value_in format code) old status new

-- the quantity that a text spells
abbrev pub Parses : Result Fraction QuantityFault → PmbQuantity → ℤ → PmbQuantity → Type 0
Parses (Err fault) old status new = Refuses (number_of (Quantity fault)) old status new
Parses (Ok q) old status new = Leaves q status new
