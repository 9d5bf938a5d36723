-- The coefficients of DIRECT (PMBus Part II revision 1.3, section 7.4).
use Rattle.std.specs.Prelude.{◌≢◌, ℤ, pos, negsuc, ◌≤ℤ◌, Bool}

-- the coefficients m, b and R of a device, and how it counts its words
pub record Coefficients : Type 0 where
  pub m : ℤ
  pub b : ℤ
  pub r : ℤ
  -- whether a word Y counts as it stands, and not in two's complement
  pub unsigned : Bool

-- They make a format: the slope m is not 0, and the exponent of ten R is from -9 to 9.
pub record MakeFormat (d : Coefficients) : Type 0 where
  pub slope : d.m ≢ pos 0
  pub least : negsuc 8 ≤ℤ d.r
  pub greatest : d.r ≤ℤ pos 9
