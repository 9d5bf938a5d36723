-- The number format of a command.
use Rattle.std.specs.Prelude.{ℕ, Bool, true, false, Option, Some, None, Result, Ok, Err}
use Rattle.pmb_coefficients.specs.Coefficients.{Coefficients}
use Rattle.pmb_command.specs.declared.entry.Kind.{Kind}
use Rattle.pmb_command.specs.declared.entry.Kind.TheVariants as kinds
use Rattle.pmb_value.specs.declared.vout.ModeFault.{ModeFault}
use Rattle.pmb_value.specs.declared.vout.VoutFormat.{VoutFormat}
use Rattle.pmb_value.specs.Vout.{format_of}
use Rattle.pmb_value.specs.declared.number_format.NumberFormat.{NumberFormat}
use Rattle.pmb_value.specs.declared.number_format.NumberFormat.TheVariants.{Word}
use Rattle.pmb_value.specs.declared.sign.Sign.{Sign}
use Rattle.pmb_value.specs.declared.sign.Sign.TheVariants.{Unsigned, Signed}
use Rattle.pmb_host.specs.declared.step.HostFault.{HostFault}
use Rattle.pmb_host.specs.declared.step.HostFault.TheVariants.{NotAQuantity, ModeUnknown, Mode}

abbrev pub is_signed : Sign → Bool
is_signed Unsigned = false
is_signed Signed = true

abbrev pub named_format : Result VoutFormat ModeFault → Result NumberFormat HostFault
named_format (Ok format) = Ok (Word format)
named_format (Err fault) = Err (Mode fault)

-- the format that VOUT_MODE names, where that is known (PMBus Part II 1.3 section 8)
abbrev pub vout_number : Sign → Option Coefficients → Option ℕ → Result NumberFormat HostFault
vout_number sign coefficients None = Err ModeUnknown
vout_number sign coefficients (Some mode) = named_format (format_of mode (is_signed sign) coefficients)

-- The format of a kind of command, by the coefficients and the VOUT_MODE of its device. Bytes and
-- status bits are no numbers.
abbrev pub number_of : Option Coefficients → Option ℕ → Kind → Result NumberFormat HostFault
number_of coefficients mode kinds.Raw = Err NotAQuantity
number_of coefficients mode (kinds.Number format) = Ok format
number_of coefficients mode kinds.Vout = vout_number Unsigned coefficients mode
number_of coefficients mode kinds.VoutSigned = vout_number Signed coefficients mode
number_of coefficients mode kinds.Status = Err NotAQuantity
number_of coefficients mode kinds.Text = Err NotAQuantity
