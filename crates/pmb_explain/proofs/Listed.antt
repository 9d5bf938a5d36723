-- Each fault is explained by its name, computed over the list, fault by fault.
use Rattle.std.proofs.Common.{◌≡◌, true, refl}
use Rattle.pmb_convert.specs.declared.convert_fault.ConvertFault.TheVariants as number
use Rattle.pmb_convert.specs.declared.format_fault.FormatFault.TheVariants as format
use Rattle.pmb_host.specs.declared.step.HostFault.TheVariants as host
use Rattle.pmb_keys.specs.declared.fault.FaultKind.TheVariants as profile
use Rattle.pmb_line.specs.declared.line_fault.LineFault.TheVariants as line
use Rattle.pmb_quantity.specs.declared.quantity.QuantityFault.TheVariants as quantity
use Rattle.pmb_transaction.specs.declared.reason.Reason.TheVariants as reason
use Rattle.pmb_value.specs.declared.vout.ModeFault.TheVariants as mode
use Rattle.pmb_format.specs.declared.format.RangeFault.TheVariants as range
use Rattle.pmb_writer.specs.declared.invalid.Invalid.TheVariants as invalid
use Rattle.pmb_explain.specs.declared.fault.ArgumentFault.TheVariants as argument
use Rattle.pmb_explain.specs.declared.fault.Fault.TheVariants as fault
use Rattle.pmb_explain.specs.declared.fault.Fault.{Fault}
use Rattle.pmb_explain.specs.Names.{fault_name, is_explained}

pub listed : (fault : Fault) → is_explained (fault_name fault) ≡ true
listed (fault.Reason reason.ReadFirst) = refl
listed (fault.Reason reason.BadRestart) = refl
listed (fault.Reason reason.BadPec) = refl
listed (fault.Reason reason.UnknownDevice) = refl
listed (fault.Reason reason.UnknownCommand) = refl
listed (fault.Reason reason.TooLong) = refl
listed (fault.Reason reason.TooShort) = refl
listed (fault.Reason reason.WrongEvent) = refl
listed (fault.Reason reason.Truncated) = refl
listed fault.BadToken = refl
listed (fault.Profile profile.NotToml) = refl
listed (fault.Profile profile.UnknownKey) = refl
listed (fault.Profile profile.MissingKey) = refl
listed (fault.Profile profile.WrongType) = refl
listed (fault.Profile profile.TooManyDevices) = refl
listed (fault.Profile profile.BadAddress) = refl
listed (fault.Profile profile.AddressTwice) = refl
listed (fault.Profile profile.BadValue) = refl
listed (fault.Profile profile.BadPages) = refl
listed (fault.Profile profile.UnknownName) = refl
listed (fault.Profile profile.BadName) = refl
listed (fault.Profile profile.BadForm) = refl
listed (fault.Profile profile.BadCoefficients) = refl
listed (fault.Profile profile.CodeTwice) = refl
listed (fault.Profile profile.BadInitial) = refl
listed (fault.Profile profile.OutOfMemory) = refl
listed (fault.Line line.Blank) = refl
listed (fault.Line (line.BadWord at)) = refl
listed (fault.Line (line.TooLong at)) = refl
listed (fault.Line (line.Invalid invalid.NoParts)) = refl
listed (fault.Line (line.Invalid invalid.UnknownDevice)) = refl
listed (fault.Line (line.Invalid invalid.AddressTwice)) = refl
listed (fault.Line (line.Invalid invalid.UnknownCommand)) = refl
listed (fault.Line (line.Invalid invalid.NotAllowed)) = refl
listed (fault.Line (line.Invalid invalid.WrongLength)) = refl
listed (fault.Line (line.Invalid invalid.PecMode)) = refl
listed (fault.Host (host.Invalid invalid.NoParts)) = refl
listed (fault.Host (host.Invalid invalid.UnknownDevice)) = refl
listed (fault.Host (host.Invalid invalid.AddressTwice)) = refl
listed (fault.Host (host.Invalid invalid.UnknownCommand)) = refl
listed (fault.Host (host.Invalid invalid.NotAllowed)) = refl
listed (fault.Host (host.Invalid invalid.WrongLength)) = refl
listed (fault.Host (host.Invalid invalid.PecMode)) = refl
listed (fault.Host host.NotAQuantity) = refl
listed (fault.Host host.ModeUnknown) = refl
listed (fault.Host (host.Mode mode.Relative)) = refl
listed (fault.Host (host.Mode mode.Vid)) = refl
listed (fault.Host (host.Mode mode.Ieee)) = refl
listed (fault.Host (host.Mode mode.NoCoefficients)) = refl
listed (fault.Host (host.Range range.Below)) = refl
listed (fault.Host (host.Range range.Above)) = refl
listed (fault.Host (host.Refused leg byte at_read)) = refl
listed (fault.Host host.NoByte) = refl
listed (fault.Host host.BadPec) = refl
listed (fault.Quantity quantity.Empty) = refl
listed (fault.Quantity quantity.BadDigit) = refl
listed (fault.Quantity quantity.ZeroDenominator) = refl
listed (fault.Quantity quantity.TooLarge) = refl
listed (fault.Number number.TooLong) = refl
listed (fault.Number number.Empty) = refl
listed (fault.Number number.BadDigit) = refl
listed (fault.Number number.ZeroDenominator) = refl
listed (fault.Number number.TooLarge) = refl
listed (fault.Number number.Below) = refl
listed (fault.Number number.Above) = refl
listed (fault.Number number.BadCode) = refl
listed (fault.Number number.NotANumber) = refl
listed (fault.Number number.NoCode) = refl
listed (fault.Number number.Off) = refl
listed (fault.Format format.BadFormat) = refl
listed (fault.Format format.BadExponent) = refl
listed (fault.Format format.ZeroSlope) = refl
listed (fault.Format format.BadScale) = refl
listed (fault.Format format.Relative) = refl
listed (fault.Format format.Vid) = refl
listed (fault.Format format.Ieee) = refl
listed (fault.Format format.NoCoefficients) = refl
listed (fault.Argument argument.NeedsLate) = refl
listed (fault.Argument argument.BadDigits) = refl
listed (fault.Argument argument.BadAddress) = refl
listed (fault.Argument argument.BadFailOn) = refl
listed (fault.Argument argument.BadColor) = refl
listed (fault.Argument argument.BadSource) = refl
listed (fault.Argument argument.BadRate) = refl
listed (fault.Argument argument.SigrokOnly) = refl
listed (fault.Argument argument.NoBus) = refl
listed (fault.Argument argument.TwoProfiles) = refl
listed (fault.Argument argument.TwoInputs) = refl
