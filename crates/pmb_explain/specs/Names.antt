-- The names of faults, as they are printed.
use Rattle.std.specs.Prelude.{ℕ, Bool, false, List, [], ◌∷◌, ◌++◌, codes}
use Rattle.std.specs.List.{list_any}
use Rattle.std.specs.Str.{str_eq_ignore_ascii_case}
use Rattle.pmb_convert.specs.Answer.{fault_name as number_name}
use Rattle.pmb_convert.specs.declared.convert_fault.ConvertFault.TheVariants as number
use Rattle.pmb_convert.specs.declared.format_fault.FormatFault.{FormatFault}
use Rattle.pmb_convert.specs.declared.format_fault.FormatFault.TheVariants as format
use Rattle.pmb_hints.specs.Fault.{fault_name as profile_name}
use Rattle.pmb_host.specs.declared.step.HostFault.{HostFault}
use Rattle.pmb_host.specs.declared.step.HostFault.TheVariants as host
use Rattle.pmb_keys.specs.declared.fault.FaultKind.TheVariants as profile
use Rattle.pmb_line.specs.LineFault.{invalid_name}
use Rattle.pmb_line.specs.declared.line_fault.LineFault.{LineFault}
use Rattle.pmb_line.specs.declared.line_fault.LineFault.TheVariants as line
use Rattle.pmb_quantity.specs.declared.quantity.QuantityFault.TheVariants as quantity
use Rattle.pmb_request.specs.RequestFault.{quantity_fault_name}
use Rattle.pmb_run.specs.Answer.{mode_fault_name, range_fault_name}
use Rattle.pmb_transaction.specs.Names.{reason_name}
use Rattle.pmb_transaction.specs.declared.reason.Reason.TheVariants as reason
use Rattle.pmb_value.specs.declared.vout.ModeFault.TheVariants as mode
use Rattle.pmb_format.specs.declared.format.RangeFault.TheVariants as range
use Rattle.pmb_writer.specs.declared.invalid.Invalid.TheVariants as invalid
use Rattle.pmb_explain.specs.declared.fault.ArgumentFault.{ArgumentFault}
use Rattle.pmb_explain.specs.declared.fault.ArgumentFault.TheVariants as argument
use Rattle.pmb_explain.specs.declared.fault.Fault.{Fault}
use Rattle.pmb_explain.specs.declared.fault.Fault.TheVariants as fault

-- Of a line, without the place.
abbrev pub line_name : LineFault → List ℕ
line_name line.Blank = codes "Blank"
line_name (line.BadWord at) = codes "BadWord"
line_name (line.TooLong at) = codes "TooLong"
line_name (line.Invalid why) = invalid_name why

-- Of a request, or of its result. That a byte was refused is told by its place, after this word.
abbrev pub host_name : HostFault → List ℕ
host_name (host.Invalid why) = invalid_name why
host_name host.NotAQuantity = codes "NotAQuantity"
host_name host.ModeUnknown = codes "ModeUnknown"
host_name (host.Mode why) = mode_fault_name why
host_name (host.Range why) = range_fault_name why
host_name (host.Refused leg byte at_read) = codes "refused"
host_name host.NoByte = codes "NoByte"
host_name host.BadPec = codes "BadPec"

-- of a FORMAT
abbrev pub format_name : FormatFault → List ℕ
format_name format.BadFormat = codes "BadFormat"
format_name format.BadExponent = codes "BadExponent"
format_name format.ZeroSlope = codes "ZeroSlope"
format_name format.BadScale = codes "BadScale"
format_name format.Relative = codes "Relative"
format_name format.Vid = codes "Vid"
format_name format.Ieee = codes "Ieee"
format_name format.NoCoefficients = codes "NoCoefficients"

-- of flags and words
abbrev pub argument_name : ArgumentFault → List ℕ
argument_name argument.NeedsLate = codes "NeedsLate"
argument_name argument.BadDigits = codes "BadDigits"
argument_name argument.BadAddress = codes "BadAddress"
argument_name argument.BadFailOn = codes "BadFailOn"
argument_name argument.BadColor = codes "BadColor"
argument_name argument.BadSource = codes "BadSource"
argument_name argument.BadRate = codes "BadRate"
argument_name argument.SigrokOnly = codes "SigrokOnly"
argument_name argument.NoBus = codes "NoBus"
argument_name argument.TwoProfiles = codes "TwoProfiles"
argument_name argument.TwoInputs = codes "TwoInputs"

-- of any fault
abbrev pub fault_name : Fault → List ℕ
fault_name (fault.Reason why) = reason_name why
fault_name fault.BadToken = codes "BadToken"
fault_name (fault.Profile what) = profile_name what
fault_name (fault.Line why) = line_name why
fault_name (fault.Host why) = host_name why
fault_name (fault.Quantity why) = quantity_fault_name why
fault_name (fault.Number why) = number_name why
fault_name (fault.Format why) = format_name why
fault_name (fault.Argument why) = argument_name why

-- ---- the list

-- All faults that are explained, in the order in which they are listed. Of faults that differ in their place
-- alone, such as BadWord at two places, it has one.

-- the protocol errors of a capture
abbrev pub protocol_errors : List Fault
protocol_errors =
    fault.Reason reason.ReadFirst ∷ fault.Reason reason.BadRestart ∷ fault.Reason reason.BadPec ∷
    fault.Reason reason.UnknownDevice ∷ fault.Reason reason.UnknownCommand ∷ fault.Reason reason.TooLong ∷
    fault.Reason reason.TooShort ∷ fault.Reason reason.WrongEvent ∷ fault.Reason reason.Truncated ∷
    fault.BadToken ∷ []

-- the mistakes of a profile
abbrev pub profile_mistakes : List Fault
profile_mistakes =
    fault.Profile profile.NotToml ∷ fault.Profile profile.UnknownKey ∷ fault.Profile profile.MissingKey ∷
    fault.Profile profile.WrongType ∷ fault.Profile profile.TooManyDevices ∷ fault.Profile profile.BadAddress ∷
    fault.Profile profile.AddressTwice ∷ fault.Profile profile.BadValue ∷ fault.Profile profile.BadPages ∷
    fault.Profile profile.UnknownName ∷ fault.Profile profile.BadName ∷ fault.Profile profile.BadForm ∷
    fault.Profile profile.BadCoefficients ∷ fault.Profile profile.CodeTwice ∷ fault.Profile profile.BadInitial ∷
    fault.Profile profile.OutOfMemory ∷ []

-- the faults of lines of `build` and `run`
abbrev pub line_faults : List Fault
line_faults =
    fault.Line line.Blank ∷ fault.Line (line.BadWord 0) ∷ fault.Line (line.TooLong 0) ∷
    fault.Line (line.Invalid invalid.NoParts) ∷ fault.Line (line.Invalid invalid.UnknownDevice) ∷
    fault.Line (line.Invalid invalid.AddressTwice) ∷ fault.Line (line.Invalid invalid.UnknownCommand) ∷
    fault.Line (line.Invalid invalid.NotAllowed) ∷ fault.Line (line.Invalid invalid.WrongLength) ∷
    fault.Line (line.Invalid invalid.PecMode) ∷ []

-- the faults of requests of `run`, and the results of those that failed
abbrev pub request_faults : List Fault
request_faults =
    fault.Quantity quantity.Empty ∷ fault.Quantity quantity.BadDigit ∷ fault.Quantity quantity.ZeroDenominator ∷
    fault.Quantity quantity.TooLarge ∷ fault.Host host.NotAQuantity ∷ fault.Host host.ModeUnknown ∷
    fault.Host (host.Mode mode.Relative) ∷ fault.Host (host.Mode mode.Vid) ∷ fault.Host (host.Mode mode.Ieee) ∷
    fault.Host (host.Mode mode.NoCoefficients) ∷ fault.Host (host.Range range.Below) ∷
    fault.Host (host.Range range.Above) ∷ fault.Host (host.Refused 1 0 false) ∷ fault.Host host.NoByte ∷
    fault.Host host.BadPec ∷ []

-- the faults of lines of `encode` and `decode`
abbrev pub number_faults : List Fault
number_faults =
    fault.Number number.TooLong ∷ fault.Number number.Empty ∷ fault.Number number.BadDigit ∷
    fault.Number number.ZeroDenominator ∷ fault.Number number.TooLarge ∷ fault.Number number.Below ∷
    fault.Number number.Above ∷ fault.Number number.BadCode ∷ fault.Number number.NotANumber ∷
    fault.Number number.NoCode ∷ fault.Number number.Off ∷ []

-- the faults of FORMAT
abbrev pub format_faults : List Fault
format_faults =
    fault.Format format.BadFormat ∷ fault.Format format.BadExponent ∷ fault.Format format.ZeroSlope ∷
    fault.Format format.BadScale ∷ fault.Format format.Relative ∷ fault.Format format.Vid ∷
    fault.Format format.Ieee ∷ fault.Format format.NoCoefficients ∷ []

-- the faults of flags and words
abbrev pub argument_faults : List Fault
argument_faults =
    fault.Argument argument.NeedsLate ∷ fault.Argument argument.BadDigits ∷ fault.Argument argument.BadAddress ∷
    fault.Argument argument.BadFailOn ∷ fault.Argument argument.BadColor ∷ fault.Argument argument.BadSource ∷
    fault.Argument argument.BadRate ∷ fault.Argument argument.SigrokOnly ∷ fault.Argument argument.NoBus ∷
    fault.Argument argument.TwoProfiles ∷ fault.Argument argument.TwoInputs ∷ []

abbrev pub all_faults : List Fault
all_faults = protocol_errors ++ (profile_mistakes ++ (line_faults ++ (request_faults ++ (number_faults
    ++ (format_faults ++ argument_faults)))))

-- a fault has this name, whose letters may have either case
abbrev pub is_of_name : List ℕ → Fault → Bool
is_of_name text fault = str_eq_ignore_ascii_case (fault_name fault) text

-- some fault is explained by this name
abbrev pub is_explained : List ℕ → Bool
is_explained text = list_any (is_of_name text) all_faults
