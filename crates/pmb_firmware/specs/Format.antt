-- The number format that a C struct names.
use Rattle.std.specs.Prelude.{ℕ, ◌/◌, ◌^◌, Bool, true, false, ◌==◌, if◌then◌else◌, None, Result, Ok, Err}
use Rattle.pmb_value.specs.Vout.{format_of}
use Rattle.pmb_value.specs.declared.vout.VoutFormat.TheVariants.{Unsigned, Signed}
use Rattle.pmb_value.specs.declared.number_format.NumberFormat.{NumberFormat}
use Rattle.pmb_value.specs.declared.number_format.NumberFormat.TheVariants.{Linear11, Linear11Fixed, Word, Half, Vid}
use Rattle.pmb_convert.specs.VidTable.TheVariants.{Vr11, Vr12, Vr13, Imvp9, Amd625mv, Nvidia195mv}
use Rattle.pmb_convert.specs.Spelling.{is_zero, mode_format, named_direct, named_linear}
use Rattle.pmb_convert.specs.declared.format_fault.FormatFault.{FormatFault}
use Rattle.pmb_convert.specs.declared.format_fault.FormatFault.TheVariants.{BadFormat, NoCoefficients}
use Rattle.pmb_firmware.specs.declared.format.PmbFormat.{PmbFormat}

-- the coefficients as a DIRECT format, where there are some: the slope is not 0
abbrev pub some_direct : PmbFormat → Result NumberFormat FormatFault
some_direct f = if is_zero f.m then Err NoCoefficients else named_direct false f.m f.b f.r

-- The format that VOUT_MODE names, for signed words or unsigned ones (PMBus Part II revision 1.3,
-- section 8). Bits 7:5 are 010 for DIRECT, whose coefficients stand beside it.
abbrev pub vout_named : Bool → PmbFormat → Result NumberFormat FormatFault
vout_named signed f = if f.mode / 2 ^ 5 == 2 then some_direct f else mode_format (format_of f.mode signed None)

-- the VID table of a number, from 1 on: a struct of zeros names none
abbrev pub vid_named : ℕ → Result NumberFormat FormatFault
vid_named table =
    if table == 1 then Ok (Vid Vr11) else (
    if table == 2 then Ok (Vid Vr12) else (
    if table == 3 then Ok (Vid Vr13) else (
    if table == 4 then Ok (Vid Imvp9) else (
    if table == 5 then Ok (Vid Amd625mv) else (
    if table == 6 then Ok (Vid Nvidia195mv) else
    Err BadFormat)))))

-- by the kind, and the numbers that it asks for
abbrev pub named : PmbFormat → Result NumberFormat FormatFault
named f =
    if f.kind == 0 then Ok Linear11 else (
    if f.kind == 1 then named_linear Linear11Fixed f.exponent else (
    if f.kind == 2 then named_linear (λ e. Word (Unsigned e)) f.exponent else (
    if f.kind == 3 then named_linear (λ e. Word (Signed e)) f.exponent else (
    if f.kind == 4 then named_direct false f.m f.b f.r else (
    if f.kind == 5 then vout_named false f else (
    if f.kind == 6 then vout_named true f else (
    if f.kind == 7 then Ok Half else (
    if f.kind == 8 then vid_named f.mode else (
    if f.kind == 9 then named_direct true f.m f.b f.r else
    Err BadFormat)))))))))
