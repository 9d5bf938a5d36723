-- The reply of a device in a good state is bytes. For the law `some_running`. A read is answered
-- with a register's bytes; COEFFICIENTS, the one call that is answered, with two words and an
-- exponent.
use Rattle.std.proofs.Common.{◌≡◌, ℕ, ◌<◌, ◌%◌, ◌/◌, ◌^◌, Bool, true, false, ◌&&◌, Option, Some, None, Result, Ok, Err}
use Rattle.std.proofs.Common.{cond, List, [], ◌∷◌, ◌++◌, nat_eq, option_map, subst, arith}
use Rattle.std.specs.Prelude.{ℤ, pos, negsuc, ◌≤ℤ◌, IfSome}
use Rattle.std.proofs.lemmas.Int.{ints}
use Rattle.std.specs.Int.{w8, w16, cast_unsigned, to_le_bytes}
use Rattle.std.specs.List.{find}
use Rattle.std.specs.Option.{option_and_then, unwrap_or}
use Rattle.pmb_coefficients.specs.Coefficients.{Coefficients, MakeFormat}
use Rattle.pmb_command.specs.declared.entry.Kind.{Kind}
use Rattle.pmb_command.specs.declared.entry.Kind.TheVariants.{Raw, Number, Vout, VoutSigned, Status, Text}
use Rattle.pmb_value.specs.NumberFormat.{IsFormat, IsVoutFormat}
use Rattle.pmb_value.specs.declared.number_format.NumberFormat.{NumberFormat}
use Rattle.pmb_value.specs.declared.number_format.NumberFormat.TheVariants as formats
use Rattle.pmb_value.specs.declared.vout.VoutFormat.{VoutFormat}
use Rattle.pmb_value.specs.declared.vout.VoutFormat.TheVariants.{Unsigned, Signed, Direct}
use Rattle.pmb_command.specs.Bus.{KeepsRanges}
use Rattle.pmb_command.specs.Parts.{CommandParts, DeviceParts, command_with}
use Rattle.pmb_command.specs.Wire.{AreByteValues}
use Rattle.pmb_registers.specs.declared.cml_bit.CmlBit.{CmlBit}
use Rattle.pmb_registers.specs.declared.cml_bit.CmlBit.TheVariants.{BadCommand, BadValue}
use Rattle.pmb_registers.specs.Answer.{all_pages, answer, answer_coefficients, answer_of_page, coefficient_bytes}
use Rattle.pmb_registers.specs.Answer.{coefficients_of, coefficients_of_format, coefficients_of_kind}
use Rattle.pmb_registers.specs.Answer.{coefficients_of_word, coefficients_reply, is_paged}
use Rattle.pmb_registers.specs.State.{DeviceState, RegisterData, is_of_page}
use Rattle.pmb_run.specs.Kept.{IsKeptCommand, IsKeptDevice}
use Rattle.pmb_run.proofs.KeptParts.{found_has}
use Rattle.pmb_run.proofs.States.{HoldsBytes, IsGood}

-- ---- coefficients as bytes

low_byte : (n : ℕ) → n % 256 < 256
low_byte n = omega arith

word_small : (n : ℕ) → AreByteValues (to_le_bytes w16 n)
word_small n = (low_byte n, (low_byte (n / 256 ^ 1), tt))

exponent_small : (r : ℤ) → negsuc 8 ≤ℤ r → r ≤ℤ pos 9 → cast_unsigned w8 r < 256
exponent_small (pos n) least greatest = omega (arith, ints, greatest)
exponent_small (negsuc n) least greatest = omega arith

both_small : (xs ys : List ℕ) → AreByteValues xs → AreByteValues ys → AreByteValues (xs ++ ys)
both_small [] ys small more = more
both_small (x ∷ xs) ys small more = (small.0, both_small xs ys small.1 more)

coefficients_small : (c : Coefficients) → MakeFormat c → AreByteValues (coefficient_bytes c)
coefficients_small c make =
    let last = cast_unsigned w8 c.r ∷ [] in
    let offset = to_le_bytes w16 (cast_unsigned w16 c.b) in
    both_small (to_le_bytes w16 (cast_unsigned w16 c.m)) (offset ++ last) (word_small (cast_unsigned w16 c.m))
    (both_small offset last (word_small (cast_unsigned w16 c.b)) (exponent_small c.r make.least make.greatest, tt))

-- ---- an answer

-- A reply is bytes.
abbrev pub HasBytes : Result (List ℕ) CmlBit → Type 0
HasBytes (Ok reply) = AreByteValues reply
HasBytes (Err bit) = Unit {0}

one_of_two : (test : Bool) (a b : Result (List ℕ) CmlBit) → HasBytes a → HasBytes b → HasBytes (cond test a b)
one_of_two true a b here there = here
one_of_two false a b here there = there

found_bytes : (o : Option RegisterData) → IfSome o HoldsBytes
    → AreByteValues (unwrap_or (option_map (λ r. r.bytes) o) [])
found_bytes None holds = tt
found_bytes (Some r) holds = holds

-- the coefficients of a format in its ranges make a format
word_formats : (format : VoutFormat) → IsVoutFormat format → IfSome (coefficients_of_word format) MakeFormat
word_formats (Unsigned exponent) is = tt
word_formats (Signed exponent) is = tt
word_formats (Direct d) is = is

format_formats : (format : NumberFormat) → IsFormat format → IfSome (coefficients_of_format format) MakeFormat
format_formats formats.Linear11 is = tt
format_formats (formats.Linear11Fixed exponent) is = tt
format_formats (formats.Word format) is = word_formats format is
format_formats formats.Half is = tt
format_formats (formats.Vid table) is = tt

-- so do those of a command's numbers
kind_formats : (vout : Option Coefficients) (kind : Kind) → IfSome vout MakeFormat → KeepsRanges kind
    → IfSome (coefficients_of_kind vout kind) MakeFormat
kind_formats vout Raw make is = tt
kind_formats vout (Number format) make is = format_formats format is
kind_formats vout Vout make is = make
kind_formats vout VoutSigned make is = make
kind_formats vout Status make is = tt
kind_formats vout Text make is = tt

command_formats : (vout : Option Coefficients) (o : Option CommandParts) → IfSome vout MakeFormat
    → IfSome o IsKeptCommand
    → IfSome (option_and_then (λ (command : CommandParts). coefficients_of_kind vout command.entry.kind) o) MakeFormat
command_formats vout None make kept = tt
command_formats vout (Some command) make kept = kind_formats vout command.entry.kind make kept.kind

reply_bytes : (o : Option Coefficients) → IfSome o MakeFormat → HasBytes (coefficients_reply o)
reply_bytes None make = tt
reply_bytes (Some c) make = coefficients_small c make

module _ (device : DeviceParts) (kept : IsKeptDevice device) where
  called_bytes : (bytes : List ℕ) → HasBytes (answer_coefficients device bytes)
  called_bytes [] = tt
  called_bytes (count ∷ []) = tt
  called_bytes (count ∷ code ∷ []) = tt
  called_bytes (count ∷ code ∷ direction ∷ []) =
      reply_bytes (coefficients_of device code)
      (command_formats device.vout_direct (command_with code device.commands) kept.vout
      (found_has IsKeptCommand (λ c. nat_eq c.entry.code code) device.commands kept.commands))
  called_bytes (count ∷ code ∷ direction ∷ more ∷ rest) = tt

  module _ (state : DeviceState) (good : IsGood device state) where
    page_bytes : (code : ℕ) (behind : List ℕ) → HasBytes (answer_of_page device state code behind)
    page_bytes code [] =
        found_bytes (find (λ r. nat_eq r.code code && is_of_page state.page r.page) state.registers)
        (found_has HoldsBytes (λ r. nat_eq r.code code && is_of_page state.page r.page) state.registers good.small)
    page_bytes code (byte ∷ behind) =
        -- 0x30 is COEFFICIENTS
        one_of_two (nat_eq code 0x30) (answer_coefficients device (byte ∷ behind)) (Err BadCommand)
        (called_bytes (byte ∷ behind)) tt

    answer_has : (body : List ℕ) → HasBytes (answer device state body)
    answer_has [] = tt
    answer_has (code ∷ behind) =
        one_of_two (nat_eq state.page all_pages && is_paged (command_with code device.commands)) (Err BadValue)
        (answer_of_page device state code behind) tt
        (page_bytes code behind)

    -- What a device replies is bytes.
    pub reply_small : (body reply : List ℕ) → answer device state body ≡ Ok reply → AreByteValues reply
    reply_small body reply is = subst HasBytes is (answer_has body)
