-- A command with a number format takes two bytes, those of a word. For `Host::next` (`Recorded`
-- and `Ending` use it) and the packet of a quantity that is set (`Asked`). Each kind with a number
-- fits form Two alone, and the codes of each format are below 65,536.
use Rattle.std.proofs.Common.{◌≡◌, ◌≢◌, ℕ, ◌<◌, true, ◌||◌, if◌then◌else◌, Option, Some, None, is_some, List, refl, ap}
use Rattle.std.proofs.Common.{subst, ◌∙◌, arith}
use Rattle.std.specs.Prelude.{Ok}
use Rattle.std.specs.Option.{IsSome, IfSome, option_and_then}
use Rattle.pmb_coefficients.specs.Coefficients.{Coefficients}
use Rattle.pmb_command.specs.declared.entry.Kind.{Kind}
use Rattle.pmb_command.specs.declared.entry.Kind.TheVariants as kinds
use Rattle.pmb_command.specs.declared.form.Form.{Form}
use Rattle.pmb_command.specs.declared.form.Form.TheVariants.{Zero, One, Two, Four, Eight, Block}
use Rattle.pmb_command.specs.Bus.{IsBus, IsFitting}
use Rattle.pmb_command.specs.Fitting.{is_form, kind_fits, same_form, ways_agree}
use Rattle.pmb_command.specs.Parts.{CommandParts, DeviceParts, command_with, device_with}
use Rattle.pmb_command.specs.Wire.{Fits}
use Rattle.pmb_transaction.specs.Body.{shape_of}
use Rattle.pmb_transaction.proofs.Known.{command_is, device_is}
use Rattle.pmb_value.specs.declared.vout.VoutFormat.TheVariants.{Unsigned, Signed, Direct}
use Rattle.pmb_vid.specs.Vid.{vid}
use Rattle.pmb_vid.specs.declared.table.VidTable.{VidTable}
use Rattle.pmb_vid.specs.declared.table.VidTable.TheVariants.{Vr11, Vr12, Vr13, Imvp9, Amd625mv, Nvidia195mv}
use Rattle.pmb_writer.specs.Invalid.{forms_at}
use Rattle.pmb_quantity.specs.Fraction.{Fraction}
use Rattle.pmb_request.specs.Request.{Command, RequestData, WriteParts, ReadBytes, CallBytes, Set, Get}
use Rattle.pmb_value.specs.declared.number_format.NumberFormat.{NumberFormat}
use Rattle.pmb_value.specs.declared.number_format.NumberFormat.TheVariants.{Linear11, Linear11Fixed, Word, Half, Vid}
use Rattle.pmb_value.specs.NumberFormat.{number_coding}
use Rattle.pmb_host.specs.Number.{number_of}
use Rattle.pmb_host.specs.Rules.{CanSet, HasData, HasNumber, IsAllowed}
use Rattle.pmb_host.specs.Signals.{reply_form}
use Rattle.pmb_host.specs.Task.{task_of, word_bytes}

-- ---- forms of two bytes

two_is : (form : Option Form) → is_form Two form ≡ true → form ≡ Some Two
two_is None is = absurd (cc is)
two_is (Some Zero) is = absurd (cc is)
two_is (Some One) is = absurd (cc is)
two_is (Some Two) is = refl
two_is (Some Four) is = absurd (cc is)
two_is (Some Eight) is = absurd (cc is)
two_is (Some Block) is = absurd (cc is)

-- a form with data that goes with two bytes
same_as_two : (form : Form) → form ≢ Zero → (same_form form Zero || same_form form Two) ≡ true → form ≡ Two
same_as_two Zero some same = absurd (some refl)
same_as_two One some same = absurd (cc same)
same_as_two Two some same = refl
same_as_two Four some same = absurd (cc same)
same_as_two Eight some same = absurd (cc same)
same_as_two Block some same = absurd (cc same)

written_two : (write read : Option Form) → is_form Two (if is_some read then read else write) ≡ true
    → ways_agree write read ≡ true → HasData write → write ≡ Some Two
written_two None read fits agree has = absurd has
written_two (Some write) None fits agree has = two_is (Some write) fits
written_two (Some write) (Some read) fits agree has =
    let two : read ≡ Two = cc (two_is (Some read) fits) in
    let same : (same_form write Zero || same_form write Two) ≡ true =
    subst (λ (r : Form). (same_form write Zero || same_form write r) ≡ true) two agree in
    ap Some (same_as_two write has same)

read_two : (write read : Option Form) → is_form Two (if is_some read then read else write) ≡ true → IsSome read
    → read ≡ Some Two
read_two write None fits some = absurd (cc some)
read_two write (Some read) fits some = two_is (Some read) fits

-- ---- commands with a number

-- a kind with a number goes with two bytes
number_fits : (coefficients : Option Coefficients) (mode : Option ℕ) (kind : Kind) (number : NumberFormat)
    (form : Option Form) → Ok number ≡ number_of coefficients mode kind
    → kind_fits kind form ≡ true → is_form Two form ≡ true
number_fits coefficients mode kinds.Raw number form is fits = absurd (cc is)
number_fits coefficients mode (kinds.Number format) number form is fits = fits
number_fits coefficients mode kinds.Vout number form is fits = fits
number_fits coefficients mode kinds.VoutSigned number form is fits = fits
number_fits coefficients mode kinds.Status number form is fits = absurd (cc is)
number_fits coefficients mode kinds.Text number form is fits = absurd (cc is)

-- the codes of a VID table are bytes
vid_small : (table : VidTable) (word : ℕ) → (vid table).IsCode word → word < 65536
vid_small Vr11 word is = omega (arith, is.1)
vid_small Vr12 word is = omega (arith, is.1)
vid_small Vr13 word is = omega (arith, is.1)
vid_small Imvp9 word is = omega (arith, is.1)
vid_small Amd625mv word is = omega (arith, is.1)
vid_small Nvidia195mv word is = omega (arith, is.1)

-- the codes of a format are words
code_small : (number : NumberFormat) (word : ℕ) → (number_coding number).IsCode word → word < 65536
code_small Linear11 word is = is
code_small (Linear11Fixed exponent) word is = is.0
code_small (Word (Unsigned exponent)) word is = is
code_small (Word (Signed exponent)) word is = is
code_small (Word (Direct d)) word is = is
code_small Half word is = is.0
code_small (Vid table) word is = vid_small table word is

-- the two bytes of a word
pub word_fits : (word : ℕ) → word < 65536 → Fits Two (word_bytes word)
word_fits word small = record { small = (omega (arith, small), (omega (arith, small), tt)); taken = refl }

module _ (profile : List DeviceParts) (bus : IsBus profile) (c : Command) where
  -- a command of an accepted profile
  fitting : (device : DeviceParts) (command : CommandParts) → device_with c.addr profile ≡ Some device
      → command_with c.code device.commands ≡ Some command → IsFitting command.entry
  fitting device command known has =
      let accepted = device_is profile c.addr device bus known in
      (command_is device c.code command accepted.0 has).0.entry.fitting

  shape_here : (device : DeviceParts) (command : CommandParts) → device_with c.addr profile ≡ Some device
      → command_with c.code device.commands ≡ Some command
      → forms_at profile c.addr c.code ≡ command.entry.shape
  shape_here device command known has =
      ap (λ (found : Option DeviceParts). shape_of
      (option_and_then (λ (d : DeviceParts). command_with c.code d.commands) found)) known ∙ ap shape_of has

  -- A quantity is written as a word.
  pub set_is_word : (value : Fraction) (mode : Option ℕ) (word : ℕ) → CanSet profile c value mode word
      → ((forms_at profile c.addr c.code).write ≡ Some Two) × (word < 65536)
  set_is_word value mode word set =
      let n = set.has.number_is in
      let parts = fitting n.device n.command n.known n.has in
      let shape = shape_here n.device n.command n.known n.has in
      let two = number_fits n.device.vout_direct mode n.command.entry.kind set.number _ n.number_is parts.kind in
      let has = subst (λ s. HasData s.write) shape set.kept.1.1.0 in (
        ap (λ s. s.write) shape ∙ written_two n.command.entry.shape.write n.command.entry.shape.read two parts.one_form
            has,
        code_small set.number word set.nearest.is_code,
      )

  -- One is read as a word.
  pub get_is_word : (mode : Option ℕ) (number : NumberFormat) → HasNumber profile c mode number
      → IsSome (forms_at profile c.addr c.code).read → (forms_at profile c.addr c.code).read ≡ Some Two
  get_is_word mode number has some =
      let n = has.number_is in
      let parts = fitting n.device n.command n.known n.has in
      let shape = shape_here n.device n.command n.known n.has in
      let two = number_fits n.device.vout_direct mode n.command.entry.kind number _ n.number_is parts.kind in
      let there = subst (λ s. IsSome s.read) shape some in
      ap (λ s. s.read) shape ∙ read_two n.command.entry.shape.write n.command.entry.shape.read two there

-- Where a reply is told as a quantity, it is a word.
pub quantity_is_word : (profile : List DeviceParts) → IsBus profile
    → (request : RequestData) (word : ℕ) (number : Option NumberFormat) (format : NumberFormat)
    → IsAllowed profile request word number
    → number ≡ Some format → reply_form profile (task_of request word) ≡ Some Two
quantity_is_word profile bus (WriteParts parts) word number format allowed is = absurd (cc (allowed.1, is))
quantity_is_word profile bus (ReadBytes c) word number format allowed is = absurd (cc (allowed.1, is))
quantity_is_word profile bus (CallBytes c sent) word number format allowed is = absurd (cc (allowed.1, is))
quantity_is_word profile bus (Set c value mode) word number format allowed is = absurd (cc (allowed.1, is))
quantity_is_word profile bus (Get c mode) word number format allowed is =
    get_is_word profile bus c mode format (subst (λ (n : Option NumberFormat). IfSome n (HasNumber profile c mode)) is
    allowed.1) allowed.0.1.1.0
