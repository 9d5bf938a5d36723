-- Each request is allowed, or has a first fault: the law `allowed_or_fault`. Each rule is decided,
-- so that all are kept or one is the first broken. For SET and GET, a command has a number format
-- or none as the profile and VOUT_MODE say, and each format answers each quantity by its own laws:
-- a nearest code, or below or above its range.
use Rattle.std.proofs.Common.{◌≡◌, ◌≢◌, ℕ, ℤ, ◌<◌, ◌%◌, ◌^◌, ◌⊎◌, Bool, true, false, Option, Some, None, IsSome, IfSome}
use Rattle.std.proofs.Common.{Result, Ok, Err, List, refl, sym, ap, subst, inl, inr, arith}
use Rattle.std.specs.Prelude.{◌/◌, ◌==◌, if◌then◌else◌}
use Rattle.std.specs.Option.{option_and_then}
use Rattle.pmb_coefficients.specs.Coefficients.{Coefficients, MakeFormat}
use Rattle.pmb_coefficients.specs.Exponent.{IsExponent}
use Rattle.pmb_command.specs.declared.entry.Kind.{Kind}
use Rattle.pmb_command.specs.declared.entry.Kind.TheVariants as kinds
use Rattle.pmb_command.specs.declared.form.Form.{Form}
use Rattle.pmb_command.specs.declared.form.Form.TheVariants.{Zero}
use Rattle.pmb_command.specs.Bus.{IsBus, KeepsRanges}
use Rattle.pmb_command.specs.Parts.{DeviceParts, command_with, device_with}
use Rattle.pmb_command.specs.PecMode.{AllowsPec}
use Rattle.pmb_command.specs.Wire.{Fits}
use Rattle.pmb_format.specs.declared.format.RangeFault.TheVariants.{Below, Above}
use Rattle.pmb_format.specs.Laws.{HasOneNearest}
use Rattle.pmb_format.specs.Words.{twos_complement}
use Rattle.pmb_linear.proofs.Linear11Lemmas.{field_5}
use Rattle.pmb_quantity.specs.Fraction.{Fraction}
use Rattle.pmb_transaction.specs.Transaction.{Write}
use Rattle.pmb_transaction.proofs.Known.{command_is, device_is}
use Rattle.pmb_value.specs.Answers.{HasAnswers}
use Rattle.pmb_value.specs.NumberFormat.{IsFormat, number_coding}
use Rattle.pmb_vid.specs.declared.table.VidTable.{VidTable}
use Rattle.pmb_value.specs.Vout.{direct_of, format_of, linear_of}
use Rattle.pmb_value.specs.declared.number_format.NumberFormat.{NumberFormat}
use Rattle.pmb_value.specs.declared.number_format.NumberFormat.TheVariants as formats
use Rattle.pmb_value.specs.declared.vout.ModeFault.{ModeFault}
use Rattle.pmb_value.specs.declared.vout.ModeFault.TheVariants.{Relative, Vid, Ieee, NoCoefficients}
use Rattle.pmb_value.specs.declared.vout.VoutFormat.{VoutFormat}
use Rattle.pmb_value.specs.declared.vout.VoutFormat.TheVariants.{Unsigned, Signed, Direct}
use Rattle.pmb_writer.specs.declared.invalid.Invalid.TheVariants.{PecMode}
use Rattle.pmb_writer.specs.Invalid.{AreKept, Rule, command_at, forms_at}
use Rattle.pmb_writer.proofs.Decisions.{AreDecided, IsDecided, fits, if_there, is_there, keeps, packet_or_fault}
use Rattle.pmb_writer.proofs.Decisions.{settled}
use Rattle.pmb_request.specs.Request.{Command, RequestData, WriteParts, ReadBytes, CallBytes, Set, Get}
use Rattle.pmb_value.specs.declared.sign.Sign.{Sign}
use Rattle.pmb_value.specs.declared.sign.Sign.TheVariants as signs
use Rattle.pmb_host.specs.declared.step.HostFault.{HostFault}
use Rattle.pmb_host.specs.declared.step.HostFault.TheVariants as faults
use Rattle.pmb_host.specs.Number.{is_signed, named_format, number_of, vout_number}
use Rattle.pmb_host.specs.Requests.{IsSound, MakeFormats}
use Rattle.pmb_host.specs.Rules.{HasData, HasNoNumber, HasNumber, IsAllowed, IsFault, IsNumber, IsRefusedBy, above}
use Rattle.pmb_host.specs.Rules.{below, call_rules, get_rules, no_format, no_number, no_quantity, outside, read_rules}
use Rattle.pmb_host.specs.Rules.{refused, set_rules, wrong_pec}

-- ---- formats

-- what the laws say of a format
abbrev pub IsGood : NumberFormat → Type 0
IsGood number = HasAnswers (number_coding number) × HasOneNearest (number_coding number)

-- what they say of all
pub record AreGood : Type 0 where
  pub linear11 : IsGood formats.Linear11
  pub fixed : (exponent : ℤ) → IsExponent exponent → IsGood (formats.Linear11Fixed exponent)
  pub unsigned : (exponent : ℤ) → IsExponent exponent → IsGood (formats.Word (Unsigned exponent))
  pub signed : (exponent : ℤ) → IsExponent exponent → IsGood (formats.Word (Signed exponent))
  pub direct : (d : Coefficients) → MakeFormat d → IsGood (formats.Word (Direct d))
  pub half : IsGood formats.Half
  pub vid : (table : VidTable) → IsGood (formats.Vid table)

abbrev IfGood : Result NumberFormat HostFault → Type 0
IfGood (Ok number) = IsGood number
IfGood (Err fault) = Unit {0}

-- so for a format that VOUT_MODE names, if it names one
abbrev IfNamedGood : Result VoutFormat ModeFault → Type 0
IfNamedGood (Ok format) = IsGood (formats.Word format)
IfNamedGood (Err fault) = Unit {0}

record NamedGood (named : Result VoutFormat ModeFault) : Type 0 where
  good : IfNamedGood named

module _ (laws : AreGood) where
  none_good : (fault : ModeFault) → NamedGood (Err fault)
  none_good fault = record { good = tt }

  chosen_good : (is : Bool) (a b : Result VoutFormat ModeFault) → NamedGood a → NamedGood b
      → NamedGood (if is then a else b)
  chosen_good true a b first second = first
  chosen_good false a b first second = second

  linear_good : (signed : Bool) (exponent : ℤ) → IsExponent exponent → NamedGood (Ok (linear_of signed exponent))
  linear_good true exponent is = record { good = laws.signed exponent is }
  linear_good false exponent is = record { good = laws.unsigned exponent is }

  direct_good : (signed : Bool) (coefficients : Option Coefficients) → IfSome coefficients MakeFormat
      → NamedGood (direct_of signed coefficients)
  direct_good signed None make = none_good NoCoefficients
  direct_good false (Some d) make = record { good = laws.direct d make }
  direct_good true (Some d) make = record {
    good = laws.direct (record d { unsigned = false })
        (record { slope = make.slope; least = make.least; greatest = make.greatest });
  }

  format_good : (mode : ℕ) (signed : Bool) (coefficients : Option Coefficients) → IfSome coefficients MakeFormat
      → NamedGood (format_of mode signed coefficients)
  format_good mode signed coefficients make =
      let kind = mode / 2 ^ 5 % 2 ^ 2 in
      let small : mode % 32 < 32 = omega arith in
      let exponent = twos_complement 5 (mode % 2 ^ 5) in
      chosen_good (mode / 2 ^ 7 == 1) (Err Relative) _ (none_good Relative)
      (chosen_good (kind == 1) (Err Vid) _ (none_good Vid)
      (chosen_good (kind == 3) (Err Ieee) _ (none_good Ieee)
      (chosen_good (kind == 2) (direct_of signed coefficients) (Ok (linear_of signed exponent))
      (direct_good signed coefficients make)
      (linear_good signed exponent (field_5 (mode % 2 ^ 5) small)))))

  named_good : (named : Result VoutFormat ModeFault) → NamedGood named → IfGood (named_format named)
  named_good (Ok format) is = is.good
  named_good (Err fault) is = tt

  vout_good : (sign : Sign) (coefficients : Option Coefficients) (mode : Option ℕ) → IfSome coefficients MakeFormat
      → IfGood (vout_number sign coefficients mode)
  vout_good sign coefficients None make = tt
  vout_good sign coefficients (Some mode) make = named_good (format_of mode (is_signed sign) coefficients)
      (format_good mode (is_signed sign) coefficients make)

  -- a format of a command's own
  own_good : (format : NumberFormat) → IsFormat format → IsGood format
  own_good formats.Linear11 is = laws.linear11
  own_good (formats.Linear11Fixed exponent) is = laws.fixed exponent is
  own_good (formats.Word (Unsigned exponent)) is = laws.unsigned exponent is
  own_good (formats.Word (Signed exponent)) is = laws.signed exponent is
  own_good (formats.Word (Direct d)) is = laws.direct d is
  own_good formats.Half is = laws.half
  own_good (formats.Vid table) is = laws.vid table

  number_good : (coefficients : Option Coefficients) (mode : Option ℕ) (kind : Kind) → IfSome coefficients MakeFormat
      → KeepsRanges kind → IfGood (number_of coefficients mode kind)
  number_good coefficients mode kinds.Raw make own = tt
  number_good coefficients mode (kinds.Number format) make own = own_good format own
  number_good coefficients mode kinds.Vout make own = vout_good signs.Unsigned coefficients mode make
  number_good coefficients mode kinds.VoutSigned make own = vout_good signs.Signed coefficients mode make
  number_good coefficients mode kinds.Status make own = tt
  number_good coefficients mode kinds.Text make own = tt

-- ---- requests

has_data : (form : Option Form) → IsDecided (HasData form)
has_data None = inr (λ none. none)
has_data (Some Zero) = inr (λ some. some refl)
has_data (Some _) = inl (λ is. cc is)

the_one : {A : Type 0} (o : Option A) → IsSome o → (x : A) × (o ≡ Some x)
the_one None some = absurd (cc some)
the_one (Some x) some = (x, refl)

is_quantity : (number : Result NumberFormat HostFault) → (number ≡ Err faults.NotAQuantity)
    ⊎ (number ≢ Err faults.NotAQuantity)
is_quantity (Ok number) = inr (λ is. cc is)
is_quantity (Err faults.NotAQuantity) = inl refl
is_quantity (Err _) = inr (λ is. cc is)

module _ (profile : List DeviceParts) (bus : IsBus profile) (formed : MakeFormats profile) (good : AreGood) where
  -- ---- rules

  abbrev IsSettled : List Rule → Type 0
  IsSettled rules = AreKept rules ⊎ ((fault : HostFault) × IsRefusedBy profile rules fault)

  by_rules : (rules : List Rule) → AreDecided rules → IsSettled rules
  by_rules rules decided = elim (settled rules decided)
      [ inl kept ↦ inl kept | inr broken ↦ inr (faults.Invalid broken.0, (broken.0, refl, broken.1)) ]

  read_decided : (c : Command) → AreDecided (read_rules profile c)
  read_decided c = (
    is_there (device_with c.addr profile),
    (
      is_there (command_at profile c.addr c.code),
      (is_there (forms_at profile c.addr c.code).read, (keeps profile c.addr c.pec, tt)),
    ),
  )

  call_decided : (c : Command) (bytes : List ℕ) → AreDecided (call_rules profile c bytes)
  call_decided c bytes = (
    is_there (device_with c.addr profile),
    (
      is_there (command_at profile c.addr c.code),
      (
        is_there (forms_at profile c.addr c.code).call,
        (
          if_there (λ form. Fits form bytes) (λ form. fits form bytes) (forms_at profile c.addr c.code).call,
          (keeps profile c.addr c.pec, tt),
        ),
      ),
    ),
  )

  set_decided : (c : Command) → AreDecided (set_rules profile c)
  set_decided c = (
    is_there (device_with c.addr profile),
    (is_there (command_at profile c.addr c.code), (has_data (forms_at profile c.addr c.code).write, tt)),
  )

  get_decided : (c : Command) → AreDecided (get_rules profile c)
  get_decided c = (
    is_there (device_with c.addr profile),
    (is_there (command_at profile c.addr c.code), (is_there (forms_at profile c.addr c.code).read, tt)),
  )

  -- ---- numbers

  module _ (c : Command) (mode : Option ℕ) where
    abbrev HasOne : Type 0
    HasOne = ((number : NumberFormat) × HasNumber profile c mode number)
        ⊎ ((fault : HostFault) × HasNoNumber profile c mode fault)

    formatted : (number : Result NumberFormat HostFault) → IsNumber profile c mode number
        → number ≢ Err faults.NotAQuantity
        → IfSome (device_with c.addr profile) (λ device. AllowsPec device.pec c.pec) → HasOne
    formatted (Ok number) is some kept = inl (number, record { number_is = is; kept = kept })
    formatted (Err fault) is some kept = inr (fault, no_format is (λ same. some (ap Err same)) kept)

    numbered : (number : Result NumberFormat HostFault) → IsNumber profile c mode number → HasOne
    numbered number is =
        elim (is_quantity number) [
          | inl none ↦ inr (faults.NotAQuantity, no_quantity (subst (IsNumber profile c mode) none is) refl)
          | inr some ↦
              elim (keeps profile c.addr c.pec) [
                | inl kept ↦ formatted number is some kept
                | inr wrong ↦ inr (faults.Invalid PecMode, wrong_pec number is some wrong refl)
              ]
        ]

    -- the number of a command that is there
    its_number : IsSome (device_with c.addr profile) → IsSome (command_at profile c.addr c.code)
        → (number : Result NumberFormat HostFault) × IsNumber profile c mode number
    its_number some known =
        let device = the_one (device_with c.addr profile) some in
        let here : IsSome (command_with c.code device.0.commands) =
        subst (λ (o : Option DeviceParts). IsSome
        (option_and_then (λ (d : DeviceParts). command_with c.code d.commands) o)) device.1 known in
        let command = the_one (command_with c.code device.0.commands) here in (
          number_of device.0.vout_direct mode command.0.entry.kind,
          record { device = device.0; command = command.0; known = device.1; has = command.1; number_is = refl },
        )

    has_or_none : IsSome (device_with c.addr profile) → IsSome (command_at profile c.addr c.code) → HasOne
    has_or_none some known = let number = its_number some known in numbered number.0 number.1

    is_good : (number : NumberFormat) → HasNumber profile c mode number → IsGood number
    is_good number has =
        let found = has.number_is in
        let device = device_is profile c.addr found.device bus found.known in
        let command = command_is found.device c.code found.command device.0 found.has in
        let vout = formed c.addr found.device found.known in
        subst IfGood (sym found.number_is) (number_good good found.device.vout_direct mode found.command.entry.kind vout
        command.0.entry.fitting.ranges)

  -- ---- requests

  abbrev pub IsMade : RequestData → Type 0
  IsMade request = ((word : ℕ) × (number : Option NumberFormat) × IsAllowed profile request word number)
      ⊎ ((fault : HostFault) × IsFault profile request fault)

  set_in : (c : Command) (value : Fraction) (mode : Option ℕ) → 0 < value.denominator → AreKept (set_rules profile c)
      → (number : NumberFormat) → HasNumber profile c mode number
      → IsMade (Set c value mode)
  set_in c value mode positive kept number has =
      -- the laws of the command's number format decide
      let laws = is_good c mode number has in
      elim (laws.0 value positive) [
        -- in range: its nearest code is written, and no other is nearest
        | inl inside ↦
            let code = inside.1 in
            inl (
              code.0,
              None,
              (
                record {
                  kept = kept;
                  number = number;
                  has = has;
                  in_range = inside.0;
                  nearest = code.1;
                  only = λ other near. laws.1 value other code.0 positive near code.1;
                },
                refl,
              ),
            )
        -- out of range: below or above
        | inr out ↦
            elim out [
              | inl under ↦ inr (faults.Range Below, outside kept number has (below under refl))
              | inr over ↦ inr (faults.Range Above, outside kept number has (above over refl))
            ]
      ]

  set_made : (c : Command) (value : Fraction) (mode : Option ℕ) → 0 < value.denominator → IsMade (Set c value mode)
  set_made c value mode positive =
      elim (by_rules (set_rules profile c) (set_decided c)) [
        | inr broken ↦ inr (broken.0, refused broken.1)
        | inl kept ↦
            elim (has_or_none c mode kept.0 kept.1.0) [
              | inl one ↦ set_in c value mode positive kept one.0 one.1
              | inr none ↦ inr (none.0, no_number kept none.1)
            ]
      ]

  get_made : (c : Command) (mode : Option ℕ) → IsMade (Get c mode)
  get_made c mode =
      elim (by_rules (get_rules profile c) (get_decided c)) [
        | inr broken ↦ inr (broken.0, refused broken.1)
        | inl kept ↦
            elim (has_or_none c mode kept.0 kept.1.0) [
              | inl one ↦ inl (0, Some one.0, (kept, one.1, λ is. cc is))
              | inr none ↦ inr (none.0, no_number kept none.1)
            ]
      ]

  pub request_made : (request : RequestData) → IsSound request → IsMade request
  request_made (WriteParts parts) typed =
      elim (packet_or_fault profile (Write parts) typed) [
        | inl packet ↦ inl (0, None, (packet, refl))
        | inr first ↦ inr (faults.Invalid first.0, (first.0, refl, first.1))
      ]
  request_made (ReadBytes c) typed = elim (by_rules (read_rules profile c) (read_decided c))
      [ inl kept ↦ inl (0, None, (kept, refl)) | inr broken ↦ inr broken ]
  request_made (CallBytes c bytes) typed =
      elim (by_rules (call_rules profile c bytes) (call_decided c bytes))
      [ inl kept ↦ inl (0, None, (kept, refl)) | inr broken ↦ inr broken ]
  request_made (Set c value mode) typed = set_made c value mode typed
  request_made (Get c mode) typed = get_made c mode
