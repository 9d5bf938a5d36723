-- A request that is allowed has no fault, and any other has one first fault at most. For
-- `Host::new` and the laws `one_first_fault` and `allowed_requests_have_no_fault`. Of the rules
-- the first broken one is one; of SET and GET there are the number format besides, which is one
-- for a command, and the range of its codes, of which a quantity is on one side at most.
use Rattle.std.proofs.Common.{◌≡◌, ℕ, ℤ, Option, Some, None, Result, Ok, Err, List, refl, sym, ap, subst, ◌∙◌, arith}
use Rattle.std.proofs.lemmas.Int.{ints}
use Rattle.pmb_coefficients.specs.Coefficients.{Coefficients}
use Rattle.pmb_coefficients.specs.Exponent.{IsExponent}
use Rattle.pmb_command.specs.declared.entry.Kind.{Kind}
use Rattle.pmb_command.specs.declared.entry.Kind.TheVariants as kinds
use Rattle.pmb_command.specs.Bus.{IsBus, KeepsRanges}
use Rattle.pmb_command.specs.Parts.{CommandParts, DeviceParts, command_with}
use Rattle.pmb_format.specs.Coding.{Coding, IsAbove, IsBelow, IsInRange}
use Rattle.pmb_linear.proofs.FixedExponent.{rises-linear11_fixed}
use Rattle.pmb_quantity.specs.Fraction.{Fraction}
use Rattle.pmb_transaction.specs.Transaction.{Write}
use Rattle.pmb_transaction.proofs.Known.{command_is, device_is}
use Rattle.pmb_value.specs.declared.vout.ModeFault.{ModeFault}
use Rattle.pmb_value.specs.declared.vout.VoutFormat.{VoutFormat}
use Rattle.pmb_value.specs.declared.vout.VoutFormat.TheVariants.{Unsigned, Signed, Direct}
use Rattle.pmb_value.specs.Vout.{format_of}
use Rattle.pmb_vid.specs.Vid.{vid}
use Rattle.pmb_vid.specs.declared.table.VidTable.{VidTable}
use Rattle.pmb_vid.specs.declared.table.VidTable.TheVariants.{Vr11, Vr12, Vr13, Imvp9, Amd625mv, Nvidia195mv}
use Rattle.pmb_writer.specs.Invalid.{Rule, transaction_rules}
use Rattle.pmb_writer.proofs.Packets.{packet_keeps}
use Rattle.pmb_writer.proofs.Rules.{not_both, one_broken}
use Rattle.pmb_request.specs.Request.{Command, RequestData, WriteParts, ReadBytes, CallBytes, Set, Get}
use Rattle.pmb_value.specs.declared.number_format.NumberFormat.{NumberFormat}
use Rattle.pmb_value.specs.declared.number_format.NumberFormat.TheVariants as formats
use Rattle.pmb_value.specs.declared.sign.Sign.{Sign}
use Rattle.pmb_value.specs.declared.sign.Sign.TheVariants as signs
use Rattle.pmb_host.specs.declared.step.HostFault.{HostFault}
use Rattle.pmb_host.specs.declared.step.HostFault.TheVariants as faults
use Rattle.pmb_value.specs.NumberFormat.{number_coding}
use Rattle.pmb_host.specs.Number.{is_signed, named_format, number_of, vout_number}
use Rattle.pmb_host.specs.Rules.{CanSet, HasNoNumber, HasNumber, IsAllowed, IsFault, IsGetFault, IsNumber, IsOutside}
use Rattle.pmb_host.specs.Rules.{IsRefusedBy, IsSetFault, above, below, call_rules, get_rules, no_format, no_number}
use Rattle.pmb_host.specs.Rules.{no_quantity, outside, read_rules, refused, set_rules, wrong_pec}

-- ---- one side of a range

-- a quantity in the range is on neither side
not_outside : (number : NumberFormat) (value : Fraction) (fault : HostFault) → IsInRange (number_coding number) value
    → IsOutside number value fault → ⊥
not_outside number value fault inside (below under is) =
    let reached = inside.from_least in
    let less = under reached.0 reached.1 in
    let reaches = reached.2 in
    omega (arith, ints, less, reaches)
not_outside number value fault inside (above over is) =
    let reached = inside.to_greatest in
    let less = over reached.0 reached.1 in
    let reaches = reached.2 in
    omega (arith, ints, less, reaches)

-- none is on both, where there is a code
not_both_sides : (coding : Coding) (value : Fraction) (code : ℕ) → coding.IsCode code → IsBelow coding value
    → IsAbove coding value → ⊥
not_both_sides coding value code is_code under over =
    let less = under code is_code in
    let more = over code is_code in
    omega (arith, ints, less, more)

named_word : (named : Result VoutFormat ModeFault) (exponent : ℤ) → Ok (formats.Linear11Fixed exponent)
    ≡ named_format named → ⊥
named_word (Ok format) exponent is = cc is
named_word (Err fault) exponent is = cc is

-- VOUT_MODE names no LINEAR11
vout_word : (sign : Sign) (coefficients : Option Coefficients) (mode : Option ℕ) (exponent : ℤ)
    → Ok (formats.Linear11Fixed exponent) ≡ vout_number sign coefficients mode → ⊥
vout_word sign coefficients None exponent is = cc is
vout_word sign coefficients (Some mode) exponent is =
    named_word (format_of mode (is_signed sign) coefficients) exponent is

-- an exponent that is fixed is the command's
fixed_kind : (coefficients : Option Coefficients) (mode : Option ℕ) (kind : Kind) (exponent : ℤ)
    → Ok (formats.Linear11Fixed exponent) ≡ number_of coefficients mode kind
    → kind ≡ kinds.Number (formats.Linear11Fixed exponent)
fixed_kind coefficients mode kinds.Raw exponent is = absurd (cc is)
fixed_kind coefficients mode (kinds.Number format) exponent is =
    let same : formats.Linear11Fixed exponent ≡ format = cc is in ap kinds.Number (sym same)
fixed_kind coefficients mode kinds.Vout exponent is = absurd (vout_word signs.Unsigned coefficients mode exponent is)
fixed_kind coefficients mode kinds.VoutSigned exponent is =
    absurd (vout_word signs.Signed coefficients mode exponent is)
fixed_kind coefficients mode kinds.Status exponent is = absurd (cc is)
fixed_kind coefficients mode kinds.Text exponent is = absurd (cc is)

-- each VID table has a code
first_code : (table : VidTable) → (code : ℕ) × (vid table).IsCode code
first_code Vr11 = (2, (omega arith, omega arith))
first_code Vr12 = (1, (omega arith, omega arith))
first_code Vr13 = (1, (omega arith, omega arith))
first_code Imvp9 = (1, (omega arith, omega arith))
first_code Amd625mv = (0, (omega arith, omega arith))
first_code Nvidia195mv = (1, (omega arith, omega arith))

-- each format has a code
some_code : (number : NumberFormat) → ((exponent : ℤ) → number ≡ formats.Linear11Fixed exponent → IsExponent exponent)
    → (code : ℕ) × (number_coding number).IsCode code
some_code formats.Linear11 fits = (0, omega arith)
some_code (formats.Linear11Fixed exponent) fits =
    (_, ((rises-linear11_fixed exponent (fits exponent refl)).written 0 (omega arith)).0)
some_code (formats.Word (Unsigned exponent)) fits = (0, omega arith)
some_code (formats.Word (Signed exponent)) fits = (0, omega arith)
some_code (formats.Word (Direct d)) fits = (0, omega arith)
some_code formats.Half fits = (0, (omega arith, λ same. omega (arith, same)))
some_code (formats.Vid table) fits = first_code table

module _ (profile : List DeviceParts) (c : Command) where
  -- ---- one number format

  one_number : (mode : Option ℕ) (a b : Result NumberFormat HostFault) → IsNumber profile c mode a
      → IsNumber profile c mode b → a ≡ b
  one_number mode a b one other =
      let devices : Some one.device ≡ Some other.device = sym one.known ∙ other.known in
      let device : one.device ≡ other.device = cc devices in
      let commands : Some one.command ≡ Some other.command =
      sym one.has ∙ ap (λ (d : DeviceParts). command_with c.code d.commands) device ∙ other.has in
      let command : one.command ≡ other.command = cc commands in
      one.number_is ∙ ap (λ (d : DeviceParts). number_of d.vout_direct mode one.command.entry.kind) device
      ∙ ap (λ (it : CommandParts). number_of other.device.vout_direct mode it.entry.kind) command ∙ sym other.number_is

  some_number : (mode : Option ℕ) (fault : HostFault) (number : NumberFormat) → HasNoNumber profile c mode fault
      → HasNumber profile c mode number → ⊥
  some_number mode fault number (no_quantity is_none is) has =
      cc (one_number mode (Err faults.NotAQuantity) (Ok number) is_none has.number_is)
  some_number mode fault number (wrong_pec found is_found some broken is) has = broken has.kept
  some_number mode fault number (no_format is_none other kept) has =
      cc (one_number mode (Err fault) (Ok number) is_none has.number_is)

  one_without_number : (mode : Option ℕ) (a b : HostFault) → HasNoNumber profile c mode a → HasNoNumber profile c mode b
      → a ≡ b
  one_without_number mode a b (no_quantity first first_is) (no_quantity second second_is) = first_is ∙ sym second_is
  one_without_number mode a b (no_quantity first first_is) (wrong_pec found second some broken second_is) =
      absurd (some (one_number mode found (Err faults.NotAQuantity) second first))
  one_without_number mode a b (no_quantity first first_is) (no_format second other kept) =
      absurd (other (let same = one_number mode (Err b) (Err faults.NotAQuantity) second first in cc same))
  one_without_number mode a b (wrong_pec found first some broken first_is) (no_quantity second second_is) =
      absurd (some (one_number mode found (Err faults.NotAQuantity) first second))
  one_without_number mode a b (wrong_pec found first some broken first_is) (wrong_pec other second one also second_is) =
      first_is ∙ sym second_is
  one_without_number mode a b (wrong_pec found first some broken first_is) (no_format second other kept) =
      absurd (broken kept)
  one_without_number mode a b (no_format first other kept) (no_quantity second second_is) =
      absurd (other (let same = one_number mode (Err a) (Err faults.NotAQuantity) first second in cc same))
  one_without_number mode a b (no_format first other kept) (wrong_pec found second some broken second_is) =
      absurd (broken kept)
  one_without_number mode a b (no_format first other kept) (no_format second also likewise) =
      let same = one_number mode (Err a) (Err b) first second in cc same

  -- ---- one side

  -- the exponent of its format is one of LINEAR11's
  its_exponent : (mode : Option ℕ) (number : NumberFormat) → IsBus profile → HasNumber profile c mode number
      → (exponent : ℤ) → number ≡ formats.Linear11Fixed exponent → IsExponent exponent
  its_exponent mode number bus has exponent is =
      let found = has.number_is in
      let device = device_is profile c.addr found.device bus found.known in
      let command = command_is found.device c.code found.command device.0 found.has in
      let format : Ok (formats.Linear11Fixed exponent)
      ≡ number_of found.device.vout_direct mode found.command.entry.kind = sym (ap Ok is) ∙ found.number_is in
      subst KeepsRanges (fixed_kind found.device.vout_direct mode found.command.entry.kind exponent format)
      command.0.entry.fitting.ranges

  one_side : (mode : Option ℕ) (number : NumberFormat) (value : Fraction) (a b : HostFault) → IsBus profile
      → HasNumber profile c mode number
      → IsOutside number value a → IsOutside number value b → a ≡ b
  one_side mode number value a b bus has (below under is) (below again also) = is ∙ sym also
  one_side mode number value a b bus has (below under is) (above over also) =
      let code = some_code number (its_exponent mode number bus has) in
      absurd (not_both_sides (number_coding number) value code.0 code.1 under over)
  one_side mode number value a b bus has (above over is) (below under also) =
      let code = some_code number (its_exponent mode number bus has) in
      absurd (not_both_sides (number_coding number) value code.0 code.1 under over)
  one_side mode number value a b bus has (above over is) (above again also) = is ∙ sym also

  -- two formats of a command are one
  same_format : (mode : Option ℕ) (a b : NumberFormat) → HasNumber profile c mode a → HasNumber profile c mode b → a ≡ b
  same_format mode a b one other = let same = one_number mode (Ok a) (Ok b) one.number_is other.number_is in cc same

  one_side_of : (mode : Option ℕ) (number other : NumberFormat) (value : Fraction) (a b : HostFault) → IsBus profile
      → HasNumber profile c mode number → HasNumber profile c mode other → IsOutside number value a
      → IsOutside other value b → a ≡ b
  one_side_of mode number other value a b bus has also first second =
      one_side mode number value a b bus has first
      (subst (λ (it : NumberFormat). IsOutside it value b) (sym (same_format mode number other has also)) second)

  -- ---- allowed

  can_set_or_not : (value : Fraction) (mode : Option ℕ) (word : ℕ) (fault : HostFault)
      → CanSet profile c value mode word → IsSetFault profile c value mode fault → ⊥
  can_set_or_not value mode word fault can (refused (invalid, is, broken)) =
      not_both (set_rules profile c) invalid can.kept broken
  can_set_or_not value mode word fault can (no_number kept none) = some_number mode fault can.number none can.has
  can_set_or_not value mode word fault can (outside kept number has out) =
      not_outside can.number value fault can.in_range
      (subst (λ (it : NumberFormat). IsOutside it value fault) (same_format mode number can.number has can.has) out)

  can_get_or_not : (mode : Option ℕ) (number : Option NumberFormat) (fault : HostFault)
      → IsAllowed profile (Get c mode) 0 number → IsGetFault profile c mode fault → ⊥
  can_get_or_not mode number fault allowed (refused (invalid, is, broken)) =
      not_both (get_rules profile c) invalid allowed.0 broken
  can_get_or_not mode None fault allowed (no_number kept none) = allowed.2 refl
  can_get_or_not mode (Some number) fault allowed (no_number kept none) = some_number mode fault number none allowed.1

  -- ---- one fault

  one_set_fault : (value : Fraction) (mode : Option ℕ) (a b : HostFault) → IsBus profile
      → IsSetFault profile c value mode a → IsSetFault profile c value mode b → a ≡ b
  one_set_fault value mode a b bus (refused (one, a_is, first)) (refused (other, b_is, second)) =
      a_is ∙ ap faults.Invalid (one_broken (set_rules profile c) one other first second) ∙ sym b_is
  one_set_fault value mode a b bus (refused (one, a_is, first)) (no_number kept none) =
      absurd (not_both (set_rules profile c) one kept first)
  one_set_fault value mode a b bus (refused (one, a_is, first)) (outside kept number has out) =
      absurd (not_both (set_rules profile c) one kept first)
  one_set_fault value mode a b bus (no_number kept none) (refused (other, b_is, second)) =
      absurd (not_both (set_rules profile c) other kept second)
  one_set_fault value mode a b bus (no_number kept none) (no_number also another) =
      one_without_number mode a b none another
  one_set_fault value mode a b bus (no_number kept none) (outside also number has out) =
      absurd (some_number mode a number none has)
  one_set_fault value mode a b bus (outside kept number has out) (refused (other, b_is, second)) =
      absurd (not_both (set_rules profile c) other kept second)
  one_set_fault value mode a b bus (outside kept number has out) (no_number also none) =
      absurd (some_number mode b number none has)
  one_set_fault value mode a b bus (outside kept number has out) (outside also other another beyond) =
      one_side_of mode number other value a b bus has another out beyond

  one_get_fault : (mode : Option ℕ) (a b : HostFault) → IsGetFault profile c mode a → IsGetFault profile c mode b
      → a ≡ b
  one_get_fault mode a b (refused (one, a_is, first)) (refused (other, b_is, second)) =
      a_is ∙ ap faults.Invalid (one_broken (get_rules profile c) one other first second) ∙ sym b_is
  one_get_fault mode a b (refused (one, a_is, first)) (no_number kept none) =
      absurd (not_both (get_rules profile c) one kept first)
  one_get_fault mode a b (no_number kept none) (refused (other, b_is, second)) =
      absurd (not_both (get_rules profile c) other kept second)
  one_get_fault mode a b (no_number kept none) (no_number also another) = one_without_number mode a b none another

-- ---- all requests

-- what is refused by rules in an order is refused by the first that is broken
one_refusal : (profile : List DeviceParts) (rules : List Rule) (a b : HostFault) → IsRefusedBy profile rules a
    → IsRefusedBy profile rules b → a ≡ b
one_refusal profile rules a b (one, a_is, first) (other, b_is, second) = a_is
    ∙ ap faults.Invalid (one_broken rules one other first second) ∙ sym b_is

pub one_fault : (profile : List DeviceParts) (request : RequestData) (a b : HostFault) → IsBus profile
    → IsFault profile request a → IsFault profile request b → a ≡ b
one_fault profile (WriteParts parts) a b bus first second =
    one_refusal profile (transaction_rules profile (Write parts)) a b first second
one_fault profile (ReadBytes c) a b bus first second = one_refusal profile (read_rules profile c) a b first second
one_fault profile (CallBytes c bytes) a b bus first second =
    one_refusal profile (call_rules profile c bytes) a b first second
one_fault profile (Set c value mode) a b bus first second = one_set_fault profile c value mode a b bus first second
one_fault profile (Get c mode) a b bus first second = one_get_fault profile c mode a b first second

pub allowed_or_fault : (profile : List DeviceParts) (request : RequestData) (word : ℕ) (number : Option NumberFormat)
    (fault : HostFault) → IsBus profile
    → IsAllowed profile request word number → IsFault profile request fault → ⊥
allowed_or_fault profile (WriteParts parts) word number fault bus (has, none) (invalid, is, broken) =
    not_both (transaction_rules profile (Write parts)) invalid (packet_keeps profile (Write parts) bus.devices has)
    broken
allowed_or_fault profile (ReadBytes c) word number fault bus (kept, none) (invalid, is, broken) =
    not_both (read_rules profile c) invalid kept broken
allowed_or_fault profile (CallBytes c bytes) word number fault bus (kept, none) (invalid, is, broken) =
    not_both (call_rules profile c bytes) invalid kept broken
allowed_or_fault profile (Set c value mode) word number fault bus (can, none) broken =
    can_set_or_not profile c value mode word fault can broken
allowed_or_fault profile (Get c mode) word number fault bus allowed broken =
    can_get_or_not profile c mode number fault allowed broken
