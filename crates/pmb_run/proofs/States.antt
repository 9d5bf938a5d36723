-- The state of a simulated device that fits it and holds bytes alone: what a transaction makes of
-- it fits and holds bytes too. For the law `some_running`. As in `FittingStates` of pmb_devices,
-- with the bytes besides: data of a write are bytes, and setting or clearing bits of a byte gives
-- a byte.
use Rattle.std.proofs.Common.{◌≡◌, ℕ, ◌<◌, ◌≤◌, ◌-◌, ◌⊎◌, Bool, true, false, ◌&&◌, Option, Some, None, cond, is_some}
use Rattle.std.proofs.Common.{List, [], ◌∷◌, length, map, nat_eq, refl, sym, ap, subst, ◌∙◌, arith}
use Rattle.std.specs.Int.Bits.{bit_and, bit_or}
use Rattle.std.specs.List.{AllByRecursion}
use Rattle.std.proofs.lemmas.Bool.{eqb-true}
use Rattle.std.proofs.lemmas.List.{length-map}
use Rattle.std.proofs.lemmas.Nat.{and_le_l, or_lt}
use Rattle.pmb_command.specs.declared.form.Form.{Form}
use Rattle.pmb_command.specs.declared.form.Form.TheVariants.{Zero}
use Rattle.pmb_command.specs.Bus.{IsDevice}
use Rattle.pmb_command.specs.Fitting.{is_form, register_form, same_form}
use Rattle.pmb_command.specs.Parts.{CommandParts, DeviceParts, command_with}
use Rattle.pmb_command.specs.Wire.{AreByteValues, Fits, Takes}
use Rattle.pmb_transaction.specs.Body.{forms, shape_of}
use Rattle.pmb_transaction.specs.Transaction.{PartData}
use Rattle.pmb_registers.specs.declared.cml_bit.CmlBit.{CmlBit}
use Rattle.pmb_registers.specs.declared.cml_bit.CmlBit.TheVariants.{BadCommand, BadValue, PecFailed}
use Rattle.pmb_registers.specs.Answer.{all_pages}
use Rattle.pmb_registers.specs.Apply.{after_at, after_enabled, after_other, after_others, after_write, bit_value}
use Rattle.pmb_command.specs.Forms.{has_write}
use Rattle.pmb_registers.specs.Apply.{changed, cleared_bits, is_status, part_to, reaches, selected_by}
use Rattle.pmb_registers.specs.Apply.{with_bit, with_noted}
use Rattle.pmb_registers.specs.Protection.{is_enabled}
use Rattle.pmb_registers.specs.State.{DeviceState, RegisterData}
use Rattle.pmb_device.proofs.Requests.{page_form}
use Rattle.pmb_devices.specs.Replies.{IsState}
use Rattle.pmb_devices.proofs.Commands.{command_is, flip_zero, written_register}
use Rattle.pmb_devices.proofs.FittingStates.{has_changed, has_write_so}

-- a register holds bytes
abbrev pub HoldsBytes : RegisterData → Type 0
HoldsBytes r = AreByteValues r.bytes

-- A state fits its device, and each register holds bytes.
pub record IsGood (device : DeviceParts) (state : DeviceState) : Type 0 where
  pub fits : IsState device state
  pub small : AllByRecursion HoldsBytes state.registers

-- ---- bytes that are written or changed

zeros_small : (bytes : List ℕ) → AreByteValues (map (λ (byte : ℕ). 0) bytes)
zeros_small [] = tt
zeros_small (b ∷ bytes) = (omega arith, zeros_small bytes)

value_small : (bit : CmlBit) → bit_value bit < 256
value_small BadCommand = omega arith
value_small BadValue = omega arith
value_small PecFailed = omega arith

set_small : (bit : CmlBit) (bytes : List ℕ) → AreByteValues bytes
    → AreByteValues (map (λ (byte : ℕ). bit_or byte (bit_value bit)) bytes)
set_small bit [] small = tt
set_small bit (b ∷ bytes) small = (or_lt 8 b (bit_value bit) small.0 (value_small bit), set_small bit bytes small.1)

cleared_small : (written bytes : List ℕ) → AreByteValues bytes → AreByteValues (cleared_bits written bytes)
cleared_small written [] small = tt
cleared_small [] (byte ∷ bytes) small = small
cleared_small (mask ∷ masks) (byte ∷ bytes) small =
    let less : bit_and byte (255 - mask) ≤ byte = and_le_l byte (255 - mask) in
    (omega (arith, less, small.0), cleared_small masks bytes small.1)

-- to clear bits keeps the number of bytes
cleared_length : (written bytes : List ℕ) → length (cleared_bits written bytes) ≡ length bytes
cleared_length written [] = refl
cleared_length [] (byte ∷ bytes) = refl
cleared_length (mask ∷ masks) (byte ∷ bytes) = omega (arith, cleared_length masks bytes)

-- one byte
one_of : (bytes : List ℕ) → length bytes ≡ 1 → (byte : ℕ) × (bytes ≡ byte ∷ [])
one_of [] is = absurd (omega (arith, is))
one_of (byte ∷ []) is = (byte, refl)
one_of (byte ∷ next ∷ more) is = absurd (omega (arith, is))

-- PAGE is written with one byte
pub page_is : (device : DeviceParts) (form : Form) (content : List ℕ) → IsDevice device
    -- 0x00 is the code of PAGE
    → (forms device 0x00).write ≡ Some form → Fits form content
    → (value : ℕ) × (content ≡ value ∷ [])
page_is device form content accepted written fits =
    one_of content (subst (λ (f : Form). Takes f (length content)) (page_form device form accepted written) fits.taken)

module _ (selected : ℕ) (codes : ℕ → Bool) (change : List ℕ → List ℕ) (keeps : (bytes : List ℕ) → AreByteValues bytes
    → AreByteValues (change bytes)) where
  one_small : (hit : Bool) (r : RegisterData) → HoldsBytes r
      → HoldsBytes (cond hit (record r { bytes = change r.bytes }) r)
  one_small true r small = keeps r.bytes small
  one_small false r small = small

  changed_small : (rs : List RegisterData) → AllByRecursion HoldsBytes rs
      → AllByRecursion HoldsBytes (changed selected codes change rs)
  changed_small [] all = tt
  changed_small (r ∷ rs) all = (one_small (codes r.code && reaches selected r.page) r all.0, changed_small rs all.1)

-- ---- parts whose data are bytes

-- the data of a part are bytes
abbrev pub HasSmallData : PartData → Type 0
HasSmallData part = AreByteValues part.bytes

abbrev pub HaveSmallData : Option PartData → Type 0
HaveSmallData None = Unit {0}
HaveSmallData (Some part) = HasSmallData part

small_one : (test : Bool) (part : PartData) (found : Option PartData) → HasSmallData part → HaveSmallData found
    → HaveSmallData (cond test (Some part) found)
small_one true part found here there = here
small_one false part found here there = there

small_to : (address : ℕ) (parts : List PartData) → AllByRecursion HasSmallData parts
    → HaveSmallData (part_to address parts)
small_to address [] small = tt
small_to address (part ∷ parts) small =
    small_one (nat_eq part.addr address) part (part_to address parts) small.0 (small_to address parts small.1)

-- ---- states

module _ (device : DeviceParts) where
  -- one of two states
  pub if_good : (test : Bool) (x y : DeviceState) → (test ≡ true → IsGood device x) → (test ≡ false → IsGood device y)
      → IsGood device (cond test x y)
  if_good true x y here there = here refl
  if_good false x y here there = there refl

  -- as many bytes as the form of a command's register takes
  abbrev KeepsForms : (ℕ → Bool) → (List ℕ → List ℕ) → Type 0
  KeepsForms codes change =
      (code : ℕ) (command : CommandParts) (form : Form) → command_with code device.commands ≡ Some command
      → register_form command.entry.shape ≡ Some form
      → codes code ≡ true → (bytes : List ℕ) → Takes form (length bytes) → Takes form (length (change bytes))

  module _ (before : DeviceState) (good : IsGood device before) where
    -- registers change, and a page is selected
    changed_good : (page : ℕ) → (page < device.pages) ⊎ (page ≡ all_pages)
        → (codes : ℕ → Bool) (change : List ℕ → List ℕ) → KeepsForms codes change
        → ((bytes : List ℕ) → AreByteValues bytes → AreByteValues (change bytes))
        → IsGood device (record { page = page; registers = changed before.page codes change before.registers })
    changed_good page valid codes change stays keeps = record {
      fits = record {
        page = valid;
        holds = λ code at command form is register there.
            let old = good.fits.holds code at command form is register there in
            let new =
            has_changed at code (λ bytes. Takes form (length bytes)) before.page codes change
            (stays code command form is register) before.registers
            (old.bytes, old.held_is, old.taken) in
            record { bytes = new.0; held_is = new.1; taken = new.2 };
      };
      small = changed_small before.page codes change keeps before.registers good.small;
    }

    -- registers change, and keep their lengths
    kept_good : (codes : ℕ → Bool) (change : List ℕ → List ℕ)
        → ((bytes : List ℕ) → length (change bytes) ≡ length bytes)
        → ((bytes : List ℕ) → AreByteValues bytes → AreByteValues (change bytes))
        → IsGood device (record { page = before.page; registers = changed before.page codes change before.registers })
    kept_good codes change long keeps =
        changed_good before.page good.fits.page codes change
        (λ code command form is register coded bytes taken. subst (Takes form) (sym (long bytes)) taken) keeps

    -- A bit of STATUS_CML is set, or none is.
    bit_good : (bit : CmlBit) → IsGood device (with_bit device bit before)
    bit_good bit =
        let set : List ℕ → List ℕ = map (λ (byte : ℕ). bit_or byte (bit_value bit)) in
        -- 0x7e is STATUS_CML
        if_good (is_some (forms device 0x7e).read)
        (record { page = before.page; registers = changed before.page (nat_eq 0x7e) set before.registers }) before
        (λ some. kept_good (nat_eq 0x7e) set (λ bytes. length-map bytes (λ (byte : ℕ). bit_or byte (bit_value bit)))
        (set_small bit)) (λ none. good)

    pub noted_good : (bit : Option CmlBit) → IsGood device (with_noted device bit before)
    noted_good None = good
    noted_good (Some bit) = bit_good bit

    module _ (accepted : IsDevice device) (code : ℕ) (content : List ℕ) (form : Form)
        (written : (forms device code).write ≡ Some form)
        (fits : Fits form content) where
      -- the register of the code takes the data
      data_taken : same_form form Zero ≡ false → (other : ℕ) (command : CommandParts) (own : Form)
          → command_with other device.commands ≡ Some command
          → register_form command.entry.shape ≡ Some own → nat_eq code other ≡ true → (bytes : List ℕ)
          → Takes own (length bytes) → Takes own (length content)
      data_taken some other command own known register same bytes taken =
          -- the write of this register's code, in the register's form
          let code_is : code ≡ other = eqb-true code other same in
          let as_written : command.entry.shape.write ≡ Some form =
          ap (λ (o : Option CommandParts). (shape_of o).write) (sym known) ∙ ap (λ (n : ℕ). (forms device n).write)
          (sym code_is) ∙ written in
          let agree = (command_is device accepted other command known).entry.fitting.one_form in
          let form_is : own ≡ form = written_register command.entry.shape form own as_written some agree register in
          subst (λ (f : Form). Takes f (length content)) (sym form_is) fits.taken

      -- PAGE is written with data
      page_some : code ≡ 0x00 → same_form form Zero ≡ false
      page_some zero =
          ap (λ (f : Form). same_form f Zero) (page_form device form accepted
          (subst (λ (n : ℕ). (forms device n).write ≡ Some form) zero written))

      -- What a complete write makes of the state that is enabled, where a value of PAGE is one of the
      -- device's pages, or ffh,
      enabled_good : (code ≡ 0x00 → (selected_by before.page content < device.pages)
          ⊎ (selected_by before.page content ≡ all_pages))
          → IsGood device (after_enabled device code content before)
      enabled_good valid =
          -- PAGE, whose code is 00h
          if_good (nat_eq code 0x00) _ _
          (
          λ page.
          let zero : code ≡ 0x00 = eqb-true code 0x00 page in
          changed_good (selected_by before.page content) (valid zero) (nat_eq code) (λ old. content)
          (data_taken (page_some zero)) (λ old small. fits.small)
          )
          (
          λ other.
          -- CLEAR_FAULTS, whose code is 03h
          if_good (nat_eq code 0x03) _ _
          (λ clear. kept_good (is_status device) (map (λ byte. 0)) (λ bytes. length-map bytes (λ (byte : ℕ). 0))
          (λ bytes small. zeros_small bytes))
          (
          λ neither.
          -- a command without data changes nothing
          if_good (is_form Zero (forms device code).write) before _ (λ zero. good)
          (
          λ filled.
          let some : same_form form Zero ≡ false =
          flip_zero form (subst (λ (o : Option Form). is_form Zero o ≡ false) written filled) in
          -- a status register: bits are cleared; any other one takes the data
          if_good (is_status device code) _ _ (λ status. kept_good (nat_eq code) (cleared_bits content)
          (cleared_length content) (cleared_small content))
          (λ plain. changed_good before.page good.fits.page (nat_eq code) (λ old. content) (data_taken some)
          (λ old small. fits.small))
          )
          )
          )

      -- and what one makes of it that may be disabled.
      pub write_good : (code ≡ 0x00 → (selected_by before.page content < device.pages)
          ⊎ (selected_by before.page content ≡ all_pages))
          → IsGood device (after_write device code content before)
      write_good valid =
          if_good (is_enabled device before code content) (after_enabled device code content before)
          (with_bit device BadValue before)
          (λ enabled. enabled_good valid)
          (λ disabled. bit_good BadValue)

    -- So is what came to another address, whose data are bytes.
    other_good : IsDevice device → (code : ℕ) (content : List ℕ) → AreByteValues content
        → IsGood device (after_other device code content before)
    other_good accepted code content small =
        if_good (has_write device code content) (after_write device code content before) before
        (
        λ has.
        let such = has_write_so device before.page code content has in
        write_good accepted code content such.form such.written
        (record { small = small; taken = such.fitting }) such.selects
        )
        (λ none. good)

  -- ---- what came to other addresses

  at_good : IsDevice device → (address : ℕ) (written : Option PartData) (before : DeviceState) → HaveSmallData written
      → IsGood device before → IsGood device (after_at device address written before)
  at_good accepted address None before small good = good
  at_good accepted address (Some part) before small good =
      if_good (nat_eq address device.address) before (after_other device part.code part.bytes before)
      (λ own. good) (λ other. other_good before good accepted part.code part.bytes small)

  pub others_good : IsDevice device → (parts : List PartData) → AllByRecursion HasSmallData parts → (also : List ℕ)
      (before : DeviceState) → IsGood device before → IsGood device (after_others device also parts before)
  others_good accepted parts small [] before good = good
  others_good accepted parts small (address ∷ also) before good =
      others_good accepted parts small also (after_at device address (part_to address parts) before)
      (at_good accepted address (part_to address parts) before (small_to address parts small) good)
