-- What STOP makes of a state that fits its device fits it too: each register keeps as many bytes
-- as its form takes, and PAGE selects a page of the device, or all. For the laws `states_fit` and
-- `replies_are_answers`. Each change of registers is one of lengths (`has_changed`); of the bytes
-- that were taken a write has just that many bytes, and a value of PAGE that the device has.
use Rattle.std.proofs.Common.{◌≡◌, ℕ, ◌<◌, ◌⊎◌, inl, inr, Bool, true, false, not, ◌&&◌, ◌||◌, Option, Some, None}
use Rattle.std.proofs.Common.{cond, is_some, List, [], ◌∷◌, ◌++◌, length, map, nat_eq, refl, sym, ap, subst, ◌∙◌, arith}
use Rattle.std.specs.Prelude.{nat_lt}
use Rattle.std.specs.Int.Bits.{bit_or}
use Rattle.std.specs.List.{find}
use Rattle.std.proofs.lemmas.Bool.{and_parts, eq-eqb, eqb-true, leb-true, ltb-true, or_cases}
use Rattle.std.proofs.lemmas.List.{length-map}
use Rattle.std.proofs.lemmas.Option.{same_Some}
use Rattle.pmb_bus.specs.Address.{read_address, write_address}
use Rattle.pmb_command.specs.declared.form.Form.{Form}
use Rattle.pmb_command.specs.declared.form.Form.TheVariants.{Zero, One, Two, Four, Eight, Block}
use Rattle.pmb_command.specs.Bus.{IsDevice}
use Rattle.pmb_command.specs.Fitting.{is_form, register_form, same_form}
use Rattle.pmb_command.specs.Parts.{CommandParts, DeviceParts, command_with}
use Rattle.pmb_command.specs.Wire.{Fits, wire}
use Rattle.pmb_command.specs.Wire as form_of
use Rattle.pmb_transaction.specs.Body.{WriteBody, checked, forms, shape_of}
use Rattle.pmb_transaction.specs.Transaction.{PartData}
use Rattle.pmb_registers.specs.declared.cml_bit.CmlBit.{CmlBit}
use Rattle.pmb_registers.specs.Answer.{all_pages}
use Rattle.pmb_registers.specs.declared.cml_bit.CmlBit.TheVariants.{BadValue}
use Rattle.pmb_registers.specs.Apply.{after_at, after_enabled, after_other, after_write, bit_value, changed}
use Rattle.pmb_command.specs.Forms.{has_write, is_own_page, takes_data}
use Rattle.pmb_registers.specs.Apply.{cleared_bits, is_status, reaches, selected_by}
use Rattle.pmb_registers.specs.Apply.{with_bit, with_noted}
use Rattle.pmb_registers.specs.Protection.{is_enabled}
use Rattle.pmb_registers.specs.State.{DeviceState, RegisterData, is_of_page}
use Rattle.pmb_leg.specs.declared.place.LegPlace.{LegPlace}
use Rattle.pmb_device.specs.Legs.{Leg, Legs, Outside, Inside, leg_place, some_is_to}
use Rattle.pmb_device.specs.Rules.{TakesAll}
use Rattle.pmb_device.specs.Ends.{Acts, Ends, LegsEnd, NotesAnswer, OwnLegEnds, ReadOrActs, Refuses, asked, no_leg}
use Rattle.pmb_device.specs.Ends.{no_write, not_asked, own_leg, writes}
use Rattle.pmb_device.proofs.Requests.{page_form}
use Rattle.pmb_devices.specs.Replies.{IsState}
use Rattle.pmb_devices.specs.Stops.{EndsOn, TakesEach}
use Rattle.pmb_devices.proofs.Commands.{command_is, flip_zero, written_register}
use Rattle.pmb_devices.proofs.FirstStates.{bytes_of, is_at}

-- ---- changes of registers

module _ (page code : ℕ) (P : List ℕ → Type 0) where
  -- a register was found, whose bytes are such
  abbrev pub Has : Option RegisterData → Type 0
  Has found = (bytes : List ℕ) × (bytes_of found ≡ Some bytes) × P bytes

  -- the register in front is the one, or another after it
  chosen : (test : Bool) (r after : RegisterData) (rest behind : Option RegisterData)
      → (test ≡ true → P r.bytes → P after.bytes)
      → (Has rest → Has behind) → Has (cond test (Some r) rest) → Has (cond test (Some after) behind)
  chosen true r after rest behind here later has =
      (after.bytes, refl, here refl (subst P (sym (same_Some r.bytes has.0 has.1)) has.2))
  chosen false r after rest behind here later has = later has

  module _ (selected : ℕ) (codes : ℕ → Bool) (change : List ℕ → List ℕ)
      (stays : codes code ≡ true → (bytes : List ℕ) → P bytes → P (change bytes)) where
    -- where the register in front changes, or does not
    front_changed : (hit : Bool) (r : RegisterData) (rest behind : Option RegisterData)
        → (hit ≡ true → codes r.code ≡ true)
        → (Has rest → Has behind) → Has (cond (is_at page code r) (Some r) rest)
        → Has (cond (is_at page code (cond hit (record r { bytes = change r.bytes }) r))
        (Some (cond hit (record r { bytes = change r.bytes }) r)) behind)
    front_changed true r rest behind coded later has =
        chosen (is_at page code r) r (record r { bytes = change r.bytes }) rest behind
        (
        -- it is a register of the code that changes
        λ here.
        let same : r.code ≡ code = eqb-true r.code code
        (and_parts (nat_eq r.code code) (is_of_page page r.page) here).0 in
        stays (subst (λ (n : ℕ). codes n ≡ true) same (coded refl)) r.bytes
        ) later has
    front_changed false r rest behind coded later has = chosen (is_at page code r) r r rest behind
        (λ here such. such) later has

    -- what is found after a change is such
    pub has_changed : (rs : List RegisterData) → Has (find (is_at page code) rs)
        → Has (find (is_at page code) (changed selected codes change rs))
    has_changed [] has = absurd (cc (has.1))
    has_changed (r ∷ rs) has =
        front_changed (codes r.code && reaches selected r.page) r (find (is_at page code) rs)
        (find (is_at page code) (changed selected codes change rs))
        (λ hit. (and_parts (codes r.code) (reaches selected r.page) hit).0)
        (has_changed rs) has

-- to clear bits keeps the number of bytes
cleared_length : (written bytes : List ℕ) → length (cleared_bits written bytes) ≡ length bytes
cleared_length written [] = refl
cleared_length [] (byte ∷ bytes) = refl
cleared_length (mask ∷ masks) (byte ∷ bytes) = omega (arith, cleared_length masks bytes)

-- ---- a write at another address

-- data that a command takes are of the form in which it is written
form_of_data : (o : Option Form) (n : ℕ) → takes_data o n ≡ true
    → (form : Form) × (o ≡ Some form) × form_of.Takes form n
form_of_data None n is = absurd (cc is)
form_of_data (Some Zero) n is = (Zero, refl, eqb-true n 0 is)
form_of_data (Some One) n is = (One, refl, eqb-true n 1 is)
form_of_data (Some Two) n is = (Two, refl, eqb-true n 2 is)
form_of_data (Some Four) n is = (Four, refl, eqb-true n 4 is)
form_of_data (Some Eight) n is = (Eight, refl, eqb-true n 8 is)
form_of_data (Some Block) n is = (Block, refl, leb-true n 255 is)

-- ---- a write of PAGE

-- one byte
one_of : (bytes : List ℕ) → length bytes ≡ 1 → (byte : ℕ) × (bytes ≡ byte ∷ [])
one_of [] is = absurd (omega arith)
one_of (byte ∷ []) is = (byte, refl)
one_of (byte ∷ next ∷ more) is = absurd (omega arith)

-- the code and the page, and what follows
starts_so : (with_pec : Bool) (front : List ℕ) (page : ℕ)
    → (rest : List ℕ) × (checked with_pec front (0x00 ∷ page ∷ []) ≡ 0x00 ∷ page ∷ rest)
starts_so false front page = ([], refl)
starts_so true front page = (_, refl)

module _ (device : DeviceParts) (page : ℕ) where
  -- What a write has that a device has: data of the form in which the command is written, and for PAGE a page of
  -- the device, or all.
  pub record HasWrite (code : ℕ) (content : List ℕ) : Type 0 where
    pub form : Form
    pub written : (forms device code).write ≡ Some form
    pub fitting : form_of.Takes form (length content)
    pub selects : code ≡ 0x00 → (selected_by page content < device.pages) ⊎ (selected_by page content ≡ all_pages)

  own_page_selected : (content : List ℕ) → is_own_page device content ≡ true
      → (selected_by page content < device.pages) ⊎ (selected_by page content ≡ all_pages)
  own_page_selected [] is = absurd (cc is)
  own_page_selected (own ∷ bytes) is =
      elim (or_cases (nat_lt own device.pages) (nat_eq own all_pages) is) [
        | inl within ↦ inl (ltb-true own device.pages within)
        | inr all ↦ inr (eqb-true own all_pages all)
      ]

  pub has_write_so : (code : ℕ) (content : List ℕ) → has_write device code content ≡ true → HasWrite code content
  has_write_so code content has =
      let both = and_parts (takes_data (forms device code).write (length content))
      (not (nat_eq code 0x00) || is_own_page device content) has in
      let data_form = form_of_data (forms device code).write (length content) both.0 in
      record {
        form = data_form.0;
        written = data_form.1;
        fitting = data_form.2;
        selects = λ zero. own_page_selected content
            (ap (λ (b : Bool). not b || is_own_page device content) (sym (eq-eqb code 0x00 zero)) ∙ both.1);
      }

module _ (device : DeviceParts) where
  -- one of two states
  if_fits : (test : Bool) (x y : DeviceState) → (test ≡ true → IsState device x) → (test ≡ false → IsState device y)
      → IsState device (cond test x y)
  if_fits true x y here there = here refl
  if_fits false x y here there = there refl

  module _ (before : DeviceState) (fits : IsState device before) where
    -- ---- what changes a state

    -- registers change, and a page is selected
    changed_fits : (page : ℕ) → (page < device.pages) ⊎ (page ≡ all_pages)
        → (codes : ℕ → Bool) (change : List ℕ → List ℕ)
        → ((code : ℕ) (command : CommandParts) (form : Form) → command_with code device.commands ≡ Some command
        → register_form command.entry.shape ≡ Some form → codes code ≡ true → (bytes : List ℕ)
        → form_of.Takes form (length bytes)
        → form_of.Takes form (length (change bytes)))
        → IsState device (record { page = page; registers = changed before.page codes change before.registers })
    changed_fits page valid codes change stays = record {
      page = valid;
      holds = λ code at command form is register there.
          let old = fits.holds code at command form is register there in
          let new =
          has_changed at code (λ bytes. form_of.Takes form (length bytes)) before.page codes change
          (stays code command form is register)
          before.registers (old.bytes, old.held_is, old.taken) in
          record { bytes = new.0; held_is = new.1; taken = new.2 };
    }

    -- registers change, and keep their lengths
    kept_fits : (codes : ℕ → Bool) (change : List ℕ → List ℕ)
        → ((bytes : List ℕ) → length (change bytes) ≡ length bytes)
        → IsState device (record { page = before.page; registers = changed before.page codes change before.registers })
    kept_fits codes change long =
        changed_fits before.page fits.page codes change
        (λ code command form is register coded bytes taken. subst (form_of.Takes form) (sym (long bytes)) taken)

    -- a bit of STATUS_CML is set
    bit_fits : (bit : CmlBit) → IsState device (with_bit device bit before)
    bit_fits bit =
        let set : List ℕ → List ℕ = map (λ (byte : ℕ). bit_or byte (bit_value bit)) in
        -- 0x7e is STATUS_CML
        if_fits (is_some (forms device 0x7e).read)
        (record { page = before.page; registers = changed before.page (nat_eq 0x7e) set before.registers }) before
        (λ some. kept_fits (nat_eq 0x7e) set (λ bytes. length-map bytes (λ (byte : ℕ). bit_or byte (bit_value bit))))
        (λ none. fits)

    -- or none is
    noted_fits : (bit : Option CmlBit) → IsState device (with_noted device bit before)
    noted_fits None = fits
    noted_fits (Some bit) = bit_fits bit

    -- ---- a write

    -- The value of PAGE that a write selects is a page of the device, or all.
    abbrev SelectsPage : ℕ → List ℕ → Type 0
    SelectsPage code content = code ≡ 0x00
        → (selected_by before.page content < device.pages) ⊎ (selected_by before.page content ≡ all_pages)

    module _ (accepted : IsDevice device) (code : ℕ) (content : List ℕ) (write : Form)
        (written : (forms device code).write ≡ Some write) (fitting : form_of.Takes write (length content)) where
      -- the register of the code takes the data
      data_taken : same_form write Zero ≡ false → (other : ℕ) (command : CommandParts) (form : Form)
          → command_with other device.commands ≡ Some command → register_form command.entry.shape ≡ Some form
          → nat_eq code other ≡ true
          → (bytes : List ℕ) → form_of.Takes form (length bytes) → form_of.Takes form (length content)
      data_taken some other command form known register same bytes taken =
          -- the write of this register's code
          let code_is : code ≡ other = eqb-true code other same in
          let here : command.entry.shape.write ≡ Some write =
          ap (λ (o : Option CommandParts). (shape_of o).write) (sym known) ∙ ap (λ (n : ℕ). (forms device n).write)
          (sym code_is) ∙ written in
          -- it is written in the register's form, since both ways agree
          let agree = (command_is device accepted other command known).entry.fitting.one_form in
          let form_is : form ≡ write = written_register command.entry.shape write form here some agree register in
          subst (λ (f : Form). form_of.Takes f (length content)) (sym form_is) fitting

      -- PAGE is written with one byte
      page_one : code ≡ 0x00 → write ≡ One
      page_one page = page_form device write accepted
          (subst (λ (n : ℕ). (forms device n).write ≡ Some write) page written)

      -- What a complete write makes of the state fits, where it is enabled,
      enabled_fits : SelectsPage code content → IsState device (after_enabled device code content before)
      enabled_fits selects =
          -- PAGE, whose code is 00h: its value is selected, and its register holds it
          if_fits (nat_eq code 0x00) _ _
          (
          λ page.
          let zero : code ≡ 0x00 = eqb-true code 0x00 page in
          let some : same_form write Zero ≡ false = ap (λ (f : Form). same_form f Zero) (page_one zero) in
          changed_fits (selected_by before.page content) (selects zero) (nat_eq code) (λ old. content)
          (data_taken some)
          )
          (
          λ other.
          -- CLEAR_FAULTS, whose code is 03h: status registers become 0
          if_fits (nat_eq code 0x03) _ _ (λ clear. kept_fits (is_status device) (map (λ byte. 0))
          (λ bytes. length-map bytes (λ (byte : ℕ). 0)))
          (
          λ neither.
          -- a command without data changes nothing
          if_fits (is_form Zero (forms device code).write) before _ (λ zero. fits)
          (
          λ form.
          let some : same_form write Zero ≡ false =
          flip_zero write (subst (λ (o : Option Form). is_form Zero o ≡ false) written form) in
          -- a status register: bits are cleared
          if_fits (is_status device code) _ _ (λ status. kept_fits (nat_eq code) (cleared_bits content)
          (cleared_length content))
          -- any other register takes the data
          (λ plain. changed_fits before.page fits.page (nat_eq code) (λ old. content) (data_taken some))
          )
          )
          )

      -- and where it may be disabled: then a bit of STATUS_CML is set.
      write_fits : SelectsPage code content → IsState device (after_write device code content before)
      write_fits selects =
          if_fits (is_enabled device before code content) (after_enabled device code content before)
          (with_bit device BadValue before)
          (λ enabled. enabled_fits selects)
          (λ disabled. bit_fits BadValue)

    -- A page that the device took in its own leg is one of its pages, or all.
    page_selected : IsDevice device → (code : ℕ) (content : List ℕ) (with_pec : Bool) (body : List ℕ)
        → WriteBody device code content with_pec body
        → (place : LegPlace) → TakesAll device place [] body → SelectsPage code content
    page_selected accepted code content with_pec body is place taken page =
        let one = page_one accepted code content is.form is.written is.fits.taken page in
        let only = one_of content (subst (λ (f : Form). form_of.Takes f (length content)) one is.fits.taken) in
        let front = write_address device.address ∷ [] in
        let wired : wire is.form content ≡ only.0 ∷ [] = ap (λ (f : Form). wire f content) one ∙ only.1 in
        let starts = starts_so with_pec front only.0 in
        let split : body ≡ 0x00 ∷ only.0 ∷ starts.0 =
        is.spelled ∙ ap (λ (n : ℕ). checked with_pec front (n ∷ wire is.form content)) page
        ∙ ap (λ (bs : List ℕ). checked with_pec front (0x00 ∷ bs)) wired ∙ starts.1 in
        let here : TakesAll device place [] (0x00 ∷ only.0 ∷ starts.0) =
        subst (TakesAll device place []) split taken in
        subst (λ (bs : List ℕ). (selected_by before.page bs < device.pages)
        ⊎ (selected_by before.page bs ≡ all_pages)) (sym only.1)
        (here.1.0.page refl)

    -- So what came to another address, too, keeps a state fitting.
    pub other_fits : IsDevice device → (code : ℕ) (content : List ℕ)
        → IsState device (after_other device code content before)
    other_fits accepted code content =
        if_fits (has_write device code content) (after_write device code content before) before
        (
        λ has.
        let such = has_write_so device before.page code content has in
        write_fits accepted code content such.form such.written such.fitting such.selects
        )
        (λ none. fits)

    -- ---- STOP

    module _ (accepted : IsDevice device) (after : DeviceState) where
      -- a write acts, or nothing does
      acts_fit : (place : LegPlace) (bytes : List ℕ) → TakesAll device place [] bytes → Acts device bytes before after
          → IsState device after
      acts_fit place bytes taken (writes code content with_pec body same) =
          subst (IsState device) (sym same)
          (write_fits accepted code content body.form body.written body.fits.taken
          (page_selected accepted code content with_pec bytes body place taken))
      acts_fit place bytes taken (no_write none same) = subst (IsState device) (sym same) fits

      -- a refusal to be read is noted, or nothing is
      notes_fit : (earlier : List Leg) (bytes : List ℕ) (behind : List Leg)
          → NotesAnswer device earlier bytes behind before after → IsState device after
      notes_fit earlier bytes behind (asked first request next more split read same) =
          subst (IsState device) (sym same) (noted_fits _)
      notes_fit earlier bytes behind (not_asked none same) = subst (IsState device) (sym same) fits

      -- so is a byte that was refused
      refuses_fit : (place : LegPlace) (bytes : List ℕ) → Refuses device place bytes before after → IsState device after
      refuses_fit place bytes refusal = elim refusal.noted [
        | inl w ↦ subst (IsState device) (sym w.1) (noted_fits _)
        | inr w ↦ subst (IsState device) (sym w.1) fits
      ]

      -- a leg all of whose bytes were taken
      taken_fits : (place : LegPlace) (read : Bool) (earlier : List Leg) (bytes : List ℕ) (behind : List Leg)
          → TakesAll device place [] bytes
          → ReadOrActs device read earlier bytes behind before after → IsState device after
      taken_fits place true earlier bytes behind taken ends = notes_fit earlier bytes behind ends
      taken_fits place false earlier bytes behind taken ends = acts_fit place bytes taken ends

      -- the device's own leg
      own_fits : (earlier : List Leg) (bytes : List ℕ) (behind : List Leg)
          → OwnLegEnds device earlier bytes behind before after → IsState device after
      own_fits earlier bytes behind ends = elim ends [
        | inl w ↦ taken_fits (leg_place earlier) (some_is_to (read_address device.address) behind) earlier bytes behind
            w.0 w.1
        | inr w ↦ refuses_fit (leg_place earlier) bytes w.1
      ]

      -- all legs
      legs_fit : (legs : List Leg) → LegsEnd device legs before after → IsState device after
      legs_fit legs (own_leg bytes own ends) = own_fits own.earlier bytes own.behind ends
      legs_fit legs (no_leg none same) = subst (IsState device) (sym same) fits

-- What its own leg makes of a state that fits, fits.
end_fits : (device : DeviceParts) (legs : Legs) (before after : DeviceState) → IsDevice device
    → IsState device before
    → Ends device legs before after → IsState device after
end_fits device Outside before after accepted fits same = subst (IsState device) (sym same) fits
end_fits device (Inside earlier leg) before after accepted fits ends = legs_fit device before fits accepted after
    (earlier ++ leg ∷ []) ends

-- So does what came to other addresses,
at_fits : (device : DeviceParts) (accepted : IsDevice device) (address : ℕ) (written : Option PartData)
    (before : DeviceState) → IsState device before → IsState device (after_at device address written before)
at_fits device accepted address None before fits = fits
at_fits device accepted address (Some part) before fits =
    if_fits device (nat_eq address device.address) before (after_other device part.code part.bytes before)
    (λ own. fits) (λ other. other_fits device before fits accepted part.code part.bytes)

each_fits : (bus : List DeviceParts) (legs : Legs) (device : DeviceParts) (accepted : IsDevice device) (also : List ℕ)
    (before after : DeviceState) → IsState device before → TakesEach bus legs device also before after
    → IsState device after
each_fits bus legs device accepted [] before after fits same = subst (IsState device) (sym same) fits
each_fits bus legs device accepted (address ∷ also) before after fits takes =
    each_fits bus legs device accepted also takes.0 after
    (subst (IsState device) (sym takes.1.after_is) (at_fits device accepted address takes.1.written before fits))
    takes.2

-- and so what STOP makes of it on a bus.
pub ends_fit : (bus : List DeviceParts) (device : DeviceParts) (legs : Legs) (before after : DeviceState)
    → IsDevice device → IsState device before → EndsOn bus legs device before after → IsState device after
ends_fit bus device legs before after accepted fits ends =
    each_fits bus legs device accepted device.also ends.between after
    (end_fits device legs before ends.between accepted fits ends.own) ends.others
