-- The answer to a read or a call is as long as its form takes, and the body is of that form alone.
-- For the law `replies_are_answers`. A read is answered with its register, which the state fits;
-- of calls COEFFICIENTS alone is answered, with five bytes, and it is called with a block.
use Rattle.std.proofs.Common.{◌≡◌, ℕ, ◌<◌, ◌⊎◌, inl, inr, Bool, true, false, not, ◌&&◌, Option, Some, None, Result, Ok}
use Rattle.std.proofs.Common.{Err, cond, is_some, List, [], ◌∷◌, ◌++◌, length, take, nat_eq, refl, sym, ap, subst, ◌∙◌}
use Rattle.std.proofs.Common.{arith}
use Rattle.std.specs.Option.{unwrap_or}
use Rattle.std.proofs.lemmas.Bool.{eqb-true, eq-eqb}
use Rattle.std.proofs.lemmas.List.{take_at}
use Rattle.std.proofs.lemmas.Option.{same_Some}
use Rattle.pmb_command.specs.declared.form.Form.{Form}
use Rattle.pmb_command.specs.declared.form.Form.TheVariants.{Zero, One, Two, Four, Eight, Block}
use Rattle.pmb_command.specs.Bus.{IsDevice}
use Rattle.pmb_command.specs.Fitting.{calls_fit, is_kept, reads_data, register_form, same_form}
use Rattle.pmb_command.specs.Parts.{CommandParts, DeviceParts, command_with}
use Rattle.pmb_command.specs.Wire.{Fits, Takes, wire}
use Rattle.pmb_transaction.specs.Body.{IsFormOfRequest, forms}
use Rattle.pmb_registers.specs.declared.cml_bit.CmlBit.{CmlBit}
use Rattle.pmb_registers.specs.declared.cml_bit.CmlBit.TheVariants.{BadCommand, BadValue}
use Rattle.pmb_registers.specs.Answer.{all_pages, answer, answer_coefficients, coefficient_bytes, coefficients_of}
use Rattle.pmb_registers.specs.Answer.{coefficients_reply, is_paged}
use Rattle.pmb_registers.specs.State.{DeviceState, held}
use Rattle.pmb_devices.specs.Replies.{IsState}
use Rattle.pmb_devices.proofs.Commands.{coefficients_kept, command_code, command_is, command_of, kept_at, kept_is}
use Rattle.pmb_devices.proofs.Commands.{read_register}

-- ---- data before others

-- as many bytes in front are the same
front_is : (n : ℕ) (a b behind more : List ℕ) → length a ≡ n → length b ≡ n → a ++ behind ≡ b ++ more → a ≡ b
front_is n a b behind more long also same = sym (take_at a behind n long) ∙ ap (take n) same ∙ take_at b more n also

-- Wires of one form that begin alike are of the same data.
pub wire_front : (form : Form) (a b behind more : List ℕ) → Takes form (length a) → Takes form (length b)
    → wire form a ++ behind ≡ wire form b ++ more → a ≡ b
wire_front Zero a b behind more long also same = front_is 0 a b behind more long also same
wire_front One a b behind more long also same = front_is 1 a b behind more long also same
wire_front Two a b behind more long also same = front_is 2 a b behind more long also same
wire_front Four a b behind more long also same = front_is 4 a b behind more long also same
wire_front Eight a b behind more long also same = front_is 8 a b behind more long also same
wire_front Block a b behind more long also same =
    let count : length a ≡ length b = cc same in
    let rest : a ++ behind ≡ b ++ more = cc same in
    front_is (length b) a b behind more count refl rest

-- ---- the form of a body

-- a call sends some byte
no_empty_call : (form : Form) (content : List ℕ) → calls_fit (Some form) ≡ true → Takes form (length content)
    → wire form content ≡ [] → ⊥
no_empty_call Zero content fits taken none = cc fits
no_empty_call One content fits taken none = cc fits
no_empty_call Two [] fits taken none = omega arith
no_empty_call Two (b ∷ content) fits taken none = cc none
no_empty_call Four content fits taken none = cc fits
no_empty_call Eight content fits taken none = cc fits
no_empty_call Block content fits taken none = cc none

module _ (device : DeviceParts) (accepted : IsDevice device) where
  -- what is called sends some byte
  call_sends : (code : ℕ) (form : Form) (content : List ℕ) → (forms device code).call ≡ Some form → Fits form content
      → wire form content ≡ [] → ⊥
  call_sends code form content called fits none =
      let found = command_of device (λ s. s.call) code form refl called in
      let fitting = (command_is device accepted code found.0 found.1).entry.fitting.call_form in
      no_empty_call form content (subst (λ (o : Option Form). calls_fit o ≡ true) found.2 fitting) fits.taken none

  -- a read is answered in the form in which it is read
  pub read_form : (code : ℕ) (form : Form) → (forms device code).read ≡ Some form → (other : Form)
      → IsFormOfRequest device other (code ∷ [])
      → other ≡ form
  read_form code form is other (inl (n, body)) =
      let same : n ≡ code = cc (body.spelled) in
      same_Some other form (sym body.read ∙ ap (λ (c : ℕ). (forms device c).read) same ∙ is)
  read_form code form is other (inr (n, content, body)) =
      let none : wire other content ≡ [] = cc (body.spelled) in
      absurd (call_sends n other content body.called body.fits none)

  -- and a call in the form in which it is called
  pub call_form : (code : ℕ) (form : Form) (content : List ℕ) → (forms device code).call ≡ Some form → Fits form content
      → (other : Form)
      → IsFormOfRequest device other (code ∷ wire form content) → other ≡ form
  call_form code form content is fits other (inl (n, body)) =
      let none : wire form content ≡ [] = cc (body.spelled) in
      absurd (call_sends code form content is fits none)
  call_form code form content is fits other (inr (n, others, body)) =
      let same : n ≡ code = cc (body.spelled) in
      same_Some other form (sym body.called ∙ ap (λ (c : ℕ). (forms device c).call) same ∙ is)

-- ---- the answer to a read

-- where it is not refused, it is what the register holds
read_parts : (refused : Bool) (bytes reply : List ℕ) → cond refused (Err BadValue) (Ok bytes) ≡ Ok reply
    → (refused ≡ false) × (bytes ≡ reply)
read_parts true bytes reply is = absurd (cc is)
read_parts false bytes reply is = (refl, cc is)

-- of three tests of which not all hold, and two do, the third does not
paged_is : (here paged some : Bool) → here ≡ true → some ≡ true → (here && (paged && some)) ≡ false → paged ≡ false
paged_is here true some is also none = absurd (cc (is, also, none))
paged_is here false some is also none = refl

-- what is read has data
some_data : (form : Form) → not (same_form form Zero) ≡ true → same_form Zero form ≡ false
some_data Zero is = absurd (cc is)
some_data One is = refl
some_data Two is = refl
some_data Four is = refl
some_data Eight is = refl
some_data Block is = refl

module _ (device : DeviceParts) (accepted : IsDevice device) (state : DeviceState) where
  -- The answer to a read is as long as the form takes.
  pub read_taken : (code : ℕ) (form : Form) → (forms device code).read ≡ Some form → IsState device state
      → (reply : List ℕ)
      → answer device state (code ∷ []) ≡ Ok reply → Takes form (length reply)
  read_taken code form is fits reply ok =
      -- the command, which is read in this form
      let found = command_of device (λ s. s.read) code form refl is in
      let command = found.0 in
      let entry = (command_is device accepted code command found.1).entry in
      -- so it has a register in that form
      let some : same_form Zero form ≡ false =
      some_data form (subst (λ (o : Option Form). reads_data o ≡ true) found.2 entry.fitting.read_data) in
      let register : register_form command.entry.shape ≡ Some form =
      read_register command.entry.shape form found.2 some in
      -- the answer is what is held on the selected page, if that is not refused
      let parts =
      read_parts (nat_eq state.page all_pages && is_paged (command_with code device.commands))
      (unwrap_or (held state.page code state.registers) []) reply ok in
      let free : (nat_eq state.page all_pages && is_paged (Some command)) ≡ false =
      subst (λ (o : Option CommandParts). (nat_eq state.page all_pages && is_paged o) ≡ false) found.1 parts.0 in
      -- the command has a register there
      let there : (state.page < device.pages) ⊎ (command.entry.paged ≡ false) =
      elim fits.page [
        | inl small ↦ inl small
        | inr all ↦
            inr
            (
            paged_is (nat_eq state.page all_pages) command.entry.paged (is_some (register_form command.entry.shape))
            (eq-eqb state.page all_pages all)
            (ap (λ (o : Option Form). is_some o) register) free
            )
      ] in
      -- which holds as many bytes as the form takes
      let holds = fits.holds code state.page command form found.1 register there in
      let bytes_are : holds.bytes ≡ reply = ap (λ (o : Option (List ℕ)). unwrap_or o []) (sym holds.held_is)
      ∙ parts.1 in
      subst (λ (bs : List ℕ). Takes form (length bs)) bytes_are holds.taken

-- ---- the answer to a call

-- COEFFICIENTS alone is answered, where no page stands against it
call_parts : (refused here : Bool) (r : Result (List ℕ) CmlBit) (reply : List ℕ)
    → cond refused (Err BadValue) (cond here r (Err BadCommand)) ≡ Ok reply
    → (here ≡ true) × (r ≡ Ok reply)
call_parts true here r reply is = absurd (cc is)
call_parts false true r reply is = (refl, is)
call_parts false false r reply is = absurd (cc is)

-- with five bytes
five_bytes : (device : DeviceParts) (code : ℕ) (reply : List ℕ) → coefficients_reply (coefficients_of device code)
    ≡ Ok reply → length reply ≡ 5
five_bytes device code reply is =
    let told : coefficients_reply (coefficients_of device code) ≡ Ok reply → length reply ≡ 5 =
    elim (coefficients_of device code) as (λ o. coefficients_reply o ≡ Ok reply → length reply ≡ 5) [
      | None ↦ λ none. absurd (cc none)
      | Some c ↦
          λ some.
          let same : coefficient_bytes c ≡ reply = cc some in
          ap (λ (bs : List ℕ). length bs) (sym same)
    ] in
    told is

-- whatever bytes are sent
coefficients_five : (device : DeviceParts) (bytes reply : List ℕ) → answer_coefficients device bytes ≡ Ok reply
    → length reply ≡ 5
coefficients_five device [] reply is = absurd (cc is)
coefficients_five device (count ∷ []) reply is = absurd (cc is)
coefficients_five device (count ∷ code ∷ []) reply is = absurd (cc is)
coefficients_five device (count ∷ code ∷ direction ∷ []) reply is = five_bytes device code reply is
coefficients_five device (count ∷ code ∷ direction ∷ more ∷ rest) reply is = absurd (cc is)

-- bytes that are not none have a first one
some_byte : (bytes : List ℕ) → (bytes ≡ [] → ⊥) → (b : ℕ) × (more : List ℕ) × (bytes ≡ b ∷ more)
some_byte [] some = absurd (some refl)
some_byte (b ∷ more) some = (b, more, refl)

module _ (device : DeviceParts) (accepted : IsDevice device) (state : DeviceState) where
  -- COEFFICIENTS is called with a block
  -- 0x30 is COEFFICIENTS
  block_called : (code : ℕ) (form : Form) → (forms device code).call ≡ Some form → code ≡ 0x30 → form ≡ Block
  block_called code form is same =
      let found = command_of device (λ s. s.call) code form refl is in
      let entry = (command_is device accepted code found.0 found.1).entry in
      let code_is : found.0.entry.code ≡ 0x30 = command_code device code found.0 found.1 ∙ same in
      let kept : is_kept found.0.entry.shape.call (Some Block) ≡ true =
      coefficients_kept found.0.entry.shape (kept_at found.0.entry 0x30 code_is refl entry.fitting.fixed) in
      kept_is found.0.entry.shape.call form Block found.2 kept

  -- The answer to a call is as long as the form takes.
  pub called_taken : (code : ℕ) (form : Form) (content : List ℕ) → (forms device code).call ≡ Some form
      → Fits form content → (reply : List ℕ)
      → answer device state (code ∷ wire form content) ≡ Ok reply → Takes form (length reply)
  called_taken code form content is fits reply ok =
      let some = some_byte (wire form content) (call_sends device accepted code form content is fits) in
      let here : answer device state (code ∷ some.0 ∷ some.1) ≡ Ok reply =
      ap (λ (bs : List ℕ). answer device state (code ∷ bs)) (sym some.2) ∙ ok in
      let parts =
      call_parts (nat_eq state.page all_pages && is_paged (command_with code device.commands)) (nat_eq code 0x30)
      (answer_coefficients device (some.0 ∷ some.1)) reply here in
      let block : form ≡ Block = block_called code form is (eqb-true code 0x30 parts.0) in
      let long : length reply ≡ 5 = coefficients_five device (some.0 ∷ some.1) reply parts.1 in
      subst (λ (f : Form). Takes f (length reply)) (sym block) (omega arith)
