-- What an accepted profile says of a device or a command that is found in it: a bus may have it, it
-- has the address or the code, its code is a byte, and what is read or called has data. For
-- `Context::new` of `pmb_note`, `append_check` of `pmb_json_objects`, and each proof that goes from
-- a packet to its device. What holds of each element of a list holds of the one that is found.
use Rattle.std.proofs.Common.{◌≡◌, ℕ, ◌<◌, Bool, true, false, not, cond, Option, Some, None, List, [], ◌∷◌, nat_eq}
use Rattle.std.proofs.Common.{refl, subst}
use Rattle.std.specs.List.{AllByRecursion, find}
use Rattle.std.proofs.lemmas.Bool.{eqb-true}
use Rattle.std.proofs.lemmas.Option.{none-some, same_Some}
use Rattle.pmb_command.specs.declared.form.Form.{Form}
use Rattle.pmb_command.specs.declared.form.Form.TheVariants.{Zero, One, Two, Four, Eight, Block}
use Rattle.pmb_command.specs.declared.form.Shape.{Shape}
use Rattle.pmb_command.specs.Bus.{IsBus, IsCommand, IsDevice}
use Rattle.pmb_command.specs.Fitting.{calls_fit, reads_data, same_form}
use Rattle.pmb_command.specs.Parts.{CommandParts, DeviceParts, command_with, device_with}
use Rattle.pmb_transaction.specs.Body.{forms, shape_of}

-- ---- what a search finds

found_here : {X : Type 0} (P : X → Type 0) (b : Bool) (x : X) (o : Option X) (y : X) → P x → (o ≡ Some y → P y)
    → cond b (Some x) o ≡ Some y → P y
found_here P true x o y here later found = subst P (same_Some x y found) here
found_here P false x o y here later found = later found

-- what each element is, the one that is found is
found_is : {X : Type 0} (P : X → Type 0) (test : X → Bool) (xs : List X) (x : X) → AllByRecursion P xs
    → find test xs ≡ Some x → P x
found_is P test [] x each found = absurd (none-some x found)
found_is P test (y ∷ ys) x each found = found_here P (test y) y (find test ys) x each.0
    (λ later. found_is P test ys x each.1 later) found

found_passes_here : {X : Type 0} (test : X → Bool) (b : Bool) (x : X) (o : Option X) (y : X) → test x ≡ b
    → (o ≡ Some y → test y ≡ true)
    → cond b (Some x) o ≡ Some y → test y ≡ true
found_passes_here test true x o y is later found = subst (λ z. test z ≡ true) (same_Some x y found) is
found_passes_here test false x o y is later found = later found

-- what is found passes the test
found_passes : {X : Type 0} (test : X → Bool) (xs : List X) (x : X) → find test xs ≡ Some x → test x ≡ true
found_passes test [] x found = absurd (none-some x found)
found_passes test (y ∷ ys) x found = found_passes_here test (test y) y (find test ys) x refl
    (λ later. found_passes test ys x later) found

-- ---- devices and their commands

-- a device that is found in an accepted profile is one that a bus may have, and has the address
pub device_is : (profile : List DeviceParts) (addr : ℕ) (device : DeviceParts) → IsBus profile
    → device_with addr profile ≡ Some device
    → IsDevice device × (device.address ≡ addr)
device_is profile addr device bus known = (
  found_is IsDevice (λ d. nat_eq d.address addr) profile device bus.devices known,
  eqb-true device.address addr (found_passes (λ (d : DeviceParts). nat_eq d.address addr) profile device known),
)

-- so is a command that is found
pub command_is : (device : DeviceParts) (code : ℕ) (command : CommandParts) → IsDevice device
    → command_with code device.commands ≡ Some command
    → IsCommand command × (command.entry.code ≡ code)
command_is device code command is listed = (
  found_is IsCommand (λ c. nat_eq c.entry.code code) device.commands command is.commands listed,
  eqb-true command.entry.code code (found_passes (λ (c : CommandParts). nat_eq c.entry.code code) device.commands
      command listed),
)

-- a way in which a command goes over the bus
abbrev pub Way : Type 0
Way = Shape → Option Form

-- where a command code has a form, there is a command with it
of_command : (way : Way) (o : Option CommandParts) (form : Form) → way (shape_of None) ≡ None
    → way (shape_of o) ≡ Some form
    → (command : CommandParts) × (o ≡ Some command) × (way command.entry.shape ≡ Some form)
of_command way None form without has = absurd (none-some form (cc (without, has)))
of_command way (Some command) form without has = (command, refl, has)

-- a code with a form is a byte
pub code_is_byte : (way : Way) (device : DeviceParts) (code : ℕ) (form : Form) → way (shape_of None) ≡ None
    → IsDevice device
    → way (forms device code) ≡ Some form → code < 256
code_is_byte way device code form without is has =
    let command = of_command way (command_with code device.commands) form without has in
    let known = command_is device code command.0 is command.1 in
    subst (λ (n : ℕ). n < 256) known.1 known.0.entry.byte

-- what is not so is false
not_so : (b : Bool) → not b ≡ true → b ≡ false
not_so true is = cc is
not_so false is = refl

-- what can be called has data
called_not_zero : (form : Form) → calls_fit (Some form) ≡ true → same_form form Zero ≡ false
called_not_zero Zero fits = cc fits
called_not_zero One fits = refl
called_not_zero Two fits = refl
called_not_zero Four fits = refl
called_not_zero Eight fits = refl
called_not_zero Block fits = refl

-- what is read has data
pub read_has_data : (device : DeviceParts) (code : ℕ) (form : Form) → IsDevice device
    → (forms device code).read ≡ Some form
    → same_form form Zero ≡ false
read_has_data device code form is has =
    let command = of_command (λ (s : Shape). s.read) (command_with code device.commands) form refl has in
    let known = command_is device code command.0 is command.1 in
    not_so (same_form form Zero) (subst (λ (o : Option Form). reads_data o ≡ true) command.2
    known.0.entry.fitting.read_data)

-- what is called has data
pub call_has_data : (device : DeviceParts) (code : ℕ) (form : Form) → IsDevice device
    → (forms device code).call ≡ Some form
    → same_form form Zero ≡ false
call_has_data device code form is has =
    let command = of_command (λ (s : Shape). s.call) (command_with code device.commands) form refl has in
    let known = command_is device code command.0 is command.1 in
    called_not_zero form (subst (λ (o : Option Form). calls_fit o ≡ true) command.2 known.0.entry.fitting.call_form)
