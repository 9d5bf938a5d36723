-- What a look-up in a profile finds: the device has the address, and what is read or called has
-- data. For `addressed`, `called` and `unread`. What passes a search's test, and what holds of each
-- element, holds of the one that is found.
use Rattle.std.proofs.Common.{◌≡◌, ℕ, Bool, true, false, Option, Some, None, List, [], ◌∷◌, nat_eq, refl, sym, ap}
use Rattle.std.proofs.Common.{subst, ◌∙◌, arith}
use Rattle.std.specs.Prelude.{◌*◌, ◌/◌, ◌%◌, IfSome, cond, option_map}
use Rattle.std.specs.List.{find, AllByRecursion}
use Rattle.std.proofs.lemmas.Bool.{eqb-true}
use Rattle.std.proofs.lemmas.Option.{same_Some}
use Rattle.pmb_command.specs.declared.form.Form.{Form}
use Rattle.pmb_command.specs.declared.form.Form.TheVariants.{Zero}
use Rattle.pmb_command.specs.Entry.{EntryParts}
use Rattle.pmb_command.specs.Bus.{IsBus, IsCommand, IsDevice}
use Rattle.pmb_command.specs.Fitting.{calls_fit, reads_data}
use Rattle.pmb_command.specs.Parts.{CommandParts, DeviceParts, command_with, device_with}
use Rattle.pmb_transaction.specs.Body.{forms, shape_of}

either : {X : Type 0} (P : X → Type 0) (test : Bool) (y x : X) (rest : Option X) → (test ≡ true → P y)
    → (rest ≡ Some x → P x)
    → cond test (Some y) rest ≡ Some x → P x
either P true y x rest first later is = subst P (same_Some y x is) (first refl)
either P false y x rest first later is = later is

-- it passes the test
passes : {X : Type 0} (test : X → Bool) (xs : List X) (x : X) → find test xs ≡ Some x → test x ≡ true
passes test [] x is = cc is
passes test (y ∷ xs) x is = either (λ z. test z ≡ true) (test y) y x (find test xs) (λ here. here)
    (λ later. passes test xs x later) is

-- what holds of each holds of it
of_found : {X : Type 0} (P : X → Type 0) (test : X → Bool) (xs : List X) (x : X) → AllByRecursion P xs
    → find test xs ≡ Some x → P x
of_found P test [] x each is = cc is
of_found P test (y ∷ xs) x each is = either P (test y) y x (find test xs) (λ _. each.0)
    (λ later. of_found P test xs x each.1 later) is

-- the device with an address has it
pub address_of_found : (address : ℕ) (profile : List DeviceParts) (device : DeviceParts)
    → device_with address profile ≡ Some device → device.address ≡ address
address_of_found address profile device is =
    eqb-true device.address address (passes (λ (d : DeviceParts). nat_eq d.address address) profile device is)

-- the device of an address byte
pub addressed : {X : Type 0} (profile : List DeviceParts) (to_write : ℕ) (found : Option X) (view : X → DeviceParts)
    → to_write % 2 ≡ 0
    → option_map view found ≡ device_with (to_write / 2) profile
    → IfSome found (λ device. (to_write ≡ 2 * (view device).address)
    × (device_with (view device).address profile ≡ Some (view device)))
addressed profile to_write None view even is = tt
addressed profile to_write (Some device) view even is =
    let own : (view device).address ≡ to_write / 2 = address_of_found (to_write / 2) profile (view device) (sym is) in
    (omega (arith, own, even), ap (λ (a : ℕ). device_with a profile) own ∙ sym is)

-- ---- what is read has data, and what is called

-- no data are read in the form without any
has_data : (form : Form) → reads_data (Some form) ≡ true → form ≡ Zero → ⊥
has_data form reads none =
    let no_data : reads_data (Some Zero) ≡ true = ap (λ (f : Form). reads_data (Some f)) (sym none) ∙ reads in
    cc no_data

-- and no call is made in it
sends_data : (form : Form) → calls_fit (Some form) ≡ true → form ≡ Zero → ⊥
sends_data form calls none =
    let no_data : calls_fit (Some Zero) ≡ true = ap (λ (f : Form). calls_fit (Some f)) (sym none) ∙ calls in
    cc no_data

read_of : (command : Option CommandParts) (form : Form) → ((c : CommandParts) → command ≡ Some c → IsCommand c)
    → (shape_of command).read ≡ Some form
    → form ≡ Zero → ⊥
read_of None form each read none = cc read
read_of (Some command) form each read none =
    has_data form (ap reads_data (sym read) ∙ (each command refl).entry.fitting.read_data) none

call_of : (command : Option CommandParts) (form : Form) → ((c : CommandParts) → command ≡ Some c → IsCommand c)
    → (shape_of command).call ≡ Some form
    → form ≡ Zero → ⊥
call_of None form each call none = cc call
call_of (Some command) form each call none =
    sends_data form (ap calls_fit (sym call) ∙ (each command refl).entry.fitting.call_form) none

-- a device's command is one that a device may have
command_of : (profile : List DeviceParts) (address code : ℕ) (device : DeviceParts) → IsBus profile
    → device_with address profile ≡ Some device
    → (c : CommandParts) → command_with code device.commands ≡ Some c → IsCommand c
command_of profile address code device bus known command is =
    let accepted = of_found IsDevice (λ (d : DeviceParts). nat_eq d.address address) profile device bus.devices known in
    of_found IsCommand (λ (c : CommandParts). nat_eq c.entry.code code) device.commands command accepted.commands is

pub read_has_data : (profile : List DeviceParts) (address code : ℕ) (device : DeviceParts) (form : Form) → IsBus profile
    → device_with address profile ≡ Some device → (forms device code).read ≡ Some form → form ≡ Zero → ⊥
read_has_data profile address code device form bus known read none =
    read_of (command_with code device.commands) form (command_of profile address code device bus known) read none

pub call_has_data : (profile : List DeviceParts) (address code : ℕ) (device : DeviceParts) (form : Form) → IsBus profile
    → device_with address profile ≡ Some device → (forms device code).call ≡ Some form → form ≡ Zero → ⊥
call_has_data profile address code device form bus known call none =
    call_of (command_with code device.commands) form (command_of profile address code device bus known) call none

call_of_entry : (command : Option CommandParts) (entry : EntryParts) (form : Form)
    → Some entry ≡ option_map (λ c. c.entry) command
    → entry.shape.call ≡ Some form → (shape_of command).call ≡ Some form
call_of_entry None entry form is call = cc is
call_of_entry (Some command) entry form is call = ap (λ (e : EntryParts). e.shape.call)
    (sym (same_Some entry command.entry is)) ∙ call

-- the form in which a device's command is called, by its entry
pub call_form : (device : DeviceParts) (code : ℕ) (entry : EntryParts) (form : Form)
    → Some entry ≡ option_map (λ c. c.entry) (command_with code device.commands)
    → entry.shape.call ≡ Some form → (forms device code).call ≡ Some form
call_form device code entry form is call = call_of_entry (command_with code device.commands) entry form is call

write_of_entry : (command : Option CommandParts) (entry : EntryParts) (form : Form)
    → Some entry ≡ option_map (λ c. c.entry) command
    → entry.shape.write ≡ Some form → (shape_of command).write ≡ Some form
write_of_entry None entry form is write = cc is
write_of_entry (Some command) entry form is write = ap (λ (e : EntryParts). e.shape.write)
    (sym (same_Some entry command.entry is)) ∙ write

-- and that in which it is written
pub write_form : (device : DeviceParts) (code : ℕ) (entry : EntryParts) (form : Form)
    → Some entry ≡ option_map (λ c. c.entry) (command_with code device.commands)
    → entry.shape.write ≡ Some form → (forms device code).write ≡ Some form
write_form device code entry form is write = write_of_entry (command_with code device.commands) entry form is write
