-- The command that an accepted device has with a code, and its forms. For the laws `states_fit`
-- and `replies_are_answers`. A command is found by its code and fits the rules of a profile; its
-- register has the form in which it is read, or else that in which it is written, and the
-- standard's commands keep the standard's forms.
use Rattle.std.proofs.Common.{◌≡◌, ℕ, Bool, true, false, ◌&&◌, ◌||◌, Option, Some, None, cond, is_some, nat_eq, refl}
use Rattle.std.proofs.Common.{sym, ap, subst, ◌∙◌}
use Rattle.std.specs.Option.{IfSome}
use Rattle.std.proofs.lemmas.Bool.{and_parts, eqb-true}
use Rattle.std.proofs.lemmas.Option.{same_Some}
use Rattle.pmb_command.specs.declared.form.Form.{Form}
use Rattle.pmb_command.specs.declared.form.Form.TheVariants.{Zero, One, Two, Four, Eight, Block}
use Rattle.pmb_command.specs.declared.form.Shape.{Shape}
use Rattle.pmb_command.specs.Bus.{IsCommand, IsDevice}
use Rattle.pmb_command.specs.Commands.{standard_entries, standard_entry, standard_rows}
use Rattle.pmb_command.specs.Entry.{EntryParts}
use Rattle.pmb_command.specs.Fitting.{are_kept, is_fixed, is_form, is_kept, register_form, same_form, value_form}
use Rattle.pmb_command.specs.Fitting.{ways_agree}
use Rattle.pmb_command.specs.Parts.{CommandParts, DeviceParts, command_with}
use Rattle.pmb_command.proofs.Finding.{find_passes}
use Rattle.pmb_command.proofs.FormLemmas.{same_form-Decides}
use Rattle.pmb_transaction.specs.Body.{forms, shape_of}
use Rattle.pmb_table.proofs.Accepted.{All-find}

-- ---- the command with a code

-- it has that code
pub command_code : (device : DeviceParts) (code : ℕ) (command : CommandParts)
    → command_with code device.commands ≡ Some command
    → command.entry.code ≡ code
command_code device code command is =
    eqb-true command.entry.code code (find_passes (λ c. nat_eq c.entry.code code) device.commands command is)

-- it is one that a device may have
pub command_is : (device : DeviceParts) → IsDevice device → (code : ℕ) (command : CommandParts)
    → command_with code device.commands ≡ Some command
    → IsCommand command
command_is device accepted code command is =
    subst (λ (o : Option CommandParts). IfSome o IsCommand) is
    (All-find IsCommand (λ c. nat_eq c.entry.code code) device.commands accepted.commands)

-- a code that has forms has a command
found_of : (way : Shape → Option Form) (o : Option CommandParts) (form : Form) → way (shape_of None) ≡ None
    → way (shape_of o) ≡ Some form
    → (command : CommandParts) × (o ≡ Some command) × (way command.entry.shape ≡ Some form)
found_of way None form none is = absurd (cc (none, is))
found_of way (Some command) form none is = (command, refl, is)

-- and that command has the form
pub command_of : (device : DeviceParts) (way : Shape → Option Form) (code : ℕ) (form : Form)
    → way (shape_of None) ≡ None
    → way (forms device code) ≡ Some form
    → (command : CommandParts) × (command_with code device.commands ≡ Some command)
    × (way command.entry.shape ≡ Some form)
command_of device way code form none is = found_of way (command_with code device.commands) form none is

-- ---- forms

-- which of two forms is Zero is told either way
pub flip_zero : (form : Form) → same_form Zero form ≡ false → same_form form Zero ≡ false
flip_zero Zero is = is
flip_zero One is = refl
flip_zero Two is = refl
flip_zero Four is = refl
flip_zero Eight is = refl
flip_zero Block is = refl

-- the form of a register is that of its command's value, and not Zero
one_form : (zero : Bool) (value form : Form) → cond zero None (Some value) ≡ Some form → (zero ≡ false) × (value ≡ form)
one_form true value form is = absurd (cc is)
one_form false value form is = (refl, same_Some value form is)

-- a command is read in its register's form, or else written in it
pub data RegisterForm (write read : Option Form) (form : Form) : Type 0 where
  -- it is read in the form
  by_read : read ≡ Some form → same_form Zero form ≡ false → RegisterForm write read form
  -- it is not read, and is written in the form
  by_write : read ≡ None → write ≡ Some form → same_form Zero form ≡ false → RegisterForm write read form

-- one of the two
register_form_in : (write read call : Option Form) (form : Form)
    → register_form (record { write = write; read = read; call = call }) ≡ Some form
    → RegisterForm write read form
register_form_in None None call form is = absurd (cc is)
register_form_in (Some w) None call form is =
    let one = one_form (same_form Zero w) w form is in
    by_write refl (ap (λ (f : Form). Some f) one.1) (subst (λ (f : Form). same_form Zero f ≡ false) one.1 one.0)
register_form_in write (Some r) call form is =
    let one = one_form (same_form Zero r) r form is in
    by_read (ap (λ (f : Form). Some f) one.1) (subst (λ (f : Form). same_form Zero f ≡ false) one.1 one.0)

-- for a shape as a whole
pub register_form_of : (shape : Shape) (form : Form) → register_form shape ≡ Some form
    → RegisterForm shape.write shape.read form
register_form_of shape form is = register_form_in shape.write shape.read shape.call form is

-- a command that is read has a register in that form
pub read_register : (shape : Shape) (form : Form) → shape.read ≡ Some form → same_form Zero form ≡ false
    → register_form shape ≡ Some form
read_register shape form is some =
    let value : value_form shape ≡ Some form = ap (λ (o : Option Form). cond (is_some o) o shape.write) is in
    ap (λ (o : Option Form). cond (is_form Zero o) None o) value ∙ ap (λ (b : Bool). cond b None (Some form)) some

-- two forms that are the same are one
pub same_forms : (form other : Form) → same_form form other ≡ true → form ≡ other
same_forms form other is = (same_form-Decides form other).0 is

-- the form in which a command is written with data is that of its register
written_in : (write other : Form) (read : Option Form) → same_form write Zero ≡ false
    → ways_agree (Some write) read ≡ true
    → RegisterForm (Some write) read other → other ≡ write
written_in write other None some agree (by_read is other_some) = absurd (cc is)
written_in write other None some agree (by_write none is other_some) = sym (same_Some write other is)
written_in write other (Some r) some agree (by_read is other_some) =
    let read_is : r ≡ other = same_Some r other is in
    let here : same_form write r ≡ true = subst (λ (b : Bool). (b || same_form write r) ≡ true) some agree in
    sym (same_forms write r here ∙ read_is)
written_in write other (Some r) some agree (by_write none is other_some) = absurd (cc none)

-- for a shape as a whole
pub written_register : (shape : Shape) (write other : Form) → shape.write ≡ Some write → same_form write Zero ≡ false
    → ways_agree shape.write shape.read ≡ true → register_form shape ≡ Some other → other ≡ write
written_register shape write other is some agree register =
    written_in write other shape.read some (subst (λ (o : Option Form). ways_agree o shape.read ≡ true) is agree)
    (subst (λ (o : Option Form). RegisterForm o shape.read other) is (register_form_of shape other register))

-- ---- the commands that have the standard's forms

-- their forms are kept
pub kept_at : (e : EntryParts) (code : ℕ) → e.code ≡ code → is_fixed code ≡ true
    → (is_fixed e.code ≡ true → are_kept e.shape (standard_entry e.code) ≡ true)
    → are_kept e.shape (standard_entry code) ≡ true
kept_at e code same is fixed =
    let P : ℕ → Type 0 = λ c. is_fixed c ≡ true → are_kept e.shape (standard_entry c) ≡ true in
    let here : P code = subst P same fixed in
    here is

-- VOUT_MODE is written and read with one byte
-- 0x20 is VOUT_MODE
pub mode_kept : (s : Shape) → are_kept s (standard_entry 0x20) ≡ true → (is_kept s.write (Some One) ≡ true)
    × (is_kept s.read (Some One) ≡ true)
unfolding standard_entry standard_entries standard_rows
mode_kept s is =
    let parts = and_parts (is_kept s.write (Some One)) (is_kept s.read (Some One) && is_kept s.call None) is in
    (parts.0, (and_parts (is_kept s.read (Some One)) (is_kept s.call None) parts.1).0)

-- COEFFICIENTS is called with a block
-- 0x30 is COEFFICIENTS
pub coefficients_kept : (s : Shape) → are_kept s (standard_entry 0x30) ≡ true → is_kept s.call (Some Block) ≡ true
unfolding standard_entry standard_entries standard_rows
coefficients_kept s is =
    let parts = and_parts (is_kept s.write None) (is_kept s.read None && is_kept s.call (Some Block)) is in
    (and_parts (is_kept s.read None) (is_kept s.call (Some Block)) parts.1).1

-- a form that is kept is the standard's
pub kept_is : (o : Option Form) (form other : Form) → o ≡ Some form → is_kept o (Some other) ≡ true → form ≡ other
kept_is None form other is kept = absurd (cc is)
kept_is (Some f) form other is kept =
    let same : f ≡ form = same_Some f form is in
    sym same ∙ same_forms f other kept

-- so the register of VOUT_MODE has one byte
pub mode_register : (s : Shape) (form : Form) → are_kept s (standard_entry 0x20) ≡ true → register_form s ≡ Some form
    → form ≡ One
mode_register s form kept register = elim (register_form_of s form register) [
  | by_read is some ↦ kept_is s.read form One is (mode_kept s kept).1
  | by_write none is some ↦ kept_is s.write form One is (mode_kept s kept).0
]
