-- What the checks of a request find.
use Rattle.std.specs.Prelude.{◌≡◌, ℕ, Option, Some, List, [], ◌∷◌}
use Rattle.pmb_command.specs.declared.form.Form.{Form}
use Rattle.pmb_command.specs.Entry.{EntryParts}
use Rattle.pmb_command.specs.Parts.{CommandParts, DeviceParts, command_with, device_with}
use Rattle.pmb_writer.specs.Invalid.{AreKept, Rule, forms_at, has_command, has_device}
use Rattle.pmb_value.specs.declared.number_format.NumberFormat.{NumberFormat}
use Rattle.pmb_request.specs.Request.{Command}
use Rattle.pmb_host.specs.Rules.{HasNumber, get_rules}

-- a device with the address is known, and a command of it with the code
abbrev pub command_rules : List DeviceParts → ℕ → ℕ → List Rule
command_rules profile addr code = has_device profile addr ∷ has_command profile addr code ∷ []

-- these are they
pub record Finds (profile : List DeviceParts) (addr code : ℕ) (device : DeviceParts) (entry : EntryParts) : Type 0 where
  pub command : CommandParts
  pub known : device_with addr profile ≡ Some device
  pub has : command_with code device.commands ≡ Some command
  pub entry_is : command.entry ≡ entry

-- All rules are kept, and the reply is of this form.
pub record HasReply (rules : List Rule) (reply : Option Form) (form : Form) : Type 0 where
  pub kept : AreKept rules
  pub form_is : reply ≡ Some form

-- A quantity can be read: in this number format, from a reply of this form.
pub record CanGet (profile : List DeviceParts) (c : Command) (mode : Option ℕ) (number : NumberFormat)
    (form : Form) : Type 0 where
  pub reply : HasReply (get_rules profile c) (forms_at profile c.addr c.code).read form
  pub has : HasNumber profile c mode number
