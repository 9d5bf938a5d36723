-- A request that is allowed asks for one transaction, and is read in one number format. For the
-- laws `one_running` and `ended_lines_come_first`. Device and command are found by address and
-- code, and the format by the command and VOUT_MODE; a quantity has one nearest code.
use Rattle.std.proofs.Common.{◌≡◌, ℕ, Option, Some, None, Ok, List, refl, sym, ap, subst, ◌∙◌}
use Rattle.pmb_command.specs.Parts.{CommandParts, DeviceParts, command_with}
use Rattle.pmb_format.specs.Coding.{IsNearest}
use Rattle.pmb_quantity.specs.Fraction.{Fraction}
use Rattle.pmb_request.specs.Request.{Command, RequestData, WriteParts, ReadBytes, CallBytes, Set, Get}
use Rattle.pmb_value.specs.declared.number_format.NumberFormat.{NumberFormat}
use Rattle.pmb_value.specs.NumberFormat.{number_coding}
use Rattle.pmb_host.specs.Number.{number_of}
use Rattle.pmb_host.specs.Rules.{CanSet, HasNumber, IsAllowed}
use Rattle.pmb_host.specs.Task.{task_of}

-- two words and two formats of a request
pub record SameTask (request : RequestData) (word other : ℕ) (a b : Option NumberFormat) : Type 0 where
  pub task_is : task_of request word ≡ task_of request other
  pub number_is : a ≡ b

module _ (profile : List DeviceParts) where
  -- a command has one number format
  same_format : (c : Command) (mode : Option ℕ) (a b : NumberFormat) → HasNumber profile c mode a
      → HasNumber profile c mode b → a ≡ b
  same_format c mode a b has also =
      -- the device is one,
      let one = has.number_is in
      let other = also.number_is in
      let devices : Some one.device ≡ Some other.device = sym one.known ∙ other.known in
      let device : one.device ≡ other.device = cc devices in
      -- so is its command,
      let commands : Some one.command ≡ Some other.command = sym one.has
      ∙ ap (λ (d : DeviceParts). command_with c.code d.commands) device ∙ other.has in
      let command : one.command ≡ other.command = cc commands in
      -- and its format
      let same : Ok a ≡ Ok b =
      one.number_is ∙ ap (λ (d : DeviceParts). number_of d.vout_direct mode one.command.entry.kind) device
      ∙ ap (λ (it : CommandParts). number_of other.device.vout_direct mode it.entry.kind) command
      ∙ sym other.number_is in
      cc same

  -- a quantity is set by one word
  one_word : (c : Command) (value : Fraction) (mode : Option ℕ) (a b : ℕ) → CanSet profile c value mode a
      → CanSet profile c value mode b → a ≡ b
  one_word c value mode a b one other =
      let same = same_format c mode one.number other.number one.has other.has in
      other.only a (subst (λ (it : NumberFormat). IsNearest (number_coding it) value a) same one.nearest)

  pub one_task : (request : RequestData) (word other : ℕ) (a b : Option NumberFormat) → IsAllowed profile request word a
      → IsAllowed profile request other b → SameTask request word other a b
  one_task (WriteParts parts) word other a b one also = record { task_is = refl; number_is = one.1 ∙ sym also.1 }
  one_task (ReadBytes c) word other a b one also = record { task_is = refl; number_is = one.1 ∙ sym also.1 }
  one_task (CallBytes c bytes) word other a b one also = record { task_is = refl; number_is = one.1 ∙ sym also.1 }
  one_task (Set c value mode) word other a b one also = record {
    task_is = ap (task_of (Set c value mode)) (one_word c value mode word other one.0 also.0);
    number_is = one.1 ∙ sym also.1;
  }
  one_task (Get c mode) word other None b one also = absurd (one.2 refl)
  one_task (Get c mode) word other (Some a) None one also = absurd (also.2 refl)
  one_task (Get c mode) word other (Some a) (Some b) one also =
      record { task_is = refl; number_is = ap Some (same_format c mode a b one.1 also.1) }
