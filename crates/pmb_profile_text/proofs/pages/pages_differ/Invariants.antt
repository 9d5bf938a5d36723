use Rattle.std.proofs.Common.{◌≡◌, Some, bytes_eq, false, not}
use Rattle.std.specs.List.{list_any, range_with_len}
use Rattle.pmb_command.specs.Parts.{CommandParts, command_with}
use Rattle.pmb_registers.specs.State.{first_bytes}
use Rattle.pmb_profile_text.proofs.pages.pages_differ.Given as goal

-- no page so far begins otherwise than page 0
abbrev pub invariant-loop-page : goal.invariant-loop-page
invariant-loop-page l = (command : CommandParts) → command_with l.code l.device.commands ≡ Some command
    → list_any
    (λ page. not (bytes_eq (first_bytes l.device page command l.form) (first_bytes l.device 0 command l.form)))
    (range_with_len 0 l.page) ≡ false
