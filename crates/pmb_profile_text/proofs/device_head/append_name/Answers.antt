use Rattle.std.proofs.Common.{◌≤◌, ℕ, List, Option, length, subst, sym}
use Rattle.std.specs.Prelude.{IfSome}
use Rattle.pmb_command.specs.Names.{IsDeviceName}
use Rattle.pmb_profile_text.proofs.device_head.append_name.Goals as goal

-- a name has 32 characters at most
pub append_field-requires-clause-value : goal.append_field-requires-clause-value
append_field-requires-clause-value c =
    let named = subst (λ (name : Option (List ℕ)). IfSome name IsDeviceName) (sym c.in-Some.ensures)
    c.accepted_device.ensures.name in
    subst (λ (bytes : List ℕ). length bytes ≤ 32) (sym c.as_bytes.ensures.value) named.most
