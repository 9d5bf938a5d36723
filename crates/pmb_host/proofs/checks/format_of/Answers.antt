use Rattle.std.proofs.Common.{rules, ◌≡◌, List, Bool, Option, sym, ap, ◌∙◌}
use Rattle.std.specs.Prelude.{Err, ◌≢◌}
use Rattle.pmb_coefficients.specs.Coefficients.{Coefficients}
use Rattle.pmb_command.specs.Entry.{EntryParts, entry_parts}
use Rattle.pmb_command.specs.PecMode.{AllowsPec}
use Rattle.pmb_command.specs.Parts.{DeviceParts}
use Rattle.pmb_writer.specs.Invalid.{keeps_mode}
use Rattle.pmb_host.specs.declared.step.HostFault.TheVariants.{NotAQuantity}
use Rattle.pmb_request.specs.Request.{Command}
use Rattle.pmb_host.specs.Number.{number_of}
use Rattle.pmb_host.specs.machine.Checks.{Finds}
use Rattle.pmb_host.specs.Rules.{wrong_pec}
use Rattle.pmb_host.proofs.checks.format_of.Goals as goal

-- a packet error code that the device doesn't allow breaks the rule of its mode
breaks_mode : (profile : List DeviceParts) (command : Command) (device : DeviceParts) (entry : EntryParts) (pec : Bool)
    → Finds profile command.addr command.code device entry → command.pec ≡ pec → (AllowsPec device.pec pec → ⊥)
    → (keeps_mode profile command.addr command.pec).need → ⊥
breaks_mode profile command device entry pec finds same not_allowed kept =
    not_allowed (rw same at (rw finds.known at kept))

pub returns-in-Err : goal.returns-in-Err
returns-in-Err c profile command finds same =
    let number_is = c.number_of-number.ensures
    ∙ ap (λ (vout : Option Coefficients). number_of vout c.args.mode c.args.entry.now.kind) c.vout_direct.ensures
    ∙ ap (λ (e : EntryParts). number_of c.args.device.now.vout_direct c.args.mode e.kind) (sym finds.entry_is) in
    let some_number : c.number_of-number.result ≢ Err NotAQuantity = search rules in
    wrong_pec c.number_of-number.result
    (record {
      device = c.args.device.now;
      command = finds.command;
      known = finds.known;
      has = finds.has;
      number_is = number_is;
    })
    some_number
    (breaks_mode profile command c.args.device.now (entry_parts c.args.entry.now) c.args.pec finds same (search rules))
    (search rules)
