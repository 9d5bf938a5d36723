use Rattle.std.proofs.Common.{rules, ◌≡◌, List, refl}
use Rattle.std.specs.Prelude.{Some}
use Rattle.pmb_command.specs.declared.form.Form.{Form}
use Rattle.pmb_command.specs.Entry.{EntryParts}
use Rattle.pmb_command.specs.Parts.{DeviceParts}
use Rattle.pmb_writer.specs.Invalid.{forms_at}
use Rattle.pmb_request.specs.Request.{Command}
use Rattle.pmb_host.specs.machine.Checks.{Finds, HasReply}
use Rattle.pmb_host.specs.Rules.{get_rules, no_number}
use Rattle.pmb_host.proofs.checks.check_get.Goals as goal

-- a command that is found, and read in some form, keeps the rules, and that is its reply's form
has_reply : (profile : List DeviceParts) (command : Command) (device : DeviceParts) (entry : EntryParts) (form : Form)
    → Finds profile command.addr command.code device entry → entry.shape.read ≡ Some form
    → HasReply (get_rules profile command) (forms_at profile command.addr command.code).read form
has_reply profile command device entry form finds read = record {
  kept = rw (finds.known, finds.has, finds.entry_is, read) (search rules);
  form_is = rw (finds.known, finds.has, finds.entry_is, read) refl;
}

pub returns-in-Ok-format_of : goal.returns-in-Ok-format_of
returns-in-Ok-format_of c =
    let command : Command = record { addr = c.args.addr; code = c.args.code; pec = c.args.pec } in
    record {
      reply = has_reply c.args.profile.now command _ _ c.in-Some.form c.in-Ok.ensures c.in-Some.is;
      has = c.in-Ok-format_of.ensures c.args.profile.now command c.in-Ok.ensures refl;
    }

pub returns-in-Err-format_of : goal.returns-in-Err-format_of
returns-in-Err-format_of c =
    let command : Command = record { addr = c.args.addr; code = c.args.code; pec = c.args.pec } in
    no_number (has_reply c.args.profile.now command _ _ c.in-Some.form c.in-Ok.ensures c.in-Some.is).kept
    (c.in-Err-format_of.ensures c.args.profile.now command c.in-Ok.ensures refl)
