-- Data that are no text have no member.
use Rattle.std.proofs.Common.{◌∙◌, Option, ap}
use Rattle.pmb_command.specs.declared.form.Form.{Form}
use Rattle.pmb_keys.specs.CommandView.{command_parts}
use Rattle.pmb_command_data.specs.Text.{text_of}
use Rattle.pmb_json_fields.specs.Value.{text_members}
use Rattle.pmb_json_fields.proofs.Pieces.{called, nothing}
use Rattle.pmb_json_fields.proofs.text.append_data_text.Goals as goal

pub returns-in-None : goal.returns-in-None
returns-in-None g c =
    called (ap text_members (c.in-None.ensures.text
    ∙ ap (λ (form : Option Form). text_of (command_parts c.args.command.now).entry form c.args.bytes.now)
    c.form.ensures)) (nothing 1552 c.args.out.now.items)
