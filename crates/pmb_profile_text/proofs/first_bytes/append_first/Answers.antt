use Rattle.std.proofs.Common.{◌≡◌, ◌∙◌, ℕ, List, ◌++◌, Option, Some, ap, sym}
use Rattle.pmb_command.specs.declared.form.Form.{Form}
use Rattle.pmb_command.specs.Fitting.{register_form}
use Rattle.pmb_profile_text.specs.Table.{first_word}
use Rattle.pmb_profile_text.specs.Words.{bytes_word}
use Rattle.pmb_profile_text.proofs.first_bytes.append_first.Goals as goal

pub returns-in-Some-clause-text : goal.returns-in-Some-clause-text
returns-in-Some-clause-text c = λ command is same.
    let row = c.args.row.now.items in
    let device = c.args.device.now in
    let formed : register_form command.entry.shape ≡ Some c.in-Some.form = ap register_form same
    ∙ (sym c.register_form.ensures ∙ c.in-Some.is) in
    c.append_bytes.ensures.text
    ∙ ap (λ (bytes : List ℕ). row ++ bytes_word bytes)
    (c.as_slice.ensures.value ∙ c.first_bytes.ensures.command command is)
    ∙ ap (λ (form : Option Form). row ++ first_word device c.args.page command form) (sym formed)
