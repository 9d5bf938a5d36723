use Rattle.std.proofs.Common.{◌∙◌, Option, ap, sym}
use Rattle.pmb_command.specs.declared.form.Form.{Form}
use Rattle.pmb_leg.specs.machine.DataLeft.{start}
use Rattle.pmb_leg.proofs.Lefts.{starts_data, starts_whole}
use Rattle.pmb_leg.proofs.left.DataLeft.start.Goals as goal

pub returns-in-Some-eq0 : goal.returns-in-Some-eq0
returns-in-Some-eq0 c =
    c.behind_data.ensures
    ∙ starts_whole c.in-Some.form c.args.mode c.in-Some-eq0.field-0 c.in-Some-eq0.ensures.only
    c.in-Some-eq0.field-0-test
    ∙ ap (λ (f : Option Form). start f c.args.mode) (sym c.in-Some.is)

pub returns-in-Some-length : goal.returns-in-Some-length
returns-in-Some-length c =
    starts_data c.in-Some.form c.args.mode c.in-Some-length.length c.in-Some-length.ensures.only
    c.in-Some-length.length-test.1
    ∙ ap (λ (f : Option Form). start f c.args.mode) (sym c.in-Some.is)
