use Rattle.std.proofs.Common.{Ok, sym, ap, ◌∙◌}
use Rattle.pmb_quantity.specs.Quantity.{negated}
use Rattle.pmb_quantity.proofs.ReadingLemmas.{reading-none, reading-minus, reading-plus}
use Rattle.pmb_quantity.proofs.quantity.Quantity.parse.Goals as goal

pub returns-in_default : goal.returns-in_default
returns-in_default c = sym (reading-none c.args.text.now c.in_default.ensures.cases)

pub returns-in-Ok : goal.returns-in-Ok
returns-in-Ok c =
    ap Ok c.negated.ensures ∙ ap negated (sym c.in-Ok.is ∙ c.magnitude_of.ensures)
    ∙ sym (reading-minus c.args.text.now c.in-Some.first.now c.in-Some.rest.now c.in-Some.ensures.cases.0
    c.if-first-eq45.true)

pub returns-in-Err : goal.returns-in-Err
returns-in-Err c =
    ap negated (sym c.in-Err.is ∙ c.magnitude_of.ensures)
    ∙ sym (reading-minus c.args.text.now c.in-Some.first.now c.in-Some.rest.now c.in-Some.ensures.cases.0
    c.if-first-eq45.true)

pub returns-else-first-eq45 : goal.returns-else-first-eq45
returns-else-first-eq45 c =
    c.magnitude_of-else-first-eq45.ensures ∙ sym
    (reading-plus c.args.text.now c.in-Some.first.now c.in-Some.rest.now c.in-Some.ensures.cases.0
    c.if-first-eq45.false)
