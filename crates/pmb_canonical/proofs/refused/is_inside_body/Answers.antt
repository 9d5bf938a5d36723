use Rattle.std.proofs.Common.{arith}
use Rattle.pmb_canonical.proofs.Beginnings.{not_there}
use Rattle.pmb_canonical.proofs.Bodies.{goes_on_by_call, goes_on_by_write, goes_on_from_start, goes_on_no_more}
use Rattle.pmb_canonical.proofs.refused.is_inside_body.Goals as goal

pub returns-in_default : goal.returns-in_default
returns-in_default c parts many =
    goes_on_from_start c.args.device.now parts c.args.bytes.now
    (λ some. not_there c.split_first.result (c.split_first.ensures.variant.1 some) c.in_default.not-Some)

pub returns-then-go_on : goal.returns-then-go_on
returns-then-go_on c parts many =
    goes_on_by_write c.args.device.now c.in-Some.code.now c.in-Some.data.now c.args.bytes.now c.forms_of-forms.result
    c.pec.result c.in-Some.ensures.cases.0
    c.forms_of-forms.ensures c.pec.ensures c.go_on.result (c.go_on.ensures _) parts c.if-go_on.true

pub returns-then-before-gt0 : goal.returns-then-before-gt0
returns-then-before-gt0 c parts many =
    goes_on_no_more c.args.device.now c.in-Some.code.now c.in-Some.data.now c.args.bytes.now c.forms_of-forms.result
    c.pec.result c.in-Some.ensures.cases.0
    c.forms_of-forms.ensures c.pec.ensures c.go_on.result (c.go_on.ensures _) c.if-go_on.false parts
    (omega (arith, many, c.if-before-gt0.true))

pub returns : goal.returns
returns c parts many =
    goes_on_by_call c.args.device.now c.in-Some.code.now c.in-Some.data.now c.args.bytes.now c.forms_of-forms.result
    c.pec.result c.in-Some.ensures.cases.0
    c.forms_of-forms.ensures c.pec.ensures c.go_on.result (c.go_on.ensures _) c.if-go_on.false c.go_on-2.result
    (c.go_on-2.ensures _)
    parts (omega (arith, many, c.if-before-gt0.false))
