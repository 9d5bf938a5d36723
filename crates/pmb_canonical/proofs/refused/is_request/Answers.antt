use Rattle.pmb_canonical.proofs.Beginnings.{not_there}
use Rattle.pmb_canonical.proofs.Bodies.{asks_by_call, asks_by_code, asks_nothing}
use Rattle.pmb_canonical.proofs.refused.is_request.Goals as goal

pub returns-in_default : goal.returns-in_default
returns-in_default c =
    asks_nothing c.args.device.now c.args.bytes.now
    (λ some. not_there c.split_first.result (c.split_first.ensures.variant.1 some) c.in_default.not-Some)

pub returns-then-is_read : goal.returns-then-is_read
returns-then-is_read c =
    asks_by_code c.args.device.now c.in-Some.code.now c.in-Some.data.now c.args.bytes.now c.forms_of-forms.result
    c.in-Some.ensures.cases.0
    c.forms_of-forms.ensures c.is_read.result c.is_read.ensures c.if-is_read.true

pub returns : goal.returns
returns c =
    asks_by_call c.args.device.now c.in-Some.code.now c.in-Some.data.now c.args.bytes.now c.forms_of-forms.result
    c.in-Some.ensures.cases.0
    c.forms_of-forms.ensures c.is_read.result c.is_read.ensures c.if-is_read.false c.are_data.result c.are_data.ensures
