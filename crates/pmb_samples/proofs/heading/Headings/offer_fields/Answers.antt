use Rattle.std.proofs.Common.{ap, arith, length}
use Rattle.pmb_sample_fields.specs.Fields.{Begins, Record, mark_byte}
use Rattle.pmb_sample_fields.proofs.CountLemmas.{most_fields}
use Rattle.pmb_samples.proofs.heading.Headings.offer_fields.Goals as goal

pub overflow_add-place : goal.overflow_add-place
overflow_add-place c =
    let most = most_fields (mark_byte c.args.mark) Begins c.args.line.now in
    let one_more = ap (λ (r : Record). length r.fields) c.in-Field.ensures in
    omega (arith, most, one_more)
