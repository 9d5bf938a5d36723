use Rattle.std.proofs.Common.{option_copied, subst, sym}
use Rattle.pmb_sample_fields.specs.Fields.{Record, mark_byte}
use Rattle.pmb_sample_fields.specs.machine.Left.{Takes, left}
use Rattle.pmb_sample_fields.proofs.LineLemmas.{plain_field}
use Rattle.pmb_sample_fields.proofs.fields.Fields.take_plain.Goals as goal

pub returns : goal.returns
returns c =
    subst (λ (r : Record). Takes r c.take.result (left c.take.new.self))
    (sym (plain_field (mark_byte c.args.self.now.mark) c.args.text.now c.split_at.result.0.now c.split_at.result.1.now
    (option_copied c.behind_mark.result) c.plain_length.result c.plain_length.ensures.value c.split_at.ensures.front
    c.split_at.ensures.back c.behind_mark.ensures)) c.take.ensures
