use Rattle.std.proofs.Common.{◌∙◌, ap, sym}
use Rattle.pmb_writer.specs.machine.Legs.{LegData, code_on, leg_data, with_code}
use Rattle.pmb_writer.proofs.LegBytes.{code_on-next, with_code-next, with_code-end}
use Rattle.pmb_writer.proofs.leg.Leg.next_byte.Goals as goal

pub returns-in-Some-clause-bytes : goal.returns-in-Some-clause-bytes
returns-in-Some-clause-bytes c =
    let left : LegData = leg_data c.next_plain.new.self in
    ap (λ l. with_code l.pec c.args.crc.now l.bytes) c.in-Some.ensures
    ∙ with_code-next left.pec c.args.crc.now c.in-Some.byte c.pec_next.result left.bytes c.pec_next.ensures.step

pub returns-in-Some-clause-covered : goal.returns-in-Some-clause-covered
returns-in-Some-clause-covered c =
    let left : LegData = leg_data c.next_plain.new.self in
    sym (ap (λ l. code_on c.args.crc.now l.bytes) c.in-Some.ensures
    ∙ code_on-next c.args.crc.now c.in-Some.byte c.pec_next.result left.bytes c.pec_next.ensures.step)

pub returns-then-self-clause-bytes : goal.returns-then-self-clause-bytes
returns-then-self-clause-bytes c =
    let old : LegData = leg_data c.args.self.now in
    let left : LegData = leg_data c.next_plain.new.self in
    with_code-end old.pec c.args.crc.now old.bytes left.bytes
    (ap (λ l. l.pec) (sym c.in_default.ensures.1) ∙ c.if-self.true) c.in_default.ensures.0
    (ap (λ l. l.bytes) c.in_default.ensures.1 ∙ c.in_default.ensures.0)
