use Rattle.std.proofs.Common.{sym, ap, ◌∙◌, arith}
use Rattle.pmb_leg.specs.Leg.{Written}
use Rattle.pmb_leg.specs.machine.Legs.{kept}
use Rattle.pmb_leg.proofs.Legs.{is_empty, tells_takes, tells_code}
use Rattle.pmb_leg.proofs.written_leg.WrittenLeg.begins.Goals as goal

pub returns-then-is_empty : goal.returns-then-is_empty
returns-then-is_empty c parts here =
    rw (← c.self.view_is, c.begins_with.ensures, c.forms_of.ensures.forms)
    (tells_code c.self.inside.device.now c.self.inside.place c.self.inside.bytes.items
    (is_empty c.self.inside.bytes.items (sym c.is_empty.ensures ∙ c.if-is_empty.true)) parts
    (here ∙ sym (ap (λ (leg : Written). leg.place) c.self.view_is)) c.args.byte)

pub returns-else-is_empty : goal.returns-else-is_empty
returns-else-is_empty c parts here =
    rw (← c.self.view_is, c.one_takes.ensures)
    (tells_takes (kept c.self.inside) c.self.inside.bytes.items c.self.invariant
    (sym c.is_empty.ensures ∙ c.if-is_empty.false) parts
    (here ∙ sym (ap (λ (leg : Written). leg.place) c.self.view_is)) c.args.byte (omega arith))
