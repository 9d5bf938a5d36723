use Rattle.std.proofs.Common.{arith, subst, sym}
use Rattle.pmb_leg.specs.machine.DataLeft.{Leaves}
use Rattle.pmb_leg.proofs.Replies.{code_on, left_on}
use Rattle.pmb_leg.proofs.answer.Answer.take.Goals as goal

pub invariant_of-self : goal.invariant_of-self
invariant_of-self c = record {
  before = c.self.invariant.before;
  code = c.self.invariant.code;
  alike = c.self.invariant.alike;
  crc = code_on c.self.inside c.self.invariant c.args.byte c.pec_next-self-inside.result c.push.new.self.items
      c.push.ensures.items c.pec_next-self-inside.ensures.goes_on;
  left = subst (Leaves c.self.inside.form c.self.inside.mode c.self.invariant.before c.push.new.self.items)
      (sym c.after-self-inside.ensures)
      (left_on c.self.inside c.self.invariant c.args.byte c.push.new.self.items (omega arith) c.push.ensures.items);
}
