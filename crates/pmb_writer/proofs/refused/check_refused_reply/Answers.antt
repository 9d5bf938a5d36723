use Rattle.std.proofs.Common.{◌∙◌, ◌∷◌, true, map, refl, sym, subst, arith}
use Rattle.pmb_command.specs.Wire.{AreByteValues}
use Rattle.pmb_transaction.specs.Transaction.{part_data}
use Rattle.pmb_writer.specs.Invalid.{AreKept, refused_leg_rules}
use Rattle.pmb_writer.proofs.Bodies.{no_parts}
use Rattle.pmb_writer.proofs.RefusedLegs.{Found, reply_is_refused, small_items}
use Rattle.pmb_writer.proofs.refused.check_refused_reply.Goals as goal
use Rattle.pmb_writer.proofs.refused.check_refused_reply.Goals.{In-Some-forms_of}

found : (c : In-Some-forms_of) → Found c.args.profile.now c.args.address c.in-Some-split_first.code.now
    c.in-Some.device.now c.in-Some-forms_of.forms
found c = record {
  known = c.in-Some.ensures.device;
  command = c.in-Some-forms_of.ensures.known.0 refl;
  shape_is =
      c.in-Some-forms_of.ensures.forms;
}

pub returns : goal.returns
returns c =
    let k = (goal.at.returns c).In-Some-forms_of in
    let small : AreByteValues (c.in-Some-split_first.code.now ∷ c.in-Some-split_first.bytes.now) =
    subst AreByteValues c.in-Some-split_first.ensures.cases.0
    (small_items c.args.sent.now (λ k. omega (arith, c.type_inv.sent k))) in
    subst (λ sent. AreKept (refused_leg_rules c.args.profile.now (map part_data c.args.parts.now) c.args.address sent
    true)) (sym c.in-Some-split_first.ensures.cases.0)
    (reply_is_refused c.args.profile.now (map part_data c.args.parts.now) c.args.address c.in-Some-split_first.code.now
    c.in-Some.device.now c.in-Some-forms_of.forms (found k)
    c.in-Some-split_first.bytes.now (no_parts c.args.parts.now (sym c.is_empty.ensures ∙ c.if-not-is_empty.false))
    small.1 (c.is_asked.ensures.0 c.if-not-is_asked.false)
    (sym c.is_request.ensures ∙ c.if-not-is_request.false))
